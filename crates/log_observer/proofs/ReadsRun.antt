-- Reading the log that a run wrote gives that run's accesses, place by place, and behind them the used words end. It holds of every script
-- whose writes go to registers, so of every call (`calls_on_registers`). Assumes nothing.
use Rattle.std.specs.Prelude.{Some, None, Ok}
use Rattle.std.proofs.Common.{◌≡◌, ℕ, ◌*◌, ◌<◌, ◌≤◌, List, [], length, get_or, take, drop, append-nil, arith}
use Rattle.zynq7000.specs.Access.{encode}
use Rattle.zynq7000.specs.declared.qspi.Access.{Access}
use Rattle.access_log.specs.Log.{entry_at}
use Rattle.access_log.proofs.Places.{at_end}
use Rattle.access_log.specs.Reader.{next_of, read_times, accesses_in}
use Rattle.access_log.specs.declared.reader.LogReader.{LogReader}
use Rattle.access_log.proofs.RoundTrip.{reads_back}
use Rattle.access_log.proofs.Leading.{accesses_written}
use Rattle.access_log.proofs.Reading.{reader_reads_back}
use Rattle.qspi_operation.specs.Machine.{Script, Result, called}
use Rattle.zynq7000.proofs.AccessLaws.{length_encode}
use Rattle.qspi_calls.proofs.Registers.{OnRegisters, runs_on_registers}
use Rattle.qspi_calls.specs.Promise.{ran_of, logged_of}
use Rattle.power_cut.proofs.Offsets.{used_words}

module _ {s : Script} (p : OnRegisters s) (room : ℕ) (replies log : List ℕ) where
  abbrev result : Result
  result = called s room replies

  -- THEOREM. At each place below the number of accesses, the lent log has the run's access of that place.
  pub run_reads_back : (d : Access) (k : ℕ) → k < length result.log → entry_at (logged_of result log) k ≡ Some (Ok (get_or result.log k d))
  run_reads_back d k h = reads_back d (drop (2 * length result.log) log) result.log k (runs_on_registers p room replies) h

  -- THEOREM. The used words alone have it too.
  pub used_reads_back : (d : Access) (k : ℕ) → k < length result.log → entry_at (take (ran_of result).used (logged_of result log)) k ≡ Some (Ok (get_or result.log k d))
  used_reads_back d k h = rw (used_words result log) (rw append-nil at (reads_back d [] result.log k (runs_on_registers p room replies) h))

  -- THEOREM. From the place behind the last access on, the used words alone are at their end.
  pub run_reads_end : (k : ℕ) → length result.log ≤ k → entry_at (take (ran_of result).used (logged_of result log)) k ≡ None
  run_reads_end k h = rw (used_words result log) (at_end (encode result.log) k (omega (arith, length_encode result.log)))

  -- a reader at the start of the lent log
  module _ (d : Access) (r : LogReader) (is : r.log.now ≡ logged_of result log) (from : r.at ≡ 0) where
    -- THEOREM. It gives the run's accesses in order, the k-th from the place k.
    pub run_read : (k : ℕ) → k < length result.log → (next_of (read_times k r) ≡ Some (Ok (get_or result.log k d))) × ((read_times k r).at ≡ k)
    run_read = reader_reads_back d (drop (2 * length result.log) log) result.log (runs_on_registers p room replies) r is from

  -- THEOREM. The used words have as many accesses as the run made.
  pub run_accesses : accesses_in (take (ran_of result).used (logged_of result log)) ≡ length result.log
  run_accesses = rw (used_words result log) (accesses_written result.log (runs_on_registers p room replies))
