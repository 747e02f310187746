-- The watch of a run's log, and of a row of them, shows what the power-cut statement speaks of, at every cut point, and a run's counts are exact. Assumes nothing.
use Rattle.std.proofs.Common.{◌≡◌, ℕ, ◌^◌, ◌<◌, ◌≤◌, List, [], ◌++◌, length, take, arith}
use Rattle.zynq7000.specs.Access.{encode}
use Rattle.qspi_operation.specs.Machine.{begin, called, Makes}
use Rattle.qspi_operation.proofs.Orders.{run_ended}
use Rattle.qspi_calls.specs.Calls.{write_pages}
use Rattle.qspi_calls.proofs.Registers.{write_pages_call, run_loggable}
use Rattle.qspi_calls.proofs.WireOrder.{AllBytes}
use Rattle.power_cut.specs.Observer.{Observed, observed}
use Rattle.power_cut.specs.Statement.{total, Save, row_log}
use Rattle.power_cut.specs.Row.{Row}
use Rattle.power_cut.proofs.Few.{shown_few, finished_few}
use Rattle.power_cut.proofs.Rows.{row_to_registers}
use Rattle.power_cut.proofs.Theorem.{follows_take}
use Rattle.log_observer.specs.Watching.{watch_of}
use Rattle.log_observer.specs.Shown.{shown}
use Rattle.log_observer.proofs.Shows.{shows_cut}

-- THEOREM.
pub shows_run : (a : ℕ) (bs : List ℕ) (room : ℕ) (replies rest : List ℕ) (k : ℕ) → k ≤ length (called (write_pages a bs) room replies).log → k < 2 ^ 30
    → watch_of (encode (called (write_pages a bs) room replies).log ++ rest) k ≡ shown (observed (take k (called (write_pages a bs) room replies).log))
shows_run a bs room rs rest k h few = shows_cut k (called (write_pages a bs) room rs).log rest h (run_loggable (write_pages_call a bs) room rs) few

-- THEOREM. Of the logs of a row of saves, one behind the other.
pub shows_row : {row : List Save} → Row row → (rest : List ℕ) (k : ℕ) → k ≤ length (row_log row) → k < 2 ^ 30 → watch_of (encode (row_log row) ++ rest) k ≡ shown (observed (take k (row_log row)))
shows_row {row} r rest k h few = shows_cut k (row_log row) rest h (row_to_registers r) few

-- THEOREM. No count is past 2^32, so that none is cut off.
pub record Exact (o : Observed) : Type 0 where
  pub finished : (shown o).finished ≡ length o.finished
  pub bytes : (shown o).bytes ≡ total o.finished

pub exact_run : (a : ℕ) (bs : List ℕ) → AllBytes bs → length bs < 2 ^ 32 → (room : ℕ) (replies : List ℕ) (k : ℕ) → Exact (observed (take k (called (write_pages a bs) room replies).log))
exact_run a bs h few room rs k =
    let r = called (write_pages a bs) room rs in
    let f : Makes (begin (write_pages a bs) [] 0) (take k r.log) = follows_take k (begin (write_pages a bs) [] 0) r.log (run_ended room (begin (write_pages a bs) [] 0) rs).makes in
    let m = shown_few a bs h (take k r.log) f in
    let n = finished_few a bs h (take k r.log) f in
    record { finished = omega (arith, m, n, few); bytes = omega (arith, m, few) }
