use Rattle.std.proofs.Common.{◌≡◌, ◌-◌, ◌≤◌, length}
use Rattle.access_log.specs.Log.{entry_at}
use Rattle.access_log.specs.Reader.{first_other, accesses_in}
use Rattle.access_log.proofs.reader.accesses.Given as goal

-- The reader stands behind the accesses that are counted, and the rest of the log has the others.
abbrev pub invariant-loop : goal.invariant-loop
invariant-loop l = record {
  log : l.reader.log.now ≡ l.log;
  within : l.reader.at ≤ length l.log;
  left : first_other (length l.log - l.reader.at) (entry_at l.log) l.reader.at ≡ accesses_in l.log;
}

abbrev pub decreases-loop : goal.decreases-loop
decreases-loop l = length l.log - l.reader.at
