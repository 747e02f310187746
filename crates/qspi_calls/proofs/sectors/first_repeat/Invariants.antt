use Rattle.qspi_calls.proofs.ListLoops.{Distinct}
use Rattle.qspi_calls.proofs.sectors.first_repeat.Given as goal

abbrev pub invariant-loop-at : goal.invariant-loop-at
invariant-loop-at l = Distinct l.list l.at
