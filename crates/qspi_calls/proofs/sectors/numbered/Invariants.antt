use Rattle.qspi_calls.proofs.ListLoops.{Written}
use Rattle.qspi_calls.proofs.sectors.numbered.Given as goal

abbrev pub invariant-loop-at : goal.invariant-loop-at
invariant-loop-at l = Written l.list l.at l.numbers
