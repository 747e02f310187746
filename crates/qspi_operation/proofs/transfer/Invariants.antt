use Rattle.qspi_operation.specs.Run.{fuel}
use Rattle.qspi_operation.proofs.Passes.{Underway}
use Rattle.qspi_operation.proofs.transfer.Given as goal

abbrev pub invariant-loop-passed : goal.invariant-loop-passed
invariant-loop-passed l = Underway l.fn.op l.«data» l.replies l.initial.buffer l.initial.log l.o l.buffer l.log

abbrev pub decreases-loop-passed : goal.decreases-loop-passed
decreases-loop-passed l = fuel l.o l.log
