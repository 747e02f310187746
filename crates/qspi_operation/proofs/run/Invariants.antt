use Rattle.std.proofs.Common.{◌≡◌, length, true}
use Rattle.qspi_script.specs.declared.Status.TheVariants.{Going}
use Rattle.qspi_operation.specs.Step.{is_going}
use Rattle.qspi_operation.specs.Pass.{left}
use Rattle.qspi_operation.specs.Run.{run_at, fuel}
use Rattle.qspi_operation.proofs.run.Given as goal

abbrev pub invariant-loop-answer : goal.invariant-loop-answer
invariant-loop-answer l =
    (run_at (fuel l.initial.o l.initial.log) (is_going l.initial.answer) l.initial.answer l.initial.o l.«data» l.replies l.initial.buffer l.initial.log ≡ run_at (fuel l.o l.log) (is_going l.answer) l.answer l.o l.«data» l.replies l.buffer l.log) × ((length l.log ≡ length l.initial.log) × ((length l.buffer ≡ length l.initial.buffer) × (is_going l.answer ≡ true → l.o.status ≡ Going)))

abbrev pub decreases-loop-answer : goal.decreases-loop-answer
decreases-loop-answer l = left (is_going l.answer) (fuel l.o l.log)
