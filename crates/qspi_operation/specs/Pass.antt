-- One pass of a run's loop over the accesses of a transfer: what it leaves of the transfer, and the step that it stands for. No public
-- contract speaks of it: it is for those of the private functions that `run` is made of.
use Rattle.std.specs.Prelude.{◌≡◌, ℕ, ◌<◌, Bool, true, false, List, length, Result, Ok, Err}
use Rattle.qspi_script.specs.declared.Status.TheVariants as status
use Rattle.qspi_script.specs.declared.Status.TheVariants.{Going}
use Rattle.qspi_operation.specs.declared.Accessed.{Accessed}
use Rattle.qspi_operation.specs.declared.NoAccess.{NoAccess}
use Rattle.qspi_operation.specs.declared.NoAccess.TheVariants.{LentLengthChanged, LogFull, RepliesEnded}
use Rattle.qspi_operation.specs.declared.Op.{Op}
use Rattle.qspi_operation.specs.declared.Passed.{Passed}
use Rattle.qspi_operation.specs.declared.Stepped.{Stepped}
use Rattle.qspi_operation.specs.Step.{Verdict, Changed, Full, Dry, Made, is_going, stopped, moved_by}
use Rattle.qspi_operation.specs.Run.{run_at, fuel}

-- the verdict on an operation that is going on, as the code has it
abbrev pub verdict_on : Result Accessed NoAccess → Verdict
verdict_on (Ok a) = Made a.first a.value a.read
verdict_on (Err LentLengthChanged) = Changed
verdict_on (Err LogFull) = Full
verdict_on (Err RepliesEnded) = Dry

-- a step that makes no access
abbrev pub refused : NoAccess → Op → Stepped
refused LentLengthChanged o = record { op = o; answer = status.LentLengthChanged }
refused LogFull o = stopped o status.LogFull
refused RepliesEnded o = stopped o status.RepliesEnded

-- the step that a pass stands for
abbrev pub stands_for : Result Passed NoAccess → Op → Stepped
stands_for (Ok x) o = moved_by x.wire o x.used x.replies
stands_for (Err e) o = refused e o

-- how many steps are left, 0 once it has ended
abbrev pub left : Bool → ℕ → ℕ
left true n = n
left false n = 0

-- a part of a run: from where it leads the run is the same, and it has fewer steps left
pub record Onward (o : Op) (bytes replies buffer log : List ℕ) (s : Stepped) (buffer₁ log₁ : List ℕ) : Type 0 where
  pub same : run_at (fuel o log) true Going o bytes replies buffer log ≡ run_at (fuel s.op log₁) (is_going s.answer) s.answer s.op bytes replies buffer₁ log₁
  pub fewer : left (is_going s.answer) (fuel s.op log₁) < fuel o log
  pub long : length log₁ ≡ length log
  pub wide : length buffer₁ ≡ length buffer
  pub status : is_going s.answer ≡ true → s.op.status ≡ Going
