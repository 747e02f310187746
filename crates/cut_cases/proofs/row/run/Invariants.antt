use Rattle.std.proofs.Common.{◌≡◌, ◌≤◌, length}
use Rattle.cut_cases.proofs.row.run.Given as goal

abbrev pub invariant-loop-call : goal.invariant-loop-call
invariant-loop-call l = (length l.log ≡ length l.initial.log) × (l.made.used ≤ length l.initial.log)
