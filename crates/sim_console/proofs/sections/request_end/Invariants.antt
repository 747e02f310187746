use Rattle.std.proofs.Common.{◌+◌, ◌≤◌, ◌≡◌, length, false}
use Rattle.std.specs.Slice.Iter.{split_rest, split_done}
use Rattle.sim_console.proofs.sections.request_end.Given as goal

abbrev pub invariant-loop-line : goal.invariant-loop-line
invariant-loop-line l =
    (goal.iterator-loop-line).can_next l.line-iterator ×
    (goal.iterator-loop-line).is_finite l.line-iterator ×
    (l.from ≤ l.end) ×
    (split_done l.line-iterator ≡ false → l.end + length (split_rest l.line-iterator) ≡ length l.input)
