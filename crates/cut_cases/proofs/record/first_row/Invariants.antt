use Rattle.std.proofs.Common.{◌<◌, length}
use Rattle.cut_cases.proofs.record.first_row.Given as goal

abbrev pub invariant-loop : goal.invariant-loop
invariant-loop l = length l.behind < length l.rest
