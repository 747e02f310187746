use Rattle.std.proofs.Common.{◌-◌, ◌≡◌}
use Rattle.simulated_device.specs.Simulated.{done_from}
use Rattle.simulated_device.proofs.work.done.Given as goal

abbrev pub invariant-loop-i : goal.invariant-loop-i
invariant-loop-i l =
    done_from l.w.size 0 l.w.effect l.at l.bytes l.sent l.initial.array ≡ done_from (l.w.size - l.i) l.i l.w.effect l.at l.bytes l.sent l.array
