use mathlib.Core.Path.{sym, ◌∙◌}
use Rattle.simulated_device.proofs.Steps.{one_done, all_done}
use Rattle.simulated_device.proofs.work.done.Goals as goal

pub loop-i-preserved : goal.loop-i-preserved
loop-i-preserved c =
    let x = c.args in
    let l = c.loop-i in
    rw c.done_byte.ensures.byte (l.invariant ∙ one_done x.w.effect x.at x.bytes x.sent.now x.w.size l.i l.array c.loop-i-test.true)

pub returns : goal.returns
returns c =
    let x = c.args in
    let l = c.loop-i in
    record { array = sym (l.invariant ∙ all_done x.w.effect x.at x.bytes x.sent.now x.w.size l.i l.array c.loop-i-test.false) }
