use Rattle.simulated_device.specs.Simulated.{sim_of}
use mathlib.Core.Path.{refl, ◌∙◌}
use Rattle.simulated_device.proofs.Steps.{writes_config, writes_word, as_after}
use Rattle.simulated_device.proofs.write.Goals as goal

pub returns-then-offset-eq-CONFIG : goal.returns-then-offset-eq-CONFIG
returns-then-offset-eq-CONFIG c =
    let x = c.args in
    let s = sim_of x.d x.sent.now x.received.now x.array.now in
    let passes = c.pass-x.ensures in
    let after = as_after (writes_config s x.offset x.value (passes.device, passes.received) c.if-offset-eq-CONFIG.true) (c.configure.ensures.written, (refl, (refl, c.configure.ensures.array))) in
    record { written = after.0; sent = after.1.0; received = after.1.1.0; array = after.1.1.1 }

pub returns : goal.returns
returns c =
    let x = c.args in
    let s = sim_of x.d x.sent.now x.received.now x.array.now in
    let passes = c.pass-x.ensures in
    let after = as_after (writes_word s x.offset x.value (passes.device, passes.received) c.if-offset-eq-CONFIG.false (λ z. c.if-width-eq0.false (c.width.ensures.width ∙ z))) (c.send.ensures.written, (c.send.ensures.sent, (refl, refl))) in
    record { written = after.0; sent = after.1.0; received = after.1.1.0; array = after.1.1.1 }
