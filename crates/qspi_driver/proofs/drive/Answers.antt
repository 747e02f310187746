use Rattle.qspi_driver.specs.Driver.{Drive}
use mathlib.Core.Path.{ap, ◌∙◌}
use Rattle.qspi_driver.proofs.Driving.{driven_of_lem}
use Rattle.qspi_driver.proofs.Promised.{drives}
use Rattle.qspi_driver.proofs.drive.Goals as goal

-- src/lib.rt:142:1
pub returns : goal.returns
returns c =
    let x = c.args in
    let e = driven_of_lem x.driver x.op x.«data».now x.replies.now x.buffer.now x.log.now c.begin-acted.ensures.acted.0 in
    let f₀ = c.finish.ensures.driver ∙ ap (λ (y : Drive). y.driver) e in
    let f₁ = c.finish.ensures.answer ∙ ap (λ (y : Drive). y.answer) e in
    let f₂ = c.finish.ensures.stored ∙ ap (λ (y : Drive). y.buffer) e in
    let f₃ = c.finish.ensures.logged ∙ ap (λ (y : Drive). y.log) e in
    record { driver = f₀; answer = f₁; stored = f₂; logged = f₃; drives = drives x.driver x.op x.«data».now x.buffer.now x.log.now x.replies.now (λ i. record { driver = f₀ i; answer = f₁ i; buffer = f₂ i; log = f₃ i }) }
