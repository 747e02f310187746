use Rattle.qspi_driver.specs.State.{acted_by}
use mathlib.Core.Path.{ap, ◌∙◌}
use Rattle.qspi_driver.proofs.Promised.{steps_with}
use Rattle.qspi_driver.proofs.state.step.Goals as goal

-- src/state.rt:255:1
pub returns : goal.returns
returns c =
    record { acted = steps_with c.lent_to-lent.ensures.lent (c.holding.ensures.acted ∙ ap acted_by c.step.ensures.state) c.step.ensures.stored c.step.ensures.logged }
