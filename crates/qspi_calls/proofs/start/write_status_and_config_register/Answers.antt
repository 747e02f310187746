use native.Mathlib.Omega.{arith}
use Rattle.qspi_calls.proofs.start.write_status_and_config_register.Goals as goal
use Rattle.qspi_calls.proofs.Begins as begins

-- src/start.rt:212:1
pub returns-clause-begins : goal.returns-clause-begins
returns-clause-begins c =
    begins.write_status_and_config_register _ _ _ (omega (arith, c.well_formed)) _ (simp (c.going.ensures.start, c.at.ensures.place, c.command.ensures.job, c.enabled.ensures.script))
