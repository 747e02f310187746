use native.Mathlib.Omega.{arith}
use Rattle.qspi_calls.proofs.start.write_status.Goals as goal
use Rattle.qspi_calls.proofs.Begins as begins

-- src/start.rt:202:1
pub returns-clause-begins : goal.returns-clause-begins
returns-clause-begins c =
    begins.write_status_lem _ _ (omega (arith, c.well_formed)) _ (simp (c.going.ensures.start, c.at.ensures.place, c.command.ensures.job, c.enabled.ensures.script))
