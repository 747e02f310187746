use native.Mathlib.Omega.{arith}
use Rattle.qspi_calls.proofs.start.disable.Goals as goal
use Rattle.qspi_calls.proofs.Begins as begins

-- src/start.rt:607:1
pub returns-clause-begins : goal.returns-clause-begins
returns-clause-begins c =
    begins.disable _ (omega (arith, c.well_formed)) _ c.registers.ensures.start
