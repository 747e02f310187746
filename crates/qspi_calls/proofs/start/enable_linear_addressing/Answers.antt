use native.Mathlib.Omega.{arith}
use Rattle.qspi_calls.proofs.start.enable_linear_addressing.Goals as goal
use Rattle.qspi_calls.proofs.Begins as begins

-- src/start.rt:586:1
pub returns-clause-begins : goal.returns-clause-begins
returns-clause-begins c =
    begins.enable_linear_addressing_lem _ _ (omega (arith, c.well_formed)) _ c.registers.ensures.start
