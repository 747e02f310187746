use native.Mathlib.Omega.{arith}
use Rattle.qspi_calls.proofs.start.read_configuration_register.Goals as goal
use Rattle.qspi_calls.proofs.Begins as begins

-- src/start.rt:167:1
pub returns-clause-begins : goal.returns-clause-begins
returns-clause-begins c =
    begins.read_configuration_register _ (omega (arith, c.well_formed)) _ c.one_transfer.ensures.start
