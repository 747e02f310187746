use native.Mathlib.Omega.{arith}
use Rattle.qspi_calls.proofs.start.read_status_register_1.Goals as goal
use Rattle.qspi_calls.proofs.Begins as begins

-- src/start.rt:160:1
pub returns-clause-begins : goal.returns-clause-begins
returns-clause-begins c =
    begins.read_status_register_1 _ (omega (arith, c.well_formed)) _ c.one_transfer.ensures.start
