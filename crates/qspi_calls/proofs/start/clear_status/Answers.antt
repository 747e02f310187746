use native.Mathlib.Omega.{arith}
use Rattle.qspi_calls.proofs.start.clear_status.Goals as goal
use Rattle.qspi_calls.proofs.Begins as begins

-- src/start.rt:153:1
pub returns-clause-begins : goal.returns-clause-begins
returns-clause-begins c =
    begins.clear_status_lem _ (omega (arith, c.well_formed)) _ c.one_transfer.ensures.start
