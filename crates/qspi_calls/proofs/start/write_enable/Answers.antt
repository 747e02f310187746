use native.Mathlib.Omega.{arith}
use Rattle.qspi_calls.proofs.start.write_enable.Goals as goal
use Rattle.qspi_calls.proofs.Begins as begins

-- src/start.rt:139:1
pub returns-clause-begins : goal.returns-clause-begins
returns-clause-begins c =
    begins.write_enable_lem _ (omega (arith, c.well_formed)) _ c.one_transfer.ensures.start
