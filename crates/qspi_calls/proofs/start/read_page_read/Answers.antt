use native.Mathlib.Omega.{arith}
use Rattle.qspi_calls.proofs.start.read_page_read.Goals as goal
use Rattle.qspi_calls.proofs.Begins as begins

-- src/start.rt:503:1
pub returns-clause-begins : goal.returns-clause-begins
returns-clause-begins c =
    begins.read_page_read _ _ _ (omega (arith, c.well_formed)) _ c.read.ensures.start
