use native.Mathlib.Omega.{arith}
use Rattle.qspi_calls.proofs.start.read_fast_read.Goals as goal
use Rattle.qspi_calls.proofs.Begins as begins

-- src/start.rt:510:1
pub returns-clause-begins : goal.returns-clause-begins
returns-clause-begins c =
    begins.read_fast_read _ _ _ _ (omega (arith, c.well_formed)) _ c.read.ensures.start
