use native.Mathlib.Omega.{arith}
use Rattle.qspi_calls.proofs.start.read_rdid_extended.Goals as goal
use Rattle.qspi_calls.proofs.Begins as begins

-- src/start.rt:181:1
pub returns-clause-begins : goal.returns-clause-begins
returns-clause-begins c =
    begins.read_rdid_extended _ (omega (arith, c.well_formed)) _ c.one_transfer.ensures.start
