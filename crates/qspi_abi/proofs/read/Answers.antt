use Rattle.qspi_abi.proofs.read.Goals as goal
use Rattle.qspi_abi.proofs.Outputs as outputs

-- src/lib.rt:199:1
pub returns : goal.returns
returns c =
    record { called = outputs.reading c.run.ensures.follows c.from.ensures }
