use Rattle.qspi_abi.proofs.valued.Goals as goal
use Rattle.qspi_abi.proofs.Outputs as outputs

-- src/lib.rt:192:1
pub returns : goal.returns
returns c =
    record { called = outputs.giving c.command.ensures.follows c.from.ensures }
