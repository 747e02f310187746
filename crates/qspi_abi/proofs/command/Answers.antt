use Rattle.qspi_abi.proofs.command.Goals as goal
use Rattle.qspi_abi.proofs.Outputs as outputs

-- src/lib.rt:185:1
pub returns : goal.returns
returns c =
    record { called = outputs.commanded c.command.ensures.follows c.from.ensures }
