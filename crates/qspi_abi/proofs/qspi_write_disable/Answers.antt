use Rattle.qspi_calls.specs.Calls as call
use Rattle.qspi_abi.proofs.qspi_write_disable.Goals as goal

-- src/lib.rt:513:1
pub returns : goal.returns
returns c =
    let both = c.command.ensures.called call.write_disable c.write_disable-op.ensures.begins in record { ran = both.0; logged = both.1 }
