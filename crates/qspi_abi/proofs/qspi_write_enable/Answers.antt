use Rattle.qspi_calls.specs.Calls as call
use Rattle.qspi_abi.proofs.qspi_write_enable.Goals as goal

-- src/lib.rt:504:1
pub returns : goal.returns
returns c =
    let both = c.command.ensures.called call.write_enable c.write_enable-op.ensures.begins in record { ran = both.0; logged = both.1 }
