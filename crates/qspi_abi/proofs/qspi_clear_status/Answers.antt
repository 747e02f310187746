use Rattle.qspi_calls.specs.Calls as call
use Rattle.qspi_abi.proofs.qspi_clear_status.Goals as goal

-- src/lib.rt:522:1
pub returns : goal.returns
returns c =
    let both = c.command.ensures.called call.clear_status c.clear_status-op.ensures.begins in record { ran = both.0; logged = both.1 }
