use Rattle.qspi_calls.specs.Calls as call
use Rattle.qspi_abi.proofs.qspi_read_status_register_1.Goals as goal

-- src/lib.rt:618:1
pub returns : goal.returns
returns c =
    let both = c.valued.ensures.called call.read_status c.read_status_register_1-op.ensures.begins in record { ran = both.0; logged = both.1 }
