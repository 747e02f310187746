use Rattle.qspi_calls.specs.Calls as call
use Rattle.qspi_abi.proofs.qspi_write_status.Goals as goal

-- src/lib.rt:531:1
pub returns : goal.returns
returns c =
    let x = c.args in
    let both = c.command.ensures.called (call.write_status x.sr) c.write_status-op.ensures.begins in record { ran = both.0; logged = both.1 }
