use Rattle.qspi_calls.specs.Calls as call
use Rattle.qspi_abi.proofs.qspi_write_status_and_config_register.Goals as goal

-- src/lib.rt:540:1
pub returns : goal.returns
returns c =
    let x = c.args in
    let both = c.command.ensures.called (call.write_registers x.sr x.cr) c.write_status_and_config_register-op.ensures.begins in record { ran = both.0; logged = both.1 }
