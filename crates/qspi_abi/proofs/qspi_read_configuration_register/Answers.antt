use Rattle.qspi_calls.specs.Calls as call
use Rattle.qspi_abi.proofs.qspi_read_configuration_register.Goals as goal

-- src/lib.rt:627:1
pub returns : goal.returns
returns c =
    let both = c.valued.ensures.called call.read_config c.read_configuration_register-op.ensures.begins in record { ran = both.0; logged = both.1 }
