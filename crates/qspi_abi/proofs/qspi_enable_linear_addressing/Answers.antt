use Rattle.qspi_calls.specs.Calls as call
use Rattle.qspi_abi.proofs.qspi_enable_linear_addressing.Goals as goal

-- src/lib.rt:460:1
pub returns : goal.returns
returns c =
    let x = c.args in
    let both = c.command.ensures.called (call.enable_linear_addressing x.config) c.enable_linear_addressing-op.ensures.begins in record { ran = both.0; logged = both.1 }
