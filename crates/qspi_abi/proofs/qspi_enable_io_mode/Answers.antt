use Rattle.qspi_calls.specs.Calls as call
use Rattle.qspi_abi.proofs.qspi_enable_io_mode.Goals as goal

-- src/lib.rt:473:1
pub returns : goal.returns
returns c =
    let x = c.args in
    let both = c.command.ensures.called (call.enable_io_mode x.dual_flash) c.enable_io_mode-op.ensures.begins in record { ran = both.0; logged = both.1 }
