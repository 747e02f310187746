use Rattle.qspi_abi.proofs.qspi_initialize.Goals as goal
use Rattle.qspi_abi.proofs.Outputs as outputs

pub returns-in-Err : goal.returns-in-Err
returns-in-Err c =
    let x = c.args in
    let both = outputs.refused x.src_sel x.ref_clk_div x.loopback x.baud_rate_div x.phase x.polarity x.log.now x.replies.now c.in-Err.ensures.config in
    record { ran = both.0; logged = both.1 }
