use Rattle.std.proofs.Common.{rules, ◌∙◌}
use Rattle.zynq7000_hal.proofs.ClockLaws.{div_ceil_rounds}
use Rattle.zynq7000_hal.proofs.qspi.ClockConfig.calculate.Goals as goal

pub returns : goal.returns
returns c =
    let rounded =
    c.div_ceil-ref_clk_div.ensures ∙ div_ceil_rounds c.ref_clk-ref_clk.result c.args.target_qspi_ref_clock (search rules) in
    search rules
