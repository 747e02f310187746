use Rattle.std.proofs.Common.{rules, ◌∙◌}
use Rattle.zynq7000_hal.proofs.ClockLaws.{div_ceil_rounds}
use Rattle.zynq7000_hal.proofs.qspi.baud_rate.Goals as goal

pub returns : goal.returns
returns c =
    let a = c.args in
    let rounded = c.div_ceil-quotient.ensures ∙ div_ceil_rounds a.qspi_ref_clk a.interface_target (search rules) in
    search rules
