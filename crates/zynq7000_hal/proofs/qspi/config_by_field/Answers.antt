use Rattle.zynq7000.specs.Qspi.{baud_code}
use Rattle.zynq7000_hal.specs.Initialize.{initial_config}
use mathlib.Core.Path.{◌∙◌}
use Rattle.zynq7000.specs.Bits.{flag_value}
use Rattle.zynq7000.proofs.ByField.{config_sums}
use Rattle.zynq7000_hal.proofs.WordLaws.{flag_le, config_added}
use Rattle.zynq7000_hal.proofs.qspi.config_by_field.Goals as goal

-- src/qspi.rt:305:1
pub returns : goal.returns
returns c =
    let a = c.args in
    let code = c.raw_value.ensures.code in
    record {
      each = rw code.0
          (config_added (baud_code a.divisor) (flag_value a.phase) (flag_value a.polarity) c.flag.result c.flag-2.result
          (rw code.0 at code.1)
          (flag_le a.phase)
          (flag_le a.polarity)
          c.flag.ensures.part.0
          c.flag-2.ensures.part.0
          ∙ config_sums (initial_config a.divisor a.phase a.polarity));
    }
