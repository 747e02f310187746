-- The codes of the boundary stand for what has them, and a code within its field is not refused. Assumes nothing.
use mathlib.Core.Path.{◌≡◌, refl}
use Rattle.zynq7000.specs.Qspi.{baud_code}
use Rattle.zynq7000.specs.Slcr.{source_code}
use Rattle.zynq7000.specs.declared.qspi.BaudRateDivisor.{BaudRateDivisor}
use Rattle.zynq7000.specs.declared.qspi.BaudRateDivisor.TheVariants as baud
use Rattle.zynq7000.specs.declared.slcr.clocks.SrcSelIo.{SrcSelIo}
use Rattle.zynq7000.specs.declared.slcr.clocks.SrcSelIo.TheVariants.{IoPll, IoPllAlt, ArmPll, DdrPll}
use Rattle.qspi_abi.specs.Codes.{source_of, divisor_at}

-- each source is that of its own code, and each divisor too
pub source_of_lem : (s : SrcSelIo) → source_of (source_code s) ≡ s
source_of_lem IoPll = refl
source_of_lem IoPllAlt = refl
source_of_lem ArmPll = refl
source_of_lem DdrPll = refl

pub divisor_of_lem : (d : BaudRateDivisor) → divisor_at (baud_code d) ≡ d
divisor_of_lem baud._2 = refl
divisor_of_lem baud._4 = refl
divisor_of_lem baud._8 = refl
divisor_of_lem baud._16 = refl
divisor_of_lem baud._32 = refl
divisor_of_lem baud._64 = refl
divisor_of_lem baud._128 = refl
divisor_of_lem baud._256 = refl
