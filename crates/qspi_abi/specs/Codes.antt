-- Inputs as numbers: a field's code stands for what it selects, and a code wider than its field is refused with 12 of document 01.
use Rattle.std.specs.Prelude.{ℕ, Bool, cond, ◌||◌, List, [], ◌∷◌, Option, Some, None, Result, Ok, Err, eqb, ltb}
use Rattle.zynq7000.specs.Number.{Answer, accepted, refused, refused_with}
use Rattle.zynq7000.specs.Number as number_of_lem
use Rattle.zynq7000.specs.Qspi.{instruction_byte, linear_word}
use Rattle.zynq7000.specs.declared.qspi.BaudRateDivisor.{BaudRateDivisor}
use Rattle.zynq7000.specs.declared.qspi.BaudRateDivisor.TheVariants as baud
use Rattle.zynq7000.specs.declared.qspi.InstructionCode.{InstructionCode}
use Rattle.zynq7000.specs.declared.qspi.InstructionCode.TheVariants.{Read, FastRead, FastReadDualOutput, FastReadQuadOutput, FastReadDualIo, FastReadQuadIo}
use Rattle.zynq7000.specs.declared.slcr.clocks.SrcSelIo.{SrcSelIo}
use Rattle.zynq7000.specs.declared.slcr.clocks.SrcSelIo.TheVariants.{IoPll, IoPllAlt, ArmPll, DdrPll}
use Rattle.zynq7000_hal.specs.Presets.{preset}
use Rattle.zynq7000_hal.specs.declared.qspi.BaudRateConfig.{BaudRateConfig}
use Rattle.zynq7000_hal.specs.declared.qspi.BaudRateConfig.TheVariants.{WithLoopback, WithoutLoopback}
use Rattle.zedboard_bsp.specs.declared.qspi_spansion.device_id.UnknownCode.{UnknownCode}
use Rattle.zynq7000_hal.specs.declared.qspi.ClockConfig.{ClockConfig}
use Rattle.zynq7000_hal.specs.declared.qspi.FieldTooWide.{FieldTooWide as too_wide}
use Rattle.zynq7000_hal.specs.declared.qspi.QspiVendor.{QspiVendor}
use Rattle.zynq7000_hal.specs.declared.qspi.QspiVendor.TheVariants.{WinbondAndSpansion, Micron}
use Rattle.qspi_script.specs.declared.Status.TheVariants.{FieldTooWide}
use Rattle.qspi_operation.specs.Machine.{Script, onward}
use Rattle.qspi_calls.specs.Calls as call

-- the sources by their codes, 0 to 3 (`source_of` in proofs/CodeLaws: each source has its own code)
abbrev pub source_of : ℕ → SrcSelIo
source_of n = cond (eqb n 0) IoPll (cond (eqb n 1) IoPllAlt (cond (eqb n 2) ArmPll DdrPll))

-- a code that is wider than its field is refused
abbrev pub source_at : ℕ → Result SrcSelIo too_wide
source_at n = cond (ltb 3 n) (Err (record {})) (Ok (source_of n))

-- the divisors by their codes, 0 to 7 (`divisor_of_lem` there)
abbrev pub divisor_at : ℕ → BaudRateDivisor
divisor_at n =
    cond (eqb n 0) baud._2
    (cond (eqb n 1) baud._4
    (cond (eqb n 2) baud._8
    (cond (eqb n 3) baud._16
    (cond (eqb n 4) baud._32
    (cond (eqb n 5) baud._64
    (cond (eqb n 6) baud._128 baud._256))))))

abbrev pub divisor_within : ℕ → Result BaudRateDivisor too_wide
divisor_within n = cond (ltb 7 n) (Err (record {})) (Ok (divisor_at n))

abbrev pub baud_rate_of : Bool → ℕ → BaudRateConfig
baud_rate_of loopback n = cond loopback WithLoopback (WithoutLoopback (divisor_at n))

abbrev pub config_at : ℕ → ℕ → Bool → ℕ → Result ClockConfig too_wide
config_at source divisor loopback baud =
    cond (ltb 3 source || ltb 7 baud) (Err (record {}))
    (Ok (record { src_sel = source_of source; ref_clk_div = divisor; baud_rate_config = baud_rate_of loopback baud }))

abbrev pub latency_of : Bool → ℕ → Option ℕ
latency_of given n = cond given (Some n) None

abbrev pub vendor_of : Bool → QspiVendor
vendor_of micron = cond micron Micron WinbondAndSpansion

-- a clock calculation for a source's code
abbrev pub from_source : ℕ → (SrcSelIo → Answer) → Answer
from_source n calculated = cond (ltb 3 n) (refused number_of_lem.FieldTooWide) (calculated (source_of n))

-- a preset by the read instruction's byte; a byte that none of these has is answered by 11, and returned
abbrev pub preset_among : List InstructionCode → QspiVendor → ℕ → Bool → Answer
preset_among [] v b two = refused_with number_of_lem.UnknownCode (b ∷ [])
preset_among (i ∷ l) v b two = cond (eqb b (instruction_byte i)) (accepted (linear_word (preset v i two) ∷ [])) (preset_among l v b two)

abbrev pub instructions : List InstructionCode
instructions = Read ∷ FastRead ∷ FastReadDualOutput ∷ FastReadQuadOutput ∷ FastReadDualIo ∷ FastReadQuadIo ∷ []

-- the instruction of a byte, which stands for the presets among these
abbrev pub instruction_among : List InstructionCode → ℕ → Result InstructionCode UnknownCode
instruction_among [] b = Err (record { 0 = b })
instruction_among (i ∷ l) b = cond (eqb b (instruction_byte i)) (Ok i) (instruction_among l b)

abbrev pub instruction_at : ℕ → Result InstructionCode UnknownCode
instruction_at b = instruction_among instructions b

-- 0 for a listed code of an id, 11 for a byte that is none
abbrev pub code_number : {T : Type 0} → Result T UnknownCode → ℕ
code_number (Ok t) = 0
code_number (Err e) = 11

abbrev pub preset_answer : Bool → ℕ → Bool → Answer
preset_answer micron b two = preset_among instructions (vendor_of micron) b two

-- `initialize` with codes for its source and its baud rate divisor
abbrev pub initialize : ℕ → ℕ → Bool → ℕ → Bool → Bool → Script
initialize source divisor loopback baud phase polarity =
    onward (ltb 3 source || ltb 7 baud) (call.refused FieldTooWide)
    (call.initialize
    (record { src_sel = source_of source; ref_clk_div = divisor; baud_rate_config = baud_rate_of loopback baud })
    phase
    polarity)
