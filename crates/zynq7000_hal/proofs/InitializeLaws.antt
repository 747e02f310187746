-- The words of `initialize` as document 01, "Modules of the flash path", 3, states them. Assumes nothing.
use Prim.Native.Nat.{ℕ, ◌+◌, ◌*◌, ◌%◌, ◌≤◌, ◌<◌}
use mathlib.Core.Path.{◌≡◌, refl}
use mathlib.Core.Bool.{Bool}
use mathlib.Core.List.{[], ◌∷◌}
use native.Mathlib.Omega.{arith}
use native.Mathlib.Nat.{mod-eq_of_lt}
use Rattle.zynq7000.specs.Bits.{flag_value}
use Rattle.zynq7000.specs.Qspi.{baud_code, config_values, config_word, loopback_word}
use Rattle.zynq7000.specs.Slcr.{source_code, clock_control_word}
use Rattle.zynq7000.specs.declared.qspi.BaudRateDivisor.{BaudRateDivisor}
use Rattle.zynq7000.specs.declared.qspi.BaudRateDivisor.TheVariants as baud
use Rattle.zynq7000.specs.declared.slcr.clocks.SrcSelIo.{SrcSelIo}
use Rattle.zynq7000.specs.declared.slcr.clocks.SrcSelIo.TheVariants.{IoPll, IoPllAlt, ArmPll, DdrPll}
use Rattle.zynq7000_hal.specs.Initialize.{initial_config}
use Rattle.zynq7000_hal.proofs.WordLaws.{flag_le}

code_lt : (d : BaudRateDivisor) → baud_code d < 8
code_lt baud._2 = omega arith
code_lt baud._4 = omega arith
code_lt baud._8 = omega arith
code_lt baud._16 = omega arith
code_lt baud._32 = omega arith
code_lt baud._64 = omega arith
code_lt baud._128 = omega arith
code_lt baud._256 = omega arith

source_lt : (s : SrcSelIo) → source_code s < 4
source_lt IoPll = omega arith
source_lt IoPllAlt = omega arith
source_lt ArmPll = omega arith
source_lt DdrPll = omega arith

-- the fields' values as the Rust's `initialize` gives them, in the table's order
pub initial_values : (d : BaudRateDivisor) (phase polarity : Bool)
    → config_values (initial_config d phase polarity) ≡ 1 ∷ 0 ∷ 1 ∷ 0 ∷ 0 ∷ 0 ∷ 0 ∷ 3 ∷ baud_code d ∷ flag_value phase ∷ flag_value polarity ∷ 1 ∷ []
initial_values d phase polarity = refl

-- "800800C1 plus baud code times 8, plus 4 for phase, plus 2 for polarity"
pub config_word_lem : (d : BaudRateDivisor) (phase polarity : Bool)
    → config_word (initial_config d phase polarity) ≡ 0x800800C1 + baud_code d * 8 + flag_value phase * 4 + flag_value polarity * 2
config_word_lem d phase polarity =
    let k : baud_code d % 8 ≡ baud_code d = mod-eq_of_lt (code_lt d) in
    let p : flag_value phase % 2 ≡ flag_value phase = mod-eq_of_lt (omega (arith, flag_le phase)) in
    let q : flag_value polarity % 2 ≡ flag_value polarity = mod-eq_of_lt (omega (arith, flag_le polarity)) in
    rw (k, p, q) (omega arith)

-- "divisor times 256, plus source times 16, plus 1"
pub clock_control_word_lem : (divisor : ℕ) (s : SrcSelIo) → divisor ≤ 63 → clock_control_word divisor (source_code s) 1 ≡ divisor * 256 + source_code s * 16 + 1
clock_control_word_lem divisor s h =
    let x : divisor % 64 ≡ divisor = mod-eq_of_lt (omega arith) in
    let y : source_code s % 4 ≡ source_code s = mod-eq_of_lt (source_lt s) in
    rw (x, y) (omega arith)

-- "20 (hex) to offset 38"
pub loopback_word_lem : loopback_word 1 0 0 ≡ 0x20
loopback_word_lem = refl
