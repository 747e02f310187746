-- The preset words of document 01, "Modules of the flash path", 2, from the fields of specs/Presets; and the words of I/O mode.
-- Assumes nothing.
use Prim.Native.Nat.{ℕ, ◌+◌}
use mathlib.Core.Path.{◌≡◌, refl}
use mathlib.Core.Bool.{Bool, true, false}
use mathlib.Core.List.{List, [], ◌∷◌, map}
use native.Mathlib.Omega.{arith}
use Rattle.zynq7000.specs.Qspi.{linear_word}
use Rattle.zynq7000.specs.declared.qspi.InstructionCode.{InstructionCode}
use Rattle.zynq7000.specs.declared.qspi.InstructionCode.TheVariants.{Read, FastRead, FastReadDualOutput, FastReadQuadOutput, FastReadDualIo, FastReadQuadIo}
use Rattle.zynq7000_hal.specs.Presets.{preset, io_mode_config}
use Rattle.zynq7000_hal.specs.declared.qspi.QspiVendor.{QspiVendor}
use Rattle.zynq7000_hal.specs.declared.qspi.QspiVendor.TheVariants.{WinbondAndSpansion, Micron}

abbrev modes : List InstructionCode
modes = Read ∷ FastRead ∷ FastReadDualOutput ∷ FastReadQuadOutput ∷ FastReadDualIo ∷ FastReadQuadIo ∷ []

-- the words of a vendor's six modes
abbrev pub words : QspiVendor → Bool → List ℕ
words v two = map (λ (i : InstructionCode). linear_word (preset v i two)) modes

-- 24 selections, sixteen words
pub spansion_one : words WinbondAndSpansion false ≡ 0x80000003 ∷ 0x8000010B ∷ 0x8000013B ∷ 0x8000016B ∷ 0x82FF00BB ∷ 0x82FF02EB ∷ []
spansion_one = refl

pub micron_one : words Micron false ≡ 0x80000003 ∷ 0x8000010B ∷ 0x8000013B ∷ 0x8000016B ∷ 0x82FF01BB ∷ 0x82FF04EB ∷ []
micron_one = refl

pub spansion_two : words WinbondAndSpansion true ≡ 0xE0000003 ∷ 0xE000010B ∷ 0xE000013B ∷ 0xE000016B ∷ 0xE2FF00BB ∷ 0xE2FF02EB ∷ []
spansion_two = refl

pub micron_two : words Micron true ≡ 0xE0000003 ∷ 0xE000010B ∷ 0xE000013B ∷ 0xE000016B ∷ 0xE2FF01BB ∷ 0xE2FF04EB ∷ []
micron_two = refl

-- "Two devices add 60000000"
pub two_devices : (v : QspiVendor) (i : InstructionCode) → linear_word (preset v i true) ≡ linear_word (preset v i false) + 0x60000000
two_devices v i = omega arith

-- 01, "Station cases": io mode writes 01A002EB, with two flashes 61A002EB
pub io_mode_one : linear_word (io_mode_config false) ≡ 0x01A002EB
io_mode_one = refl

pub io_mode_two : linear_word (io_mode_config true) ≡ 0x61A002EB
io_mode_two = refl
