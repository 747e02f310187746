-- The bits of config that the controller goes by, under the driver's changes: chip select (10), start (16), and the two bits (14, 15) that make
-- both the program's. Assumes nothing.
use mathlib.Core.Path.{◌≡◌, ap, ap₂}
use mathlib.Core.Bool.{Bool, true, false, ◌&&◌}
use Prim.Native.Nat.{ℕ}
use native.Mathlib.Omega.{arith}
use lib.Dec.{eqb}
use Rattle.zynq7000.specs.Bits.{is_set, put, clear}
use Rattle.zynq7000.proofs.BitLaws.{put_own, clear_own, put_other, clear_other}
use Rattle.qspi_transfer.specs.LowLevel.{chip_select_high, chip_select_low, started}
use Rattle.power_cut.specs.Controller.{high, manual}

abbrev is_one : ℕ → Bool
is_one n = eqb n 1

put_there : (i w : ℕ) → is_set i (put i w) ≡ true
put_there i w = ap is_one (put_own i w)

clear_there : (i w : ℕ) → is_set i (clear i w) ≡ false
clear_there i w = ap is_one (clear_own i w)

put_else : (i j w : ℕ) → (j ≡ i → ⊥) → is_set j (put i w) ≡ is_set j w
put_else i j w h = ap is_one (put_other i j w h)

clear_else : (i j w : ℕ) → (j ≡ i → ⊥) → is_set j (clear i w) ≡ is_set j w
clear_else i j w h = ap is_one (clear_other i j w h)

pub high_put : (w : ℕ) → high (chip_select_high w) ≡ true
high_put w = put_there 10 w

pub high_clear : (w : ℕ) → high (chip_select_low w) ≡ false
high_clear w = clear_there 10 w

pub high_start : (w : ℕ) → high (started w) ≡ high w
high_start w = put_else 16 10 w (λ e. omega (arith, e))

pub high_stored : (w : ℕ) → high (clear 16 w) ≡ high w
high_stored w = clear_else 16 10 w (λ e. omega (arith, e))

pub starts_put : (w : ℕ) → is_set 16 (started w) ≡ true
starts_put w = put_there 16 w

pub starts_stored : (w : ℕ) → is_set 16 (clear 16 w) ≡ false
starts_stored w = clear_there 16 w

pub starts_high : (w : ℕ) → is_set 16 (chip_select_high w) ≡ is_set 16 w
starts_high w = put_else 10 16 w (λ e. omega (arith, e))

pub starts_low : (w : ℕ) → is_set 16 (chip_select_low w) ≡ is_set 16 w
starts_low w = clear_else 10 16 w (λ e. omega (arith, e))

pub manual_high : (w : ℕ) → manual (chip_select_high w) ≡ manual w
manual_high w = ap₂ ◌&&◌ (put_else 10 14 w (λ e. omega (arith, e))) (put_else 10 15 w (λ e. omega (arith, e)))

pub manual_low : (w : ℕ) → manual (chip_select_low w) ≡ manual w
manual_low w = ap₂ ◌&&◌ (clear_else 10 14 w (λ e. omega (arith, e))) (clear_else 10 15 w (λ e. omega (arith, e)))

pub manual_start : (w : ℕ) → manual (started w) ≡ manual w
manual_start w = ap₂ ◌&&◌ (put_else 16 14 w (λ e. omega (arith, e))) (put_else 16 15 w (λ e. omega (arith, e)))

pub manual_stored : (w : ℕ) → manual (clear 16 w) ≡ manual w
manual_stored w = ap₂ ◌&&◌ (clear_else 16 14 w (λ e. omega (arith, e))) (clear_else 16 15 w (λ e. omega (arith, e)))
