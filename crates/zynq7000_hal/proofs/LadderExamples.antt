-- The premises of `on_target` and of `thirty_one_when` can be met, with every reference clock and every interface target. Assumes nothing.
use Prim.Native.Nat.{ℕ, ◌*◌, ◌/◌, ◌<◌, ◌≤◌}
use mathlib.Core.Path.{◌≡◌, refl, ap, ◌∙◌}
use mathlib.Core.List.{[], ◌∷◌}
use native.Mathlib.Omega.{arith}
use native.Mathlib.Nat.{mod_self, div_self, div-one}
use Rattle.zynq7000.specs.Number.{accepted, refused, BaudDivOutOfRange}
use Rattle.zynq7000.specs.declared.slcr.clocks.SrcSelIo.TheVariants.{IoPll}
use Rattle.zynq7000_hal.specs.Clocks.{rounded_up, divided_clock, quotient, smallest_power_not_below, calculate_answer}
use Rattle.zynq7000_hal.specs.declared.clocks.Clocks.{Clocks}
use Rattle.zynq7000_hal.proofs.ClockLaws.{round_exact, quotient_too_large, calculated}

abbrev only_io : ℕ → Clocks
only_io r = record { io_ref_clk = r; arm_ref_clk = 0; ddr_ref_clk = 0; cpu_1x_clk = 0 }

-- a reference clock that is its own target is not divided
by_one : (r : ℕ) → 0 < r → rounded_up r r ≡ 1
by_one r h = round_exact r r h (mod_self r) ∙ div_self h

undivided : (r : ℕ) → 0 < r → divided_clock r r ≡ r
undivided r h = ap (λ (d : ℕ). r / d) (by_one r h) ∙ div-one r

module _ (r i : ℕ) (positive : 0 < r) (target : 0 < i) where
  quotient_is : quotient r r i ≡ rounded_up r i
  quotient_is = ap (λ (n : ℕ). rounded_up n i) (undivided r positive)

  -- each reference clock is accepted with each interface target up to quotient 256
  pub each_accepted : rounded_up r i ≤ 256
      → calculate_answer IoPll (only_io r) r i ≡ accepted (0 ∷ 1 ∷ 0 ∷ smallest_power_not_below (rounded_up r i) ∷ [])
  each_accepted h =
      calculated IoPll (only_io r) r i (λ z. omega (arith, z)) (rw (by_one r positive) (omega arith)) (λ z. omega (arith, z)) (omega arith) (λ z. omega (arith, z)) (rw quotient_is h)
      ∙ (ap (λ (d : ℕ). accepted (0 ∷ d ∷ 0 ∷ smallest_power_not_below (quotient r r i) ∷ [])) (by_one r positive)
      ∙ ap (λ (q : ℕ). accepted (0 ∷ 1 ∷ 0 ∷ smallest_power_not_below q ∷ [])) quotient_is)

  -- and refused by 31 above
  pub each_refused : 256 < rounded_up r i → calculate_answer IoPll (only_io r) r i ≡ refused BaudDivOutOfRange
  each_refused h =
      quotient_too_large IoPll (only_io r) r i (λ z. omega (arith, z)) (rw (by_one r positive) (omega arith)) (λ z. omega (arith, z)) (omega arith) (λ z. omega (arith, z)) (rw quotient_is h)

-- the last quotient that is accepted, and the first that is refused
pub last_accepted : calculate_answer IoPll (only_io 256) 256 1 ≡ accepted (0 ∷ 1 ∷ 0 ∷ 256 ∷ [])
last_accepted = refl

pub first_refused_lem : calculate_answer IoPll (only_io 257) 257 1 ≡ refused BaudDivOutOfRange
first_refused_lem = refl

-- "as rounded down": 5 over both divisors is above 1, by less than half a hertz (`before_rounding`)
pub rounded_down : calculate_answer IoPll (only_io 5) 3 1 ≡ accepted (0 ∷ 2 ∷ 0 ∷ 2 ∷ [])
rounded_down = refl

pub exact_above : 1 * 2 * 2 < 5
exact_above = omega arith

-- "unless the divisor is 2": a reference clock that is its own interface target is halved
pub halved : calculate_answer IoPll (only_io 1) 1 1 ≡ accepted (0 ∷ 1 ∷ 0 ∷ 2 ∷ [])
halved = refl

pub half_of_target : 1 * 2 < 2 * 1 → ⊥
half_of_target h = omega arith
