-- The baud rate divisor of document 02, U3: `smallest_power_not_below` is what its name says up to 256 and nothing above, and it keeps the
-- interface clock on its target. Assumes nothing.
use Prim.Native.Nat.{ℕ, ◌+◌, ◌*◌, ◌^◌, ◌<◌, ◌≤◌}
use mathlib.Core.Path.{◌≡◌, refl, sym, ap, ◌∙◌}
use mathlib.Core.Bool.{Bool, true, false}
use mathlib.Core.Logic.{◌↔◌}
use native.Mathlib.Omega.{arith}
use native.Mathlib.Nat.{add-mul, one-mul, mul_comm, mul_assoc, mul-le-mul_right, lt_of_mul-lt-mul_right, le_antisymm}
use lib.Dec.{leb}
use lib.Pow.{pow-add, pow_mono}
use borrow.Author.Tests.{le-leb, lt-leb, leb-true, leb-false}
use Rattle.zynq7000.specs.Qspi.{baud_code, divisor_of}
use Rattle.zynq7000.specs.declared.qspi.BaudRateDivisor.{BaudRateDivisor}
use Rattle.zynq7000.specs.declared.qspi.BaudRateDivisor.TheVariants as baud
use Rattle.zynq7000.proofs.Words.{divisor_power}
use Rattle.zynq7000_hal.specs.Clocks.{rounded_up, smallest_power_not_below, PowerFrom2To256, SmallestPowerNotBelow, OnTarget}
use Rattle.zynq7000_hal.proofs.ClockLaws.{round_reaches, round_least, round_within}

-- ---- rungs

-- the rung of a quotient: not below it, and less than twice as much, unless that is the lowest rung
pub record OnRung (q : ℕ) (d : BaudRateDivisor) : Type 0 where
  pub not_below : q ≤ divisor_of d
  pub above_half : (divisor_of d ≡ 2 → ⊥) → divisor_of d < 2 * q

pub rung : (q : ℕ) (d : BaudRateDivisor) → OnRung q d → smallest_power_not_below q ≡ divisor_of d
rung q baud._2 o = simp (le-leb q 2 o.not_below)
rung q baud._4 o =
    let h = o.above_half (λ e. omega (arith, e)) in
    simp (lt-leb q 2 (omega arith), le-leb q 4 o.not_below)
rung q baud._8 o =
    let h = o.above_half (λ e. omega (arith, e)) in
    simp (lt-leb q 2 (omega arith), lt-leb q 4 (omega arith), le-leb q 8 o.not_below)
rung q baud._16 o =
    let h = o.above_half (λ e. omega (arith, e)) in
    simp (lt-leb q 2 (omega arith), lt-leb q 4 (omega arith), lt-leb q 8 (omega arith), le-leb q 16 o.not_below)
rung q baud._32 o =
    let h = o.above_half (λ e. omega (arith, e)) in
    simp (lt-leb q 2 (omega arith), lt-leb q 4 (omega arith), lt-leb q 8 (omega arith), lt-leb q 16 (omega arith), le-leb q 32 o.not_below)
rung q baud._64 o =
    let h = o.above_half (λ e. omega (arith, e)) in
    simp (lt-leb q 2 (omega arith), lt-leb q 4 (omega arith), lt-leb q 8 (omega arith), lt-leb q 16 (omega arith), lt-leb q 32 (omega arith), le-leb q 64 o.not_below)
rung q baud._128 o =
    let h = o.above_half (λ e. omega (arith, e)) in
    simp (lt-leb q 2 (omega arith), lt-leb q 4 (omega arith), lt-leb q 8 (omega arith), lt-leb q 16 (omega arith), lt-leb q 32 (omega arith), lt-leb q 64 (omega arith), le-leb q 128 o.not_below)
rung q baud._256 o =
    let h = o.above_half (λ e. omega (arith, e)) in
    simp (lt-leb q 2 (omega arith), lt-leb q 4 (omega arith), lt-leb q 8 (omega arith), lt-leb q 16 (omega arith), lt-leb q 32 (omega arith), lt-leb q 64 (omega arith), lt-leb q 128 (omega arith), le-leb q 256 o.not_below)

pub record Rung (q : ℕ) : Type 0 where
  pub divisor : BaudRateDivisor
  pub on : OnRung q divisor

-- a quotient that is above half of a rung is on it, or above it
on_or_above : (q : ℕ) (d : BaudRateDivisor) → ((divisor_of d ≡ 2 → ⊥) → divisor_of d < 2 * q) → (divisor_of d < q → Rung q) → Rung q
on_or_above q d half above = go (leb q (divisor_of d)) refl
  where
    go : (b : Bool) → leb q (divisor_of d) ≡ b → Rung q
    go true e = record { divisor = d; on = record { not_below = leb-true q (divisor_of d) e; above_half = half } }
    go false e = above (leb-false q (divisor_of d) e)

pub rung_of : (q : ℕ) → q ≤ 256 → Rung q
rung_of q h =
    on_or_above q baud._2 (λ n. absurd (n refl)) λ a.
    on_or_above q baud._4 (λ _. omega arith) λ a.
    on_or_above q baud._8 (λ _. omega arith) λ a.
    on_or_above q baud._16 (λ _. omega arith) λ a.
    on_or_above q baud._32 (λ _. omega arith) λ a.
    on_or_above q baud._64 (λ _. omega arith) λ a.
    on_or_above q baud._128 (λ _. omega arith) λ a.
    on_or_above q baud._256 (λ _. omega arith) λ a. absurd (omega arith)

-- ---- the smallest power of two from 2 to 256 that is not below

as_power : (d : BaudRateDivisor) → divisor_of d ≡ 2 ^ (1 + baud_code d)
as_power d = divisor_power d ∙ sym (pow-add 2 1 (baud_code d))

-- each divisor of the register's field is one of the powers
pub divisor_is_power : (d : BaudRateDivisor) → PowerFrom2To256 (divisor_of d)
divisor_is_power d = record { exponent = 1 + baud_code d; power = as_power d; from_2 = omega (arith, (bounds d).0); to_256 = omega (arith, (bounds d).1) }
  where
    bounds : (d : BaudRateDivisor) → (2 ≤ divisor_of d) × (divisor_of d ≤ 256)
    bounds baud._2 = (omega arith, omega arith)
    bounds baud._4 = (omega arith, omega arith)
    bounds baud._8 = (omega arith, omega arith)
    bounds baud._16 = (omega arith, omega arith)
    bounds baud._32 = (omega arith, omega arith)
    bounds baud._64 = (omega arith, omega arith)
    bounds baud._128 = (omega arith, omega arith)
    bounds baud._256 = (omega arith, omega arith)

-- no power below a rung reaches its quotients
none_smaller : (q : ℕ) (d : BaudRateDivisor) → OnRung q d → (p : ℕ) → PowerFrom2To256 p → q ≤ p → divisor_of d ≤ p
none_smaller q d o p w h = go (leb (1 + baud_code d) w.exponent) refl
  where
    go : (b : Bool) → leb (1 + baud_code d) w.exponent ≡ b → divisor_of d ≤ p
    go true e =
        let m : 2 ^ (1 + baud_code d) ≤ 2 ^ w.exponent = pow_mono (leb-true (1 + baud_code d) w.exponent e) in
        omega (arith, as_power d, w.power)
    go false e =
        let m : 2 ^ w.exponent ≤ 2 ^ baud_code d = pow_mono (omega (arith, leb-false (1 + baud_code d) w.exponent e)) in
        smaller (leb (divisor_of d) 2) refl m
      where
        smaller : (b : Bool) → leb (divisor_of d) 2 ≡ b → 2 ^ w.exponent ≤ 2 ^ baud_code d → divisor_of d ≤ p
        smaller true e m = omega (arith, leb-true (divisor_of d) 2 e, w.from_2)
        smaller false e m =
            let l = leb-false (divisor_of d) 2 e in
            absurd (omega (arith, m, divisor_power d, w.power, o.above_half (λ z. omega (arith, l, z))))

pub rung_smallest : (q : ℕ) (d : BaudRateDivisor) → OnRung q d → SmallestPowerNotBelow q (divisor_of d)
rung_smallest q d o = record { power = divisor_is_power d; not_below = o.not_below; smallest = none_smaller q d o }

pub smallest_power : (q : ℕ) → q ≤ 256 → SmallestPowerNotBelow q (smallest_power_not_below q)
smallest_power q h =
    let r = rung_of q h in
    rw (rung q r.divisor r.on) (rung_smallest q r.divisor r.on)

-- there is no other, and above 256 there is none
pub only_smallest : (q d : ℕ) → SmallestPowerNotBelow q d → (q ≤ 256) × (d ≡ smallest_power_not_below q)
only_smallest q d s =
    let h : q ≤ 256 = omega (arith, s.not_below, s.power.to_256) in
    let t = smallest_power q h in
    (h, le_antisymm (s.smallest (smallest_power_not_below q) t.power t.not_below) (t.smallest d s.power s.not_below))

-- the search finds nothing precisely above 256
pub none_found : (q : ℕ) → (smallest_power_not_below q ≡ 0) ↔ (256 < q)
none_found q = (
  λ e. go e (leb q 256) refl,
  λ l. simp (lt-leb q 2 (omega arith), lt-leb q 4 (omega arith), lt-leb q 8 (omega arith), lt-leb q 16 (omega arith), lt-leb q 32 (omega arith), lt-leb q 64 (omega arith), lt-leb q 128 (omega arith), lt-leb q 256 l),
)
  where
    go : smallest_power_not_below q ≡ 0 → (b : Bool) → leb q 256 ≡ b → 256 < q
    go e true h = absurd (omega (arith, e, (smallest_power q (leb-true q 256 h)).power.from_2))
    go e false h = leb-false q 256 h

-- ---- the interface clock on its target

module _ (r target : ℕ) (positive : 0 < target) where
  -- the rung of the rounded-up quotient keeps the interface clock on its target
  pub rung_on_target : (d : BaudRateDivisor) → OnRung (rounded_up r target) d → OnTarget r target (divisor_of d)
  rung_on_target d o =
      record {
        not_above = omega (arith, round_reaches r target positive, mul-le-mul_right target o.not_below, mul_comm target (divisor_of d));
        above_half = λ n. omega (arith, over (o.above_half n));
      }
    where
      half : ℕ
      half = 2 ^ baud_code d

      over : divisor_of d < 2 * rounded_up r target → target * divisor_of d < 2 * r
      over h =
          let m : (half + 1) * target ≤ rounded_up r target * target = mul-le-mul_right target (omega (arith, divisor_power d)) in
          let t : target * divisor_of d ≡ 2 * (half * target) =
          mul_comm target (divisor_of d) ∙ (ap (λ (n : ℕ). n * target) (divisor_power d) ∙ mul_assoc 2 half target) in
          omega (arith, m, t, round_least r target positive, add-mul half 1 target, one-mul target)

  -- the two bounds leave no other divisor
  pub target_on_rung : (d : BaudRateDivisor) → OnTarget r target (divisor_of d) → OnRung (rounded_up r target) d
  target_on_rung d o =
      record {
        not_below = round_within r target (divisor_of d) positive (omega (arith, o.not_above, mul_comm target (divisor_of d)));
        above_half = λ n. lt_of_mul-lt-mul_right target (over n);
      }
    where
      over : (divisor_of d ≡ 2 → ⊥) → divisor_of d * target < 2 * rounded_up r target * target
      over n =
          omega (arith, o.above_half n, round_reaches r target positive, mul_assoc 2 (rounded_up r target) target, mul_comm target (divisor_of d))
