-- Rounding up, and what the calculations answer test by test. Assumes nothing.
use Rattle.std.specs.Prelude.{min}
use Prim.Native.Nat.{ℕ, zero, suc, ◌+◌, ◌-◌, ◌*◌, ◌/◌, ◌%◌, ◌<◌, ◌≤◌}
use mathlib.Core.Path.{◌≡◌, refl, ap, ◌∙◌}
use native.Mathlib.Omega.{arith}
use native.Mathlib.Nat.{add-mul, one-mul, div-add-mod', mod-lt, div-mul-le_self, lt-div-mul-add, le-div_iff_mul-le, div-lt_iff_lt-mul, le-mul_of_pos_right}
use lib.Arith.{digits_div}
use mathlib.Core.List.{[], ◌∷◌}
use borrow.Author.Tests.{le-ltb, lt-ltb, eq-eqb, ne_eqb}
use Rattle.zynq7000.specs.Number.{accepted, refused}
use Rattle.zynq7000.specs.Number.{RefDivOutOfRange, RefClockSmallerThanCpu1xClock, ZeroClock, TargetTooFast, BaudDivOutOfRange}
use Rattle.zynq7000.specs.Slcr.{source_code}
use Rattle.zynq7000.specs.declared.slcr.clocks.SrcSelIo.{SrcSelIo}
use Rattle.zynq7000_hal.specs.declared.clocks.Clocks.{Clocks}
use Rattle.zynq7000_hal.specs.Clocks.{rounded_up, smallest_power_not_below, source_clock, divided_clock, quotient, baud_answer, calculate_answer, loopback_answer}

-- ---- rounding up: the quotient, and one more where something is left

pub round_exact : (n d : ℕ) → 0 < d → n % d ≡ 0 → rounded_up n d ≡ n / d
round_exact n d h e =
    let s : n + (d - 1) ≡ n / d * d + (d - 1) = omega (arith, div-add-mod' n d) in
    ap (λ (x : ℕ). x / d) s ∙ digits_div (n / d) (omega arith)

pub round_up : (n d : ℕ) → 0 < d → (n % d ≡ 0 → ⊥) → rounded_up n d ≡ n / d + 1
round_up n d h e =
    let l : n % d < d = mod-lt n h in
    let s : n + (d - 1) ≡ (n / d + 1) * d + (n % d - 1) =
    omega (arith, div-add-mod' n d, add-mul (n / d) 1 d, one-mul d, e) in
    ap (λ (x : ℕ). x / d) s ∙ digits_div (n / d + 1) (omega arith)

-- the library's `div_ceil`
pub div_ceil_rounds : (n d : ℕ) → 0 < d → n / d + min 1 (n % d) ≡ rounded_up n d
div_ceil_rounds n d h = go (n % d) refl
  where
    go : (r : ℕ) → n % d ≡ r → n / d + min 1 (n % d) ≡ rounded_up n d
    go zero e = rw e (omega (arith, round_exact n d h e))
    go (suc r) e = rw e (omega (arith, round_up n d h (λ z. absurd (omega (arith, e, z)))))

-- the least number of times d that reaches n
pub round_reaches : (n d : ℕ) → 0 < d → n ≤ rounded_up n d * d
round_reaches n d h = omega (arith, lt-div-mul-add {a = n + (d - 1)} h)

pub round_least : (n d : ℕ) → 0 < d → rounded_up n d * d < n + d
round_least n d h = omega (arith, div-mul-le_self (n + (d - 1)) d)

-- and no more than any other that does
pub round_within : (n d k : ℕ) → 0 < d → n ≤ k * d → rounded_up n d ≤ k
round_within n d k h l =
    let b : rounded_up n d < k + 1 = (div-lt_iff_lt-mul h).1 (omega (arith, add-mul k 1 d, one-mul d)) in
    omega arith

pub round_positive : (n d : ℕ) → 0 < d → 0 < n → 0 < rounded_up n d
round_positive n d h p = (le-div_iff_mul-le h).1 (omega (arith, one-mul d))

-- where something is left the quotient has room for one more
pub round_room : (n d : ℕ) → 0 < d → (n % d ≡ 0 → ⊥) → n / d < n
round_room n d h e = omega (arith, div-add-mod' n d, e, le-mul_of_pos_right (n / d) h)

-- ---- what the calculations answer, test by test in 01's order

module _ (s : SrcSelIo) (c : Clocks) (t i : ℕ) where
  pub reference_target_zero : t ≡ 0 → calculate_answer s c t i ≡ refused ZeroClock
  reference_target_zero h = simp (eq-eqb t 0 h)

  pub divisor_too_large : (t ≡ 0 → ⊥) → 63 < rounded_up (source_clock s c) t → calculate_answer s c t i ≡ refused RefDivOutOfRange
  divisor_too_large h l = simp (ne_eqb t 0 h, lt-ltb 63 (rounded_up (source_clock s c) t) l)

  pub reference_clock_zero : (t ≡ 0 → ⊥) → rounded_up (source_clock s c) t ≤ 63 → source_clock s c ≡ 0 → calculate_answer s c t i ≡ refused ZeroClock
  reference_clock_zero h l z = simp (ne_eqb t 0 h, le-ltb 63 (rounded_up (source_clock s c) t) l, eq-eqb (source_clock s c) 0 z)

  pub divided : (t ≡ 0 → ⊥) → rounded_up (source_clock s c) t ≤ 63 → (source_clock s c ≡ 0 → ⊥)
      → calculate_answer s c t i ≡ baud_answer s (rounded_up (source_clock s c) t) (divided_clock (source_clock s c) t) c.cpu_1x_clk i
  divided h l z = simp (ne_eqb t 0 h, le-ltb 63 (rounded_up (source_clock s c) t) l, ne_eqb (source_clock s c) 0 z)

  pub below_cpu_clock : (t ≡ 0 → ⊥) → rounded_up (source_clock s c) t ≤ 63 → (source_clock s c ≡ 0 → ⊥)
      → divided_clock (source_clock s c) t < c.cpu_1x_clk
      → calculate_answer s c t i ≡ refused RefClockSmallerThanCpu1xClock
  below_cpu_clock h l z b =
      simp (
        ne_eqb t 0 h,
        le-ltb 63 (rounded_up (source_clock s c) t) l,
        ne_eqb (source_clock s c) 0 z,
        lt-ltb (divided_clock (source_clock s c) t) c.cpu_1x_clk b,
      )

  pub interface_target_zero : (t ≡ 0 → ⊥) → rounded_up (source_clock s c) t ≤ 63 → (source_clock s c ≡ 0 → ⊥)
      → c.cpu_1x_clk ≤ divided_clock (source_clock s c) t
      → i ≡ 0
      → calculate_answer s c t i ≡ refused ZeroClock
  interface_target_zero h l z b e =
      simp (
        ne_eqb t 0 h,
        le-ltb 63 (rounded_up (source_clock s c) t) l,
        ne_eqb (source_clock s c) 0 z,
        le-ltb (divided_clock (source_clock s c) t) c.cpu_1x_clk b,
        eq-eqb i 0 e,
      )

  pub quotient_too_large : (t ≡ 0 → ⊥) → rounded_up (source_clock s c) t ≤ 63 → (source_clock s c ≡ 0 → ⊥)
      → c.cpu_1x_clk ≤ divided_clock (source_clock s c) t
      → (i ≡ 0 → ⊥)
      → 256 < quotient (source_clock s c) t i
      → calculate_answer s c t i ≡ refused BaudDivOutOfRange
  quotient_too_large h l z b e q =
      simp (
        ne_eqb t 0 h,
        le-ltb 63 (rounded_up (source_clock s c) t) l,
        ne_eqb (source_clock s c) 0 z,
        le-ltb (divided_clock (source_clock s c) t) c.cpu_1x_clk b,
        ne_eqb i 0 e,
        lt-ltb 256 (quotient (source_clock s c) t i) q,
      )

  pub calculated : (t ≡ 0 → ⊥) → rounded_up (source_clock s c) t ≤ 63 → (source_clock s c ≡ 0 → ⊥)
      → c.cpu_1x_clk ≤ divided_clock (source_clock s c) t
      → (i ≡ 0 → ⊥)
      → quotient (source_clock s c) t i ≤ 256
      → calculate_answer s c t i
      ≡ accepted (source_code s ∷ rounded_up (source_clock s c) t ∷ 0 ∷ smallest_power_not_below (quotient (source_clock s c) t i) ∷ [])
  calculated h l z b e q =
      simp (
        ne_eqb t 0 h,
        le-ltb 63 (rounded_up (source_clock s c) t) l,
        ne_eqb (source_clock s c) 0 z,
        le-ltb (divided_clock (source_clock s c) t) c.cpu_1x_clk b,
        ne_eqb i 0 e,
        le-ltb 256 (quotient (source_clock s c) t i) q,
      )

  pub too_fast : 2147483647 < t → loopback_answer s c t ≡ refused TargetTooFast
  too_fast l = simp (lt-ltb 2147483647 t l)

  pub loopback_target_zero : t ≡ 0 → loopback_answer s c t ≡ refused ZeroClock
  loopback_target_zero h = simp (le-ltb 2147483647 t (omega arith), eq-eqb t 0 h)

  pub loopback_divisor_too_large : t ≤ 2147483647 → (t ≡ 0 → ⊥) → 63 < rounded_up (source_clock s c) (t * 2)
      → loopback_answer s c t ≡ refused RefDivOutOfRange
  loopback_divisor_too_large f h l = simp (le-ltb 2147483647 t f, ne_eqb t 0 h, lt-ltb 63 (rounded_up (source_clock s c) (t * 2)) l)

  pub loopback_calculated : t ≤ 2147483647 → (t ≡ 0 → ⊥) → rounded_up (source_clock s c) (t * 2) ≤ 63
      → loopback_answer s c t ≡ accepted (source_code s ∷ rounded_up (source_clock s c) (t * 2) ∷ 1 ∷ 2 ∷ [])
  loopback_calculated f h l = simp (le-ltb 2147483647 t f, ne_eqb t 0 h, le-ltb 63 (rounded_up (source_clock s c) (t * 2)) l)
