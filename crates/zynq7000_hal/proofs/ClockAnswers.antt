-- The answers of the clock calculation: the papers' number and values fix the enum, each refusal comes precisely when they say, and every
-- accepted configuration keeps the interface clock on its target. Assumes nothing.
use Prim.Native.Nat.{ℕ, ◌+◌, ◌-◌, ◌*◌, ◌/◌, ◌<◌, ◌≤◌}
use mathlib.Core.Path.{◌≡◌, refl, sym, ap, subst, ◌∙◌}
use mathlib.Core.Bool.{Bool, true, false, cond}
use mathlib.Core.List.{List, [], ◌∷◌}
use mathlib.Core.Logic.{◌↔◌, ◌⊎◌, inl, inr}
use native.Mathlib.Omega.{arith}
use native.Mathlib.Nat.{add-mul, one-mul, mul-le-mul_right, div-eq_of_lt, lt-div-mul-add}
use lib.Dec.{eqb, leb, ltb}
use borrow.Author.Tests.{eqb-true, eqb-false, leb-true, leb-false, ltb-true, ltb-false}
use Rattle.zynq7000.specs.Number.{Answer, accepted, refused, BaudDivOutOfRange}
use Rattle.zynq7000.specs.Qspi.{divisor_of}
use Rattle.zynq7000.specs.Slcr.{source_code}
use Rattle.zynq7000.specs.declared.qspi.BaudRateDivisor.{BaudRateDivisor}
use Rattle.zynq7000.specs.declared.qspi.BaudRateDivisor.TheVariants as baud
use Rattle.zynq7000.specs.declared.slcr.clocks.SrcSelIo.{SrcSelIo}
use Rattle.zynq7000.specs.declared.slcr.clocks.SrcSelIo.TheVariants.{IoPll, IoPllAlt, ArmPll, DdrPll}
use Rattle.zynq7000_hal.specs.Clocks.{answer_of, rounded_up, source_clock, divided_clock, quotient, smallest_power_not_below, SmallestPowerNotBelow, OnTarget, clock_of, divisor_in, calculate_answer, loopback_answer}
use Rattle.zynq7000_hal.specs.declared.clocks.Clocks.{Clocks}
use Rattle.zynq7000_hal.specs.declared.qspi.BaudRateConfig.{BaudRateConfig}
use Rattle.zynq7000_hal.specs.declared.qspi.BaudRateConfig.TheVariants.{WithLoopback, WithoutLoopback}
use Rattle.zynq7000_hal.specs.declared.qspi.ClockCalculationError.{ClockCalculationError}
use Rattle.zynq7000_hal.specs.declared.qspi.ClockCalculationError.TheVariants as error
use Rattle.zynq7000_hal.specs.declared.qspi.ClockConfig.{ClockConfig}
use Rattle.std.specs.Prelude.{Result, Ok, Err}
use Rattle.zynq7000_hal.proofs.ClockLaws.{round_positive, reference_target_zero, divisor_too_large, reference_clock_zero, below_cpu_clock, interface_target_zero, quotient_too_large, calculated, too_fast, loopback_target_zero, loopback_divisor_too_large, loopback_calculated}
use Rattle.zynq7000_hal.proofs.LadderLaws.{Rung, rung, rung_of, rung_smallest, rung_on_target, smallest_power, only_smallest}

-- ---- an answer read back

source_of_lem : ℕ → SrcSelIo
source_of_lem n = cond (eqb n 0) IoPll (cond (eqb n 1) IoPllAlt (cond (eqb n 2) ArmPll DdrPll))

source_back : (s : SrcSelIo) → source_of_lem (source_code s) ≡ s
unfolding source_of_lem
source_back IoPll = refl
source_back IoPllAlt = refl
source_back ArmPll = refl
source_back DdrPll = refl

baud_of_lem : ℕ → BaudRateDivisor
baud_of_lem n =
    cond (eqb n 2) baud._2
    (cond (eqb n 4) baud._4
    (cond (eqb n 8) baud._8
    (cond (eqb n 16) baud._16
    (cond (eqb n 32) baud._32
    (cond (eqb n 64) baud._64 (cond (eqb n 128) baud._128 baud._256))))))

baud_back : (d : BaudRateDivisor) → baud_of_lem (divisor_of d) ≡ d
unfolding baud_of_lem
baud_back baud._2 = refl
baud_back baud._4 = refl
baud_back baud._8 = refl
baud_back baud._16 = refl
baud_back baud._32 = refl
baud_back baud._64 = refl
baud_back baud._128 = refl
baud_back baud._256 = refl

error_of : ℕ → ClockCalculationError
error_of n = cond (eqb n 6) error.RefDivOutOfRange (cond (eqb n 7) error.RefClockSmallerThanCpu1xClock (cond (eqb n 8) error.ZeroClock (cond (eqb n 9) error.TargetTooFast error.BaudDivOutOfRange)))

config_of_lem : List ℕ → Result ClockConfig ClockCalculationError
config_of_lem [] = Err error.ZeroClock
config_of_lem (s ∷ []) = Err error.ZeroClock
config_of_lem (s ∷ d ∷ []) = Err error.ZeroClock
config_of_lem (s ∷ d ∷ l ∷ []) = Err error.ZeroClock
config_of_lem (s ∷ d ∷ l ∷ b ∷ vs) =
    Ok (record {
      src_sel = source_of_lem s;
      ref_clk_div = d;
      baud_rate_config = cond (eqb l 1) WithLoopback (WithoutLoopback (baud_of_lem b));
    })

calculation_of : Answer → Result ClockConfig ClockCalculationError
calculation_of a = cond (eqb a.number 0) (config_of_lem a.values) (Err (error_of a.number))

config_back : (s : SrcSelIo) (d : ℕ) (b : BaudRateConfig)
    → calculation_of (answer_of (Ok (record { src_sel = s; ref_clk_div = d; baud_rate_config = b })))
    ≡ Ok (record { src_sel = s; ref_clk_div = d; baud_rate_config = b })
unfolding calculation_of config_of_lem
config_back s d WithLoopback = simp source_back
config_back s d (WithoutLoopback b) = simp (source_back, baud_back)

calculation_back : (r : Result ClockConfig ClockCalculationError) → calculation_of (answer_of r) ≡ r
unfolding calculation_of error_of
calculation_back (Err error.RefClockSmallerThanCpu1xClock) = refl
calculation_back (Err error.RefDivOutOfRange) = refl
calculation_back (Err error.ZeroClock) = refl
calculation_back (Err error.TargetTooFast) = refl
calculation_back (Err error.BaudDivOutOfRange) = refl
calculation_back (Ok c) = config_back c.src_sel c.ref_clk_div c.baud_rate_config

-- equal numbers and values, equal answers: a contract that gives `answer_of r` fixes r
pub answer_fixed : (a b : Result ClockConfig ClockCalculationError) → answer_of a ≡ answer_of b → a ≡ b
answer_fixed a b e = sym (calculation_back a) ∙ (ap calculation_of e ∙ calculation_back b)

-- ---- precisely when

-- the reference clock is divided: its target is not 0, the divisor at most 63, and the clock not 0
pub record Divided (s : SrcSelIo) (c : Clocks) (t : ℕ) : Type 0 where
  pub target : t ≡ 0 → ⊥
  pub divisor : rounded_up (source_clock s c) t ≤ 63
  pub clock : source_clock s c ≡ 0 → ⊥

-- the baud rate divisor is sought: the reference is divided and not below cpu_1x, and the interface target is not 0
pub record Sought (s : SrcSelIo) (c : Clocks) (t i : ℕ) : Type 0 where
  pub divided : Divided s c t
  pub not_slow : c.cpu_1x_clk ≤ divided_clock (source_clock s c) t
  pub interface : i ≡ 0 → ⊥

by_thirty_one : (s : SrcSelIo) (c : Clocks) (t i : ℕ) → Sought s c t i → 256 < quotient (source_clock s c) t i
    → calculate_answer s c t i ≡ refused BaudDivOutOfRange
by_thirty_one s c t i f = quotient_too_large s c t i f.divided.target f.divided.divisor f.divided.clock f.not_slow f.interface

by_divisor : (s : SrcSelIo) (c : Clocks) (t i : ℕ) → Sought s c t i → quotient (source_clock s c) t i ≤ 256
    → calculate_answer s c t i
    ≡ accepted (source_code s ∷ rounded_up (source_clock s c) t ∷ 0 ∷ smallest_power_not_below (quotient (source_clock s c) t i) ∷ [])
by_divisor s c t i f = calculated s c t i f.divided.target f.divided.divisor f.divided.clock f.not_slow f.interface

-- the seven rows of `calculate`: what holds in each, and its answer's number
data Row (s : SrcSelIo) (c : Clocks) (t i : ℕ) : Type 0 where
  no_target : t ≡ 0 → (calculate_answer s c t i).number ≡ 8 → Row s c t i
  large : (t ≡ 0 → ⊥) → 63 < rounded_up (source_clock s c) t → (calculate_answer s c t i).number ≡ 6 → Row s c t i
  no_clock : (t ≡ 0 → ⊥) → rounded_up (source_clock s c) t ≤ 63 → source_clock s c ≡ 0 → (calculate_answer s c t i).number ≡ 8 → Row s c t i
  slow : Divided s c t → divided_clock (source_clock s c) t < c.cpu_1x_clk → (calculate_answer s c t i).number ≡ 7 → Row s c t i
  no_interface : Divided s c t → c.cpu_1x_clk ≤ divided_clock (source_clock s c) t → i ≡ 0 → (calculate_answer s c t i).number ≡ 8 → Row s c t i
  no_divisor : Sought s c t i → 256 < quotient (source_clock s c) t i → (calculate_answer s c t i).number ≡ 31 → Row s c t i
  done : Sought s c t i → quotient (source_clock s c) t i ≤ 256 → (calculate_answer s c t i).number ≡ 0 → Row s c t i

row : (s : SrcSelIo) (c : Clocks) (t i : ℕ) → Row s c t i
row s c t i =
    go (eqb t 0) (ltb 63 (rounded_up (source_clock s c) t)) (eqb (source_clock s c) 0) (ltb (divided_clock (source_clock s c) t) c.cpu_1x_clk) (eqb i 0) (ltb 256 (quotient (source_clock s c) t i))
    refl refl refl refl refl refl
  where
    go : (p q r u v w : Bool) → eqb t 0 ≡ p → ltb 63 (rounded_up (source_clock s c) t) ≡ q → eqb (source_clock s c) 0 ≡ r
        → ltb (divided_clock (source_clock s c) t) c.cpu_1x_clk ≡ u
        → eqb i 0 ≡ v
        → ltb 256 (quotient (source_clock s c) t i) ≡ w
        → Row s c t i
    go true q r u v w ep eq er eu ev ew =
        let h = eqb-true t 0 ep in
        no_target h (ap (λ (a : Answer). a.number) (reference_target_zero s c t i h))
    go false true r u v w ep eq er eu ev ew =
        let h = eqb-false t 0 ep in
        let l = ltb-true 63 (rounded_up (source_clock s c) t) eq in
        large h l (ap (λ (a : Answer). a.number) (divisor_too_large s c t i h l))
    go false false true u v w ep eq er eu ev ew =
        let h = eqb-false t 0 ep in
        let l = ltb-false 63 (rounded_up (source_clock s c) t) eq in
        let z = eqb-true (source_clock s c) 0 er in
        no_clock h l z (ap (λ (a : Answer). a.number) (reference_clock_zero s c t i h l z))
    go false false false true v w ep eq er eu ev ew =
        let h = eqb-false t 0 ep in
        let l = ltb-false 63 (rounded_up (source_clock s c) t) eq in
        let z = eqb-false (source_clock s c) 0 er in
        let b = ltb-true (divided_clock (source_clock s c) t) c.cpu_1x_clk eu in
        slow (record { target = h; divisor = l; clock = z }) b (ap (λ (a : Answer). a.number) (below_cpu_clock s c t i h l z b))
    go false false false false true w ep eq er eu ev ew =
        let h = eqb-false t 0 ep in
        let l = ltb-false 63 (rounded_up (source_clock s c) t) eq in
        let z = eqb-false (source_clock s c) 0 er in
        let b = ltb-false (divided_clock (source_clock s c) t) c.cpu_1x_clk eu in
        let e = eqb-true i 0 ev in
        no_interface (record { target = h; divisor = l; clock = z }) b e (ap (λ (a : Answer). a.number) (interface_target_zero s c t i h l z b e))
    go false false false false false w ep eq er eu ev ew =
        let h = eqb-false t 0 ep in
        let l = ltb-false 63 (rounded_up (source_clock s c) t) eq in
        let z = eqb-false (source_clock s c) 0 er in
        let b = ltb-false (divided_clock (source_clock s c) t) c.cpu_1x_clk eu in
        let e = eqb-false i 0 ev in
        by-quotient (record { divided = record { target = h; divisor = l; clock = z }; not_slow = b; interface = e }) w ew
      where
        by-quotient : Sought s c t i → (w : Bool) → ltb 256 (quotient (source_clock s c) t i) ≡ w → Row s c t i
        by-quotient f true ew =
            let q = ltb-true 256 (quotient (source_clock s c) t i) ew in
            no_divisor f q (ap (λ (a : Answer). a.number) (by_thirty_one s c t i f q))
        by-quotient f false ew =
            let q = ltb-false 256 (quotient (source_clock s c) t i) ew in
            done f q (ap (λ (a : Answer). a.number) (by_divisor s c t i f q))

-- a reference clock of 0 has the divisor 0
zero_divides : (t n : ℕ) → (t ≡ 0 → ⊥) → n ≡ 0 → rounded_up n t ≤ 63
zero_divides t n h z =
    let e : n + (t - 1) < t = omega (arith, h) in
    rw (div-eq_of_lt e) (omega arith)

module _ (s : SrcSelIo) (c : Clocks) (t i : ℕ) where
  -- 6: the rounded-up divisor is above 63
  pub six_when : ((calculate_answer s c t i).number ≡ 6) ↔ ((t ≡ 0 → ⊥) × (63 < rounded_up (source_clock s c) t))
  six_when = (to (row s c t i), λ h. ap (λ (a : Answer). a.number) (divisor_too_large s c t i h.0 h.1))
    where
      to : Row s c t i → (calculate_answer s c t i).number ≡ 6 → (t ≡ 0 → ⊥) × (63 < rounded_up (source_clock s c) t)
      to (no_target h e) q = absurd (omega arith)
      to (large h l e) q = (h, l)
      to (no_clock h l z e) q = absurd (omega arith)
      to (slow d b e) q = absurd (omega arith)
      to (no_interface d b z e) q = absurd (omega arith)
      to (no_divisor f l e) q = absurd (omega arith)
      to (done f l e) q = absurd (omega arith)

  -- 7: the reference divided, rounded down, is below cpu_1x
  pub seven_when : ((calculate_answer s c t i).number ≡ 7) ↔ (Divided s c t × (divided_clock (source_clock s c) t < c.cpu_1x_clk))
  seven_when = (
    to (row s c t i),
    λ h. ap (λ (a : Answer). a.number) (below_cpu_clock s c t i h.0.target h.0.divisor h.0.clock h.1),
  )
    where
      to : Row s c t i → (calculate_answer s c t i).number ≡ 7 → Divided s c t × (divided_clock (source_clock s c) t < c.cpu_1x_clk)
      to (no_target h e) q = absurd (omega arith)
      to (large h l e) q = absurd (omega arith)
      to (no_clock h l z e) q = absurd (omega arith)
      to (slow d b e) q = (d, b)
      to (no_interface d b z e) q = absurd (omega arith)
      to (no_divisor f l e) q = absurd (omega arith)
      to (done f l e) q = absurd (omega arith)

  -- 8: a zero divisor is reached: the reference target; the divisor that a reference clock of 0 gives; the interface target
  pub eight_when : ((calculate_answer s c t i).number ≡ 8)
      ↔ ((t ≡ 0)
      ⊎ (((t ≡ 0 → ⊥) × (source_clock s c ≡ 0)) ⊎ (Divided s c t × (c.cpu_1x_clk ≤ divided_clock (source_clock s c) t) × (i ≡ 0))))
  eight_when = (to (row s c t i), from)
    where
      to : Row s c t i → (calculate_answer s c t i).number ≡ 8
          → (t ≡ 0) ⊎ (((t ≡ 0 → ⊥) × (source_clock s c ≡ 0)) ⊎ (Divided s c t × (c.cpu_1x_clk ≤ divided_clock (source_clock s c) t) × (i ≡ 0)))
      to (no_target h e) q = inl h
      to (large h l e) q = absurd (omega arith)
      to (no_clock h l z e) q = inr (inl (h, z))
      to (slow d b e) q = absurd (omega arith)
      to (no_interface d b z e) q = inr (inr (d, b, z))
      to (no_divisor f l e) q = absurd (omega arith)
      to (done f l e) q = absurd (omega arith)

      from : (t ≡ 0) ⊎ (((t ≡ 0 → ⊥) × (source_clock s c ≡ 0)) ⊎ (Divided s c t × (c.cpu_1x_clk ≤ divided_clock (source_clock s c) t) × (i ≡ 0)))
          → (calculate_answer s c t i).number ≡ 8
      from (inl h) = ap (λ (a : Answer). a.number) (reference_target_zero s c t i h)
      from (inr (inl h)) =
          ap (λ (a : Answer). a.number) (reference_clock_zero s c t i h.0 (zero_divides t (source_clock s c) h.0 h.1) h.1)
      from (inr (inr h)) =
          ap (λ (a : Answer). a.number) (interface_target_zero s c t i h.0.target h.0.divisor h.0.clock h.1 h.2)

  -- 31: the quotient is above 256, "after 7 and after 8 for the interface target"
  pub thirty_one_when : ((calculate_answer s c t i).number ≡ 31) ↔ (Sought s c t i × (256 < quotient (source_clock s c) t i))
  thirty_one_when = (to (row s c t i), λ h. ap (λ (a : Answer). a.number) (by_thirty_one s c t i h.0 h.1))
    where
      to : Row s c t i → (calculate_answer s c t i).number ≡ 31 → Sought s c t i × (256 < quotient (source_clock s c) t i)
      to (no_target h e) q = absurd (omega arith)
      to (large h l e) q = absurd (omega arith)
      to (no_clock h l z e) q = absurd (omega arith)
      to (slow d b e) q = absurd (omega arith)
      to (no_interface d b z e) q = absurd (omega arith)
      to (no_divisor f l e) q = (f, l)
      to (done f l e) q = absurd (omega arith)

  -- in other words: no power of two from 2 to 256 is the smallest that is not below the quotient
  pub thirty_one_without_power : ((calculate_answer s c t i).number ≡ 31)
      ↔ (Sought s c t i × ((d : ℕ) → SmallestPowerNotBelow (quotient (source_clock s c) t i) d → ⊥))
  thirty_one_without_power = (
    λ e.
        let w = thirty_one_when.0 e in
        (w.0, λ d p. omega (arith, w.1, (only_smallest q d p).0)),
    λ h. thirty_one_when.1 (h.0, above h.1 (leb q 256) refl),
  )
    where
      q : ℕ
      q = quotient (source_clock s c) t i

      above : ((d : ℕ) → SmallestPowerNotBelow q d → ⊥) → (b : Bool) → leb q 256 ≡ b → 256 < q
      above none true e = absurd (none (smallest_power_not_below q) (smallest_power q (leb-true q 256 e)))
      above none false e = leb-false q 256 e

  -- accepted: none of the refusals
  pub accepted_when : ((calculate_answer s c t i).number ≡ 0) ↔ (Sought s c t i × (quotient (source_clock s c) t i ≤ 256))
  accepted_when = (to (row s c t i), λ h. ap (λ (a : Answer). a.number) (by_divisor s c t i h.0 h.1))
    where
      to : Row s c t i → (calculate_answer s c t i).number ≡ 0 → Sought s c t i × (quotient (source_clock s c) t i ≤ 256)
      to (no_target h e) q = absurd (omega arith)
      to (large h l e) q = absurd (omega arith)
      to (no_clock h l z e) q = absurd (omega arith)
      to (slow d b e) q = absurd (omega arith)
      to (no_interface d b z e) q = absurd (omega arith)
      to (no_divisor f l e) q = absurd (omega arith)
      to (done f l e) q = (f, l)

-- ---- the interface clock of every accepted configuration

module _ (s : SrcSelIo) (c : Clocks) (t i : ℕ) where
  abbrev configured : BaudRateDivisor → ClockConfig
  configured d = record { src_sel = s; ref_clk_div = rounded_up (source_clock s c) t; baud_rate_config = WithoutLoopback d }

  accepted_rung : (f : Sought s c t i) (q : quotient (source_clock s c) t i ≤ 256)
      → calculate_answer s c t i ≡ answer_of (Ok (configured (rung_of (quotient (source_clock s c) t i) q).divisor))
  accepted_rung f q =
      let r = rung_of (quotient (source_clock s c) t i) q in
      by_divisor s c t i f q
      ∙ ap (λ (n : ℕ). accepted (source_code s ∷ rounded_up (source_clock s c) t ∷ 0 ∷ n ∷ [])) (rung (quotient (source_clock s c) t i) r.divisor r.on)

  -- what holds of each configuration that may be accepted holds of the one that `calculate` answers
  of_accepted : (P : ClockConfig → Type 0) → (Sought s c t i → (r : Rung (quotient (source_clock s c) t i)) → P (configured r.divisor))
      → (k : ClockConfig) → answer_of (Ok k) ≡ calculate_answer s c t i
      → P k
  of_accepted P h k e =
      let w = (accepted_when s c t i).0 (ap (λ (a : Answer). a.number) (sym e)) in
      let r = rung_of (quotient (source_clock s c) t i) w.1 in
      let f : Ok k ≡ Ok (configured r.divisor) = answer_fixed (Ok k) (Ok (configured r.divisor)) (e ∙ accepted_rung w.0 w.1) in
      subst P (sym (ap config f)) (h w.0 r)
    where
      config : Result ClockConfig ClockCalculationError → ClockConfig
      config (Ok k) = k
      config (Err e) = k

  -- it is without loopback, and its reference clock is the one that 7 and the quotient are about
  pub without_loopback : (k : ClockConfig) → answer_of (Ok k) ≡ calculate_answer s c t i → k.baud_rate_config ≡ WithLoopback → ⊥
  without_loopback = of_accepted (λ k. k.baud_rate_config ≡ WithLoopback → ⊥) λ f r e. omega (arith, ap flag e)
    where
      flag : BaudRateConfig → ℕ
      flag WithLoopback = 1
      flag (WithoutLoopback d) = 0

  pub divided_clock_lem : (k : ClockConfig) → answer_of (Ok k) ≡ calculate_answer s c t i → clock_of k c ≡ divided_clock (source_clock s c) t
  divided_clock_lem = of_accepted (λ k. clock_of k c ≡ divided_clock (source_clock s c) t) λ f r. refl

  -- its baud rate divisor is the smallest power of two from 2 to 256 that is not below the quotient
  pub smallest_divisor : (k : ClockConfig) → answer_of (Ok k) ≡ calculate_answer s c t i
      → SmallestPowerNotBelow (quotient (source_clock s c) t i) (divisor_in k)
  smallest_divisor = of_accepted (λ k. SmallestPowerNotBelow (quotient (source_clock s c) t i) (divisor_in k)) λ f r. rung_smallest (quotient (source_clock s c) t i) r.divisor r.on

  -- and keeps the interface clock on its target
  pub on_target : (k : ClockConfig) → answer_of (Ok k) ≡ calculate_answer s c t i → OnTarget (clock_of k c) i (divisor_in k)
  on_target = of_accepted (λ k. OnTarget (clock_of k c) i (divisor_in k)) λ f r.
      rung_on_target (divided_clock (source_clock s c) t) i (omega (arith, f.interface)) r.divisor r.on

  -- rounding costs less than a hertz of the reference clock: over both divisors the source is below the target and a d-th of a hertz
  pub before_rounding : (k : ClockConfig) → answer_of (Ok k) ≡ calculate_answer s c t i
      → source_clock k.src_sel c < (i * divisor_in k + 1) * k.ref_clk_div
  before_rounding = of_accepted (λ k. source_clock k.src_sel c < (i * divisor_in k + 1) * k.ref_clk_div) λ f r.
      let n = source_clock s c in
      let d = rounded_up n t in
      let positive : 0 < d = round_positive n t (omega (arith, f.divided.target)) (omega (arith, f.divided.clock)) in
      let o = rung_on_target (n / d) i (omega (arith, f.interface)) r.divisor r.on in
      let m : n / d * d ≤ i * divisor_of r.divisor * d = mul-le-mul_right d o.not_above in
      omega (arith, m, lt-div-mul-add {a = n} positive, add-mul (i * divisor_of r.divisor) 1 d, one-mul d)

-- ---- loopback

data LoopbackRow (s : SrcSelIo) (c : Clocks) (t : ℕ) : Type 0 where
  fast : 2147483647 < t → (loopback_answer s c t).number ≡ 9 → LoopbackRow s c t
  no_target : t ≡ 0 → (loopback_answer s c t).number ≡ 8 → LoopbackRow s c t
  large : t ≤ 2147483647 → (t ≡ 0 → ⊥) → 63 < rounded_up (source_clock s c) (t * 2) → (loopback_answer s c t).number ≡ 6 → LoopbackRow s c t
  done : t ≤ 2147483647 → (t ≡ 0 → ⊥) → rounded_up (source_clock s c) (t * 2) ≤ 63 → (loopback_answer s c t).number ≡ 0 → LoopbackRow s c t

loopback_row : (s : SrcSelIo) (c : Clocks) (t : ℕ) → LoopbackRow s c t
loopback_row s c t = go (ltb 2147483647 t) (eqb t 0) (ltb 63 (rounded_up (source_clock s c) (t * 2))) refl refl refl
  where
    go : (p q r : Bool) → ltb 2147483647 t ≡ p → eqb t 0 ≡ q → ltb 63 (rounded_up (source_clock s c) (t * 2)) ≡ r → LoopbackRow s c t
    go true q r ep eq er =
        let h = ltb-true 2147483647 t ep in
        fast h (ap (λ (a : Answer). a.number) (too_fast s c t 0 h))
    go false true r ep eq er =
        let z = eqb-true t 0 eq in
        no_target z (ap (λ (a : Answer). a.number) (loopback_target_zero s c t 0 z))
    go false false true ep eq er =
        let h = ltb-false 2147483647 t ep in
        let z = eqb-false t 0 eq in
        let l = ltb-true 63 (rounded_up (source_clock s c) (t * 2)) er in
        large h z l (ap (λ (a : Answer). a.number) (loopback_divisor_too_large s c t 0 h z l))
    go false false false ep eq er =
        let h = ltb-false 2147483647 t ep in
        let z = eqb-false t 0 eq in
        let l = ltb-false 63 (rounded_up (source_clock s c) (t * 2)) er in
        done h z l (ap (λ (a : Answer). a.number) (loopback_calculated s c t 0 h z l))

module _ (s : SrcSelIo) (c : Clocks) (t : ℕ) where
  -- 9: the target is above 2,147,483,647
  pub loopback_nine_when : ((loopback_answer s c t).number ≡ 9) ↔ (2147483647 < t)
  loopback_nine_when = (to (loopback_row s c t), λ h. ap (λ (a : Answer). a.number) (too_fast s c t 0 h))
    where
      to : LoopbackRow s c t → (loopback_answer s c t).number ≡ 9 → 2147483647 < t
      to (fast h e) q = h
      to (no_target z e) q = absurd (omega arith)
      to (large h z l e) q = absurd (omega arith)
      to (done h z l e) q = absurd (omega arith)

  -- 8: the target is 0
  pub loopback_eight_when : ((loopback_answer s c t).number ≡ 8) ↔ (t ≡ 0)
  loopback_eight_when = (to (loopback_row s c t), λ z. ap (λ (a : Answer). a.number) (loopback_target_zero s c t 0 z))
    where
      to : LoopbackRow s c t → (loopback_answer s c t).number ≡ 8 → t ≡ 0
      to (fast h e) q = absurd (omega arith)
      to (no_target z e) q = z
      to (large h z l e) q = absurd (omega arith)
      to (done h z l e) q = absurd (omega arith)

  -- 6: the rounded-up divisor is above 63
  pub loopback_six_when : ((loopback_answer s c t).number ≡ 6)
      ↔ ((t ≤ 2147483647) × (t ≡ 0 → ⊥) × (63 < rounded_up (source_clock s c) (t * 2)))
  loopback_six_when =
      (to (loopback_row s c t), λ h. ap (λ (a : Answer). a.number) (loopback_divisor_too_large s c t 0 h.0 h.1 h.2))
    where
      to : LoopbackRow s c t → (loopback_answer s c t).number ≡ 6 → (t ≤ 2147483647) × (t ≡ 0 → ⊥) × (63 < rounded_up (source_clock s c) (t * 2))
      to (fast h e) q = absurd (omega arith)
      to (no_target z e) q = absurd (omega arith)
      to (large h z l e) q = (h, z, l)
      to (done h z l e) q = absurd (omega arith)

  -- a reference of 0 is accepted with divisor 0
  pub loopback_zero_reference : t ≤ 2147483647 → (t ≡ 0 → ⊥) → source_clock s c ≡ 0
      → loopback_answer s c t ≡ accepted (source_code s ∷ 0 ∷ 1 ∷ 2 ∷ [])
  loopback_zero_reference h z e =
      let d : rounded_up (source_clock s c) (t * 2) ≡ 0 = div-eq_of_lt (omega (arith, z)) in
      loopback_calculated s c t 0 h z (rw d (omega arith)) ∙ ap (λ (n : ℕ). accepted (source_code s ∷ n ∷ 1 ∷ 2 ∷ [])) d

-- ---- "The two interface cases in 01 become 64 and 128": 5,000,000 gives quotient 40 and divisor 64, 2,500,000 gives 80 and 128

abbrev case_clocks : Clocks
case_clocks = record { io_ref_clk = 1000000000; arm_ref_clk = 0; ddr_ref_clk = 0; cpu_1x_clk = 111111111 }

pub quotient_40 : quotient 1000000000 200000000 5000000 ≡ 40
quotient_40 = refl

pub quotient_80 : quotient 1000000000 200000000 2500000 ≡ 80
quotient_80 = refl

pub divisor_64 : calculate_answer IoPll case_clocks 200000000 5000000 ≡ accepted (0 ∷ 5 ∷ 0 ∷ 64 ∷ [])
divisor_64 = refl

pub divisor_128 : calculate_answer IoPll case_clocks 200000000 2500000 ≡ accepted (0 ∷ 5 ∷ 0 ∷ 128 ∷ [])
divisor_128 = refl
