-- The clock calculation: document 01, "What the input can bring on", rules 6 to 9 in the order that 01 gives for `calculate` and for
-- loopback; the baud rate divisor and 31 are document 02's, U3.
use Rattle.std.specs.Prelude.{ℕ, ◌+◌, ◌-◌, ◌*◌, ◌/◌, ◌^◌, ◌<◌, ◌≤◌, ◌≡◌, cond, List, [], ◌∷◌, eqb, leb, ltb, Result, Ok, Err}
use Rattle.zynq7000.specs.Number.{Answer, Refusal, accepted, refused}
use Rattle.zynq7000.specs.Number.{RefDivOutOfRange, RefClockSmallerThanCpu1xClock, ZeroClock, TargetTooFast, BaudDivOutOfRange}
use Rattle.zynq7000.specs.Qspi.{divisor_of}
use Rattle.zynq7000.specs.Slcr.{source_code}
use Rattle.zynq7000.specs.declared.qspi.BaudRateDivisor.{BaudRateDivisor}
use Rattle.zynq7000.specs.declared.qspi.BaudRateDivisor.TheVariants as baud
use Rattle.zynq7000.specs.declared.slcr.clocks.SrcSelIo.{SrcSelIo}
use Rattle.zynq7000.specs.declared.slcr.clocks.SrcSelIo.TheVariants.{IoPll, IoPllAlt, ArmPll, DdrPll}
use Rattle.zynq7000_hal.specs.declared.clocks.Clocks.{Clocks}
use Rattle.zynq7000_hal.specs.declared.qspi.BaudRateConfig.{BaudRateConfig}
use Rattle.zynq7000_hal.specs.declared.qspi.BaudRateConfig.TheVariants.{WithLoopback, WithoutLoopback}
use Rattle.zynq7000_hal.specs.declared.qspi.ClockCalculationError.{ClockCalculationError}
use Rattle.zynq7000_hal.specs.declared.qspi.ClockCalculationError.TheVariants as error
use Rattle.zynq7000_hal.specs.declared.qspi.ClockConfig.{ClockConfig}

-- ---- answers

abbrev pub refusal_of : ClockCalculationError → Refusal
refusal_of error.RefClockSmallerThanCpu1xClock = RefClockSmallerThanCpu1xClock
refusal_of error.RefDivOutOfRange = RefDivOutOfRange
refusal_of error.ZeroClock = ZeroClock
refusal_of error.TargetTooFast = TargetTooFast
refusal_of error.BaudDivOutOfRange = BaudDivOutOfRange

-- the baud rate divisor: with loopback it is 2, as in the Rust
abbrev pub baud_of : BaudRateConfig → BaudRateDivisor
baud_of WithLoopback = baud._2
baud_of (WithoutLoopback d) = d

-- 1 with loopback, 0 without, then the baud rate divisor
abbrev pub baud_values : BaudRateConfig → List ℕ
baud_values WithLoopback = 1 ∷ 2 ∷ []
baud_values (WithoutLoopback d) = 0 ∷ divisor_of d ∷ []

-- a configuration's values: the source's code, the reference divisor, the baud rate
abbrev pub answer_of : Result ClockConfig ClockCalculationError → Answer
answer_of (Ok c) = accepted (source_code c.src_sel ∷ c.ref_clk_div ∷ baud_values c.baud_rate_config)
answer_of (Err e) = refused (refusal_of e)

-- ---- the calculation

abbrev pub source_clock : SrcSelIo → Clocks → ℕ
source_clock IoPll c = c.io_ref_clk
source_clock IoPllAlt c = c.io_ref_clk
source_clock ArmPll c = c.arm_ref_clk
source_clock DdrPll c = c.ddr_ref_clk

abbrev pub rounded_up : ℕ → ℕ → ℕ
rounded_up n d = (n + (d - 1)) / d

-- the reference clock divided, rounded down, where `target` is asked of it
abbrev pub divided_clock : ℕ → ℕ → ℕ
divided_clock clock target = clock / rounded_up clock target

-- 01 speaks of it as the quotient: what the baud rate divisor is sought for
abbrev pub quotient : ℕ → ℕ → ℕ → ℕ
quotient clock target interface = rounded_up (divided_clock clock target) interface

-- ---- U3: "the divisor shall be the smallest power of two from 2 to 256 that is not below the quotient"

-- the powers of two from 2 to 256, rising
abbrev pub powers : List ℕ
powers = 2 ∷ 4 ∷ 8 ∷ 16 ∷ 32 ∷ 64 ∷ 128 ∷ 256 ∷ []

-- of rising numbers the smallest that is not below q; 0 where each is below it
abbrev pub smallest_not_below : ℕ → List ℕ → ℕ
smallest_not_below q [] = 0
smallest_not_below q (p ∷ ps) = cond (leb q p) p (smallest_not_below q ps)

abbrev pub smallest_power_not_below : ℕ → ℕ
smallest_power_not_below q = smallest_not_below q powers

-- the same words without a search: up to 256 `smallest_power_not_below` is it (`smallest_power` in proofs/LadderLaws.antt), and nothing else is
-- (`only_smallest`)
pub record PowerFrom2To256 (p : ℕ) : Type 0 where
  pub exponent : ℕ
  pub power : p ≡ 2 ^ exponent
  pub from_2 : 2 ≤ p
  pub to_256 : p ≤ 256

pub record SmallestPowerNotBelow (q d : ℕ) : Type 0 where
  pub power : PowerFrom2To256 d
  pub not_below : q ≤ d
  pub smallest : (p : ℕ) → PowerFrom2To256 p → q ≤ p → d ≤ p

-- a configuration's reference clock, as rounded down, and its baud rate divisor
abbrev pub clock_of : ClockConfig → Clocks → ℕ
clock_of k c = source_clock k.src_sel c / k.ref_clk_div

abbrev pub divisor_in : ClockConfig → ℕ
divisor_in k = divisor_of (baud_of k.baud_rate_config)

-- what the divisor d does for a reference clock of r, as rounded down, and an interface target: the interface clock, r over d, is not
-- above the target, and above half of it unless d is 2
pub record OnTarget (r target d : ℕ) : Type 0 where
  pub not_above : r ≤ target * d
  pub above_half : (d ≡ 2 → ⊥) → target * d < 2 * r

-- ---- answers in 01's order

-- what follows once the reference is divided: 7, 8 (interface target), 31 "for quotients above 256, after 7 and after 8 for the interface
-- target", or the divisor
abbrev pub baud_answer : SrcSelIo → ℕ → ℕ → ℕ → ℕ → Answer
baud_answer s divisor divided cpu interface =
    cond (ltb divided cpu) (refused RefClockSmallerThanCpu1xClock)
    (cond (eqb interface 0) (refused ZeroClock)
    (cond (ltb 256 (rounded_up divided interface)) (refused BaudDivOutOfRange)
    (accepted (source_code s ∷ divisor ∷ 0 ∷ smallest_power_not_below (rounded_up divided interface) ∷ []))))

-- `calculate`: 8 (reference target), 6, 8 (reference clock 0), 7, 8 (interface target), 31
abbrev pub calculate_answer : SrcSelIo → Clocks → ℕ → ℕ → Answer
calculate_answer s c target interface =
    cond (eqb target 0) (refused ZeroClock)
    (cond (ltb 63 (rounded_up (source_clock s c) target)) (refused RefDivOutOfRange)
    (cond (eqb (source_clock s c) 0) (refused ZeroClock)
    (baud_answer s (rounded_up (source_clock s c) target) (divided_clock (source_clock s c) target) c.cpu_1x_clk interface)))

-- loopback: 9, 8, 6
abbrev pub loopback_answer : SrcSelIo → Clocks → ℕ → Answer
loopback_answer s c target =
    cond (ltb 2147483647 target) (refused TargetTooFast)
    (cond (eqb target 0) (refused ZeroClock)
    (cond (ltb 63 (rounded_up (source_clock s c) (target * 2))) (refused RefDivOutOfRange)
    (accepted (source_code s ∷ rounded_up (source_clock s c) (target * 2) ∷ 1 ∷ 2 ∷ []))))
