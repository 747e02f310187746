-- The ladder of document 01 and of the Rust, which document 02, U3, mends: it gives the same divisor precisely up to quotient 32, and is off
-- the target above. Assumes nothing.
use Prim.Native.Nat.{ℕ, ◌*◌, ◌<◌, ◌≤◌}
use mathlib.Core.Path.{◌≡◌, refl, sym}
use mathlib.Core.Bool.{Bool, true, false, cond}
use native.Mathlib.Omega.{arith}
use lib.Dec.{leb}
use borrow.Author.Tests.{le-leb, lt-leb}
use Rattle.zynq7000.specs.Qspi.{divisor_of}
use Rattle.zynq7000.specs.declared.qspi.BaudRateDivisor.{BaudRateDivisor}
use Rattle.zynq7000.specs.declared.qspi.BaudRateDivisor.TheVariants as baud
use Rattle.zynq7000_hal.specs.Clocks.{rounded_up, smallest_power_not_below, OnTarget}
use Rattle.zynq7000_hal.proofs.LadderLaws.{rung, target_on_rung}

-- 33 to 64 go to 256, 65 to 128 to 64, 129 to 256 to 128
abbrev pub old_ladder : ℕ → BaudRateDivisor
old_ladder q =
    cond (leb q 2) baud._2
    (cond (leb q 4) baud._4
    (cond (leb q 8) baud._8
    (cond (leb q 16) baud._16
    (cond (leb q 32) baud._32
    (cond (leb q 64) baud._256
    (cond (leb q 128) baud._64
    (cond (leb q 256) baud._128 baud._256)))))))

-- "equality with the Rust ends at quotient 32"
pub old_agrees : (q : ℕ) → q ≤ 32 → divisor_of (old_ladder q) ≡ smallest_power_not_below q
old_agrees q h = go (leb q 2) (leb q 4) (leb q 8) (leb q 16) refl refl refl refl
  where
    go : (a b c d : Bool) → leb q 2 ≡ a → leb q 4 ≡ b → leb q 8 ≡ c → leb q 16 ≡ d → divisor_of (old_ladder q) ≡ smallest_power_not_below q
    go true b c d ea eb ec ed = simp ea
    go false true c d ea eb ec ed = simp (ea, eb)
    go false false true d ea eb ec ed = simp (ea, eb, ec)
    go false false false true ea eb ec ed = simp (ea, eb, ec, ed)
    go false false false false ea eb ec ed = simp (ea, eb, ec, ed, le-leb q 32 h)

pub old_differs : (q : ℕ) → 32 < q → divisor_of (old_ladder q) ≡ smallest_power_not_below q → ⊥
old_differs q l = simp (lt-leb q 2 (omega arith), lt-leb q 4 (omega arith), lt-leb q 8 (omega arith), lt-leb q 16 (omega arith), lt-leb q 32 l) (go (leb q 64) (leb q 128) (leb q 256))
  where
    go : (a b c : Bool)
        → divisor_of (cond a baud._256 (cond b baud._64 (cond c baud._128 baud._256))) ≡ cond a 64 (cond b 128 (cond c 256 0))
        → ⊥
    go true b c e = omega (arith, e)
    go false true c e = omega (arith, e)
    go false false true e = omega (arith, e)
    go false false false e = omega (arith, e)

-- what the user of the slow cable met, at every quotient above 32
pub old_off_target : (r target : ℕ) → 0 < target → 32 < rounded_up r target
    → OnTarget r target (divisor_of (old_ladder (rounded_up r target)))
    → ⊥
old_off_target r target positive l o =
    let q = rounded_up r target in
    old_differs q l (sym (rung q (old_ladder q) (target_on_rung r target positive (old_ladder q) o)))

-- U3: "A slow probe cable asked for 5 MHz and got under a sixth of it; at 2.5 MHz the clock ran above the target", at a reference of
-- 200,000,000 Hz
pub old_under_a_sixth : 6 * 200000000 < 5000000 * divisor_of (old_ladder 40)
old_under_a_sixth = omega arith

pub old_above_target : 2500000 * divisor_of (old_ladder 80) < 200000000
old_above_target = omega arith
