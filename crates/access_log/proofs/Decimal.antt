-- The decimal digits that `io::decimal` gives are those of the text: both are the fewest. Assumes nothing.
use Rattle.std.proofs.Common.{◌≡◌, ℕ, zero, suc, ◌+◌, ◌-◌, ◌*◌, ◌/◌, ◌%◌, ◌^◌, ◌<◌, ◌≤◌, Bool, true, false, ltb, refl, ap, ◌∙◌, pow-suc, arith, ltb-false, ltb-true, le-ltb, lt-ltb}
use native.Mathlib.Nat.{one-le-pow, pow-le-pow_right}
use Rattle.io.specs.Digits.{last_digits, hex_digit_ascii, IsDigitCount}
use Rattle.access_log.specs.Text.{decimal_up_to}

lower : (k : ℕ) → suc (suc k) - 1 ≡ suc k
lower k = omega arith

lowest : (k : ℕ) → suc k - 1 ≡ k
lowest k = omega arith

none : 1 ≤ 0 → ⊥
none h = omega arith

digit_glyph : (d : ℕ) → d < 10 → hex_digit_ascii d ≡ 48 + d
digit_glyph d h = simp (lt-ltb d 10 h)

-- a number with a digit before its last has ten of them at least, and without its last digit is written in one less
module _ (k n : ℕ) (f : IsDigitCount 10 1 n (suc (suc k))) where
  more_than_nine : 10 ≤ n
  more_than_nine =
      let low : 10 ^ (suc (suc k) - 1) ≤ n = f.2 (omega arith) in
      let e : 10 ^ (suc (suc k) - 1) ≡ 10 ^ k * 10 = ap (λ (i : ℕ). 10 ^ i) (lower k) ∙ pow-suc 10 k in
      omega (arith, one-le-pow k 10 (omega arith))

  without_last : IsDigitCount 10 1 (n / 10) (suc k)
  without_last =
      let e : 10 ^ suc (suc k) ≡ 10 ^ suc k * 10 = pow-suc 10 (suc k) in
      let high : n < 10 ^ suc (suc k) = f.1 in
      let below : n / 10 < 10 ^ suc k = omega arith in
      let low : 10 ^ (suc (suc k) - 1) ≤ n = f.2 (omega arith) in
      let e₁ : 10 ^ (suc (suc k) - 1) ≡ 10 ^ k * 10 = ap (λ (i : ℕ). 10 ^ i) (lower k) ∙ pow-suc 10 k in
      let e₂ : 10 ^ (suc k - 1) ≡ 10 ^ k = ap (λ (i : ℕ). 10 ^ i) (lowest k) in
      let least : 10 ^ (suc k - 1) ≤ n / 10 = omega arith in
      (omega arith, below, λ _. least)

pub decimal_digits : (most k n : ℕ) → k ≤ most → IsDigitCount 10 1 n k → decimal_up_to most n ≡ last_digits 10 k n
unfolding decimal_up_to
decimal_digits most zero n h f = absurd (none f.0)
decimal_digits zero (suc k) n h f = absurd (omega arith)
decimal_digits (suc most) (suc zero) n h f = simp (lt-ltb n 10 f.1, digit_glyph (n % 10) (omega arith))
decimal_digits (suc most) (suc (suc k)) n h f =
    simp (
      le-ltb n 10 (more_than_nine k n f),
      digit_glyph (n % 10) (omega arith),
      decimal_digits most (suc k) (n / 10) (omega arith) (without_last k n f),
    )

bound : (n k : ℕ) → n < 2 ^ 64 → IsDigitCount 10 1 n k → (b : Bool) → ltb 20 k ≡ b → k ≤ 20
bound n k h f false e = ltb-false 20 k e
bound n k h f true e =
    let more : 20 < k = ltb-true 20 k e in
    let low : 10 ^ (k - 1) ≤ n = f.2 (omega arith) in
    let p : 10 ^ 20 ≤ 10 ^ (k - 1) = pow-le-pow_right {n = 10} (omega arith) {i = 20} {j = k - 1} (omega arith) in
    absurd (omega arith)

-- a number of 64 bits has at most 20 digits
pub at_most_20 : (n k : ℕ) → n < 2 ^ 64 → IsDigitCount 10 1 n k → k ≤ 20
at_most_20 n k h f = bound n k h f (ltb 20 k) refl
