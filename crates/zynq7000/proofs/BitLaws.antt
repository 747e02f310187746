-- One bit of a word, over the bit's number: setting and clearing it change it and no other bit, and a 32-bit word stays one.
-- A word is its bits from i up, and those below i: both changes are made in the first part alone. Assumes nothing.
use Prim.Native.Nat.{ℕ, ◌+◌, ◌-◌, ◌*◌, ◌/◌, ◌%◌, ◌^◌, ◌<◌, ◌≤◌}
use mathlib.Core.Path.{◌≡◌, refl, sym, ap, ◌∙◌}
use mathlib.Core.Bool.{Bool, true, false}
use native.Mathlib.Omega.{arith}
use native.Mathlib.Nat.{add-mul, mod-lt, mod-eq_of_lt, one-mul, zero-mul, zero-mod, zero-div, le_trans, le_of_eq, mul-le-mul_right, div-mul-le_self}
use lib.Arith.{digits_lt}
use lib.Dec.{ltb}
use lib.Pow.{pow_pos, pow-add, pow-lt, split, high, low, shl-shr, shr-shr, shr_lt, field, mod-mod-pow}
use borrow.Author.Tests.{ltb-true, ltb-false}
use Rattle.zynq7000.specs.Bits.{bit, put, clear, zero_below}

-- the code's `1 << i`
pub weight : (i : ℕ) → i < 32 → 2 ^ i % 2 ^ 32 ≡ 2 ^ i
weight i h = mod-eq_of_lt (pow-lt h)

-- ---- what is added and taken off, by the bit as it is

pub put_set : (i w : ℕ) → bit i w ≡ 1 → put i w ≡ w
put_set i w h = omega (arith, ap (λ (n : ℕ). (1 - n) * 2 ^ i) h, zero-mul (2 ^ i))

pub put_clear : (i w : ℕ) → bit i w ≡ 0 → put i w ≡ w + 2 ^ i
put_clear i w h = omega (arith, ap (λ (n : ℕ). (1 - n) * 2 ^ i) h, one-mul (2 ^ i))

pub clear_set : (i w : ℕ) → bit i w ≡ 1 → clear i w ≡ w - 2 ^ i
clear_set i w h = omega (arith, ap (λ (n : ℕ). n * 2 ^ i) h, one-mul (2 ^ i))

pub clear_clear : (i w : ℕ) → bit i w ≡ 0 → clear i w ≡ w
clear_clear i w h = omega (arith, ap (λ (n : ℕ). n * 2 ^ i) h, zero-mul (2 ^ i))

-- a word has the weight of a bit that is set
pub weight_le : (i w : ℕ) → bit i w ≡ 1 → 2 ^ i ≤ w
weight_le i w h = le_trans (le_of_eq (sym (one-mul (2 ^ i)))) (le_trans (mul-le-mul_right (2 ^ i) (omega arith)) (div-mul-le_self w (2 ^ i)))

-- ---- a word whose part from bit i up is changed to q, the part below it kept

above : (i w q : ℕ) → (q * 2 ^ i + w % 2 ^ i) / 2 ^ i ≡ q
above i w q = high q i (mod-lt w (pow_pos i))

below : (i w q : ℕ) → (q * 2 ^ i + w % 2 ^ i) % 2 ^ i ≡ w % 2 ^ i
below i w q = low q i (mod-lt w (pow_pos i))

put_parts : (i w : ℕ) → put i w ≡ (w / 2 ^ i + (1 - w / 2 ^ i % 2)) * 2 ^ i + w % 2 ^ i
put_parts i w = omega (arith, split w i, add-mul (w / 2 ^ i) (1 - w / 2 ^ i % 2) (2 ^ i))

clear_parts : (i w : ℕ) → clear i w ≡ (w / 2 ^ i - w / 2 ^ i % 2) * 2 ^ i + w % 2 ^ i
clear_parts i w =
    let whole : (w / 2 ^ i - w / 2 ^ i % 2) + w / 2 ^ i % 2 ≡ w / 2 ^ i = omega arith in
    let parts : w / 2 ^ i * 2 ^ i ≡ (w / 2 ^ i - w / 2 ^ i % 2) * 2 ^ i + w / 2 ^ i % 2 * 2 ^ i =
    ap (λ (n : ℕ). n * 2 ^ i) (sym whole) ∙ add-mul (w / 2 ^ i - w / 2 ^ i % 2) (w / 2 ^ i % 2) (2 ^ i) in
    omega (arith, split w i)

-- numbers that agree from bit i up, or below bit i, agree in each bit there
bit_above : (a b i d : ℕ) → a / 2 ^ i ≡ b / 2 ^ i → bit (i + d) a ≡ bit (i + d) b
bit_above a b i d e = ap (λ (n : ℕ). n % 2) (sym (shr-shr a i d) ∙ (ap (λ (n : ℕ). n / 2 ^ d) e ∙ shr-shr b i d))

bit_below : (a b d k : ℕ) → a % 2 ^ (d + (1 + k)) ≡ b % 2 ^ (d + (1 + k)) → bit k a ≡ bit k b
bit_below a b d k e =
    sym (field a 1 k)
    ∙ (ap (λ (n : ℕ). n / 2 ^ k) (sym (mod-mod-pow a d (1 + k)) ∙ (ap (λ (n : ℕ). n % 2 ^ (1 + k)) e ∙ mod-mod-pow b d (1 + k)))
    ∙ field b 1 k)

-- a word that has w's bits below i, and from bit i up a q that differs from w's only in its lowest bit, has w's bits but bit i
other : (i j w q a : ℕ) → a ≡ q * 2 ^ i + w % 2 ^ i → (j ≡ i → ⊥) → q / 2 ≡ w / 2 ^ i / 2 → bit j a ≡ bit j w
other i j w q a p h e = go (ltb j i) refl
  where
    go : (b : Bool) → ltb j i ≡ b → bit j a ≡ bit j w
    go true t =
        let l : j < i = ltb-true j i t in
        let s : (i - (1 + j)) + (1 + j) ≡ i = omega arith in
        bit_below a w (i - (1 + j)) j (rw s (ap (λ (n : ℕ). n % 2 ^ i) p ∙ below i w q))
    go false t =
        let l : i ≤ j = ltb-false j i t in
        let s : (i + 1) + (j - (i + 1)) ≡ j = omega (arith, h) in
        let u : a / 2 ^ (i + 1) ≡ w / 2 ^ (i + 1) =
        sym (shr-shr a i 1) ∙ (ap (λ (n : ℕ). n / 2 ^ i / 2) p ∙ (ap (λ (n : ℕ). n / 2) (above i w q) ∙ (e ∙ shr-shr w i 1))) in
        rw s at (bit_above a w (i + 1) (j - (i + 1)) u)

-- ---- the laws

pub put_own : (i w : ℕ) → bit i (put i w) ≡ 1
put_own i w =
    let u : put i w / 2 ^ i ≡ w / 2 ^ i + (1 - w / 2 ^ i % 2) =
    ap (λ (n : ℕ). n / 2 ^ i) (put_parts i w) ∙ above i w (w / 2 ^ i + (1 - w / 2 ^ i % 2)) in
    omega arith

pub clear_own : (i w : ℕ) → bit i (clear i w) ≡ 0
clear_own i w =
    let u : clear i w / 2 ^ i ≡ w / 2 ^ i - w / 2 ^ i % 2 =
    ap (λ (n : ℕ). n / 2 ^ i) (clear_parts i w) ∙ above i w (w / 2 ^ i - w / 2 ^ i % 2) in
    omega arith

pub put_other : (i j w : ℕ) → (j ≡ i → ⊥) → bit j (put i w) ≡ bit j w
put_other i j w h = other i j w (w / 2 ^ i + (1 - w / 2 ^ i % 2)) (put i w) (put_parts i w) h (omega arith)

pub clear_other : (i j w : ℕ) → (j ≡ i → ⊥) → bit j (clear i w) ≡ bit j w
clear_other i j w h = other i j w (w / 2 ^ i - w / 2 ^ i % 2) (clear i w) (clear_parts i w) h (omega arith)

-- a 32-bit word stays one
pub put_fits : (i w : ℕ) → i < 32 → w < 2 ^ 32 → put i w < 2 ^ 32
put_fits i w hi hw =
    let s : (32 - i) + i ≡ 32 = omega arith in
    let t : w < 2 ^ ((32 - i) + i) = rw s hw in
    let q : w / 2 ^ i < 2 ^ (32 - i) = shr_lt (32 - i) i t in
    let even : 2 ^ (32 - i) ≡ 2 * 2 ^ (31 - i) = ap (λ (n : ℕ). 2 ^ n) (omega arith) ∙ pow-add 2 1 (31 - i) in
    let u : w / 2 ^ i + (1 - w / 2 ^ i % 2) < 2 ^ (32 - i) = omega arith in
    let v : (w / 2 ^ i + (1 - w / 2 ^ i % 2)) * 2 ^ i + w % 2 ^ i < 2 ^ (32 - i) * 2 ^ i = digits_lt u (mod-lt w (pow_pos i)) in
    let p : 2 ^ (32 - i) * 2 ^ i ≡ 2 ^ 32 = sym (pow-add 2 (32 - i) i) ∙ ap (λ (n : ℕ). 2 ^ n) s in
    omega (arith, put_parts i w)

-- ---- all bits below bit n zero

pub zero_below_from : (n i w : ℕ) → n ≤ i → bit i (zero_below n w) ≡ bit i w
zero_below_from n i w h =
    let s : n + (i - n) ≡ i = omega arith in
    rw s at (bit_above (zero_below n w) w n (i - n) (shl-shr (w / 2 ^ n) n))

pub zero_below_under : (n i w : ℕ) → i < n → bit i (zero_below n w) ≡ 0
zero_below_under n i w h =
    let s : (n - (1 + i)) + (1 + i) ≡ n = omega arith in
    let e : zero_below n w % 2 ^ n ≡ 0 % 2 ^ n = ap (λ (x : ℕ). x % 2 ^ n) (omega arith) ∙ (low (w / 2 ^ n) n (pow_pos n) ∙ sym (zero-mod (2 ^ n))) in
    bit_below (zero_below n w) 0 (n - (1 + i)) i (rw s e) ∙ ap (λ (x : ℕ). x % 2) (zero-div (2 ^ i))

-- below bit 0 there is none
pub zero_below_none : (w : ℕ) → zero_below 0 w ≡ w
zero_below_none w = omega arith
