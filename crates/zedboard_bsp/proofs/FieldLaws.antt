-- A field of a register, over its place and width: put and read back, and every other bit stays. A word is its bits above the field, the
-- field, and the bits below it. Assumes nothing.
use Prim.Native.Nat.{ℕ, ◌+◌, ◌-◌, ◌*◌, ◌/◌, ◌%◌, ◌^◌, ◌<◌, ◌≤◌}
use mathlib.Core.Path.{◌≡◌, sym, ap, ◌∙◌}
use mathlib.Core.Logic.{◌⊎◌, ⊎_elim}
use native.Mathlib.Omega.{arith}
use native.Mathlib.Nat.{add-mul, mul_assoc, mod-lt}
use lib.Arith.{digits_lt}
use lib.Pow.{pow_pos, pow-add, split, shr-shr, field, mod-mod-pow, mod-pow-add}
use lib.Pow.{high as high_part, low as low_part}
use Rattle.zynq7000.specs.Bits.{bit}
use Rattle.zynq7000.specs.Qspi.{field as field_at}
use Rattle.zedboard_bsp.specs.Registers.{field_value, with_field}

module _ (low width v w : ℕ) where
  -- the field and the bits below it
  rest_lt : v % 2 ^ width * 2 ^ low + w % 2 ^ low < 2 ^ (width + low)
  rest_lt = rw (pow-add 2 width low) (digits_lt (mod-lt v (pow_pos width)) (mod-lt w (pow_pos low)))

  upper : with_field (field_at low width) v w ≡ w / 2 ^ (width + low) * 2 ^ (width + low) + (v % 2 ^ width * 2 ^ low + w % 2 ^ low)
  upper = omega arith

  lower : with_field (field_at low width) v w ≡ (w / 2 ^ (width + low) * 2 ^ width + v % 2 ^ width) * 2 ^ low + w % 2 ^ low
  lower =
      let p : w / 2 ^ (width + low) * 2 ^ (width + low) ≡ w / 2 ^ (width + low) * 2 ^ width * 2 ^ low =
      ap (λ (n : ℕ). w / 2 ^ (width + low) * n) (pow-add 2 width low) ∙ sym (mul_assoc (w / 2 ^ (width + low)) (2 ^ width) (2 ^ low)) in
      omega (arith, add-mul (w / 2 ^ (width + low) * 2 ^ width) (v % 2 ^ width) (2 ^ low))

  pub put_own : field_value (field_at low width) (with_field (field_at low width) v w) ≡ v % 2 ^ width
  put_own =
      ap (λ (n : ℕ). n / 2 ^ low % 2 ^ width) lower
      ∙ (ap (λ (n : ℕ). n % 2 ^ width) (high_part (w / 2 ^ (width + low) * 2 ^ width + v % 2 ^ width) low (mod-lt w (pow_pos low)))
      ∙ low_part (w / 2 ^ (width + low)) width (mod-lt v (pow_pos width)))

  -- a field that has the value already
  pub put_same : field_value (field_at low width) w ≡ v % 2 ^ width → with_field (field_at low width) v w ≡ w
  put_same e =
      let p : v % 2 ^ width * 2 ^ low ≡ w / 2 ^ low % 2 ^ width * 2 ^ low = ap (λ (n : ℕ). n * 2 ^ low) (sym e) in
      omega (arith, split w (width + low), mod-pow-add w width low)

  pub put_above : (d : ℕ) → bit ((width + low) + d) (with_field (field_at low width) v w) ≡ bit ((width + low) + d) w
  put_above d =
      let a = with_field (field_at low width) v w in
      let e : a / 2 ^ (width + low) ≡ w / 2 ^ (width + low) =
      ap (λ (n : ℕ). n / 2 ^ (width + low)) upper ∙ high_part (w / 2 ^ (width + low)) (width + low) rest_lt in
      ap (λ (n : ℕ). n % 2) (sym (shr-shr a (width + low) d) ∙ (ap (λ (n : ℕ). n / 2 ^ d) e ∙ shr-shr w (width + low) d))

  pub put_below : (d k : ℕ) → d + (1 + k) ≡ low → bit k (with_field (field_at low width) v w) ≡ bit k w
  put_below d k s =
      let a = with_field (field_at low width) v w in
      let e : a % 2 ^ low ≡ w % 2 ^ low =
      ap (λ (n : ℕ). n % 2 ^ low) lower ∙ low_part (w / 2 ^ (width + low) * 2 ^ width + v % 2 ^ width) low (mod-lt w (pow_pos low)) in
      let f : a % 2 ^ (d + (1 + k)) ≡ w % 2 ^ (d + (1 + k)) = rw s e in
      sym (field a 1 k)
      ∙ (ap (λ (n : ℕ). n / 2 ^ k) (sym (mod-mod-pow a d (1 + k)) ∙ (ap (λ (n : ℕ). n % 2 ^ (1 + k)) f ∙ mod-mod-pow w d (1 + k)))
      ∙ field w 1 k)

  -- every bit outside the field
  pub put_other : (j : ℕ) → (j < low) ⊎ (width + low ≤ j) → bit j (with_field (field_at low width) v w) ≡ bit j w
  put_other j =
      ⊎_elim (λ (h : j < low). put_below (low - (1 + j)) j (omega arith))
      (λ (h : width + low ≤ j). let s : (width + low) + (j - (width + low)) ≡ j = omega arith in rw s at (put_above (j - (width + low))))
