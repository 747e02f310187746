-- The registers as the code puts them together, and what `new` and `set_write_protection` leave alone: bits that are not asked for stay as
-- read, and where no update is needed both registers stay. Assumes nothing.
use Prim.Native.Nat.{ℕ, ◌+◌, ◌*◌, ◌/◌, ◌%◌, ◌<◌, ◌≤◌}
use mathlib.Core.Path.{◌≡◌, refl, sym, ap, ◌∙◌}
use mathlib.Core.Bool.{Bool, true, false, cond, not, ◌&&◌, ◌||◌}
use mathlib.Core.Logic.{◌⊎◌, inl, inr}
use native.Mathlib.Omega.{arith}
use lib.Dec.{eqb, ltb}
use lib.Pow.{field, mod-mod-pow}
use Rattle.std.proofs.lemmas.Bool.{or_parts}
use borrow.Author.Tests.{ltb-true, ltb-false, eqb-true, eqb-false, not-false, eq-eqb, ne_eqb}
use Rattle.zynq7000.specs.Bits.{bit}
use Rattle.zynq7000.specs.Qspi.{field as field_at}
use Rattle.zedboard_bsp.specs.Registers.{field_value, with_field, protected, is_protected, quad_set, configured_cr, configured_sr, update_needed}
use Rattle.zedboard_bsp.specs.Spansion.{block_protection, latency_code, quad_bit}
use Rattle.zedboard_bsp.proofs.FieldLaws.{put_own, put_same, put_other}

-- ---- the code's sums

-- bits 5 and 6, the protection, the two bits below it
pub protected_sum : (s p : ℕ) → s < 256 → s / 32 % 4 * 32 + p % 8 * 4 + s % 4 ≡ protected s p
protected_sum s p h =
    let w : s / 256 * 256 + 0 * 128 + s % 128 ≡ s % 128 = omega arith in
    let a : s % 128 / 32 ≡ s / 32 % 4 = field s 2 5 in
    let b : s % 128 % 4 ≡ s % 4 = mod-mod-pow s 5 2 in
    rw (w, a, b)

pub latency_sum : (c l : ℕ) → c < 256 → l % 4 * 64 + c % 64 ≡ with_field latency_code l c
latency_sum c l h = omega arith

-- ---- `set_write_protection`: bit 7 clear, bits 2 to 4 as asked, the others as read

pub protection_own : (sr p : ℕ) → field_value block_protection (protected sr p) ≡ p % 8
protection_own sr p = put_own 2 3 p (with_field (field_at 7 1) 0 sr)

pub write_disable_clear : (sr p : ℕ) → bit 7 (protected sr p) ≡ 0
write_disable_clear sr p = put_other 2 3 p (with_field (field_at 7 1) 0 sr) 7 (inr (omega arith)) ∙ put_own 7 1 0 sr

beside : (j i : ℕ) → (j ≡ i → ⊥) → (j < i) ⊎ (1 + i ≤ j)
beside j i h = go (ltb j i) refl
  where
    go : (b : Bool) → ltb j i ≡ b → (j < i) ⊎ (1 + i ≤ j)
    go true t = inl (ltb-true j i t)
    go false t = let l : i ≤ j = ltb-false j i t in inr (omega (arith, h))

pub protected_other : (sr p j : ℕ) → (j < 2) ⊎ (5 ≤ j) → (j ≡ 7 → ⊥) → bit j (protected sr p) ≡ bit j sr
protected_other sr p j h k = put_other 2 3 p (with_field (field_at 7 1) 0 sr) j h ∙ put_other 7 1 0 sr j (beside j 7 k)

-- ---- `new`: what is asked for is there, every other bit as read

pub quad_own : (cr : ℕ) → bit 1 (quad_set true cr) ≡ 1
quad_own cr = put_own 1 1 1 cr

pub quad_other : (quad : Bool) (cr j : ℕ) → (j ≡ 1 → ⊥) → bit j (quad_set quad cr) ≡ bit j cr
quad_other true cr j h = put_other 1 1 1 cr j (beside j 1 h)
quad_other false cr j h = refl

pub latency_own : (quad : Bool) (l cr : ℕ) → field_value latency_code (configured_cr quad true l cr) ≡ l % 4
latency_own quad l cr = put_own 6 2 l (quad_set quad cr)

-- outside the latency code there is the quad bit alone
pub latency_other : (quad set : Bool) (l cr j : ℕ) → (j < 6) ⊎ (8 ≤ j) → bit j (configured_cr quad set l cr) ≡ bit j (quad_set quad cr)
latency_other quad true l cr j h = put_other 6 2 l (quad_set quad cr) j h
latency_other quad false l cr j h = refl

pub status_other : (clear : Bool) (sr j : ℕ) → (j < 2) ⊎ (5 ≤ j) → (j ≡ 7 → ⊥) → bit j (configured_sr clear sr) ≡ bit j sr
status_other clear sr j h k = go (clear && is_protected sr)
  where
    go : (b : Bool) → bit j (cond b (protected sr 0) sr) ≡ bit j sr
    go true = protected_other sr 0 j h k
    go false = refl

-- ---- an update is needed precisely where it changes a register

quad_same : (quad : Bool) (cr : ℕ) → quad && eqb (field_value quad_bit cr) 0 ≡ false → quad_set quad cr ≡ cr
quad_same true cr e =
    let n : cr / 2 % 2 ≡ 0 → ⊥ = eqb-false (cr / 2 % 2) 0 e in
    put_same 1 1 1 cr (omega (arith, n))
quad_same false cr e = refl

latency_same : (set : Bool) (l cr : ℕ) → set && not (eqb (field_value latency_code cr) (l % 4)) ≡ false → configured_cr false set l cr ≡ cr
latency_same true l cr e = put_same 6 2 l cr (eqb-true (field_value latency_code cr) (l % 4) (not-false (eqb (field_value latency_code cr) (l % 4)) e))
latency_same false l cr e = refl

pub no_update : (quad set clear : Bool) (l cr sr : ℕ) → update_needed quad set l clear cr sr ≡ false
    → (configured_cr quad set l cr ≡ cr) × (configured_sr clear sr ≡ sr)
no_update quad set clear l cr sr e =
    let a = quad && eqb (field_value quad_bit cr) 0 in
    let b = set && not (eqb (field_value latency_code cr) (l % 4)) in
    let c = clear && is_protected sr in
    let p = or_parts (a || b) c e in
    let q = or_parts a b p.0 in (
      ap (λ (n : ℕ). configured_cr false set l n) (quad_same quad cr q.0) ∙ latency_same set l cr q.1,
      ap (λ (t : Bool). cond t (protected sr 0) sr) p.1,
    )

quad_there : (quad set : Bool) (l cr : ℕ) → configured_cr quad set l cr ≡ cr → quad && eqb (field_value quad_bit cr) 0 ≡ false
quad_there true set l cr e =
    let one : bit 1 cr ≡ 1 = sym (ap (λ (n : ℕ). bit 1 n) e) ∙ (latency_other true set l cr 1 (inl (omega arith)) ∙ quad_own cr) in
    ne_eqb (field_value quad_bit cr) 0 (λ (z : field_value quad_bit cr ≡ 0). omega arith)
quad_there false set l cr e = refl

latency_there : (quad set : Bool) (l cr : ℕ) → configured_cr quad set l cr ≡ cr → set && not (eqb (field_value latency_code cr) (l % 4)) ≡ false
latency_there quad true l cr e =
    ap not (eq-eqb (field_value latency_code cr) (l % 4) (sym (ap (λ (n : ℕ). field_value latency_code n) e) ∙ latency_own quad l cr))
latency_there quad false l cr e = refl

protection_cleared : (clear : Bool) (sr : ℕ) → configured_sr clear sr ≡ sr → clear && is_protected sr ≡ false
protection_cleared false sr e = refl
protection_cleared true sr e = go (is_protected sr) refl
  where
    go : (b : Bool) → is_protected sr ≡ b → is_protected sr ≡ false
    go false t = t
    go true t =
        let same : sr ≡ protected sr 0 = sym e ∙ ap (λ (b : Bool). cond b (protected sr 0) sr) t in
        ap not (eq-eqb (field_value block_protection sr) 0 (ap (λ (n : ℕ). field_value block_protection n) same ∙ protection_own sr 0))

pub update_changes : (quad set clear : Bool) (l cr sr : ℕ) → configured_cr quad set l cr ≡ cr → configured_sr clear sr ≡ sr
    → update_needed quad set l clear cr sr ≡ false
update_changes quad set clear l cr sr e f = simp (quad_there quad set l cr e, latency_there quad set l cr e, protection_cleared clear sr f)
