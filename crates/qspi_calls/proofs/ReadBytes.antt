-- The bytes of a read: each reply after the first brings its bytes to the end of what was read before, and nothing else of the buffer
-- changes. Assumes nothing.
use mathlib.Core.Path.{◌≡◌, refl, ap, ◌∙◌, sym}
use mathlib.Core.Bool.{Bool, true, false}
use mathlib.Core.List.{List, [], ◌∷◌, ◌++◌, reverse, reverse-cons, append_assoc, append-nil}
use Prim.Native.Nat.{ℕ, suc, ◌+◌, ◌-◌, ◌*◌, ◌/◌, ◌%◌, ◌^◌, ◌≤◌, ◌<◌}
use native.Mathlib.Omega.{arith}
use lib.Dec.{ltb, leb}
use lib.ListN.{length, get_or, take, drop, set, length-append, length-drop, length-reverse, drop_of_length-le}
use lib.Seq.{take_all, drop-cons, take-append-le, drop-append-le, set_at}
use borrow.Author.Tests.{leb-true, leb-false, ltb-true, ltb-false}
use Rattle.zedboard_bsp.specs.Words.{bytes_of}
use Rattle.qspi_script.specs.declared.Place.{Place}
use Rattle.qspi_operation.specs.Store.{when, store_byte, store_reply}
use Rattle.qspi_operation.specs.Machine.{overlaid}
use Rattle.qspi_calls.specs.Calls.{bytes_of_all}

snoc_all : (l : List ℕ) (v : ℕ) → bytes_of_all (l ++ v ∷ []) ≡ bytes_of_all l ++ bytes_of v
snoc_all [] v = append-nil (bytes_of v)
snoc_all (r ∷ l) v = ap (λ (z : List ℕ). bytes_of r ++ z) (snoc_all l v) ∙ sym (append_assoc (bytes_of r) (bytes_of_all l) (bytes_of v))

pub length_all : (l : List ℕ) → length (bytes_of_all l) ≡ 4 * length l
length_all [] = refl
length_all (r ∷ l) = omega (arith, length_all l)

-- the bytes after the first reply, with one reply more
pub more_bytes : (t v : ℕ) (ts : List ℕ) → bytes_of_all (drop 1 (reverse (v ∷ t ∷ ts))) ≡ bytes_of_all (drop 1 (reverse (t ∷ ts))) ++ bytes_of v
more_bytes t v ts =
    let n : length (reverse (t ∷ ts)) ≡ suc (length ts) = length-reverse (t ∷ ts) in
    ap (λ (z : List ℕ). bytes_of_all (drop 1 z)) (reverse-cons v (t ∷ ts))
    ∙ ap bytes_of_all (drop-append-le 1 (reverse (t ∷ ts)) (v ∷ []) (omega arith))
    ∙ snoc_all (drop 1 (reverse (t ∷ ts))) v

module _ (p : Place) (d : ℕ) (bs old : List ℕ) (done : length bs ≡ p.done) (fits : p.done + p.chunk ≤ length old) (small : length old < 2 ^ 64) where
  -- the buffer where these bytes after the first reply have come
  abbrev pub after : List ℕ → List ℕ
  after l = overlaid (bs ++ take p.chunk (drop d l)) old

  dropped : (l : List ℕ) (b : ℕ) → length l < d → after l ≡ after (l ++ b ∷ [])
  dropped l b h =
      let n : length (l ++ b ∷ []) ≡ length l + 1 = length-append l (b ∷ []) in
      rw (drop_of_length-le l {i = d} (omega arith), drop_of_length-le (l ++ b ∷ []) {i = d} (omega arith))

  beyond : (l : List ℕ) (b : ℕ) → d ≤ length l → p.chunk ≤ length l - d → after l ≡ after (l ++ b ∷ [])
  beyond l b h k = rw (drop-append-le d l (b ∷ []) h, take-append-le p.chunk (drop d l) (b ∷ []) (omega (arith, length-drop d l)))

  inside : (l : List ℕ) (b : ℕ) → d ≤ length l → length l - d < p.chunk → set (after l) ((p.done + (length l - d)) % 2 ^ 64) b ≡ after (l ++ b ∷ [])
  inside l b h k =
      let r = drop d l in
      let m : length r ≡ length l - d = length-drop d l in
      let n : length (r ++ b ∷ []) ≡ length r + 1 = length-append r (b ∷ []) in
      let q = bs ++ r in
      let nq : length q ≡ length bs + length r = length-append bs r in
      let i : (p.done + (length l - d)) % 2 ^ 64 ≡ length q = omega arith in
      let c : drop (length q) old ≡ get_or old (length q) 0 ∷ drop (suc (length q)) old = drop-cons old (length q) 0 (omega arith) in
      let s : length (q ++ b ∷ []) ≡ suc (length q) = length-append q (b ∷ []) ∙ (let z : length q + 1 ≡ suc (length q) = omega arith in z) in
      let e₁ : bs ++ take p.chunk r ≡ q = ap (λ (z : List ℕ). bs ++ z) (take_all p.chunk r (omega arith)) in
      let e₂ : bs ++ take p.chunk (drop d (l ++ b ∷ [])) ≡ q ++ b ∷ [] =
      ap (λ (z : List ℕ). bs ++ take p.chunk z) (drop-append-le d l (b ∷ []) h) ∙ ap (λ (z : List ℕ). bs ++ z) (take_all p.chunk (r ++ b ∷ []) (omega arith)) ∙ sym (append_assoc bs r (b ∷ [])) in
      ap (λ (z : List ℕ). set (overlaid z old) ((p.done + (length l - d)) % 2 ^ 64) b) e₁
      ∙ ap (λ (z : ℕ). set (q ++ drop (length q) old) z b) i
      ∙ ap (λ (z : List ℕ). set (q ++ z) (length q) b) c
      ∙ set_at q (get_or old (length q) 0) (drop (suc (length q)) old) b (length q) refl
      ∙ sym (append_assoc q (b ∷ []) (drop (suc (length q)) old))
      ∙ ap (λ (z : ℕ). (q ++ b ∷ []) ++ drop z old) (sym s)
      ∙ ap (λ (z : List ℕ). overlaid z old) (sym e₂)

  -- one byte more
  one_byte : (l : List ℕ) (i b : ℕ) → i ≡ length l → store_byte (after l) p d i b ≡ after (l ++ b ∷ [])
  one_byte l i b e = rw e (go (leb d (length l)) refl)
    where
      within : (y : Bool) → ltb (length l - d) p.chunk ≡ y → d ≤ length l → when y (set (after l) ((p.done + (length l - d)) % 2 ^ 64) b) (after l) ≡ after (l ++ b ∷ [])
      within true f h = inside l b h (ltb-true (length l - d) p.chunk f)
      within false f h = beyond l b h (ltb-false (length l - d) p.chunk f)

      go : (y : Bool) → leb d (length l) ≡ y → when y (when (ltb (length l - d) p.chunk) (set (after l) ((p.done + (length l - d)) % 2 ^ 64) b) (after l)) (after l) ≡ after (l ++ b ∷ [])
      go true f = within (ltb (length l - d) p.chunk) refl (leb-true d (length l) f)
      go false f = dropped l b (leb-false d (length l) f)

  -- a reply more
  pub one_reply : (l : List ℕ) (i v : ℕ) → i ≡ length l → store_reply (after l) p d i v ≡ after (l ++ bytes_of v)
  one_reply l i v e =
      let b₀ = v % 256 in
      let b₁ = v / 256 % 256 in
      let b₂ = v / 65536 % 256 in
      let b₃ = v / 16777216 % 256 in
      let l₁ = l ++ b₀ ∷ [] in
      let l₂ = l₁ ++ b₁ ∷ [] in
      let l₃ = l₂ ++ b₂ ∷ [] in
      let n₁ : length l₁ ≡ length l + 1 = length-append l (b₀ ∷ []) in
      let n₂ : length l₂ ≡ length l₁ + 1 = length-append l₁ (b₁ ∷ []) in
      let n₃ : length l₃ ≡ length l₂ + 1 = length-append l₂ (b₂ ∷ []) in
      let s₀ = one_byte l i b₀ e in
      let s₁ = one_byte l₁ (i + 1) b₁ (omega arith) in
      let s₂ = one_byte l₂ (i + 2) b₂ (omega arith) in
      let s₃ = one_byte l₃ (i + 3) b₃ (omega arith) in
      let f : l₃ ++ b₃ ∷ [] ≡ l ++ bytes_of v =
      append_assoc l₂ (b₂ ∷ []) (b₃ ∷ []) ∙ append_assoc l₁ (b₁ ∷ []) (b₂ ∷ b₃ ∷ []) ∙ append_assoc l (b₀ ∷ []) (b₁ ∷ b₂ ∷ b₃ ∷ []) in
      ap (λ (z : List ℕ). store_byte (store_byte (store_byte z p d (i + 1) b₁) p d (i + 2) b₂) p d (i + 3) b₃) s₀
      ∙ ap (λ (z : List ℕ). store_byte (store_byte z p d (i + 2) b₂) p d (i + 3) b₃) s₁
      ∙ ap (λ (z : List ℕ). store_byte z p d (i + 3) b₃) s₂
      ∙ s₃
      ∙ ap after f
