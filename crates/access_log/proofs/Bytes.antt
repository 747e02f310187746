-- A log of words and the log of their little-endian bytes have the same entries. Assumes nothing.
use Rattle.std.proofs.Common.{◌≡◌, ℕ, zero, suc, ◌+◌, ◌*◌, ◌/◌, ◌%◌, ◌^◌, ◌<◌, ◌≤◌, Bool, true, false, ltb, List, [], ◌∷◌, length, get_or, sym, refl, ap, ◌∙◌, arith, shr-shr, ltb-false, ltb-true}
use lib.Pow.{split}
use Rattle.zynq7000.specs.Access.{record_of_words}
use Rattle.access_log.specs.Log.{entry_of, entry_at, entry_in, word_at, bytes_of}
use Rattle.access_log.proofs.Places.{at_whole, at_short, at_end, in_whole, in_short, in_end}

bytes_length : (l : List ℕ) → length (bytes_of l) ≡ length l * 4
unfolding bytes_of
bytes_length [] = refl
bytes_length (w ∷ l) = omega (arith, bytes_length l)

-- the bytes of a word make the word
digits_of : (w a q b p c s d : ℕ) → q * 0x100 + a ≡ w → p * 0x100 + b ≡ q → s * 0x100 + c ≡ p → d ≡ s
    → a + b * 0x100 + c * 0x1_0000 + d * 0x100_0000 ≡ w
digits_of w a q b p c s d e f g h = omega arith

word_of_bytes : (w : ℕ) → w < 2 ^ 32
    → w % 0x100 + w / 0x100 % 0x100 * 0x100 + w / 0x1_0000 % 0x100 * 0x1_0000 + w / 0x100_0000 % 0x100 * 0x100_0000 ≡ w
word_of_bytes w h =
    let second : w / 0x1_0000 * 0x100 + w / 0x100 % 0x100 ≡ w / 0x100 =
    ap (λ (n : ℕ). n * 0x100 + w / 0x100 % 0x100) (sym (shr-shr w 8 8)) ∙ split (w / 0x100) 8 in
    let third : w / 0x100_0000 * 0x100 + w / 0x1_0000 % 0x100 ≡ w / 0x1_0000 =
    ap (λ (n : ℕ). n * 0x100 + w / 0x1_0000 % 0x100) (sym (shr-shr w 16 8)) ∙ split (w / 0x1_0000) 8 in
    let fourth : w / 0x100_0000 % 0x100 ≡ w / 0x100_0000 = omega arith in
    digits_of w (w % 0x100) (w / 0x100) (w / 0x100 % 0x100) (w / 0x1_0000) (w / 0x1_0000 % 0x100) (w / 0x100_0000) (w / 0x100_0000 % 0x100)
    (split w 8) second third fourth

sum_of_four : (a b c d a' b' c' d' : ℕ) → a ≡ a' → b ≡ b' → c ≡ c' → d ≡ d'
    → a + b * 0x100 + c * 0x1_0000 + d * 0x100_0000 ≡ a' + b' * 0x100 + c' * 0x1_0000 + d' * 0x100_0000
sum_of_four a b c d a' b' c' d' p q r s = omega arith

nothing : (n : ℕ) → n ≡ n + 0
nothing n = omega arith

-- a word whose four bytes stand in another list too
pub word_moved : (l m : List ℕ) (i j : ℕ) → ((k : ℕ) → k < 4 → get_or l (i + k) 0 ≡ get_or m (j + k) 0) → word_at l i ≡ word_at m j
word_moved l m i j same =
    let zeroth : get_or l i 0 ≡ get_or m j 0 =
    ap (λ (n : ℕ). get_or l n 0) (nothing i) ∙ (same 0 (omega arith) ∙ ap (λ (n : ℕ). get_or m n 0) (sym (nothing j))) in
    sum_of_four _ _ _ _ _ _ _ _ zeroth (same 1 (omega arith)) (same 2 (omega arith)) (same 3 (omega arith))

-- a list from its fifth element on
past_four : (a b c d : ℕ) (l : List ℕ) (n : ℕ) → get_or (a ∷ b ∷ c ∷ d ∷ l) (n + 4) 0 ≡ get_or l n 0
past_four a b c d l n =
    let e : n + 4 ≡ suc (suc (suc (suc n))) = omega arith in
    rw e

shifted : (w : ℕ) (l : List ℕ) (i k : ℕ) → get_or (bytes_of (w ∷ l)) (suc i * 4 + k) 0 ≡ get_or (bytes_of l) (i * 4 + k) 0
unfolding bytes_of
shifted w l i k =
    let e : suc i * 4 + k ≡ i * 4 + k + 4 = omega arith in
    ap (λ (n : ℕ). get_or (bytes_of (w ∷ l)) n 0) e ∙ past_four _ _ _ _ (bytes_of l) (i * 4 + k)

-- the word at each place of the bytes
pub word_at_lem : (l : List ℕ) → ((i : ℕ) → get_or l i 0 < 2 ^ 32) → (i : ℕ) → word_at (bytes_of l) (i * 4) ≡ get_or l i 0
unfolding bytes_of
word_at_lem [] h i = refl
word_at_lem (w ∷ l) h zero = word_of_bytes w (h 0)
word_at_lem (w ∷ l) h (suc i) =
    word_moved (bytes_of (w ∷ l)) (bytes_of l) (suc i * 4) (i * 4) (λ k small. shifted w l i k)
    ∙ word_at_lem l (λ k. h (suc k)) i

-- THEOREM. Of words of 32 bits and their bytes, every place has the same entry.
module _ (l : List ℕ) (h : (i : ℕ) → get_or l i 0 < 2 ^ 32) (at : ℕ) where
  first_same : word_at (bytes_of l) (at * 8) ≡ get_or l (at * 2) 0
  first_same =
      let e : at * 8 ≡ at * 2 * 4 = omega arith in
      ap (word_at (bytes_of l)) e ∙ word_at_lem l h (at * 2)

  value_same : word_at (bytes_of l) (at * 8 + 4) ≡ get_or l (at * 2 + 1) 0
  value_same =
      let e : at * 8 + 4 ≡ (at * 2 + 1) * 4 = omega arith in
      ap (word_at (bytes_of l)) e ∙ word_at_lem l h (at * 2 + 1)

  by_cases : (whole : Bool) → ltb at (length l / 2) ≡ whole → (begun : Bool) → ltb (at * 2) (length l) ≡ begun
      → entry_in (bytes_of l) at ≡ entry_at l at
  by_cases true e begun f =
      let below : at < length l / 2 = ltb-true at (length l / 2) e in
      in_whole (bytes_of l) at (omega (arith, bytes_length l))
      ∙ (ap (λ (w : ℕ). entry_of (record_of_words w (word_at (bytes_of l) (at * 8 + 4))) at) first_same
      ∙ (ap (λ (w : ℕ). entry_of (record_of_words (get_or l (at * 2) 0) w) at) value_same
      ∙ sym (at_whole l at below)))
  by_cases false e true f =
      let over : length l / 2 ≤ at = ltb-false at (length l / 2) e in
      let under : at * 2 < length l = ltb-true (at * 2) (length l) f in
      let odd : length l ≡ at * 2 + 1 = omega arith in
      let tail : length (bytes_of l) ≡ at * 8 + 4 = omega (arith, bytes_length l) in
      in_short (bytes_of l) at (omega arith) (λ z. omega arith)
      ∙ sym (at_short l at (omega arith) (λ z. omega arith))
  by_cases false e false f =
      let past : length l ≤ at * 2 = ltb-false (at * 2) (length l) f in
      in_end (bytes_of l) at (omega (arith, bytes_length l)) ∙ sym (at_end l at past)

  pub bytes_as_words : entry_in (bytes_of l) at ≡ entry_at l at
  bytes_as_words = by_cases (ltb at (length l / 2)) refl (ltb (at * 2) (length l)) refl
