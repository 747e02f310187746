-- The words of a log of bytes, as `words_in` makes them: a short record of bytes is a short record of words, and every place has the same
-- entry. Assumes nothing.
use Rattle.std.proofs.Common.{◌≡◌, ℕ, ◌+◌, ◌*◌, ◌/◌, ◌%◌, ◌<◌, ◌≤◌, Bool, true, false, ltb, List, length, get_or, take, set, sym, refl, ap, ◌∙◌, arith, length-take-le, get_or-set_other, get_or-take, get_or-set_same, ltb-false, ltb-true}
use Rattle.zynq7000.specs.Access.{record_of_words}
use Rattle.access_log.specs.Log.{entry_of, entry_at, entry_in, word_at}
use Rattle.access_log.proofs.Places.{at_whole, at_short, at_end, in_whole, in_short, in_end}

-- one element more of those that f gives
pub one_more : (f : ℕ → ℕ) (words : List ℕ) (i v : ℕ) → i < length words → ((k : ℕ) → k < i → get_or words k 0 ≡ f k) → v ≡ f i
    → (k : ℕ) → k < i + 1 → get_or (set words i v) k 0 ≡ f k
one_more f words i v room so_far e k h = by_place (ltb k i) refl
  where
    by_place : (b : Bool) → ltb k i ≡ b → get_or (set words i v) k 0 ≡ f k
    by_place true s =
        let below : k < i = ltb-true k i s in
        get_or-set_other words i k v 0 (λ same. omega arith) ∙ so_far k below
    by_place false s =
        let here : k ≡ i = omega (arith, ltb-false k i s) in
        ap (λ (n : ℕ). get_or (set words i v) n 0) here ∙ (get_or-set_same words i v 0 room ∙ (e ∙ ap f (sym here)))

-- a place has a whole record, or the start of one, in so many words where it has in so many bytes
pub record SamePlace (words bytes at : ℕ) : Type 0 where
  pub whole : at * 8 + 8 ≤ bytes → at * 2 + 2 ≤ words
  pub short : bytes < at * 8 + 8 → words < at * 2 + 2
  pub begun : at * 8 < bytes → at * 2 < words
  pub none : bytes ≤ at * 8 → words ≤ at * 2

-- so many words as `word_count` gives, of 512 records at most
pub same_place : (words bytes at : ℕ) → (512 ≤ bytes / 8 → words ≡ 1024) → (bytes / 8 < 512 → words ≡ bytes / 8 * 2 + (bytes % 8 + 7) / 8) → at < 512
    → SamePlace words bytes at
same_place words bytes at full part h = by_size (ltb (bytes / 8) 512) refl
  where
    by_size : (b : Bool) → ltb (bytes / 8) 512 ≡ b → SamePlace words bytes at
    by_size true e =
        let n = part (ltb-true (bytes / 8) 512 e) in
        record { whole = λ f. omega (arith, n); short = λ f. omega (arith, n); begun = λ f. omega (arith, n); none = λ f. omega (arith, n) }
    by_size false e =
        let long = ltb-false (bytes / 8) 512 e in
        let n = full long in
        record { whole = λ f. omega (arith, n); short = λ f. omega (arith, n, long); begun = λ f. omega (arith, n); none = λ f. omega (arith, n, long) }

-- THEOREM. Where n words hold those of the whole records, and a place is whole or begun in them where it is in the bytes, it has the entry of
-- the bytes.
module _ (bytes words : List ℕ) (n at : ℕ) (held : n ≤ length words) (put : (i : ℕ) → i < n / 2 * 2 → get_or words i 0 ≡ word_at bytes (i * 4))
    (p : SamePlace n (length bytes) at) where
  size : length (take n words) ≡ n
  size = length-take-le n words held

  word_is : (i j : ℕ) → i < n / 2 * 2 → j ≡ i * 4 → get_or (take n words) i 0 ≡ word_at bytes j
  word_is i j h e =
      let inside : i < n = omega arith in
      get_or-take n words i 0 inside ∙ (put i h ∙ ap (word_at bytes) (sym e))

  pub same_entry : entry_at (take n words) at ≡ entry_in bytes at
  same_entry = by_place (ltb at (length bytes / 8)) refl (ltb (at * 8) (length bytes)) refl
    where
      by_place : (full : Bool) → ltb at (length bytes / 8) ≡ full → (begun : Bool) → ltb (at * 8) (length bytes) ≡ begun
          → entry_at (take n words) at ≡ entry_in bytes at
      by_place true e begun f =
          let below : at < length bytes / 8 = ltb-true at (length bytes / 8) e in
          let fits : at * 2 + 2 ≤ n = p.whole (omega arith) in
          at_whole (take n words) at (omega (arith, size))
          ∙ (ap (λ (w : ℕ). entry_of (record_of_words w (get_or (take n words) (at * 2 + 1) 0)) at) (word_is (at * 2) (at * 8) (omega arith) (omega arith))
          ∙ (ap (λ (w : ℕ). entry_of (record_of_words (word_at bytes (at * 8)) w) at) (word_is (at * 2 + 1) (at * 8 + 4) (omega arith) (omega arith))
          ∙ sym (in_whole bytes at below)))
      by_place false e true f =
          let over : length bytes / 8 ≤ at = ltb-false at (length bytes / 8) e in
          let under : at * 8 < length bytes = ltb-true (at * 8) (length bytes) f in
          let odd : n ≡ at * 2 + 1 = omega (arith, p.short (omega arith), p.begun under) in
          at_short (take n words) at (omega (arith, size)) (λ z. omega (arith, size)) ∙ sym (in_short bytes at (omega arith) (λ z. omega arith))
      by_place false e false f =
          let past : length bytes ≤ at * 8 = ltb-false (at * 8) (length bytes) f in
          at_end (take n words) at (omega (arith, size, p.none past)) ∙ sym (in_end bytes at past)
