-- Reading a log that accesses wrote gives them back, in order, and then the end. Assumes nothing.
use Rattle.std.specs.Prelude.{Some, None, Ok}
use Rattle.std.proofs.Common.{◌≡◌, ℕ, zero, suc, ◌+◌, ◌*◌, ◌/◌, ◌<◌, List, [], ◌∷◌, ◌++◌, length, get_or, refl, ap, ◌∙◌, arith, length-append}
use Rattle.zynq7000.specs.Access.{offset_in, first_word, value_word, encode, record_of_words, Aligned, Loggable}
use Rattle.zynq7000.proofs.AccessLaws.{read_words_lem, length_encode}
use Rattle.zynq7000.specs.declared.qspi.Access.{Access}
use Rattle.zynq7000.specs.declared.qspi.BadLog.{BadLog}
use Rattle.std.specs.Prelude.{Result}
use Rattle.access_log.specs.Log.{entry_of, entry_at}
use Rattle.access_log.proofs.Places.{at_whole, at_end}

-- a list from its third element on
past_two : (x y : ℕ) (l : List ℕ) (n : ℕ) → get_or (x ∷ y ∷ l) (n + 2) 0 ≡ get_or l n 0
past_two x y l n =
    let e : n + 2 ≡ suc (suc n) = omega arith in
    rw e

-- the words of the k-th access
module _ (d : Access) (rest : List ℕ) where
  first_at_lem : (l : List Access) (k : ℕ) → k < length l → get_or (encode l ++ rest) (k * 2) 0 ≡ first_word (get_or l k d)
  unfolding encode
  first_at_lem [] k h = absurd (omega arith)
  first_at_lem (a ∷ l) zero h = refl
  first_at_lem (a ∷ l) (suc k) h =
      let e : suc k * 2 ≡ k * 2 + 2 = omega arith in
      ap (λ (n : ℕ). get_or (encode (a ∷ l) ++ rest) n 0) e
      ∙ (past_two (first_word a) (value_word a) (encode l ++ rest) (k * 2) ∙ first_at_lem l k (omega arith))

  value_at : (l : List Access) (k : ℕ) → k < length l → get_or (encode l ++ rest) (k * 2 + 1) 0 ≡ value_word (get_or l k d)
  unfolding encode
  value_at [] k h = absurd (omega arith)
  value_at (a ∷ l) zero h = refl
  value_at (a ∷ l) (suc k) h =
      let e : suc k * 2 + 1 ≡ k * 2 + 1 + 2 = omega arith in
      ap (λ (n : ℕ). get_or (encode (a ∷ l) ++ rest) n 0) e
      ∙ (past_two (first_word a) (value_word a) (encode l ++ rest) (k * 2 + 1) ∙ value_at l k (omega arith))

  loggable_at : (l : List Access) (k : ℕ) → k < length l → Loggable l → Aligned (offset_in (get_or l k d))
  loggable_at [] k h o = absurd (omega arith)
  loggable_at (a ∷ l) zero h o = o.0
  loggable_at (a ∷ l) (suc k) h o = loggable_at l k (omega arith) o.1

  -- THEOREM. At each place below the number of accesses stands the access of that place, whatever follows in the log.
  pub reads_back : (l : List Access) (k : ℕ) → Loggable l → k < length l → entry_at (encode l ++ rest) k ≡ Some (Ok (get_or l k d))
  reads_back l k o h =
      let long : k < length (encode l ++ rest) / 2 = omega (arith, length-append (encode l) rest, length_encode l) in
      at_whole (encode l ++ rest) k long
      ∙ (ap (λ (w : ℕ). entry_of (record_of_words w (get_or (encode l ++ rest) (k * 2 + 1) 0)) k) (first_at_lem l k h)
      ∙ (ap (λ (w : ℕ). entry_of (record_of_words (first_word (get_or l k d)) w) k) (value_at l k h)
      ∙ ap (λ (r : Result Access BadLog). entry_of r k) (read_words_lem (get_or l k d) (loggable_at l k h o))))

-- THEOREM. Behind the last access stands the end.
pub reads_end : (l : List Access) → entry_at (encode l) (length l) ≡ None
reads_end l = at_end (encode l) (length l) (omega (arith, length_encode l))
