-- The text of a log from its parts: a printer may go buffer by buffer. Assumes nothing.
use Rattle.std.specs.Prelude.{Some, None, Ok, Err}
use Rattle.std.proofs.Common.{◌≡◌, ℕ, zero, suc, ◌+◌, ◌*◌, ◌/◌, ◌%◌, ◌^◌, ◌<◌, ◌≤◌, Bool, true, false, cond, ltb, List, ◌++◌, length, get_or, sym, refl, ap, ◌∙◌, append_assoc, add_assoc, add-suc, add_comm, suc-add, zero-add, arith, length-append, get_or-append-add, ltb-false, ltb-true}
use Rattle.std.proofs.lemmas.Bool.{false≢true}
use lib.ListN.{get_or-append}
use native.Mathlib.Nat.{mod-add-mod}
use Rattle.zynq7000.specs.Access.{record_of_words}
use Rattle.zynq7000.specs.declared.qspi.BadLog.{BadLog}
use Rattle.zynq7000.specs.declared.qspi.Access.{Access}
use Rattle.std.specs.Prelude.{Result}
use Rattle.access_log.specs.Log.{Entry, bad_at, is_access, entry_of, entry_in, word_at}
use Rattle.access_log.specs.Text.{line_of, bad_line, line_then, text_of, log_text, all_accesses}
use Rattle.access_log.proofs.Bytes.{word_moved}
use Rattle.access_log.proofs.Places.{in_whole, in_short, in_end}
use Rattle.access_log.proofs.Stream.{text_none, text_next, text_end, all_none, all_next}

-- ---- more records than there are change nothing

pub enough : (n more : ℕ) (bytes : List ℕ) (first at : ℕ) → length bytes ≤ (at + n) * 8
    → text_of (n + more) (entry_in bytes) first at ≡ text_of n (entry_in bytes) first at
enough zero zero bytes first at h = refl
enough zero (suc more) bytes first at h =
    ap (λ (n : ℕ). text_of n (entry_in bytes) first at) (zero-add (suc more))
    ∙ (text_end more (entry_in bytes) first at (in_end bytes at (omega arith)) ∙ sym (text_none (entry_in bytes) first at))
enough (suc n) more bytes first at h =
    ap (λ (k : ℕ). text_of k (entry_in bytes) first at) (suc-add n more)
    ∙ (text_next (n + more) (entry_in bytes) first at
    ∙ (ap (line_then (entry_in bytes at) first) (enough n more bytes first (suc at) (omega arith)) ∙ sym (text_next n (entry_in bytes) first at)))

-- ---- entries of a log in two parts

-- a place of the second part, as a place of the whole
raised : ℕ → Entry → Entry
raised m (Some (Ok a)) = Some (Ok a)
raised m None = None
raised m (Some (Err e)) = bad_at (m + e.at)

raised_record : (m at : ℕ) (r : Result Access BadLog) → entry_of r (m + at) ≡ raised m (entry_of r at)
unfolding raised
raised_record m at (Ok a) = refl
raised_record m at (Err e) = refl

-- `a` is m whole records
module _ (m : ℕ) (a b : List ℕ) (whole : length a ≡ m * 8) where
  in_first : (at : ℕ) → at < m → entry_in (a ++ b) at ≡ entry_in a at
  in_first at h =
      let before : (i : ℕ) → i + 4 ≤ length a → word_at (a ++ b) i ≡ word_at a i =
      λ i fits. word_moved (a ++ b) a i i (λ k small. get_or-append a b 0 (i + k) (omega arith)) in
      in_whole (a ++ b) at (omega (arith, length-append a b))
      ∙ (ap (λ (w : ℕ). entry_of (record_of_words w (word_at (a ++ b) (at * 8 + 4))) at) (before (at * 8) (omega arith))
      ∙ (ap (λ (w : ℕ). entry_of (record_of_words (word_at a (at * 8)) w) at) (before (at * 8 + 4) (omega arith))
      ∙ sym (in_whole a at (omega arith))))

  behind : (i j : ℕ) → i ≡ length a + j → word_at (a ++ b) i ≡ word_at b j
  behind i j e =
      word_moved (a ++ b) b i j
      (λ k small.
      let f : i + k ≡ length a + (j + k) = omega arith in
      ap (λ (n : ℕ). get_or (a ++ b) n 0) f ∙ get_or-append-add a b (j + k) 0)

  in_second : (at : ℕ) (is_whole : Bool) → ltb at (length b / 8) ≡ is_whole → (begun : Bool) → ltb (at * 8) (length b) ≡ begun
      → entry_in (a ++ b) (m + at) ≡ raised m (entry_in b at)
  unfolding raised
  in_second at true e begun f =
      let below : at < length b / 8 = ltb-true at (length b / 8) e in
      in_whole (a ++ b) (m + at) (omega (arith, length-append a b))
      ∙ (ap (λ (w : ℕ). entry_of (record_of_words w (word_at (a ++ b) ((m + at) * 8 + 4))) (m + at)) (behind ((m + at) * 8) (at * 8) (omega arith))
      ∙ (ap (λ (w : ℕ). entry_of (record_of_words (word_at b (at * 8)) w) (m + at)) (behind ((m + at) * 8 + 4) (at * 8 + 4) (omega arith))
      ∙ (raised_record m at (record_of_words (word_at b (at * 8)) (word_at b (at * 8 + 4))) ∙ ap (raised m) (sym (in_whole b at below)))))
  in_second at false e true f =
      let over : length b / 8 ≤ at = ltb-false at (length b / 8) e in
      let under : at * 8 < length b = ltb-true (at * 8) (length b) f in
      in_short (a ++ b) (m + at) (omega (arith, length-append a b)) (λ z. omega (arith, length-append a b))
      ∙ sym (ap (raised m) (in_short b at (omega arith) (λ z. omega arith)))
  in_second at false e false f =
      let past : length b ≤ at * 8 = ltb-false (at * 8) (length b) f in
      in_end (a ++ b) (m + at) (omega (arith, length-append a b)) ∙ sym (ap (raised m) (in_end b at past))

  second : (at : ℕ) → entry_in (a ++ b) (m + at) ≡ raised m (entry_in b at)
  second at = in_second at (ltb at (length b / 8)) refl (ltb (at * 8) (length b)) refl

-- ---- texts of a log in two parts

-- a line of the second part, numbered from the first
line_raised : (m first : ℕ) (e : Entry) (rest : List ℕ) → line_then (raised m e) first rest ≡ line_then e ((first + m) % 2 ^ 64) rest
unfolding raised
line_raised m first (Some (Ok a)) rest = refl
line_raised m first None rest = refl
line_raised m first (Some (Err bad)) rest =
    let e : (first + (m + bad.at)) % 2 ^ 64 ≡ ((first + m) % 2 ^ 64 + bad.at) % 2 ^ 64 =
    ap (λ (n : ℕ). n % 2 ^ 64) (sym (add_assoc first m bad.at)) ∙ sym (mod-add-mod (first + m) (2 ^ 64) bad.at) in
    ap bad_line e

-- where an entry is an access, its line stands before what follows, and the rest are accesses too
line_then_on : (e : Entry) (rest : Bool) → cond (is_access e) rest false ≡ true → (first : ℕ) (x y : List ℕ)
    → line_then e first (x ++ y) ≡ line_then e first x ++ y
line_then_on (Some (Ok a)) rest h first x y = sym (append_assoc (line_of a) x y)
line_then_on None rest h first x y = absurd (false≢true h)
line_then_on (Some (Err e)) rest h first x y = absurd (false≢true h)

rest_all : (e : Entry) (rest : Bool) → cond (is_access e) rest false ≡ true → rest ≡ true
rest_all (Some (Ok a)) rest h = h
rest_all None rest h = absurd (false≢true h)
rest_all (Some (Err e)) rest h = absurd (false≢true h)

-- past an entry that is no access nothing is printed
line_then_same : (e : Entry) (rest : Bool) (first : ℕ) (x y : List ℕ) → cond (is_access e) rest false ≡ false → (rest ≡ false → x ≡ y)
    → line_then e first x ≡ line_then e first y
line_then_same (Some (Ok a)) rest first x y h f = ap (λ (l : List ℕ). line_of a ++ l) (f h)
line_then_same None rest first x y h f = refl
line_then_same (Some (Err e)) rest first x y h f = refl

module _ (m : ℕ) (a b : List ℕ) (whole : length a ≡ m * 8) (first : ℕ) where
  second_text : (count at : ℕ) → text_of count (entry_in (a ++ b)) first (m + at) ≡ text_of count (entry_in b) ((first + m) % 2 ^ 64) at
  second_text zero at = text_none (entry_in (a ++ b)) first (m + at) ∙ sym (text_none (entry_in b) ((first + m) % 2 ^ 64) at)
  second_text (suc count) at =
      text_next count (entry_in (a ++ b)) first (m + at)
      ∙ (ap (λ (e : Entry). line_then e first (text_of count (entry_in (a ++ b)) first (suc (m + at)))) (second m a b whole at)
      ∙ (line_raised m first (entry_in b at) (text_of count (entry_in (a ++ b)) first (suc (m + at)))
      ∙ (ap (λ (n : ℕ). line_then (entry_in b at) ((first + m) % 2 ^ 64) (text_of count (entry_in (a ++ b)) first n)) (sym (add-suc m at))
      ∙ (ap (line_then (entry_in b at) ((first + m) % 2 ^ 64)) (second_text count (suc at))
      ∙ sym (text_next count (entry_in b) ((first + m) % 2 ^ 64) at)))))

  -- from place `at` of the first part on, where `left` records of it are left, all of them accesses
  from_place : (count left at : ℕ) → at + left ≡ m → all_accesses left (entry_in a) at ≡ true
      → text_of (left + count) (entry_in (a ++ b)) first at ≡ text_of left (entry_in a) first at ++ text_of count (entry_in b) ((first + m) % 2 ^ 64) 0
  from_place count zero at e all =
      let here : at ≡ m + 0 = omega arith in
      ap (λ (n : ℕ). text_of n (entry_in (a ++ b)) first at) (zero-add count)
      ∙ (ap (text_of count (entry_in (a ++ b)) first) here
      ∙ (second_text count 0 ∙ ap (λ (l : List ℕ). l ++ text_of count (entry_in b) ((first + m) % 2 ^ 64) 0) (sym (text_none (entry_in a) first at))))
  from_place count (suc left) at e all =
      let rest : Bool = all_accesses left (entry_in a) (suc at) in
      let here : cond (is_access (entry_in a at)) rest false ≡ true = sym (all_next left (entry_in a) at) ∙ all in
      ap (λ (n : ℕ). text_of n (entry_in (a ++ b)) first at) (suc-add left count)
      ∙ (text_next (left + count) (entry_in (a ++ b)) first at
      ∙ (ap (λ (x : Entry). line_then x first (text_of (left + count) (entry_in (a ++ b)) first (suc at))) (in_first m a b whole at (omega arith))
      ∙ (ap (line_then (entry_in a at) first) (from_place count left (suc at) (omega arith) (rest_all (entry_in a at) rest here))
      ∙ (line_then_on (entry_in a at) rest here first (text_of left (entry_in a) first (suc at)) (text_of count (entry_in b) ((first + m) % 2 ^ 64) 0)
      ∙ ap (λ (l : List ℕ). l ++ text_of count (entry_in b) ((first + m) % 2 ^ 64) 0) (sym (text_next left (entry_in a) first at))))))

  -- the same where a record that is left is no access: what follows the first part is not printed
  from_bad : (count left at : ℕ) → at + left ≡ m → all_accesses left (entry_in a) at ≡ false
      → text_of (left + count) (entry_in (a ++ b)) first at ≡ text_of left (entry_in a) first at
  from_bad count zero at e some = absurd (false≢true (sym some ∙ all_none (entry_in a) at))
  from_bad count (suc left) at e some =
      let rest : Bool = all_accesses left (entry_in a) (suc at) in
      let here : cond (is_access (entry_in a at)) rest false ≡ false = sym (all_next left (entry_in a) at) ∙ some in
      ap (λ (n : ℕ). text_of n (entry_in (a ++ b)) first at) (suc-add left count)
      ∙ (text_next (left + count) (entry_in (a ++ b)) first at
      ∙ (ap (λ (x : Entry). line_then x first (text_of (left + count) (entry_in (a ++ b)) first (suc at))) (in_first m a b whole at (omega arith))
      ∙ (line_then_same (entry_in a at) rest first (text_of (left + count) (entry_in (a ++ b)) first (suc at)) (text_of left (entry_in a) first (suc at)) here
      (λ f. from_bad count left (suc at) (omega arith) f)
      ∙ sym (text_next left (entry_in a) first at))))

  as_whole : text_of m (entry_in a) first 0 ≡ log_text a first
  unfolding log_text
  as_whole =
      let long : m + m * 7 ≡ length a = omega arith in
      sym (enough m (m * 7) a first 0 (omega arith)) ∙ ap (λ (n : ℕ). text_of n (entry_in a) first 0) long

  -- THEOREM. Where the first part is whole records, all of them accesses, the text of a log is that of its first part, followed by
  -- that of the second, numbered from where the first ends.
  pub text_of_parts : all_accesses m (entry_in a) 0 ≡ true → log_text (a ++ b) first ≡ log_text a first ++ log_text b ((first + m) % 2 ^ 64)
  unfolding log_text
  text_of_parts all =
      let long : length (a ++ b) ≡ m + (length b + m * 7) = omega (arith, length-append a b) in
      ap (λ (n : ℕ). text_of n (entry_in (a ++ b)) first 0) long
      ∙ (from_place (length b + m * 7) m 0 (zero-add m) all
      ∙ (ap (λ (l : List ℕ). l ++ text_of (length b + m * 7) (entry_in b) ((first + m) % 2 ^ 64) 0) as_whole
      ∙ ap (λ (l : List ℕ). log_text a first ++ l) (enough (length b) (m * 7) b ((first + m) % 2 ^ 64) 0 (omega arith))))

  -- THEOREM. Where the first part is whole records and one of them is no access, the text is that of the first part.
  pub text_stops : all_accesses m (entry_in a) 0 ≡ false → log_text (a ++ b) first ≡ log_text a first
  unfolding log_text
  text_stops some =
      let long : length (a ++ b) ≡ m + (length b + m * 7) = omega (arith, length-append a b) in
      ap (λ (n : ℕ). text_of n (entry_in (a ++ b)) first 0) long ∙ (from_bad (length b + m * 7) m 0 (zero-add m) some ∙ as_whole)

-- THEOREM. What `render` writes of a buffer of up to 512 records is the buffer's text.
pub text_of_buffer : (bytes : List ℕ) (first : ℕ) → length bytes ≤ 4096 → text_of 512 (entry_in bytes) first 0 ≡ log_text bytes first
unfolding log_text
text_of_buffer bytes first h =
    sym (enough 512 (length bytes) bytes first 0 (omega arith))
    ∙ (ap (λ (n : ℕ). text_of n (entry_in bytes) first 0) (add_comm 512 (length bytes)) ∙ enough (length bytes) 512 bytes first 0 (omega arith))
