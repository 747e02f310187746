-- The text of a log, record by record. Assumes nothing.
use Rattle.std.specs.Prelude.{Some, None, Ok}
use Rattle.std.proofs.Common.{◌≡◌, ℕ, zero, suc, ◌+◌, ◌%◌, ◌^◌, ◌<◌, ◌≤◌, Bool, true, false, cond, [], ◌++◌, sym, refl, ap, ◌∙◌, arith}
use Rattle.zynq7000.specs.declared.qspi.Access.{Access}
use Rattle.access_log.specs.Log.{Entry, bad_at, is_access}
use Rattle.access_log.specs.Text.{line_of, bad_line, line_then, text_of, all_accesses}

-- ---- the text at a place, by what stands there

pub text_none : (entries : ℕ → Entry) (first at : ℕ) → text_of 0 entries first at ≡ []
unfolding text_of
text_none entries first at = refl

pub all_none : (entries : ℕ → Entry) (at : ℕ) → all_accesses 0 entries at ≡ true
unfolding all_accesses
all_none entries at = refl

module _ (count : ℕ) (entries : ℕ → Entry) (first at : ℕ) where
  pub text_next : text_of (suc count) entries first at ≡ line_then (entries at) first (text_of count entries first (suc at))
  unfolding text_of
  text_next = refl

  pub text_access : (a : Access) → entries at ≡ Some (Ok a)
      → text_of (suc count) entries first at ≡ line_of a ++ text_of count entries first (suc at)
  unfolding text_of
  text_access a e = rw e

  pub text_end : entries at ≡ None → text_of (suc count) entries first at ≡ []
  unfolding text_of
  text_end e = rw e

  pub text_bad : (k : ℕ) → entries at ≡ bad_at k → text_of (suc count) entries first at ≡ bad_line ((first + k) % 2 ^ 64)
  unfolding text_of
  text_bad k e = rw e

module _ (count : ℕ) (entries : ℕ → Entry) (at : ℕ) where
  pub all_next : all_accesses (suc count) entries at ≡ cond (is_access (entries at)) (all_accesses count entries (suc at)) false
  unfolding all_accesses
  all_next = refl

  pub all_access : (a : Access) → entries at ≡ Some (Ok a)
      → all_accesses (suc count) entries at ≡ all_accesses count entries (suc at)
  unfolding all_accesses
  all_access a e = rw e

  pub all_end : entries at ≡ None → all_accesses (suc count) entries at ≡ false
  unfolding all_accesses
  all_end e = rw e

  pub all_bad : (k : ℕ) → entries at ≡ bad_at k → all_accesses (suc count) entries at ≡ false
  unfolding all_accesses
  all_bad k e = rw e

-- ---- two logs with the same entries have the same text

pub text_same : (count : ℕ) (a b : ℕ → Entry) (first at : ℕ) → ((i : ℕ) → at ≤ i → i < at + count → a i ≡ b i)
    → text_of count a first at ≡ text_of count b first at
text_same zero a b first at same = text_none a first at ∙ sym (text_none b first at)
text_same (suc count) a b first at same =
    text_next count a first at
    ∙ (ap (λ (e : Entry). line_then e first (text_of count a first (suc at))) (same at (omega arith) (omega arith))
    ∙ (ap (line_then (b at) first) (text_same count a b first (suc at) (λ i low high. same i (omega arith) (omega arith)))
    ∙ sym (text_next count b first at)))

pub all_same : (count : ℕ) (a b : ℕ → Entry) (at : ℕ) → ((i : ℕ) → at ≤ i → i < at + count → a i ≡ b i) → all_accesses count a at ≡ all_accesses count b at
all_same zero a b at same = all_none a at ∙ sym (all_none b at)
all_same (suc count) a b at same =
    all_next count a at
    ∙ (ap (λ (e : Entry). cond (is_access e) (all_accesses count a (suc at)) false) (same at (omega arith) (omega arith))
    ∙ (ap (λ (x : Bool). cond (is_access (b at)) x false) (all_same count a b (suc at) (λ i low high. same i (omega arith) (omega arith)))
    ∙ sym (all_next count b at)))
