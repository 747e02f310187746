-- How many accesses lead a log: the first place that holds none. Assumes nothing.
use Rattle.std.proofs.Common.{◌≡◌, ℕ, zero, suc, ◌+◌, ◌<◌, ◌≤◌, Bool, true, false, ltb, List, [], ◌++◌, length, sym, refl, ap, ◌∙◌, append-nil, zero-add, arith, ltb-false, ltb-true}
use Rattle.std.proofs.lemmas.Bool.{false≢true}
use Rattle.zynq7000.specs.Access.{encode, Loggable}
use Rattle.zynq7000.specs.declared.qspi.Access.{Access}
use Rattle.zynq7000.specs.declared.qspi.Access.TheVariants.{Write}
use Rattle.access_log.specs.Log.{Entry, is_access, entry_at}
use Rattle.access_log.specs.Reader.{first_other, accesses_in}
use Rattle.access_log.proofs.Finding.{access_within}
use Rattle.access_log.proofs.Places.{at_end}
use Rattle.access_log.proofs.RoundTrip.{reads_back, reads_end}

-- ---- the first place that holds no access

module _ (entries : ℕ → Entry) where
  abbrev at_place : ℕ → Bool
  at_place i = is_access (entries i)

  first_none : (at : ℕ) → first_other 0 entries at ≡ at
  unfolding first_other
  first_none at = refl

  pub first_on : (k at : ℕ) → at_place at ≡ true → first_other (suc k) entries at ≡ first_other k entries (suc at)
  unfolding first_other
  first_on k at a = rw a

  pub first_stops : (k at : ℕ) → at_place at ≡ false → first_other k entries at ≡ at
  unfolding first_other
  first_stops zero at a = refl
  first_stops (suc k) at a = rw a

  -- each place before it holds an access
  first_before : (k at i : ℕ) → at ≤ i → i < first_other k entries at → at_place i ≡ true
  first_before zero at i low h = absurd (omega (arith, first_none at))
  first_before (suc k) at i low h = by-test (first_before k (suc at) i) (at_place at) refl (ltb at i) refl
    where
      by-test : (suc at ≤ i → i < first_other k entries (suc at) → at_place i ≡ true)
          → (b : Bool) → at_place at ≡ b → (later : Bool) → ltb at i ≡ later → at_place i ≡ true
      by-test further true a true e = further (ltb-true at i e) (omega (arith, first_on k at a))
      by-test further true a false e =
          let here : i ≡ at = omega (arith, ltb-false at i e) in
          ap at_place here ∙ a
      by-test further false a later e = absurd (omega (arith, first_stops (suc k) at a))

  -- it holds none, where the place behind the k places holds none
  first_there : (k at : ℕ) → at_place (at + k) ≡ false → at_place (first_other k entries at) ≡ false
  first_there zero at none =
      let same : first_other 0 entries at ≡ at + 0 = omega (arith, first_none at) in
      ap at_place same ∙ none
  first_there (suc k) at none =
      let on : suc at + k ≡ at + suc k = omega arith in
      by-test (first_there k (suc at) (ap at_place on ∙ none)) (at_place at) refl
    where
      by-test : at_place (first_other k entries (suc at)) ≡ false → (b : Bool) → at_place at ≡ b → at_place (first_other (suc k) entries at) ≡ false
      by-test further true a = ap at_place (first_on k at a) ∙ further
      by-test further false a = ap at_place (first_stops (suc k) at a) ∙ a

  -- no other place is such
  first_is : (k at n : ℕ) → at ≤ n → n ≤ at + k → ((i : ℕ) → at ≤ i → i < n → at_place i ≡ true) → at_place n ≡ false
      → first_other k entries at ≡ n
  first_is zero at n low most before none = omega (arith, first_none at)
  first_is (suc k) at n low most before none =
      by-test (λ l. first_is k (suc at) n l (omega arith) (λ i below. before i (omega arith)) none) (ltb at n) refl
    where
      by-test : (suc at ≤ n → first_other k entries (suc at) ≡ n) → (b : Bool) → ltb at n ≡ b → first_other (suc k) entries at ≡ n
      by-test further true e = first_on k at (before at (omega arith) (ltb-true at n e)) ∙ further (ltb-true at n e)
      by-test further false e =
          let here : at ≡ n = omega (arith, ltb-false at n e) in
          first_stops (suc k) at (ap at_place here ∙ none) ∙ here

-- ---- the accesses of a log

module _ (log : List ℕ) where
  abbrev is_access_at : ℕ → Bool
  is_access_at at = is_access (entry_at log at)

  -- THEOREM. Each place below the number of accesses holds an access,
  pub accesses_before : (at : ℕ) → at < accesses_in log → is_access_at at ≡ true
  accesses_before at h = first_before (entry_at log) (length log) 0 at (omega arith) h

  -- and the place of that number holds none.
  pub accesses_end : is_access_at (accesses_in log) ≡ false
  accesses_end =
      first_there (entry_at log) (length log) 0
      (ap is_access_at (zero-add (length log)) ∙ ap is_access (at_end log (length log) (omega arith)))

  -- THEOREM. No other number is such.
  pub accesses_only : (n : ℕ) → ((at : ℕ) → at < n → is_access_at at ≡ true) → is_access_at n ≡ false → accesses_in log ≡ n
  accesses_only n before none = first_is (entry_at log) (length log) 0 n (omega arith) (most n before) (λ i low. before i) none
    where
      most : (n : ℕ) → ((at : ℕ) → at < n → is_access_at at ≡ true) → n ≤ 0 + length log
      most zero b = omega arith
      most (suc n) b = omega (arith, access_within log n (entry_at log n) refl (b n (omega arith)))

-- ---- the accesses of a log that accesses wrote

pub written_before : (l : List Access) (rest : List ℕ) → Loggable l → (at : ℕ) → at < length l → is_access (entry_at (encode l ++ rest) at) ≡ true
written_before l rest o at h = ap is_access (reads_back (Write 0 0) rest l at o h)

-- THEOREM. It has as many accesses as wrote it,
pub accesses_written : (l : List Access) → Loggable l → accesses_in (encode l) ≡ length l
accesses_written l o =
    accesses_only (encode l) (length l)
    (λ at h. ap (λ (w : List ℕ). is_access (entry_at w at)) (sym (append-nil (encode l))) ∙ written_before l [] o at h)
    (ap is_access (reads_end l))

-- and at least as many, whatever follows them.
pub accesses_least : (l : List Access) (rest : List ℕ) → Loggable l → length l ≤ accesses_in (encode l ++ rest)
accesses_least l rest o = by-test (ltb (accesses_in (encode l ++ rest)) (length l)) refl
  where
    by-test : (b : Bool) → ltb (accesses_in (encode l ++ rest)) (length l) ≡ b → length l ≤ accesses_in (encode l ++ rest)
    by-test true e =
        absurd (false≢true (sym (accesses_end (encode l ++ rest)) ∙ written_before l rest o (accesses_in (encode l ++ rest)) (ltb-true _ _ e)))
    by-test false e = ltb-false _ _ e
