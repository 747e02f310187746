-- The answers of `erase_sectors`, each with "precisely when": document 02, U1. "1 and 2 as for one sector, with the first place, from 0, that meets either; new 32 RepeatedSector (with the
-- first that repeats an earlier one) after both; new 33 ListTooLong, tested first", whatever the room and the replies are. Assumes nothing.
use mathlib.Core.Path.{◌≡◌, refl, ap, subst, ◌∙◌, sym}
use mathlib.Core.Bool.{Bool, true, false, cond}
use mathlib.Core.List.{List, [], ◌∷◌, head-eq_of_cons-eq}
use mathlib.Core.Logic.{◌↔◌, ◌⊎◌, inl, inr}
use Prim.Native.Nat.{ℕ, zero, suc, ◌+◌, ◌-◌, ◌/◌, ◌%◌, ◌≤◌, ◌<◌}
use native.Mathlib.Omega.{arith}
use lib.Dec.{ltb, eqb}
use lib.ListN.{length, get_or}
use borrow.Author.Tests.{ltb-true, ltb-false, eq-eqb}
use Rattle.qspi_script.specs.Answer.{number_of}
use Rattle.qspi_script.specs.declared.Status.{Status}
use Rattle.qspi_script.specs.declared.Status.TheVariants.{Done, OutOfRange, Alignment, EraseErrorBitSet, RepliesEnded, LogFull, RepeatedSector, ListTooLong}
use Rattle.qspi_operation.specs.Machine.{Script, ends, want, reads, nothing, values_in, Result, called}
use Rattle.qspi_operation.proofs.Verdicts.{no}
use Rattle.qspi_operation.proofs.Stops.{EndsWith, with_end, with_count, some_read, full_when, dry_when}
use Rattle.qspi_calls.specs.Calls.{erasing, refused_at, sectors, erase_sectors}
use Rattle.qspi_calls.specs.OneByOne.{Accepted}
use Rattle.qspi_calls.proofs.Precisely.{with_working, at_once, never}
use Rattle.qspi_calls.proofs.ListPlaces.{Fine, FineBefore, Repeats, NewBefore, Outcome, too_long, out_of_range, off_start, repeated, goes, outcome, determined}

-- once it erases, a list ends with 0 or 21
pub with_sectors : {p : Status → Bool} → p Done ≡ true → p EraseErrorBitSet ≡ true → (l : List ℕ) → EndsWith p (sectors l)
with_sectors d e [] = with_end d
with_sectors d e (a ∷ l) = with_working 5 EraseErrorBitSet (erasing a) e (with_count (with_sectors d e l))

-- ---- the script

-- THEOREM. A list is erased precisely when none of the rules applies.
pub erased_when : (l : List ℕ) → (erase_sectors l ≡ sectors l) ↔ Accepted l
erased_when l = (go (outcome l), λ h. determined l (goes h))
  where
    ends-not : (a : Status) (vs : List ℕ) → ((called (sectors l) 0 []).answer ≡ a → ⊥) → ends a vs ≡ sectors l → ⊥
    ends-not a vs n e = n (ap (λ (z : Script). (called z 0 []).answer) (sym e) ∙ ap (λ (r : Result). r.answer) (at_once 0 [] a vs))

    go : {s : Script} → Outcome l s → s ≡ sectors l → Accepted l
    go (too_long _) e = absurd (ends-not ListTooLong [] (never 0 [] ListTooLong (with_sectors refl refl l) refl refl refl) e)
    go (out_of_range i _ _ _ _) e = absurd (ends-not OutOfRange (i ∷ []) (never 0 [] OutOfRange (with_sectors refl refl l) refl refl refl) e)
    go (off_start i _ _ _ _ _) e = absurd (ends-not Alignment (i ∷ []) (never 0 [] Alignment (with_sectors refl refl l) refl refl refl) e)
    go (repeated i _ _ _ _ _) e = absurd (ends-not RepeatedSector (i ∷ []) (never 0 [] RepeatedSector (with_sectors refl refl l) refl refl refl) e)
    go (goes h) e = h

-- ---- the refusals

-- a run is refused so, with this place
abbrev pub At : Result → Status → ℕ → Type 0
At q a i = (q.answer ≡ a) × (values_in q.state ≡ i ∷ [])

module _ (l : List ℕ) where
  -- 1: 33 does not apply, the sector at the place ends above 16,777,215, and every earlier place meets neither 1 nor 2
  abbrev pub OneAt : ℕ → Type 0
  OneAt i = (length l ≤ 256) × ((i < length l) × ((16777215 < get_or l i 0 + 65536) × FineBefore l i))

  -- 2: 33 does not apply, the address at the place is in range and no multiple of 65,536, and every earlier place meets neither 1 nor 2
  abbrev pub TwoAt : ℕ → Type 0
  TwoAt i = (length l ≤ 256) × ((i < length l) × ((get_or l i 0 + 65536 ≤ 16777215) × ((get_or l i 0 % 65536 ≡ 0 → ⊥) × FineBefore l i)))

  -- 32: 33 does not apply, no place at all meets 1 or 2, the place repeats an earlier one, and no place before it does
  abbrev pub ThirtyTwoAt : ℕ → Type 0
  ThirtyTwoAt i = (length l ≤ 256) × ((i < length l) × (FineBefore l (length l) × (Repeats l i × NewBefore l i)))

module _ (l : List ℕ) (n : ℕ) (rs : List ℕ) where
  abbrev r : Result
  r = called (erase_sectors l) n rs

  says : (a : Status) (vs : List ℕ) → (called (ends a vs) n rs).answer ≡ a
  says a vs = ap (λ (q : Result). q.answer) (at_once n rs a vs)

  -- another number
  apart : (s : Status) (vs : List ℕ) (a : Status) → eqb (number_of s) (number_of a) ≡ false → (called (ends s vs) n rs).answer ≡ a → ⊥
  apart s vs a e q = no (sym e ∙ eq-eqb (number_of s) (number_of a) (ap number_of (sym (says s vs) ∙ q)))

  at_place : (a : Status) (i : ℕ) → erase_sectors l ≡ refused_at a i → At r a i
  at_place a i e = subst (λ (s : Script). At (called s n rs) a i) (sym e) (says a (i ∷ []), ap (λ (q : Result). values_in q.state) (at_once n rs a (i ∷ [])))

  same_place : (a : Status) (i j : ℕ) → At (called (refused_at a j) n rs) a i → j ≡ i
  same_place a i j q = head-eq_of_cons-eq (sym (ap (λ (z : Result). values_in z.state) (at_once n rs a (j ∷ []))) ∙ q.1)

  -- THEOREM. 33: more than 256 entries, whatever they are.
  pub thirty_three : (r.answer ≡ ListTooLong) ↔ (256 < length l)
  thirty_three = (go (outcome l), λ h. ap (λ (s : Script). (called s n rs).answer) (determined l (too_long h)) ∙ says ListTooLong [])
    where
      go : {s : Script} → Outcome l s → (called s n rs).answer ≡ ListTooLong → 256 < length l
      go (too_long h) q = h
      go (out_of_range i _ _ _ _) q = absurd (apart OutOfRange (i ∷ []) ListTooLong refl q)
      go (off_start i _ _ _ _ _) q = absurd (apart Alignment (i ∷ []) ListTooLong refl q)
      go (repeated i _ _ _ _ _) q = absurd (apart RepeatedSector (i ∷ []) ListTooLong refl q)
      go (goes h) q = absurd (never n rs ListTooLong (with_sectors refl refl l) refl refl refl q)

  -- THEOREM. 1 with a place.
  pub one_at : (i : ℕ) → At r OutOfRange i ↔ OneAt l i
  one_at i = (go (outcome l), λ h. at_place OutOfRange i (determined l (out_of_range i h.0 h.1.0 h.1.1.0 h.1.1.1)))
    where
      go : {s : Script} → Outcome l s → At (called s n rs) OutOfRange i → OneAt l i
      go (too_long _) q = absurd (apart ListTooLong [] OutOfRange refl q.0)
      go (out_of_range j m h g f) q = subst (OneAt l) (same_place OutOfRange i j q) (m, (h, (g, f)))
      go (off_start j _ _ _ _ _) q = absurd (apart Alignment (j ∷ []) OutOfRange refl q.0)
      go (repeated j _ _ _ _ _) q = absurd (apart RepeatedSector (j ∷ []) OutOfRange refl q.0)
      go (goes _) q = absurd (never n rs OutOfRange (with_sectors refl refl l) refl refl refl q.0)

  -- THEOREM. 2 with a place.
  pub two_at : (i : ℕ) → At r Alignment i ↔ TwoAt l i
  two_at i = (go (outcome l), λ h. at_place Alignment i (determined l (off_start i h.0 h.1.0 h.1.1.0 h.1.1.1.0 h.1.1.1.1)))
    where
      go : {s : Script} → Outcome l s → At (called s n rs) Alignment i → TwoAt l i
      go (too_long _) q = absurd (apart ListTooLong [] Alignment refl q.0)
      go (out_of_range j _ _ _ _) q = absurd (apart OutOfRange (j ∷ []) Alignment refl q.0)
      go (off_start j m h g d f) q = subst (TwoAt l) (same_place Alignment i j q) (m, (h, (g, (d, f))))
      go (repeated j _ _ _ _ _) q = absurd (apart RepeatedSector (j ∷ []) Alignment refl q.0)
      go (goes _) q = absurd (never n rs Alignment (with_sectors refl refl l) refl refl refl q.0)

  -- THEOREM. 32 with a place.
  pub thirty_two_at : (i : ℕ) → At r RepeatedSector i ↔ ThirtyTwoAt l i
  thirty_two_at i = (go (outcome l), λ h. at_place RepeatedSector i (determined l (repeated i h.0 h.1.0 h.1.1.0 h.1.1.1.0 h.1.1.1.1)))
    where
      go : {s : Script} → Outcome l s → At (called s n rs) RepeatedSector i → ThirtyTwoAt l i
      go (too_long _) q = absurd (apart ListTooLong [] RepeatedSector refl q.0)
      go (out_of_range j _ _ _ _) q = absurd (apart OutOfRange (j ∷ []) RepeatedSector refl q.0)
      go (off_start j _ _ _ _ _) q = absurd (apart Alignment (j ∷ []) RepeatedSector refl q.0)
      go (repeated j m h f p d) q = subst (ThirtyTwoAt l) (same_place RepeatedSector i j q) (m, (h, (f, (p, d))))
      go (goes _) q = absurd (never n rs RepeatedSector (with_sectors refl refl l) refl refl refl q.0)

-- ---- 23 and 24

module _ (l : List ℕ) (n : ℕ) (rs : List ℕ) where
  -- a refusal is neither, and nothing is due after it
  refused_full : (a : Status) (vs : List ℕ) → eqb (number_of a) 24 ≡ false → ((called (ends a vs) n rs).answer ≡ LogFull) ↔ ((want (called (ends a vs) n rs).state ≡ nothing → ⊥) × ((called (ends a vs) n rs).room ≡ 0))
  refused_full a vs e = (λ q. absurd (apart l n rs a vs LogFull e q), λ h. absurd (h.0 (ap (λ (q : Result). want q.state) (at_once n rs a vs))))

  refused_dry : (a : Status) (vs : List ℕ) → eqb (number_of a) 23 ≡ false
      → ((called (ends a vs) n rs).answer ≡ RepliesEnded) ↔ (((o : ℕ) × (want (called (ends a vs) n rs).state ≡ reads o)) × ((0 < (called (ends a vs) n rs).room) × ((called (ends a vs) n rs).unread ≡ [])))
  refused_dry a vs e = (λ q. absurd (apart l n rs a vs RepliesEnded e q), λ h. absurd (some_read h.0.1 (ap (λ (q : Result). want q.state) (at_once n rs a vs))))

  -- THEOREM. 24, as of any other call: an access is due where the run stands, and there is no room for it.
  pub twenty_four : ((r l n rs).answer ≡ LogFull) ↔ ((want (r l n rs).state ≡ nothing → ⊥) × ((r l n rs).room ≡ 0))
  twenty_four = go (outcome l)
    where
      go : {s : Script} → Outcome l s → ((called s n rs).answer ≡ LogFull) ↔ ((want (called s n rs).state ≡ nothing → ⊥) × ((called s n rs).room ≡ 0))
      go (too_long _) = refused_full ListTooLong [] refl
      go (out_of_range i _ _ _ _) = refused_full OutOfRange (i ∷ []) refl
      go (off_start i _ _ _ _ _) = refused_full Alignment (i ∷ []) refl
      go (repeated i _ _ _ _ _) = refused_full RepeatedSector (i ∷ []) refl
      go (goes _) = full_when (with_sectors refl refl l) n rs

  -- THEOREM. 23, as of any other call: a read is due where the run stands, there is room for it, and no reply is left.
  pub twenty_three : ((r l n rs).answer ≡ RepliesEnded) ↔ (((o : ℕ) × (want (r l n rs).state ≡ reads o)) × ((0 < (r l n rs).room) × ((r l n rs).unread ≡ [])))
  twenty_three = go (outcome l)
    where
      go : {s : Script} → Outcome l s → ((called s n rs).answer ≡ RepliesEnded) ↔ (((o : ℕ) × (want (called s n rs).state ≡ reads o)) × ((0 < (called s n rs).room) × ((called s n rs).unread ≡ [])))
      go (too_long _) = refused_dry ListTooLong [] refl
      go (out_of_range i _ _ _ _) = refused_dry OutOfRange (i ∷ []) refl
      go (off_start i _ _ _ _ _) = refused_dry Alignment (i ∷ []) refl
      go (repeated i _ _ _ _ _) = refused_dry RepeatedSector (i ∷ []) refl
      go (goes _) = dry_when (with_sectors refl refl l) n rs

-- ---- a full list

-- so many different numbers below m are no more than m
fewer : (k m : ℕ) (f : ℕ → ℕ) → ((i : ℕ) → i < k → f i < m) → ((i j : ℕ) → i < j → j < k → f i ≡ f j → ⊥) → k ≤ m
fewer zero m f b d = omega arith
fewer (suc k) zero f b d = absurd (omega (arith, b 0 (omega arith)))
fewer (suc k) (suc m) f b d = omega (arith, fewer k m (λ i. lowered (ltb (f k) (f i)) (f i)) below apart)
  where
    lowered : Bool → ℕ → ℕ
    lowered t v = cond t (v - 1) v

    below : (i : ℕ) → i < k → lowered (ltb (f k) (f i)) (f i) < m
    below i h = go (ltb (f k) (f i)) refl
      where
        go : (t : Bool) → ltb (f k) (f i) ≡ t → lowered t (f i) < m
        go true e = omega (arith, b i (omega (arith, h)), ltb-true (f k) (f i) e)
        go false e = omega (arith, b k (omega arith), ltb-false (f k) (f i) e, d i k h (omega arith))

    apart : (i j : ℕ) → i < j → j < k → lowered (ltb (f k) (f i)) (f i) ≡ lowered (ltb (f k) (f j)) (f j) → ⊥
    apart i j h g = go (ltb (f k) (f i)) refl (ltb (f k) (f j)) refl
      where
        go : (t : Bool) → ltb (f k) (f i) ≡ t → (u : Bool) → ltb (f k) (f j) ≡ u → lowered t (f i) ≡ lowered u (f j) → ⊥
        go true e true c q = d i j h (omega (arith, g)) (omega (arith, q, ltb-true (f k) (f i) e, ltb-true (f k) (f j) c))
        go true e false c q = d j k g (omega arith) (omega (arith, q, ltb-true (f k) (f i) e, ltb-false (f k) (f j) c))
        go false e true c q = d i k (omega (arith, h, g)) (omega arith) (omega (arith, q, ltb-false (f k) (f i) e, ltb-true (f k) (f j) c))
        go false e false c q = d i j h (omega (arith, g)) q

-- THEOREM. An accepted list has at most 255 entries: the last sector of the array is out of range.
pub at_most_255 : (l : List ℕ) → Accepted l → length l ≤ 255
at_most_255 l h = fewer (length l) 255 (λ i. get_or l i 0 / 65536) (λ i k. number (get_or l i 0) (h.sound i k)) (λ i j k g e. h.distinct i j k g (same (get_or l i 0) (get_or l j 0) (h.sound i (omega (arith, k, g))) (h.sound j g) e))
  where
    number : (a : ℕ) → Fine a → a / 65536 < 255
    number a f = omega (arith, f.0)

    same : (a b : ℕ) → Fine a → Fine b → a / 65536 ≡ b / 65536 → a ≡ b
    same a b f g e = omega (arith, f.1, g.1, e)

-- THEOREM. A list of 256 entries is always refused, by 1, 2 or 32.
pub full_refused : (l : List ℕ) → length l ≡ 256 → (n : ℕ) (rs : List ℕ)
    → ((called (erase_sectors l) n rs).answer ≡ OutOfRange) ⊎ (((called (erase_sectors l) n rs).answer ≡ Alignment) ⊎ ((called (erase_sectors l) n rs).answer ≡ RepeatedSector))
full_refused l e n rs = go (outcome l)
  where
    go : {s : Script} → Outcome l s → ((called s n rs).answer ≡ OutOfRange) ⊎ (((called s n rs).answer ≡ Alignment) ⊎ ((called s n rs).answer ≡ RepeatedSector))
    go (too_long h) = absurd (omega (arith, h, e))
    go (out_of_range i _ _ _ _) = inl (says l n rs OutOfRange (i ∷ []))
    go (off_start i _ _ _ _ _) = inr (inl (says l n rs Alignment (i ∷ [])))
    go (repeated i _ _ _ _ _) = inr (inr (says l n rs RepeatedSector (i ∷ [])))
    go (goes h) = absurd (omega (arith, at_most_255 l h, e))
