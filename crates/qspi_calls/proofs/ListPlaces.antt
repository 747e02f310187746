-- Which place of a list of sectors is found, and what the list's script is by it: rules 1 and 2 at the first place that meets either, 32 at the first that repeats an earlier one. Assumes
-- nothing.
use mathlib.Core.Path.{◌≡◌, refl, ap, ◌∙◌, sym}
use mathlib.Core.Bool.{Bool, true, false, cond, ◌||◌}
use mathlib.Core.List.{List, [], ◌∷◌, ◌++◌, append-nil}
use Prim.Native.Nat.{ℕ, zero, suc, ◌+◌, ◌-◌, ◌%◌, ◌≤◌, ◌<◌}
use native.Mathlib.Omega.{arith}
use lib.Dec.{ltb, eqb}
use lib.ListN.{length, get_or, take}
use lib.Seq.{append_snoc}
use borrow.Author.Tests.{ltb-true, ltb-false, lt-ltb, le-ltb, eq-eqb, ne_eqb, eqb-true, eqb-false}
use Rattle.zedboard_bsp.specs.Limits.{last_end, sector_size}
use Rattle.qspi_script.specs.declared.Status.TheVariants.{Going, OutOfRange, Alignment, RepeatedSector, ListTooLong}
use Rattle.qspi_operation.specs.Step.{is_going}
use Rattle.qspi_operation.specs.Machine.{Script, onward}
use Rattle.qspi_operation.proofs.Verdicts.{no}
use Rattle.qspi_calls.specs.Sectors.{sector_status, first_refused, among, first_repeat}
use Rattle.qspi_calls.specs.Calls.{refused, refused_at, sectors, erase_sectors}
use Rattle.qspi_calls.specs.OneByOne.{Accepted}
use Rattle.qspi_calls.proofs.ListLoops.{found}
use Rattle.qspi_calls.proofs.ListOfSectors.{accepted, refused_there}

-- ---- rules 1 and 2

-- an address meets neither
abbrev pub Fine : ℕ → Type 0
Fine a = (a + sector_size ≤ last_end) × (a % sector_size ≡ 0)

-- so do all places before this one
abbrev pub FineBefore : List ℕ → ℕ → Type 0
FineBefore l i = (j : ℕ) → j < i → Fine (get_or l j 0)

fine_goes : (a : ℕ) → Fine a → is_going (sector_status a) ≡ true
fine_goes a f = rw (le-ltb 16777215 (a + 65536) f.0, eq-eqb (a % 65536) 0 f.1)

pub fine_before : (l : List ℕ) → FineBefore l (first_refused l)
fine_before [] i h = absurd (omega arith)
fine_before (a ∷ l) i h = go (is_going (sector_status a)) refl i h (fine_before l)
  where
    go : (b : Bool) → is_going (sector_status a) ≡ b → (j : ℕ) → j < cond b (suc (first_refused l)) 0 → FineBefore l (first_refused l) → Fine (get_or (a ∷ l) j 0)
    go true e zero k rest = accepted a e
    go true e (suc j) k rest = rest j (omega arith)
    go false e j k rest = absurd (omega arith)

-- the first of them is found
pub first_refused_lem : (l : List ℕ) (i : ℕ) → i < length l → FineBefore l i → (Fine (get_or l i 0) → ⊥) → first_refused l ≡ i
first_refused_lem l i h f n = go (ltb i (first_refused l)) refl (ltb (first_refused l) i) refl
  where
    go : (b : Bool) → ltb i (first_refused l) ≡ b → (c : Bool) → ltb (first_refused l) i ≡ c → first_refused l ≡ i
    go true e c g = absurd (n (fine_before l i (ltb-true i (first_refused l) e)))
    go false e true g =
        let k : first_refused l < i = ltb-true (first_refused l) i g in
        no (sym (refused_there l (omega (arith, k, h))) ∙ fine_goes (get_or l (first_refused l) 0) (f (first_refused l) k))
    go false e false g = omega (arith, ltb-false i (first_refused l) e, ltb-false (first_refused l) i g)

pub none_refused : (l : List ℕ) → FineBefore l (length l) → length l ≤ first_refused l
none_refused l f = go (ltb (first_refused l) (length l)) refl
  where
    go : (b : Bool) → ltb (first_refused l) (length l) ≡ b → length l ≤ first_refused l
    go true e =
        let k : first_refused l < length l = ltb-true (first_refused l) (length l) e in
        no (sym (refused_there l k) ∙ fine_goes (get_or l (first_refused l) 0) (f (first_refused l) k))
    go false e = ltb-false (first_refused l) (length l) e

-- ---- the same sector again

-- the place repeats an earlier one
abbrev pub Repeats : List ℕ → ℕ → Type 0
Repeats l i = (j : ℕ) × ((j < i) × (get_or l j 0 ≡ get_or l i 0))

-- no place before this one does
abbrev pub NewBefore : List ℕ → ℕ → Type 0
NewBefore l i = (j k : ℕ) → j < k → k < i → get_or l j 0 ≡ get_or l k 0 → ⊥

some_place : (a : ℕ) (l : List ℕ) (i : ℕ) → among a (take i l) ≡ true → (j : ℕ) × ((j < i) × (get_or l j 0 ≡ a))
some_place a l zero h = no h
some_place a [] (suc i) h = no h
some_place a (b ∷ l) (suc i) h = go (eqb b a) refl h (some_place a l i)
  where
    go : (t : Bool) → eqb b a ≡ t → (t || among a (take i l)) ≡ true → (among a (take i l) ≡ true → (j : ℕ) × ((j < i) × (get_or l j 0 ≡ a))) → (j : ℕ) × ((j < suc i) × (get_or (b ∷ l) j 0 ≡ a))
    go true e k rest = (0, (omega arith, eqb-true b a e))
    go false e k rest = let y = rest k in (suc y.0, (omega (arith, y.1.0), y.1.1))

new_before : (earlier l : List ℕ) (i : ℕ) → i < first_repeat earlier l → among (get_or l i 0) (earlier ++ take i l) ≡ false
new_before earlier [] i h = absurd (omega arith)
new_before earlier (a ∷ l) i h = go (among a earlier) refl i h (new_before (earlier ++ a ∷ []) l)
  where
    go : (b : Bool) → among a earlier ≡ b → (j : ℕ) → j < cond b 0 (suc (first_repeat (earlier ++ a ∷ []) l))
        → ((k : ℕ) → k < first_repeat (earlier ++ a ∷ []) l → among (get_or l k 0) ((earlier ++ a ∷ []) ++ take k l) ≡ false) → among (get_or (a ∷ l) j 0) (earlier ++ take j (a ∷ l)) ≡ false
    go true e j k rest = absurd (omega arith)
    go false e zero k rest = ap (among a) (append-nil earlier) ∙ e
    go false e (suc j) k rest = ap (among (get_or l j 0)) (sym (append_snoc earlier a (take j l))) ∙ rest j (omega arith)

old_at : (earlier l : List ℕ) → first_repeat earlier l < length l → among (get_or l (first_repeat earlier l) 0) (earlier ++ take (first_repeat earlier l) l) ≡ true
old_at earlier [] h = absurd (omega arith)
old_at earlier (a ∷ l) h = go (among a earlier) refl h (old_at (earlier ++ a ∷ []) l)
  where
    at : ℕ
    at = first_repeat (earlier ++ a ∷ []) l

    go : (b : Bool) → among a earlier ≡ b → cond b 0 (suc at) < suc (length l) → (at < length l → among (get_or l at 0) ((earlier ++ a ∷ []) ++ take at l) ≡ true)
        → among (get_or (a ∷ l) (cond b 0 (suc at)) 0) (earlier ++ take (cond b 0 (suc at)) (a ∷ l)) ≡ true
    go true e k rest = ap (among a) (append-nil earlier) ∙ e
    go false e k rest = ap (among (get_or l at 0)) (sym (append_snoc earlier a (take at l))) ∙ rest (omega arith)

repeat_le : (earlier l : List ℕ) → first_repeat earlier l ≤ length l
repeat_le earlier [] = omega arith
repeat_le earlier (a ∷ l) = go (among a earlier) (repeat_le (earlier ++ a ∷ []) l)
  where
    go : (b : Bool) → first_repeat (earlier ++ a ∷ []) l ≤ length l → cond b 0 (suc (first_repeat (earlier ++ a ∷ []) l)) ≤ suc (length l)
    go true h = omega arith
    go false h = omega (arith, h)

pub distinct_before : (l : List ℕ) → NewBefore l (first_repeat [] l)
distinct_before l j k h g e =
    let s : among (get_or l k 0) (take k l) ≡ false = new_before [] l k g in
    let z : j + suc (k - suc j) ≡ k = omega (arith, h) in
    let f : among (get_or l k 0) (take (j + suc (k - suc j)) l) ≡ true = found l (get_or l k 0) j (k - suc j) (omega (arith, z, g, repeat_le [] l)) e in
    no (sym s ∙ (ap (λ (n : ℕ). among (get_or l k 0) (take n l)) (sym z) ∙ f))

pub repeated_there : (l : List ℕ) → first_repeat [] l < length l → Repeats l (first_repeat [] l)
repeated_there l h = some_place (get_or l (first_repeat [] l) 0) l (first_repeat [] l) (old_at [] l h)

-- the first of them is found
pub first_repeated : (l : List ℕ) (i : ℕ) → i < length l → NewBefore l i → Repeats l i → first_repeat [] l ≡ i
first_repeated l i h f r = go (ltb i (first_repeat [] l)) refl (ltb (first_repeat [] l) i) refl
  where
    go : (b : Bool) → ltb i (first_repeat [] l) ≡ b → (c : Bool) → ltb (first_repeat [] l) i ≡ c → first_repeat [] l ≡ i
    go true e c g = absurd (distinct_before l r.0 i r.1.0 (ltb-true i (first_repeat [] l) e) r.1.1)
    go false e true g =
        let k : first_repeat [] l < i = ltb-true (first_repeat [] l) i g in
        let y = repeated_there l (omega (arith, k, h)) in
        absurd (f y.0 (first_repeat [] l) y.1.0 k y.1.1)
    go false e false g = omega (arith, ltb-false i (first_repeat [] l) e, ltb-false (first_repeat [] l) i g)

pub none_repeated : (l : List ℕ) → NewBefore l (length l) → length l ≤ first_repeat [] l
none_repeated l f = go (ltb (first_repeat [] l) (length l)) refl
  where
    go : (b : Bool) → ltb (first_repeat [] l) (length l) ≡ b → length l ≤ first_repeat [] l
    go true e =
        let k : first_repeat [] l < length l = ltb-true (first_repeat [] l) (length l) e in
        let y = repeated_there l k in
        absurd (f y.0 (first_repeat [] l) y.1.0 k y.1.1)
    go false e = ltb-false (first_repeat [] l) (length l) e

-- ---- the script

-- what comes of a list, by what it is refused for
pub data Outcome (l : List ℕ) : Script → Type 0 where
  too_long : 256 < length l → Outcome l (refused ListTooLong)
  out_of_range : (i : ℕ) → length l ≤ 256 → i < length l → 16777215 < get_or l i 0 + 65536 → FineBefore l i → Outcome l (refused_at OutOfRange i)
  off_start : (i : ℕ) → length l ≤ 256 → i < length l → get_or l i 0 + 65536 ≤ 16777215 → (get_or l i 0 % 65536 ≡ 0 → ⊥) → FineBefore l i → Outcome l (refused_at Alignment i)
  repeated : (i : ℕ) → length l ≤ 256 → i < length l → FineBefore l (length l) → Repeats l i → NewBefore l i → Outcome l (refused_at RepeatedSector i)
  goes : Accepted l → Outcome l (sectors l)

-- the script by the two places
abbrev script_at : List ℕ → ℕ → ℕ → Script
script_at l i j = onward (ltb 256 (length l)) (refused ListTooLong) (onward (ltb i (length l)) (refused_at (sector_status (get_or l i 0)) i) (onward (ltb j (length l)) (refused_at RepeatedSector j) (sectors l)))

refused_at_lem : (l : List ℕ) (i : ℕ) → length l ≤ 256 → i < length l → FineBefore l i → is_going (sector_status (get_or l i 0)) ≡ false → Outcome l (refused_at (sector_status (get_or l i 0)) i)
refused_at_lem l i n h f = go (ltb 16777215 (get_or l i 0 + 65536)) refl (eqb (get_or l i 0 % 65536) 0) refl
  where
    go : (b : Bool) → ltb 16777215 (get_or l i 0 + 65536) ≡ b → (c : Bool) → eqb (get_or l i 0 % 65536) 0 ≡ c → is_going (cond b OutOfRange (cond c Going Alignment)) ≡ false
        → Outcome l (refused_at (cond b OutOfRange (cond c Going Alignment)) i)
    go true e c g k = out_of_range i n h (ltb-true 16777215 (get_or l i 0 + 65536) e) f
    go false e true g k = no (sym k)
    go false e false g k = off_start i n h (ltb-false 16777215 (get_or l i 0 + 65536) e) (eqb-false (get_or l i 0 % 65536) 0 g) f

-- THEOREM. One of them comes of every list.
pub outcome : (l : List ℕ) → Outcome l (erase_sectors l)
outcome l = go (ltb 256 (length l)) refl (ltb (first_refused l) (length l)) refl (ltb (first_repeat [] l) (length l)) refl
  where
    all-fine : length l ≤ first_refused l → FineBefore l (length l)
    all-fine h i k = fine_before l i (omega (arith, h, k))

    go : (b : Bool) → ltb 256 (length l) ≡ b → (c : Bool) → ltb (first_refused l) (length l) ≡ c → (d : Bool) → ltb (first_repeat [] l) (length l) ≡ d
        → Outcome l (onward b (refused ListTooLong) (onward c (refused_at (sector_status (get_or l (first_refused l) 0)) (first_refused l)) (onward d (refused_at RepeatedSector (first_repeat [] l)) (sectors l))))
    go true e c f d g = too_long (ltb-true 256 (length l) e)
    go false e true f d g = let k = ltb-true (first_refused l) (length l) f in refused_at_lem l (first_refused l) (ltb-false 256 (length l) e) k (fine_before l) (refused_there l k)
    go false e false f true g =
        let k = ltb-true (first_repeat [] l) (length l) g in
        repeated (first_repeat [] l) (ltb-false 256 (length l) e) k (all-fine (ltb-false (first_refused l) (length l) f)) (repeated_there l k) (distinct_before l)
    go false e false f false g =
        let k = ltb-false (first_repeat [] l) (length l) g in
        goes (record { short = ltb-false 256 (length l) e; sound = all-fine (ltb-false (first_refused l) (length l) f); distinct = λ i j h n. distinct_before l i j h (omega (arith, k, n)) })

-- THEOREM. And no other than the one whose conditions hold.
pub determined : (l : List ℕ) {s : Script} → Outcome l s → erase_sectors l ≡ s
determined l (too_long h) = rw (lt-ltb 256 (length l) h)
determined l (out_of_range i n h g f) =
    let e = first_refused_lem l i h f (λ y. omega (arith, y.0, g)) in
    ap (λ (x : ℕ). script_at l x (first_repeat [] l)) e ∙ rw (le-ltb 256 (length l) n, lt-ltb i (length l) h, lt-ltb 16777215 (get_or l i 0 + 65536) g)
determined l (off_start i n h g d f) =
    let e = first_refused_lem l i h f (λ y. d y.1) in
    ap (λ (x : ℕ). script_at l x (first_repeat [] l)) e ∙ rw (le-ltb 256 (length l) n, lt-ltb i (length l) h, le-ltb 16777215 (get_or l i 0 + 65536) g, ne_eqb (get_or l i 0 % 65536) 0 d)
determined l (repeated i n h f r d) =
    ap (script_at l (first_refused l)) (first_repeated l i h d r) ∙ rw (le-ltb 256 (length l) n, le-ltb (first_refused l) (length l) (none_refused l f), lt-ltb i (length l) h)
determined l (goes a) =
    rw (le-ltb 256 (length l) a.short, le-ltb (first_refused l) (length l) (none_refused l a.sound), le-ltb (first_repeat [] l) (length l) (none_repeated l a.distinct))
