-- A list of erases is its single erases, one after the other, each on what the one before left: the run of a script with another behind it is the run of the first, then of the second on what
-- the first leaves. Assumes nothing.
use mathlib.Core.Path.{◌≡◌, refl, ap, subst, ◌∙◌, sym}
use mathlib.Core.Bool.{Bool, true, false}
use mathlib.Core.List.{List, [], ◌∷◌, ◌++◌, reverse}
use mathlib.Core.Logic.{◌↔◌, ◌⊎◌, inl, inr}
use Prim.Native.Nat.{ℕ, zero, suc, ◌+◌, ◌*◌, ◌%◌, ◌≤◌, ◌<◌}
use native.Mathlib.Omega.{arith}
use lib.ListN.{length, get_or, drop}
use borrow.Author.Tests.{le-ltb, eq-eqb}
use Rattle.zynq7000.specs.Bits.{is_set}
use Rattle.zynq7000.specs.Access.{encode}
use Rattle.zynq7000.specs.declared.qspi.Access.{Access}
use Rattle.zynq7000.specs.declared.qspi.Access.TheVariants as access
use Rattle.qspi_script.specs.declared.Status.{Status}
use Rattle.qspi_script.specs.declared.Status.TheVariants as status
use Rattle.qspi_script.specs.declared.Status.TheVariants.{Done, OutOfRange, Alignment, EraseErrorBitSet, RepliesEnded, LogFull, RepeatedSector, ListTooLong}
use Rattle.qspi_operation.specs.Machine.{Action, Midway, Progress, stays, over, takes, progress, Want, reads, writes, nothing, want_at, Script, ends, perform, repeats, counts, none, State, going, ended, onward, begin, proceed, moves, next, values_in, count_in, Result, halt, logging, no_room, made, runs, called}
use Rattle.qspi_operation.proofs.Verdicts.{no}
use Rattle.qspi_operation.proofs.Stops.{some_due}
use Rattle.qspi_calls.specs.Calls.{erasing, top, working, erase_sector, sectors, erase_sectors}
use Rattle.qspi_calls.specs.Settled.{Settles, Fails}
use Rattle.qspi_calls.specs.Promise.{logged_of}
use Rattle.qspi_calls.specs.OneByOne.{Erases, is_done, after_one, one_by_one, Singles, SingleErases, Accepted}
use Rattle.qspi_calls.proofs.Precisely.{at_once}
use Rattle.qspi_calls.proofs.Failures.{erase_done, erase_twenty_one}
use Rattle.qspi_calls.proofs.ListOfSectors as list
use Rattle.qspi_calls.proofs.ListOfSectors.{Good, all_good}
use Rattle.qspi_calls.proofs.ListPlaces.{none_refused, Outcome, too_long, out_of_range, off_start, repeated, goes, outcome, determined}

-- THEOREM. `is_done` is true of Done alone.
pub done_alone : (a : Status) → is_done a ≡ true → a ≡ Done
done_alone status.Going h = no h
done_alone status.Done h = refl
done_alone status.OutOfRange h = no h
done_alone status.Alignment h = no h
done_alone status.DataTooLarge h = no h
done_alone status.NotAligned h = no h
done_alone status.CrossesPageBoundary h = no h
done_alone status.AddressSpan h = no h
done_alone status.FieldTooWide h = no h
done_alone status.EraseErrorBitSet h = no h
done_alone status.ProgrammingErrorBitSet h = no h
done_alone status.RepliesEnded h = no h
done_alone status.LogFull h = no h
done_alone status.LentLengthChanged h = no h
done_alone status.RepeatedSector h = no h
done_alone status.ListTooLong h = no h

-- "Only 21, 23 or 24 may stop it midway"
abbrev pub Stops : Status → Type 0
Stops a = (a ≡ EraseErrorBitSet) ⊎ ((a ≡ RepliesEnded) ⊎ (a ≡ LogFull))

not_done : {a : Status} → Stops a → is_done a ≡ false
not_done (inl e) = ap is_done e
not_done (inr (inl e)) = ap is_done e
not_done (inr (inr e)) = ap is_done e

-- ---- a script with another behind it, which is counted on

module _ (s : Script) where
  -- the first of the two goes on where the second is done
  data Behind : Script → Script → Type 0 where
    clean : Behind (counts 1 s) (ends Done [])
    failed : Behind (ends EraseErrorBitSet []) (ends EraseErrorBitSet [])
    performs : {a : Action} {l : List Action} {k h : List ℕ → Script} → ((rs : List ℕ) → Behind (k rs) (h rs)) → Behind (perform a l none k) (perform a l none h)
    again : {a : Action} {l : List Action} {still : List ℕ → Bool} {k h : List ℕ → Script} → ((rs : List ℕ) → Behind (k rs) (h rs)) → Behind (repeats a l still k) (repeats a l still h)

  behind_either : {p q u v : Script} (b : Bool) → Behind p q → Behind u v → Behind (onward b p u) (onward b q v)
  behind_either true f g = f
  behind_either false f g = g

  behind_erase : (a : ℕ) → Behind (working 5 EraseErrorBitSet (erasing a) (counts 1 s)) (working 5 EraseErrorBitSet (erasing a) (ends Done []))
  behind_erase a = performs (λ rs. performs (λ rs. again (λ rs. behind_either (is_set 5 (top rs)) (performs (λ rs. performs (λ rs. failed))) clean)))

  module _ (c : ℕ) where
    data Alike : State → State → Type 0 where
      alike : {m : Midway} {a : Action} {l : List Action} {taken : List ℕ} {k h : List ℕ → Script} → ((rs : List ℕ) → Behind (k rs) (h rs)) → Alike (going m a l taken none k [] c) (going m a l taken none h [] 0)
      begun : Alike (begin s [] (c + 1)) (ended Done [] [] 0)
      stopped : Alike (ended EraseErrorBitSet [] [] c) (ended EraseErrorBitSet [] [] 0)

    begins : {p q : Script} → Behind p q → Alike (begin p [] c) (begin q [] 0)
    begins clean = begun
    begins failed = stopped
    begins (performs f) = alike f
    begins (again {still = still} f) = alike (λ rs. behind_either (still rs) (again f) (f rs))

    module _ {k h : List ℕ → Script} (f : (rs : List ℕ) → Behind (k rs) (h rs)) where
      proceeds : (l : List Action) (taken : List ℕ) → Alike (proceed l taken none k [] c) (proceed l taken none h [] 0)
      proceeds [] taken = begins (f (reverse taken))
      proceeds (a ∷ l) taken = alike f

      moved : (p : Progress) (a : Action) (l : List Action) (taken : List ℕ) → Alike (moves p a l taken none k [] c) (moves p a l taken none h [] 0)
      moved (stays m) a l taken = alike f
      moved over a l taken = proceeds l taken
      moved (takes v) a l taken = proceeds l (v ∷ taken)

    -- accesses ahead of a run
    abbrev ahead : List Access → Result → Result
    ahead l r = record { log = l ++ r.log; answer = r.answer; state = r.state; room = r.room; unread = r.unread }

    -- a run that is like this one, but stands elsewhere
    abbrev standing : State → Result → Result
    standing x f = record { log = f.log; answer = f.answer; state = x; room = f.room; unread = f.unread }

    -- the run of the first, by that of the second: the second is done, and what is behind it runs on what it leaves; or both stop there
    data Split (r f : Result) : Type 0 where
      on : f.answer ≡ Done → r ≡ ahead f.log (runs f.room (begin s [] (c + 1)) f.unread) → Split r f
      cut : Stops f.answer → (x : State) → count_in x ≡ c → values_in x ≡ [] → r ≡ standing x f → Split r f

    longer : (a : Access) {r f : Result} → Split r f → Split (logging a r) (logging a f)
    longer a (on e p) = on e (ap (logging a) p)
    longer a (cut e x n v p) = cut e x n v (ap (logging a) p)

    split_room : (w : Want) (x y : State) (rs : List ℕ) → (w ≡ nothing → ⊥) → count_in x ≡ c → values_in x ≡ [] → Split (no_room w x rs) (no_room w y rs)
    split_room nothing x y rs h n v = absurd (h refl)
    split_room (reads o) x y rs h n v = cut (inr (inr refl)) x n v refl
    split_room (writes o z) x y rs h n v = cut (inr (inr refl)) x n v refl

    split_made : (w : Want) (x y : State) (m : ℕ) (rs : List ℕ) → (w ≡ nothing → ⊥) → count_in x ≡ c → values_in x ≡ [] → ((z : ℕ) (us : List ℕ) → Split (runs m (next x z) us) (runs m (next y z) us))
        → Split (made w x m rs (runs m)) (made w y m rs (runs m))
    split_made nothing x y m rs h n v g = absurd (h refl)
    split_made (reads o) x y m [] h n v g = cut (inr (inl refl)) x n v refl
    split_made (reads o) x y m (z ∷ rs) h n v g = longer (access.Read o z) (g z rs)
    split_made (writes o z) x y m rs h n v g = longer (access.Write o z) (g z rs)

    splits : (n : ℕ) {x y : State} (rs : List ℕ) → Alike x y → Split (runs n x rs) (runs n y rs)
    unfolding runs
    splits zero rs (alike {m} {a} {l} {taken} {k} {h} f) = split_room (want_at m a) (going m a l taken none k [] c) (going m a l taken none h [] 0) rs (some_due m a) refl refl
    splits (suc n) rs (alike {m} {a} {l} {taken} {k} {h} f) =
        split_made (want_at m a) (going m a l taken none k [] c) (going m a l taken none h [] 0) n rs (some_due m a) refl refl (λ z us. splits n us (moved f (progress m a z) a l taken))
    splits zero rs begun = on refl refl
    splits (suc n) rs begun = on refl refl
    splits zero rs stopped = cut (inl refl) (ended EraseErrorBitSet [] [] c) refl refl refl
    splits (suc n) rs stopped = cut (inl refl) (ended EraseErrorBitSet [] [] c) refl refl refl

-- ---- one sector, and the rest of the list behind it

module _ (a : ℕ) (h : a + 65536 ≤ 16777215) (e : a % 65536 ≡ 0) where
  accepted_one : erase_sector a ≡ working 5 EraseErrorBitSet (erasing a) (ends Done [])
  accepted_one = rw (le-ltb 16777215 (a + 65536) h, eq-eqb (a % 65536) 0 e)

  split_one : (s : Script) (c n : ℕ) (rs : List ℕ) → Split s c (runs n (begin (working 5 EraseErrorBitSet (erasing a) (counts 1 s)) [] c) rs) (called (erase_sector a) n rs)
  split_one s c n rs =
      subst (λ (z : Script). Split s c (runs n (begin (working 5 EraseErrorBitSet (erasing a) (counts 1 s)) [] c) rs) (called z n rs)) (sym accepted_one) (splits s c n rs (begins s c (behind_erase s a)))

-- a run from this count on, by the single erases
record Agrees (c : ℕ) (e : Erases) (r : Result) : Type 0 where
  pub log : r.log ≡ e.log
  pub answer : r.answer ≡ e.answer
  pub finished : count_in r.state ≡ c + e.finished
  pub room : r.room ≡ e.room
  pub unread : r.unread ≡ e.unread
  pub values : values_in r.state ≡ []

no_sector : (c n : ℕ) (rs : List ℕ) → Agrees c (one_by_one [] n rs) (runs n (ended Done [] [] c) rs)
unfolding runs
no_sector c zero rs = record { log = refl; answer = refl; finished = omega arith; room = refl; unread = refl; values = refl }
no_sector c (suc n) rs = record { log = refl; answer = refl; finished = omega arith; room = refl; unread = refl; values = refl }

one_sector : (s : Script) (c : ℕ) (r f : Result) (e : Erases) → Agrees (c + 1) e (runs f.room (begin s [] (c + 1)) f.unread) → Split s c r f → Agrees c (after_one (is_done f.answer) f e) r
one_sector s c r f e y (on d p) =
    subst (λ (b : Bool). Agrees c (after_one b f e) r) (sym (ap is_done d))
    (subst (Agrees c (after_one true f e)) (sym p)
    (record { log = ap (λ (z : List Access). f.log ++ z) y.log; answer = y.answer; finished = omega (arith, y.finished); room = y.room; unread = y.unread; values = y.values }))
one_sector s c r f e y (cut d x n v p) =
    subst (λ (b : Bool). Agrees c (after_one b f e) r) (sym (not_done d))
    (subst (Agrees c (after_one false f e)) (sym p) (record { log = refl; answer = refl; finished = omega (arith, n); room = refl; unread = refl; values = v }))

agrees : (l : List ℕ) → Good l → (c n : ℕ) (rs : List ℕ) → Agrees c (one_by_one l n rs) (runs n (begin (sectors l) [] c) rs)
agrees [] list.none c n rs = no_sector c n rs
agrees (a ∷ l) (list.one h e g) c n rs =
    let f = called (erase_sector a) n rs in
    one_sector (sectors l) c (runs n (begin (sectors (a ∷ l)) [] c) rs) f (one_by_one l f.room f.unread) (agrees l g (c + 1) f.room f.unread) (split_one a h e (sectors l) c n rs)

-- ---- an accepted list

good : (l : List ℕ) → Accepted l → Good l
good l h = all_good l (none_refused l h.sound)

module _ (l : List ℕ) (h : Accepted l) (n : ℕ) (rs : List ℕ) where
  accepted_agrees : Agrees 0 (one_by_one l n rs) (called (erase_sectors l) n rs)
  accepted_agrees = subst (λ (z : Script). Agrees 0 (one_by_one l n rs) (called z n rs)) (sym (determined l (goes h))) (agrees l (good l h) 0 n rs)

  -- THEOREM. "the log is that of the single erases in list order, each on the replies and driver state that the one before left, up to where it is stopped": of every accepted list, with room
  -- for any number of accesses and over all replies; and so are the answer, the count of sectors finished, the room and the replies left.
  pub singles : Singles l n rs (called (erase_sectors l) n rs)
  singles =
      let y = accepted_agrees in
      record { log = y.log; answer = y.answer; finished = omega (arith, y.finished); room = y.room; unread = y.unread }

  -- THEOREM. Its answer has no value: a place comes with a refusal alone.
  pub no_place : values_in (called (erase_sectors l) n rs).state ≡ []
  no_place = accepted_agrees.values

-- ---- where it stops

-- a single erase that is not refused is done, or stops
data Single (a : Status) : Type 0 where
  done_is : a ≡ Done → Single a
  stops : Stops a → Single a

single : (a : ℕ) → a + 65536 ≤ 16777215 → a % 65536 ≡ 0 → (n : ℕ) (rs : List ℕ) → Single (called (erase_sector a) n rs).answer
single a h e n rs = go (split_one a h e (ends Done []) 0 n rs)
  where
    go : {r : Result} → Split (ends Done []) 0 r (called (erase_sector a) n rs) → Single (called (erase_sector a) n rs).answer
    go (on d p) = done_is d
    go (cut d x c v p) = stops d

-- of so many sectors all are finished, and it is done; or one of the three stops it, and the sector at hand is not counted
pub data Finishes (k : ℕ) (a : Status) (m : ℕ) : Type 0 where
  all_finished : a ≡ Done → m ≡ k → Finishes k a m
  midway : Stops a → m < k → Finishes k a m

finishes_next : (k : ℕ) (f : Result) (e : Erases) → Single f.answer → Finishes k e.answer e.finished → Finishes (suc k) (after_one (is_done f.answer) f e).answer (after_one (is_done f.answer) f e).finished
finishes_next k f e (stops d) y = subst (λ (b : Bool). Finishes (suc k) (after_one b f e).answer (after_one b f e).finished) (sym (not_done d)) (midway d (omega arith))
finishes_next k f e (done_is d) y = subst (λ (b : Bool). Finishes (suc k) (after_one b f e).answer (after_one b f e).finished) (sym (ap is_done d)) (go y)
  where
    go : Finishes k e.answer e.finished → Finishes (suc k) e.answer (suc e.finished)
    go (all_finished q m) = all_finished q (omega (arith, m))
    go (midway q m) = midway q (omega (arith, m))

finishes : (l : List ℕ) → Good l → (n : ℕ) (rs : List ℕ) → Finishes (length l) (one_by_one l n rs).answer (one_by_one l n rs).finished
finishes [] list.none n rs = all_finished refl refl
finishes (a ∷ l) (list.one h e g) n rs =
    let f = called (erase_sector a) n rs in
    finishes_next (length l) f (one_by_one l f.room f.unread) (single a h e n rs) (finishes l g f.room f.unread)

-- ---- the sectors finished

-- the single erase of a place, on what those before it left
abbrev pub erased_at : List ℕ → ℕ → ℕ → List ℕ → Result
erased_at [] i n rs = halt Done (ended Done [] [] 0) n rs
erased_at (a ∷ l) zero n rs = called (erase_sector a) n rs
erased_at (a ∷ l) (suc i) n rs = erased_at l i (called (erase_sector a) n rs).room (called (erase_sector a) n rs).unread

-- by its answer; its status loop ended clean in its log, the closing of the last status transfer included
pub record Clean (a : ℕ) (r : Result) : Type 0 where
  pub answer : r.answer ≡ Done
  pub settled : Settles 5 (erasing a) r.log

-- it did not, and this is what the list answers: 21 precisely when the status that ended the loop shows bit 5, with clear status and write disable behind it
pub record Unclean (a : ℕ) (r : Result) (said : Status) : Type 0 where
  pub answer : r.answer ≡ said
  pub unsettled : Settles 5 (erasing a) r.log → ⊥
  pub failed : (said ≡ EraseErrorBitSet) ↔ Fails 5 (erasing a) r.log

module _ (a : ℕ) (l : List ℕ) (n : ℕ) (rs : List ℕ) where
  abbrev first : Result
  first = called (erase_sector a) n rs

  abbrev then : Erases
  then = one_by_one l first.room first.unread

  -- the first, and those behind it
  clean_next : Single first.answer → ((i : ℕ) → i < then.finished → Clean (get_or l i 0) (erased_at l i first.room first.unread))
      → (i : ℕ) → i < (after_one (is_done first.answer) first then).finished → Clean (get_or (a ∷ l) i 0) (erased_at (a ∷ l) i n rs)
  clean_next (stops d) rest i k = absurd (let z : (after_one (is_done first.answer) first then).finished ≡ 0 = ap (λ (b : Bool). (after_one b first then).finished) (not_done d) in omega (arith, k, z))
  clean_next (done_is d) rest zero k = record { answer = d; settled = (erase_done n rs a).0 d }
  clean_next (done_is d) rest (suc i) k =
      let z : (after_one (is_done first.answer) first then).finished ≡ suc then.finished = ap (λ (b : Bool). (after_one b first then).finished) (ap is_done d) in
      rest i (omega (arith, k, z))

  abbrev StopsThere : Erases → Type 0
  StopsThere e = e.finished < suc (length l) → Unclean (get_or (a ∷ l) e.finished 0) (erased_at (a ∷ l) e.finished n rs) e.answer

  unclean_next : Single first.answer → (then.finished < length l → Unclean (get_or l then.finished 0) (erased_at l then.finished first.room first.unread) then.answer)
      → StopsThere (after_one (is_done first.answer) first then)
  unclean_next (stops d) rest =
      subst (λ (b : Bool). StopsThere (after_one b first then)) (sym (not_done d)) (λ k. record { answer = refl; unsettled = λ s. no (sym (not_done d) ∙ ap is_done ((erase_done n rs a).1 s)); failed = erase_twenty_one n rs a })
  unclean_next (done_is d) rest = subst (λ (b : Bool). StopsThere (after_one b first then)) (sym (ap is_done d)) (λ k. let y = rest (omega arith) in record { answer = y.answer; unsettled = y.unsettled; failed = y.failed })

finished_clean : (l : List ℕ) → Good l → (n : ℕ) (rs : List ℕ) (i : ℕ) → i < (one_by_one l n rs).finished → Clean (get_or l i 0) (erased_at l i n rs)
finished_clean [] list.none n rs i k = absurd (omega arith)
finished_clean (a ∷ l) (list.one h e g) n rs i k = clean_next a l n rs (single a h e n rs) (finished_clean l g (first a l n rs).room (first a l n rs).unread) i k

stopped_unclean : (l : List ℕ) → Good l → (n : ℕ) (rs : List ℕ) → (one_by_one l n rs).finished < length l → Unclean (get_or l (one_by_one l n rs).finished 0) (erased_at l (one_by_one l n rs).finished n rs) (one_by_one l n rs).answer
stopped_unclean [] list.none n rs k = absurd (omega arith)
stopped_unclean (a ∷ l) (list.one h e g) n rs k = unclean_next a l n rs (single a h e n rs) (stopped_unclean l g (first a l n rs).room (first a l n rs).unread) k

module _ (l : List ℕ) (h : Accepted l) (n : ℕ) (rs : List ℕ) where
  abbrev r : Result
  r = called (erase_sectors l) n rs

  -- THEOREM. "Only 21, 23 or 24 may stop it midway": it is done with every sector finished, or one of the three stops it with fewer.
  pub only_three_midway : Finishes (length l) r.answer (count_in r.state)
  only_three_midway =
      let y = singles l h n rs in
      subst (λ (a : Status). Finishes (length l) a (count_in r.state)) (sym y.answer) (subst (Finishes (length l) (one_by_one l n rs).answer) (sym y.finished) (finishes l (good l h) n rs))

  -- THEOREM. It is done precisely when every sector is finished.
  pub done_when : (r.answer ≡ Done) ↔ (count_in r.state ≡ length l)
  done_when = go only_three_midway
    where
      go : {a : Status} {m : ℕ} → Finishes (length l) a m → (a ≡ Done) ↔ (m ≡ length l)
      go (all_finished q m) = (λ e. m, λ e. q)
      go (midway q m) = (λ e. no (sym (not_done q) ∙ ap is_done e), λ e. absurd (omega (arith, m, e)))

  -- THEOREM. "one being so once its status loop has ended clean in the log, the closing of the last status transfer included": so did that of each sector counted.
  pub each_finished : (i : ℕ) → i < count_in r.state → Clean (get_or l i 0) (erased_at l i n rs)
  each_finished i k = finished_clean l (good l h) n rs i (omega (arith, k, (singles l h n rs).finished))

  -- THEOREM. And that of the sector at which it is stopped did not; the answer is that of its single erase.
  pub stopped_at : count_in r.state < length l → Unclean (get_or l (count_in r.state) 0) (erased_at l (count_in r.state) n rs) r.answer
  stopped_at k =
      let y = singles l h n rs in
      subst (λ (a : Status). Unclean (get_or l (count_in r.state) 0) (erased_at l (count_in r.state) n rs) a) (sym y.answer)
      (subst (λ (m : ℕ). Unclean (get_or l m 0) (erased_at l m n rs) (one_by_one l n rs).answer) (sym y.finished) (stopped_unclean l (good l h) n rs (omega (arith, k, y.finished))))

  -- THEOREM. 21 precisely when the single erase of the sector at hand failed, in its log.
  pub twenty_one : (r.answer ≡ EraseErrorBitSet) ↔ ((count_in r.state < length l) × Fails 5 (erasing (get_or l (count_in r.state) 0)) (erased_at l (count_in r.state) n rs).log)
  twenty_one = (λ q. let k = fewer only_three_midway q in (k, (stopped_at k).failed.0 q), λ h. (stopped_at h.0).failed.1 h.1)
    where
      fewer : {a : Status} {m : ℕ} → Finishes (length l) a m → a ≡ EraseErrorBitSet → m < length l
      fewer (all_finished q m) e = no (ap is_done (sym e ∙ q))
      fewer (midway q m) e = m

-- ---- a list that is refused, and the empty one

-- no access is made, none of the room and of the replies is used, and nothing is finished
pub record Unmade (n : ℕ) (rs : List ℕ) (r : Result) : Type 0 where
  pub log : r.log ≡ []
  pub finished : count_in r.state ≡ 0
  pub room : r.room ≡ n
  pub unread : r.unread ≡ rs

unmade : (n : ℕ) (rs : List ℕ) (a : Status) (vs : List ℕ) → Unmade n rs (called (ends a vs) n rs)
unmade n rs a vs = subst (Unmade n rs) (sym (at_once n rs a vs)) (record { log = refl; finished = refl; room = refl; unread = refl })

-- 33, 1, 2 or 32
abbrev pub Refuses : Status → Type 0
Refuses a = (a ≡ ListTooLong) ⊎ ((a ≡ OutOfRange) ⊎ ((a ≡ Alignment) ⊎ (a ≡ RepeatedSector)))

-- THEOREM. A list that is not accepted is refused without an access: by 33, 1, 2 or 32.
pub refused_list : (l : List ℕ) → (Accepted l → ⊥) → (n : ℕ) (rs : List ℕ) → Unmade n rs (called (erase_sectors l) n rs) × Refuses (called (erase_sectors l) n rs).answer
refused_list l h n rs = go (outcome l)
  where
    says : (a : Status) (vs : List ℕ) → (called (ends a vs) n rs).answer ≡ a
    says a vs = ap (λ (r : Result). r.answer) (at_once n rs a vs)

    go : {s : Script} → Outcome l s → Unmade n rs (called s n rs) × Refuses (called s n rs).answer
    go (too_long _) = (unmade n rs ListTooLong [], inl (says ListTooLong []))
    go (out_of_range i _ _ _ _) = (unmade n rs OutOfRange (i ∷ []), inr (inl (says OutOfRange (i ∷ []))))
    go (off_start i _ _ _ _ _) = (unmade n rs Alignment (i ∷ []), inr (inr (inl (says Alignment (i ∷ [])))))
    go (repeated i _ _ _ _ _) = (unmade n rs RepeatedSector (i ∷ []), inr (inr (inr (says RepeatedSector (i ∷ [])))))
    go (goes a) = absurd (h a)

-- THEOREM. The empty list is done at once, with no access and nothing finished.
pub empty_list : (n : ℕ) (rs : List ℕ) → called (erase_sectors []) n rs ≡ halt Done (ended Done [] [] 0) n rs
empty_list n rs = at_once n rs Done []

-- what a run hands back is that of the single erases
pub single_erases : (l : List ℕ) (n : ℕ) (rs log : List ℕ) {a : Status} {m : ℕ} {log₁ : List ℕ} → a ≡ (called (erase_sectors l) n rs).answer → m ≡ count_in (called (erase_sectors l) n rs).state → log₁ ≡ logged_of (called (erase_sectors l) n rs) log
    → Accepted l → SingleErases l n rs log a m log₁
single_erases l n rs log e f g h =
    let s = singles l h n rs in
    record { ends = e ∙ s.answer; counts = f ∙ s.finished; logged = g ∙ ap (λ (z : List Access). encode z ++ drop (2 * length z) log) s.log }
