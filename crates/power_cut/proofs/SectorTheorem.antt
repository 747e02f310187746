-- The sectors that a log of `erase_sectors` shows finished, proved of every log that the call makes, whatever the replies and wherever it ends. Assumes nothing.
use mathlib.Core.Path.{◌≡◌, refl, ap, subst, ◌∙◌, sym}
use mathlib.Core.Bool.{Bool, true, false, cond}
use mathlib.Core.List.{List, [], ◌∷◌, ◌++◌}
use Prim.Native.Nat.{ℕ, ◌+◌, ◌%◌, ◌<◌}
use native.Mathlib.Omega.{arith}
use lib.Dec.{ltb, eqb}
use lib.ListN.{length, get_or, take, length-append}
use lib.Seq.{take-append_seam, take-length, get_or-append_seam}
use borrow.Author.Tests.{ltb-false}
use Rattle.zynq7000.specs.Access.{value_word}
use Rattle.zynq7000.specs.declared.qspi.Access.{Access}
use Rattle.qspi_script.specs.declared.Status.{Status}
use Rattle.qspi_script.specs.declared.Status.TheVariants.{Going, Done, OutOfRange, Alignment, RepeatedSector, ListTooLong}
use Rattle.qspi_operation.specs.Machine.{Want, nothing, Script, State, ended, next, onward, begin, status_in, count_in, called, Matches, m_read, m_write, Makes, after}
use Rattle.qspi_operation.proofs.Orders.{run_ended}
use Rattle.qspi_calls.specs.Sectors.{sector_status, first_refused, first_repeat}
use Rattle.qspi_calls.specs.Calls.{refused, refused_at, sectors, erase_sectors}
use Rattle.qspi_calls.proofs.ListOfSectors.{Good, none, one, all_good}
use Rattle.power_cut.specs.SectorObserver.{SectorsSeen, sees, fresh, seen}
use Rattle.power_cut.specs.SectorPromise.{NextSector, no_doubt, the_next, ShowsSectors}
use Rattle.power_cut.proofs.Watch.{risen_at}
use Rattle.power_cut.proofs.Theorem.{follows_take}
use Rattle.power_cut.proofs.SectorDriver as driver
use Rattle.power_cut.proofs.SectorDriver.{Stage, enables, erases, polls, clears, disables, Driver, at, succeeded, failed, done_by, state_of, start_next, begin_next, InRange, good_start}
use Rattle.power_cut.proofs.SectorWatch.{doubt_before, doubt_after, view, view_start, Watched, watch}

-- ---- along a log

sees_all : (whole : List ℕ) {s : State} {o : SectorsSeen} (l : List Access) → Watched whole s o → Makes s l → Watched whole (after s l) (sees o l)
unfolding sees
sees_all whole [] w m = w
sees_all whole {s = s} (a ∷ l) w m = sees_all whole {s = next s (value_word a)} l (watch whole a w m.0) m.1

start_watched : (l : List ℕ) → InRange l → Watched l (begin (sectors l) [] 0) fresh
start_watched l i = record { driver = start_next l []; level = false; stands = begin_next l []; shows = sym (view_start l [] false); good = good_start l l [] i refl }

pub watched : (l : List ℕ) → InRange l → (log : List Access) → Makes (begin (sectors l) [] 0) log → Watched l (after (begin (sectors l) [] 0) log) (seen log)
unfolding seen
watched l i log m = sees_all l log (start_watched l i) m

-- ---- the claim at a state

finished_by_lem : (d : Driver) (h : Bool) → (view d h).finished ≡ done_by d
finished_by_lem (at s p taken a l k) h = refl
finished_by_lem (succeeded k) h = refl
finished_by_lem (failed a l k) h = refl

count_of : (d : Driver) → count_in (state_of d) ≡ length (done_by d)
count_of (at s p taken a l k) = refl
count_of (succeeded k) = refl
count_of (failed a l k) = refl

-- the sectors done are the first of the list
front : (k l : List ℕ) {whole : List ℕ} → k ++ l ≡ whole → take (length k) whole ≡ k
front k l e = ap (take (length k)) (sym e) ∙ take-append_seam k l

done_first : (whole : List ℕ) (d : Driver) → driver.Good whole d → take (length (done_by d)) whole ≡ done_by d
done_first whole (at s p taken a l k) g = front k (a ∷ l) g.parts
done_first whole (succeeded k) g = ap (take (length k)) (sym g) ∙ take-length k
done_first whole (failed a l k) g = front k (a ∷ l) g

-- the sector at hand is the next
at_hand : (k : List ℕ) (a : ℕ) (l : List ℕ) {whole : List ℕ} → k ++ a ∷ l ≡ whole → NextSector whole (length k) (a ∷ [])
at_hand k a l e =
    let n : length k < length (k ++ a ∷ l) = omega (arith, length-append k (a ∷ l)) in
    subst (λ (z : List ℕ). NextSector z (length k) (a ∷ [])) e (subst (λ (z : ℕ). NextSector (k ++ a ∷ l) (length k) (z ∷ [])) (get_or-append_seam k a l 0) (the_next n))

stage_doubt : (s : Stage) (b : Bool) (k : List ℕ) (a : ℕ) (l : List ℕ) {whole : List ℕ} → k ++ a ∷ l ≡ whole → NextSector whole (length k) (cond b (doubt_after s a) (doubt_before s a))
stage_doubt enables true k a l e = no_doubt
stage_doubt enables false k a l e = no_doubt
stage_doubt erases true k a l e = at_hand k a l e
stage_doubt erases false k a l e = no_doubt
stage_doubt polls true k a l e = at_hand k a l e
stage_doubt polls false k a l e = at_hand k a l e
stage_doubt clears true k a l e = at_hand k a l e
stage_doubt clears false k a l e = at_hand k a l e
stage_doubt disables true k a l e = at_hand k a l e
stage_doubt disables false k a l e = at_hand k a l e

next_doubt : (whole : List ℕ) (d : Driver) (h : Bool) → driver.Good whole d → NextSector whole (length (done_by d)) (view d h).doubt
next_doubt whole (at s p taken a l k) h g = stage_doubt s (risen_at p h) k a l g.parts
next_doubt whole (succeeded k) h g = no_doubt
next_doubt whole (failed a l k) h g = at_hand k a l g

shown : (whole : List ℕ) (log : List Access) {s : State} → Watched whole s (seen log) → ShowsSectors whole log (count_in s)
shown whole log {s} w =
    let d = w.driver in
    let n : count_in s ≡ length (done_by d) = ap count_in w.stands ∙ count_of d in
    let f : (seen log).finished ≡ done_by d = ap (λ (o : SectorsSeen). o.finished) w.shows ∙ finished_by_lem d w.level in
    let q : (seen log).doubt ≡ (view d w.level).doubt = ap (λ (o : SectorsSeen). o.doubt) w.shows in
    record { finished = f ∙ sym (done_first whole d w.good) ∙ ap (λ (z : ℕ). take z whole) (sym n); counted = n ∙ ap length (sym f); doubt = rw (n, q) (next_doubt whole d w.level w.good) }

-- ---- a list that is refused makes no access

no_access : {w : Want} {c : Access} → Matches w c → w ≡ nothing → ⊥
no_access m_read e = let z : ◌≡◌ {A = ℕ} 0 1 = cc in omega (arith, z)
no_access m_write e = let z : ◌≡◌ {A = ℕ} 0 1 = cc in omega (arith, z)

refused_shows : (l : List ℕ) (a : Status) (vs : List ℕ) (log : List Access) → Makes (ended a vs [] 0) log → ShowsSectors l log (count_in (after (ended a vs [] 0) log))
unfolding seen sees
refused_shows l a vs [] m = record { finished = refl; counted = refl; doubt = no_doubt }
refused_shows l a vs (c ∷ log) m = absurd (no_access m.0 refl)

pub in_range : (l : List ℕ) → Good l → InRange l
in_range [] none = tt
in_range (a ∷ l) (one h e g) = (omega (arith, h), in_range l g)

-- ---- the claim

-- the script of a list, by the verdict of each of its three tests
abbrev pub listed : List ℕ → Bool → Bool → Bool → Script
listed l b₁ b₂ b₃ = onward b₁ (refused ListTooLong) (onward b₂ (refused_at (sector_status (get_or l (first_refused l) 0)) (first_refused l)) (onward b₃ (refused_at RepeatedSector (first_repeat [] l)) (sectors l)))

-- THEOREM. Of every log that the call makes, of whatever list and whatever the replies: the sectors that it shows finished are the first of the list, as many as are counted, and at most the
-- next one is in doubt. So it is at every cut point, with the count there.
pub shows_sectors_at : (l : List ℕ) (log : List Access) → Makes (begin (erase_sectors l) [] 0) log → ShowsSectors l log (count_in (after (begin (erase_sectors l) [] 0) log))
shows_sectors_at l log = go (ltb 256 (length l)) (ltb (first_refused l) (length l)) refl (ltb (first_repeat [] l) (length l))
  where
    go : (b₁ b₂ : Bool) → ltb (first_refused l) (length l) ≡ b₂ → (b₃ : Bool) → Makes (begin (listed l b₁ b₂ b₃) [] 0) log → ShowsSectors l log (count_in (after (begin (listed l b₁ b₂ b₃) [] 0) log))
    go true b₂ e b₃ m = refused_shows l ListTooLong [] log m
    go false true e b₃ m = refused_shows l (sector_status (get_or l (first_refused l) 0)) (first_refused l ∷ []) log m
    go false false e true m = refused_shows l RepeatedSector (first_repeat [] l ∷ []) log m
    go false false e false m = shown l log (watched l (in_range l (all_good l (ltb-false (first_refused l) (length l) e))) log m)

-- THEOREM. Of every run: at its end, with the count of its answer.
pub shows_sectors : (l : List ℕ) (room : ℕ) (replies : List ℕ) → ShowsSectors l (called (erase_sectors l) room replies).log (count_in (called (erase_sectors l) room replies).state)
shows_sectors l room rs =
    let m = run_ended room (begin (erase_sectors l) [] 0) rs in
    rw m.is (shows_sectors_at l (called (erase_sectors l) room rs).log m.makes)

-- and after any number of its accesses
pub shows_sectors_cut : (l : List ℕ) (room : ℕ) (replies : List ℕ) (k : ℕ)
    → ShowsSectors l (take k (called (erase_sectors l) room replies).log) (count_in (after (begin (erase_sectors l) [] 0) (take k (called (erase_sectors l) room replies).log)))
shows_sectors_cut l room rs k =
    let m = run_ended room (begin (erase_sectors l) [] 0) rs in
    shows_sectors_at l (take k (called (erase_sectors l) room rs).log) (follows_take k (begin (erase_sectors l) [] 0) (called (erase_sectors l) room rs).log m.makes)

-- ---- a call that succeeds

-- no refusal of an entry is a success
entry_not_done : (a : ℕ) → sector_status a ≡ Done → ⊥
entry_not_done a = go (ltb 16777215 (a + 65536)) (eqb (a % 65536) 0)
  where
    go : (b c : Bool) → cond b OutOfRange (cond c Going Alignment) ≡ Done → ⊥
    go true c e = let z : ◌≡◌ {A = ℕ} 0 1 = cc in omega (arith, z)
    go false true e = let z : ◌≡◌ {A = ℕ} 0 1 = cc in omega (arith, z)
    go false false e = let z : ◌≡◌ {A = ℕ} 0 1 = cc in omega (arith, z)

done_whole : (whole : List ℕ) (d : Driver) → driver.Good whole d → status_in (state_of d) ≡ Done → count_in (state_of d) ≡ length whole
done_whole whole (at s p taken a l k) g e = let z : ◌≡◌ {A = ℕ} 0 1 = cc in absurd (omega (arith, z))
done_whole whole (succeeded k) g e = ap length g
done_whole whole (failed a l k) g e = let z : ◌≡◌ {A = ℕ} 0 1 = cc in absurd (omega (arith, z))

over_status : (a : Status) (vs : List ℕ) (log : List Access) → status_in (after (ended a vs [] 0) log) ≡ a
over_status a vs [] = refl
over_status a vs (c ∷ log) = over_status a vs log

all_done : (l : List ℕ) (log : List Access) → Makes (begin (erase_sectors l) [] 0) log → status_in (after (begin (erase_sectors l) [] 0) log) ≡ Done → count_in (after (begin (erase_sectors l) [] 0) log) ≡ length l
all_done l log = go (ltb 256 (length l)) (ltb (first_refused l) (length l)) refl (ltb (first_repeat [] l) (length l))
  where
    go : (b₁ b₂ : Bool) → ltb (first_refused l) (length l) ≡ b₂ → (b₃ : Bool) → Makes (begin (listed l b₁ b₂ b₃) [] 0) log → status_in (after (begin (listed l b₁ b₂ b₃) [] 0) log) ≡ Done
        → count_in (after (begin (listed l b₁ b₂ b₃) [] 0) log) ≡ length l
    go true b₂ e b₃ m f = let i = sym (over_status ListTooLong [] log) ∙ f in let z : ◌≡◌ {A = ℕ} 0 1 = cc in absurd (omega (arith, z))
    go false true e b₃ m f = absurd (entry_not_done (get_or l (first_refused l) 0) (sym (over_status (sector_status (get_or l (first_refused l) 0)) (first_refused l ∷ []) log) ∙ f))
    go false false e true m f = let i = sym (over_status RepeatedSector (first_repeat [] l ∷ []) log) ∙ f in let z : ◌≡◌ {A = ℕ} 0 1 = cc in absurd (omega (arith, z))
    go false false e false m f =
        let w = watched l (in_range l (all_good l (ltb-false (first_refused l) (length l) e))) log m in
        ap count_in w.stands ∙ done_whole l w.driver w.good (ap status_in (sym w.stands) ∙ f)

-- THEOREM. Where the call succeeds, it counts the whole list.
pub whole_list : (l : List ℕ) (room : ℕ) (replies : List ℕ) → (called (erase_sectors l) room replies).answer ≡ Done → count_in (called (erase_sectors l) room replies).state ≡ length l
whole_list l room rs e =
    let m = run_ended room (begin (erase_sectors l) [] 0) rs in
    ap count_in m.is ∙ all_done l (called (erase_sectors l) room rs).log m.makes (ap status_in (sym m.is) ∙ m.done e)
