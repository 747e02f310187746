-- Where a run over lists stops, and why: at the end of its script, or by 23 or 24, precisely when document 01's "What the state can bring on" says. Assumes nothing.
use Rattle.std.proofs.Common.{◌≡◌, ℕ, zero, suc, ◌+◌, ◌<◌, Bool, true, false, ltb, ◌↔◌, List, [], ◌∷◌, ◌++◌, reverse, length, sym, refl, ap, ◌∙◌, subst, arith}
use Rattle.zynq7000.specs.Access.{value_word}
use Rattle.zynq7000.specs.declared.qspi.Access.{Access}
use Rattle.zynq7000.specs.declared.qspi.Access.TheVariants as access
use Rattle.qspi_script.specs.Answer.{number_of}
use Rattle.qspi_script.specs.declared.Status.{Status}
use Rattle.qspi_script.specs.declared.Status.TheVariants.{RepliesEnded, LogFull}
use Rattle.qspi_operation.specs.Machine.{Action, Midway, first, full, changed, again, ready, write, modify, drain, reply, Want, reads, writes, nothing, want_at, Progress, stays, over, takes, progress, Script, ends, perform, repeats, counts, onward, State, going, ended, begin, proceed, moves, want, next, status_in, Result, logging, no_room, made, runs, called, replies_of, Makes, after}
use Rattle.qspi_operation.proofs.Verdicts.{no}
use Rattle.qspi_operation.proofs.Orders.{run_ended}

-- ---- where it stands

-- an access is due at every action
pub some_due : (m : Midway) (a : Action) → want_at m a ≡ nothing → ⊥
some_due first (write o v) e = let z : ◌≡◌ {A = ℕ} 0 1 = cc in omega (arith, z)
some_due first (modify f) e = let z : ◌≡◌ {A = ℕ} 0 1 = cc in omega (arith, z)
some_due first drain e = let z : ◌≡◌ {A = ℕ} 0 1 = cc in omega (arith, z)
some_due first (reply twice) e = let z : ◌≡◌ {A = ℕ} 0 1 = cc in omega (arith, z)
some_due full a e = let z : ◌≡◌ {A = ℕ} 0 1 = cc in omega (arith, z)
some_due (changed w) a e = let z : ◌≡◌ {A = ℕ} 0 1 = cc in omega (arith, z)
some_due again a e = let z : ◌≡◌ {A = ℕ} 0 1 = cc in omega (arith, z)
some_due ready a e = let z : ◌≡◌ {A = ℕ} 0 1 = cc in omega (arith, z)

-- what the room and the replies of a run were used for
pub record Spent (n : ℕ) (rs : List ℕ) (r : Result) : Type 0 where
  pub room : n ≡ length r.log + r.room
  pub replies : rs ≡ replies_of r.log ++ r.unread

-- why it stopped
pub data Stop (r : Result) : Type 0 where
  at_end : want r.state ≡ nothing → r.answer ≡ status_in r.state → Stop r
  no_room_left : (want r.state ≡ nothing → ⊥) → r.room ≡ 0 → r.answer ≡ LogFull → Stop r
  no_reply : (o : ℕ) → want r.state ≡ reads o → 0 < r.room → r.unread ≡ [] → r.answer ≡ RepliesEnded → Stop r

logged : (a : Access) (r : Result) → Stop r → Stop (logging a r)
logged a r (at_end e f) = at_end e f
logged a r (no_room_left e f g) = no_room_left e f g
logged a r (no_reply o e f g h) = no_reply o e f g h

pub some_read : {w : Want} {o : ℕ} → w ≡ reads o → w ≡ nothing → ⊥
some_read e f = let z : ◌≡◌ {A = ℕ} 0 1 = cc in omega (arith, z)

some_write : {w : Want} {o v : ℕ} → w ≡ writes o v → w ≡ nothing → ⊥
some_write e f = let z : ◌≡◌ {A = ℕ} 0 1 = cc in omega (arith, z)

stop_full : (w : Want) (s : State) (rs : List ℕ) → want s ≡ w → Stop (no_room w s rs)
stop_full nothing s rs e = at_end e refl
stop_full (reads o) s rs e = no_room_left (some_read e) refl refl
stop_full (writes o v) s rs e = no_room_left (some_write e) refl refl

stop_made : (w : Want) (s : State) (n : ℕ) (rs : List ℕ) (run : State → List ℕ → Result) → want s ≡ w → ((t : State) (us : List ℕ) → Stop (run t us)) → Stop (made w s n rs run)
stop_made nothing s n rs run e h = at_end e refl
stop_made (reads o) s n [] run e h = no_reply o e (omega arith) refl refl
stop_made (reads o) s n (v ∷ rs) run e h = logged (access.Read o v) _ (h (next s v) rs)
stop_made (writes o v) s n rs run e h = logged (access.Write o v) _ (h (next s v) rs)

stop_runs : (n : ℕ) (s : State) (rs : List ℕ) → Stop (runs n s rs)
unfolding runs
stop_runs zero s rs = stop_full (want s) s rs refl
stop_runs (suc n) s rs = stop_made (want s) s n rs (runs n) refl (stop_runs n)

spent_full : (w : Want) (s : State) (rs : List ℕ) → Spent 0 rs (no_room w s rs)
spent_full nothing s rs = record { room = refl; replies = refl }
spent_full (reads o) s rs = record { room = refl; replies = refl }
spent_full (writes o v) s rs = record { room = refl; replies = refl }

spent_made : (w : Want) (s : State) (n : ℕ) (rs : List ℕ) (run : State → List ℕ → Result) → ((t : State) (us : List ℕ) → Spent n us (run t us)) → Spent (suc n) rs (made w s n rs run)
spent_made nothing s n rs run h = record { room = omega arith; replies = refl }
spent_made (reads o) s n [] run h = record { room = omega arith; replies = refl }
spent_made (reads o) s n (v ∷ rs) run h = let y = h (next s v) rs in record { room = omega (arith, y.room); replies = ap (λ (z : List ℕ). v ∷ z) y.replies }
spent_made (writes o v) s n rs run h = let y = h (next s v) rs in record { room = omega (arith, y.room); replies = y.replies }

spent_runs : (n : ℕ) (s : State) (rs : List ℕ) → Spent n rs (runs n s rs)
unfolding runs
spent_runs zero s rs = spent_full (want s) s rs
spent_runs (suc n) s rs = spent_made (want s) s n rs (runs n) (spent_runs n)

-- where a run stands: its accesses are the script's, each the one that was due, and lead there; the room is theirs and what is left, and so are the replies
pub record Stands (c : Script) (room : ℕ) (replies : List ℕ) : Type 0 where
  pub makes : Makes (begin c [] 0) (called c room replies).log
  pub there : (called c room replies).state ≡ after (begin c [] 0) (called c room replies).log
  pub spent : Spent room replies (called c room replies)

-- THEOREM. So stands every run of every script.
pub stands : (c : Script) (room : ℕ) (replies : List ℕ) → Stands c room replies
stands c room replies = let y = run_ended room (begin c [] 0) replies in record { makes = y.makes; there = y.is; spent = spent_runs room (begin c [] 0) replies }

-- THEOREM. So stops every run of every script.
pub stopped : (c : Script) (room : ℕ) (replies : List ℕ) → Stop (called c room replies)
stopped c room replies = stop_runs room (begin c [] 0) replies

-- ---- the numbers that a script ends with

-- whatever the replies decide, the script ends by itself with a status of this kind
pub data EndsWith (p : Status → Bool) : Script → Type 0 where
  with_end : {a : Status} {vs : List ℕ} → p a ≡ true → EndsWith p (ends a vs)
  with_perform : {a : Action} {l : List Action} {brings : List ℕ → List ℕ} {k : List ℕ → Script} → ((rs : List ℕ) → EndsWith p (k rs)) → EndsWith p (perform a l brings k)
  with_repeat : {a : Action} {l : List Action} {still : List ℕ → Bool} {k : List ℕ → Script} → ((rs : List ℕ) → EndsWith p (k rs)) → EndsWith p (repeats a l still k)
  with_count : {j : ℕ} {s : Script} → EndsWith p s → EndsWith p (counts j s)

pub with_either : {p : Status → Bool} {s t : Script} (b : Bool) → EndsWith p s → EndsWith p t → EndsWith p (onward b s t)
with_either true u v = u
with_either false u v = v

module _ (p : Status → Bool) where
  data Towards : State → Type 0 where
    on_way : {m : Midway} {a : Action} {l : List Action} {taken : List ℕ} {brings : List ℕ → List ℕ} {k : List ℕ → Script} {bs : List ℕ} {n : ℕ} → ((rs : List ℕ) → EndsWith p (k rs)) → Towards (going m a l taken brings k bs n)
    come : {a : Status} {vs bs : List ℕ} {n : ℕ} → p a ≡ true → Towards (ended a vs bs n)

  begins : {c : Script} → EndsWith p c → (bs : List ℕ) (n : ℕ) → Towards (begin c bs n)
  begins (with_end e) bs n = come e
  begins (with_perform h) bs n = on_way h
  begins (with_repeat {still = still} h) bs n = on_way (λ rs. with_either (still rs) (with_repeat h) (h rs))
  begins (with_count {j = j} h) bs n = begins h bs (n + j)

  proceeds : {k : List ℕ → Script} → ((rs : List ℕ) → EndsWith p (k rs)) → (l : List Action) (taken : List ℕ) (brings : List ℕ → List ℕ) (bs : List ℕ) (n : ℕ) → Towards (proceed l taken brings k bs n)
  proceeds h [] taken brings bs n = begins (h (reverse taken)) (bs ++ brings (reverse taken)) n
  proceeds h (a ∷ l) taken brings bs n = on_way h

  moved : {k : List ℕ → Script} → ((rs : List ℕ) → EndsWith p (k rs)) → (g : Progress) (a : Action) (l : List Action) (taken : List ℕ) (brings : List ℕ → List ℕ) (bs : List ℕ) (n : ℕ) → Towards (moves g a l taken brings k bs n)
  moved h (stays m) a l taken brings bs n = on_way h
  moved h over a l taken brings bs n = proceeds h l taken brings bs n
  moved h (takes v) a l taken brings bs n = proceeds h l (v ∷ taken) brings bs n

  steps : {s : State} (v : ℕ) → Towards s → Towards (next s v)
  steps v (on_way {m} {a} {l} {taken} {brings} {k} {bs} {n} h) = moved h (progress m a v) a l taken brings bs n
  steps v (come e) = come e

  goes_on : (l : List Access) {s : State} → Towards s → Towards (after s l)
  goes_on [] t = t
  goes_on (a ∷ l) t = goes_on l (steps (value_word a) t)

  at_the_end : {s : State} → Towards s → want s ≡ nothing → p (status_in s) ≡ true
  at_the_end (on_way {m} {a} h) e = absurd (some_due m a e)
  at_the_end (come e) f = e

  module _ {c : Script} (w : EndsWith p c) (room : ℕ) (replies : List ℕ) where
    -- a run that stops where nothing is due has the script's own answer
    pub ends_so : want (called c room replies).state ≡ nothing → p (status_in (called c room replies).state) ≡ true
    ends_so e =
        let y = (run_ended room (begin c [] 0) replies).is in
        subst (λ (s : State). p (status_in s) ≡ true) (sym y) (at_the_end (goes_on (called c room replies).log (begins w [] 0)) (subst (λ (s : State). want s ≡ nothing) y e))

    -- THEOREM. A run answers as its script ends, or 23 or 24.
    pub answers : p RepliesEnded ≡ true → p LogFull ≡ true → p (called c room replies).answer ≡ true
    answers d f = go (stopped c room replies)
      where
        go : Stop (called c room replies) → p (called c room replies).answer ≡ true
        go (at_end e h) = subst (λ (a : Status). p a ≡ true) (sym h) (ends_so e)
        go (no_room_left e g h) = subst (λ (a : Status). p a ≡ true) (sym h) f
        go (no_reply o e g u h) = subst (λ (a : Status). p a ≡ true) (sym h) d

-- ---- 23 and 24

-- 01's answers that a call comes to by itself: 0 to 22
abbrev pub own_answer : Status → Bool
own_answer a = ltb (number_of a) 23

-- a status and another one
differ : {a b : Status} → own_answer a ≡ true → own_answer b ≡ false → a ≡ b → ⊥
differ {a} {b} f g e = no (sym g ∙ (ap own_answer (sym e) ∙ f))

module _ {c : Script} (w : EndsWith own_answer c) (room : ℕ) (replies : List ℕ) where
  abbrev r : Result
  r = called c room replies

  -- 24 precisely when an access is due where the run stands, and there is no room for it
  pub full_when : (r.answer ≡ LogFull) ↔ ((want r.state ≡ nothing → ⊥) × (r.room ≡ 0))
  full_when = (λ a. to a (stopped c room replies), λ h. from h (stopped c room replies))
    where
      to : r.answer ≡ LogFull → Stop r → (want r.state ≡ nothing → ⊥) × (r.room ≡ 0)
      to a (at_end e f) = absurd (differ (ends_so own_answer w room replies e) refl (sym f ∙ a))
      to a (no_room_left e f g) = (e, f)
      to a (no_reply o e f g h) = absurd (let z : ◌≡◌ {A = ℕ} 23 24 = ap number_of (sym h ∙ a) in omega (arith, z))

      from : (want r.state ≡ nothing → ⊥) × (r.room ≡ 0) → Stop r → r.answer ≡ LogFull
      from h (at_end e f) = absurd (h.0 e)
      from h (no_room_left e f g) = g
      from h (no_reply o e f g a) = absurd (omega (arith, h.1, f))

  -- 23 precisely when a read is due where the run stands, there is room for it, and no reply is left
  pub dry_when : (r.answer ≡ RepliesEnded) ↔ (((o : ℕ) × (want r.state ≡ reads o)) × ((0 < r.room) × (r.unread ≡ [])))
  dry_when = (λ a. to a (stopped c room replies), λ h. from h (stopped c room replies))
    where
      to : r.answer ≡ RepliesEnded → Stop r → ((o : ℕ) × (want r.state ≡ reads o)) × ((0 < r.room) × (r.unread ≡ []))
      to a (at_end e f) = absurd (differ (ends_so own_answer w room replies e) refl (sym f ∙ a))
      to a (no_room_left e f g) = absurd (let z : ◌≡◌ {A = ℕ} 24 23 = ap number_of (sym g ∙ a) in omega (arith, z))
      to a (no_reply o e f g h) = ((o, e), (f, g))

      from : ((o : ℕ) × (want r.state ≡ reads o)) × ((0 < r.room) × (r.unread ≡ [])) → Stop r → r.answer ≡ RepliesEnded
      from h (at_end e f) = absurd (some_read h.0.1 e)
      from h (no_room_left e f g) = absurd (omega (arith, h.1.0, f))
      from h (no_reply o e f g a) = a
