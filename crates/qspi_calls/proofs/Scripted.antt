-- For any call of transfers that lends no buffer: it is tied to its script where, at each stage, the transfer is the script's and the turn
-- after it is the script's. Assumes nothing.
use mathlib.Core.Path.{◌≡◌, refl, ap, ◌∙◌, sym}
use mathlib.Core.Bool.{Bool, true, false}
use mathlib.Core.List.{List, [], reverse}
use Prim.Native.Nat.{ℕ, ◌+◌, ◌<◌}
use native.Mathlib.Omega.{arith}
use lib.ListN.{length, get_or}
use Rattle.qspi_transfer.specs.Wire.{fresh_wire, pick_wire}
use Rattle.std.specs.Prelude.{Option}
use Rattle.qspi_transfer.specs.declared.Phase.TheVariants.{DrainStatus, Disable}
use Rattle.qspi_transfer.specs.declared.Wire.{Wire}
use Rattle.qspi_script.specs.Stages.{frame_of, due_word}
use Rattle.qspi_script.specs.Turns.{turn_of}
use Rattle.qspi_script.specs.declared.Status.{Status}
use Rattle.qspi_script.specs.declared.Status.TheVariants.{Going}
use Rattle.qspi_script.specs.Answer.{said_by}
use Rattle.qspi_script.specs.declared.Job.{Job}
use Rattle.qspi_script.specs.declared.Place.{Place}
use Rattle.qspi_script.specs.declared.Turned.{Turned}
use Rattle.qspi_operation.specs.declared.Op.{Op}
use Rattle.qspi_operation.specs.Store.{when, stored, is_reading, is_taking}
use Rattle.qspi_operation.specs.Step.{is_going, access_of, moved_by, counted_at}
use Rattle.qspi_operation.proofs.Verdicts.{no}
use Rattle.qspi_operation.specs.Machine.{Action, drain, Midway, nothing, want_at, Transfer, opening, Script, ends, repeats, counts, none, exchange, State, going, ended, onward, begin, want, next, status_in, values_in, bytes_in, count_in, overlaid}
use Rattle.qspi_calls.proofs.Tied.{asked, after, given, Tie}
use Rattle.qspi_calls.proofs.Phases.{wire, words, Same, AtPhase, p_drain, p_data, p_open, p_opens, p_enable, p_send, p_start, p_starts, p_wait, p_again, p_take, p_close, p_closes, p_end, due_same, Goes, goes_on, goes_over, wire_same}

-- something is due in every phase
pub some_want : {x : Transfer} {w : Wire} {m : Midway} {a : Action} {l : List Action} {taken : List ℕ} → AtPhase x w m a l taken → want_at m a ≡ nothing → ⊥
some_want p_drain e = let z : ◌≡◌ {A = ℕ} 0 1 = cc in omega arith
some_want p_data e = let z : ◌≡◌ {A = ℕ} 0 1 = cc in omega arith
some_want p_open e = let z : ◌≡◌ {A = ℕ} 0 1 = cc in omega arith
some_want p_opens e = let z : ◌≡◌ {A = ℕ} 0 1 = cc in omega arith
some_want p_enable e = let z : ◌≡◌ {A = ℕ} 0 1 = cc in omega arith
some_want (p_send l) e = let z : ◌≡◌ {A = ℕ} 0 1 = cc in omega arith
some_want p_start e = let z : ◌≡◌ {A = ℕ} 0 1 = cc in omega arith
some_want p_starts e = let z : ◌≡◌ {A = ℕ} 0 1 = cc in omega arith
some_want (p_wait k f g) e = let z : ◌≡◌ {A = ℕ} 0 1 = cc in omega arith
some_want (p_again k f g) e = let z : ◌≡◌ {A = ℕ} 0 1 = cc in omega arith
some_want (p_take k f g) e = let z : ◌≡◌ {A = ℕ} 0 1 = cc in omega arith
some_want (p_close f) e = let z : ◌≡◌ {A = ℕ} 0 1 = cc in omega arith
some_want (p_closes f) e = let z : ◌≡◌ {A = ℕ} 0 1 = cc in omega arith
some_want (p_end f) e = let z : ◌≡◌ {A = ℕ} 0 1 = cc in omega arith

module _ (job : Job) (bytes buffer₀ : List ℕ) (At : Place → Transfer → (List ℕ → Script) → Type 0) where
  -- after a transfer, with so many bytes programmed: another one, the same one again, the end, or more bytes programmed
  pub data Turns (t : Turned) (w : Wire) : ℕ → Script → Type 0 where
    on : {n : ℕ} {x : Transfer} {k : List ℕ → Script} → t.status ≡ Going → n ≡ counted_at job t.place → At t.place x k → Turns t w n (exchange x k)
    again : {n : ℕ} {x : Transfer} {still : List ℕ → Bool} {k : List ℕ → Script} → t.status ≡ Going → n ≡ counted_at job t.place
        → At t.place x (λ rs. onward (still rs) (repeats drain (opening x) still k) (k rs)) → Turns t w n (repeats drain (opening x) still k)
    over : {n : ℕ} {a : Status} {vs : List ℕ} → is_going a ≡ false → t.status ≡ a → n ≡ counted_at job t.place → said_by a (given job w) ≡ said_by a vs → Turns t w n (ends a vs)
    more : {n j : ℕ} {z : Script} → Turns t w (n + j) z → Turns t w n (counts j z)

  pub record Scripted : Type 0 where
    pub same : (p : Place) (x : Transfer) (k : List ℕ → Script) → At p x k → Same (frame_of job p) x
    pub word : (p : Place) (x : Transfer) (k : List ℕ → Script) → At p x k → (i : ℕ) → i < length (words x) → due_word job p i bytes ≡ get_or (words x) i 0
    pub turn : (p : Place) (x : Transfer) (k : List ℕ → Script) → At p x k → (c i b : ℕ) (taken : List ℕ) → length taken ≡ x.replies
        → Turns (turn_of job p (get_or taken 0 0)) (wire Disable c i b taken) (counted_at job p) (k (reverse taken))
    pub unread : (p : Place) (x : Transfer) (k : List ℕ → Script) → At p x k → is_reading p.stage ≡ false

  pub data Rel : Place → Wire → Status → State → Type 0 where
    rel_on : {p : Place} {w : Wire} {x : Transfer} {k : List ℕ → Script} {m : Midway} {a : Action} {l : List Action} {taken : List ℕ} {n : ℕ} → n ≡ counted_at job p → At p x k → AtPhase x w m a l taken
        → Rel p w Going (going m a l taken none k [] n)
    rel_over : {p : Place} {w : Wire} {a : Status} {vs : List ℕ} {n : ℕ} → n ≡ counted_at job p → is_going a ≡ false → said_by a (given job w) ≡ said_by a vs → Rel p w a (ended a vs [] n)

  module _ (s : Scripted) where
    abbrev o : Place → Wire → Op
    o p w = record { job = job; place = p; wire = w; used = 0; replies = 0; status = Going }

    pub turned : (w : Wire) (t : Turned) {n : ℕ} {z : Script} → Turns t w n z → Rel t.place (pick_wire (is_going t.status) (fresh_wire DrainStatus) w) t.status (begin z [] n)
    turned w t (on e c q) = rw e (rel_on c q p_drain)
    turned w t (again e c q) = rw e (rel_on c q p_drain)
    turned w t (over g e c f) = rw (e, g) (rel_over c g f)
    turned w t (more h) = turned w t h

    rel_moved : (p : Place) {x : Transfer} {k : List ℕ → Script} {w : Wire} {taken : List ℕ} {z : State} {y : Option Wire} → At p x k → Goes x none k [] (counted_at job p) w taken z y
        → Rel (moved_by y (o p w) 0 0).op.place (moved_by y (o p w) 0 0).op.wire (moved_by y (o p w) 0 0).op.status z
    rel_moved p q (goes_on g) = rel_on refl q g
    rel_moved p {x} {k} {w} {taken} q (goes_over c i b e f) = rw e (turned (wire Disable c i b taken) (turn_of job p (get_or taken 0 0)) (s.turn p x k q c i b taken f))

    rel_due : (p : Place) (w : Wire) (z : State) → Rel p w Going z → access_of job p w bytes ≡ asked (want z)
    rel_due p w z (rel_on {x = x} {k = k} c q h) = due_same job p bytes (s.same p x k q) (s.word p x k q) h
    rel_due p w z (rel_over c g f) = no (sym g)

    rel_some : (p : Place) (w : Wire) (z : State) → Rel p w Going z → want z ≡ nothing → ⊥
    rel_some p w z (rel_on c q h) e = some_want h e
    rel_some p w z (rel_over c g f) e = no (sym g)

    rel_steps : (p : Place) (w : Wire) (z : State) (v : ℕ) → Rel p w Going z → Rel (after job p w v).place (after job p w v).wire (after job p w v).status (next z v)
    rel_steps p w z v (rel_on {x = x} {k = k} c q h) = rw c (rel_moved p q (wire_same x none k [] (counted_at job p) (frame_of job p) v (s.same p x k q) h))
    rel_steps p w z v (rel_over c g f) = no (sym g)

    rel_ends : (p : Place) (w : Wire) (a : Status) (z : State) → Rel p w a z → is_going a ≡ false → (want z ≡ nothing) × (a ≡ status_in z)
    rel_ends p w a z (rel_on c q h) e = no (sym e)
    rel_ends p w a z (rel_over c g f) e = (refl, refl)

    rel_values : (p : Place) (w : Wire) (a : Status) (z : State) → Rel p w a z → is_going a ≡ false → said_by a (given job w) ≡ said_by a (values_in z)
    rel_values p w a z (rel_on c q h) e = no (sym e)
    rel_values p w a z (rel_over c g f) e = f

    rel_counts : (p : Place) (w : Wire) (a : Status) (z : State) → Rel p w a z → count_in z ≡ counted_at job p
    rel_counts p w a z (rel_on c q h) = c
    rel_counts p w a z (rel_over c g f) = c

    -- no byte is brought, and the buffer stays
    pub rel_bytes : {p : Place} {w : Wire} {a : Status} {z : State} → Rel p w a z → bytes_in z ≡ []
    rel_bytes (rel_on c q h) = refl
    rel_bytes (rel_over c g f) = refl

    unstored : (p : Place) (w : Wire) (v : ℕ) (buffer : List ℕ) → is_reading p.stage ≡ false → stored job p w v buffer ≡ buffer
    unstored p w v buffer e = rw e (go (is_taking w.phase))
      where
        go : (b : Bool) → when b buffer buffer ≡ buffer
        go true = refl
        go false = refl

    rel_unread : (p : Place) (w : Wire) (z : State) → Rel p w Going z → is_reading p.stage ≡ false
    rel_unread p w z (rel_on {x = x} {k = k} c q h) = s.unread p x k q
    rel_unread p w z (rel_over c g f) = no (sym g)

    rel_keeps : (p : Place) (w : Wire) (z : State) (v : ℕ) → Rel p w Going z → stored job p w v (overlaid (bytes_in z) buffer₀) ≡ overlaid (bytes_in (next z v)) buffer₀
    rel_keeps p w z v q =
        unstored p w v (overlaid (bytes_in z) buffer₀) (rel_unread p w z q)
        ∙ ap (λ (b : List ℕ). overlaid b buffer₀) (rel_bytes q ∙ sym (rel_bytes (rel_steps p w z v q)))

    pub script_tie : Tie job bytes buffer₀ Rel
    script_tie = record { due = rel_due; some = rel_some; steps = rel_steps; over = rel_ends; values = rel_values; counts = rel_counts; keeps = rel_keeps }
