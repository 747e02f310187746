-- The reads, tied to their script chunk by chunk; and the Rust's refill is never reached. Assumes nothing.
use mathlib.Core.Path.{◌≡◌, refl, ap, ◌∙◌, sym}
use mathlib.Core.Bool.{Bool, true, false, cond}
use mathlib.Core.List.{List, [], ◌∷◌, ◌++◌, map, reverse, append-nil}
use Prim.Native.Nat.{ℕ, zero, suc, ◌+◌, ◌-◌, ◌*◌, ◌%◌, ◌^◌, ◌≤◌, ◌<◌, min}
use native.Mathlib.Omega.{arith}
use lib.Dec.{ltb, leb, eqb}
use lib.ListN.{length, get_or, take, drop, length-append, length-drop, length-take, length-reverse}
use lib.Seq.{take-nil, drop-nil}
use borrow.Author.Tests.{ltb-false, le-leb, lt-leb, eq-eqb, ne_eqb, eqb-true, eqb-false}
use Rattle.zynq7000.specs.Bits.{flag_value}
use Rattle.zynq7000_hal.specs.Fifo.{prefilled}
use Rattle.std.specs.Prelude.{Option}
use Rattle.qspi_transfer.specs.declared.Phase.TheVariants as phase
use Rattle.qspi_transfer.specs.declared.Wire.{Wire}
use Rattle.qspi_script.specs.Stages.{frame_of, due_word}
use Rattle.zedboard_bsp.specs.Limits.{largest_chunk}
use Rattle.qspi_script.specs.Turns.{next_chunk, pick_next, read_on, finish}
use Rattle.qspi_script.specs.declared.Stage.TheVariants as stage
use Rattle.qspi_script.specs.declared.Status.{Status}
use Rattle.qspi_script.specs.declared.Status.TheVariants.{Going, Done, AddressSpan}
use Rattle.qspi_script.specs.Answer.{said_by}
use Rattle.qspi_script.specs.declared.Job.{Job}
use Rattle.qspi_script.specs.declared.Place.{Place}
use Rattle.qspi_operation.specs.declared.Op.{Op}
use Rattle.qspi_operation.specs.Store.{stored}
use Rattle.qspi_operation.specs.Step.{is_going, access_of, moved_by, turned_to}
use Rattle.qspi_operation.proofs.Verdicts.{no}
use Rattle.qspi_transfer.specs.Wire.{waits, fresh_wire}
use Rattle.qspi_operation.specs.Machine.{Action, write, drain, reply, Midway, first, full, again, ready, stays, over, replicate, closing, replying, proceed, nothing, Transfer, Script, State, going, ended, onward, begin, moves, want, next, status_in, values_in, bytes_in, count_in, overlaid}
use Rattle.qspi_calls.specs.Calls as call
use Rattle.qspi_calls.specs.Calls.{zeros, zero_words, reading, read_command, bytes_of_all, bytes_read, read_from, refused}
use Rattle.qspi_calls.specs.Starts as start
use Rattle.qspi_calls.proofs.Tied.{asked, after, given, Tie, Starts}
use Rattle.qspi_calls.proofs.Phases.{wire, words, Same, AtPhase, p_drain, p_data, p_open, p_opens, p_enable, p_send, p_start, p_starts, p_wait, p_again, p_take, p_close, p_closes, p_end, due_same, Goes, goes_on, goes_over, wire_same}
use Rattle.qspi_calls.proofs.Scripted.{some_want}
use Rattle.qspi_calls.proofs.Short.{ended_at_start}
use Rattle.qspi_calls.proofs.ReadBytes.{length_all, more_bytes, one_reply}

pub length_zeros : (n : ℕ) → length (zeros n) ≡ n
length_zeros zero = refl
length_zeros (suc n) = ap suc (length_zeros n)

zero_at : (n j : ℕ) → get_or (zeros n) j 0 ≡ 0
zero_at zero j = refl
zero_at (suc n) zero = refl
zero_at (suc n) (suc j) = zero_at n j

flag_le : (b : Bool) → flag_value b ≤ 1
flag_le true = omega arith
flag_le false = omega arith

-- "Prefilling always suffices, so the Rust's refill is never reached": the words written before start are all that a chunk needs
pub never_refilled : (dummy : Bool) (left : ℕ) → prefilled (zero_words dummy (min left (largest_chunk dummy))) ≡ zero_words dummy (min left (largest_chunk dummy))
never_refilled true left = omega arith
never_refilled false left = omega arith

module _ (fast dummy : Bool) (a n : ℕ) (log old : List ℕ) (span : a + n ≤ 4294967296) (wide : length old ≡ n) where
  abbrev job : Job
  job = start.reading_job a fast dummy n (length log)

  -- the chunk at byte d, and its place
  abbrev chunk : ℕ → ℕ
  chunk d = min (n - d) (largest_chunk dummy)

  abbrev at : ℕ → Place
  at d = record { stage = stage.Read; done = d; chunk = chunk d; sr = 0; cr = 0 }

  data ReadAt : Place → Transfer → (List ℕ → List ℕ) → (List ℕ → Script) → List ℕ → Type 0 where
    read_at : {f d : ℕ} {bs : List ℕ} → d < n → length bs ≡ d → n - d ≤ suc f
        → ReadAt (at d) (reading fast dummy (a + d) (chunk d)) (bytes_read dummy (chunk d)) (λ rs. read_from f fast dummy (a + d + chunk d) (n - d - chunk d)) bs

  data Rel : Place → Wire → Status → State → Type 0 where
    rel_on : {p : Place} {w : Wire} {x : Transfer} {brings : List ℕ → List ℕ} {k : List ℕ → Script} {bs : List ℕ} {m : Midway} {c : Action} {l : List Action} {taken : List ℕ} → ReadAt p x brings k bs → AtPhase x w m c l taken
        → Rel p w Going (going m c l taken brings k bs 0)
    rel_over : {p : Place} {w : Wire} {s : Status} {bs : List ℕ} → is_going s ≡ false → Rel p w s (ended s [] bs 0)

  chunk_le : (d : ℕ) → chunk d ≤ 248
  chunk_le d = omega (arith, flag_le dummy)

  same : {p : Place} {x : Transfer} {brings : List ℕ → List ℕ} {k : List ℕ → Script} {bs : List ℕ} → ReadAt p x brings k bs → Same (frame_of job p) x
  same (read_at {d = d} h e g) =
      let z = length_zeros (zero_words dummy (chunk d)) in
      record { port = refl; further = never_refilled dummy (n - d) ∙ sym z; bytes = omega arith; few = omega (arith, chunk_le d, flag_le dummy); twice = refl }

  first_word_lem : (d : ℕ) → d < n → (b : Bool) → cond b (call.read_command true ((a + d % 2 ^ 32) % 2 ^ 32)) (call.read_command false ((a + d % 2 ^ 32) % 2 ^ 32)) ≡ read_command b (a + d)
  first_word_lem d h b = rw e (go b)
    where
      e : (a + d % 2 ^ 32) % 2 ^ 32 ≡ a + d
      e = omega arith

      go : (b : Bool) → cond b (call.read_command true (a + d)) (call.read_command false (a + d)) ≡ read_command b (a + d)
      go true = refl
      go false = refl

  word : {p : Place} {x : Transfer} {brings : List ℕ → List ℕ} {k : List ℕ → Script} {bs : List ℕ} → ReadAt p x brings k bs → (i : ℕ) → i < length (words x) → due_word job p i [] ≡ get_or (words x) i 0
  word (read_at {d = d} h e g) zero l = first_word_lem d h fast
  word (read_at {d = d} h e g) (suc j) l =
      let z : eqb (suc j) 0 ≡ false = ne_eqb (suc j) 0 (λ y. omega arith) in
      rw z (sym (zero_at (zero_words dummy (chunk d)) j))

  -- the bytes of a whole chunk
  whole_chunk : (d : ℕ) (taken : List ℕ) → d < n → length taken ≡ suc (zero_words dummy (chunk d)) → length (bytes_read dummy (chunk d) (reverse taken)) ≡ chunk d
  whole_chunk d taken h e =
      let r = length-reverse taken in
      let l₁ = length-drop 1 (reverse taken) in
      let l₂ = length_all (drop 1 (reverse taken)) in
      let l₃ = length-drop (flag_value dummy) (bytes_of_all (drop 1 (reverse taken))) in
      omega (arith, length-take (chunk d) (drop (flag_value dummy) (bytes_of_all (drop 1 (reverse taken)))), flag_le dummy)

  nothing_yet : (c : ℕ) → bytes_read dummy c [] ≡ []
  nothing_yet c = ap (take c) (drop-nil {A = ℕ} (flag_value dummy)) ∙ take-nil {A = ℕ} c

  abbrev o : Place → Wire → Op
  o p w = record { job = job; place = p; wire = w; used = 0; replies = 0; status = Going }

  -- the next chunk, or the end
  turned : (f d left : ℕ) (bs : List ℕ) (w : Wire) → d ≤ n → length bs ≡ d → n - d ≡ left → left ≤ f
      → Rel (pick_next (at d)).place (turned_to (o (at d) w) (pick_next (at d)) 0 0).op.wire (pick_next (at d)).status (begin (read_from f fast dummy (a + d) left) bs 0)
  turned f d zero bs w h e g l =
      let c : chunk d ≡ 0 = omega arith in
      let z : eqb (chunk d) 0 ≡ true = eq-eqb (chunk d) 0 c in
      rw z (go f)
    where
      go : (f : ℕ) → Rel (finish (at d) Done).place w Done (begin (read_from f fast dummy (a + d) 0) bs 0)
      go zero = rel_over refl
      go (suc f) = rel_over refl
  turned zero d (suc left) bs w h e g l = absurd (omega arith)
  turned (suc f) d (suc left) bs w h e g l =
      let z : eqb (chunk d) 0 ≡ false = ne_eqb (chunk d) 0 (λ y. omega (arith, flag_le dummy)) in
      let h₁ : d < n = omega arith in
      let h₂ : n - d ≤ suc f = omega arith in
      rw (z, ← g) (rel_on (read_at {f = f} {d = d} h₁ e h₂) p_drain)

  turn_at : (f d : ℕ) (bs : List ℕ) (c i b : ℕ) (taken : List ℕ) → d < n → length bs ≡ d → n - d ≤ suc f → length taken ≡ suc (zero_words dummy (chunk d))
      → Rel (read_on job (at d)).place (turned_to (o (at d) (wire phase.Disable c i b taken)) (read_on job (at d)) 0 0).op.wire (read_on job (at d)).status
      (begin (read_from f fast dummy (a + d + chunk d) (n - d - chunk d)) (bs ++ bytes_read dummy (chunk d) (reverse taken)) 0)
  turn_at f d bs c i b taken h e g t =
      let m : (d + chunk d) % 2 ^ 64 ≡ d + chunk d = omega arith in
      let q : a + d + chunk d ≡ a + (d + chunk d) = omega arith in
      let r : n - d - chunk d ≡ n - (d + chunk d) = omega arith in
      let y : length (bs ++ bytes_read dummy (chunk d) (reverse taken)) ≡ d + chunk d = length-append bs (bytes_read dummy (chunk d) (reverse taken)) ∙ (let z : length bs + length (bytes_read dummy (chunk d) (reverse taken)) ≡ d + chunk d = omega (arith, whole_chunk d taken h t) in z) in
      rw (m, q, r)
      (turned f (d + chunk d) (n - (d + chunk d)) (bs ++ bytes_read dummy (chunk d) (reverse taken)) (wire phase.Disable c i b taken) (omega arith) y refl (omega (arith, flag_le dummy)))

  rel_moved : {p : Place} {x : Transfer} {brings : List ℕ → List ℕ} {k : List ℕ → Script} {bs : List ℕ} {w : Wire} {taken : List ℕ} {z : State} {y : Option Wire} → ReadAt p x brings k bs → Goes x brings k bs 0 w taken z y
      → Rel (moved_by y (o p w) 0 0).op.place (moved_by y (o p w) 0 0).op.wire (moved_by y (o p w) 0 0).op.status z
  rel_moved q (goes_on g) = rel_on q g
  rel_moved {taken = taken} (read_at {f} {d} {bs} h e g) (goes_over c i b u t) = rw u (turn_at f d bs c i b taken h e g t)

  r_due : (p : Place) (w : Wire) (z : State) → Rel p w Going z → access_of job p w [] ≡ asked (want z)
  r_due p w z (rel_on q h) = due_same job p [] (same q) (word q) h
  r_due p w z (rel_over g) = no (sym g)

  r_some : (p : Place) (w : Wire) (z : State) → Rel p w Going z → want z ≡ nothing → ⊥
  r_some p w z (rel_on q h) e = some_want h e
  r_some p w z (rel_over g) e = no (sym g)

  r_steps : (p : Place) (w : Wire) (z : State) (v : ℕ) → Rel p w Going z → Rel (after job p w v).place (after job p w v).wire (after job p w v).status (next z v)
  r_steps p w z v (rel_on {x = x} {brings = brings} {k = k} {bs = bs} q h) = rel_moved q (wire_same x brings k bs 0 (frame_of job p) v (same q) h)
  r_steps p w z v (rel_over g) = no (sym g)

  r_ends : (p : Place) (w : Wire) (s : Status) (z : State) → Rel p w s z → is_going s ≡ false → (want z ≡ nothing) × (s ≡ status_in z)
  r_ends p w s z (rel_on q h) e = no (sym e)
  r_ends p w s z (rel_over g) e = (refl, refl)

  r_values : (p : Place) (w : Wire) (s : Status) (z : State) → Rel p w s z → is_going s ≡ false → said_by s (given job w) ≡ said_by s (values_in z)
  r_values p w s z (rel_on q h) e = no (sym e)
  r_values p w s z (rel_over g) e = refl

  r_counts : (p : Place) (w : Wire) (s : Status) (z : State) → Rel p w s z → count_in z ≡ 0
  r_counts p w s z (rel_on q h) = refl
  r_counts p w s z (rel_over g) = refl

  -- ---- the buffer

  -- where the next chunk begins nothing of it is there yet
  begun_bytes : (f : ℕ) (a left : ℕ) (bs : List ℕ) → bytes_in (begin (read_from f fast dummy a left) bs 0) ≡ bs
  begun_bytes zero a left bs = refl
  begun_bytes (suc f) a zero bs = refl
  begun_bytes (suc f) a (suc left) bs = ap (λ (z : List ℕ). bs ++ z) (nothing_yet (min (suc left) (largest_chunk dummy))) ∙ append-nil bs

  taking : (d v b : ℕ) (bs taken : List ℕ) → d < n → length bs ≡ d → b ≡ 4 * length taken
      → stored job (at d) (wire phase.Take 0 0 b taken) v (overlaid (bs ++ bytes_read dummy (chunk d) (reverse taken)) old) ≡ overlaid (bs ++ bytes_read dummy (chunk d) (reverse (v ∷ taken))) old
  taking d v b bs [] h e f =
      let l : leb 4 b ≡ false = lt-leb 4 b (omega arith) in
      rw l
  taking d v b bs (t ∷ ts) h e f =
      let l : leb 4 b ≡ true = le-leb 4 b (omega arith) in
      let n₁ = length-reverse (t ∷ ts) in
      let n₂ = length-drop 1 (reverse (t ∷ ts)) in
      let n₃ = length_all (drop 1 (reverse (t ∷ ts))) in
      let i : b - 4 ≡ length (bytes_of_all (drop 1 (reverse (t ∷ ts)))) = omega arith in
      rw l
      (one_reply (at d) (flag_value dummy) bs old e (omega arith) (omega arith) (bytes_of_all (drop 1 (reverse (t ∷ ts)))) (b - 4) v i
      ∙ ap (λ (z : List ℕ). overlaid (bs ++ take (chunk d) (drop (flag_value dummy) z)) old) (sym (more_bytes t v ts)))

  -- an access that takes no reply brings nothing
  module _ {p : Place} {x : Transfer} {brings : List ℕ → List ℕ} {k : List ℕ → Script} {bs : List ℕ} (q : ReadAt p x brings k bs) (taken : List ℕ) where
    over_bytes : (l : List Action) → bytes_in (proceed l taken brings k bs 0) ≡ bs ++ brings (reverse taken)
    over_bytes [] = go q
      where
        go : {p : Place} {x : Transfer} {brings : List ℕ → List ℕ} {k : List ℕ → Script} {bs : List ℕ} → ReadAt p x brings k bs → bytes_in (begin (k (reverse taken)) (bs ++ brings (reverse taken)) 0) ≡ bs ++ brings (reverse taken)
        go (read_at {f} {d} {bs} h e g) = begun_bytes f (a + d + chunk d) (n - d - chunk d) (bs ++ bytes_read dummy (chunk d) (reverse taken))
    over_bytes (c ∷ l) = refl

    drain_bytes : (b : Bool) (m : Midway) (c : Action) (l : List Action) → bytes_in (moves (cond b (stays m) over) c l taken brings k bs 0) ≡ bs ++ brings (reverse taken)
    drain_bytes true m c l = refl
    drain_bytes false m c l = over_bytes l

    poll_bytes : (b : Bool) (m₁ m₂ : Midway) (c : Action) (l : List Action) → bytes_in (moves (cond b (stays m₁) (stays m₂)) c l taken brings k bs 0) ≡ bs ++ brings (reverse taken)
    poll_bytes true m₁ m₂ c l = refl
    poll_bytes false m₁ m₂ c l = refl

  abbrev same_buffer : {x y : List ℕ} → y ≡ x → overlaid x old ≡ overlaid y old
  same_buffer e = ap (λ (z : List ℕ). overlaid z old) (sym e)

  takes_reply : {p : Place} {x : Transfer} {brings : List ℕ → List ℕ} {k : List ℕ → Script} {bs : List ℕ} (c i b v j : ℕ) (taken : List ℕ) (t : Bool) → ReadAt p x brings k bs → b ≡ 4 * length taken
      → stored job p (wire phase.Take c i b taken) v (overlaid (bs ++ brings (reverse taken)) old) ≡ overlaid (bytes_in (proceed (replicate j (reply t) ++ closing) (v ∷ taken) brings k bs 0)) old
  takes_reply c i b v j taken t (read_at {f} {d} {bs} h e g) u = taking d v b bs taken h e u ∙ same_buffer (over_bytes (read_at {f = f} {d = d} {bs = bs} h e g) (v ∷ taken) (replicate j (reply t) ++ closing))

  r_keeps : (p : Place) (w : Wire) (z : State) (v : ℕ) → Rel p w Going z → stored job p w v (overlaid (bytes_in z) old) ≡ overlaid (bytes_in (next z v)) old
  r_keeps p w z v (rel_over g) = no (sym g)
  r_keeps p w z v (rel_on q p_drain) = same_buffer (drain_bytes q [] (waits v) full drain _)
  r_keeps p w z v (rel_on q p_data) = refl
  r_keeps p w z v (rel_on q p_open) = refl
  r_keeps p w z v (rel_on q p_opens) = refl
  r_keeps p w z v (rel_on q p_enable) = refl
  r_keeps p w z v (rel_on {x = x} q (p_send {i = i} l)) = same_buffer (over_bytes q [] (map (write x.port) (drop (suc i) (words x)) ++ replying x))
  r_keeps p w z v (rel_on q p_start) = refl
  r_keeps p w z v (rel_on {x = x} q p_starts) = same_buffer (over_bytes q [] (replicate x.replies (reply x.twice) ++ closing))
  r_keeps p w z v (rel_on {x = x} q (p_wait j {taken} e f)) = same_buffer (poll_bytes q taken (waits v) (cond x.twice again ready) first (reply x.twice) (replicate j (reply x.twice) ++ closing))
  r_keeps p w z v (rel_on {x = x} q (p_again j {taken} e f)) = same_buffer (poll_bytes q taken (waits v) ready first (reply x.twice) (replicate j (reply x.twice) ++ closing))
  r_keeps p w z v (rel_on {x = x} q (p_take {c} {i} {b} j {taken} e f)) = takes_reply c i b v j taken x.twice q e
  r_keeps p w z v (rel_on q (p_close e)) = refl
  r_keeps p w z v (rel_on q (p_closes e)) = refl
  r_keeps p w z v (rel_on q (p_end {taken = taken} e)) = same_buffer (over_bytes q taken [])

  r_tie : Tie job [] old Rel
  r_tie = record { due = r_due; some = r_some; steps = r_steps; over = r_ends; values = r_values; counts = r_counts; keeps = r_keeps }

  read_going : 0 < n → Starts (start.going job (at 0)) [] log old (read_from n fast dummy a n)
  read_going h =
      let z : eqb (chunk 0) 0 ≡ false = ne_eqb (chunk 0) 0 (λ y. omega (arith, flag_le dummy)) in
      let e : a + 0 ≡ a = omega arith in
      let m : n - 0 ≡ n = omega arith in
      let q = turned n 0 n [] (fresh_wire phase.DrainStatus) (omega arith) refl m (omega arith) in
      record {
        job = job;
        place = at 0;
        wire = fresh_wire phase.DrainStatus;
        status = Going;
        is = refl;
        Rel = Rel;
        tie = r_tie;
        rel = rw (z, e) at q;
        lent_data = refl;
        lent_log = refl;
        lent_buffer = wide;
        unread = begun_bytes n a n [];
      }

pub read : (fast dummy : Bool) (a : ℕ) (log old : List ℕ) → Starts (start.read_of a fast dummy (length old) (length log)) [] log old (call.read fast dummy a (length old))
read fast dummy a log old = go (ltb 4294967296 (a + length old)) refl
  where
    empty : (b : Bool) → eqb (length old) 0 ≡ b → a + length old ≤ 4294967296
        → Starts (start.pick b (start.over (start.reading_job a fast dummy (length old) (length log)) Done) (start.going (start.reading_job a fast dummy (length old) (length log)) (start.place_at stage.Read (next_chunk (length old) 0 dummy) 0 0))) [] log old (read_from (length old) fast dummy a (length old))
    empty true e h = rw (eqb-true (length old) 0 e) (ended_at_start (start.reading_job a fast dummy 0 (length log)) [] log old Done refl (λ w. refl) refl refl (eqb-true (length old) 0 e))
    empty false e h = read_going fast dummy a (length old) log old h refl (let z : length old ≡ 0 → ⊥ = eqb-false (length old) 0 e in omega (arith, z))

    go : (b : Bool) → ltb 4294967296 (a + length old) ≡ b
        → Starts (start.pick b (start.over (start.reading_job a fast dummy (length old) (length log)) AddressSpan) (start.pick (eqb (length old) 0) (start.over (start.reading_job a fast dummy (length old) (length log)) Done) (start.going (start.reading_job a fast dummy (length old) (length log)) (start.place_at stage.Read (next_chunk (length old) 0 dummy) 0 0)))) [] log old
        (onward b (refused AddressSpan) (read_from (length old) fast dummy a (length old)))
    go true e = ended_at_start _ [] log old AddressSpan refl (λ w. refl) refl refl refl
    go false e = empty (eqb (length old) 0) refl (ltb-false 4294967296 (a + length old) e)
