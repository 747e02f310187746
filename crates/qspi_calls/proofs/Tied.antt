-- For any call: where each access by counters keeps an operation and its script together, the operation follows the script, whatever it is handed, step by step. Assumes nothing.
use mathlib.Core.Path.{◌≡◌, refl, ap, subst, ◌∙◌, sym}
use mathlib.Core.Bool.{Bool, true, false}
use mathlib.Core.List.{List, [], ◌∷◌, ◌++◌}
use Prim.Native.Nat.{ℕ, suc, ◌+◌, ◌*◌, ◌%◌, ◌^◌, ◌≤◌, ◌<◌}
use native.Mathlib.Omega.{arith}
use native.Mathlib.Numerals.{add-one}
use lib.Dec.{leb}
use lib.ListN.{length, length-append}
use lib.Seq.{sets}
use borrow.Author.Tests.{leb-true, eq-eqb}
use Rattle.zynq7000.specs.Access.{encode}
use Rattle.zynq7000.specs.declared.qspi.Access.{Access}
use Rattle.zynq7000.specs.declared.qspi.Access.TheVariants as access
use Rattle.qspi_transfer.specs.declared.Due.{Due}
use Rattle.qspi_transfer.specs.declared.Due.TheVariants as due
use Rattle.qspi_transfer.specs.declared.Wire.{Wire}
use Rattle.qspi_transfer.specs.Wire.{wire_next}
use Rattle.qspi_script.specs.Stages.{frame_of}
use Rattle.qspi_script.specs.declared.Status.{Status}
use Rattle.qspi_script.specs.declared.Status.TheVariants.{Going, RepliesEnded, LogFull}
use Rattle.qspi_script.specs.declared.Lent.{Lent}
use Rattle.qspi_script.specs.declared.Job.{Job}
use Rattle.qspi_script.specs.declared.Place.{Place}
use Rattle.qspi_script.specs.Answer.{said_by, values_of}
use Rattle.qspi_operation.specs.declared.Op.{Op}
use Rattle.std.specs.Prelude.{Option, Some, None}
use Rattle.qspi_operation.specs.Step.{Verdict}
use Rattle.qspi_operation.specs.Step.{Full}
use Rattle.qspi_operation.specs.Store.{stored}
use Rattle.qspi_operation.specs.Step.{is_going, access_of, shown, answered, choose, same_lengths, verdict_of, act, moved, moved_by, noted, taken, written, step_of, log_of, buffer_of, counted_at}
use Rattle.qspi_operation.specs.Machine.{Want, reads, writes, nothing, State, going, ended, want, next, status_in, values_in, bytes_in, count_in, begin, Script, overlaid, reads_of}
use Rattle.qspi_operation.specs.Points.{Lending, Point, reached, outset, room_for, step_at, access_if, steps_at}
use Rattle.qspi_operation.specs.Follows.{asked_for, lengths_of, Shows, op_after, Follows, Begun}
use Rattle.qspi_operation.proofs.Passes.{going_is}
use Rattle.qspi_operation.proofs.Runs.{stored_kept}
use Rattle.qspi_operation.proofs.PointLaws.{reads_last, reads_few, stays}

-- the access of what is due
abbrev pub asked : Want → Due
asked (reads o) = due.Read o
asked (writes o v) = due.Write o v
asked nothing = due.Read 0

-- the operation after an access of value v: place, wire, status
abbrev pub after : Job → Place → Wire → ℕ → Op
after job p w v = (moved (record { job = job; place = p; wire = w; used = 0; replies = 0; status = Going }) 0 0 v).op

-- the values that a call gives where it is done
abbrev pub given : Job → Wire → List ℕ
given job w = values_of job.script.gives job.low_level.clock w.older w.old w.last

-- the two together: place, wire and status by counters, and a state over lists
pub record Tie (job : Job) (bytes buffer₀ : List ℕ) (Rel : Place → Wire → Status → State → Type 0) : Type 0 where
  pub due : (p : Place) (w : Wire) (s : State) → Rel p w Going s → access_of job p w bytes ≡ asked (want s)
  pub some : (p : Place) (w : Wire) (s : State) → Rel p w Going s → want s ≡ nothing → ⊥
  pub steps : (p : Place) (w : Wire) (s : State) (v : ℕ) → Rel p w Going s → Rel (after job p w v).place (after job p w v).wire (after job p w v).status (next s v)
  pub over : (p : Place) (w : Wire) (a : Status) (s : State) → Rel p w a s → is_going a ≡ false → (want s ≡ nothing) × (a ≡ status_in s)
  pub values : (p : Place) (w : Wire) (a : Status) (s : State) → Rel p w a s → is_going a ≡ false → said_by a (given job w) ≡ said_by a (values_in s)
  pub counts : (p : Place) (w : Wire) (a : Status) (s : State) → Rel p w a s → count_in s ≡ counted_at job p
  pub keeps : (p : Place) (w : Wire) (s : State) (v : ℕ) → Rel p w Going s → stored job p w v (overlaid (bytes_in s) buffer₀) ≡ overlaid (bytes_in (next s v)) buffer₀

long_last : (l : List Access) (a : Access) → 2 * length (l ++ a ∷ []) ≡ 2 * length l + 2
long_last l a = let e : length (l ++ a ∷ []) ≡ length l + 1 = length-append l (a ∷ []) in omega (arith, e)

module _ (job : Job) (g : Lending) (lent : job.lent ≡ lengths_of g) (fits : g.room < 2 ^ 64) {Rel : Place → Wire → Status → State → Type 0} (t : Tie job g.bytes g.buffer Rel) where
  abbrev op : Place → Wire → ℕ → ℕ → Status → Op
  op p w u i a = record { job = job; place = p; wire = w; used = u; replies = i; status = a }

  abbrev at : State → List Access → Status → Point
  at s l a = record { state = s; made = l; answer = a }

  abbrev Wide : State → Type 0
  Wide s = length (overlaid (bytes_in s) g.buffer) ≡ length g.buffer

  -- an operation and the call that it follows: tied while they go on
  data Inv : Point → Op → Type 0 where
    goes : {p : Place} {w : Wire} {s : State} {l : List Access} → Rel p w Going s → 2 * length l ≤ g.room → Wide s → Inv (at s l Going) (op p w (2 * length l) (reads_of l) Going)
    over : {p : Place} {w : Wire} {s : State} {l : List Access} {a : Status} → is_going a ≡ false → said_by a (given job w) ≡ said_by a (values_in s) → count_in s ≡ counted_at job p → Wide s → Inv (at s l a) (op p w (2 * length l) (reads_of l) a)

  is_going_lem : (s : State) → (want s ≡ nothing → ⊥) → status_in s ≡ Going
  is_going_lem (going m a l taken brings k bs n) h = refl
  is_going_lem (ended a vs bs n) h = absurd (h refl)

  settled : {p : Place} {w : Wire} {s : State} {a : Status} (l : List Access) (u i : ℕ) → Rel p w a s → u ≡ 2 * length l → i ≡ reads_of l → u ≤ g.room → Wide s → Inv (reached s l) (op p w u i a)
  settled {p} {w} {s} {a} l u i q e f h z = rw (e, f) (go (is_going a) refl)
    where
      go : (b : Bool) → is_going a ≡ b → Inv (at s l (status_in s)) (op p w (2 * length l) (reads_of l) a)
      go true y =
          let q' : Rel p w Going s = rw (going_is a y) at q in
          rw (going_is a y, is_going_lem s (t.some p w s q')) (goes {l = l} q' (omega (arith, e, h)) z)
      go false y = rw (← (t.over p w a s q y).1) (over y (t.values p w a s q y) (t.counts p w a s q) z)

  -- where an access leads does not depend on the used counts
  moved_is : (p : Place) (w : Wire) (u i u' i' v : ℕ) → (moved (op p w u i Going) u' i' v).op ≡ op (after job p w v).place (after job p w v).wire u' i' (after job p w v).status
  moved_is p w u i u' i' v = go (wire_next w (frame_of job p) v)
    where
      go : (m : Option Wire) → (moved_by m (op p w u i Going) u' i').op ≡ op (moved_by m (op p w 0 0 Going) 0 0).op.place (moved_by m (op p w 0 0 Going) 0 0).op.wire u' i' (moved_by m (op p w 0 0 Going) 0 0).op.status
      go (Some x) = refl
      go None = refl

  same_all : same_lengths job (length g.bytes) (length g.buffer) g.room ≡ true
  same_all = rw (lent, eq-eqb (length g.bytes) (length g.bytes) refl, eq-eqb (length g.buffer) (length g.buffer) refl, eq-eqb g.room g.room refl)

  -- one of two, by whether there is room
  abbrev judged : Bool → Want → Option ℕ → Verdict
  judged b x r = choose b (answered (asked x) r) Full

  module _ {p : Place} {w : Wire} {s : State} (l : List Access) (q : Rel p w Going s) (z : Wide s) where
    abbrev o : Op
    o = op p w (2 * length l) (reads_of l) Going

    verdict_is : (r : Option ℕ) → verdict_of o g.bytes (length g.buffer) g.room r ≡ judged (leb (2 * length l + 2) g.room) (want s) r
    verdict_is r = rw (same_all, t.due p w s q)

    wide_next : (v : ℕ) → Wide (next s v)
    wide_next v = ap length (sym (t.keeps p w s v q)) ∙ stored_kept job p w v (overlaid (bytes_in s) g.buffer) ∙ z

    stops : (a : Status) → is_going a ≡ false → said_by a (given job w) ≡ said_by a (values_in s) → Inv (at s l a) (op p w (2 * length l) (reads_of l) a)
    stops a e f = over e f (t.counts p w Going s q) z

    made_one : (v i : ℕ) (a : Access) → i ≡ reads_of (l ++ a ∷ []) → 2 * length l + 2 ≤ g.room → Inv (reached (next s v) (l ++ a ∷ [])) (moved o (2 * length l + 2) i v).op
    made_one v i a e h = rw (moved_is p w (2 * length l) (reads_of l) (2 * length l + 2) i v) (settled (l ++ a ∷ []) (2 * length l + 2) i (t.steps p w s v q) (sym (long_last l a)) e h (wide_next v))

    step_by : (b : Bool) → leb (2 * length l + 2) g.room ≡ b → (x : Want) → want s ≡ x → (r : Option ℕ) → Inv (room_for b x r (at s l Going)) (act (judged b x r) o).op
    step_by b e nothing f r = absurd (t.some p w s q f)
    step_by false e (reads k) f r = stops LogFull refl refl
    step_by false e (writes k v) f r = stops LogFull refl refl
    step_by true e (reads k) f (Some v) =
        let h = leb-true (2 * length l + 2) g.room e in
        let i : (reads_of l + 1) % 2 ^ 64 ≡ reads_of (l ++ access.Read k v ∷ []) = omega (arith, reads_last l (access.Read k v), reads_few l, h, fits) in
        made_one v _ (access.Read k v) i h
    step_by true e (reads k) f None = stops RepliesEnded refl refl
    step_by true e (writes k v) f r =
        let i : reads_of l ≡ reads_of (l ++ access.Write k v ∷ []) = omega (arith, reads_last l (access.Write k v)) in
        made_one v _ (access.Write k v) i (leb-true (2 * length l + 2) g.room e)

    due_by : (x : Want) → want s ≡ x → shown (asked x) ≡ asked_for x
    due_by nothing f = absurd (t.some p w s q f)
    due_by (reads k) f = refl
    due_by (writes k v) f = refl

    two : (log : List ℕ) (x y : ℕ) → written log (2 * length l) x y ≡ sets log (2 * length l) (x ∷ y ∷ [])
    two log x y = let e : 2 * length l + 1 ≡ suc (2 * length l) = add-one (2 * length l) in rw e

    log_by : (b : Bool) (x : Want) → want s ≡ x → (r : Option ℕ) (log : List ℕ) → noted (judged b x r) (2 * length l) log ≡ sets log (2 * length l) (encode (access_if b x r))
    unfolding encode
    log_by b nothing f r log = absurd (t.some p w s q f)
    log_by false (reads k) f r log = refl
    log_by false (writes k v) f r log = refl
    log_by true (reads k) f (Some v) log = two log (0x100 + k) v
    log_by true (reads k) f None log = refl
    log_by true (writes k v) f r log = two log k v

    buffer_by : (b : Bool) (x : Want) → want s ≡ x → (r : Option ℕ) → taken (judged b x r) o (overlaid (bytes_in s) g.buffer) ≡ overlaid (bytes_in (room_for b x r (at s l Going)).state) g.buffer
    buffer_by b nothing f r = absurd (t.some p w s q f)
    buffer_by false (reads k) f r = refl
    buffer_by false (writes k v) f r = refl
    buffer_by true (reads k) f (Some v) = t.keeps p w s v q
    buffer_by true (reads k) f None = refl
    buffer_by true (writes k v) f r = t.keeps p w s v q

    shows_going : Shows g (at s l Going) o
    shows_going = record {
      lent = lent;
      status = refl;
      answer = rw (t.counts p w Going s q);
      due = rw (eq-eqb (length g.bytes) job.lent.«data» (ap (λ (y : Lent). y.«data») (sym lent)), t.due p w s q) (due_by (want s) refl);
      logged = λ r log e. rw (e, verdict_is r) (log_by (leb (2 * length l + 2) g.room) (want s) refl r log);
      wide = z;
      stored = λ r. rw (z, verdict_is r) (buffer_by (leb (2 * length l + 2) g.room) (want s) refl r);
    }

    steps_going : (r : Option ℕ) → Inv (step_at g.room r (at s l Going)) (step_of o g.bytes (length g.buffer) g.room r).op
    steps_going r = rw (verdict_is r) (step_by (leb (2 * length l + 2) g.room) refl (want s) refl r)

  shows_of : {p : Point} {o : Op} → Inv p o → Shows g p o
  unfolding encode
  shows_of (goes {l = l} q e z) = shows_going l q z
  shows_of (over {p} {w} {s} {l} {a} e f h z) = record {
    lent = lent;
    status = refl;
    answer = rw (f, h);
    due = rw e;
    logged = λ r log y.
        let u : log_of (op p w (2 * length l) (reads_of l) a) g.bytes (length g.buffer) log r ≡ log = rw e in
        u ∙ ap (λ (x : List Access). sets log (2 * length l) (encode x)) (sym (stays g.room r (at s l a) e).1);
    wide = z;
    stored = λ r.
        let u : buffer_of (op p w (2 * length l) (reads_of l) a) g.bytes (overlaid (bytes_in s) g.buffer) g.room r ≡ overlaid (bytes_in s) g.buffer = rw e in
        u ∙ ap (λ (x : Point). overlaid (bytes_in x.state) g.buffer) (sym (stays g.room r (at s l a) e).0);
  }

  step_of_lem : {p : Point} {o : Op} (r : Option ℕ) → Inv p o → Inv (step_at g.room r p) (step_of o g.bytes (length g.buffer) g.room r).op
  step_of_lem r (goes {l = l} q e z) = steps_going l q z r
  step_of_lem r (over {p} {w} {s} {l} {a} e f h z) =
      let u : (step_of (op p w (2 * length l) (reads_of l) a) g.bytes (length g.buffer) g.room r).op ≡ op p w (2 * length l) (reads_of l) a = rw e in
      subst (λ (x : Point). Inv x (step_of (op p w (2 * length l) (reads_of l) a) g.bytes (length g.buffer) g.room r).op) (sym (stays g.room r (at s l a) e).0) (subst (Inv (at s l a)) (sym u) (over e f h z))

  shows_after : (rs : List (Option ℕ)) {p : Point} {o : Op} → Inv p o → Shows g (steps_at g.room rs p) (op_after g rs o)
  shows_after [] h = shows_of h
  shows_after (r ∷ rs) h = shows_after rs (step_of_lem r h)

  follows : (p : Place) (w : Wire) (a : Status) (s : State) → Rel p w a s → bytes_in s ≡ [] → Follows g (outset s) (op p w 0 0 a)
  unfolding reads_of
  follows p w a s q e =
      let z : Wide s = rw e in
      record { always = λ rs. shows_after rs (settled [] 0 0 q (omega arith) refl (omega arith) z) }

-- an operation that a start gives: it stands where the script begins
pub record Starts (o : Op) (bytes log buffer : List ℕ) (c : Script) : Type 1 where
  pub job : Job
  pub place : Place
  pub wire : Wire
  pub status : Status
  pub is : o ≡ record { job = job; place = place; wire = wire; used = 0; replies = 0; status = status }
  pub Rel : Place → Wire → Status → State → Type 0
  pub tie : Tie job bytes buffer Rel
  pub rel : Rel place wire status (begin c [] 0)
  pub lent_data : length bytes ≡ job.lent.«data»
  pub lent_log : length log ≡ job.lent.log
  pub lent_buffer : length buffer ≡ job.lent.buffer
  pub unread : bytes_in (begin c [] 0) ≡ []

-- THEOREM. An operation that a start gives begins the script of its call, and follows it.
pub started : (o : Op) (bytes log buffer : List ℕ) (c : Script) → length log < 2 ^ 64 → Starts o bytes log buffer c → Begun (record { bytes = bytes; buffer = buffer; room = length log }) c o
started o bytes log buffer c fits s =
    let e : s.job.lent ≡ record { «data» = length bytes; buffer = length buffer; log = length log } = rw (s.lent_data, s.lent_log, s.lent_buffer) in
    let f : Follows (record { bytes = bytes; buffer = buffer; room = length log }) (outset (begin c [] 0)) o =
    rw s.is (follows s.job (record { bytes = bytes; buffer = buffer; room = length log }) e fits s.tie s.place s.wire s.status (begin c [] 0) s.rel s.unread) in
    record { answer = (f.always []).answer; follows = f; unread = s.unread }
