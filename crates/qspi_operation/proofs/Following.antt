-- A step of an operation that follows a call over lists is a step of that call, its due access the call's, and its run the rest of the call. Assumes nothing.
use Rattle.std.proofs.Common.{◌≡◌, ℕ, zero, suc, ◌+◌, ◌*◌, ◌<◌, ◌≤◌, Bool, true, false, not, ◌&&◌, leb, List, [], ◌∷◌, ◌++◌, length, sym, refl, ap, ◌∙◌, subst, append_assoc, append-nil, arith, length-append, eq-eqb}
use lib.Seq.{sets}
use Rattle.zynq7000.specs.Access.{encode}
use Rattle.zynq7000.specs.declared.qspi.Access.{Access}
use Rattle.qspi_transfer.specs.Wire.{wire_next}
use Rattle.qspi_transfer.specs.declared.Due.{Due}
use Rattle.qspi_transfer.specs.declared.Due.TheVariants as due
use Rattle.qspi_transfer.specs.declared.Wire.{Wire}
use Rattle.qspi_script.specs.Stages.{frame_of}
use Rattle.qspi_script.specs.declared.Lent.{Lent}
use Rattle.qspi_script.specs.declared.Job.{Job}
use Rattle.qspi_script.specs.declared.Status.{Status}
use Rattle.qspi_script.specs.declared.Status.TheVariants.{LentLengthChanged}
use Rattle.qspi_script.specs.Answer.{Answered}
use Rattle.qspi_operation.specs.declared.Op.{Op}
use Rattle.std.specs.Prelude.{Option, Some, None, Ok}
use Rattle.qspi_operation.specs.declared.Stepped.{Stepped}
use Rattle.qspi_operation.specs.Step.{Verdict}
use Rattle.qspi_operation.specs.Step.{Ended, Changed, Full, Dry, Made}
use Rattle.qspi_operation.specs.Machine.{want, nothing, bytes_in, overlaid, reads_of, Result}
use Rattle.qspi_operation.specs.Step.{Asked, is_going, access_of, shown, answered, choose, same_lengths, verdict_of, act, moved_by, due_of, step_of, log_of, buffer_of, reply_of}
use Rattle.qspi_operation.specs.Run.{Run, here, run_at, run_of, fuel, Ran}
use Rattle.qspi_operation.specs.Pass.{left}
use Rattle.qspi_operation.specs.Points.{Lending, same_as, Point, wanted, step_at, access_at, logged_at, rest, end_of, ran_at, answer_at, changed_at}
use Rattle.qspi_operation.specs.Follows.{answer_with, answer_by, asked_for, lengths_of, Shows, Follows, Leaves, StepFollows, DueFollows, Runs, RunFollows}
use Rattle.qspi_operation.specs.Orders.{before}
use Rattle.qspi_operation.proofs.Rules as rules
use Rattle.qspi_operation.proofs.Verdicts.{no, Promised}
use Rattle.qspi_operation.proofs.Runs.{halted, kept, buffer_kept, left_le, again, less, run_ends, step_job}
use Rattle.qspi_operation.proofs.PointLaws.{made_more, logs_more, rest_if, rest_at, before_is, step_rest}

-- ---- the answer of a step is the status of the operation after it, but for 25

answer_moved : (m : Option Wire) (o : Op) (u i : ℕ) → (moved_by m o u i).answer ≡ (moved_by m o u i).op.status
answer_moved (Some w) o u i = refl
answer_moved None o u i = refl

answer_is : (v : Verdict) (o : Op) → (v ≡ Changed → ⊥) → (act v o).answer ≡ (act v o).op.status
answer_is Ended o h = refl
answer_is Changed o h = absurd (h refl)
answer_is Full o h = refl
answer_is Dry o h = refl
answer_is (Made first v read) o h = answer_moved (wire_next o.wire (frame_of o.job o.place) v) o _ _

-- whether a verdict is 25
abbrev is_changed : Verdict → Bool
is_changed Ended = false
is_changed Changed = true
is_changed Full = false
is_changed Dry = false
is_changed (Made first v read) = false

unchanged : {v : Verdict} → is_changed v ≡ false → v ≡ Changed → ⊥
unchanged h e = no (sym h ∙ ap is_changed e)

answered_is : (x : Due) (r : Option ℕ) → is_changed (answered x r) ≡ false
answered_is (due.Read o) (Some v) = refl
answered_is (due.Read o) None = refl
answered_is (due.Write o v) r = refl

chosen_is : (g f : Bool) (x : Due) (r : Option ℕ) → is_changed (choose g (choose true (choose f (answered x r) Full) Changed) Ended) ≡ false
chosen_is false f x r = refl
chosen_is true false x r = refl
chosen_is true true x r = answered_is x r

-- lent the lengths of its start, it answers what it is then
same_answer : (o : Op) (bytes : List ℕ) (n room : ℕ) (r : Option ℕ) → same_lengths o.job (length bytes) n room ≡ true → (step_of o bytes n room r).answer ≡ (step_of o bytes n room r).op.status
same_answer o bytes n room r same =
    let e : is_changed (verdict_of o bytes n room r) ≡ false = rw same (chosen_is (is_going o.status) (leb (o.used + 2) room) (access_of o.job o.place o.wire bytes) r) in
    answer_is (verdict_of o bytes n room r) o (unchanged e)

module _ (o : Op) (g : Lending) (lent : o.job.lent ≡ lengths_of g) where
  pub same_is : (n b l : ℕ) → same_lengths o.job n b l ≡ same_as g n b l
  same_is n b l = rw lent

  same_all : same_lengths o.job (length g.bytes) (length g.buffer) g.room ≡ true
  same_all = rw (lent, eq-eqb (length g.bytes) (length g.bytes) refl, eq-eqb (length g.buffer) (length g.buffer) refl, eq-eqb g.room g.room refl)

  answer_status : (r : Option ℕ) → (step_of o g.bytes (length g.buffer) g.room r).answer ≡ (step_of o g.bytes (length g.buffer) g.room r).op.status
  answer_status r = same_answer o g.bytes (length g.buffer) g.room r same_all

-- ---- an operation that follows

module _ (g : Lending) {p : Point} {o : Op} (f : Follows g p o) where
  -- what it shows now
  pub shows : Shows g p o
  shows = f.always []

  -- it follows on
  pub on : (r : Option ℕ) → Follows g (step_at g.room r p) (step_of o g.bytes (length g.buffer) g.room r).op
  on r = record { always = λ rs. f.always (r ∷ rs) }

  goes : is_going p.answer ≡ true → is_going o.status ≡ true
  goes e = ap is_going shows.status ∙ e

  pub ended : is_going p.answer ≡ false → is_going o.status ≡ false
  ended e = ap is_going shows.status ∙ e

  -- its answer, and that of 25
  answer_now : {s : Stepped} → s ≡ record { op = o; answer = o.status } → answer_by s ≡ answer_at p
  answer_now e = ap answer_by e ∙ shows.answer

  changed_now : {s : Stepped} → s ≡ record { op = o; answer = LentLengthChanged } → answer_by s ≡ changed_at p
  changed_now e =
      let u = ap (λ (a : Answered). a.used) shows.answer in
      let i = ap (λ (a : Answered). a.replies) shows.answer in
      let n = ap (λ (a : Answered). a.counted) shows.answer in
      ap answer_by e ∙ rw (u, i, n)

  -- and that of a step
  step_status : (r : Option ℕ) → (step_of o g.bytes (length g.buffer) g.room r).answer ≡ (step_at g.room r p).answer
  step_status r = answer_status o g shows.lent r ∙ (f.always (r ∷ [])).status

  step_answer : (r : Option ℕ) → answer_by (step_of o g.bytes (length g.buffer) g.room r) ≡ answer_at (step_at g.room r p)
  step_answer r = ap (answer_with (step_of o g.bytes (length g.buffer) g.room r).op) (answer_status o g shows.lent r) ∙ (f.always (r ∷ [])).answer

  -- something is due while it goes on
  unshown : (x : Due) → shown x ≡ Ok None → ⊥
  unshown (due.Read k) e = let z : ◌≡◌ {A = ℕ} 0 1 = cc in omega (arith, z)
  unshown (due.Write k v) e = let z : ◌≡◌ {A = ℕ} 0 1 = cc in omega (arith, z)

  pub some : is_going p.answer ≡ true → want p.state ≡ nothing → ⊥
  some e h =
      let d : length g.bytes ≡ o.job.lent.«data» = sym (ap (λ (l : Lent). l.«data») shows.lent) in
      let y : due_of o g.bytes ≡ shown (access_of o.job o.place o.wire g.bytes) = rw (goes e, eq-eqb (length g.bytes) o.job.lent.«data» d) in
      let z : asked_for (wanted p) ≡ Ok None = rw (e, h) in
      unshown (access_of o.job o.place o.wire g.bytes) (sym y ∙ shows.due ∙ z)

-- ---- a step

-- state and memory the same, out of what a step promises by counters
leaves : {o : Op} {a : Status} {buffer log : List ℕ} {s : Stepped} {buffer₁ log₁ : List ℕ} → s ≡ record { op = o; answer = a } → log₁ ≡ log → buffer₁ ≡ buffer → Leaves o buffer log s buffer₁ log₁
leaves e f h = record { op = ap (λ (x : Stepped). x.op) e; logged = f; stored = h }

module _ (o : Op) (bytes buffer log : List ℕ) (r : Option ℕ) where
  pub on_step : {s : Stepped} {log₁ buffer₁ : List ℕ} → Promised o bytes buffer log r s log₁ buffer₁ → StepFollows o bytes buffer log r s buffer₁ log₁
  on_step {s} {log₁} {buffer₁} h g p f =
      let z : Shows g p o = f.always [] in
      record {
        repeats = λ e.
            let q = rules.ended_repeats o bytes buffer log r (ended g f e) in
            (leaves (h.0 ∙ q.0) (h.1.0 ∙ q.1.0) (h.1.1 ∙ q.1.1), answer_now g f (h.0 ∙ q.0));
        changed = λ e n.
            let q = rules.changed o bytes buffer log r (goes g f e) (same_is o g z.lent _ _ _ ∙ n) in
            (leaves (h.0 ∙ q.0) (h.1.0 ∙ q.1.0) (h.1.1 ∙ q.1.1), changed_now g f (h.0 ∙ q.0));
        steps = λ d b l.
            let e : s ≡ step_of o g.bytes (length g.buffer) g.room r = rw (h.0, d, b, l) in
            let w : log₁ ≡ log_of o g.bytes (length g.buffer) log r = rw (h.1.0, d, b) in
            record { follows = rw e (on g f r); answer = ap answer_by e ∙ step_answer g f r; logged = w ∙ z.logged r log l };
        stored = λ d l b.
            let w : buffer₁ ≡ buffer_of o g.bytes (overlaid (bytes_in p.state) g.buffer) g.room r = rw (h.1.1, d, l, b) in
            w ∙ z.stored r;
      }

-- ---- a query

module _ (o : Op) (bytes : List ℕ) where
  pub on_due : {a : Asked} → a ≡ due_of o bytes → DueFollows o bytes a
  on_due h g p f =
      let z : Shows g p o = f.always [] in
      record {
        due = λ d. h ∙ ap (due_of o) d ∙ z.due;
        over = λ e. h ∙ rw (ended g f e);
        changed = λ e n. h ∙ rw (goes g f e, z.lent, n);
      }

-- ---- a run

module _ (g : Lending) (rs : List ℕ) where
  -- a run by counters from a point ends as the rest of the call does
  record Ends (p : Point) (buffer log : List ℕ) (e : Run) : Type 0 where
    pub follows : Follows g (end_of p (rest_at g.room rs p)) e.op
    pub answer : e.answer ≡ (rest_at g.room rs p).answer
    pub logged : e.log ≡ sets log (2 * length p.made) (encode (rest_at g.room rs p).log)
    pub stored : buffer ≡ overlaid (bytes_in p.state) g.buffer → e.buffer ≡ overlaid (bytes_in (rest_at g.room rs p).state) g.buffer

  -- an ended one stays
  stays : (p : Point) (o : Op) (buffer log : List ℕ) → is_going p.answer ≡ false → Follows g p o → Ends p buffer log (here p.answer o buffer log)
  unfolding encode
  stays p o buffer log e f =
      let y : rest_at g.room rs p ≡ rest_if false g.room rs p = ap (λ (z : Bool). rest_if z g.room rs p) e in
      let s : end_of p (rest_at g.room rs p) ≡ p = ap (end_of p) y ∙ ap (λ (z : List Access). record { state = p.state; made = z; answer = p.answer }) (append-nil p.made) in
      record {
        follows = rw s f;
        answer = ap (λ (z : Result). z.answer) (sym y);
        logged = ap (λ (z : Result). sets log (2 * length p.made) (encode z.log)) (sym y);
        stored = λ h. h ∙ ap (λ (z : Result). overlaid (bytes_in z.state) g.buffer) (sym y);
      }

  -- a step, and the rest from there
  joins : (p : Point) (r : Option ℕ) (buffer log buffer' log' : List ℕ) (e : Run) → rest_at g.room rs p ≡ before (access_at g.room r p) (rest_at g.room rs (step_at g.room r p)) → log' ≡ logged_at g.room r p log
      → (buffer ≡ overlaid (bytes_in p.state) g.buffer → buffer' ≡ overlaid (bytes_in (step_at g.room r p).state) g.buffer) → Ends (step_at g.room r p) buffer' log' e → Ends p buffer log e
  joins p r buffer log buffer' log' e h k b i =
      let q = step_at g.room r p in
      let l = access_at g.room r p in
      let m = made_more g.room r p in
      let x : Result = rest_at g.room rs q in
      let y : rest_at g.room rs p ≡ record { log = l ++ x.log; answer = x.answer; state = x.state; room = x.room; unread = x.unread } = h ∙ before_is l x in
      let n : length q.made ≡ length p.made + length l = ap length m ∙ length-append p.made l in
      let s : end_of q x ≡ end_of p (rest_at g.room rs p) =
      rw (m, append_assoc p.made l x.log) (sym (ap (end_of p) y)) in
      record {
        follows = rw (← s) i.follows;
        answer = i.answer ∙ sym (ap (λ (z : Result). z.answer) y);
        logged = i.logged ∙ ap (λ (z : List ℕ). sets z (2 * length q.made) (encode x.log)) k ∙ ap (λ (z : ℕ). sets (sets log (2 * length p.made) (encode l)) (2 * z) (encode x.log)) n
            ∙ logs_more l x.log log (length p.made) ∙ ap (λ (z : Result). sets log (2 * length p.made) (encode z.log)) (sym y);
        stored = λ w. i.stored (b w) ∙ ap (λ (z : Result). overlaid (bytes_in z.state) g.buffer) (sym y);
      }

  module _ (p : Point) (o : Op) (buffer log : List ℕ) (f : Follows g p o) (b : length buffer ≡ length g.buffer) (l : length log ≡ g.room) where
    abbrev r : Option ℕ
    r = reply_of rs (reads_of p.made)

    abbrev log' : List ℕ
    log' = log_of o g.bytes (length buffer) log (reply_of rs o.replies)

    abbrev buffer' : List ℕ
    buffer' = buffer_of o g.bytes buffer (length log) (reply_of rs o.replies)

    abbrev next : Op
    next = (step_of o g.bytes (length g.buffer) g.room r).op

    at : reply_of rs o.replies ≡ r
    at = ap (λ (a : Answered). reply_of rs a.replies) (shows g f).answer

    is : step_of o g.bytes (length buffer) (length log) (reply_of rs o.replies) ≡ step_of o g.bytes (length g.buffer) g.room r
    is = rw (b, l, at)

    -- the run goes on from the step
    from_next : (a : Status) → run_at (fuel o log) true a o g.bytes rs buffer log ≡ run_at (fuel next log') (is_going (step_at g.room r p).answer) (step_at g.room r p).answer next g.bytes rs buffer' log'
    from_next a =
        again o g.bytes rs buffer log a ∙ ap (λ (x : Stepped). run_at (fuel x.op log') (is_going x.answer) x.answer x.op g.bytes rs buffer' log') is
        ∙ ap (λ (x : Status). run_at (fuel next log') (is_going x) x next g.bytes rs buffer' log') (step_status g f r)

    nearer : left (is_going (step_at g.room r p).answer) (fuel next log') < fuel o log
    nearer = subst (λ (x : Status). left (is_going x) (fuel next log') < fuel o log) (step_status g f r) (subst (λ (x : Stepped). left (is_going x.answer) (fuel x.op log') < fuel o log) is (less o g.bytes rs buffer log))

    log_is : log' ≡ logged_at g.room r p log
    log_is = ap (λ (n : ℕ). log_of o g.bytes n log (reply_of rs o.replies)) b ∙ ap (log_of o g.bytes (length g.buffer) log) at ∙ (shows g f).logged r log l

    buffer_is : buffer ≡ overlaid (bytes_in p.state) g.buffer → buffer' ≡ overlaid (bytes_in (step_at g.room r p).state) g.buffer
    buffer_is w =
        ap (λ (n : ℕ). buffer_of o g.bytes buffer n (reply_of rs o.replies)) l ∙ ap (buffer_of o g.bytes buffer g.room) at
        ∙ ap (λ (z : List ℕ). buffer_of o g.bytes z g.room r) w ∙ (shows g f).stored r

    one_step : is_going p.answer ≡ true → Ends (step_at g.room r p) buffer' log' (run_at (fuel next log') (is_going (step_at g.room r p).answer) (step_at g.room r p).answer next g.bytes rs buffer' log')
        → Ends p buffer log (run_at (fuel o log) true p.answer o g.bytes rs buffer log)
    one_step e i =
        let y : rest_at g.room rs p ≡ before (access_at g.room r p) (rest_at g.room rs (step_at g.room r p)) = ap (λ (z : Bool). rest_if z g.room rs p) e ∙ step_rest g.room rs p (some g f e) e in
        subst (Ends p buffer log) (sym (from_next p.answer)) (joins p r buffer log buffer' log' _ y log_is buffer_is i)

    wide : length buffer' ≡ length g.buffer
    wide = buffer_kept o g.bytes buffer (length log) (reply_of rs o.replies) ∙ b

    long : length log' ≡ g.room
    long = kept o g.bytes (length buffer) log (reply_of rs o.replies) ∙ l

  abbrev EndsIn : ℕ → Type 0
  EndsIn n = (p : Point) (o : Op) (buffer log : List ℕ) (c : Bool) → is_going p.answer ≡ c → Follows g p o → length buffer ≡ length g.buffer → length log ≡ g.room → left c (fuel o log) ≤ n
      → Ends p buffer log (run_at (fuel o log) c p.answer o g.bytes rs buffer log)

  over_in : (p : Point) (o : Op) (buffer log : List ℕ) → is_going p.answer ≡ false → Follows g p o → Ends p buffer log (run_at (fuel o log) false p.answer o g.bytes rs buffer log)
  over_in p o buffer log e f = subst (Ends p buffer log) (sym (halted (fuel o log) false p.answer o g.bytes rs buffer log refl)) (stays p o buffer log e f)

  ends_now : EndsIn 0
  ends_now p o buffer log false e f b l m = over_in p o buffer log e f
  ends_now p o buffer log true e f b l m = absurd (omega (arith, m))

  ends_then : (n : ℕ) → EndsIn n → EndsIn (suc n)
  ends_then n h p o buffer log false e f b l m = over_in p o buffer log e f
  ends_then n h p o buffer log true e f b l m =
      one_step p o buffer log f b l e
      (h (step_at g.room (r p o buffer log f b l) p) (next p o buffer log f b l) (buffer' p o buffer log f b l) (log' p o buffer log f b l) (is_going (step_at g.room (r p o buffer log f b l) p).answer) refl (on g f (r p o buffer log f b l)) (wide p o buffer log f b l) (long p o buffer log f b l)
      (omega (arith, left_le (is_going (step_at g.room (r p o buffer log f b l) p).answer) (fuel (next p o buffer log f b l) (log' p o buffer log f b l)), nearer p o buffer log f b l, m)))

  ends_at : (n : ℕ) → EndsIn n
  ends_at zero = ends_now
  ends_at (suc n) = ends_then n (ends_at n)

-- a run that is lent the lengths of the start answers what the operation is at its end
same_run : (n : ℕ) (b : Bool) (a : Status) (o : Op) (bytes rs buffer log : List ℕ) → a ≡ o.status → same_lengths o.job (length bytes) (length buffer) (length log) ≡ true
    → (run_at n b a o bytes rs buffer log).answer ≡ (run_at n b a o bytes rs buffer log).op.status
unfolding run_at
same_run zero b a o bytes rs buffer log e same = e
same_run (suc n) false a o bytes rs buffer log e same = e
same_run (suc n) true a o bytes rs buffer log e same =
    let r = reply_of rs o.replies in
    let k : same_lengths (step_of o bytes (length buffer) (length log) r).op.job (length bytes) (length (buffer_of o bytes buffer (length log) r)) (length (log_of o bytes (length buffer) log r)) ≡ true =
    ap (λ (j : Job). same_lengths j (length bytes) (length (buffer_of o bytes buffer (length log) r)) (length (log_of o bytes (length buffer) log r))) (step_job o bytes (length buffer) (length log) r)
    ∙ ap (λ (m : ℕ). same_lengths o.job (length bytes) m (length (log_of o bytes (length buffer) log r))) (buffer_kept o bytes buffer (length log) r)
    ∙ ap (same_lengths o.job (length bytes) (length buffer)) (kept o bytes (length buffer) log r) ∙ same in
    same_run n _ _ _ bytes rs _ _ (same_answer o bytes (length buffer) (length log) r same) k

module _ (o : Op) (bytes buffer log rs : List ℕ) where
  -- an ended operation, and one that is lent another length
  over_run : is_going o.status ≡ false → run_of o bytes rs buffer log ≡ here o.status o buffer log
  over_run e = halted (fuel o log) (is_going o.status) o.status o bytes rs buffer log e

  changed_run : is_going o.status ≡ true → same_lengths o.job (length bytes) (length buffer) (length log) ≡ false → run_of o bytes rs buffer log ≡ here LentLengthChanged o buffer log
  changed_run e n =
      let r = reply_of rs o.replies in
      let q = rules.changed o bytes buffer log r e n in
      let log' = log_of o bytes (length buffer) log r in
      let buffer' = buffer_of o bytes buffer (length log) r in
      ap (λ (b : Bool). run_at (fuel o log) b o.status o bytes rs buffer log) e ∙ again o bytes rs buffer log o.status
      ∙ ap (λ (x : Stepped). run_at (fuel x.op log') (is_going x.answer) x.answer x.op bytes rs buffer' log') q.0 ∙ halted (fuel o log') false LentLengthChanged o bytes rs buffer' log' refl
      ∙ ap (λ (z : List ℕ). here LentLengthChanged o z log') q.1.1 ∙ ap (here LentLengthChanged o buffer) q.1.0

  -- whether a step is due after it
  still_due : is_going (run_of o bytes rs buffer log).op.status ≡ (is_going o.status && not (same_lengths o.job (length bytes) (length buffer) (length log)))
  still_due = go (is_going o.status) refl (same_lengths o.job (length bytes) (length buffer) (length log)) refl
    where
      go : (b : Bool) → is_going o.status ≡ b → (c : Bool) → same_lengths o.job (length bytes) (length buffer) (length log) ≡ c → is_going (run_of o bytes rs buffer log).op.status ≡ (b && not c)
      go false e c f = ap (λ (x : Run). is_going x.op.status) (over_run e) ∙ e
      go true e false f = ap (λ (x : Run). is_going x.op.status) (changed_run e f) ∙ e
      go true e true f = ap is_going (sym (same_run (fuel o log) (is_going o.status) o.status o bytes rs buffer log refl f)) ∙ run_ends o bytes rs buffer log

  module _ {s : Stepped} {buffer₁ log₁ : List ℕ} (h : Ran s buffer₁ log₁ (run_of o bytes rs buffer log)) where
    -- a run that makes no access
    at_once : (a : Status) → run_of o bytes rs buffer log ≡ here a o buffer log → (s ≡ record { op = o; answer = a }) × Leaves o buffer log s buffer₁ log₁
    at_once a e =
        let y : s ≡ record { op = o; answer = a } =
        ap (λ (z : Op). record { op = z; answer = s.answer }) (h.op ∙ ap (λ (x : Run). x.op) e) ∙ ap (λ (z : Status). record { op = o; answer = z }) (h.answer ∙ ap (λ (x : Run). x.answer) e) in
        (y, leaves y (h.logged ∙ ap (λ (x : Run). x.log) e) (h.stored ∙ ap (λ (x : Run). x.buffer) e))

    -- a run that is lent what the call was lent at its start
    module _ (g : Lending) (p : Point) (f : Follows g p o) (e : is_going p.answer ≡ true) (d : bytes ≡ g.bytes) (b : length buffer ≡ length g.buffer) (l : length log ≡ g.room) where
      ran : Ends g rs p buffer log (run_of o bytes rs buffer log)
      ran = rw d (subst (λ (a : Status). Ends g rs p buffer log (run_at (fuel o log) (is_going a) a o g.bytes rs buffer log)) (sym (shows g f).status) (ends_at g rs (fuel o log) p o buffer log (is_going p.answer) refl f b l (left_le (is_going p.answer) (fuel o log))))

      is_rest : rest_at g.room rs p ≡ rest g.room rs p
      is_rest = ap (λ (z : Bool). rest_if z g.room rs p) e

      follows_on : Follows g (ran_at g.room rs p) s.op
      follows_on = rw (h.op, ← is_rest) ran.follows

      runs : Runs g p log rs s log₁
      runs =
          let y : s.answer ≡ (ran_at g.room rs p).answer = h.answer ∙ ran.answer ∙ ap (λ (x : Result). x.answer) is_rest in
          record {
            follows = follows_on;
            answer = ap (answer_with s.op) (y ∙ sym (shows g follows_on).status) ∙ (shows g follows_on).answer;
            logged = h.logged ∙ ran.logged ∙ ap (λ (x : Result). sets log (2 * length p.made) (encode x.log)) is_rest;
          }

      stored : buffer ≡ overlaid (bytes_in p.state) g.buffer → buffer₁ ≡ overlaid (bytes_in (ran_at g.room rs p).state) g.buffer
      stored w = h.stored ∙ ran.stored w ∙ ap (λ (x : Result). overlaid (bytes_in x.state) g.buffer) is_rest

    pub on_run : RunFollows o bytes buffer log rs s buffer₁ log₁
    on_run g p f =
        let z : Shows g p o = f.always [] in
        record {
          repeats = λ e.
              let q = at_once o.status (over_run (ended g f e)) in
              (q.1, answer_now g f q.0);
          changed = λ e n.
              let q = at_once LentLengthChanged (changed_run (goes g f e) (same_is o g z.lent _ _ _ ∙ n)) in
              (q.1, changed_now g f q.0);
          runs = λ e d b l. runs g p f e d b l;
          stored = λ e d l w. stored g p f e d (ap length w ∙ z.wide) l w;
          ends = ap is_going h.answer ∙ run_ends o bytes rs buffer log;
          due = ap (λ (x : Op). is_going x.status) h.op ∙ still_due ∙ ap (λ (a : Status). is_going a && not (same_lengths o.job (length bytes) (length buffer) (length log))) z.status ∙ ap (λ (b : Bool). is_going p.answer && not b) (same_is o g z.lent (length bytes) (length buffer) (length log));
        }

  -- what `run` promises
  pub with_run : {s : Stepped} {buffer₁ log₁ : List ℕ} → Ran s buffer₁ log₁ (run_of o bytes rs buffer log) → Ran s buffer₁ log₁ (run_of o bytes rs buffer log) × RunFollows o bytes buffer log rs s buffer₁ log₁
  with_run h = (h, on_run h)
