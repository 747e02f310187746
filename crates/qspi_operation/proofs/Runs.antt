-- A run, step by step: an ended run stays, a step that makes no access ends it, one that makes an access leaves one step fewer; so
-- a run always ends. Assumes nothing.
use Rattle.std.proofs.Common.{◌≡◌, ℕ, zero, suc, ◌+◌, ◌-◌, ◌/◌, ◌%◌, ◌<◌, ◌≤◌, Bool, true, false, ltb, leb, List, length, sym, refl, ap, ◌∙◌, arith, length-set}
use Rattle.qspi_script.specs.Stages.{frame_of}
use Rattle.qspi_script.specs.declared.Status.{Status}
use Rattle.qspi_script.specs.declared.Job.{Job}
use Rattle.qspi_script.specs.declared.Place.{Place}
use Rattle.qspi_transfer.specs.Wire.{wire_next}
use Rattle.qspi_transfer.specs.declared.Wire.{Wire}
use Rattle.std.specs.Prelude.{Some, None}
use Rattle.qspi_operation.specs.declared.Op.{Op}
use Rattle.std.specs.Prelude.{Option}
use Rattle.qspi_operation.specs.declared.Stepped.{Stepped}
use Rattle.qspi_operation.specs.Step.{Verdict}
use Rattle.qspi_operation.specs.Step.{Ended, Changed, Full, Dry, Made}
use Rattle.qspi_operation.specs.Store.{when, store_byte, store_reply, stored, is_taking, is_reading, skipped}
use Rattle.qspi_operation.specs.Step.{is_going, verdict_of, act, moved, moved_by, counted, noted, taken, reply_of, step_of, log_of, buffer_of}
use Rattle.qspi_operation.specs.Run.{here, run_at, run_of, fuel}
use Rattle.qspi_operation.specs.Pass.{left}
use Rattle.qspi_operation.proofs.Verdicts.{no, makes, room, ends}

pub halted : (n : ℕ) (b : Bool) (a : Status) (o : Op) (bytes rs buffer log : List ℕ) → b ≡ false → run_at n b a o bytes rs buffer log ≡ here a o buffer log
unfolding run_at
halted zero b a o bytes rs buffer log h = refl
halted (suc n) true a o bytes rs buffer log h = no (sym h)
halted (suc n) false a o bytes rs buffer log h = refl

pub left_le : (b : Bool) (n : ℕ) → left b n ≤ n
left_le true n = omega arith
left_le false n = omega arith

left_none : (b : Bool) (n : ℕ) → b ≡ false → left b n ≡ 0
left_none true n h = no (sym h)
left_none false n h = refl

-- ---- memory keeps its length

pub kept_by : (v : Verdict) (at : ℕ) (log : List ℕ) → length (noted v at log) ≡ length log
kept_by Ended at log = refl
kept_by Changed at log = refl
kept_by Full at log = refl
kept_by Dry at log = refl
kept_by (Made first v read) at log = simp length-set

pub kept : (o : Op) (bytes : List ℕ) (n : ℕ) (log : List ℕ) (r : Option ℕ) → length (log_of o bytes n log r) ≡ length log
kept o bytes n log r = kept_by (verdict_of o bytes n (length log) r) o.used log

when_kept : (b : Bool) (x y : List ℕ) {n : ℕ} → length x ≡ n → length y ≡ n → length (when b x y) ≡ n
when_kept true x y e f = e
when_kept false x y e f = f

byte_kept : (buffer : List ℕ) (p : Place) (d i b : ℕ) → length (store_byte buffer p d i b) ≡ length buffer
byte_kept buffer p d i b =
    when_kept (leb d i) _ buffer (when_kept (ltb (i - d) p.chunk) _ buffer (simp length-set) refl) refl

reply_kept : (buffer : List ℕ) (p : Place) (d i w : ℕ) → length (store_reply buffer p d i w) ≡ length buffer
reply_kept buffer p d i w =
    let b₁ = store_byte buffer p d i (w % 256) in
    let b₂ = store_byte b₁ p d (i + 1) (w / 256 % 256) in
    let b₃ = store_byte b₂ p d (i + 2) (w / 65536 % 256) in
    byte_kept b₃ p d (i + 3) (w / 16777216 % 256) ∙ byte_kept b₂ p d (i + 2) (w / 65536 % 256) ∙ byte_kept b₁ p d (i + 1) (w / 256 % 256) ∙ byte_kept buffer p d i (w % 256)

pub stored_kept : (job : Job) (p : Place) (w : Wire) (v : ℕ) (buffer : List ℕ) → length (stored job p w v buffer) ≡ length buffer
stored_kept job p w v buffer =
    when_kept (is_taking w.phase) _ buffer
    (when_kept (is_reading p.stage) _ buffer (when_kept (leb 4 w.read_index) _ buffer (reply_kept buffer p (skipped job.reading.dummy) (w.read_index - 4) v) refl) refl)
    refl

taken_kept : (v : Verdict) (o : Op) (buffer : List ℕ) → length (taken v o buffer) ≡ length buffer
taken_kept Ended o buffer = refl
taken_kept Changed o buffer = refl
taken_kept Full o buffer = refl
taken_kept Dry o buffer = refl
taken_kept (Made first v read) o buffer = stored_kept o.job o.place o.wire v buffer

pub buffer_kept : (o : Op) (bytes buffer : List ℕ) (n : ℕ) (r : Option ℕ) → length (buffer_of o bytes buffer n r) ≡ length buffer
buffer_kept o bytes buffer n r = taken_kept (verdict_of o bytes (length buffer) n r) o buffer

-- ---- one step fewer

used_by : (o : Op) (u i v : ℕ) → (moved o u i v).op.used ≡ u
used_by o u i v = go (wire_next o.wire (frame_of o.job o.place) v)
  where
    go : (m : Option Wire) → (moved_by m o u i).op.used ≡ u
    go (Some w) = refl
    go None = refl

fewer : (v : Verdict) (o : Op) (log : List ℕ) → makes v ≡ true → o.used + 2 ≤ length log → (length log - o.used) / 2 ≡ fuel (act v o).op (noted v o.used log)
fewer Ended o log h p = no h
fewer Changed o log h p = no h
fewer Full o log h p = no h
fewer Dry o log h p = no h
fewer (Made first v read) o log h p =
    let e = used_by o (o.used + 2) (counted read o.replies) v in
    simp (length-set, e) (omega arith)

module _ (o : Op) (bytes rs buffer log : List ℕ) where
  abbrev r : Option ℕ
  r = reply_of rs o.replies

  abbrev o' : Op
  o' = (step_of o bytes (length buffer) (length log) r).op

  abbrev a' : Status
  a' = (step_of o bytes (length buffer) (length log) r).answer

  abbrev buffer' : List ℕ
  buffer' = buffer_of o bytes buffer (length log) r

  abbrev log' : List ℕ
  log' = log_of o bytes (length buffer) log r

  both : (b : Bool) → makes (verdict_of o bytes (length buffer) (length log) r) ≡ b
      → (run_at ((length log - o.used) / 2) (is_going a') a' o' bytes rs buffer' log' ≡ run_at (fuel o' log') (is_going a') a' o' bytes rs buffer' log') × (left (is_going a') (fuel o' log') < fuel o log)
  both true h =
      let p : o.used + 2 ≤ length log = room o bytes (length buffer) (length log) r h in
      let e : (length log - o.used) / 2 ≡ fuel o' log' = fewer (verdict_of o bytes (length buffer) (length log) r) o log h p in
      (ap (λ (n : ℕ). run_at n (is_going a') a' o' bytes rs buffer' log') e, omega (arith, left_le (is_going a') (fuel o' log')))
  both false h =
      let g : is_going a' ≡ false = ends o bytes (length buffer) (length log) r h in (
        halted ((length log - o.used) / 2) (is_going a') a' o' bytes rs buffer' log' g ∙ sym (halted (fuel o' log') (is_going a') a' o' bytes rs buffer' log' g),
        omega (arith, left_none (is_going a') (fuel o' log') g),
      )

  pub again : (a : Status) → run_at (fuel o log) true a o bytes rs buffer log ≡ run_at (fuel o' log') (is_going a') a' o' bytes rs buffer' log'
  unfolding run_at
  again a = (both (makes (verdict_of o bytes (length buffer) (length log) r)) refl).0

  pub less : left (is_going a') (fuel o' log') < fuel o log
  less = (both (makes (verdict_of o bytes (length buffer) (length log) r)) refl).1

-- a turn of the loop: the run is the same, fewer steps are left, and the memory is as long
pub record Turn (b : Bool) (a : Status) (o : Op) (bytes rs buffer log : List ℕ) (s : Stepped) (buffer₂ log₂ : List ℕ) : Type 0 where
  pub same : run_at (fuel o log) b a o bytes rs buffer log ≡ run_at (fuel s.op log₂) (is_going s.answer) s.answer s.op bytes rs buffer₂ log₂
  pub fewer : left (is_going s.answer) (fuel s.op log₂) < left b (fuel o log)
  pub long : length log₂ ≡ length log
  pub wide : length buffer₂ ≡ length buffer

pub turn : (b : Bool) (a : Status) (o : Op) (bytes rs buffer log : List ℕ) (s : Stepped) (buffer₂ log₂ : List ℕ) → b ≡ true
    → s ≡ step_of o bytes (length buffer) (length log) (reply_of rs o.replies) → log₂ ≡ log_of o bytes (length buffer) log (reply_of rs o.replies)
    → buffer₂ ≡ buffer_of o bytes buffer (length log) (reply_of rs o.replies) → Turn b a o bytes rs buffer log s buffer₂ log₂
turn b a o bytes rs buffer log s buffer₂ log₂ g e₁ e₂ e₃ =
    rw (e₁, e₂, e₃, g)
    (record { same = again o bytes rs buffer log a; fewer = less o bytes rs buffer log; long = kept o bytes (length buffer) log (reply_of rs o.replies); wide = buffer_kept o bytes buffer (length log) (reply_of rs o.replies) })

-- enough steps end a run, and a run has enough
ends_in : (n : ℕ) (a : Status) (o : Op) (bytes rs buffer log : List ℕ) (b : Bool) → is_going a ≡ b → left b (fuel o log) ≤ n → is_going (run_at n b a o bytes rs buffer log).answer ≡ false
unfolding run_at
ends_in zero a o bytes rs buffer log true e p = absurd (omega arith)
ends_in zero a o bytes rs buffer log false e p = e
ends_in (suc n) a o bytes rs buffer log true e p =
    ends_in n (a' o bytes rs buffer log) (o' o bytes rs buffer log) bytes rs (buffer' o bytes rs buffer log) (log' o bytes rs buffer log) (is_going (a' o bytes rs buffer log)) refl (omega (arith, less o bytes rs buffer log))
ends_in (suc n) a o bytes rs buffer log false e p = e

pub run_ends : (o : Op) (bytes rs buffer log : List ℕ) → is_going (run_of o bytes rs buffer log).answer ≡ false
run_ends o bytes rs buffer log = ends_in (fuel o log) o.status o bytes rs buffer log (is_going o.status) refl (left_le (is_going o.status) (fuel o log))

-- ---- what a run keeps: the call as it was asked for, and the length of the buffer

job_by : (v : Verdict) (o : Op) → (act v o).op.job ≡ o.job
job_by Ended o = refl
job_by Changed o = refl
job_by Full o = refl
job_by Dry o = refl
job_by (Made first v read) o = go (wire_next o.wire (frame_of o.job o.place) v)
  where
    go : (m : Option Wire) → (moved_by m o (o.used + 2) (counted read o.replies)).op.job ≡ o.job
    go (Some w) = refl
    go None = refl

-- THEOREM. Steps do not change what the call was asked for.
pub step_job : (o : Op) (bytes : List ℕ) (n room : ℕ) (r : Option ℕ) → (step_of o bytes n room r).op.job ≡ o.job
step_job o bytes n room r = job_by (verdict_of o bytes n room r) o

keeps_at : (n : ℕ) (b : Bool) (a : Status) (o : Op) (bytes rs buffer log : List ℕ) → ((run_at n b a o bytes rs buffer log).op.job ≡ o.job) × (length (run_at n b a o bytes rs buffer log).buffer ≡ length buffer)
unfolding run_at
keeps_at zero b a o bytes rs buffer log = (refl, refl)
keeps_at (suc n) false a o bytes rs buffer log = (refl, refl)
keeps_at (suc n) true a o bytes rs buffer log =
    let k = keeps_at n (is_going (a' o bytes rs buffer log)) (a' o bytes rs buffer log) (o' o bytes rs buffer log) bytes rs (buffer' o bytes rs buffer log) (log' o bytes rs buffer log) in
    (k.0 ∙ step_job o bytes (length buffer) (length log) (r o bytes rs buffer log), k.1 ∙ buffer_kept o bytes buffer (length log) (r o bytes rs buffer log))

pub run_job : (o : Op) (bytes rs buffer log : List ℕ) → (run_of o bytes rs buffer log).op.job ≡ o.job
run_job o bytes rs buffer log = (keeps_at (fuel o log) (is_going o.status) o.status o bytes rs buffer log).0

pub run_wide : (o : Op) (bytes rs buffer log : List ℕ) → length (run_of o bytes rs buffer log).buffer ≡ length buffer
run_wide o bytes rs buffer log = (keeps_at (fuel o log) (is_going o.status) o.status o bytes rs buffer log).1
