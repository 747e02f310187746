-- What the definitions of the driver amount to. Assumes nothing.
use Rattle.std.specs.Prelude.{Option, Ok, Err}
use mathlib.Core.Path.{◌≡◌, refl, sym, ap, subst, ◌∙◌}
use mathlib.Core.Bool.{Bool, true, false, not, ◌&&◌, ◌||◌}
use mathlib.Core.List.{List, []}
use native.Mathlib.Omega.{arith}
use lib.Dec.{leb, eqb}
use borrow.Author.Tests.{ne_eqb}
use Prim.Native.Nat.{ℕ, ◌+◌, ◌/◌, ◌<◌}
use lib.ListN.{length}
use Rattle.qspi_operation.specs.declared.Op.{Op}
use Rattle.qspi_operation.specs.Step.{Ended, Changed, Full}
use Rattle.qspi_operation.specs.Step.{is_going, step_of, act, choose, going, answered, access_of}
use Rattle.qspi_script.specs.declared.Status.TheVariants.{LentLengthChanged}
use Rattle.qspi_operation.specs.Run.{run_of}
use Rattle.qspi_operation.specs.Run as by-counters
use Rattle.qspi_operation.specs.Points.{Lending, same_as, Point}
use Rattle.qspi_operation.specs.Follows.{Follows, Begun, RunFollows}
use Rattle.qspi_operation.proofs.Runs.{run_ends}
use Rattle.qspi_operation.proofs.Following.{on_run}
use Rattle.qspi_script.specs.declared.Stage.TheVariants.{Enable}
use Rattle.qspi_script.specs.declared.Gives.TheVariants.{Nothing}
use Rattle.qspi_script.specs.Answer.{Answered}
use Rattle.qspi_script.proofs.AnswerLaws.{said_fixes}
use Rattle.qspi_operation.specs.Machine.{Script, called}
use Rattle.qspi_calls.specs.Starts.{one_transfer, write_pages_of}
use Rattle.qspi_calls.proofs.Promised.{whole_call}
use Rattle.qspi_calls.specs.Promise.{logged_of, buffered_of}
use Rattle.qspi_operation.specs.Step.{erases_list}
use Rattle.zedboard_bsp.specs.Limits.{longest_list}
use Rattle.qspi_calls.specs.Sectors.{numbers_in}
use Rattle.qspi_driver.specs.State.{list_op, keeps, lent_to, begun_if, begun_of, begun_list_if, begun_list_of, holds, is_under_way}
use Rattle.qspi_driver.proofs.SectorLists.{lent_other, lent_none, lent_kept, save_erases_none}
use Rattle.qspi_driver.specs.Driver.{Driver, Drive, idle, refused, reached, driven_if, driven_of}
use Rattle.qspi_driver.specs.declared.state.State.{State}
use Rattle.qspi_driver.specs.declared.state.SectorList.{SectorList}
use Rattle.qspi_driver.specs.declared.state.StartRefused.TheVariants.{Busy, ListMissing}

-- a driver with nothing at hand takes any call
pub idle_rests : is_going idle.state.op.status ≡ false
idle_rests = refl

-- a driver with a write enable at hand does not
pub busy_is : is_going (holds (one_transfer Enable Nothing 24)).op.status ≡ true
busy_is = refl

-- THEOREM. A call that is begun while another has not ended changes nothing and answers `Busy`.
pub busy_keeps : (s : State) (o : Op) → is_going s.op.status ≡ true → begun_of s o ≡ record { state = s; answer = Err Busy }
busy_keeps s o g = ap (λ (b : Bool). begun_if b (erases_list o) s o) g

-- THEOREM. A list of sectors that is begun without its list changes nothing and answers `ListMissing`.
pub missing_keeps : (s : State) (o : Op) → is_going s.op.status ≡ false → erases_list o ≡ true → begun_of s o ≡ record { state = s; answer = Err ListMissing }
missing_keeps s o g k = ap (λ (b : Bool). begun_if b (erases_list o) s o) g ∙ ap (λ (b : Bool). begun_if false b s o) k

-- any other call is at hand from then on, with its own answer
pub rest_takes : (s : State) (o : Op) → is_going s.op.status ≡ false → erases_list o ≡ false → begun_of s o ≡ record { state = holds o; answer = Ok o.status }
rest_takes s o g k = ap (λ (b : Bool). begun_if b (erases_list o) s o) g ∙ ap (λ (b : Bool). begun_if false b s o) k

-- ---- a list of sectors

-- THEOREM. A list that is begun while a call has not ended changes nothing, the kept list neither.
pub busy_keeps_list : (s : State) (kept : SectorList) (list : List ℕ) (log : ℕ) → is_going s.op.status ≡ true → begun_list_of s kept list log ≡ record { state = s; list = kept; answer = Err Busy }
busy_keeps_list s kept list log g = ap (λ (b : Bool). begun_list_if b s kept (list_op list log) list) g

-- any other begins, and its numbers are kept
pub rest_takes_list : (s : State) (kept : SectorList) (list : List ℕ) (log : ℕ) → is_going s.op.status ≡ false → begun_list_of s kept list log ≡ record { state = holds (list_op list log); list = keeps (numbers_in longest_list list); answer = Ok (list_op list log).status }
rest_takes_list s kept list log g = ap (λ (b : Bool). begun_list_if b s kept (list_op list log) list) g

-- THEOREM. A step of a list is lent the kept numbers, so many as the list had at its start, and nothing else: data that is lent beside them is another length, and the answer is 25.
pub data_beside_list : (o : Op) (list bytes : List ℕ) (buffer room : ℕ) (r : Option ℕ) → is_going o.status ≡ true → erases_list o ≡ true → 0 < length bytes → 0 < o.job.lent.«data» → step_of o (lent_to o list bytes) buffer room r ≡ record { op = o; answer = LentLengthChanged }
data_beside_list o list bytes buffer room r g k h n =
    ap (λ (l : List ℕ). step_of o l buffer room r) (lent_none o list bytes k h)
    ∙ (ap (λ (b : Bool). act (choose b (going o [] buffer room r) Ended) o) g ∙ ap (λ (b : Bool). act (choose (b && (eqb buffer o.job.lent.buffer && eqb room o.job.lent.log)) (choose (leb (o.used + 2) room) (answered (access_of o.job o.place o.wire []) r) Full) Changed) o) (ne_eqb 0 o.job.lent.«data» (λ e. omega (arith, e))))

-- THEOREM. A save is lent the caller's data, at its start and after each step.
pub save_is_lent : (a n log : ℕ) (list bytes : List ℕ) → lent_to (write_pages_of a n log) list bytes ≡ bytes
save_is_lent a n log list bytes = lent_other (write_pages_of a n log) list bytes (save_erases_none a n log)

pub step_is_lent : (o : Op) (lent : List ℕ) (buffer room : ℕ) (r : Option ℕ) (list bytes : List ℕ) → lent_to o list bytes ≡ bytes → lent_to (step_of o lent buffer room r).op list bytes ≡ bytes
step_is_lent o lent buffer room r list bytes e = lent_kept o lent buffer room r list bytes ∙ e

-- ---- a whole call

module _ (d : Driver) (o : Op) (bytes replies buffer log : List ℕ) where
  decided : {b m : Bool} → is_going d.state.op.status ≡ b → erases_list o ≡ m → driven_of d o bytes replies buffer log ≡ driven_if b m d (run_of o bytes replies buffer log) buffer log
  decided {b} g k = ap (λ (y : Bool). driven_if y (erases_list o) d (run_of o bytes replies buffer log) buffer log) g ∙ ap (λ (y : Bool). driven_if b y d (run_of o bytes replies buffer log) buffer log) k

  -- THEOREM. A whole call through a driver at rest is the run of that call: driver, answer, buffer and log.
  pub rest_runs : is_going d.state.op.status ≡ false → erases_list o ≡ false → driven_of d o bytes replies buffer log ≡ reached d.list (run_of o bytes replies buffer log)
  rest_runs g k = decided g k

  -- THEOREM. And so it is what the call does over lists: of an operation that begins a script, with the memory of its start, the script's run gives answer, log and buffer.
  pub rest_calls : (c : Script) (g : Lending) → Begun g c o → bytes ≡ g.bytes → buffer ≡ g.buffer → length log ≡ g.room → is_going d.state.op.status ≡ false → erases_list o ≡ false
      → ((driven_of d o bytes replies buffer log).answer ≡ Ok (called c (length log / 2) replies).answer) × (((driven_of d o bytes replies buffer log).log ≡ logged_of (called c (length log / 2) replies) log) × ((driven_of d o bytes replies buffer log).buffer ≡ buffered_of (called c (length log / 2) replies) buffer))
  rest_calls c g s d₀ b l e k =
      let x = run_of o bytes replies buffer log in
      let h : by-counters.Ran (record { op = x.op; answer = x.answer }) x.buffer x.log x = record { op = refl; answer = refl; stored = refl; logged = refl } in
      let f : RunFollows o g.bytes buffer log replies (record { op = x.op; answer = x.answer }) x.buffer x.log = subst (λ (z : List ℕ). RunFollows o z buffer log replies (record { op = x.op; answer = x.answer }) x.buffer x.log) d₀ (on_run o bytes buffer log replies h) in
      let w = whole_call c g s f b l in
      let r = rest_runs e k in
      (ap (λ (x : Drive). x.answer) r ∙ ap Ok (said_fixes _ _ _ _ (ap (λ (y : Answered). y.says) w.answer)), (ap (λ (x : Drive). x.log) r ∙ w.logged, ap (λ (x : Drive). x.buffer) r ∙ w.stored))

  -- through a driver with a call under way it is nothing at all, nor is a list without its list
  pub busy_runs_not : is_going d.state.op.status ≡ true → driven_of d o bytes replies buffer log ≡ refused d (Err Busy) buffer log
  busy_runs_not g = decided g refl

  pub missing_runs_not : is_going d.state.op.status ≡ false → erases_list o ≡ true → driven_of d o bytes replies buffer log ≡ refused d (Err ListMissing) buffer log
  missing_runs_not g k = decided g k

  -- THEOREM. A whole call comes to its end: it never answers that it goes on.
  pub drive_ends : is_under_way (driven_of d o bytes replies buffer log).answer ≡ false
  drive_ends = by-test (is_going d.state.op.status) (erases_list o)
    where
      by-test : (b m : Bool) → is_under_way (driven_if b m d (run_of o bytes replies buffer log) buffer log).answer ≡ false
      by-test true m = refl
      by-test false true = refl
      by-test false false = run_ends o bytes replies buffer log

  -- THEOREM. After it a step is due precisely where one was due of the call at hand before, which then was not touched, or where the call begun goes on and was lent another length: 25, and
  -- the right lengths go on with it (`any_order` in qspi_operation/proofs/Orders).
  pub due_after : (g : Lending) (p : Point) → Follows g p o → erases_list o ≡ false → is_going (driven_of d o bytes replies buffer log).driver.state.op.status
      ≡ (is_going d.state.op.status || (is_going p.answer && not (same_as g (length bytes) (length buffer) (length log))))
  due_after g p f k = by-test (is_going d.state.op.status) refl
    where
      by-test : (b : Bool) → is_going d.state.op.status ≡ b → is_going (driven_of d o bytes replies buffer log).driver.state.op.status ≡ (is_going d.state.op.status || (is_going p.answer && not (same_as g (length bytes) (length buffer) (length log))))
      by-test true e = ap (λ (x : Drive). is_going x.driver.state.op.status) (busy_runs_not e) ∙ (e ∙ ap (λ (b : Bool). b || (is_going p.answer && not (same_as g (length bytes) (length buffer) (length log)))) (sym e))
      by-test false e =
          ap (λ (x : Drive). is_going x.driver.state.op.status) (rest_runs e k)
          ∙ ((on_run o bytes buffer log replies {s = record { op = (run_of o bytes replies buffer log).op; answer = (run_of o bytes replies buffer log).answer }} (record { op = refl; answer = refl; stored = refl; logged = refl }) g p f).due
          ∙ ap (λ (b : Bool). b || (is_going p.answer && not (same_as g (length bytes) (length buffer) (length log)))) (sym e))
