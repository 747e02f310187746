-- A list of sectors through the driver: whole, it is the run of its script; stepped, it follows the list as lent at the start, whatever its caller does with it then. Assumes nothing.
use Rattle.std.specs.Prelude.{Option}
use Prim.Native.Nat.{ℕ, ◌^◌, ◌<◌, min}
use mathlib.Core.Path.{◌≡◌, refl, sym, ap, subst, ◌∙◌}
use mathlib.Core.Bool.{Bool, true, false}
use mathlib.Core.List.{List, []}
use native.Mathlib.Omega.{arith}
use lib.Dec.{ltb}
use lib.ListN.{length, take}
use lib.Seq.{take_all}
use borrow.Author.Tests.{ltb-true, ltb-false}
use Rattle.zedboard_bsp.specs.Limits.{longest_list}
use Rattle.qspi_script.specs.declared.Lent.{Lent}
use Rattle.qspi_script.specs.declared.Job.{Job}
use Rattle.qspi_operation.specs.declared.Op.{Op}
use Rattle.qspi_operation.specs.declared.Stepped.{Stepped}
use Rattle.qspi_operation.specs.Step.{is_going, step_of}
use Rattle.qspi_operation.specs.Run as by-counters
use Rattle.qspi_operation.specs.Run.{Run, run_of}
use Rattle.qspi_operation.specs.Points.{Point, step_at, logged_at}
use Rattle.qspi_operation.specs.Follows.{RunFollows}
use Rattle.qspi_operation.proofs.Following.{on_run}
use Rattle.qspi_operation.proofs.Verdicts.{no}
use Rattle.qspi_calls.specs.Sectors.{numbers, numbers_in}
use Rattle.qspi_calls.specs.Begins.{BeginsList}
use Rattle.qspi_calls.proofs.Begins as begins
use Rattle.qspi_calls.proofs.ListLoops.{length_in}
use Rattle.qspi_calls.proofs.ListOfSectors.{length_numbers}
use Rattle.power_cut.proofs.SectorPromised as promise
use Rattle.qspi_driver.specs.State.{list_job, list_op, lent_to, stepped_of, begun_list_if, begun_list_of}
use Rattle.qspi_driver.specs.Driver.{Driver, Drive, driver_of, list_run, list_driven_if, list_driven_of}
use Rattle.qspi_driver.specs.Promise.{Steps}
use Rattle.qspi_driver.specs.Saved.{Untouched}
use Rattle.qspi_driver.specs.Cleared.{lending_of, Erasing, ListStarted, Clears}
use Rattle.qspi_driver.specs.declared.Driven.{Driven}
use Rattle.qspi_driver.specs.declared.state.State.{State}
use Rattle.qspi_driver.specs.declared.state.SectorList.{SectorList}
use Rattle.qspi_driver.specs.declared.state.ListActed.{ListActed}
use Rattle.qspi_driver.specs.State.{Answer}
use Rattle.qspi_driver.proofs.SectorLists.{list_erases, lent_copy}
use Rattle.qspi_operation.proofs.Runs.{step_job}

-- ---- the list at hand

-- the operation of a list is lent as many bytes as the list has entries
lent_long : (l : List ℕ) (room : ℕ) {o : Op} → BeginsList l room o → o.job.lent.«data» ≡ length l
lent_long l room b = ap (λ (y : Lent). y.«data») (b.follows.always []).lent ∙ length_numbers l

begins_list : (l : List ℕ) (room : ℕ) → room < 2 ^ 64 → BeginsList l room (list_op l room)
begins_list l room fits = begins.erase_sectors_lem l room fits (list_op l room) refl

-- THEOREM. A list that the driver begins is at hand as it was lent at the start: the operation begins its script, and its numbers are kept.
pub list_started : (s : State) (kept : SectorList) (l : List ℕ) (room : ℕ) → room < 2 ^ 64 → {x : ListActed} → x ≡ begun_list_of s kept l room → (x ≡ begun_list_of s kept l room) × ListStarted s l room x.answer x.state x.list
list_started s kept l room fits {x} e = (e, subst (λ (y : ListActed). ListStarted s l room y.answer y.state y.list) (sym e) (go (is_going s.op.status) refl))
  where
    go : (b : Bool) → is_going s.op.status ≡ b → ListStarted s l room (begun_list_if b s kept (list_op l room) l).answer (begun_list_if b s kept (list_op l room) l).state (begun_list_if b s kept (list_op l room) l).list
    go true g = record { busy = λ h. (refl, refl); begins = λ h. no (sym h ∙ g); erasing = λ h k. no (sym h ∙ g) }
    go false g = record {
      busy = λ h. no (sym g ∙ h);
      begins = λ h. (refl, begins_list l room fits);
      erasing = λ h k. record { follows = (begins_list l room fits).follows; erases = list_erases l room; long = lent_long l room (begins_list l room fits); kept = promise.numbers_of longest_list l k };
    }

-- what a step of it is lent, where its caller lends no data: the list as lent at the start
own_list : {l : List ℕ} {room : ℕ} {p : Point} {d : Driver} → Erasing l room p d → lent_to d.state.op d.list.numbers [] ≡ numbers l
own_list {d = d} e = lent_copy d.state.op d.list.numbers [] e.erases (omega arith) ∙ ap (λ (n : ℕ). take n d.list.numbers) e.long ∙ e.kept

-- THEOREM. A step of it, out of what the contract of `step` promises: lent no data and a log of the same length it goes on with the list as lent at the start, whatever its caller has done with it.
pub erasing_steps : {l : List ℕ} {room : ℕ} {p : Point} {d d₁ : Driver} (log log₁ buffer₁ : List ℕ) (r : Option ℕ) {a : Answer} → Erasing l room p d → length log ≡ room
    → d₁ ≡ driver_of (stepped_of d.state (lent_to d.state.op d.list.numbers []) 0 (length log) r).state d.list
    → Steps d.state.op (lent_to d.state.op d.list.numbers []) [] log r a d₁.state.op buffer₁ log₁
    → Erasing l room (step_at room r p) d₁ × (log₁ ≡ logged_at room r p log)
erasing_steps {l} {room} {p} {d} {d₁} log log₁ buffer₁ r e h w s =
    let y = (s.follows (lending_of l room) p e.follows).steps (own_list e) refl h in
    let o : d₁.state.op ≡ (step_of d.state.op (lent_to d.state.op d.list.numbers []) 0 (length log) r).op = ap (λ (x : Driver). x.state.op) w in
    let j : d₁.state.op.job ≡ d.state.op.job = ap (λ (x : Op). x.job) o ∙ step_job d.state.op (lent_to d.state.op d.list.numbers []) 0 (length log) r in (
      record {
        follows = y.follows;
        erases = ap list_job j ∙ e.erases;
        long = ap (λ (x : Job). x.lent.«data») j ∙ e.long;
        kept = ap (λ (x : Driver). take (length l) x.list.numbers) w ∙ e.kept;
      },
      y.logged,
    )

-- ---- a whole call

-- so many of 256 numbers
few : (n : ℕ) (xs : List ℕ) → length xs ≡ 256 → take n xs ≡ take (min n 256) xs
few n xs e = go (ltb 256 n) refl
  where
    go : (b : Bool) → ltb 256 n ≡ b → take n xs ≡ take (min n 256) xs
    go true f =
        let m : min n 256 ≡ 256 = omega (arith, ltb-true 256 n f) in
        take_all n xs (omega (arith, ltb-true 256 n f)) ∙ sym (ap (λ (k : ℕ). take k xs) m ∙ take_all 256 xs (omega (arith, e)))
    go false f = ap (λ (k : ℕ). take k xs) (let m : n ≡ min n 256 = omega (arith, ltb-false 256 n f) in m)

module _ (l rs log : List ℕ) (fits : length log < 2 ^ 64) (d : Driver) {r : Driven} {log₁ : List ℕ} (driver-is : r.driver ≡ (list_driven_of d l rs log).driver) (answer-is : r.answer ≡ (list_driven_of d l rs log).answer)
    (log_is : log₁ ≡ (list_driven_of d l rs log).log) where
  abbrev o : Op
  o = list_op l (length log)

  abbrev run : Run
  run = list_run o l rs log

  -- how the test for another call came out
  decided : {b : Bool} → is_going d.state.op.status ≡ b → list_driven_of d l rs log ≡ list_driven_if b d o l rs log
  decided g = ap (λ (y : Bool). list_driven_if y d o l rs log) g

  pub clears : is_going d.state.op.status ≡ false → Clears l rs log r log₁
  clears g =
      let at = decided g in
      let b = begins_list l (length log) fits in
      let s : Stepped = record { op = r.driver.state.op; answer = run.answer } in
      let h : by-counters.Ran s run.buffer log₁ run = record { op = ap (λ (x : Driver). x.state.op) (driver-is ∙ ap (λ (x : Drive). x.driver) at); answer = refl; stored = refl; logged = log_is ∙ ap (λ (x : Drive). x.log) at } in
      let m : take o.job.lent.«data» (numbers_in 256 l) ≡ take (min (length l) 256) (numbers_in 256 l) = ap (λ (k : ℕ). take k (numbers_in 256 l)) (lent_long l (length log) b) ∙ few (length l) (numbers_in 256 l) (length_in 256 l) in
      let f = subst (λ (z : List ℕ). RunFollows o z [] log rs s run.buffer log₁) m (on_run o (take o.job.lent.«data» (numbers_in 256 l)) [] log rs h) in
      let p = promise.promised l rs log b refl refl f refl refl refl in
      record { status = run.answer; given = answer-is ∙ ap (λ (x : Drive). x.answer) at; answer = p.answer; place = p.place; logged = p.logged; singles = promise.single l rs log p; shown = promise.cleared l rs log p }

  pub list_untouched : is_going d.state.op.status ≡ true → Untouched d log r log₁
  list_untouched g =
      let at = decided g in
      record { driver = driver-is ∙ ap (λ (x : Drive). x.driver) at; answer = answer-is ∙ ap (λ (x : Drive). x.answer) at; logged = log_is ∙ ap (λ (x : Drive). x.log) at }
