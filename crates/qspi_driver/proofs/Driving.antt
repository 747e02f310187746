-- What the loop of `finish` keeps: from each of its states the call leads where it leads from the start, and each step leaves fewer; and what is finished so, of a call that was begun, is `driven_of`, and of a
-- list `list_driven_of`. It says nothing of the machine. Assumes nothing.
use Rattle.std.specs.Prelude.{Option, Ok, Err}
use Prim.Native.Nat.{ℕ, ◌<◌}
use mathlib.Core.Path.{◌≡◌, refl, sym, ap, ◌∙◌}
use mathlib.Core.Bool.{Bool, true, false}
use mathlib.Core.List.{List, []}
use lib.ListN.{length}
use Rattle.qspi_script.specs.declared.Status.{Status}
use Rattle.qspi_operation.specs.declared.Op.{Op}
use Rattle.qspi_operation.specs.declared.Stepped.{Stepped as Operation}
use Rattle.qspi_operation.specs.Step.{is_going, step_of, log_of, buffer_of, reply_of}
use Rattle.qspi_operation.specs.Run.{run_at, run_of, fuel}
use Rattle.qspi_operation.specs.Pass.{left}
use Rattle.qspi_operation.proofs.Verdicts.{no}
use Rattle.qspi_operation.proofs.Runs.{halted, Turn, turn}
use Rattle.qspi_operation.specs.Step.{erases_list}
use Rattle.zedboard_bsp.specs.Limits.{longest_list}
use Rattle.qspi_calls.specs.Sectors.{numbers_in}
use Rattle.qspi_driver.specs.State.{list_op, keeps, lent_to, begun_if, begun_of, begun_list_if, begun_list_of, stepped_of, is_under_way}
use Rattle.qspi_driver.proofs.SectorLists.{lent_other, lent_list, lent_kept}
use Rattle.qspi_driver.specs.Driver.{Driver, driver_of, reached, finished_of, driven_if, driven_of, list_driven_if, list_driven_of}
use Rattle.qspi_driver.specs.declared.state.Acted.{Acted}
use Rattle.qspi_driver.specs.declared.state.ListActed.{ListActed}
use Rattle.qspi_driver.specs.State.{Answer}

-- what a step of the driver is lent
abbrev lent : Driver → List ℕ → List ℕ
lent d bytes = lent_to d.state.op d.list.numbers bytes

-- what `step` ensures of the driver, the answer and the memory
pub record Stepped (bytes : List ℕ) (d : Driver) (buffer log : List ℕ) (r : Option ℕ) (d' : Driver) (a : Answer) (buffer' log' : List ℕ) : Type 0 where
  pub state : d' ≡ driver_of (stepped_of d.state (lent_to d.state.op d.list.numbers bytes) (length buffer) (length log) r).state d.list
  pub answer : a ≡ (stepped_of d.state (lent_to d.state.op d.list.numbers bytes) (length buffer) (length log) r).answer
  pub stored : buffer' ≡ buffer_of d.state.op (lent_to d.state.op d.list.numbers bytes) buffer (length log) r
  pub logged : log' ≡ log_of d.state.op (lent_to d.state.op d.list.numbers bytes) (length buffer) log r
  pub wide : length buffer' ≡ length buffer
  pub long : length log' ≡ length log

-- how many steps are left, 0 where none is due
abbrev pub steps : Driver → Answer → List ℕ → ℕ
steps d a log = left (is_under_way a) (fuel d.state.op log)

module _ (bytes rs : List ℕ) where
  module _ (d₀ : Driver) (a₀ : Answer) (buffer₀ log₀ : List ℕ) where
    pub record Good (d : Driver) (a : Answer) (buffer log : List ℕ) : Type 0 where
      pub same : finished_of d a bytes rs buffer log ≡ finished_of d₀ a₀ bytes rs buffer₀ log₀
      pub wide : length buffer ≡ length buffer₀
      pub long : length log ≡ length log₀

    pub begins : Good d₀ a₀ buffer₀ log₀
    begins = record { same = refl; wide = refl; long = refl }

    module _ (d : Driver) (a : Answer) (buffer log : List ℕ) where
      -- the step of the operation at hand, at the next reply
      abbrev stepped : Operation
      stepped = step_of d.state.op (lent d bytes) (length buffer) (length log) (reply_of rs d.state.op.replies)

      abbrev buffer₁ : List ℕ
      buffer₁ = buffer_of d.state.op (lent d bytes) buffer (length log) (reply_of rs d.state.op.replies)

      abbrev log₁ : List ℕ
      log₁ = log_of d.state.op (lent d bytes) (length buffer) log (reply_of rs d.state.op.replies)

      turned : (x : Status) → is_going x ≡ true → Turn (is_going x) x d.state.op (lent d bytes) rs buffer log stepped buffer₁ log₁
      turned x k = turn (is_going x) x d.state.op (lent d bytes) rs buffer log stepped _ _ k refl refl refl

      -- the run from there, on what the stepped operation is lent: it is what it was
      on_from : (x : Status) → is_going x ≡ true → finished_of (driver_of (stepped_of d.state (lent d bytes) (length buffer) (length log) (reply_of rs d.state.op.replies)).state d.list) (Ok stepped.answer) bytes rs buffer₁ log₁ ≡ finished_of d (Ok x) bytes rs buffer log
      on_from x k =
          ap (λ (l : List ℕ). reached d.list (run_at (fuel stepped.op log₁) (is_going stepped.answer) stepped.answer stepped.op l rs buffer₁ log₁)) (lent_kept d.state.op (lent d bytes) (length buffer) (length log) (reply_of rs d.state.op.replies) d.list.numbers bytes)
          ∙ ap (reached d.list) (sym (turned x k).same)

      pub goes_on : Good d a buffer log → {r : Option ℕ} {d' : Driver} {a' : Answer} {buffer' log' : List ℕ} → is_under_way a ≡ true → r ≡ reply_of rs d.state.op.replies → Stepped bytes d buffer log r d' a' buffer' log'
          → Good d' a' buffer' log'
      goes_on g {r} {d'} {a'} {buffer'} {log'} h e s = record { same = leads a h ∙ g.same; wide = s.wide ∙ g.wide; long = s.long ∙ g.long }
        where
          leads : (c : Answer) → is_under_way c ≡ true → finished_of d' a' bytes rs buffer' log' ≡ finished_of d c bytes rs buffer log
          leads (Ok x) k = rw (s.state, s.answer, s.stored, s.logged, e) (on_from x k)
          leads (Err z) k = no k

      pub nearer : Good d a buffer log → {r : Option ℕ} {d' : Driver} {a' : Answer} {buffer' log' : List ℕ} → is_under_way a ≡ true → r ≡ reply_of rs d.state.op.replies → Stepped bytes d buffer log r d' a' buffer' log'
          → steps d' a' log' < steps d a log
      nearer g {r} {d'} {a'} {buffer'} {log'} h e s = fewer a h
        where
          fewer : (c : Answer) → is_under_way c ≡ true → steps d' a' log' < steps d c log
          fewer (Ok x) k = rw (s.state, s.answer, s.logged, e) (turned x k).fewer
          fewer (Err z) k = no k

      pub ends : Good d a buffer log → is_under_way a ≡ false → record { driver = d; answer = a; buffer = buffer; log = log } ≡ finished_of d₀ a₀ bytes rs buffer₀ log₀
      ends g h = sym (over a h) ∙ g.same
        where
          over : (c : Answer) → is_under_way c ≡ false → finished_of d c bytes rs buffer log ≡ record { driver = d; answer = c; buffer = buffer; log = log }
          over (Ok x) k = ap (reached d.list) (halted (fuel d.state.op log) (is_going x) x d.state.op (lent d bytes) rs buffer log k)
          over (Err z) k = refl

-- ---- a whole call

-- what is finished is what was begun
pub begun_driven : (d : Driver) (o : Op) (bytes rs buffer log : List ℕ) → finished_of (driver_of (begun_of d.state o).state d.list) (begun_of d.state o).answer bytes rs buffer log ≡ driven_of d o bytes rs buffer log
begun_driven d o bytes rs buffer log = by_tests (is_going d.state.op.status) (erases_list o) refl
  where
    by_tests : (b m : Bool) → erases_list o ≡ m → finished_of (driver_of (begun_if b m d.state o).state d.list) (begun_if b m d.state o).answer bytes rs buffer log ≡ driven_if b m d (run_of o bytes rs buffer log) buffer log
    by_tests true m e = refl
    by_tests false true e = refl
    by_tests false false e = ap (λ (l : List ℕ). reached d.list (run_of o l rs buffer log)) (lent_other o d.list.numbers bytes e)

pub begun_list : (d : Driver) (list rs log : List ℕ)
    → finished_of (driver_of (begun_list_of d.state d.list list (length log)).state (begun_list_of d.state d.list list (length log)).list) (begun_list_of d.state d.list list (length log)).answer [] rs [] log ≡ list_driven_of d list rs log
begun_list d list rs log = by-test (is_going d.state.op.status)
  where
    by-test : (b : Bool) → finished_of (driver_of (begun_list_if b d.state d.list (list_op list (length log)) list).state (begun_list_if b d.state d.list (list_op list (length log)) list).list) (begun_list_if b d.state d.list (list_op list (length log)) list).answer [] rs [] log ≡ list_driven_if b d (list_op list (length log)) list rs log
    by-test true = refl
    by-test false = ap (λ (l : List ℕ). reached (keeps (numbers_in longest_list list)) (run_of (list_op list (length log)) l rs [] log)) (lent_list list (length log) (numbers_in longest_list list))

-- what the finished call hands back, of what was begun
pub driven_of_lem : (d : Driver) (o : Op) (bytes rs buffer log : List ℕ) {x : Acted} → x ≡ begun_of d.state o → finished_of (driver_of x.state d.list) x.answer bytes rs buffer log ≡ driven_of d o bytes rs buffer log
driven_of_lem d o bytes rs buffer log e = ap (λ (x : Acted). finished_of (driver_of x.state d.list) x.answer bytes rs buffer log) e ∙ begun_driven d o bytes rs buffer log

pub list_driven_of_lem : (d : Driver) (list rs log : List ℕ) {x : ListActed} → x ≡ begun_list_of d.state d.list list (length log) → finished_of (driver_of x.state x.list) x.answer [] rs [] log ≡ list_driven_of d list rs log
list_driven_of_lem d list rs log e = ap (λ (x : ListActed). finished_of (driver_of x.state x.list) x.answer [] rs [] log) e ∙ begun_list d list rs log
