-- A save through the driver is the run of `write_pages`, so it promises what that run promises. Assumes nothing.
use Rattle.std.specs.Prelude.{Option}
use Prim.Native.Nat.{ℕ, ◌<◌}
use mathlib.Core.Path.{◌≡◌, refl, ap, subst, ◌∙◌}
use mathlib.Core.Bool.{Bool, true, false}
use mathlib.Core.List.{List, []}
use lib.ListN.{length, get_or}
use Rattle.qspi_operation.specs.declared.Op.{Op}
use Rattle.qspi_operation.specs.declared.Stepped.{Stepped}
use Rattle.qspi_operation.specs.Step.{is_going}
use Rattle.qspi_operation.specs.Run as by-counters
use Rattle.qspi_operation.specs.Run.{Run, run_of}
use Rattle.qspi_operation.proofs.Following.{on_run}
use Rattle.qspi_calls.specs.Begins.{BeginsWith}
use Rattle.qspi_calls.specs.Calls.{write_pages}
use Rattle.qspi_calls.specs.Starts.{write_pages_of}
use Rattle.power_cut.proofs.Promised.{promised, saved}
use Rattle.qspi_operation.specs.Step.{erases_list}
use Rattle.power_cut.specs.Saving.{Saving, KeepsSaving}
use Rattle.qspi_driver.specs.State.{lent_to}
use Rattle.qspi_driver.specs.Promise.{Started, Steps}
use Rattle.qspi_driver.specs.State.{Answer}
use Rattle.qspi_driver.proofs.SectorLists.{save_erases_none, lent_other}
use Rattle.qspi_driver.specs.declared.Driven.{Driven}
use Rattle.qspi_driver.specs.Driver.{Driver, Drive, driven_if, driven_of}
use Rattle.qspi_driver.specs.Saved.{Saves, Untouched}

module _ (a : ℕ) (bytes rs log : List ℕ) (d : Driver) {o : Op} (started : (o ≡ write_pages_of a (length bytes) (length log)) × BeginsWith (length bytes) (length log) (write_pages a) o) {r : Driven} {buffer₁ log₁ : List ℕ}
    (driver-is : r.driver ≡ (driven_of d o bytes rs [] log).driver) (answer-is : r.answer ≡ (driven_of d o bytes rs [] log).answer) (buffer-is : buffer₁ ≡ (driven_of d o bytes rs [] log).buffer) (log_is : log₁ ≡ (driven_of d o bytes rs [] log).log) where
  abbrev run : Run
  run = run_of o bytes rs [] log

  -- how the test for another call came out; a save erases no list
  decided : {b : Bool} → is_going d.state.op.status ≡ b → driven_of d o bytes rs [] log ≡ driven_if b false d run [] log
  decided {b} g = ap (λ (y : Bool). driven_if y (erases_list o) d run [] log) g ∙ ap (λ (y : Bool). driven_if b y d run [] log) (ap erases_list started.0 ∙ save_erases_none a (length bytes) (length log))

  pub saves : ((i : ℕ) → get_or bytes i 0 < 256) → is_going d.state.op.status ≡ false → Saves a bytes rs log r log₁
  saves octets g =
      let at = decided g in
      let s : Stepped = record { op = r.driver.state.op; answer = run.answer } in
      let h : by-counters.Ran s buffer₁ log₁ run =
      record { op = ap (λ (x : Driver). x.state.op) (driver-is ∙ ap (λ (x : Drive). x.driver) at); answer = refl; stored = buffer-is ∙ ap (λ (x : Drive). x.buffer) at; logged = log_is ∙ ap (λ (x : Drive). x.log) at } in
      let p = promised a bytes rs log started (h, on_run o bytes [] log rs h) refl refl in
      record { status = run.answer; given = answer-is ∙ ap (λ (x : Drive). x.answer) at; answer = p.answer; logged = p.logged; cut = saved a bytes rs log octets p }

  pub untouched : is_going d.state.op.status ≡ true → Untouched d log r log₁
  untouched g =
      let at = decided g in
      record { driver = driver-is ∙ ap (λ (x : Drive). x.driver) at; answer = answer-is ∙ ap (λ (x : Drive). x.answer) at; logged = log_is ∙ ap (λ (x : Drive). x.log) at }

-- ---- demand 3 while stepping, of every save: a save erases no list, so it is lent its caller's data

-- THEOREM. A start of `write_pages` that is not busy is a save under way.
pub save_starts : (a : ℕ) (bs log : List ℕ) (o : Op) {op o₁ : Op} {answer : Answer} → op ≡ write_pages_of a (length bs) (length log) → BeginsWith (length bs) (length log) (write_pages a) op → ((i : ℕ) → get_or bs i 0 < 256) → is_going o.status ≡ false
    → Started o op answer o₁ → Saving a bs o₁ log
save_starts a bs log o e b octets g s = s.saves g (ap erases_list e ∙ save_erases_none a (length bs) (length log)) a bs log octets b

-- THEOREM. A step of an operation that erases no list keeps a save, lent the caller's data.
pub save_steps : (o : Op) (list bytes buffer log : List ℕ) (r : Option ℕ) {answer : Answer} {o₁ : Op} {buffer₁ log₁ : List ℕ} → erases_list o ≡ false → Steps o (lent_to o list bytes) buffer log r answer o₁ buffer₁ log₁ → KeepsSaving o bytes buffer log o₁ log₁
save_steps o list bytes buffer log r {o₁ = o₁} {log₁ = log₁} k s = subst (λ (z : List ℕ). KeepsSaving o z buffer log o₁ log₁) (lent_other o list bytes k) s.saves
