-- What the driver promises of the operation at hand, by the call over lists that it follows, and demand 3 of a save that is stepped through it: `start` begins it, each `step` goes
-- on with it, and after each of them the power-cut statement holds of the log so far.
use Rattle.std.specs.Prelude.{Option, Ok, Err}
use Rattle.std.specs.Prelude.{ℕ, ◌<◌, ◌≡◌, true, false, List, length, get_or}
use Rattle.qspi_script.specs.declared.Status.{Status}
use Rattle.qspi_operation.specs.declared.Op.{Op}
use Rattle.qspi_operation.specs.Machine.{Script}
use Rattle.qspi_operation.specs.Step.{is_going}
use Rattle.qspi_operation.specs.Points.{Lending, Point, answer_at}
use Rattle.qspi_operation.specs.Follows.{Follows, Begun, StepFollows, RunFollows}
use Rattle.qspi_calls.specs.Begins.{BeginsWith}
use Rattle.qspi_calls.specs.Calls.{write_pages}
use Rattle.power_cut.specs.Saving.{Saving, KeepsSaving}
use Rattle.qspi_operation.specs.Step.{erases_list}
use Rattle.qspi_driver.specs.State.{answered_in}
use Rattle.qspi_driver.specs.Driver.{Driver}
use Rattle.qspi_driver.specs.declared.Driven.{Driven}
use Rattle.qspi_driver.specs.State.{Answer}
use Rattle.qspi_driver.specs.declared.state.StartRefused.TheVariants.{Busy, ListMissing}
use Rattle.qspi_driver.specs.declared.state.Progress.{Progress}

-- a start: o was at hand, op is started, o₁ is at hand then
pub record Started (o op : Op) (answer : Answer) (o₁ : Op) : Type 0 where
  -- while a call has not ended nothing is changed
  pub busy : is_going o.status ≡ true → (answer ≡ Err Busy) × (o₁ ≡ o)
  -- nor does a list of sectors begin without its list
  pub missing : is_going o.status ≡ false → erases_list op ≡ true → (answer ≡ Err ListMissing) × (o₁ ≡ o)
  -- any other begins, refused ones too, with its own answer
  pub takes : is_going o.status ≡ false → erases_list op ≡ false → (answer ≡ Ok op.status) × (o₁ ≡ op)
  -- so what the start promised of op holds of the operation at hand
  pub begins : is_going o.status ≡ false → erases_list op ≡ false → (g : Lending) (c : Script) → Begun g c op → Begun g c o₁
  -- and one of `write_pages` is a save under way, with whatever the log holds
  pub saves : is_going o.status ≡ false → erases_list op ≡ false → (a : ℕ) (bs log : List ℕ) → ((i : ℕ) → get_or bs i 0 < 256) → BeginsWith (length bs) (length log) (write_pages a) op → Saving a bs o₁ log

-- a step: o was at hand, o₁ is at hand then
pub record Steps (o : Op) (bytes buffer log : List ℕ) (r : Option ℕ) (answer : Answer) (o₁ : Op) (buffer₁ log₁ : List ℕ) : Type 0 where
  pub status : Status
  pub given : answer ≡ Ok status
  pub follows : StepFollows o bytes buffer log r (record { op = o₁; answer = status }) buffer₁ log₁
  pub saves : KeepsSaving o bytes buffer log o₁ log₁

-- the answer so far, with number, values and counts
abbrev pub AnswerFollows : Op → Progress → Type 0
AnswerFollows o r = (g : Lending) (p : Point) → Follows g p o → answered_in r ≡ answer_at p

-- a whole call through the lent driver
pub record Drives (d : Driver) (op : Op) (bytes buffer log replies : List ℕ) (r : Driven) (buffer₁ log₁ : List ℕ) : Type 0 where
  pub busy : is_going d.state.op.status ≡ true → (r.driver ≡ d) × ((r.answer ≡ Err Busy) × ((log₁ ≡ log) × (buffer₁ ≡ buffer)))
  pub missing : is_going d.state.op.status ≡ false → erases_list op ≡ true → (r.driver ≡ d) × ((r.answer ≡ Err ListMissing) × ((log₁ ≡ log) × (buffer₁ ≡ buffer)))
  pub status : Status
  pub given : is_going d.state.op.status ≡ false → erases_list op ≡ false → r.answer ≡ Ok status
  -- it is the run of the call, and where that answers 25 the call is still under way
  pub runs : is_going d.state.op.status ≡ false → erases_list op ≡ false → RunFollows op bytes buffer log replies (record { op = r.driver.state.op; answer = status }) buffer₁ log₁
  -- of a save the power-cut statement holds then, by the log that it was lent; one that met other lengths is the save that it was
  pub saves : is_going d.state.op.status ≡ false → erases_list op ≡ false → (a : ℕ) → ((i : ℕ) → get_or bytes i 0 < 256) → length buffer ≡ 0 → BeginsWith (length bytes) (length log) (write_pages a) op → Saving a bytes r.driver.state.op log₁
  pub keeps : is_going d.state.op.status ≡ false → erases_list op ≡ false → KeepsSaving op bytes buffer log r.driver.state.op log₁
