-- A list of sectors through the driver: document 02, U1. "Erasing follows the list as lent at the start".
use Rattle.std.specs.Prelude.{Ok, Err}
use Rattle.std.specs.Prelude.{ℕ, ◌/◌, ◌≤◌, ◌≡◌, true, false, List, [], length, take}
use Rattle.zedboard_bsp.specs.Limits.{longest_list}
use Rattle.qspi_script.specs.declared.Status.{Status}
use Rattle.qspi_operation.specs.Machine.{begin, called}
use Rattle.qspi_operation.specs.Points.{Lending, Point, outset, answered_of}
use Rattle.qspi_operation.specs.Follows.{Follows, answer_with}
use Rattle.qspi_operation.specs.Step.{is_going, counted_of, erases_list}
use Rattle.qspi_calls.specs.Sectors.{numbers}
use Rattle.qspi_calls.specs.Begins.{BeginsList}
use Rattle.qspi_calls.specs.Calls.{erase_sectors}
use Rattle.qspi_calls.specs.OneByOne.{Accepted, SingleErases}
use Rattle.qspi_calls.specs.Promise.{logged_of, handed, one_of}
use Rattle.qspi_script.specs.Answer.{values_in}
use Rattle.power_cut.specs.SectorPromise.{Cleared, sectors_answer}
use Rattle.power_cut.specs.declared.SectorsRan.{SectorsRan}
use Rattle.qspi_driver.specs.declared.state.State.{State}
use Rattle.qspi_driver.specs.declared.state.SectorList.{SectorList}
use Rattle.qspi_driver.specs.State.{Answer}
use Rattle.qspi_driver.specs.declared.state.StartRefused.TheVariants.{Busy}
use Rattle.qspi_driver.specs.declared.Driven.{Driven}
use Rattle.qspi_driver.specs.Driver.{Driver, driver_of}

-- ---- while it is stepped

-- what its steps are lent: the list as it was lent at the start
abbrev pub lending_of : List ℕ → ℕ → Lending
lending_of l room = record { bytes = numbers l; buffer = []; room = room }

-- the list is at hand and stands at a point of its script, and the driver keeps its numbers
pub record Erasing (l : List ℕ) (room : ℕ) (p : Point) (d : Driver) : Type 0 where
  pub follows : Follows (lending_of l room) p d.state.op
  pub erases : erases_list d.state.op ≡ true
  pub long : d.state.op.job.lent.«data» ≡ length l
  pub kept : take (length l) d.list.numbers ≡ numbers l

-- before the first step
abbrev pub list_outset : List ℕ → Point
list_outset l = outset (begin (erase_sectors l) [] 0)

-- a start with a list: s was at hand, s₁ is at hand then, with the list that is kept
pub record ListStarted (s : State) (l : List ℕ) (room : ℕ) (answer : Answer) (s₁ : State) (kept : SectorList) : Type 0 where
  -- while a call has not ended nothing is changed
  pub busy : is_going s.op.status ≡ true → (answer ≡ Err Busy) × (s₁ ≡ s)
  -- any other list begins its script, refused ones too, with its own answer
  pub begins : is_going s.op.status ≡ false → (answer ≡ Ok s₁.op.status) × BeginsList l room s₁.op
  -- and one that is not too long is at hand, as lent at the start
  pub erasing : is_going s.op.status ≡ false → length l ≤ longest_list → Erasing l room (list_outset l) (driver_of s₁ kept)

-- ---- a whole call

-- how the call ended, with the used counts, the sectors finished and the place that the driver then holds
abbrev pub list_handed_back : Status → Driven → SectorsRan
list_handed_back a r = record {
  ran = handed (record { op = r.driver.state.op; answer = a });
  finished = counted_of r.driver.state.op;
  place = one_of (values_in (answer_with r.driver.state.op a).says);
}

-- number, place, used counts, sectors finished and log are those of the run over lists; of a list that is not refused they are those of the single erases; and the log shows the sectors counted
pub record Clears (l replies log : List ℕ) (r : Driven) (log₁ : List ℕ) : Type 0 where
  pub status : Status
  pub given : r.answer ≡ Ok status
  pub answer : sectors_answer (list_handed_back status r) ≡ answered_of (called (erase_sectors l) (length log / 2) replies)
  pub place : (list_handed_back status r).place ≡ one_of (values_in (answered_of (called (erase_sectors l) (length log / 2) replies)).says)
  pub logged : log₁ ≡ logged_of (called (erase_sectors l) (length log / 2) replies) log
  pub singles : Accepted l → SingleErases l (length log / 2) replies log status (counted_of r.driver.state.op) log₁
  pub shown : Cleared l (list_handed_back status r) log₁
