-- What a save through the driver promises: that of `power_cut::write_pages` (demand 3), of the answer and the counts that the driver then holds.
use Rattle.std.specs.Prelude.{Ok, Err}
use Rattle.std.specs.Prelude.{ℕ, ◌/◌, ◌≡◌, List, length}
use Rattle.qspi_script.specs.declared.Status.{Status}
use Rattle.qspi_operation.specs.Step.{counted_of}
use Rattle.qspi_operation.specs.Machine.{called}
use Rattle.qspi_calls.specs.Calls.{write_pages}
use Rattle.qspi_operation.specs.Points.{answered_of}
use Rattle.qspi_calls.specs.Promise.{logged_of, handed}
use Rattle.power_cut.specs.Promise.{Saved, answer_of}
use Rattle.power_cut.specs.declared.PagesRan.{PagesRan}
use Rattle.qspi_driver.specs.declared.state.StartRefused.TheVariants.{Busy}
use Rattle.qspi_driver.specs.declared.Driven.{Driven}
use Rattle.qspi_driver.specs.Driver.{Driver}

-- how the call ended, with the used counts and the bytes programmed of the operation that the driver then holds
abbrev pub handed_back : Status → Driven → PagesRan
handed_back a r = record { ran = handed (record { op = r.driver.state.op; answer = a }); programmed = counted_of r.driver.state.op }

-- answer and used counts, bytes programmed and log are those of the run over lists, and the power-cut statement holds of them
pub record Saves (a : ℕ) (bs replies log : List ℕ) (r : Driven) (log₁ : List ℕ) : Type 0 where
  pub status : Status
  pub given : r.answer ≡ Ok status
  pub answer : answer_of (handed_back status r) ≡ answered_of (called (write_pages a bs) (length log / 2) replies)
  pub logged : log₁ ≡ logged_of (called (write_pages a bs) (length log / 2) replies) log
  pub cut : Saved a bs (handed_back status r) log₁

-- while another call is under way nothing is changed
pub record Untouched (d : Driver) (log : List ℕ) (r : Driven) (log₁ : List ℕ) : Type 0 where
  pub driver : r.driver ≡ d
  pub answer : r.answer ≡ Err Busy
  pub logged : log₁ ≡ log
