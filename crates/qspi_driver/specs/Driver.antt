-- The driver that is lent: its state, and a whole call through its methods. Document 01, "What changes shape": "one small driver state lent
-- to each step and updated".
use Rattle.std.specs.Prelude.{Ok, Err}
use Rattle.std.specs.Prelude.{ℕ, Bool, true, false, List, [], length, take, replicate}
use Rattle.qspi_operation.specs.declared.Op.{Op}
use Rattle.qspi_operation.specs.Step.{is_going}
use Rattle.qspi_operation.specs.Run.{Run, run_at, fuel, run_of}
use Rattle.qspi_calls.specs.Starts.{read_of}
use Rattle.qspi_operation.specs.Step.{erases_list}
use Rattle.zedboard_bsp.specs.Limits.{longest_list}
use Rattle.qspi_calls.specs.Sectors.{numbers_in}
use Rattle.qspi_driver.specs.State.{holds, keeps, list_op, lent_to}
use Rattle.qspi_driver.specs.declared.QspiSpansionS25Fl256SIoMode.{QspiSpansionS25Fl256SIoMode}
use Rattle.qspi_driver.specs.declared.state.State.{State}
use Rattle.qspi_driver.specs.declared.state.SectorList.{SectorList}
use Rattle.qspi_driver.specs.State.{Answer}
use Rattle.qspi_driver.specs.declared.state.StartRefused.TheVariants.{Busy, ListMissing}

abbrev pub Driver : Type 0
Driver = QspiSpansionS25Fl256SIoMode

abbrev pub driver_of : State → SectorList → Driver
driver_of s l = record { state = s; list = l }

-- no operation at hand: an empty read has ended at its start
abbrev pub idle : Driver
idle = driver_of (holds (read_of 0 false false 0 0)) (keeps (replicate 256 0))

-- ---- a whole call

-- what a whole call hands back and leaves in the lent memory
pub record Drive : Type 0 where
  pub driver : Driver
  pub answer : Answer
  pub buffer : List ℕ
  pub log : List ℕ

-- nothing is changed
abbrev pub refused : Driver → Answer → List ℕ → List ℕ → Drive
refused d a buffer log = record { driver = d; answer = a; buffer = buffer; log = log }

-- the end of a run, with the list that the driver keeps
abbrev pub reached : SectorList → Run → Drive
reached l e = record { driver = driver_of (holds e.op) l; answer = Ok e.answer; buffer = e.buffer; log = e.log }

-- the rest of a call that answered so far: the operation at hand is run to its end on what it is lent
abbrev pub finished_of : Driver → Answer → List ℕ → List ℕ → List ℕ → List ℕ → Drive
finished_of d (Ok a) bytes replies buffer log =
    reached d.list (run_at (fuel d.state.op log) (is_going a) a d.state.op (lent_to d.state.op d.list.numbers bytes) replies buffer log)
finished_of d (Err e) bytes replies buffer log = refused d (Err e) buffer log

-- a call that is begun while another is under way changes nothing, nor does a list of sectors without its list; any other is run to its end
abbrev pub driven_if : Bool → Bool → Driver → Run → List ℕ → List ℕ → Drive
driven_if true b d e buffer log = refused d (Err Busy) buffer log
driven_if false true d e buffer log = refused d (Err ListMissing) buffer log
driven_if false false d e buffer log = reached d.list e

abbrev pub driven_of : Driver → Op → List ℕ → List ℕ → List ℕ → List ℕ → Drive
driven_of d o bytes replies buffer log = driven_if (is_going d.state.op.status) (erases_list o) d (run_of o bytes replies buffer log) buffer log

-- ---- a list of sectors

-- its run is lent the numbers of its list, which the driver keeps
abbrev pub list_run : Op → List ℕ → List ℕ → List ℕ → Run
list_run o list replies log = run_of o (take o.job.lent.«data» (numbers_in longest_list list)) replies [] log

abbrev pub list_driven_if : Bool → Driver → Op → List ℕ → List ℕ → List ℕ → Drive
list_driven_if true d o list replies log = refused d (Err Busy) [] log
list_driven_if false d o list replies log = reached (keeps (numbers_in longest_list list)) (list_run o list replies log)

abbrev pub list_driven_of : Driver → List ℕ → List ℕ → List ℕ → Drive
list_driven_of d list replies log = list_driven_if (is_going d.state.op.status) d (list_op list (length log)) list replies log
