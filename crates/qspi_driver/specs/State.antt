-- The driver state and what its methods make of it. Document 01, "What changes shape": "Above it the outer layer keeps the Rust's
-- `&mut self` as one small driver state lent to each step and updated". Each method is the step, the start or the query by value.
use Rattle.std.specs.Prelude.{Option, None, Result, Ok, Err}
use Rattle.std.specs.Prelude.{ℕ, Bool, true, false, List, [], ◌∷◌, take}
use Rattle.qspi_script.specs.Answer.{Answered, said_by, values_of}
use Rattle.qspi_script.specs.Answer as said
use Rattle.qspi_script.specs.declared.Status.{Status}
use Rattle.qspi_script.specs.declared.Job.{Job}
use Rattle.qspi_script.specs.declared.Gives.{Gives}
use Rattle.qspi_script.specs.declared.Gives.TheVariants as gives
use Rattle.qspi_operation.specs.declared.Op.{Op}
use Rattle.qspi_operation.specs.declared.Stepped.{Stepped}
use Rattle.qspi_operation.specs.Step.{is_going, step_of, counted_of, is_list, erases_list}
use Rattle.qspi_calls.specs.Promise.{kept_of, given_of}
use Rattle.qspi_calls.specs.Sectors.{numbers_in}
use Rattle.qspi_calls.specs.Starts.{erase_sectors_of}
use Rattle.zedboard_bsp.specs.Limits.{longest_list}
use Rattle.qspi_driver.specs.declared.state.State.{State}
use Rattle.qspi_driver.specs.declared.state.SectorList.{SectorList}
use Rattle.qspi_driver.specs.declared.state.StartRefused.{StartRefused}
use Rattle.qspi_driver.specs.declared.state.StartRefused.TheVariants.{Busy, ListMissing}
use Rattle.qspi_driver.specs.declared.state.Acted.{Acted}
use Rattle.qspi_driver.specs.declared.state.ListActed.{ListActed}
use Rattle.qspi_driver.specs.declared.state.Progress.{Progress}

-- what a start or a step answers
abbrev pub Answer : Type 0
Answer = Result Status StartRefused

-- 01's number of an answer; it has none for an operation that goes on, nor for a start while one has not ended or of a list that is missing
abbrev pub number_in : Answer → Option ℕ
number_in (Ok a) = said.number_in (said_by a [])
number_in (Err e) = None

-- an operation at hand
abbrev pub holds : Op → State
holds o = record { op = o }

-- ---- a list of sectors

-- whether a call erases a list of sectors: its job says so, which no step changes
abbrev pub list_job : Job → Bool
list_job job = is_list job.script.sequel

-- the operation that erases the sectors of these addresses, with this many words of log
abbrev pub list_op : List ℕ → ℕ → Op
list_op list log = erase_sectors_of list log

-- the list that a driver keeps
abbrev pub keeps : List ℕ → SectorList
keeps ns = record { numbers = ns }

-- of a list at hand the kept one is lent, as far as it is long; data beside it is another length than that of the start, and nothing is lent then
abbrev pub own_copy : ℕ → List ℕ → List ℕ → List ℕ
own_copy n list [] = take n list
own_copy n list (x ∷ xs) = []

abbrev pub lent_if : Bool → ℕ → List ℕ → List ℕ → List ℕ
lent_if true n list bytes = own_copy n list bytes
lent_if false n list bytes = bytes

-- what a step of the operation is lent: an operation that erases a list its own copy, any other the caller's data
abbrev pub lent_to : Op → List ℕ → List ℕ → List ℕ
lent_to o list bytes = lent_if (erases_list o) o.job.lent.«data» list bytes

-- ---- a start

-- a call begins: while the operation at hand has not ended nothing is changed, nor by a list of sectors, which comes with its list; else the started one takes its place, refused ones too
abbrev pub begun_if : Bool → Bool → State → Op → Acted
begun_if true b s o = record { state = s; answer = Err Busy }
begun_if false true s o = record { state = s; answer = Err ListMissing }
begun_if false false s o = record { state = holds o; answer = Ok o.status }

abbrev pub begun_of : State → Op → Acted
begun_of s o = begun_if (is_going s.op.status) (erases_list o) s o

-- a list begins: its numbers are kept
abbrev pub begun_list_if : Bool → State → SectorList → Op → List ℕ → ListActed
begun_list_if true s kept o list = record { state = s; list = kept; answer = Err Busy }
begun_list_if false s kept o list = record { state = holds o; list = keeps (numbers_in longest_list list); answer = Ok o.status }

abbrev pub begun_list_of : State → SectorList → List ℕ → ℕ → ListActed
begun_list_of s kept list log = begun_list_if (is_going s.op.status) s kept (list_op list log) list

-- ---- a step

-- a step: that of the operation at hand
abbrev pub acted_by : Stepped → Acted
acted_by x = record { state = holds x.op; answer = Ok x.answer }

abbrev pub stepped_of : State → List ℕ → ℕ → ℕ → Option ℕ → Acted
stepped_of s bytes buffer room r = acted_by (step_of s.op bytes buffer room r)

-- the answer so far; "both used counts (log words, replies)"
abbrev pub progress_of : Op → Progress
progress_of o = record {
  status = o.status;
  used = o.used;
  replies = o.replies;
  counted = counted_of o;
  gives = given_of o.status o.job.script.gives;
  clock = kept_of o.status o.job.low_level.clock;
  older = kept_of o.status o.wire.older;
  old = kept_of o.status o.wire.old;
  last = kept_of o.status o.wire.last;
}

-- the values that it gives, and the whole of it: number and values, used counts, bytes programmed or sectors finished
abbrev pub values_given : Progress → List ℕ
values_given p = values_of p.gives p.clock p.older p.old p.last

-- the place of an entry, where one is given
abbrev pub place_given : Gives → ℕ
place_given gives.Nothing = 0
place_given gives.Register = 0
place_given gives.Id = 0
place_given gives.LongId = 0
place_given gives.Clock = 0
place_given (gives.Place n) = n

abbrev pub answered_in : Progress → Answered
answered_in p = record { says = said_by p.status (values_given p); used = p.used; replies = p.replies; counted = p.counted }

abbrev pub is_under_way : Answer → Bool
is_under_way (Ok a) = is_going a
is_under_way (Err e) = false
