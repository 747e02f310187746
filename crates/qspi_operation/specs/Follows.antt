-- That an operation follows a call over lists, step by step: whatever replies it is handed, after any number of steps, it shows what the call over lists shows. A reader of the contracts
-- need not look into `Follows`: a start gives it, each step and each run keeps it, and what they answer and leave in the lent memory is said over lists.
use Rattle.std.specs.Prelude.{◌≡◌, ℕ, true, false, not, ◌&&◌, List, [], ◌∷◌, length, ◌==◌}
use Rattle.qspi_script.specs.declared.Status.{Status}
use Rattle.qspi_script.specs.declared.Lent.{Lent}
use Rattle.qspi_script.specs.Answer.{Answered, said_by, values_of}
use Rattle.qspi_operation.specs.declared.Op.{Op}
use Rattle.std.specs.Prelude.{Option, Some, None, Ok}
use Rattle.qspi_transfer.specs.declared.Due.TheVariants as due
use Rattle.qspi_operation.specs.declared.Stepped.{Stepped}
use Rattle.qspi_operation.specs.Machine.{Want, reads, writes, nothing, bytes_in, overlaid, Script, begin}
use Rattle.qspi_operation.specs.Points.{Lending, same_as, Point, outset, wanted, step_at, logged_at, steps_at, ran_at, ran_log, answer_at, changed_at}
use Rattle.qspi_operation.specs.Step.{Asked, length_changed, is_going, due_of, step_of, log_of, buffer_of, counted_of}

-- ---- the answers of the code, by 01's numbers and values

-- the values of an operation that is done: what its call gives, of its inputs or of the last three replies
abbrev pub given_by : Op → List ℕ
given_by o = values_of o.job.script.gives o.job.low_level.clock o.wire.older o.wire.old o.wire.last

-- an operation with an answer: its own, or that of a step or a run of it
abbrev pub answer_with : Op → Status → Answered
answer_with o a = record { says = said_by a (given_by o); used = o.used; replies = o.replies; counted = counted_of o }

abbrev pub answer_of : Op → Answered
answer_of o = answer_with o o.status

abbrev pub answer_by : Stepped → Answered
answer_by s = answer_with s.op s.answer

abbrev pub asked_for : Want → Asked
asked_for (reads o) = Ok (Some (due.Read o))
asked_for (writes o v) = Ok (Some (due.Write o v))
asked_for nothing = Ok None

-- ---- an operation that follows

abbrev pub lengths_of : Lending → Lent
lengths_of g = record { «data» = length g.bytes; buffer = length g.buffer; log = g.room }

-- what it shows between two steps
pub record Shows (g : Lending) (p : Point) (o : Op) : Type 0 where
  pub lent : o.job.lent ≡ lengths_of g
  pub status : o.status ≡ p.answer
  pub answer : answer_of o ≡ answer_at p
  pub due : due_of o g.bytes ≡ asked_for (wanted p)
  -- what the next step leaves in the log and in the buffer, whatever it is handed
  pub logged : (r : Option ℕ) (log : List ℕ) → length log ≡ g.room → log_of o g.bytes (length g.buffer) log r ≡ logged_at g.room r p log
  pub wide : length (overlaid (bytes_in p.state) g.buffer) ≡ length g.buffer
  pub stored : (r : Option ℕ) → buffer_of o g.bytes (overlaid (bytes_in p.state) g.buffer) g.room r ≡ overlaid (bytes_in (step_at g.room r p).state) g.buffer

-- the operation after steps that were handed these replies, lent what it was lent at its start
abbrev pub op_after : Lending → List (Option ℕ) → Op → Op
op_after g [] o = o
op_after g (r ∷ rs) o = op_after g rs (step_of o g.bytes (length g.buffer) g.room r).op

-- it shows the same now, and after all steps to come
pub record Follows (g : Lending) (p : Point) (o : Op) : Type 0 where
  pub always : (rs : List (Option ℕ)) → Shows g (steps_at g.room rs p) (op_after g rs o)

-- ---- what a start promises: "an operation is a state by value, ended at its start if no access is due"

pub record Begun (g : Lending) (c : Script) (o : Op) : Type 0 where
  pub answer : answer_of o ≡ answer_at (outset (begin c [] 0))
  pub follows : Follows g (outset (begin c [] 0)) o
  -- no byte is brought for the buffer
  pub unread : bytes_in (begin c [] 0) ≡ []

-- ---- what a step promises of an operation that follows

-- no access: state and memory the same
pub record Leaves (o : Op) (buffer log : List ℕ) (s : Stepped) (buffer₁ log₁ : List ℕ) : Type 0 where
  pub op : s.op ≡ o
  pub logged : log₁ ≡ log
  pub stored : buffer₁ ≡ buffer

-- a step that is lent what the call was lent at its start
pub record Steps (g : Lending) (p : Point) (log : List ℕ) (r : Option ℕ) (s : Stepped) (log₁ : List ℕ) : Type 0 where
  pub follows : Follows g (step_at g.room r p) s.op
  pub answer : answer_by s ≡ answer_at (step_at g.room r p)
  pub logged : log₁ ≡ logged_at g.room r p log

pub record OnStep (g : Lending) (p : Point) (o : Op) (bytes buffer log : List ℕ) (r : Option ℕ) (s : Stepped) (buffer₁ log₁ : List ℕ) : Type 0 where
  -- "An ended operation stepped again repeats its answer", whatever it is lent
  pub repeats : is_going p.answer ≡ false → Leaves o buffer log s buffer₁ log₁ × (answer_by s ≡ answer_at p)
  -- 25: "state and memory the same; the right length goes on"
  pub changed : is_going p.answer ≡ true → same_as g (length bytes) (length buffer) (length log) ≡ false → Leaves o buffer log s buffer₁ log₁ × (answer_by s ≡ changed_at p)
  -- 24, 23, or the access that is due
  pub steps : bytes ≡ g.bytes → length buffer ≡ length g.buffer → length log ≡ g.room → Steps g p log r s log₁
  -- "A read byte changes only at the step that takes its reply": the buffer holds the bytes brought, then what was there
  pub stored : bytes ≡ g.bytes → length log ≡ g.room → buffer ≡ overlaid (bytes_in p.state) g.buffer → buffer₁ ≡ overlaid (bytes_in (step_at g.room r p).state) g.buffer

-- for the contract: of whatever call the operation follows, wherever it stands
abbrev pub StepFollows : Op → List ℕ → List ℕ → List ℕ → Option ℕ → Stepped → List ℕ → List ℕ → Type 0
StepFollows o bytes buffer log r s buffer₁ log₁ = (g : Lending) (p : Point) → Follows g p o → OnStep g p o bytes buffer log r s buffer₁ log₁

-- ---- what a query promises

pub record OnDue (g : Lending) (p : Point) (bytes : List ℕ) (a : Asked) : Type 0 where
  pub due : bytes ≡ g.bytes → a ≡ asked_for (wanted p)
  -- nothing is due once it has ended, whatever it is lent
  pub over : is_going p.answer ≡ false → a ≡ Ok None
  pub changed : is_going p.answer ≡ true → (length bytes == length g.bytes) ≡ false → a ≡ length_changed

abbrev pub DueFollows : Op → List ℕ → Asked → Type 0
DueFollows o bytes a = (g : Lending) (p : Point) → Follows g p o → OnDue g p bytes a

-- ---- what a run promises: the steps to the end, the replies in order

-- a run that is lent what the call was lent at its start
pub record Runs (g : Lending) (p : Point) (log replies : List ℕ) (s : Stepped) (log₁ : List ℕ) : Type 0 where
  pub follows : Follows g (ran_at g.room replies p) s.op
  pub answer : answer_by s ≡ answer_at (ran_at g.room replies p)
  pub logged : log₁ ≡ ran_log g.room replies p log

pub record OnRun (g : Lending) (p : Point) (o : Op) (bytes buffer log replies : List ℕ) (s : Stepped) (buffer₁ log₁ : List ℕ) : Type 0 where
  pub repeats : is_going p.answer ≡ false → Leaves o buffer log s buffer₁ log₁ × (answer_by s ≡ answer_at p)
  -- 25, and the call is still under way: the right lengths go on with it
  pub changed : is_going p.answer ≡ true → same_as g (length bytes) (length buffer) (length log) ≡ false → Leaves o buffer log s buffer₁ log₁ × (answer_by s ≡ changed_at p)
  pub runs : is_going p.answer ≡ true → bytes ≡ g.bytes → length buffer ≡ length g.buffer → length log ≡ g.room → Runs g p log replies s log₁
  pub stored : is_going p.answer ≡ true → bytes ≡ g.bytes → length log ≡ g.room → buffer ≡ overlaid (bytes_in p.state) g.buffer
      → buffer₁ ≡ overlaid (bytes_in (ran_at g.room replies p).state) g.buffer
  -- it never answers that the call goes on
  pub ends : is_going s.answer ≡ false
  -- a step is still due precisely where the call goes on and was lent another length
  pub due : is_going s.op.status ≡ (is_going p.answer && not (same_as g (length bytes) (length buffer) (length log)))

abbrev pub RunFollows : Op → List ℕ → List ℕ → List ℕ → List ℕ → Stepped → List ℕ → List ℕ → Type 0
RunFollows o bytes buffer log replies s buffer₁ log₁ = (g : Lending) (p : Point) → Follows g p o → OnRun g p o bytes buffer log replies s buffer₁ log₁
