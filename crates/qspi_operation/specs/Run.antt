-- A run: the steps of one operation to its end, over replies in order, the memory lent once. Document 01, "What changes shape": "A run over
-- replies and log serves the tests"; "each step of one not ended makes and logs one access".
use Rattle.std.specs.Prelude.{◌≡◌, ℕ, zero, suc, ◌-◌, ◌/◌, Bool, true, false, List, length}
use Rattle.qspi_script.specs.declared.Status.{Status}
use Rattle.qspi_operation.specs.declared.Op.{Op}
use Rattle.qspi_operation.specs.declared.Stepped.{Stepped}
use Rattle.qspi_operation.specs.Step.{is_going, step_of, log_of, buffer_of, reply_of}

pub record Run : Type 0 where
  pub op : Op
  pub answer : Status
  pub buffer : List ℕ
  pub log : List ℕ

abbrev pub here : Status → Op → List ℕ → List ℕ → Run
here a o buffer log = record { op = o; answer = a; buffer = buffer; log = log }

-- at most n steps, while the answer is going on
unfoldable pub run_at : ℕ → Bool → Status → Op → List ℕ → List ℕ → List ℕ → List ℕ → Run
run_at zero b a o bytes replies buffer log = here a o buffer log
run_at (suc n) false a o bytes replies buffer log = here a o buffer log
run_at (suc n) true a o bytes replies buffer log =
    run_at n
    (is_going (step_of o bytes (length buffer) (length log) (reply_of replies o.replies)).answer)
    (step_of o bytes (length buffer) (length log) (reply_of replies o.replies)).answer
    (step_of o bytes (length buffer) (length log) (reply_of replies o.replies)).op
    bytes
    replies
    (buffer_of o bytes buffer (length log) (reply_of replies o.replies))
    (log_of o bytes (length buffer) log (reply_of replies o.replies))

-- enough steps: each access takes two words of log, and a step without one ends the run
abbrev pub fuel : Op → List ℕ → ℕ
fuel o log = suc ((length log - o.used) / 2)

abbrev pub run_of : Op → List ℕ → List ℕ → List ℕ → List ℕ → Run
run_of o bytes replies buffer log = run_at (fuel o log) (is_going o.status) o.status o bytes replies buffer log

-- what a run hands back and leaves behind
pub record Ran (r : Stepped) (buffer log : List ℕ) (e : Run) : Type 0 where
  pub op : r.op ≡ e.op
  pub answer : r.answer ≡ e.answer
  pub stored : buffer ≡ e.buffer
  pub logged : log ≡ e.log
