-- What a call hands back and leaves in the lent memory, out of its run over lists: document 01, "What the state can bring on": "the answer,
-- the used counts and each lent word or byte afterwards", "Log words past the used ones don't change".
use Rattle.std.specs.Prelude.{ℕ, ◌*◌, ◌/◌, ◌≡◌, cond, List, [], ◌∷◌, ◌++◌, length, drop}
use Rattle.zynq7000.specs.Access.{encode}
use Rattle.qspi_script.specs.declared.Gives.{Gives}
use Rattle.qspi_script.specs.declared.Gives.TheVariants as gives
use Rattle.qspi_script.specs.declared.Status.{Status}
use Rattle.qspi_operation.specs.declared.Stepped.{Stepped}
use Rattle.qspi_operation.specs.Machine.{Script, Result, called, bytes_in, overlaid, reads_of}
use Rattle.qspi_operation.specs.Points.{answered_of}
use Rattle.qspi_operation.specs.Follows.{answer_by}
use Rattle.qspi_calls.specs.Values.{has_values}
use Rattle.qspi_calls.specs.declared.run.Ran.{Ran}

-- a call that lends no data, or no buffer
abbrev pub nothing : List ℕ
nothing = []

-- the answer, and the used counts: "log words, replies"
abbrev pub ran_of : Result → Ran
ran_of r = record { answer = r.answer; used = 2 * length r.log; replies = reads_of r.log }

-- the log: the accesses made, then the words that were there
abbrev pub logged_of : Result → List ℕ → List ℕ
logged_of r log = encode r.log ++ drop (2 * length r.log) log

-- the buffer: the bytes read, then what was there
abbrev pub buffered_of : Result → List ℕ → List ℕ
buffered_of r buffer = overlaid (bytes_in r.state) buffer

-- the same of the code, where it stands after a step or a run
abbrev pub handed : Stepped → Ran
handed s = record { answer = s.answer; used = s.op.used; replies = s.op.replies }

-- a whole call, from its start to its end: answer, log and buffer are those of the run of its script
pub record Called (c : Script) (log buffer replies : List ℕ) (s : Stepped) (buffer₁ log₁ : List ℕ) : Type 0 where
  pub answer : answer_by s ≡ answered_of (called c (length log / 2) replies)
  pub logged : log₁ ≡ logged_of (called c (length log / 2) replies) log
  pub stored : buffer₁ ≡ buffered_of (called c (length log / 2) replies) buffer

-- a reply where the answer has values, else 0
abbrev pub kept_of : Status → ℕ → ℕ
kept_of a reply = cond (has_values a) reply 0

-- what a call gives where its answer has values, else nothing
abbrev pub given_of : Status → Gives → Gives
given_of a given = cond (has_values a) given gives.Nothing

-- the value of an answer that has one, and 0 of any other
abbrev pub one_of : List ℕ → ℕ
one_of [] = 0
one_of (v ∷ []) = v
one_of (v ∷ w ∷ vs) = 0
