-- One call in any order: steps, runs and queries one after the other, with other memory lent in between, and steps of a call that has ended. Demand 1: "for all addresses, lengths, reply
-- words and orders of steps". The premise: wherever a call under way is lent the lengths of its start, it is lent the same data, and buffer and log as the last step left them
-- (each data word comes from the data of the step that writes it).
use Rattle.std.specs.Prelude.{◌≡◌, ℕ, ◌-◌, ◌*◌, ◌/◌, ◌≤◌, true, false, List, [], ◌∷◌, ◌++◌, length, drop, ◌≢◌}
use Rattle.zynq7000.specs.Access.{encode}
use Rattle.zynq7000.specs.declared.qspi.Access.{Access}
use Rattle.qspi_script.specs.declared.Status.TheVariants.{Done}
use Rattle.qspi_script.specs.Answer.{goes_on}
use Rattle.qspi_operation.specs.declared.Op.{Op}
use Rattle.std.specs.Prelude.{Option}
use Rattle.qspi_operation.specs.declared.Stepped.{Stepped}
use Rattle.qspi_operation.specs.Machine.{State, want, nothing, status_in, bytes_in, count_in, overlaid, reads_of, replies_of, Script, Result, halt, logging, runs, called, Makes, after}
use Rattle.qspi_operation.specs.Points.{Lending, same_as, Point, answered_of}
use Rattle.qspi_operation.specs.Follows.{answer_of, StepFollows, DueFollows, RunFollows}
use Rattle.qspi_operation.specs.Step.{Asked, is_going}

-- what happened so far to an operation, from its start on, and to the buffer and the log that it is lent. Of each step, run and query nothing is known but what its contract promises
pub data History (g : Lending) (o₀ : Op) (buffer₀ log₀ : List ℕ) : Op → List ℕ → List ℕ → Type 0 where
  begun : History g o₀ buffer₀ log₀ o₀ buffer₀ log₀
  -- a step that is lent the call's own memory
  stepped : {o : Op} {buffer log : List ℕ} → History g o₀ buffer₀ log₀ o buffer log → (r : Option ℕ) {s : Stepped} {buffer₁ log₁ : List ℕ} → StepFollows o g.bytes buffer log r s buffer₁ log₁
      → History g o₀ buffer₀ log₀ s.op buffer₁ log₁
  -- a run
  ran : {o : Op} {buffer log : List ℕ} → History g o₀ buffer₀ log₀ o buffer log → (replies : List ℕ) {s : Stepped} {buffer₁ log₁ : List ℕ} → RunFollows o g.bytes buffer log replies s buffer₁ log₁
      → History g o₀ buffer₀ log₀ s.op buffer₁ log₁
  -- a step or a run that is lent other memory: of another length, or whatever there is once the call has ended
  beside : {o : Op} {buffer log : List ℕ} → History g o₀ buffer₀ log₀ o buffer log → (bytes buffer' log' : List ℕ) (r : Option ℕ) {s : Stepped} {buffer₁ log₁ : List ℕ}
      → (is_going o.status ≡ true → same_as g (length bytes) (length buffer') (length log') ≡ false) → StepFollows o bytes buffer' log' r s buffer₁ log₁ → History g o₀ buffer₀ log₀ s.op buffer log
  ran_beside : {o : Op} {buffer log : List ℕ} → History g o₀ buffer₀ log₀ o buffer log → (bytes buffer' log' replies : List ℕ) {s : Stepped} {buffer₁ log₁ : List ℕ}
      → (is_going o.status ≡ true → same_as g (length bytes) (length buffer') (length log') ≡ false) → RunFollows o bytes buffer' log' replies s buffer₁ log₁ → History g o₀ buffer₀ log₀ s.op buffer log
  -- a query
  queried : {o : Op} {buffer log : List ℕ} → History g o₀ buffer₀ log₀ o buffer log → (bytes : List ℕ) {a : Asked} → DueFollows o bytes a → History g o₀ buffer₀ log₀ o buffer log

-- accesses, and then a result
abbrev pub before : List Access → Result → Result
before [] r = r
before (a ∷ l) r = logging a (before l r)

-- where a call stands over lists, in the log of so many words. The accesses made are the script's, each the one that was due, and it stands where they lead; none is past the room; it is
-- done only where the script is; and once it has ended, its run without replies is at its end too
pub record Stands (s : State) (room : ℕ) (p : Point) : Type 0 where
  pub makes : Makes s p.made
  pub is : p.state ≡ after s p.made
  pub short : 2 * length p.made ≤ room
  pub done : p.answer ≡ Done → status_in p.state ≡ Done
  pub over : is_going p.answer ≡ false → runs (room / 2 - length p.made) p.state [] ≡ halt p.answer p.state (room / 2 - length p.made) []

-- what holds after it, of whatever call was begun
pub record InOrder (c : Script) (g : Lending) (log₀ : List ℕ) (o : Op) (buffer log : List ℕ) : Type 0 where
  -- the accesses made, and where its script stands after them
  pub made : List Access
  pub state : State
  -- the log holds them, then the words that were there; the buffer holds the bytes that they brought, then what was there
  pub logged : log ≡ encode made ++ drop (2 * length made) log₀
  pub stored : buffer ≡ overlaid (bytes_in state) g.buffer
  -- the run of its script over the replies used, and whatever comes behind them, makes these accesses first and goes on from there
  pub first : (more : List ℕ) → called c (g.room / 2) (replies_of made ++ more) ≡ before made (runs (g.room / 2 - length made) state more)
  -- one that has ended is that run, over the replies used: accesses, state, and the answer with its values and counts
  pub ended : is_going o.status ≡ false
      → ((called c (g.room / 2) (replies_of made)).log ≡ made) × (((called c (g.room / 2) (replies_of made)).state ≡ state) × (answer_of o ≡ answered_of (called c (g.room / 2) (replies_of made))))
  -- one under way goes on: an access is due
  pub goes : is_going o.status ≡ true
      → (want state ≢ nothing) × (answer_of o ≡ record { says = goes_on; used = 2 * length made; replies = reads_of made; counted = count_in state })
