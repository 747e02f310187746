-- A call over lists between two steps. Document 01, "What changes shape": "each step of one not ended makes and logs one access (none at 23 to 25)", "The access due can be asked for
-- beforehand without effect", "a step is handed one reply or none, used only by a read"; and "What the state can bring on".
use Rattle.std.specs.Prelude.{ℕ, ◌+◌, ◌-◌, ◌*◌, ◌/◌, Bool, true, false, ◌&&◌, List, [], ◌∷◌, ◌++◌, length, drop, ◌==◌, nat_le}
use Rattle.std.proofs.lemmas.List.Edits.{sets}
use Rattle.zynq7000.specs.Number as paper
use Rattle.zynq7000.specs.Access.{encode}
use Rattle.zynq7000.specs.declared.qspi.Access.{Access}
use Rattle.zynq7000.specs.declared.qspi.Access.TheVariants as access
use Rattle.qspi_script.specs.declared.Status.{Status}
use Rattle.qspi_script.specs.declared.Status.TheVariants.{RepliesEnded, LogFull}
use Rattle.qspi_script.specs.Answer.{Answered, said, said_by}
use Rattle.std.specs.Prelude.{Option, Some, None}
use Rattle.qspi_operation.specs.Machine.{Want, reads, writes, nothing, State, want, next, status_in, values_in, count_in, Result, runs, reads_of}
use Rattle.qspi_operation.specs.Step.{is_going}

-- what a call was lent at its start: the data, the read buffer as it was, and the words of log
pub record Lending : Type 0 where
  pub bytes : List ℕ
  pub buffer : List ℕ
  pub room : ℕ

-- whether memory of these lengths is as long as what was lent at the start
abbrev pub same_as : Lending → ℕ → ℕ → ℕ → Bool
same_as g data₁ buffer log = data₁ == length g.bytes && (buffer == length g.buffer && log == g.room)

-- where its script stands, the accesses made so far, and its answer so far
pub record Point : Type 0 where
  pub state : State
  pub made : List Access
  pub answer : Status

abbrev pub reached : State → List Access → Point
reached s l = record { state = s; made = l; answer = status_in s }

abbrev pub halted : Point → Status → Point
halted p a = record { state = p.state; made = p.made; answer = a }

-- before the first step
abbrev pub outset : State → Point
outset s = reached s []

-- ---- the access due

abbrev pub unless_over : Bool → Want → Want
unless_over true w = w
unless_over false w = nothing

-- none once the call has ended, by 23 or 24 too
abbrev pub wanted : Point → Want
wanted p = unless_over (is_going p.answer) (want p.state)

-- ---- a step

-- where there is room: the access that is due is made, 23 where a read is due and no reply is handed over
abbrev pub tried : Want → Option ℕ → Point → Point
tried nothing r p = p
tried (reads o) (Some v) p = reached (next p.state v) (p.made ++ access.Read o v ∷ [])
tried (reads o) None p = halted p RepliesEnded
tried (writes o v) r p = reached (next p.state v) (p.made ++ access.Write o v ∷ [])

-- where there is none: 24
abbrev pub filled : Want → Point → Point
filled nothing p = p
filled (reads o) p = halted p LogFull
filled (writes o v) p = halted p LogFull

abbrev pub room_for : Bool → Want → Option ℕ → Point → Point
room_for true w r p = tried w r p
room_for false w r p = filled w p

-- "fewer than two words of log left"; 24 before 23
abbrev pub step_at : ℕ → Option ℕ → Point → Point
step_at room r p = room_for (nat_le (2 * length p.made + 2) room) (wanted p) r p

-- the accesses that it makes: one or none
abbrev pub access_if : Bool → Want → Option ℕ → List Access
access_if false w r = []
access_if true nothing r = []
access_if true (reads o) (Some v) = access.Read o v ∷ []
access_if true (reads o) None = []
access_if true (writes o v) r = access.Write o v ∷ []

abbrev pub access_at : ℕ → Option ℕ → Point → List Access
access_at room r p = access_if (nat_le (2 * length p.made + 2) room) (wanted p) r

-- the log after it: the words of that access after the used ones, all others kept
abbrev pub logged_at : ℕ → Option ℕ → Point → List ℕ → List ℕ
logged_at room r p log = sets log (2 * length p.made) (encode (access_at room r p))

-- after steps that were handed these replies
abbrev pub steps_at : ℕ → List (Option ℕ) → Point → Point
steps_at room [] p = p
steps_at room (r ∷ rs) p = steps_at room rs (step_at room r p)

-- ---- a run: the rest of the call, over the replies that it has not used

abbrev pub rest : ℕ → List ℕ → Point → Result
rest room replies p = runs (room / 2 - length p.made) p.state (drop (reads_of p.made) replies)

abbrev pub end_of : Point → Result → Point
end_of p r = record { state = r.state; made = p.made ++ r.log; answer = r.answer }

abbrev pub ran_at : ℕ → List ℕ → Point → Point
ran_at room replies p = end_of p (rest room replies p)

-- the log after it
abbrev pub ran_log : ℕ → List ℕ → Point → List ℕ → List ℕ
ran_log room replies p log = sets log (2 * length p.made) (encode (rest room replies p).log)

-- ---- answers

-- number and values, used counts, bytes programmed or sectors finished
abbrev pub answer_at : Point → Answered
answer_at p = record { says = said_by p.answer (values_in p.state); used = 2 * length p.made; replies = reads_of p.made; counted = count_in p.state }

-- 25, with the counts so far
abbrev pub changed_at : Point → Answered
changed_at p = record { says = said (paper.refused paper.LentLengthChanged); used = 2 * length p.made; replies = reads_of p.made; counted = count_in p.state }

-- of a whole run
abbrev pub answered_of : Result → Answered
answered_of r = record { says = said_by r.answer (values_in r.state); used = 2 * length r.log; replies = reads_of r.log; counted = count_in r.state }
