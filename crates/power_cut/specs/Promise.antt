-- The power-cut statement of what the code hands back: the answer, and the log as it lies in memory (document 01, "Log and printer").
use Rattle.std.specs.Prelude.{ℕ, ◌≡◌, false, List, [], ◌∷◌, ◌++◌, take}
use Rattle.zynq7000.specs.Access.{encode, Loggable}
use Rattle.zynq7000.specs.declared.qspi.Access.{Access}
use Rattle.qspi_script.specs.Answer.{Answered, said_by}
use Rattle.qspi_operation.specs.Step.{is_going}
use Rattle.power_cut.specs.Statement.{Save, Each, PowerCut}
use Rattle.power_cut.specs.Row.{IsRun, Precedes}
use Rattle.power_cut.specs.declared.PagesRan.{PagesRan}

-- 01's number, the used counts and the bytes programmed; `write_pages` has no other values
abbrev pub answer_of : PagesRan → Answered
answer_of r = record { says = said_by r.ran.answer []; used = r.ran.used; replies = r.ran.replies; counted = r.programmed }

-- the save that it is, by its accesses
abbrev pub save_by : ℕ → List ℕ → List Access → PagesRan → Save
save_by a bs l r = record { address = a; bytes = bs; accesses = l; answer = r.ran.answer; count = r.programmed }

-- the used words of the log are these accesses, each to a register's offset (so there are no others of which they are the words:
-- `one_log` in proofs/Offsets)
pub record Saved (a : ℕ) (bs : List ℕ) (r : PagesRan) (log : List ℕ) : Type 0 where
  pub accesses : List Access
  pub is_log : take r.ran.used log ≡ encode accesses
  pub to_registers : Loggable accesses
  -- once it has ended, it is a run of some room and replies: where it is ended by neither 23 nor 24, it may stand among the saves before another one
  pub runs : is_going r.ran.answer ≡ false → IsRun (save_by a bs accesses r)
  -- the statement holds of every row of earlier saves with this one behind it, of its answer and its count; alone it is the row of one
  pub claim : (earlier : List Save) → Each Precedes earlier → PowerCut (earlier ++ save_by a bs accesses r ∷ [])
