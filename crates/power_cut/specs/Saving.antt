-- A save under way: `write_pages` stepped one access at a time, in any order of steps. Demand 3 holds of it after each of them, by the accesses so far.
use Rattle.std.specs.Prelude.{ℕ, ◌*◌, ◌<◌, ◌≡◌, true, false, List, [], length, get_or, take}
use Rattle.zynq7000.specs.Access.{encode}
use Rattle.qspi_operation.specs.declared.Op.{Op}
use Rattle.qspi_operation.specs.Step.{is_going, counted_of}
use Rattle.qspi_operation.specs.Machine.{begin}
use Rattle.qspi_operation.specs.Points.{Lending, same_as, Point}
use Rattle.qspi_operation.specs.Follows.{Follows}
use Rattle.qspi_operation.specs.Orders.{Stands}
use Rattle.qspi_calls.specs.Calls.{write_pages}
use Rattle.power_cut.specs.Promise.{Saved}
use Rattle.power_cut.specs.declared.PagesRan.{PagesRan}

-- what an operation shows so far
abbrev pub so_far : Op → PagesRan
so_far o = record { ran = record { answer = o.status; used = o.used; replies = o.replies }; programmed = counted_of o }

-- what a save is lent at its start: data, no buffer, and a log
abbrev pub lending : List ℕ → List ℕ → Lending
lending bs log = record { bytes = bs; buffer = []; room = length log }

-- a save of bs at a, with this operation at hand and this log as the last step left it
pub record Saving (a : ℕ) (bs : List ℕ) (o : Op) (log : List ℕ) : Type 0 where
  -- the power-cut statement of the log so far, of the answer and of the count so far
  pub saved : Saved a bs (so_far o) log
  -- what the next step needs: the data is bytes, and the operation follows the script, at the accesses that the log holds
  pub octets : (i : ℕ) → get_or bs i 0 < 256
  pub point : Point
  pub stands : Stands (begin (write_pages a bs) [] 0) (length log) point
  pub follows : Follows (lending bs log) point o
  pub is_log : take (2 * length point.made) log ≡ encode point.made

-- what a step and a run promise of a save: o was at hand and was lent this memory, o₁ is at hand then
pub record KeepsSaving (o : Op) (bytes buffer log : List ℕ) (o₁ : Op) (log₁ : List ℕ) : Type 0 where
  -- lent the save's own data and log, it is a save after it
  pub goes : (a : ℕ) → length buffer ≡ 0 → Saving a bytes o log → Saving a bytes o₁ log₁
  -- lent other memory, of another length or after the end, it is the same save, and the memory lent is the same
  pub beside : (a : ℕ) (bs own : List ℕ) → Saving a bs o own → (is_going o.status ≡ true → same_as (lending bs own) (length bytes) (length buffer) (length log) ≡ false)
      → Saving a bs o₁ own × (log₁ ≡ log)
