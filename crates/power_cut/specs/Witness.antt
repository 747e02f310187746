-- What it takes for the premises of the power-cut statement to be met: demand 3, "Premises: ..". `possible` in proofs/ shows it of every call,
-- those that rules 4 and 5 of document 01 refuse after finished chunks included, from every device at rest and at every cut point;
-- `possible_row` of every row of them.
use Rattle.std.specs.Prelude.{ℕ, ◌+◌, ◌%◌, ◌≤◌, ◌≡◌, cond, List, [], ◌∷◌, ◌++◌, map, ltb, eqb, length, take}
use Rattle.std.proofs.Math.Option.{Option, none, some}
use Rattle.zynq7000.specs.declared.qspi.Access.{Access}
use Rattle.zedboard_bsp.specs.Limits.{last_end, page_size}
use Rattle.qspi_script.specs.declared.Status.{Status}
use Rattle.qspi_script.specs.declared.Status.TheVariants.{Done, OutOfRange, NotAligned, CrossesPageBoundary}
use Rattle.qspi_operation.specs.Machine.{Result, count_in, called}
use Rattle.qspi_calls.specs.Chunks.{Chunk, chunks}
use Rattle.qspi_calls.specs.Calls.{write_pages}
use Rattle.power_cut.specs.Flash.{Array, AfterCut}
use Rattle.power_cut.specs.Controller.{Device, flash_of, Trace}
use Rattle.power_cut.specs.Statement.{total, Save, Each, row_log}
use Rattle.power_cut.specs.Row.{Precedes}

-- ---- how a call ends that the state does not end (21 to 24), and the chunks finished then

-- rules 4 and 5 on a chunk
abbrev pub refusal : Chunk → Option Status
refusal c = cond (eqb (length c.bytes % 4) 0) (cond (ltb page_size (c.address % page_size + length c.bytes)) (some CrossesPageBoundary) none) (some NotAligned)

abbrev pub unless_refused : Option Status → Status → Status
unless_refused none later = later
unless_refused (some a) later = a

abbrev pub and_before : Option Status → Chunk → List Chunk → List Chunk
and_before none c later = c ∷ later
and_before (some a) c later = []

-- the first refusal, or success
unfoldable pub end_of : List Chunk → Status
end_of [] = Done
end_of (c ∷ l) = unless_refused (refusal c) (end_of l)

-- the chunks before it
unfoldable pub done_of : List Chunk → List Chunk
done_of [] = []
done_of (c ∷ l) = and_before (refusal c) c (done_of l)

-- "1 on the whole length first"
unfoldable pub comes_to : ℕ → List ℕ → Status
unfolding end_of
comes_to a bs = cond (ltb last_end (a + length bs)) OutOfRange (end_of (chunks a bs))

unfoldable pub finishes : ℕ → List ℕ → List Chunk
unfolding done_of
finishes a bs = cond (ltb last_end (a + length bs)) [] (done_of (chunks a bs))

-- ---- the premises

-- those of `cut` after k accesses: a trace, and an array that the cut leaves
pub record Met (before : Device) (log : List Access) (k : ℕ) : Type 0 where
  pub after : Device
  pub trace : Trace before (take k log) after
  pub new : Array
  pub left : AfterCut (flash_of after) new

-- a run that comes to its end and meets them at each of its cut points
pub record Comes (a : ℕ) (bs : List ℕ) (before : Device) (r : Result) : Type 0 where
  pub met : (k : ℕ) → Met before r.log k
  pub answer : r.answer ≡ comes_to a bs
  pub count : count_in r.state ≡ total (finishes a bs)

-- with these replies, and any more of them, and with room for so many accesses
pub record Possible (a : ℕ) (bs : List ℕ) (before : Device) : Type 0 where
  pub replies : List ℕ
  pub accesses : ℕ
  pub comes : (room : ℕ) (more : List ℕ) → accesses ≤ room → Comes a bs before (called (write_pages a bs) room (replies ++ more))

-- ---- of a row

-- what a call is handed
abbrev pub asks : Save → ℕ × List ℕ
asks c = (c.address, c.bytes)

-- a row of these calls, each with a room and replies with which it ends by neither 23 nor 24, that meets the premises at each of its cut points
pub record PossibleRow (calls : List (ℕ × List ℕ)) (before : Device) : Type 0 where
  pub row : List Save
  pub of_calls : map asks row ≡ calls
  pub precede : Each Precedes row
  pub answers : Each (λ c. c.answer ≡ comes_to c.address c.bytes) row
  pub counts : Each (λ c. c.count ≡ total (finishes c.address c.bytes)) row
  pub met : (k : ℕ) → Met before (row_log row) k
