-- The power-cut statement: demand 3 of the request, in the terms of document 01, of a row of saves, as document 02, U2, asks. One save is the row
-- of one. docs/ARCHITECTURE.md, "How to read the power-cut statement".
use Rattle.std.specs.Prelude.{ℕ, ◌+◌, ◌-◌, ◌%◌, ◌≤◌, ◌<◌, ◌≡◌, cond, ◌&&◌, List, [], ◌∷◌, ◌++◌, leb, ltb, length, get_or, take}
use Rattle.std.proofs.Math.Option.{Option, none, some}
use Rattle.zynq7000.specs.declared.qspi.Access.{Access}
use Rattle.zedboard_bsp.specs.Limits.{page_size, recommended_program_page_size}
use Rattle.qspi_script.specs.declared.Status.{Status}
use Rattle.qspi_script.specs.declared.Status.TheVariants.{Going, Done, RepliesEnded, LogFull}
use Rattle.qspi_calls.specs.Chunks.{Chunk, chunks, Among}
use Rattle.power_cut.specs.Flash.{Array, anded, AfterCut}
use Rattle.power_cut.specs.Controller.{Device, flash_of, Trace, Rests}
use Rattle.power_cut.specs.Observer.{Observed, observed}

-- ---- chunks

-- the byte at x is one of the chunk's
abbrev pub In : ℕ → Chunk → Type 0
In x c = (c.address ≤ x) × (x < c.address + length c.bytes)

unfoldable pub total : List Chunk → ℕ
total [] = 0
total (c ∷ l) = length c.bytes + total l

-- "at most one chunk, the next, is in doubt, at most 128 bytes within one page": of the chunks in doubt, and those that are not finished
pub data NextOnly : List Chunk → List Chunk → Type 0 where
  no_doubt : {left : List Chunk} → NextOnly [] left
  the_next : {c : Chunk} {left : List Chunk} → length c.bytes ≤ recommended_program_page_size → c.address % page_size + length c.bytes ≤ page_size → NextOnly (c ∷ []) (c ∷ left)

-- the byte that a chunk brings to x, if any
abbrev pub brought : Chunk → ℕ → Option ℕ
brought c x = cond (leb c.address x && ltb x (c.address + length c.bytes)) (some (get_or c.bytes (x - c.address) 0)) none

-- a byte at x, "AND what each finished chunk, if any, brought there"
unfoldable pub anding : List Chunk → ℕ → ℕ → ℕ
anding [] x v = v
anding (c ∷ l) x v = anding l x (anded v (brought c x))

-- ---- a row of saves

-- a call of `write_pages` as it went: address and data, its accesses, its answer, and the count of programmed bytes in that
pub record Save : Type 0 where
  pub address : ℕ
  pub bytes : List ℕ
  pub accesses : List Access
  pub answer : Status
  pub count : ℕ

abbrev pub Each : (Save → Type 0) → List Save → Type 0
Each P [] = Unit {0}
Each P (c ∷ row) = P c × Each P row

-- the accesses of a row, one save behind the other
unfoldable pub row_log : List Save → List Access
row_log [] = []
row_log (c ∷ row) = c.accesses ++ row_log row

-- ---- the array after a cut, against what the log up to the cut shows

-- right behind a call: its finished chunks are those that its answer counts, and unless it goes on or 23 or 24 ended it none is in doubt
pub record AtEnd (c : Save) (first doubt : List Chunk) : Type 0 where
  pub counted : total first ≡ c.count
  pub settled : (c.answer ≡ Going → ⊥) → (c.answer ≡ RepliesEnded → ⊥) → (c.answer ≡ LogFull → ⊥) → doubt ≡ []

-- of a row that is cut after k accesses, the chunks finished and the chunks in doubt: "at most one chunk in doubt over all of them"
pub data CallByCall : List Save → ℕ → List Chunk → List Chunk → Type 0 where
  no_call : CallByCall [] 0 [] []
  -- the call at hand, with the cut within it or right behind it: "the finished chunks are the first of the data in order, and at most one chunk,
  -- the next, is in doubt"
  at_hand : {c : Save} {row : List Save} {k : ℕ} {first doubt : List Chunk} (left : List Chunk) → k ≤ length c.accesses → first ++ left ≡ chunks c.address c.bytes → NextOnly doubt left
      → (k ≡ length c.accesses → AtEnd c first doubt) → CallByCall (c ∷ row) k first doubt
  -- a call that lies wholly before the cut: the finished chunks are the first of its data, as many as its answer counts
  past : {c : Save} {row : List Save} {k : ℕ} {more doubt : List Chunk} (first left : List Chunk) → length c.accesses < k → first ++ left ≡ chunks c.address c.bytes → total first ≡ c.count
      → CallByCall row (k - length c.accesses) more doubt → CallByCall (c ∷ row) k (first ++ more) doubt

pub record Kept (row : List Save) (k : ℕ) (old : Array) (o : Observed) (new : Array) : Type 0 where
  pub chunks_are : CallByCall row k o.finished o.doubt
  -- "each byte not now in doubt being the one from before the row AND what each finished chunk, if any, brought there"
  pub bytes_are : (x : ℕ) → ((c : Chunk) → Among c o.doubt → In x c → ⊥) → new x ≡ anding o.finished x (old x)

-- ---- the claim

pub record PowerCut (row : List Save) : Type 0 where
  -- "if the power fails before the call's first register access or after any of them": k is the cut point, a number of accesses over the whole
  -- row, "from 0 to all". On whatever device, schedule, replies and array. Premises: the device rests before the row, and the log so far is a
  -- trace of it; one trace over all of them is "each on the flash and controller as the one before left them". Whatever the cut leaves:
  pub cut : (k : ℕ) → k ≤ length (row_log row) → (before after : Device) (old new : Array) → Rests old before → Trace before (take k (row_log row)) after
      → AfterCut (flash_of after) new → Kept row k old (observed (take k (row_log row))) new
  -- "The count of programmed bytes in the answer, a refusal included, is the sum of the lengths of the chunks finished at the call's end":
  -- whatever the replies
  pub counted : Each (λ c. c.count ≡ total (observed c.accesses).finished) row
  -- "and the whole length where the call succeeds"
  pub whole : Each (λ c. c.answer ≡ Done → c.count ≡ length c.bytes) row
