-- The power-cut statement of one save in the words of demand 3: what it says of the row of one, as `one_call` in proofs/OneCall shows.
use Rattle.std.specs.Prelude.{ℕ, ◌+◌, ◌≤◌, ◌<◌, ◌≡◌, List, ◌++◌, length, get_or, take}
use Rattle.std.specs.Int.Bits.{bit_and}
use Rattle.qspi_script.specs.declared.Status.TheVariants.{Done}
use Rattle.qspi_calls.specs.Chunks.{Chunk, chunks, Among}
use Rattle.power_cut.specs.Flash.{Array, AfterCut}
use Rattle.power_cut.specs.Controller.{Device, flash_of, Trace, Rests}
use Rattle.power_cut.specs.Observer.{Observed, observed}
use Rattle.power_cut.specs.Statement.{In, total, NextOnly, Save}

pub record KeptBy (c : Save) (old : Array) (o : Observed) (new : Array) : Type 0 where
  -- "the finished chunks are the first of the data in order"
  pub left : List Chunk
  pub first : o.finished ++ left ≡ chunks c.address c.bytes
  -- "and at most one chunk, the next, is in doubt"
  pub next : NextOnly o.doubt left
  -- "Each byte of a finished chunk is the byte there before the call AND its data byte"
  pub written : (b : Chunk) → Among b o.finished → (i : ℕ) → i < length b.bytes
      → new (b.address + i) ≡ bit_and (old (b.address + i)) (get_or b.bytes i 0)
  -- "every byte in neither is the one before the call"
  pub same : (x : ℕ) → ((b : Chunk) → Among b o.finished → In x b → ⊥) → ((b : Chunk) → Among b o.doubt → In x b → ⊥) → new x ≡ old x

pub record OneCut (c : Save) : Type 0 where
  pub cut : (k : ℕ) → k ≤ length c.accesses → (before after : Device) (old new : Array) → Rests old before → Trace before (take k c.accesses) after
      → AfterCut (flash_of after) new → KeptBy c old (observed (take k c.accesses)) new
  pub counted : c.count ≡ total (observed c.accesses).finished
  pub whole : c.answer ≡ Done → c.count ≡ length c.bytes
