-- What is seen of a log, in numbers: each list that specs/Observer of power_cut keeps, by what a `Watch` keeps of it. Document 01, "The flash,
-- as defined here".
use Rattle.std.specs.Prelude.{Option, Some, None, ◌%◌, ◌^◌, ℕ, List, [], ◌∷◌, length, take}
use Rattle.zedboard_bsp.specs.Words.{word_of}
use Rattle.qspi_calls.specs.Chunks.{Chunk}
use Rattle.power_cut.specs.Observer as observer
use Rattle.power_cut.specs.Statement.{total}
use Rattle.log_observer.specs.declared.Doubt.{Doubt}
use Rattle.log_observer.specs.declared.Transfer.{Transfer}
use Rattle.log_observer.specs.declared.Watch.{Watch}
use Rattle.log_observer.specs.Watching.{no_doubt}

-- chunks by their number and their bytes, both modulo 2^32, the first of them by its address and its length
abbrev pub doubt_of : List Chunk → Doubt
doubt_of [] = no_doubt
doubt_of (c ∷ q) = record { first = Some (record { address = c.address; length = length c.bytes }); chunks = length (c ∷ q) % 2 ^ 32; bytes = total (c ∷ q) % 2 ^ 32 }

-- a transfer's bytes by their number and the first four of them, the first lowest
abbrev pub opened_of : List ℕ → ℕ → Transfer
opened_of sent reply = record { sent = length sent; head = word_of (take 4 sent); reply = reply }

abbrev pub transfer_of : observer.Transfer → Option Transfer
transfer_of observer.closed = None
transfer_of (observer.opened sent reply) = Some (opened_of sent reply)

-- the chunks finished by their number and their bytes, both modulo 2^32
abbrev pub shown : observer.Observed → Watch
shown o = record {
  transfer = transfer_of o.transfer;
  up = o.up;
  doubt = doubt_of o.doubt;
  finished = length o.finished % 2 ^ 32;
  bytes = total o.finished % 2 ^ 32;
}
