-- What the accesses of `erase_sector`, `program` and `write_pages` show, whole transfer by whole transfer: document 01, "After program or erase the status is read by a whole transfer each
-- time, the error bit (6 for program, 5 for erase) tested before bit 0. On error: clear status, write disable, refuse." The terms of Failures in proofs/.
use Rattle.std.specs.Prelude.{ℕ, ◌+◌, ◌%◌, ◌≤◌, ◌≡◌, true, false, List, [], ◌∷◌, ◌++◌, length}
use Rattle.zynq7000.specs.Bits.{is_set}
use Rattle.zynq7000.specs.declared.qspi.Access.{Access}
use Rattle.zedboard_bsp.specs.Limits.{last_end, max_data_bytes_per_write, page_size}
use Rattle.qspi_operation.specs.Machine.{Transfer}
use Rattle.qspi_operation.specs.Whole.{Whole}
use Rattle.qspi_calls.specs.Chunks.{Chunk, chunks}
use Rattle.qspi_calls.specs.Calls.{enabling, disabling, clearing, status_reading, programming, top}

-- status transfers that show busy and no error
pub data Busy (bit : ℕ) : List Access → Type 0 where
  no_more : Busy bit []
  once_more : {l m : List Access} {rs : List ℕ} → Whole status_reading l rs → is_set bit (top rs) ≡ false → is_set 0 (top rs) ≡ true → Busy bit m → Busy bit (l ++ m)

-- write enable, the work, the status loop; the status transfer that ended it took these replies
pub record Looped (bit : ℕ) (x : Transfer) (log : List Access) (rs : List ℕ) : Type 0 where
  pub enable : List Access
  pub work : List Access
  pub busy : List Access
  pub last : List Access
  pub enabled : (qs : List ℕ) × Whole enabling enable qs
  pub worked : (qs : List ℕ) × Whole x work qs
  pub polled : Busy bit busy
  pub shown : Whole status_reading last rs
  pub is : log ≡ enable ++ (work ++ (busy ++ last))

-- that status shows neither the error nor busy
pub record Settles (bit : ℕ) (x : Transfer) (log : List Access) : Type 0 where
  pub rs : List ℕ
  pub looped : Looped bit x log rs
  pub sound : is_set bit (top rs) ≡ false
  pub idle : is_set 0 (top rs) ≡ false

-- the log ends with clear status and write disable
pub record Disarmed (front log : List Access) : Type 0 where
  pub clear : List Access
  pub disable : List Access
  pub clears : (qs : List ℕ) × Whole clearing clear qs
  pub disables : (qs : List ℕ) × Whole disabling disable qs
  pub is : log ≡ front ++ (clear ++ disable)

-- that status shows the error; clear status and write disable follow
pub record Fails (bit : ℕ) (x : Transfer) (log : List Access) : Type 0 where
  pub rs : List ℕ
  pub front : List Access
  pub looped : Looped bit x front rs
  pub error : is_set bit (top rs) ≡ true
  pub disarmed : Disarmed front log

-- ---- the chunks of `write_pages`

-- none of the rules of `program` applies
pub record Accepted (c : Chunk) : Type 0 where
  pub range : c.address + length c.bytes ≤ last_end
  pub small : length c.bytes ≤ max_data_bytes_per_write
  pub fours : length c.bytes % 4 ≡ 0
  pub page : c.address % page_size + length c.bytes ≤ page_size

-- chunks that are finished one after the other, by their accesses
pub data Finished : List Chunk → List Access → Type 0 where
  none_yet : Finished [] []
  one_more : {c : Chunk} {l : List Chunk} {log more : List Access} → Accepted c → Settles 6 (programming c.address c.bytes) log → Finished l more → Finished (c ∷ l) (log ++ more)

-- a call comes to a chunk: those before it are finished, by these accesses
pub record ComesTo (a : ℕ) (bs : List ℕ) (c : Chunk) (log : List Access) : Type 0 where
  pub before : List Chunk
  pub behind : List Chunk
  pub is : before ++ c ∷ behind ≡ chunks a bs
  pub finished : Finished before log
