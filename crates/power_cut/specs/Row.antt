-- The rows of saves that the power-cut statement is promised of: document 02, U2: "every row of write_pages calls as well, refused ones included, none but the last ended by 23 or 24".
use Rattle.std.specs.Prelude.{ℕ, ◌<◌, ◌≡◌, List, [], ◌∷◌, get_or}
use Rattle.qspi_script.specs.declared.Status.TheVariants.{RepliesEnded, LogFull}
use Rattle.qspi_operation.specs.Machine.{Result, count_in, called}
use Rattle.qspi_calls.specs.Calls.{write_pages}
use Rattle.power_cut.specs.Statement.{Save}

-- the save of a result
abbrev pub save_of : ℕ → List ℕ → Result → Save
save_of a bs r = record { address = a; bytes = bs; accesses = r.log; answer = r.answer; count = count_in r.state }

-- a run of `write_pages`, with its own address and data, room for so many accesses, and its own replies
pub record IsRun (c : Save) : Type 0 where
  pub octets : (i : ℕ) → get_or c.bytes i 0 < 256
  pub room : ℕ
  pub replies : List ℕ
  pub is : c ≡ save_of c.address c.bytes (called (write_pages c.address c.bytes) room replies)

-- ended by neither 23 nor 24, so that another call may follow
pub record Precedes (c : Save) : Type 0 where
  pub runs : IsRun c
  pub read : c.answer ≡ RepliesEnded → ⊥
  pub logged : c.answer ≡ LogFull → ⊥

pub data Row : List Save → Type 0 where
  empty : Row []
  last : {c : Save} → IsRun c → Row (c ∷ [])
  more : {c : Save} {row : List Save} → Precedes c → Row row → Row (c ∷ row)
