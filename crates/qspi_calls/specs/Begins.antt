-- What a start promises: the operation follows the script of its call from its beginning, and has ended where the script ends at once. Document 01, "What changes shape": "an
-- operation is a state by value, ended at its start if no access is due".
use Rattle.std.specs.Prelude.{ℕ, ◌≡◌, List, [], length}
use Rattle.qspi_operation.specs.declared.Op.{Op}
use Rattle.qspi_operation.specs.Machine.{Script}
use Rattle.qspi_operation.specs.Follows.{Begun}
use Rattle.qspi_calls.specs.Sectors.{numbers}
use Rattle.qspi_calls.specs.Calls.{erase_sectors}

-- a call that is lent only a log of so many words
abbrev pub Begins : ℕ → Script → Op → Type 0
Begins log c o = Begun (record { bytes = []; buffer = []; room = log }) c o

-- data of this length too, whatever its bytes
abbrev pub BeginsWith : ℕ → ℕ → (List ℕ → Script) → Op → Type 0
BeginsWith n log c o = (bs : List ℕ) → length bs ≡ n → Begun (record { bytes = bs; buffer = []; room = log }) (c bs) o

-- a read buffer of this length too, whatever it holds
abbrev pub BeginsInto : ℕ → ℕ → Script → Op → Type 0
BeginsInto n log c o = (old : List ℕ) → length old ≡ n → Begun (record { bytes = []; buffer = old; room = log }) c o

-- a list of sectors, lent as data, a byte a sector
abbrev pub BeginsList : List ℕ → ℕ → Op → Type 0
BeginsList l log o = Begun (record { bytes = numbers l; buffer = []; room = log }) (erase_sectors l) o
