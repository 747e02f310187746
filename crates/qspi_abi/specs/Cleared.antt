-- What the exported `erase_sectors` promises beside its equation: document 02, U1.
use Rattle.std.specs.Prelude.{ℕ, ◌*◌, ◌≡◌, List, [], ◌++◌, length, drop}
use Rattle.zynq7000.specs.Access.{encode}
use Rattle.qspi_script.specs.Answer.{said_by}
use Rattle.qspi_calls.specs.OneByOne.{one_by_one}
use Rattle.power_cut.specs.SectorPromise.{Cleared, sectors_answer}
use Rattle.power_cut.specs.declared.SectorsRan.{SectorsRan}
use Rattle.qspi_abi.specs.Numbers.{answer_number, with_place}
use Rattle.qspi_abi.specs.declared.QspiSectorsRan.{QspiSectorsRan}

-- "the log is that of the single erases in list order, each on the replies and driver state that the one before left, up to where it is stopped"
pub record SingleNumbers (l : List ℕ) (n : ℕ) (rs log : List ℕ) (r : QspiSectorsRan) (log₁ : List ℕ) : Type 0 where
  pub ends : r.answer ≡ answer_number (said_by (one_by_one l n rs).answer [])
  pub counts : r.finished ≡ (one_by_one l n rs).finished
  pub logged : log₁ ≡ encode (one_by_one l n rs).log ++ drop (2 * length (one_by_one l n rs).log) log

-- the numbers are those of an answer whose count is what the log shows
pub record ClearedNumbers (l : List ℕ) (r : QspiSectorsRan) (log : List ℕ) : Type 0 where
  pub answer : SectorsRan
  pub numbers : r ≡ with_place (sectors_answer answer) answer.place
  pub shown : Cleared l answer log
