-- The power-cut statement, demand 3, of the exported `write_pages`.
use Rattle.std.specs.Prelude.{ℕ, ◌≡◌, List, length}
use Rattle.power_cut.specs.Promise.{Saved, answer_of}
use Rattle.power_cut.specs.declared.PagesRan.{PagesRan}
use Rattle.qspi_abi.specs.Numbers.{pages}
use Rattle.qspi_abi.specs.declared.QspiPagesRan.{QspiPagesRan}

-- the numbers are those of an answer of which the statement holds
pub record SavedNumbers (a : ℕ) (bs : List ℕ) (r : QspiPagesRan) (log : List ℕ) : Type 0 where
  pub answer : PagesRan
  pub numbers : r ≡ pages (answer_of answer)
  pub saved : Saved a bs answer log
  -- "and the whole length where the call succeeds"
  pub whole : r.answer ≡ 0 → r.programmed ≡ length bs
