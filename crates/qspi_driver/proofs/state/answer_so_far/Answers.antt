use Rattle.qspi_driver.proofs.Promised.{answers}
use Rattle.qspi_driver.proofs.state.answer_so_far.Goals as goal

-- src/state.rt:218:1
pub returns : goal.returns
returns c =
    record { progress = answers _ (rw (c.counted.ensures.count, c.given.ensures.given, c.kept.ensures.kept, c.kept-2.ensures.kept, c.kept-3.ensures.kept, c.kept-4.ensures.kept)) }
