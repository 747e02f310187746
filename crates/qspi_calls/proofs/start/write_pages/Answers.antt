use native.Mathlib.Omega.{arith}
use Rattle.qspi_calls.proofs.start.write_pages.Goals as goal
use Rattle.qspi_calls.proofs.Begins as begins

-- src/start.rt:469:9
pub returns-then-out_of_range-clause-begins : goal.returns-then-out_of_range-clause-begins
returns-then-out_of_range-clause-begins c =
    begins.write_pages_lem _ _ _ (omega (arith, c.well_formed)) _ (simp (c.over.ensures.start, c.if-out_of_range.true, ← c.out_of_range.ensures.range, c.programming-job.ensures.job))

-- src/start.rt:463:1
pub returns-clause-begins : goal.returns-clause-begins
returns-clause-begins c =
    begins.write_pages_lem _ _ _ (omega (arith, c.well_formed)) _ (simp (c.opened.ensures.start, c.next_page.ensures.turned, c.at.ensures.place, c.if-out_of_range.false, ← c.out_of_range.ensures.range, c.programming-job.ensures.job))
