use borrow.Author.Tests.{eq-eqb, ne_eqb}
use native.Mathlib.Omega.{arith}
use Rattle.qspi_calls.proofs.start.program.Goals as goal
use Rattle.qspi_calls.proofs.Begins as begins

-- src/start.rt:431:9
pub returns-then-out_of_range-clause-begins : goal.returns-then-out_of_range-clause-begins
returns-then-out_of_range-clause-begins c =
    begins.program _ _ _ (omega (arith, c.well_formed)) _ (simp (c.over.ensures.start, c.if-out_of_range.true, ← c.out_of_range.ensures.range, c.programming-job.ensures.job))

-- src/start.rt:434:9
pub returns-then-too_large-clause-begins : goal.returns-then-too_large-clause-begins
returns-then-too_large-clause-begins c =
    begins.program _ _ _ (omega (arith, c.well_formed)) _ (simp (c.over-then-too_large.ensures.start, c.if-too_large.true, ← c.too_large.ensures.size, c.if-out_of_range.false, ← c.out_of_range.ensures.range, c.programming-job.ensures.job))

-- src/start.rt:437:9
pub returns-then-data-ne0-clause-begins : goal.returns-then-data-ne0-clause-begins
returns-then-data-ne0-clause-begins c =
    begins.program _ _ _ (omega (arith, c.well_formed)) _ (simp (c.over-then-data-ne0.ensures.start, ne_eqb _ _ c.if-data-ne0.true, c.if-too_large.false, ← c.too_large.ensures.size, c.if-out_of_range.false, ← c.out_of_range.ensures.range, c.programming-job.ensures.job))

-- src/start.rt:440:9
pub returns-then-crosses_page-clause-begins : goal.returns-then-crosses_page-clause-begins
returns-then-crosses_page-clause-begins c =
    begins.program _ _ _ (omega (arith, c.well_formed)) _ (simp (c.over-then-crosses_page.ensures.start, c.if-crosses_page.true, ← c.crosses_page.ensures.page, eq-eqb _ _ c.if-data-ne0.false, c.if-too_large.false, ← c.too_large.ensures.size, c.if-out_of_range.false, ← c.out_of_range.ensures.range, c.programming-job.ensures.job))

-- src/start.rt:425:1
pub returns-clause-begins : goal.returns-clause-begins
returns-clause-begins c =
    begins.program _ _ _ (omega (arith, c.well_formed)) _ (simp (c.going.ensures.start, c.at.ensures.place, c.if-crosses_page.false, ← c.crosses_page.ensures.page, eq-eqb _ _ c.if-data-ne0.false, c.if-too_large.false, ← c.too_large.ensures.size, c.if-out_of_range.false, ← c.out_of_range.ensures.range, c.programming-job.ensures.job))
