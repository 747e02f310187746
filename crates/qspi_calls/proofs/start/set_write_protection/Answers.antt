use borrow.Author.Tests.{lt-ltb, le-ltb}
use native.Mathlib.Omega.{arith}
use Rattle.qspi_calls.proofs.start.set_write_protection.Goals as goal
use Rattle.qspi_calls.proofs.Begins as begins

-- src/start.rt:302:1
pub returns-then-protection-gt7-clause-begins : goal.returns-then-protection-gt7-clause-begins
returns-then-protection-gt7-clause-begins c =
    begins.set_write_protection_lem c.args.protection _ (omega (arith, c.well_formed)) _ (simp (c.over.ensures.start, lt-ltb _ _ c.if-protection-gt7.true, c.updating-job.ensures.job))

-- src/start.rt:302:1
pub returns-else-protection-gt7-clause-begins : goal.returns-else-protection-gt7-clause-begins
returns-else-protection-gt7-clause-begins c =
    begins.set_write_protection_lem c.args.protection _ (omega (arith, c.well_formed)) _ (simp (c.going.ensures.start, c.at.ensures.place, le-ltb _ _ c.if-protection-gt7.false, c.updating-job.ensures.job))
