use native.Mathlib.Omega.{arith}
use Rattle.qspi_calls.proofs.start.erase_sector.Goals as goal
use Rattle.qspi_calls.proofs.Begins as begins

-- src/start.rt:361:1
pub returns-then-is_going-clause-begins : goal.returns-then-is_going-clause-begins
returns-then-is_going-clause-begins c =
    begins.erase_sector_lem c.args.addr _ (omega (arith, c.well_formed)) _ (simp (c.going.ensures.start, c.at.ensures.place, ← c.sector_status-status.ensures.status, c.if-is_going.true, ← c.is_going.ensures.going, c.working-job.ensures.job, c.erasing.ensures.script))

-- src/start.rt:361:1
pub returns-else-is_going-clause-begins : goal.returns-else-is_going-clause-begins
returns-else-is_going-clause-begins c =
    begins.erase_sector_lem c.args.addr _ (omega (arith, c.well_formed)) _ (simp (c.over.ensures.start, ← c.sector_status-status.ensures.status, c.if-is_going.false, ← c.is_going.ensures.going, c.working-job.ensures.job, c.erasing.ensures.script))
