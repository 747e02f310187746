use Rattle.std.proofs.Common.{length}
use native.Mathlib.Omega.{arith}
use borrow.Author.Tests.{lt-ltb, le-ltb}
use Rattle.qspi_calls.proofs.start.erase_sectors.Goals as goal
use Rattle.qspi_calls.proofs.Begins as begins

pub returns-then-list_too_long-clause-begins : goal.returns-then-list_too_long-clause-begins
returns-then-list_too_long-clause-begins c =
    begins.erase_sectors_lem c.args.list.now _ (omega (arith, c.well_formed)) _ (simp (c.over.ensures.start, c.listing.ensures.job, c.if-list_too_long.true, ← c.list_too_long.ensures.size))

pub returns-in-Some-clause-begins : goal.returns-in-Some-clause-begins
returns-in-Some-clause-begins c =
    begins.erase_sectors_lem c.args.list.now _ (omega (arith, c.well_formed)) _ (simp (c.over-in-Some.ensures.start, c.listing-in-Some.ensures.job, c.sector_status-status.ensures.status, ← c.in-Some.ensures.place, lt-ltb _ _ c.in-Some.ensures.within, c.if-list_too_long.false, ← c.list_too_long.ensures.size))

pub returns-in-Some-first_repeat-clause-begins : goal.returns-in-Some-first_repeat-clause-begins
returns-in-Some-first_repeat-clause-begins c =
    let n = length c.args.list.now in
    begins.erase_sectors_lem c.args.list.now _ (omega (arith, c.well_formed)) _ (simp (c.over-in-Some-first_repeat.ensures.start, c.listing-in-Some-first_repeat.ensures.job, ← c.in-Some-first_repeat.ensures.place, lt-ltb _ _ c.in-Some-first_repeat.ensures.within, ← c.in_default.ensures.place, le-ltb n n (omega arith), c.if-list_too_long.false, ← c.list_too_long.ensures.size))

pub returns-clause-begins : goal.returns-clause-begins
returns-clause-begins c =
    let n = length c.args.list.now in
    begins.erase_sectors_lem c.args.list.now _ (omega (arith, c.well_formed)) _ (simp (c.opened.ensures.start, c.next_sector.ensures.turned, c.at.ensures.place, c.listing-job.ensures.job, ← c.in_default-first_repeat.ensures.place, le-ltb n n (omega arith), ← c.in_default.ensures.place, c.if-list_too_long.false, ← c.list_too_long.ensures.size))
