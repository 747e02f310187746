use Rattle.std.proofs.Common.{sym, ◌∙◌, arith}
use Rattle.access_log.proofs.Finding.{found_on, found_stays, access_within}
use Rattle.access_log.proofs.reader.found_at.Goals as goal

-- src/reader.rt:22:38
pub overflow_add-next : goal.overflow_add-next
overflow_add-next c =
    let a = c.args in
    omega (arith, access_within a.log.now a.at _ c.entry_at-entry.ensures.entry (sym c.is_access.ensures.access ∙ c.if-is_access.true))

-- src/reader.rt:17:1
pub returns-then-is_access-clause-found : goal.returns-then-is_access-clause-found
returns-then-is_access-clause-found c =
    let a = c.args in
    found_on a.log.now a.at _ c.entry_at-entry.ensures.entry (sym c.is_access.ensures.access ∙ c.if-is_access.true)

-- src/reader.rt:17:1
pub returns-else-is_access-clause-found : goal.returns-else-is_access-clause-found
returns-else-is_access-clause-found c =
    let a = c.args in
    found_stays a.log.now a.at _ c.entry_at-entry.ensures.entry (sym c.is_access.ensures.access ∙ c.if-is_access.false)
