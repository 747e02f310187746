use native.Mathlib.Omega.{arith}
use Rattle.qspi_driver.proofs.write_pages.Goals as goal
use Rattle.qspi_driver.proofs.Saving as saving

-- src/lib.rt:166:1
pub returns-clause-saves : goal.returns-clause-saves
returns-clause-saves c =
    let x = c.args in
    saving.saves x.addr x.«data».now x.replies.now x.log.now x.driver (c.write_pages-op.ensures.start, c.write_pages-op.ensures.begins) c.drive.ensures.driver c.drive.ensures.answer c.drive.ensures.stored c.drive.ensures.logged (λ i. omega (arith, c.shared_slice_known-1.given i))
