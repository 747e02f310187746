use Rattle.std.proofs.Common.{[]}
use Rattle.qspi_abi.proofs.qspi_write_pages.Goals as goal
use Rattle.qspi_abi.proofs.Outputs as outputs

-- src/lib.rt:656:1
pub returns-clause-cut : goal.returns-clause-cut
returns-clause-cut c = record { answer = c.write_pages.result; numbers = c.from.ensures; saved = c.write_pages.ensures.cut; whole = outputs.zero_done c.write_pages.result c.from.ensures (c.write_pages.ensures.cut.claim [] tt).whole.0 }
