use mathlib.Core.Path.{ap}
use Rattle.qspi_operation.specs.declared.Op.{Op}
use Rattle.qspi_calls.specs.Calls as call
use Rattle.qspi_abi.proofs.qspi_read_rdid_extended.Goals as goal
use Rattle.qspi_abi.proofs.Outputs as outputs

-- src/lib.rt:646:1
pub returns : goal.returns
returns c =
    let both = outputs.long_identity call.read_long_id c.read_rdid_extended-op.ensures.begins (c.command-s.ensures.follows, c.command-s.ensures.job) (ap (λ (o : Op). o.job.script.gives) c.read_rdid_extended-op.ensures.start) c.long_id_out.ensures.numbers c.long_id_of.ensures.id in record { ran = both.0; logged = both.1 }
