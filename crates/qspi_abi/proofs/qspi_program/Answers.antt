use Rattle.qspi_calls.specs.Calls as call
use Rattle.qspi_abi.proofs.qspi_program.Goals as goal
use Rattle.qspi_abi.proofs.Outputs as outputs

-- src/lib.rt:577:1
pub returns : goal.returns
returns c =
    let x = c.args in
    let both = outputs.programmed (call.program x.addr) c.program-op.ensures.begins c.run.ensures.follows c.from.ensures in record { ran = both.0; logged = both.1 }
