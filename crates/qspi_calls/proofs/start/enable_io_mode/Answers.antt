use native.Mathlib.Omega.{arith}
use Rattle.qspi_calls.proofs.start.enable_io_mode.Goals as goal
use Rattle.qspi_calls.proofs.Begins as begins

-- src/start.rt:599:1
pub returns-clause-begins : goal.returns-clause-begins
returns-clause-begins c =
    begins.enable_io_mode_lem c.args.dual_flash _ (omega (arith, c.well_formed)) _ (simp (c.registers.ensures.start, c.io_mode_config-config.ensures.config))
