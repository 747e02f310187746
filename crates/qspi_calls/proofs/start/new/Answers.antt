use native.Mathlib.Omega.{arith}
use Rattle.std.proofs.lemmas.Grind.{common_steps}
use Rattle.qspi_calls.proofs.start.new.Goals as goal
use Rattle.qspi_calls.proofs.Begins as begins

pub returns-then-is_some_and-clause-begins : goal.returns-then-is_some_and-clause-begins
returns-then-is_some_and-clause-begins c =
    begins.new c.args.config _ (omega (arith, c.well_formed)) _ (grind (arith, common_steps))

pub returns-else-is_some_and-clause-begins : goal.returns-else-is_some_and-clause-begins
returns-else-is_some_and-clause-begins c =
    begins.new c.args.config _ (omega (arith, c.well_formed)) _ (grind (arith, common_steps))
