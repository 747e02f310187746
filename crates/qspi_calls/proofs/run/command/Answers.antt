use Rattle.qspi_calls.proofs.Promised.{commanded}
use Rattle.qspi_calls.proofs.run.command.Goals as goal

-- src/run.rt:98:1
pub returns-clause-follows : goal.returns-clause-follows
returns-clause-follows c =
    let both = commanded _ _ _ (c.run.ensures.ran, c.run.ensures.follows) in both.0

-- src/run.rt:98:1
pub returns-clause-job : goal.returns-clause-job
returns-clause-job c =
    let both = commanded _ _ _ (c.run.ensures.ran, c.run.ensures.follows) in both.1
