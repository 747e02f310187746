use Rattle.std.proofs.Common.{eq-eqb, ne_eqb}
use Rattle.qspi_operation.proofs.Following.{on_due}
use Rattle.qspi_operation.proofs.due.Goals as goal

pub returns-then-not-is_going-clause-follows : goal.returns-then-not-is_going-clause-follows
returns-then-not-is_going-clause-follows c = on_due _ _ (simp (c.if-not-is_going.true, ← c.is_going.ensures.going))

pub returns-then-data-op-clause-follows : goal.returns-then-data-op-clause-follows
returns-then-data-op-clause-follows c = on_due _ _ (simp (ne_eqb _ _ c.if-data-op.true, c.if-not-is_going.false, ← c.is_going.ensures.going))

pub returns-clause-follows : goal.returns-clause-follows
returns-clause-follows c = on_due _ _ (simp (c.access.ensures.due, eq-eqb _ _ c.if-data-op.false, c.if-not-is_going.false, ← c.is_going.ensures.going))
