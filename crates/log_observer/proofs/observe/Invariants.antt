use Rattle.log_observer.proofs.Following.{Following}
use Rattle.log_observer.proofs.observe.Given as goal

abbrev pub invariant-loop-at : goal.invariant-loop-at
invariant-loop-at l = Following l.log l.accesses l.watch l.at
