use denote.Param.Always.{always_mut}
use Rattle.sim_console.proofs.run.run.Given as goal

abbrev pub invariant-loop-request : goal.invariant-loop-request
invariant-loop-request g l = always_mut g.F.FnMut l.show
