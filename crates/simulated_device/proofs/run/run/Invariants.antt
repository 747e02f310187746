use Rattle.std.proofs.Common.{◌≡◌, ◌-◌, Some}
use Rattle.simulated_device.specs.Running.{turns, ran_of}
use Rattle.simulated_device.proofs.Turns.{turn_from}
use Rattle.simulated_device.proofs.run.run.Given as goal

abbrev pub invariant-loop : goal.invariant-loop
invariant-loop l =
    turns l.accesses l.replies l.«data» (turn_from (ran_of l.initial.op (Some l.initial.answer) l.initial.device) l.initial.buffer l.initial.log l.initial.sent l.initial.received l.initial.array)
    ≡ turns (l.accesses - l.counter) l.replies l.«data» (turn_from (ran_of l.op (Some l.answer) l.device) l.buffer l.log l.sent l.received l.array)
