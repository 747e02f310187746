use Rattle.qspi_driver.specs.Driver.{driver_of}
use Rattle.qspi_driver.proofs.Driving.{Good, steps}
use Rattle.qspi_driver.proofs.finish.Given as goal

abbrev pub invariant-loop-answer : goal.invariant-loop-answer
invariant-loop-answer l = Good l.«data» l.replies (driver_of l.initial.at_hand l.list) l.initial.answer l.initial.buffer l.initial.log (driver_of l.at_hand l.list) l.answer l.buffer l.log

abbrev pub decreases-loop-answer : goal.decreases-loop-answer
decreases-loop-answer l = steps (driver_of l.at_hand l.list) l.answer l.log
