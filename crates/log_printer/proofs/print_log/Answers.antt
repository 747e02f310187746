use Rattle.std.proofs.Common.{◌*◌, ◌%◌, ◌^◌, arith}
use Rattle.log_printer.proofs.Printing.{starts, goes_on, stops, used_up}
use Rattle.log_printer.proofs.print_log.Goals as goal

-- src/lib.rt:37:5
pub loop-turn-init : goal.loop-turn-init
loop-turn-init g c = starts _ _

-- src/lib.rt:37:5
pub loop-turn-preserved : goal.loop-turn-preserved
loop-turn-preserved g c =
    let l = c.loop-turn in
    goes_on _ _ _ _ (l.turn * 512 % 2 ^ 64) l.turn l.invariant _ _ _ (c.in_ok-print_buffer.ensures.part c.if-not-branch.false) (omega arith)

-- src/lib.rt:39:13
pub returns-then-not-branch : goal.returns-then-not-branch
returns-then-not-branch g c =
    let l = c.loop-turn in
    record { text = stops _ _ _ _ (l.turn * 512 % 2 ^ 64) l.turn l.invariant _ (c.in_ok-print_buffer.ensures.all c.if-not-branch.true) }

-- src/lib.rt:32:1
pub returns : goal.returns
returns g c =
    let l = c.loop-turn in
    record { text = used_up _ _ _ _ (l.turn * 512 % 2 ^ 64) l.turn l.invariant (omega arith) }
