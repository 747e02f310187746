use Rattle.std.proofs.Common.{◌*◌, ◌%◌, ◌^◌}
use Rattle.log_printer.proofs.Printing.{Printing}
use Rattle.log_printer.proofs.print_log.Given as goal

abbrev pub invariant-loop-turn : goal.invariant-loop-turn
invariant-loop-turn g l =
    Printing (g.R.Read.remaining l.initial.input) (g.R.Read.remaining l.input) (g.W.Write.contents l.initial.output) (g.W.Write.contents l.output) (l.turn * 512 % 2 ^ 64) l.turn
