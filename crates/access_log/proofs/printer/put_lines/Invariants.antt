use Rattle.std.proofs.Common.{◌≡◌}
use Rattle.access_log.specs.Log.{entry_at}
use Rattle.access_log.proofs.Rendering.{Rendering}
use Rattle.access_log.proofs.printer.put_lines.Given as goal

-- The reader stands at the place that is rendered next.
abbrev pub invariant-loop-at : goal.invariant-loop-at
invariant-loop-at l = record {
  log : l.reader.log.now ≡ l.log;
  at : l.reader.at ≡ l.at;
  rendering : Rendering (entry_at l.log) l.first l.initial.out l.out l.at;
}
