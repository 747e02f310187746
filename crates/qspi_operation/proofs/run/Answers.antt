use Rattle.std.proofs.Common.{sym, ap, ◌∙◌}
use Rattle.qspi_operation.specs.Step.{is_going}
use Rattle.qspi_operation.specs.Run.{Run}
use Rattle.qspi_operation.proofs.Runs.{halted}
use Rattle.qspi_operation.proofs.Following.{with_run}
use Rattle.qspi_operation.proofs.run.Goals as goal

-- src/lib.rt:524:1
pub returns-clause-ran : goal.returns-clause-ran
returns-clause-ran c =
    let l = c.loop-answer in
    let e = l.invariant.0 ∙ halted _ (is_going l.answer) l.answer l.o _ _ l.buffer l.log (sym c.is_going.ensures.going ∙ c.loop-answer-test.false) in
    let both = with_run _ _ _ _ _ (record {
      op = sym (ap (λ (r : Run). r.op) e);
      answer = sym (ap (λ (r : Run). r.answer) e);
      stored = sym (ap (λ (r : Run). r.buffer) e);
      logged = sym (ap (λ (r : Run). r.log) e);
    }) in both.0

-- src/lib.rt:524:1
pub returns-clause-follows : goal.returns-clause-follows
returns-clause-follows c =
    let l = c.loop-answer in
    let e = l.invariant.0 ∙ halted _ (is_going l.answer) l.answer l.o _ _ l.buffer l.log (sym c.is_going.ensures.going ∙ c.loop-answer-test.false) in
    let both = with_run _ _ _ _ _ (record {
      op = sym (ap (λ (r : Run). r.op) e);
      answer = sym (ap (λ (r : Run). r.answer) e);
      stored = sym (ap (λ (r : Run). r.buffer) e);
      logged = sym (ap (λ (r : Run). r.log) e);
    }) in both.1
