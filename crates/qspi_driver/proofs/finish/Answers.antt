use Rattle.qspi_driver.specs.Driver.{driver_of, Drive}
use mathlib.Core.Path.{sym, ap, ◌∙◌}
use Rattle.qspi_driver.specs.declared.state.Acted.{Acted}
use Rattle.qspi_driver.proofs.Driving.{Stepped, goes_on, nearer, ends}
use Rattle.qspi_driver.proofs.finish.Goals as goal

-- src/lib.rt:127:5
pub loop-answer-smaller : goal.loop-answer-smaller
loop-answer-smaller c =
    let x = c.args in
    let y = c.loop-answer in
    let e : Stepped x.«data».now (driver_of y.at_hand x.driver.list) y.buffer y.log c.next_reply-reply.result (driver_of c.step-s.result.state x.driver.list) c.step-s.result.answer c.step-s.new.buffer c.step-s.new.log =
    record {
      state = ap (λ (z : Acted). driver_of z.state x.driver.list) c.step-s.ensures.acted.0;
      answer = ap (λ (z : Acted). z.answer) c.step-s.ensures.acted.0;
      stored = c.step-s.ensures.acted.1;
      logged = c.step-s.ensures.acted.2;
      wide = c.step-s.auto.buffer;
      long = c.step-s.auto.log;
    } in
    nearer x.«data».now x.replies.now (driver_of x.driver.state x.driver.list) x.begun x.buffer.now x.log.now (driver_of y.at_hand x.driver.list) y.answer y.buffer y.log y.invariant (sym c.is_under_way.ensures.way ∙ c.loop-answer-test.true) c.next_reply-reply.ensures.reply e

-- src/lib.rt:127:5
pub loop-answer-preserved : goal.loop-answer-preserved
loop-answer-preserved c =
    let x = c.args in
    let y = c.loop-answer in
    let e : Stepped x.«data».now (driver_of y.at_hand x.driver.list) y.buffer y.log c.next_reply-reply.result (driver_of c.step-s.result.state x.driver.list) c.step-s.result.answer c.step-s.new.buffer c.step-s.new.log =
    record {
      state = ap (λ (z : Acted). driver_of z.state x.driver.list) c.step-s.ensures.acted.0;
      answer = ap (λ (z : Acted). z.answer) c.step-s.ensures.acted.0;
      stored = c.step-s.ensures.acted.1;
      logged = c.step-s.ensures.acted.2;
      wide = c.step-s.auto.buffer;
      long = c.step-s.auto.log;
    } in
    goes_on x.«data».now x.replies.now (driver_of x.driver.state x.driver.list) x.begun x.buffer.now x.log.now (driver_of y.at_hand x.driver.list) y.answer y.buffer y.log y.invariant (sym c.is_under_way.ensures.way ∙ c.loop-answer-test.true) c.next_reply-reply.ensures.reply e

-- src/lib.rt:111:1
pub returns : goal.returns
returns c =
    let x = c.args in
    let y = c.loop-answer in
    let e = ends x.«data».now x.replies.now (driver_of x.driver.state x.driver.list) x.begun x.buffer.now x.log.now (driver_of y.at_hand x.driver.list) y.answer y.buffer y.log y.invariant (sym c.is_under_way.ensures.way ∙ c.loop-answer-test.false) in
    record { driver = ap (λ (z : Drive). z.driver) e; answer = ap (λ (z : Drive). z.answer) e; stored = ap (λ (z : Drive). z.buffer) e; logged = ap (λ (z : Drive). z.log) e }
