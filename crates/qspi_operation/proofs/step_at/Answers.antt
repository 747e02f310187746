use Rattle.std.proofs.Common.{◌≡◌, true, sym, ap, ◌∙◌}
use Rattle.std.specs.Prelude.{Option}
use Rattle.qspi_transfer.specs.declared.Wire.{Wire}
use Rattle.qspi_script.specs.declared.Status.{Status}
use Rattle.qspi_script.specs.declared.Status.TheVariants.{Going}
use Rattle.qspi_operation.specs.Step.{is_going, reply_of, moved_by}
use Rattle.qspi_operation.proofs.Following.{on_step}
use Rattle.qspi_operation.proofs.Passes.{ended, going_is}
use Rattle.qspi_operation.proofs.step_at.Goals as goal

pub returns-then-not-is_going-clause-follows : goal.returns-then-not-is_going-clause-follows
returns-then-not-is_going-clause-follows c =
    let x = c.args in
    let r = reply_of x.replies.now x.at in
    on_step x.op x.«data».now x.buffer.now x.log.now r (ended x.op x.«data».now x.buffer.now x.log.now r (sym c.is_going.ensures.going ∙ c.if-not-is_going.true))

pub returns-in-Some-clause-follows : goal.returns-in-Some-clause-follows
returns-in-Some-clause-follows c =
    let x = c.args in
    let p = c.in-Ok.passed in
    let g : is_going x.op.status ≡ true = sym c.is_going.ensures.going ∙ c.if-not-is_going.false in
    let e = ap (λ (z : Status). record { op = record { job = x.op.job; place = x.op.place; wire = c.in-Some.next; used = p.used; replies = p.replies; status = z }; answer = Going }) (going_is x.op.status g) ∙ ap (λ (z : Option Wire). moved_by z x.op p.used p.replies) (sym c.in-Some.is) in
    on_step x.op x.«data».now x.buffer.now x.log.now (reply_of x.replies.now x.at) (e ∙ c.in-Ok.ensures.stands, (c.in-Ok.ensures.logged, c.in-Ok.ensures.stored))

pub returns-in-None-clause-follows : goal.returns-in-None-clause-follows
returns-in-None-clause-follows c =
    let x = c.args in
    let p = c.in-Ok.passed in
    on_step x.op x.«data».now x.buffer.now x.log.now (reply_of x.replies.now x.at) (c.turned.ensures.stepped ∙ ap (λ (z : Option Wire). moved_by z x.op p.used p.replies) (sym c.in-None.is) ∙ c.in-Ok.ensures.stands, (c.in-Ok.ensures.logged, c.in-Ok.ensures.stored))

pub returns-in-Err-clause-follows : goal.returns-in-Err-clause-follows
returns-in-Err-clause-follows c =
    let x = c.args in
    on_step x.op x.«data».now x.buffer.now x.log.now (reply_of x.replies.now x.at) (c.refused.ensures.stepped ∙ c.in-Err.ensures.stands, (c.in-Err.ensures.logged, c.in-Err.ensures.stored))
