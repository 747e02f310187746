use Rattle.std.proofs.Common.{sym, ap, ◌∙◌}
use Rattle.std.specs.Prelude.{Option, Ok, Err}
use Rattle.qspi_transfer.specs.declared.Wire.{Wire}
use Rattle.qspi_script.specs.Stages.{frame_of}
use Rattle.qspi_operation.specs.declared.Op.{Op}
use Rattle.qspi_operation.specs.Step.{moved_by}
use Rattle.qspi_operation.proofs.Passes.{onward, sets_out, goes_on, less_on}
use Rattle.qspi_operation.proofs.transfer.Goals as goal

pub loop-passed-init : goal.loop-passed-init
loop-passed-init c =
    let x = c.args in
    sets_out x.op x.«data».now x.replies.now x.buffer.now x.log.now c.requires

pub pass-requires : goal.pass-requires
pass-requires c =
    let k = c.loop-passed.invariant.kept in
    (c.frame-frame.ensures.frame ∙ sym (ap (λ (z : Op). frame_of z.job z.place) k), ap (λ (z : Op). z.status) k)

pub returns-in-Err : goal.returns-in-Err
returns-in-Err c =
    let x = c.args in
    let y = c.loop-passed in
    record { onward = onward x.op x.«data».now x.replies.now x.buffer.now x.log.now y.o y.buffer y.log y.invariant.way c.pass.new.buffer c.pass.new.log (Err c.in-Err.why) (c.in-Err.ensures.stands, (c.in-Err.ensures.logged, c.in-Err.ensures.stored)) c.refused.ensures.stepped }

pub returns-in_default : goal.returns-in_default
returns-in_default c =
    let x = c.args in
    let y = c.loop-passed in
    let p = c.in-Ok.passed in
    record {
      onward = onward x.op x.«data».now x.replies.now x.buffer.now x.log.now y.o y.buffer y.log y.invariant.way c.pass.new.buffer c.pass.new.log (Ok p) (c.in-Ok.ensures.stands, (c.in-Ok.ensures.logged, c.in-Ok.ensures.stored))
          (c.turned.ensures.stepped ∙ sym (ap (λ (z : Option Wire). moved_by z y.o p.used p.replies) c.in_default.is));
    }

pub loop-passed-smaller : goal.loop-passed-smaller
loop-passed-smaller c =
    let x = c.args in
    let y = c.loop-passed in
    less_on x.op x.«data».now x.replies.now x.buffer.now x.log.now y.o y.buffer y.log y.invariant c.pass.new.buffer c.pass.new.log c.in-Ok.passed c.in-Some.next (c.in-Ok.ensures.stands, (c.in-Ok.ensures.logged, c.in-Ok.ensures.stored)) c.in-Some.is

pub loop-passed-preserved : goal.loop-passed-preserved
loop-passed-preserved c =
    let x = c.args in
    let y = c.loop-passed in
    goes_on x.op x.«data».now x.replies.now x.buffer.now x.log.now y.o y.buffer y.log y.invariant c.pass.new.buffer c.pass.new.log c.in-Ok.passed c.in-Some.next (c.in-Ok.ensures.stands, (c.in-Ok.ensures.logged, c.in-Ok.ensures.stored)) c.in-Some.is
