use Rattle.std.proofs.Common.{sym, ap, ◌∙◌}
use Rattle.std.specs.Prelude.{Some}
use Rattle.log_observer.proofs.Following.{starts, goes_on, stops_at_end, stops_at_bad, stops_at_most}
use Rattle.log_observer.proofs.observe.Goals as goal

pub loop-at-init : goal.loop-at-init
loop-at-init c = rw c.start-watch.ensures.watch (starts c.args.log.now c.args.accesses)

pub loop-at-preserved : goal.loop-at-preserved
loop-at-preserved c =
    let a = c.args in
    let l = c.loop-at in
    let found = sym c.entry_at.ensures.entry ∙ (c.in-Some-Ok.is ∙ ap Some c.in-Some-Ok.field-0-is) in
    rw c.see-watch.ensures.watch
    (goes_on a.log.now a.accesses l.watch l.at l.invariant c.loop-at-test.true _ found)

pub returns : goal.returns
returns c =
    let a = c.args in
    let l = c.loop-at in
    record { watch = stops_at_most a.log.now a.accesses l.watch l.at l.invariant c.loop-at-test.false }

pub returns-in-Some-Err : goal.returns-in-Some-Err
returns-in-Some-Err c =
    let a = c.args in
    let l = c.loop-at in
    let found = sym c.entry_at.ensures.entry ∙ (c.in-Some-Err.is ∙ ap Some c.in-Some-Err.field-0-is) in
    record { watch = stops_at_bad a.log.now a.accesses l.watch l.at l.invariant c.loop-at-test.true _ found }

pub returns-in-None : goal.returns-in-None
returns-in-None c =
    let a = c.args in
    let l = c.loop-at in
    let found = sym c.entry_at.ensures.entry ∙ c.in-None.is in
    record { watch = stops_at_end a.log.now a.accesses l.watch l.at l.invariant c.loop-at-test.true found }
