use Rattle.std.proofs.Common.{◌≡◌, ◌-◌, true, Some}
use Rattle.qspi_operation.specs.Step.{is_going}
use Rattle.simulated_device.specs.Running.{Turn, ran_of}
use mathlib.Core.Path.{refl, sym, ◌∙◌}
use Rattle.simulated_device.proofs.Turns.{turn_from, is_turn, met_turn, refused_turn, turn_more, turn_over, no_turn, none_left, by_counters}
use Rattle.simulated_device.proofs.run.run.Goals.{At-loop}
use Rattle.simulated_device.proofs.run.run.Goals as goal

-- where the loop stands
abbrev turn : At-loop → Turn
turn c =
    let l = c.loop in
    turn_from (ran_of l.op (Some l.answer) l.device) l.buffer l.log l.sent l.received l.array

pub returns-in-Err : goal.returns-in-Err
returns-in-Err c =
    let x = c.args in
    let l = c.loop in
    let t = turn (goal.at.returns-in-Err c).At-loop in
    let g : is_going l.answer ≡ true = sym c.is_going.ensures.going ∙ c.if-not-is_going.false in
    let met = c.in-Err.ensures in
    let e = refused_turn x.replies x.«data».now t c.in-Err.refused c.due_in-due.ensures.due refl (met.met, (met.sent, (met.received, met.array))) in
    let both = is_turn _ _ _ _ _ _ (l.invariant ∙ turn_over x.replies x.«data».now x.accesses l.counter t g e c.loop-test.true refl) in
    record { ran = both.0; buffer = both.1.0; log = both.1.1.0; sent = both.1.1.1.0; received = both.1.1.1.1.0; array = both.1.1.1.1.1 }

pub loop-preserved : goal.loop-preserved
loop-preserved c =
    let x = c.args in
    let l = c.loop in
    let t = turn (goal.at.loop-preserved c).At-loop in
    let g : is_going l.answer ≡ true = sym c.is_going.ensures.going ∙ c.if-not-is_going.false in
    let met = c.in-Ok.ensures in
    let step = c.step-s.ensures in
    let e = met_turn x.replies x.«data».now t c.due_in-due.ensures.due refl (met.met, (met.sent, (met.received, met.array))) (by_counters (step.state, (step.logged, (step.stored, step.follows)))) in
    l.invariant ∙ turn_more x.replies x.«data».now x.accesses l.counter t g e c.loop-test.true

pub returns-after-loop : goal.returns-after-loop
returns-after-loop c =
    let x = c.args in
    let l = c.loop in
    let t = turn (goal.at.returns-after-loop c).At-loop in
    let both = is_turn _ _ _ _ _ _ (l.invariant ∙ none_left x.replies x.«data».now x.accesses l.counter t c.loop-test.false) in
    record { ran = both.0; buffer = both.1.0; log = both.1.1.0; sent = both.1.1.1.0; received = both.1.1.1.1.0; array = both.1.1.1.1.1 }

pub returns-then-not-is_going : goal.returns-then-not-is_going
returns-then-not-is_going c =
    let x = c.args in
    let l = c.loop in
    let t = turn (goal.at.returns-then-not-is_going c).At-loop in
    let both = is_turn _ _ _ _ _ _ (l.invariant ∙ no_turn x.replies x.«data».now (x.accesses - l.counter) t (sym c.is_going.ensures.going ∙ c.if-not-is_going.true)) in
    record { ran = both.0; buffer = both.1.0; log = both.1.1.0; sent = both.1.1.1.0; received = both.1.1.1.1.0; array = both.1.1.1.1.1 }
