use Rattle.std.proofs.Common.{◌≤◌, length, false, refl, ap, ◌∙◌, arith}
use Rattle.std.specs.Prelude.{Some}
use Rattle.access_log.specs.Log.{entry_at, is_access}
use Rattle.access_log.proofs.Finding.{reads, gives_entry, same_log, goes_behind}
use Rattle.access_log.proofs.Rendering.{Result, goes_on, stops_at_end, stops_at_bad, stops_at_most}
use Rattle.access_log.proofs.printer.put_lines.Goals as goal

pub returns-in-None : goal.returns-in-None
returns-in-None c =
    let a = c.args in
    let l = c.loop-at in
    let turn = reads l.invariant.log l.invariant.at c.next.ensures.moved c.next.ensures.entry in
    let found = gives_entry turn ∙ c.in-None.is in
    let both = stops_at_end (entry_at a.log.now) a.first a.out.now l.out l.at l.invariant.rendering (omega arith) found in
    record { text = both.0; len = both.1.0; more = both.1.1 }

pub returns-in-Some-Err : goal.returns-in-Some-Err
returns-in-Some-Err c =
    let a = c.args in
    let l = c.loop-at in
    let bad = c.in-Some-Err in
    let room : 7200 ≤ length l.out = omega (arith, l.invariant.rendering.grown.same_length) in
    let turn = reads l.invariant.log l.invariant.at c.next.ensures.moved c.next.ensures.entry in
    let found = gives_entry turn ∙ (bad.is ∙ ap Some bad.field-0-is) in
    let both : Result (entry_at a.log.now) a.first a.out.now c.put_bad-len.new.out c.put_bad-len.result false =
    rw (c.put_bad-len.ensures.written, c.put_bad-len.ensures.end)
    (stops_at_bad (entry_at a.log.now) a.first a.out.now l.out l.at l.invariant.rendering (omega arith) room _ _ found refl) in
    record { text = both.0; len = both.1.0; more = both.1.1 }

pub loop-at-preserved : goal.loop-at-preserved
loop-at-preserved c =
    let a = c.args in
    let l = c.loop-at in
    let room : 7200 ≤ length l.out = omega (arith, l.invariant.rendering.grown.same_length) in
    let is = c.in-Some-Ok.is ∙ ap Some c.in-Some-Ok.field-0-is in
    let turn = reads l.invariant.log l.invariant.at c.next.ensures.moved c.next.ensures.entry in
    let found = gives_entry turn ∙ is in
    record {
      log = same_log turn;
      at = goes_behind turn (ap is_access is);
      rendering =
          rw c.put_line.ensures.written
          (goes_on (entry_at a.log.now) a.first a.out.now l.out l.at l.invariant.rendering (omega arith) room _ found);
    }

pub returns : goal.returns
returns c =
    let a = c.args in
    let l = c.loop-at in
    let both = stops_at_most (entry_at a.log.now) a.first a.out.now l.out l.at l.invariant.rendering (omega arith) in
    record { text = both.0; len = both.1.0; more = both.1.1 }
