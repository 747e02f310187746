use Rattle.std.proofs.Common.{refl, sym, ap, ◌∙◌, arith}
use Rattle.access_log.specs.Log.{is_access}
use Rattle.access_log.proofs.Counting.{below, left_on, ends}
use Rattle.access_log.proofs.Finding.{reads, gives_entry, same_log, goes_behind, stays_there}
use Rattle.access_log.proofs.reader.accesses.Goals as goal

pub loop-smaller : goal.loop-smaller
loop-smaller c =
    let turn = reads c.loop.invariant.log refl c.next.ensures.moved c.next.ensures.entry in
    let is = sym c.is_access.ensures.access ∙ c.loop-test.true in
    omega (arith, goes_behind turn is, below _ _ c.loop.invariant.left (ap is_access (gives_entry turn) ∙ is))

pub loop-preserved : goal.loop-preserved
loop-preserved c =
    let turn = reads c.loop.invariant.log refl c.next.ensures.moved c.next.ensures.entry in
    let is = sym c.is_access.ensures.access ∙ c.loop-test.true in
    let behind = goes_behind turn is in
    let access = ap is_access (gives_entry turn) ∙ is in
    record {
      log = same_log turn;
      within = omega (arith, behind, below _ _ c.loop.invariant.left access);
      left = rw behind (left_on _ _ c.loop.invariant.left access);
    }

pub returns : goal.returns
returns c =
    let turn = reads c.loop.invariant.log refl c.next.ensures.moved c.next.ensures.entry in
    let none = sym c.is_access.ensures.access ∙ c.loop-test.false in
    record { accesses = stays_there turn none ∙ ends _ _ c.loop.invariant.left (ap is_access (gives_entry turn) ∙ none) }
