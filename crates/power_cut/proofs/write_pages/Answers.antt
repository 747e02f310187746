use native.Mathlib.Omega.{arith}
use Rattle.power_cut.proofs.write_pages.Goals as goal
use Rattle.power_cut.proofs.Promised as promise

-- src/lib.rt:28:1
pub returns : goal.returns
returns c =
    let p =
    promise.promised c.args.addr c.args.«data».now c.args.replies.now c.args.log.now (c.write_pages-op.ensures.start, c.write_pages-op.ensures.begins)
    (c.run-s.ensures.ran, c.run-s.ensures.follows) c.counted-programmed.ensures.count c.finish-ran.ensures.ran in
    record {
      answer = p.answer;
      logged = p.logged;
      cut = promise.saved c.args.addr c.args.«data».now c.args.replies.now c.args.log.now (λ i. omega (arith, c.shared_slice_known-1.given i)) p;
    }
