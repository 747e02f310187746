use Rattle.power_cut.proofs.erase_sectors.Goals as goal
use Rattle.power_cut.proofs.SectorPromised as promise

-- src/lib.rt:62:1
pub returns : goal.returns
returns c =
    let p =
    promise.promised c.args.list.now c.args.replies.now c.args.log.now c.erase_sectors-op.ensures.begins c.numbered-numbers.ensures.numbers c.min-count.ensures c.run-s.ensures.follows
    c.counted-finished.ensures.count c.value-place.ensures.value c.finish-ran.ensures.ran in
    record {
      answer = p.answer;
      place = p.place;
      logged = p.logged;
      singles = promise.single c.args.list.now c.args.replies.now c.args.log.now p;
      shown = promise.cleared c.args.list.now c.args.replies.now c.args.log.now p;
    }
