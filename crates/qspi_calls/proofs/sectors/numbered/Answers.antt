use Rattle.qspi_calls.proofs.ListLoops.{numbers_on, numbers_off}
use Rattle.qspi_calls.proofs.sectors.numbered.Goals as goal

pub loop-at-preserved : goal.loop-at-preserved
loop-at-preserved c =
    let y = c.loop-at in
    numbers_on c.args.list.now _ c.min-count.ensures y.at y.numbers y.invariant _ c.loop-at-test.true c.sector_number.ensures.number

pub returns : goal.returns
returns c =
    let y = c.loop-at in
    record { numbers = numbers_off c.args.list.now _ c.min-count.ensures y.at y.numbers y.invariant y.auto.at-end c.loop-at-test.false }
