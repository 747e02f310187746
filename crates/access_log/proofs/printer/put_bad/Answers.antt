use Rattle.std.proofs.Common.{take, ◌∙◌}
use Rattle.access_log.proofs.Lines.{bad_length, bad_written}
use Rattle.access_log.proofs.printer.put_bad.Goals as goal

-- src/printer.rt:93:1
pub returns : goal.returns
returns c =
    let a = c.args in
    let count = c.decimal-count in
    let digits = take count.result count.new.out in
    let whole =
    bad_written a.out.now a.at a.number count.result digits c.requires count.ensures.digits count.ensures.count.0.1 count.ensures.count.1
    c.put.new.out c.put-2.new.out c.put.ensures.written c.put-2.ensures.written in
    record {
      end = bad_length a.out.now a.at a.number count.result digits c.requires count.ensures.digits count.ensures.count.0.1 count.ensures.count.1;
      written = c.put-3.ensures.written ∙ whole;
    }
