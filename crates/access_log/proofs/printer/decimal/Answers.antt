use Rattle.std.proofs.Common.{sym, ◌∙◌}
use Rattle.access_log.proofs.Decimal.{decimal_digits, at_most_20}
use Rattle.access_log.proofs.printer.decimal.Goals as goal

-- src/printer.rt:107:1
pub returns-clause-digits : goal.returns-clause-digits
returns-clause-digits c =
    let most = at_most_20 c.args.number c.decimal.result c.ranges.number.fits c.decimal.ensures.len in
    c.decimal.ensures.digits ∙ sym (decimal_digits 20 c.decimal.result c.args.number most c.decimal.ensures.len)
