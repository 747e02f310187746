use mathlib.Core.Path.{sym, ◌∙◌}
use native.Mathlib.Omega.{arith}
use borrow.Author.Tests.{eqb-false}
use Rattle.zynq7000.specs.Bits.{bit}
use Rattle.zynq7000.proofs.BitLaws.{weight, put_clear, put_fits}
use Rattle.zynq7000.proofs.bits.put.Goals as goal

pub overflow_add-result : goal.overflow_add-result
overflow_add-result c =
    let a = c.args in
    let unset = eqb-false (bit a.at a.word) 1 (sym c.is_set.ensures.bit ∙ c.if-is_set.false) in
    omega (arith, weight a.at c.requires, put_clear a.at a.word (omega (arith, unset)), put_fits a.at a.word c.requires (omega arith))
