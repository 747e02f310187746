use Rattle.std.proofs.Common.{Bool, false}
use Rattle.qspi_operation.specs.Step.{erases_list}
use Rattle.qspi_driver.specs.State.{begun_if}
use mathlib.Core.Path.{sym, ap, ◌∙◌}
use Rattle.qspi_driver.proofs.Promised.{started}
use Rattle.qspi_driver.proofs.state.begin.Goals as goal

-- src/state.rt:137:1
pub returns : goal.returns
returns c =
    let x = c.args in
    record {
      acted = started x.state x.op
          (sym (ap (λ (b : Bool). begun_if b (erases_list x.op) x.state x.op) (sym c.is_going.ensures.going ∙ c.if-is_going.false) ∙ ap (λ (b : Bool). begun_if false b x.state x.op) (sym c.erases_list.ensures.list ∙ c.if-erases_list.false)));
    }
