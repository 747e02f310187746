use Rattle.std.specs.Prelude.{Ok}
use Rattle.std.proofs.Common.{ℕ, Bool, List}
use Rattle.qspi_driver.specs.State.{holds, keeps, begun_list_if, list_op}
use mathlib.Core.Path.{sym, ap, ◌∙◌}
use Rattle.qspi_operation.specs.declared.Op.{Op}
use native.Mathlib.Omega.{arith}
use Rattle.qspi_driver.proofs.Clearing.{list_started}
use Rattle.qspi_driver.proofs.state.begin_list.Goals as goal

-- src/state.rt:163:1
pub returns : goal.returns
returns c =
    let x = c.args in
    record {
      acted = list_started x.state x.kept x.list.now x.log (omega (arith, c.well_formed))
          (ap (λ (o : Op). record { state = holds o; list = keeps c.numbered-numbers.result; answer = Ok o.status }) c.erase_sectors-begun.ensures.start
          ∙ (ap (λ (ns : List ℕ). record { state = holds (list_op x.list.now x.log); list = keeps ns; answer = Ok (list_op x.list.now x.log).status }) c.numbered-numbers.ensures.numbers
          ∙ sym (ap (λ (b : Bool). begun_list_if b x.state x.kept (list_op x.list.now x.log) x.list.now) (sym c.is_going.ensures.going ∙ c.if-is_going.false))));
    }
