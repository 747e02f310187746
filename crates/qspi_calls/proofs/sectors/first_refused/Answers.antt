use Rattle.std.proofs.Common.{◌≡◌, refl, sym, true, false, rules, tests}
use Rattle.std.proofs.lemmas.Iterator.{IsFirst-from_position, YieldsList-from_slice, index_from_first}
use Rattle.qspi_operation.specs.Step.{is_going}
use Rattle.qspi_calls.specs.Sectors.{sector_status, first_refused}
use Rattle.qspi_calls.proofs.ListLoops.{refused_here, refused_later}
use Rattle.qspi_calls.proofs.sectors.first_refused.Goals as goal

pub returns-clause-place : goal.returns-clause-place
returns-clause-place c =
    let first = IsFirst-from_position _ _ c.position.result (λ a. is_going (sector_status a) ≡ false) (λ a. is_going (sector_status a) ≡ true) c.position.ensures.ran (YieldsList-from_slice c.args.list.now c.iter.ensures.rest) (λ x q k. search (rules, tests)) (λ x q k. search (rules, tests)) in
    sym (index_from_first first_refused _ _ refl refused_here refused_later c.args.list.now c.position.result first)
