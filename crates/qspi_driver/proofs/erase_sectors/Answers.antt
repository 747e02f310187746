use Rattle.std.proofs.Common.{length, ◌<◌}
use Rattle.qspi_driver.specs.Driver.{Drive}
use mathlib.Core.Path.{ap, ◌∙◌}
use Prim.Native.Nat.{◌^◌}
use native.Mathlib.Omega.{arith}
use Rattle.qspi_driver.proofs.Clearing.{clears, list_untouched}
use Rattle.qspi_driver.proofs.Driving.{list_driven_of_lem}
use Rattle.qspi_driver.proofs.erase_sectors.Goals as goal

pub returns : goal.returns
returns c =
    let x = c.args in
    let e = list_driven_of_lem x.driver x.list.now x.replies.now x.log.now c.begin_list-acted.ensures.acted.0 in
    let driver-is = c.finish.ensures.driver ∙ ap (λ (y : Drive). y.driver) e in
    let answer-is = c.finish.ensures.answer ∙ ap (λ (y : Drive). y.answer) e in
    let log_is = c.finish.ensures.logged ∙ ap (λ (y : Drive). y.log) e in
    let fits : length x.log.now < 2 ^ 64 = omega (arith, c.well_formed) in
    record {
      driver = driver-is;
      answer = answer-is;
      logged = log_is;
      clears = clears x.list.now x.replies.now x.log.now fits x.driver driver-is answer-is log_is;
      busy = list_untouched x.list.now x.replies.now x.log.now fits x.driver driver-is answer-is log_is;
    }
