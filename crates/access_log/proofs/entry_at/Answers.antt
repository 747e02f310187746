use Rattle.std.proofs.Common.{◌≡◌, refl, sym, ap, ◌∙◌, arith}
use Rattle.std.specs.Prelude.{ℕ, Result, Ok, Err, Some}
use Rattle.std.specs.Result.{result_or}
use Rattle.zynq7000.specs.declared.qspi.Access.{Access}
use Rattle.zynq7000.specs.declared.qspi.BadLog.{BadLog}
use Rattle.access_log.specs.Log.{Entry, entry_of}
use Rattle.access_log.proofs.Answers.{both_at}
use Rattle.access_log.proofs.Places.{at_whole, at_short, at_end}
use Rattle.access_log.proofs.entry_at.Goals as goal
use Rattle.access_log.proofs.entry_at.Goals.{else-at-whole-2-via-then-at-whole-2+else-log-ne0, else-at-whole-2-via-else-at-whole-2}

-- a record that is read, with its place where it is refused
placed_there : (r : Result Access BadLog) (at : ℕ) → ◌≡◌ {A = Entry} (Some (result_or r (Err (record { at = at })))) (entry_of r at)
placed_there (Ok a) at = refl
placed_there (Err b) at = refl

pub returns-then-at-whole : goal.returns-then-at-whole
returns-then-at-whole c =
    let a = c.args in
    let both = both_at a.log.now a.at _
    (ap Some c.or.ensures ∙ placed_there c.of_words-access.result a.at
    ∙ (ap (λ (r : Result Access BadLog). entry_of r a.at) c.of_words-access.ensures.record
    ∙ sym (at_whole a.log.now a.at c.if-at-whole.true))) in
    record { entry = both.0; answer = both.1 }

pub returns-then-log-ne0 : goal.returns-then-log-ne0
returns-then-log-ne0 c =
    let a = c.args in
    let both = both_at a.log.now a.at _ (sym (at_short a.log.now a.at c.if-at-whole-2.true c.if-log-ne0.true)) in
    record { entry = both.0; answer = both.1 }

pub returns : goal.returns
returns c =
    let a = c.args in
    let both = both_at a.log.now a.at _ (sym (at_end a.log.now a.at (elim c.else-at-whole-2.branch [
      | else-at-whole-2-via-then-at-whole-2+else-log-ne0 w ↦ omega (arith, w.if-at-whole-2, w.if-log-ne0)
      | else-at-whole-2-via-else-at-whole-2 w ↦ omega (arith, w.if-at-whole-2)
    ]))) in
    record { entry = both.0; answer = both.1 }
