-- What a verdict tells: a step that makes an access has two words of log left, and one that makes none ends the run. Assumes nothing.
use Rattle.std.proofs.Common.{◌≡◌, ℕ, ◌+◌, ◌≤◌, Bool, true, false, leb, List, length, sym, refl, ap, ◌∙◌, leb-true}
use Rattle.std.proofs.lemmas.Bool.{false≢true}
use Rattle.qspi_transfer.specs.declared.Due.{Due}
use Rattle.qspi_transfer.specs.declared.Due.TheVariants as due
use Rattle.qspi_operation.specs.declared.Op.{Op}
use Rattle.std.specs.Prelude.{Option, Some, None}
use Rattle.qspi_operation.specs.declared.Stepped.{Stepped}
use Rattle.qspi_operation.specs.Step.{Verdict}
use Rattle.qspi_operation.specs.Store.{stored}
use Rattle.qspi_operation.specs.Step.{Ended, Changed, Full, Dry, Made}
use Rattle.qspi_operation.specs.Step.{is_going, access_of, answered, choose, same_lengths, verdict_of, act, step_of, log_of, buffer_of, noted, taken, counted, moved, written}

pub no : {A : Type 0} → false ≡ true → A
no h = absurd (false≢true h)

-- whether a step makes an access
abbrev pub makes : Verdict → Bool
makes Ended = false
makes Changed = false
makes Full = false
makes Dry = false
makes (Made first v read) = true

room_by : (g l f : Bool) (x : Verdict) → makes (choose g (choose l (choose f x Full) Changed) Ended) ≡ true → f ≡ true
room_by true true true x h = refl
room_by true true false x h = no h
room_by true false f x h = no h
room_by false l f x h = no h

pub room : (o : Op) (bytes : List ℕ) (buffer n : ℕ) (r : Option ℕ) → makes (verdict_of o bytes buffer n r) ≡ true → o.used + 2 ≤ n
room o bytes buffer n r h =
    leb-true (o.used + 2) n
    (room_by (is_going o.status) (same_lengths o.job (length bytes) buffer n) (leb (o.used + 2) n) (answered (access_of o.job o.place o.wire bytes) r) h)

ends_by : (g l f : Bool) (x : Due) (r : Option ℕ) (o : Op) → is_going o.status ≡ g → makes (choose g (choose l (choose f (answered x r) Full) Changed) Ended) ≡ false
    → is_going (act (choose g (choose l (choose f (answered x r) Full) Changed) Ended) o).answer ≡ false
ends_by false l f x r o e h = e
ends_by true false f x r o e h = refl
ends_by true true false x r o e h = refl
ends_by true true true (due.Read a) (Some v) o e h = no (sym h)
ends_by true true true (due.Read a) None o e h = refl
ends_by true true true (due.Write a v) r o e h = no (sym h)

-- a step that makes no access ends the run
pub ends : (o : Op) (bytes : List ℕ) (buffer n : ℕ) (r : Option ℕ) → makes (verdict_of o bytes buffer n r) ≡ false → is_going (step_of o bytes buffer n r).answer ≡ false
ends o bytes buffer n r h =
    ends_by (is_going o.status) (same_lengths o.job (length bytes) buffer n) (leb (o.used + 2) n) (access_of o.job o.place o.wire bytes) r o refl h

-- ---- state, log and buffer all follow from the verdict

module _ (o : Op) (bytes buffer log : List ℕ) (r : Option ℕ) where
  abbrev pub Promised : Stepped → List ℕ → List ℕ → Type 0
  Promised s log₁ buffer₁ =
      (s ≡ step_of o bytes (length buffer) (length log) r)
      × ((log₁ ≡ log_of o bytes (length buffer) log r) × (buffer₁ ≡ buffer_of o bytes buffer (length log) r))

  pub by_verdict : {v : Verdict} → verdict_of o bytes (length buffer) (length log) r ≡ v → Promised (act v o) (noted v o.used log) (taken v o buffer)
  by_verdict e = (ap (λ (z : Verdict). act z o) (sym e), (ap (λ (z : Verdict). noted z o.used log) (sym e), ap (λ (z : Verdict). taken z o buffer) (sym e)))

  -- an access was made
  pub by_access : {first v n : ℕ} {read : Bool} {s : Stepped} {log₁ buffer₁ : List ℕ} → verdict_of o bytes (length buffer) (length log) r ≡ Made first v read
      → n ≡ counted read o.replies → s ≡ moved o (o.used + 2) n v → log₁ ≡ written log o.used first v → buffer₁ ≡ stored o.job o.place o.wire v buffer → Promised s log₁ buffer₁
  by_access {v = v} e f g h k =
      let y = by_verdict e in
      (g ∙ ap (λ (z : ℕ). moved o (o.used + 2) z v) f ∙ y.0, (h ∙ y.1.0, k ∙ y.1.1))

-- what is promised with one reply is promised with the same reply
pub replied : (o : Op) (bytes buffer log : List ℕ) {r q : Option ℕ} {s : Stepped} {log₁ buffer₁ : List ℕ} → r ≡ q → Promised o bytes buffer log r s log₁ buffer₁ → Promised o bytes buffer log q s log₁ buffer₁
replied o bytes buffer log e h = rw (← e) h
