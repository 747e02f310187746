-- What a reader finds at a place, and where it reads on. Assumes nothing.
use Rattle.std.specs.Prelude.{None}
use Rattle.std.proofs.Common.{◌≡◌, ℕ, ◌+◌, ◌*◌, ◌<◌, Bool, true, false, ltb, List, length, sym, refl, ap, ◌∙◌, arith, ltb-false, ltb-true}
use Rattle.access_log.specs.declared.reader.Found.{Found}
use Rattle.access_log.specs.declared.reader.LogReader.{LogReader}
use Rattle.access_log.specs.Log.{Entry, is_access, entry_at}
use Rattle.access_log.specs.Reader.{found_at, next_of, read_of}
use Rattle.access_log.proofs.Places.{at_end}

module _ (log : List ℕ) (at : ℕ) where
  pub found_on : (e : Entry) → e ≡ entry_at log at → is_access e ≡ true → ◌≡◌ {A = Found} (record { entry = e; next = at + 1 }) (found_at log at)
  unfolding found_at
  found_on e h a = rw (← h, a)

  pub found_stays : (e : Entry) → e ≡ entry_at log at → is_access e ≡ false → ◌≡◌ {A = Found} (record { entry = e; next = at }) (found_at log at)
  unfolding found_at
  found_stays e h a = rw (← h, a)

  pub found_entry : (found_at log at).entry ≡ entry_at log at
  unfolding found_at
  found_entry = refl

  pub next_on : is_access (entry_at log at) ≡ true → (found_at log at).next ≡ at + 1
  next_on a = sym (ap (λ (f : Found). f.next) (found_on (entry_at log at) refl a))

  pub next_stays : is_access (entry_at log at) ≡ false → (found_at log at).next ≡ at
  next_stays a = sym (ap (λ (f : Found). f.next) (found_stays (entry_at log at) refl a))

-- a reader `r` of `log`, at place `at`, has given `e` and is `s` now
pub record Reads (log : List ℕ) (at : ℕ) (r s : LogReader) (e : Entry) : Type 0 where
  pub lent : r.log.now ≡ log
  pub from : r.at ≡ at
  pub moved : s ≡ read_of r
  pub given : e ≡ next_of r

pub reads : {log : List ℕ} {at : ℕ} {r s : LogReader} {e : Entry} → r.log.now ≡ log → r.at ≡ at → s ≡ read_of r → e ≡ next_of r → Reads log at r s e
reads lent from moved given = record { lent = lent; from = from; moved = moved; given = given }

-- it gives the entry of its place, and behind an access it goes on
module _ {log : List ℕ} {at : ℕ} {r s : LogReader} {e : Entry} (turn : Reads log at r s e) where
  there : found_at r.log.now r.at ≡ found_at log at
  there = rw (turn.lent, turn.from)

  pub gives_entry : entry_at log at ≡ e
  gives_entry = sym (turn.given ∙ (ap (λ (f : Found). f.entry) there ∙ found_entry log at))

  pub same_log : s.log.now ≡ log
  same_log = ap (λ (x : LogReader). x.log.now) turn.moved ∙ turn.lent

  pub goes_behind : is_access e ≡ true → s.at ≡ at + 1
  goes_behind a = ap (λ (x : LogReader). x.at) turn.moved ∙ (ap (λ (f : Found). f.next) there ∙ next_on log at (ap is_access gives_entry ∙ a))

  pub stays_there : is_access e ≡ false → s.at ≡ at
  stays_there a = ap (λ (x : LogReader). x.at) turn.moved ∙ (ap (λ (f : Found). f.next) there ∙ next_stays log at (ap is_access gives_entry ∙ a))

-- an access is not the end
pub end_none : (e : Entry) → is_access e ≡ true → e ≡ None → ⊥
end_none e a h =
    let z : ◌≡◌ {A = ℕ} 0 1 = cc in
    omega arith

-- an access stands within the log
pub access_within : (log : List ℕ) (at : ℕ) (e : Entry) → e ≡ entry_at log at → is_access e ≡ true → at * 2 < length log
access_within log at e h a = by-test (ltb (at * 2) (length log)) refl
  where
    by-test : (b : Bool) → ltb (at * 2) (length log) ≡ b → at * 2 < length log
    by-test true f = ltb-true (at * 2) (length log) f
    by-test false f = absurd (end_none e a (h ∙ at_end log at (ltb-false (at * 2) (length log) f)))
