-- A log followed record by record: the accesses below a place are seen, and the rest is still to come. Assumes nothing.
use Rattle.std.specs.Prelude.{Some, None, Ok}
use Rattle.std.proofs.Common.{◌≡◌, ℕ, suc, ◌+◌, ◌-◌, ◌<◌, ◌≤◌, List, sym, refl, ap, ◌∙◌, add-one, arith}
use Rattle.zynq7000.specs.declared.qspi.Access.{Access}
use Rattle.access_log.specs.Log.{bad_at, entry_at}
use Rattle.log_observer.specs.declared.Watch.{Watch}
use Rattle.log_observer.specs.Watching.{fresh, watched, watch_from, watch_of}

-- ---- the rest of a log, by what stands at its place

module _ (n : ℕ) (log : List ℕ) (at : ℕ) (w : Watch) where
  pub from_access : (a : Access) → entry_at log at ≡ Some (Ok a) → watch_from (suc n) log at w ≡ watch_from n log (suc at) (watched w a)
  unfolding watch_from
  from_access a e = rw e

  pub from_end : entry_at log at ≡ None → watch_from (suc n) log at w ≡ w
  unfolding watch_from
  from_end e = rw e

  pub from_bad : (k : ℕ) → entry_at log at ≡ bad_at k → watch_from (suc n) log at w ≡ w
  unfolding watch_from
  from_bad k e = rw e

pub from_none : (log : List ℕ) (at : ℕ) (w : Watch) → watch_from 0 log at w ≡ w
unfolding watch_from
from_none log at w = refl

-- ---- the loop of `observe`

-- of n accesses, those below `at` are seen
pub record Following (log : List ℕ) (n : ℕ) (w : Watch) (at : ℕ) : Type 0 where
  pub within : at ≤ n
  pub to_come : watch_of log n ≡ watch_from (n - at) log at w

pub starts : (log : List ℕ) (n : ℕ) → Following log n fresh 0
unfolding watch_of
starts log n =
    let all : n ≡ n - 0 = omega arith in
    record { within = omega arith; to_come = ap (λ (k : ℕ). watch_from k log 0 fresh) all }

module _ (log : List ℕ) (n : ℕ) (w : Watch) (at : ℕ) (f : Following log n w at) where
  -- the next one, at a place whose entry is known
  next : at < n → (x : Watch) → watch_from (suc (n - (at + 1))) log at w ≡ x → watch_of log n ≡ x
  next h x e =
      let one_more : n - at ≡ suc (n - (at + 1)) = omega arith in
      f.to_come ∙ (ap (λ (k : ℕ). watch_from k log at w) one_more ∙ e)

  pub goes_on : at < n → (a : Access) → entry_at log at ≡ Some (Ok a) → Following log n (watched w a) (at + 1)
  goes_on h a e = record {
    within = omega arith;
    to_come =
        next h (watch_from (n - (at + 1)) log (at + 1) (watched w a))
        (from_access (n - (at + 1)) log at w a e ∙ ap (λ (k : ℕ). watch_from (n - (at + 1)) log k (watched w a)) (sym (add-one at)));
  }

  pub stops_at_end : at < n → entry_at log at ≡ None → w ≡ watch_of log n
  stops_at_end h e = sym (next h w (from_end (n - (at + 1)) log at w e))

  pub stops_at_bad : at < n → (k : ℕ) → entry_at log at ≡ bad_at k → w ≡ watch_of log n
  stops_at_bad h k e = sym (next h w (from_bad (n - (at + 1)) log at w k e))

  pub stops_at_most : n ≤ at → w ≡ watch_of log n
  stops_at_most h =
      let none : n - at ≡ 0 = omega arith in
      sym (f.to_come ∙ (ap (λ (k : ℕ). watch_from k log at w) none ∙ from_none log at w))
