-- What the code's proofs share: tests in a row, and the turns of the loops. Assumes nothing.
use Prim.Native.Nat.{ℕ, suc, ◌+◌, ◌-◌, ◌<◌, ◌≤◌}
use mathlib.Core.Path.{◌≡◌, refl, sym, ap, subst, ◌∙◌}
use mathlib.Core.Bool.{Bool, true, false, cond}
use mathlib.Core.List.{List}
use Rattle.std.specs.Prelude.{Result}
use native.Mathlib.Numerals.{add-one}
use native.Mathlib.Omega.{arith}
use borrow.Author.Tests.{ltb-true, eq-eqb, ne_eqb}
use lib.Dec.{eqb, ltb}
use lib.ListN.{get_or, set}
use Rattle.qspi_operation.proofs.Verdicts.{no}
use Rattle.simulated_device.specs.Simulated.{Sim, sim_of, can_go, can_go_now, word_out, with_tx, waited, passed, width_at, done_byte, done_from, outcome, after_executed, configured, wrote, write_of, sending, after_sent, After}
use Rattle.simulated_device.specs.declared.Device.{Device}
use Rattle.simulated_device.specs.declared.Rx.{Rx}
use Rattle.simulated_device.specs.declared.Tx.{Tx}
use Rattle.simulated_device.specs.declared.Refused.{Refused}
use Rattle.simulated_device.specs.declared.work.Effect.{Effect}

-- ---- words go out

both_true : (a b : Bool) → cond a b false ≡ true → (a ≡ true) × (b ≡ true)
both_true true b h = (refl, h)
both_true false b h = no h

pub released_not_out : (t : Tx) (r : Rx) (room : ℕ) → can_go t r room ≡ true → t.out < t.released
released_not_out t r room h = ltb-true _ _ (both_true (ltb t.out t.released) (ltb r.put room) h).0

pub has_room : (t : Tx) (r : Rx) (room : ℕ) → can_go t r room ≡ true → r.put < room
has_room t r room h = ltb-true _ _ (both_true (ltb t.out t.released) (ltb r.put room) h).1

abbrev waiting : Sim → Sim
waiting s = sim_of (with_tx s.device (waited s.device.tx)) s.sent s.received s.array

abbrev passed_by : Bool → Bool → Sim → Sim
passed_by p b s = cond p (cond b (word_out s) (waiting s)) (waiting s)

passed_keeps : (s : Sim) (p b : Bool) → sim_of (passed_by p b s).device s.sent (passed_by p b s).received s.array ≡ passed_by p b s
passed_keeps s true true = refl
passed_keeps s true false = refl
passed_keeps s false b = refl

is_passed : (s : Sim) {d : Device} {received : List ℕ} → (d ≡ (passed s).device) × (received ≡ (passed s).received) → sim_of d s.sent received s.array ≡ passed s
is_passed s {received = received} e =
    ap (λ (d : Device). sim_of d s.sent received s.array) e.0
    ∙ ap (λ (l : List ℕ). sim_of (passed s).device s.sent l s.array) e.1
    ∙ passed_keeps s (eqb s.device.tx.pause 0) (can_go_now s)

-- ---- work

module _ (e : Effect) (at bytes : ℕ) (sent : List ℕ) where
  pub one_done : (size i : ℕ) (array : List ℕ) → i < size
      → done_from (size - i) i e at bytes sent array
      ≡ done_from (size - (i + 1)) (i + 1) e at bytes sent (set array (at + i) (done_byte e (get_or array (at + i) 0) i bytes sent))
  unfolding done_from
  one_done size i array h =
      let more : size - i ≡ suc (size - (i + 1)) = omega arith in
      rw (more, add-one) refl

  pub all_done : (size i : ℕ) (array : List ℕ) → size ≤ i → done_from (size - i) i e at bytes sent array ≡ array
  unfolding done_from
  all_done size i array h =
      let over : size - i ≡ 0 = omega arith in
      rw over refl

-- ---- writes

module _ (s : Sim) (o v : ℕ) {d : Device} {received : List ℕ} (first : (d ≡ (passed s).device) × (received ≡ (passed s).received)) where
  left_over : write_of s o v ≡ wrote (sim_of d s.sent received s.array) o v
  left_over = ap (λ (t : Sim). wrote t o v) (sym (is_passed s first))

  pub writes_config : o ≡ 0 → write_of s o v ≡ after_executed (configured d v s.sent s.array) (sim_of d s.sent received s.array)
  writes_config h = left_over ∙ simp (eq-eqb _ _ h)

  pub writes_word : (o ≡ 0 → ⊥) → (width_at o ≡ 0 → ⊥)
      → write_of s o v ≡ after_sent (sending d o v s.sent) (sim_of d s.sent received s.array)
  writes_word h k = left_over ∙ simp (ne_eqb _ _ h, ne_eqb _ _ k)

abbrev pub AfterIs : After → Result Device Refused → List ℕ → List ℕ → List ℕ → Type 0
AfterIs x w sent received array = (w ≡ outcome x.written) × ((sent ≡ x.sent) × ((received ≡ x.received) × (array ≡ x.array)))

pub as_after : {x y : After} {w : Result Device Refused} {sent received array : List ℕ} → x ≡ y → AfterIs y w sent received array → AfterIs x w sent received array
as_after {w = w} {sent = sent} {received = received} {array = array} e p = subst (λ (x : After). AfterIs x w sent received array) (sym e) p
