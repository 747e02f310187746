-- A row of runs against the simulated device is a trace that the power-cut statement speaks of, from the first call on: each call goes on from
-- where the device stands after the one before. Assumes nothing.
use Prim.Native.Nat.{ℕ, ◌+◌, ◌*◌, ◌/◌, ◌≤◌}
use mathlib.Core.Path.{◌≡◌, refl, sym, ap, ◌∙◌, subst}
use mathlib.Core.Bool.{Bool, true, false, cond}
use mathlib.Core.List.{List, [], ◌∷◌, ◌++◌}
use native.Mathlib.Omega.{arith}
use lib.ListN.{length, take, length-append}
use lib.Seq.{length-take-le}
use Rattle.zynq7000.specs.Access.{encode}
use Rattle.zynq7000.specs.declared.qspi.Access.{Access}
use Rattle.zynq7000.proofs.AccessLaws.{length_encode}
use Rattle.qspi_operation.specs.declared.Op.{Op}
use Rattle.qspi_operation.proofs.PointLaws.{encode_append}
use Rattle.power_cut.specs.Controller as controller
use Rattle.simulated_device.specs.Simulated.{sim_of}
use Rattle.simulated_device.specs.Running.{Turn, goes_on, turns, beginning}
use Rattle.simulated_device.specs.Row.{may_make, row_after, followed, next, Call, Past, turn_in, and_then, row_of, no_call}
use Rattle.simulated_device.specs.Instance.{RowInstance}
use Rattle.simulated_device.specs.declared.Choices.{Choices}
use Rattle.simulated_device.specs.declared.run.Ran.{Ran}
use Rattle.simulated_device.specs.declared.row.Row.{Row}
use Rattle.simulated_device.specs.declared.row.Followed.{Followed}
use Rattle.simulated_device.proofs.Standing.{Leads, nowhere, on}
use Rattle.simulated_device.proofs.Turns.{TurnIs}
use Rattle.simulated_device.proofs.Instance.{Further, from_here, start, stands_at_rest, by_trace}

-- ---- what the code promises of the next call

abbrev pub FollowedIs : Followed → Row → Turn → List ℕ → List ℕ → List ℕ → List ℕ → List ℕ → Type 0
FollowedIs f w t buffer log sent received array =
    (f ≡ followed w t.ran) × ((buffer ≡ t.buffer) × ((log ≡ t.log) × ((sent ≡ t.sent) × ((received ≡ t.received) × (array ≡ t.array)))))

pub follows : (w : Row) (o : Op) (replies : ℕ) (bytes buffer log sent received array : List ℕ) {n : ℕ} {r : Ran} {w₁ : Row} {buffer₁ log₁ sent₁ received₁ array₁ : List ℕ} → n ≡ may_make w
    → TurnIs (turns n replies bytes (beginning o w.device buffer log sent received array)) r buffer₁ log₁ sent₁ received₁ array₁ → w₁ ≡ row_after w r
    → FollowedIs (record { ran = r; row = w₁ }) w (next w o replies bytes buffer log sent received array) buffer₁ log₁ sent₁ received₁ array₁
follows w o replies bytes buffer log sent received array {n} {r} {w₁} {buffer₁} {log₁} {sent₁} {received₁} {array₁} e t q =
    let u = subst (λ (k : ℕ). TurnIs (turns k replies bytes (beginning o w.device buffer log sent received array)) r buffer₁ log₁ sent₁ received₁ array₁) e t in
    let f : record { ran = r; row = w₁ } ≡ followed w r = ap (λ (z : Row). record { ran = r; row = z }) q in
    (f ∙ ap (followed w) u.0, u.1)

-- ---- logs one behind the other

-- two words of log an access
two_each : (n : ℕ) (log : List ℕ) (l : List Access) → take n log ≡ encode l → n ≤ length log → n / 2 ≡ length l
two_each n log l e p =
    let k : n ≡ 2 * length l = sym (length-take-le n log p) ∙ (ap (λ (z : List ℕ). length z) e ∙ length_encode l) in
    omega arith

-- ---- where a row stands

record At (before : controller.Device) (base cut : ℕ) (p : Past) : Type 0 where
  log : List Access
  is_log : p.words ≡ encode log
  leads : Leads before log (sim_of p.row.device p.sent p.received p.array)
  based : p.row.device.choices.base ≡ base
  counted : length log + p.row.left ≡ cut

at_most_left : (w : Row) → may_make w ≤ w.left
at_most_left w = go w.over
  where
    go : (b : Bool) → cond b 0 w.left ≤ w.left
    go true = omega arith
    go false = omega arith

module _ (before : controller.Device) (base cut : ℕ) (p : Past) (c : Call) (new : c.op.used ≡ 0) (a : At before base cut p) where
  -- the call, from where the device stands
  called : Further c.bytes base a.leads.after (may_make p.row) (turn_in p c)
  called = from_here c.bytes base a.leads.after c.replies (may_make p.row) c.op (sim_of p.row.device p.sent p.received p.array) c.buffer c.log new a.leads.standing a.based

  made : (turn_in p c).ran.op.used / 2 ≡ length called.log
  made = two_each (turn_in p c).ran.op.used (turn_in p c).log called.log called.stage.is_log called.stage.within

  onward : At before base cut (and_then p c)
  onward = record {
    log = a.log ++ called.log;
    is_log = ap (λ (z : List ℕ). z ++ take (turn_in p c).ran.op.used (turn_in p c).log) a.is_log ∙ (ap (λ (z : List ℕ). encode a.log ++ z) called.stage.is_log ∙ sym (encode_append a.log called.log));
    leads = on a.leads called.stage.leads;
    based = called.stage.based;
    counted = omega (arith, length-append a.log called.log, made, called.most, at_most_left p.row, a.counted);
  }

  -- one that has not ended made every access that was left
  cut_here : p.row.over ≡ false → goes_on (turn_in p c).ran ≡ true → (and_then p c).row.left ≡ 0
  cut_here o g =
      let e : may_make p.row ≡ p.row.left = ap (λ (b : Bool). cond b 0 p.row.left) o in
      omega (arith, made, called.each g, e)

-- ---- a whole row

-- each call at its start
abbrev pub Fresh : List Call → Type 0
Fresh [] = Unit {0}
Fresh (c ∷ cs) = (c.op.used ≡ 0) × Fresh cs

through : (before : controller.Device) (base cut : ℕ) (cs : List Call) (p : Past) → Fresh cs → At before base cut p → At before base cut (row_of p cs)
unfolding row_of
through before base cut [] p h a = a
through before base cut (c ∷ cs) p h a = through before base cut cs (and_then p c) h.1 (onward before base cut p c h.0 a)

module _ (ch : Choices) (cut : ℕ) (sent received array : List ℕ) where
  at_start : At (start ch sent received array) ch.base cut (no_call ch cut sent received array)
  unfolding encode
  at_start = record { log = []; is_log = refl; leads = nowhere (stands_at_rest ch sent received array); based = refl; counted = omega arith }

  module _ (cs : List Call) (fresh : Fresh cs) where
    abbrev row : Past
    row = row_of (no_call ch cut sent received array) cs

    at : At (start ch sent received array) ch.base cut row
    at = through (start ch sent received array) ch.base cut cs (no_call ch cut sent received array) fresh at_start

    -- every row is an instance, wherever it is cut
    pub row_instance : RowInstance ch.base cut array row
    row_instance = record {
      is = by_trace ch sent received array at.log (sim_of row.row.device row.sent row.received row.array) at.is_log at.leads at.based;
      counted = at.counted;
    }

    -- where a call has not ended, the power has failed
    pub cut_there : (c : Call) → c.op.used ≡ 0 → row.row.over ≡ false → goes_on (turn_in row c).ran ≡ true → (and_then row c).row.left ≡ 0
    cut_there c u o g = cut_here (start ch sent received array) ch.base cut row c u at o g
