-- A turn of a run, by the access that is due and the device's answer, and the turns of the run's loop. Assumes nothing.
use Prim.Native.Nat.{ℕ, zero, suc, ◌+◌, ◌-◌, ◌<◌, ◌≤◌}
use mathlib.Core.Path.{◌≡◌, refl, sym, ap, subst, ◌∙◌}
use mathlib.Core.Bool.{Bool, true, false, cond}
use mathlib.Core.List.{List}
use Rattle.std.specs.Prelude.{Option, Some, None, Result, Ok, Err}
use native.Mathlib.Omega.{arith}
use lib.Dec.{ltb}
use lib.ListN.{length}
use Rattle.qspi_operation.proofs.Verdicts.{no}
use Rattle.qspi_operation.specs.Step.{Asked, step_of, log_of, buffer_of}
use Rattle.qspi_operation.specs.declared.Op.{Op}
use Rattle.qspi_operation.specs.declared.Stepped.{Stepped}
use Rattle.simulated_device.specs.Running.{Turn, ran_of, turn_at, sim_in, stepped, Meeting, met_of, met_on, due_in, after_meeting, turn_of, goes_on, turns}
use Rattle.simulated_device.specs.declared.Device.{Device}
use Rattle.simulated_device.specs.declared.Refused.{Refused}
use Rattle.simulated_device.specs.declared.run.Met.{Met}
use Rattle.simulated_device.specs.declared.run.Ran.{Ran}

abbrev pub turn_from : Ran → List ℕ → List ℕ → List ℕ → List ℕ → List ℕ → Turn
turn_from r buffer log sent received array = record { ran = r; buffer = buffer; log = log; sent = sent; received = received; array = array }

-- what the code promises of a turn, and of a step of the driver
abbrev pub TurnIs : Turn → Ran → List ℕ → List ℕ → List ℕ → List ℕ → List ℕ → Type 0
TurnIs t r buffer log sent received array =
    (r ≡ t.ran) × ((buffer ≡ t.buffer) × ((log ≡ t.log) × ((sent ≡ t.sent) × ((received ≡ t.received) × (array ≡ t.array)))))

abbrev pub StepIs : Op → List ℕ → List ℕ → List ℕ → Option ℕ → Stepped → List ℕ → List ℕ → Type 0
StepIs o bytes buffer log a s buffer₁ log₁ =
    (s ≡ step_of o bytes (length buffer) (length log) a)
    × ((log₁ ≡ log_of o bytes (length buffer) log a) × (buffer₁ ≡ buffer_of o bytes buffer (length log) a))

-- what `step` promises by counters, without the call that it follows
pub by_counters : {A B C D : Type 0} → A × (B × (C × D)) → A × (B × C)
by_counters h = (h.0, (h.1.0, h.1.1.0))

pub is_turn : {t : Turn} (r : Ran) (buffer log sent received array : List ℕ) → t ≡ turn_from r buffer log sent received array
    → TurnIs t r buffer log sent received array
is_turn r buffer log sent received array e =
    subst (λ (x : Turn). TurnIs x r buffer log sent received array) (sym e) (refl, (refl, (refl, (refl, (refl, refl)))))

-- ---- the device and the access that is due

abbrev pub MetIs : Meeting → Result Met Refused → List ℕ → List ℕ → List ℕ → Type 0
MetIs m x sent received array = (x ≡ met_of m) × ((sent ≡ m.sim.sent) × ((received ≡ m.sim.received) × (array ≡ m.sim.array)))

abbrev is_made : Result Met Refused → Bool
is_made (Ok m) = true
is_made (Err r) = false

abbrev device_in : Result Met Refused → Device
device_in (Ok m) = m.device
device_in (Err r) = r.device

abbrev reply_in : Result Met Refused → Option ℕ
reply_in (Ok m) = m.reply
reply_in (Err r) = None

abbrev made_if : Meeting → Bool → Result Met Refused
made_if y b = cond b (Err (record { device = y.sim.device })) (Ok (record { device = y.sim.device; reply = y.reply }))

by_refused : (y : Meeting) {b : Bool} {x : Result Met Refused} → y.refused ≡ b → x ≡ met_of y → x ≡ made_if y b
by_refused y e h = h ∙ ap (made_if y) e

-- the access was made
met_made : (y : Meeting) {m : Met} → Ok m ≡ met_of y → (y.refused ≡ false) × ((m.device ≡ y.sim.device) × (m.reply ≡ y.reply))
met_made y {m} h = go y.refused refl
  where
    go : (b : Bool) → y.refused ≡ b → (y.refused ≡ false) × ((m.device ≡ y.sim.device) × (m.reply ≡ y.reply))
    go true e = no (sym (ap is_made (by_refused y e h)))
    go false e = (e, (ap device_in (by_refused y e h), ap reply_in (by_refused y e h)))

-- the device refused it
met_refused : (y : Meeting) {r : Refused} → Err r ≡ met_of y → (y.refused ≡ true) × (r.device ≡ y.sim.device)
met_refused y {r} h = go y.refused refl
  where
    go : (b : Bool) → y.refused ≡ b → (y.refused ≡ true) × (r.device ≡ y.sim.device)
    go true e = (e, ap device_in (by_refused y e h))
    go false e = no (ap is_made (by_refused y e h))

-- ---- one turn

due_is : (replies : ℕ) (bytes : List ℕ) (t : Turn) {a : Asked} {b : Bool} → a ≡ due_in t.ran.op bytes (length t.buffer) (length t.log)
    → b ≡ ltb t.ran.op.replies replies
    → turn_of replies bytes t ≡ after_meeting (met_on a b (sim_in t)) t.ran.op bytes t.buffer t.log
due_is replies bytes t e k = rw (e, k)

met_is : (m : Meeting) {x : Result Met Refused} {sent received array : List ℕ} (r : Ran) (buffer log : List ℕ) → MetIs m x sent received array
    → turn_from r buffer log sent received array ≡ turn_at r buffer log m.sim
met_is m r buffer log x = simp (x.1.0, x.1.1.0, x.1.1.1)

-- the driver steps with what the device has
pub met_turn : (replies : ℕ) (bytes : List ℕ) (t : Turn) {a : Asked} {b : Bool} {m : Met} {sent received array : List ℕ} {s : Stepped} {buffer log : List ℕ}
    → a ≡ due_in t.ran.op bytes (length t.buffer) (length t.log) → b ≡ ltb t.ran.op.replies replies → MetIs (met_on a b (sim_in t)) (Ok m) sent received array
    → StepIs t.ran.op bytes t.buffer t.log m.reply s buffer log
    → turn_from (ran_of s.op (Some s.answer) m.device) buffer log sent received array ≡ turn_of replies bytes t
met_turn replies bytes t {a} {b} {m} {sent} {received} {array} {s} {buffer} {log} e k x p =
    let y : Meeting = met_on a b (sim_in t) in
    let made = met_made y x.0 in
    let q = subst (λ (z : Option ℕ). StepIs t.ran.op bytes t.buffer t.log z s buffer log) made.1.1 p in
    let f : y.refused ≡ false = made.0 in
    let d : m.device ≡ y.sim.device = made.1.0 in
    met_is y (ran_of s.op (Some s.answer) m.device) buffer log x
    ∙ (simp (d, q.0, q.1.0, q.1.1)
    (sym (due_is replies bytes t e k ∙ ap (λ (z : Bool). cond z (turn_at (ran_of t.ran.op None y.sim.device) t.buffer t.log y.sim) (stepped t.ran.op bytes t.buffer t.log y.reply y.sim)) f)))

-- the device refuses
pub refused_turn : (replies : ℕ) (bytes : List ℕ) (t : Turn) {a : Asked} {b : Bool} (r : Refused) {sent received array : List ℕ}
    → a ≡ due_in t.ran.op bytes (length t.buffer) (length t.log) → b ≡ ltb t.ran.op.replies replies → MetIs (met_on a b (sim_in t)) (Err r) sent received array
    → turn_from (ran_of t.ran.op None r.device) t.buffer t.log sent received array ≡ turn_of replies bytes t
refused_turn replies bytes t {a} {b} r e k x =
    let y : Meeting = met_on a b (sim_in t) in
    let refused = met_refused y x.0 in
    let f : y.refused ≡ true = refused.0 in
    let d : r.device ≡ y.sim.device = refused.1 in
    met_is y (ran_of t.ran.op None r.device) t.buffer t.log x
    ∙ (simp d
    (sym (due_is replies bytes t e k ∙ ap (λ (z : Bool). cond z (turn_at (ran_of t.ran.op None y.sim.device) t.buffer t.log y.sim) (stepped t.ran.op bytes t.buffer t.log y.reply y.sim)) f)))

-- ---- the turns of a run

module _ (replies : ℕ) (bytes : List ℕ) where
  turn_again : (n : ℕ) (t : Turn) {u : Turn} → goes_on t.ran ≡ true → u ≡ turn_of replies bytes t
      → turns (suc n) replies bytes t ≡ turns n replies bytes u
  unfolding turns
  turn_again n t g e = simp g (ap (λ (x : Turn). turns n replies bytes x) (sym e))

  pub turn_more : (n i : ℕ) (t : Turn) {u : Turn} → goes_on t.ran ≡ true → u ≡ turn_of replies bytes t → i < n
      → turns (n - i) replies bytes t ≡ turns (n - (i + 1)) replies bytes u
  turn_more n i t {u} g e h =
      let more : n - i ≡ suc (n - (i + 1)) = omega arith in
      ap (λ (k : ℕ). turns k replies bytes t) more ∙ turn_again (n - (i + 1)) t g e

  -- the power fails
  pub none_left : (n i : ℕ) (t : Turn) → n ≤ i → turns (n - i) replies bytes t ≡ t
  unfolding turns
  none_left n i t h =
      let over : n - i ≡ 0 = omega arith in
      rw over refl

  pub no_turn : (n : ℕ) (t : Turn) → goes_on t.ran ≡ false → turns n replies bytes t ≡ t
  unfolding turns
  no_turn zero t g = refl
  no_turn (suc n) t g = simp g

  -- the device refused
  pub turn_over : (n i : ℕ) (t : Turn) {u : Turn} → goes_on t.ran ≡ true → u ≡ turn_of replies bytes t → i < n → goes_on u.ran ≡ false
      → turns (n - i) replies bytes t ≡ u
  turn_over n i t {u} g e h r = turn_more n i t g e h ∙ no_turn (n - (i + 1)) u r
