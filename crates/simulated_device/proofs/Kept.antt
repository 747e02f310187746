-- The device's choices, the part of the array that is lent among them, stay as they are. Assumes nothing.
use Prim.Native.Nat.{ℕ, ◌-◌}
use mathlib.Core.Path.{◌≡◌, refl, ◌∙◌}
use mathlib.Core.Bool.{Bool, true, false, cond}
use mathlib.Core.List.{List}
use Rattle.std.specs.Prelude.{Option, Some, None}
use lib.Dec.{eqb, ltb}
use lib.ListN.{length}
use Rattle.power_cut.specs.Controller.{high}
use Rattle.simulated_device.specs.Simulated.{Sim, can_go_now, passed, answered, read_of, width_at, asked_for, within, worked_on, executed, sending, raised, configured, wrote, write_of, After}
use Rattle.simulated_device.specs.Simulated as sim
use Rattle.simulated_device.specs.declared.Choices.{Choices}
use Rattle.simulated_device.specs.declared.Device.{Device}
use Rattle.simulated_device.specs.declared.Given.{Given}
use Rattle.simulated_device.specs.declared.work.Work.{Work}

-- one of two that have the same
either : {A B : Type 0} (f : A → B) (b : Bool) {x y : A} {z : B} → f x ≡ z → f y ≡ z → f (cond b x y) ≡ z
either f true p q = p
either f false p q = q

abbrev in_sim : Sim → Choices
in_sim s = s.device.choices

abbrev in_after : After → Choices
in_after y = y.written.device.choices

abbrev in_given : Given → Choices
in_given g = g.device.choices

passed_choices : (s : Sim) → in_sim (passed s) ≡ in_sim s
passed_choices s = either in_sim (eqb s.device.tx.pause 0) (either in_sim (can_go_now s) refl refl) refl

answered_choices : (d : Device) (o : ℕ) (received : List ℕ) → in_given (answered d o received) ≡ d.choices
answered_choices d o received =
    either in_given (eqb o 0x00) refl
    (either in_given (eqb o 0x04) refl
    (either in_given (eqb o 0x20)
    (either in_given (ltb d.rx.taken d.rx.put) (either in_given (ltb d.rx.taken (length received)) refl refl) refl)
    refl))

pub read_choices : (s : Sim) (o : ℕ) → in_given (read_of s o) ≡ in_sim s
read_choices s o = answered_choices (passed s).device o (passed s).received ∙ passed_choices s

executed_choices : (d : Device) (v : ℕ) (sent array : List ℕ) → (executed d v sent array).written.device.choices ≡ d.choices
executed_choices d v sent array = by_work (asked_for d.chip d.tx.bytes sent)
  where
    by_work : (w : Option Work) → (worked_on d v w sent array).written.device.choices ≡ d.choices
    by_work (Some w) = either (λ (x : sim.Executed). x.written.device.choices) (within w d.choices.base (length array)) refl refl
    by_work None = refl

raised_choices : (d : Device) (v : ℕ) (sent array : List ℕ) → (raised d v sent array).written.device.choices ≡ d.choices
raised_choices d v sent array =
    either (λ (x : sim.Executed). x.written.device.choices) (eqb d.tx.out d.tx.written) (executed_choices d v sent array) refl

configured_choices : (d : Device) (v : ℕ) (sent array : List ℕ) → (configured d v sent array).written.device.choices ≡ d.choices
configured_choices d v sent array =
    either (λ (x : sim.Executed). x.written.device.choices) (high d.config) refl
    (either (λ (x : sim.Executed). x.written.device.choices) (high v) (raised_choices d v sent array) refl)

sending_choices : (d : Device) (o v : ℕ) (sent : List ℕ) → (sending d o v sent).written.device.choices ≡ d.choices
sending_choices d o v sent =
    either f (high d.config) refl
    (either f (ltb (length sent) 4) refl
    (either f (ltb (length sent - 4) d.tx.bytes) refl (either f (ltb d.tx.bytes d.tx.written) refl refl)))
  where
    f : sim.Sent → Choices
    f x = x.written.device.choices

wrote_choices : (s : Sim) (o v : ℕ) → in_after (wrote s o v) ≡ in_sim s
wrote_choices s o v =
    either in_after (eqb o 0x00) (configured_choices s.device v s.sent s.array) (either in_after (eqb (width_at o) 0) refl (sending_choices s.device o v s.sent))

pub write_choices : (s : Sim) (o v : ℕ) → in_after (write_of s o v) ≡ in_sim s
write_choices s o v = wrote_choices (passed s) o v ∙ passed_choices s
