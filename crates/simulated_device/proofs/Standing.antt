-- How the simulated device and its memory stand for a device of specs/Controller of power_cut: the words out, released and not yet released
-- are the bytes sent, cut somewhere; the RX words that wait lie in the memory lent for them; and the array is the lent part, in which work
-- is done at once while the flash still is busy with it. Assumes nothing.
use Prim.Native.Nat.{ℕ, ◌+◌, ◌≤◌, ◌<◌}
use mathlib.Core.Path.{◌≡◌, sym}
use mathlib.Core.Bool.{true}
use mathlib.Core.Option.{none, some}
use mathlib.Core.List.{List, [], ◌++◌}
use lib.ListN.{length, take}
use lib.Seq.{slice}
use Rattle.zynq7000.specs.declared.qspi.Access.{Access}
use Rattle.power_cut.specs.Flash.{Array, Work, done, Flash, flash}
use Rattle.power_cut.specs.Controller.{high, Trace, still}
use Rattle.power_cut.specs.Controller as controller
use Rattle.power_cut.proofs.Control.{join}
use Rattle.power_cut.proofs.Ways.{trace_append}
use Rattle.simulated_device.specs.Replies.{byte_at}
use Rattle.simulated_device.specs.Simulated.{Sim}
use Rattle.simulated_device.specs.declared.Chip.{Chip}

-- the flash, idle or with work that still shows as busy
pub data Holds (c : Chip) (base : ℕ) (array : List ℕ) : Flash → Type 0 where
  resting : {m : Array} → c.busy ≡ 0 → ((x : ℕ) → m x ≡ byte_at array base x) → Holds c base array (flash m c.latch none)
  working : {m : Array} {w : Work} → 0 < c.busy → ((x : ℕ) → done w m x ≡ byte_at array base x) → Holds c base array (flash m c.latch (some w))

-- the words out, released, and not released, against the counts
pub record Fits (s : Sim) (ws t u : List (List ℕ)) : Type 0 where
  pub outs : length ws ≡ s.device.tx.out
  pub freed : length ws + length t ≡ s.device.tx.released
  pub all : length ws + length t + length u ≡ s.device.tx.written
  pub bytes : join ws ++ (join t ++ join u) ≡ take s.device.tx.bytes s.sent
  pub room : s.device.tx.bytes ≤ length s.sent
  pub order : s.device.rx.taken ≤ s.device.rx.put
  pub held : s.device.rx.put ≤ length s.received
  -- while chip select is high no word waits
  pub rest : high s.device.config ≡ true → (s.device.tx.written ≡ 0) × (s.device.tx.bytes ≡ 0)

pub data Stands (s : Sim) : controller.Device → Type 0 where
  stands : {ws t u : List (List ℕ)} {f : Flash} → Fits s ws t u → Holds s.device.chip s.device.choices.base s.array f
      → Stands s (controller.device s.device.config t u (join ws) (slice s.device.rx.taken s.device.rx.put s.received) f)

-- the same, where bytes out and RX words are known by other names
pub stands_as : (s : Sim) {ws t u : List (List ℕ)} {f : Flash} {w r : List ℕ} → Fits s ws t u
    → Holds s.device.chip s.device.choices.base s.array f → join ws ≡ w → slice s.device.rx.taken s.device.rx.put s.received ≡ r
    → Stands s (controller.device s.device.config t u w r f)
stands_as s {ws} {t} {u} {f} {w} {r} h k e₁ e₂ = rw (sym e₁, sym e₂) (stands h k)

-- by these accesses to where the simulated device stands
pub record Leads (e : controller.Device) (l : List Access) (s : Sim) : Type 0 where
  pub after : controller.Device
  pub standing : Stands s after
  pub trace : Trace e l after

pub nowhere : {e : controller.Device} {s : Sim} → Stands s e → Leads e [] s
nowhere {e} h = record { after = e; standing = h; trace = still }

pub on : {e : controller.Device} {l m : List Access} {s t : Sim} → (x : Leads e l s) → Leads x.after m t → Leads e (l ++ m) t
on x y = record { after = y.after; standing = y.standing; trace = trace_append x.trace y.trace }
