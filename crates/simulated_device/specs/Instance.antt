-- What runs against the simulated device are to the power-cut statement (specs/Statement of power_cut): traces that it speaks of.
use Rattle.std.specs.Prelude.{◌≡◌, List, ℕ, ◌+◌, length}
use Rattle.zynq7000.specs.Access.{encode}
use Rattle.zynq7000.specs.declared.qspi.Access.{Access}
use Rattle.power_cut.specs.Flash.{AfterCut}
use Rattle.power_cut.specs.Controller.{flash_of, Trace, Rests}
use Rattle.power_cut.specs.Controller as controller
use Rattle.simulated_device.specs.Replies.{byte_at}
use Rattle.simulated_device.specs.Row.{Past}

-- of a run, or of a row of them, that began with the array `old`, lent from the address base on, logged these words, and left the array `new`
pub record Instance (base : ℕ) (old words new : List ℕ) : Type 0 where
  -- the words are those of accesses
  pub accesses : List Access
  pub is_log : words ≡ encode accesses
  -- the premises of the statement: the device rests, and the accesses are a trace of it
  pub before : controller.Device
  pub after : controller.Device
  pub rests : Rests (λ (x : ℕ). byte_at old base x) before
  pub trace : Trace before accesses after
  -- the array afterwards is one that a cut at this point may leave
  pub left : AfterCut (flash_of after) (λ (x : ℕ). byte_at new base x)

-- of a row of which the cut point is so many accesses, on this array
pub record RowInstance (base cut : ℕ) (array : List ℕ) (p : Past) : Type 0 where
  pub is : Instance base array p.words p.array
  -- all accesses count, those of earlier calls too
  pub counted : length is.accesses + p.row.left ≡ cut
