-- "All words have gone out before chip select rises" (demand 3) as a claim of its own, of every call that sends: each takes a reply for each
-- of its words (document 02, U2). The four calls that send nothing (`initialize`, `enable_linear_addressing`, `enable_io_mode`, `disable`)
-- write config themselves, and the claim is not about them.
use Rattle.std.specs.Prelude.{ℕ, ◌≡◌, Bool, true, false, List, [], ◌++◌}
use Rattle.zynq7000.specs.Bits.{is_set}
use Rattle.zynq7000.specs.declared.qspi.Access.{Access}
use Rattle.qspi_operation.specs.Machine.{nothing, Script, State, begin, want, Makes, after}
use Rattle.qspi_calls.specs.declared.start.Config.{Config}
use Rattle.qspi_calls.specs.Calls as call
use Rattle.power_cut.specs.Flash.{Flash}
use Rattle.power_cut.specs.Controller.{Device, device, Trace, AllOut}

-- the calls of specs/Calls of qspi_calls that send, in its order
pub data Sends : Script → Type 0 where
  write_enable : Sends call.write_enable
  write_disable : Sends call.write_disable
  clear_status : Sends call.clear_status
  read_status : Sends call.read_status
  read_config : Sends call.read_config
  read_id : Sends call.read_id
  read_long_id : Sends call.read_long_id
  write_status : (sr : ℕ) → Sends (call.write_status sr)
  write_registers : (sr cr : ℕ) → Sends (call.write_registers sr cr)
  new : (c : Config) → Sends (call.new_call c)
  set_write_protection : (p : ℕ) → Sends (call.set_write_protection p)
  erase_sector : (a : ℕ) → Sends (call.erase_sector a)
  erase_sectors : (l : List ℕ) → Sends (call.erase_sectors l)
  program : (a : ℕ) (bs : List ℕ) → Sends (call.program a bs)
  write_pages_call : (a : ℕ) (bs : List ℕ) → Sends (call.write_pages a bs)
  read : (fast dummy : Bool) (a n : ℕ) → Sends (call.read fast dummy a n)

-- the controller between calls: "bits 10, 14 and 15 are set, and no TX word waits or is going out"; bit 16 reads zero. RX words and flash
-- are free.
pub data AtRest : Device → Type 0 where
  at_rest : {c : ℕ} {w r : List ℕ} {f : Flash} → is_set 10 c ≡ true → is_set 14 c ≡ true → is_set 15 c ≡ true → is_set 16 c ≡ false → AtRest (device c [] [] w r f)

-- calls of a kind, one behind the other: all their accesses, and where the last call stands after its own. The accesses of a call are those
-- that its script makes, whatever the replies and however far it came: so of every run, at every cut point, in any order of steps. Another
-- call follows where nothing is due, so that neither 23 nor 24 ended the one before.
pub data RowOf (Call : Script → Type 0) : List Access → State → Type 0 where
  last : {s : Script} {l : List Access} → Call s → Makes (begin s [] 0) l → RowOf Call l (after (begin s [] 0) l)
  more : {s : Script} (l : List Access) {m : List Access} {z : State} → Call s → Makes (begin s [] 0) l → want (after (begin s [] 0) l) ≡ nothing → RowOf Call m z → RowOf Call (l ++ m) z

-- of every row of such calls, on every device that is at rest before it, and on every schedule
pub record WordsOut (Call : Script → Type 0) : Type 0 where
  -- at each rise of chip select no word waits or is going out
  pub at_each_rise : {l : List Access} {z : State} → RowOf Call l z → {d e : Device} → AtRest d → (t : Trace d l e) → AllOut t
  -- and once the last call has ended too, the controller is at rest again
  pub rests_again : {l : List Access} {z : State} → RowOf Call l z → want z ≡ nothing → {d e : Device} → AtRest d → Trace d l e → AtRest e
