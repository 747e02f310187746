-- Where the bytes of a reply go in the lent buffer: document 01, "A read goes in chunks ..", "A read byte changes only at the step that
-- takes its reply."
use Rattle.std.specs.Prelude.{ℕ, ◌+◌, ◌-◌, ◌/◌, ◌%◌, ◌^◌, Bool, true, false, List, nat_le, nat_lt, slice_set}
use Rattle.zynq7000.specs.Bits.{flag_value}
use Rattle.qspi_transfer.specs.declared.Phase.{Phase}
use Rattle.qspi_transfer.specs.declared.Phase.TheVariants.{DrainStatus, DrainData, OpenRead, OpenWrite, Enable, Send, StartRead, StartWrite, Wait, WaitAgain, Take, CloseRead, CloseWrite, Disable, Registers}
use Rattle.qspi_transfer.specs.declared.Wire.{Wire}
use Rattle.qspi_script.specs.declared.Stage.{Stage}
use Rattle.qspi_script.specs.declared.Stage.TheVariants as stage
use Rattle.qspi_script.specs.declared.Job.{Job}
use Rattle.qspi_script.specs.declared.Place.{Place}

abbrev pub when : Bool → List ℕ → List ℕ → List ℕ
when true a b = a
when false a b = b

-- a byte by its place among those after the first reply: the dummy byte and bytes past the chunk are dropped
abbrev pub store_byte : List ℕ → Place → ℕ → ℕ → ℕ → List ℕ
store_byte buffer p dummy at b =
    when (nat_le dummy at) (when (nat_lt (at - dummy) p.chunk) (slice_set buffer ((p.done + (at - dummy)) % 2 ^ 64) b) buffer) buffer

-- the four bytes of a reply, low byte first
abbrev pub store_reply : List ℕ → Place → ℕ → ℕ → ℕ → List ℕ
store_reply buffer p dummy at w =
    store_byte
    (store_byte (store_byte (store_byte buffer p dummy at (w % 256)) p dummy (at + 1) (w / 256 % 256)) p dummy (at + 2) (w / 65536 % 256))
    p
    dummy
    (at + 3)
    (w / 16777216 % 256)

abbrev pub is_taking : Phase → Bool
is_taking DrainStatus = false
is_taking DrainData = false
is_taking OpenRead = false
is_taking OpenWrite = false
is_taking Enable = false
is_taking Send = false
is_taking StartRead = false
is_taking StartWrite = false
is_taking Wait = false
is_taking WaitAgain = false
is_taking Take = true
is_taking CloseRead = false
is_taking CloseWrite = false
is_taking Disable = false
is_taking Registers = false

abbrev pub is_reading : Stage → Bool
is_reading stage.Enable = false
is_reading stage.Disable = false
is_reading stage.Clear = false
is_reading stage.ReadStatus = false
is_reading stage.ReadConfig = false
is_reading stage.WriteStatus = false
is_reading stage.WriteRegisters = false
is_reading stage.ReadId = false
is_reading stage.ReadLongId = false
is_reading stage.Erase = false
is_reading stage.Program = false
is_reading stage.Poll = false
is_reading stage.Read = true
is_reading stage.Registers = false
is_reading stage.End = false

abbrev pub skipped : Bool → ℕ
skipped dummy = flag_value dummy

-- the buffer after an access of a value; the first reply of a transfer is dropped
abbrev pub stored : Job → Place → Wire → ℕ → List ℕ → List ℕ
stored job p w v buffer =
    when (is_taking w.phase)
    (when (is_reading p.stage)
    (when (nat_le 4 w.read_index) (store_reply buffer p (skipped job.reading.dummy) (w.read_index - 4) v) buffer)
    buffer)
    buffer
