-- Which start a call has, by its name. The names of the inputs are a and b: an address, a word, a byte or a flag; and a length, a byte or
-- a choice of settings.
use Rattle.std.specs.Prelude.{ℕ, ◌/◌, ◌%◌, Bool, true, false, List, [], ◌∷◌, Option, Some, None, slice_get, eqb, if◌then◌else◌}
use Rattle.zynq7000.specs.declared.qspi.BaudRateDivisor.{BaudRateDivisor}
use Rattle.zynq7000.specs.declared.qspi.BaudRateDivisor.TheVariants as divisor
use Rattle.zynq7000.specs.declared.slcr.clocks.SrcSelIo.TheVariants as source
use Rattle.zynq7000_hal.specs.declared.qspi.BaudRateConfig.{BaudRateConfig}
use Rattle.zynq7000_hal.specs.declared.qspi.BaudRateConfig.TheVariants.{WithLoopback, WithoutLoopback}
use Rattle.zynq7000_hal.specs.declared.qspi.ClockConfig.{ClockConfig}
use Rattle.qspi_transfer.specs.declared.low_level.Sequence.TheVariants as sequence
use Rattle.qspi_script.specs.declared.Stage.TheVariants as stage
use Rattle.qspi_script.specs.declared.Gives.TheVariants as gives
use Rattle.qspi_operation.specs.declared.Op.{Op}
use Rattle.qspi_calls.specs.declared.start.Config.{Config}
use Rattle.qspi_calls.specs.Starts as start
use Rattle.trial_calls.specs.declared.call.Call.{Call}
use Rattle.trial_calls.specs.declared.call.Call.TheVariants as call

abbrev pub divisors : List BaudRateDivisor
divisors = divisor._2 ∷ divisor._4 ∷ divisor._8 ∷ divisor._16 ∷ divisor._32 ∷ divisor._64 ∷ divisor._128 ∷ divisor._256 ∷ []

-- a divisor, or loopback
abbrev pub baud : Option BaudRateDivisor → BaudRateConfig
baud (Some d) = WithoutLoopback d
baud None = WithLoopback

-- loopback behind the last divisor
abbrev pub baud_of : ℕ → BaudRateConfig
baud_of place = baud (slice_get divisors place)

abbrev pub clock_of : ℕ → ℕ → ClockConfig
clock_of divisor place = record { src_sel = source.IoPll; ref_clk_div = divisor; baud_rate_config = baud_of place }

-- bit n of a choice
abbrev pub is_chosen : ℕ → ℕ → Bool
is_chosen unit b = eqb (b / unit % 2) 1

abbrev pub config_of : ℕ → ℕ → Config
config_of code wanted = record {
  set_quad_bit_if_necessary = is_chosen 1 wanted;
  latency_config = if is_chosen 4 wanted then Some code else None;
  clear_write_protection = is_chosen 2 wanted;
}

abbrev pub start_of : Call → ℕ → ℕ → List ℕ → ℕ → Op
start_of call.Initialize a b list log = start.initialize_of (clock_of (a % 0x100) (b / 4)) (is_chosen 2 b) (is_chosen 1 b) log
start_of call.EnableLinearAddressing a b list log = start.registers_of sequence.EnableLinearAddressing a gives.Nothing 0 log
start_of call.EnableIoMode a b list log = start.enable_io_mode (eqb a 1) log
start_of call.Disable a b list log = start.registers_of sequence.Disable 0 gives.Nothing 0 log
start_of call.WriteEnable a b list log = start.one_transfer stage.Enable gives.Nothing log
start_of call.WriteDisable a b list log = start.one_transfer stage.Disable gives.Nothing log
start_of call.ClearStatus a b list log = start.one_transfer stage.Clear gives.Nothing log
start_of call.WriteStatus a b list log = start.enabled_then stage.WriteStatus (a % 0x100) 0 log
start_of call.WriteStatusAndConfigRegister a b list log = start.enabled_then stage.WriteRegisters (a % 0x100) (b % 0x100) log
start_of call.ReadStatusRegister1 a b list log = start.one_transfer stage.ReadStatus gives.Register log
start_of call.ReadConfigurationRegister a b list log = start.one_transfer stage.ReadConfig gives.Register log
start_of call.ReadRdidBase a b list log = start.one_transfer stage.ReadId gives.Id log
start_of call.ReadRdidExtended a b list log = start.one_transfer stage.ReadLongId gives.LongId log
start_of call.New a b list log = start.new_of (config_of (a % 0x100) b) log
start_of call.SetWriteProtection a b list log = start.set_write_protection (a % 0x100) log
start_of call.EraseSector a b list log = start.erase_sector a log
start_of call.Program a b list log = start.program_of a b log
start_of call.WritePages a b list log = start.write_pages_of a b log
start_of call.ReadPageRead a b list log = start.read_of a false false b log
start_of call.ReadFastRead a b list log = start.read_of a true false b log
start_of call.ReadFastReadDummy a b list log = start.read_of a true true b log
start_of call.EraseSectors a b list log = start.erase_sectors_of list log
