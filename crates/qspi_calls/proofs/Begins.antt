-- Each start begins the script of its call: for the contracts of `start`. Assumes nothing.
use mathlib.Core.Path.{◌≡◌}
use mathlib.Core.Bool.{Bool, false, true}
use mathlib.Core.List.{List, []}
use Prim.Native.Nat.{ℕ, ◌^◌, ◌<◌}
use native.Mathlib.Omega.{arith}
use lib.ListN.{length, replicate, length-replicate}
use Rattle.zynq7000_hal.specs.declared.qspi.ClockConfig.{ClockConfig}
use Rattle.qspi_transfer.specs.declared.low_level.Sequence.TheVariants as sequence
use Rattle.qspi_script.specs.declared.Stage.TheVariants as stage
use Rattle.qspi_script.specs.declared.Gives.TheVariants as gives
use Rattle.qspi_operation.specs.declared.Op.{Op}
use Rattle.qspi_operation.specs.Machine.{Script}
use Rattle.qspi_operation.specs.Follows.{Begun}
use Rattle.qspi_calls.specs.Begins.{Begins, BeginsWith, BeginsInto, BeginsList}
use Rattle.qspi_calls.specs.Sectors.{numbers}
use Rattle.qspi_calls.specs.Calls as call
use Rattle.qspi_calls.specs.Starts as start
use Rattle.qspi_calls.specs.declared.start.Config.{Config}
use Rattle.qspi_calls.proofs.Tied.{Starts, started}
use Rattle.qspi_calls.proofs.OneTransfer as one
use Rattle.qspi_calls.proofs.Several as several
use Rattle.qspi_calls.proofs.Pages as pages
use Rattle.qspi_calls.proofs.ListOfSectors as sectors
use Rattle.qspi_calls.proofs.ReadCalls as reading
use Rattle.qspi_calls.proofs.LowLevelCalls as low

-- what a start that is given the lengths of the lent memory promises, out of its equation by counters
abbrev OnlyLog : (ℕ → Op) → Script → Type 0
OnlyLog o₀ c = (n : ℕ) → n < 2 ^ 64 → (o : Op) → o ≡ o₀ n → Begins n c o

abbrev WithData : (ℕ → ℕ → Op) → (List ℕ → Script) → Type 0
WithData o₀ c = (d n : ℕ) → n < 2 ^ 64 → (o : Op) → o ≡ o₀ d n → BeginsWith d n c o

abbrev IntoBuffer : (ℕ → ℕ → Op) → (ℕ → Script) → Type 0
IntoBuffer o₀ c = (b n : ℕ) → n < 2 ^ 64 → (o : Op) → o ≡ o₀ b n → BeginsInto b n (c b) o

module _ (o₀ : ℕ → Op) where
  -- a call that is lent only a log
  only_log : (c : Script) → ((log : List ℕ) → Starts (o₀ (length log)) [] log [] c) → OnlyLog o₀ c
  only_log c h n fits o e =
      let log : List ℕ = replicate n 0 in
      let k : length log ≡ n = length-replicate {A = ℕ} n 0 in
      let y : Begun (record { bytes = []; buffer = []; room = length log }) c (o₀ (length log)) = started (o₀ (length log)) [] log [] c (omega (arith, k, fits)) (h log) in
      rw e (rw k at y)

module _ (o₀ : ℕ → ℕ → Op) where
  with_data : (c : List ℕ → Script) → ((bs log : List ℕ) → Starts (o₀ (length bs) (length log)) bs log [] (c bs)) → WithData o₀ c
  with_data c h d n fits o e =
      let log : List ℕ = replicate n 0 in
      let k : length log ≡ n = length-replicate {A = ℕ} n 0 in
      λ bs m.
      let y : Begun (record { bytes = bs; buffer = []; room = length log }) (c bs) (o₀ (length bs) (length log)) = started (o₀ (length bs) (length log)) bs log [] (c bs) (omega (arith, k, fits)) (h bs log) in
      rw (e, ← m) (rw k at y)

  with_buffer : (c : ℕ → Script) → ((log old : List ℕ) → Starts (o₀ (length old) (length log)) [] log old (c (length old))) → IntoBuffer o₀ c
  with_buffer c h b n fits o e =
      let log : List ℕ = replicate n 0 in
      let k : length log ≡ n = length-replicate {A = ℕ} n 0 in
      λ old m.
      let y : Begun (record { bytes = []; buffer = old; room = length log }) (c (length old)) (o₀ (length old) (length log)) = started (o₀ (length old) (length log)) [] log old (c (length old)) (omega (arith, k, fits)) (h log old) in
      rw (e, ← m) (rw k at y)

pub write_enable_lem : OnlyLog (start.one_transfer stage.Enable gives.Nothing) call.write_enable
write_enable_lem = only_log (start.one_transfer stage.Enable gives.Nothing) call.write_enable one.write_enable_lem

pub write_disable_lem : OnlyLog (start.one_transfer stage.Disable gives.Nothing) call.write_disable
write_disable_lem = only_log (start.one_transfer stage.Disable gives.Nothing) call.write_disable one.write_disable_lem

pub clear_status_lem : OnlyLog (start.one_transfer stage.Clear gives.Nothing) call.clear_status
clear_status_lem = only_log (start.one_transfer stage.Clear gives.Nothing) call.clear_status one.clear_status_lem

pub read_status_register_1 : OnlyLog (start.one_transfer stage.ReadStatus gives.Register) call.read_status
read_status_register_1 = only_log (start.one_transfer stage.ReadStatus gives.Register) call.read_status one.read_status_lem

pub read_configuration_register : OnlyLog (start.one_transfer stage.ReadConfig gives.Register) call.read_config
read_configuration_register = only_log (start.one_transfer stage.ReadConfig gives.Register) call.read_config one.read_config_lem

pub read_rdid_base : OnlyLog (start.one_transfer stage.ReadId gives.Id) call.read_id
read_rdid_base = only_log (start.one_transfer stage.ReadId gives.Id) call.read_id one.read_id_lem

pub read_rdid_extended : OnlyLog (start.one_transfer stage.ReadLongId gives.LongId) call.read_long_id
read_rdid_extended = only_log (start.one_transfer stage.ReadLongId gives.LongId) call.read_long_id one.read_long_id_lem

pub write_status_lem : (sr : ℕ) → OnlyLog (start.enabled_then stage.WriteStatus sr 0) (call.write_status sr)
write_status_lem sr = only_log (start.enabled_then stage.WriteStatus sr 0) (call.write_status sr) (several.write_status_lem sr)

pub write_status_and_config_register : (sr : ℕ) (cr : ℕ) → OnlyLog (start.enabled_then stage.WriteRegisters sr cr) (call.write_registers sr cr)
write_status_and_config_register sr cr = only_log (start.enabled_then stage.WriteRegisters sr cr) (call.write_registers sr cr) (several.write_registers_lem sr cr)

pub new : (config : Config) → OnlyLog (start.new_of config) (call.new_call config)
new config = only_log (start.new_of config) (call.new_call config) (several.new_call_lem config)

pub set_write_protection_lem : (p : ℕ) → OnlyLog (start.set_write_protection p) (call.set_write_protection p)
set_write_protection_lem p = only_log (start.set_write_protection p) (call.set_write_protection p) (several.set_write_protection_lem p)

pub erase_sector_lem : (a : ℕ) → OnlyLog (start.erase_sector a) (call.erase_sector a)
erase_sector_lem a = only_log (start.erase_sector a) (call.erase_sector a) (several.erase_sector_lem a)

pub program : (a : ℕ) → WithData (start.program_of a) (call.program a)
program a = with_data (start.program_of a) (call.program a) (several.program a)

pub write_pages_lem : (a : ℕ) → WithData (start.write_pages_of a) (call.write_pages a)
write_pages_lem a = with_data (start.write_pages_of a) (call.write_pages a) (pages.write_pages_lem a)

pub erase_sectors_lem : (l : List ℕ) (n : ℕ) → n < 2 ^ 64 → (o : Op) → o ≡ start.erase_sectors_of l n → BeginsList l n o
erase_sectors_lem l n fits o e =
    let log : List ℕ = replicate n 0 in
    let k : length log ≡ n = length-replicate {A = ℕ} n 0 in
    let y : BeginsList l (length log) (start.erase_sectors_of l (length log)) = started (start.erase_sectors_of l (length log)) (numbers l) log [] (call.erase_sectors l) (omega (arith, k, fits)) (sectors.erase_sectors_lem l log) in
    rw e (rw k at y)

pub read_page_read : (a : ℕ) → IntoBuffer (start.read_of a false false) (call.read false false a)
read_page_read a = with_buffer (start.read_of a false false) (call.read false false a) (reading.read false false a)

pub read_fast_read : (a : ℕ) (dummy : Bool) → IntoBuffer (start.read_of a true dummy) (call.read true dummy a)
read_fast_read a dummy = with_buffer (start.read_of a true dummy) (call.read true dummy a) (reading.read true dummy a)

pub initialize : (c : ClockConfig) (phase : Bool) (polarity : Bool) → OnlyLog (start.initialize_of c phase polarity) (call.initialize c phase polarity)
initialize c phase polarity = only_log (start.initialize_of c phase polarity) (call.initialize c phase polarity) (low.initialize c phase polarity)

pub enable_linear_addressing_lem : (word : ℕ) → OnlyLog (start.registers_of sequence.EnableLinearAddressing word gives.Nothing 0) (call.enable_linear_addressing word)
enable_linear_addressing_lem word = only_log (start.registers_of sequence.EnableLinearAddressing word gives.Nothing 0) (call.enable_linear_addressing word) (low.enable_linear_addressing_lem word)

pub enable_io_mode_lem : (dual : Bool) → OnlyLog (start.enable_io_mode dual) (call.enable_io_mode dual)
enable_io_mode_lem dual = only_log (start.enable_io_mode dual) (call.enable_io_mode dual) (low.enable_io_mode_lem dual)

pub disable : OnlyLog (start.registers_of sequence.Disable 0 gives.Nothing 0) call.disable
disable = only_log (start.registers_of sequence.Disable 0 gives.Nothing 0) call.disable low.disable
