-- The S25FL256S: command bytes, and the fields of its registers SR1 and CR1, after the Rust file `zedboard-bsp/src/qspi_spansion.rs`; those
-- that document 01 names are its own. Names in capitals are the datasheet's as the Rust or memory has
-- them; it was not at hand.
use Rattle.std.specs.Prelude.{ℕ, List, [], ◌∷◌}
use Rattle.zynq7000.specs.Qspi.{Field, field}
use Rattle.zedboard_bsp.specs.declared.qspi_spansion.RegisterId.{RegisterId}
use Rattle.zedboard_bsp.specs.declared.qspi_spansion.RegisterId.TheVariants as command

-- WRR, PP, READ, WRDI, RDSR1, WREN, RDSR2, FAST_READ, CLSR, RDCR, RDID, SE
abbrev pub command_byte : RegisterId → ℕ
command_byte command.WriteRegisters = 0x01
command_byte command.PageProgram = 0x02
command_byte command.Read = 0x03
command_byte command.WriteDisable = 0x04
command_byte command.ReadStatus1 = 0x05
command_byte command.WriteEnable = 0x06
command_byte command.ReadStatus2 = 0x07
command_byte command.FastRead = 0x0B
command_byte command.ClearStatus = 0x30
command_byte command.ReadConfig = 0x35
command_byte command.ReadId = 0x9F
command_byte command.SectorErase = 0xD8

-- ---- SR1: SRWD, P_ERR, E_ERR, BP2 to BP0, WEL, WIP

abbrev pub status_register_write_disable : Field
status_register_write_disable = field 7 1

abbrev pub programming_error : Field
programming_error = field 6 1

abbrev pub erase_error : Field
erase_error = field 5 1

abbrev pub block_protection : Field
block_protection = field 2 3

abbrev pub write_enable_latch : Field
write_enable_latch = field 1 1

abbrev pub write_in_progress : Field
write_in_progress = field 0 1

abbrev pub status_table : List Field
status_table = status_register_write_disable ∷ programming_error ∷ erase_error ∷ block_protection ∷ write_enable_latch ∷ write_in_progress ∷ []

-- ---- CR1: LC1 and LC0, TBPROT, BPNV, TBPARM, QUAD, FREEZE; bit 4 has no field

abbrev pub latency_code : Field
latency_code = field 6 2

abbrev pub quad_bit : Field
quad_bit = field 1 1

abbrev pub config_table : List Field
config_table = latency_code ∷ field 5 1 ∷ field 3 1 ∷ field 2 1 ∷ quad_bit ∷ field 0 1 ∷ []
