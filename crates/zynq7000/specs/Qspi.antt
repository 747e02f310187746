-- The QSPI block's registers: the offsets of document 01, "Modules of the flash path", 1, in hex, and each word as a table of its fields from
-- bit 31 down, after the Rust file `zynq7000/src/qspi.rs`. Names in the manual's spelling (Config_reg, PCS) are for finding them in UG585,
-- which was not at hand.
use Rattle.std.specs.Prelude.{ℕ, ◌+◌, ◌*◌, ◌%◌, ◌^◌, List, [], ◌∷◌}
use Rattle.zynq7000.specs.Bits.{zero_below}
use Rattle.zynq7000.specs.declared.qspi.Register.{Register}
use Rattle.zynq7000.specs.declared.qspi.Register.TheVariants as register
use Rattle.zynq7000.specs.declared.qspi.BaudRateDivisor.{BaudRateDivisor}
use Rattle.zynq7000.specs.declared.qspi.BaudRateDivisor.TheVariants as baud
use Rattle.zynq7000.specs.declared.qspi.InstructionCode.{InstructionCode}
use Rattle.zynq7000.specs.declared.qspi.InstructionCode.TheVariants.{Read, FastRead, FastReadDualOutput, FastReadQuadOutput, FastReadDualIo, FastReadQuadIo}

-- Config_reg, Intr_status_REG, En_REG, TXD0, Rx_data_REG, TX_thres_REG, RX_thres_REG, LPBK_DLY_ADJ, TXD1 to TXD3, LQSPI_CFG
abbrev pub offset_of : Register → ℕ
offset_of register.Config = 0x00
offset_of register.InterruptStatus = 0x04
offset_of register.SpiEnable = 0x14
offset_of register.TxData00 = 0x1C
offset_of register.RxData = 0x20
offset_of register.TxFifoThreshold = 0x28
offset_of register.RxFifoThreshold = 0x2C
offset_of register.LoopbackMasterClockDelay = 0x38
offset_of register.TxData01 = 0x80
offset_of register.TxData10 = 0x84
offset_of register.TxData11 = 0x88
offset_of register.LinearQspiConfig = 0xA0

-- the block begins at the Rust's `QSPI_BASE_ADDR`
abbrev pub bus_address : ℕ → ℕ
bus_address offset = 0xE000D000 + offset

-- ---- codes of fields

-- Config_reg, BAUD_RATE_DIV: the code, and what it divides the reference clock by
abbrev pub baud_code : BaudRateDivisor → ℕ
baud_code baud._2 = 0
baud_code baud._4 = 1
baud_code baud._8 = 2
baud_code baud._16 = 3
baud_code baud._32 = 4
baud_code baud._64 = 5
baud_code baud._128 = 6
baud_code baud._256 = 7

abbrev pub divisor_of : BaudRateDivisor → ℕ
divisor_of baud._2 = 2
divisor_of baud._4 = 4
divisor_of baud._8 = 8
divisor_of baud._16 = 16
divisor_of baud._32 = 32
divisor_of baud._64 = 64
divisor_of baud._128 = 128
divisor_of baud._256 = 256

-- LQSPI_CFG, INST_CODE: the flash's read commands, the low byte of 01's preset words
abbrev pub instruction_byte : InstructionCode → ℕ
instruction_byte Read = 0x03
instruction_byte FastRead = 0x0B
instruction_byte FastReadDualOutput = 0x3B
instruction_byte FastReadQuadOutput = 0x6B
instruction_byte FastReadDualIo = 0xBB
instruction_byte FastReadQuadIo = 0xEB

-- ---- words

-- a field of a register: its lowest bit and its width in bits
pub data Field : Type 0 where
  field : ℕ → ℕ → Field

abbrev pub lowest : Field → ℕ
lowest (field low width) = low

abbrev pub lows : List Field → List ℕ
lows [] = []
lows (f ∷ fs) = lowest f ∷ lows fs

-- the word in which each field of a table has the low bits of its value, and every bit of no field is 0
abbrev pub assemble : List Field → List ℕ → ℕ
assemble [] vs = 0
assemble (f ∷ fs) [] = 0
assemble (field low width ∷ fs) (v ∷ vs) = v % 2 ^ width * 2 ^ low + assemble fs vs

-- the word after each field of a table, where it is put together field by field from bit 31 down (document 02, U4): the final word w with
-- all bits below that field zero
abbrev pub after_each : List Field → ℕ → List ℕ
after_each [] w = []
after_each (f ∷ fs) w = zero_below (lowest f) w ∷ after_each fs w

-- Config_reg: 31 ifmode, 26 endian, 19 Holdb_dr, 16 Man_start_com, 15 Man_start_en, 14 Manual_CS, 10 PCS, 7:6 FIFO_WIDTH,
-- 5:3 BAUD_RATE_DIV, 2 CLK_PH, 1 CLK_POL, 0 MODE_SEL; the bits between are 0: reserved ones, and bit 8, REF_CLK
abbrev pub config_table : List Field
config_table =
    field 31 1
    ∷ field 26 1
    ∷ field 19 1
    ∷ field 16 1
    ∷ field 15 1
    ∷ field 14 1
    ∷ field 10 1
    ∷ field 6 2
    ∷ field 3 3
    ∷ field 2 1
    ∷ field 1 1
    ∷ field 0 1
    ∷ []

-- the values of its fields, by the Rust's names, in the table's order
pub record Config : Type 0 where
  pub interface_mode : ℕ
  pub edianness : ℕ
  pub holdb_dr : ℕ
  pub manual_start_command : ℕ
  pub manual_start_enable : ℕ
  pub manual_cs : ℕ
  pub peripheral_chip_select : ℕ
  pub fifo_width : ℕ
  pub baud_rate_div : ℕ
  pub clock_phase : ℕ
  pub clock_polarity : ℕ
  pub mode_select : ℕ

abbrev pub config_values : Config → List ℕ
config_values c =
    c.interface_mode
    ∷ c.edianness
    ∷ c.holdb_dr
    ∷ c.manual_start_command
    ∷ c.manual_start_enable
    ∷ c.manual_cs
    ∷ c.peripheral_chip_select
    ∷ c.fifo_width
    ∷ c.baud_rate_div
    ∷ c.clock_phase
    ∷ c.clock_polarity
    ∷ c.mode_select
    ∷ []

abbrev pub config_word : Config → ℕ
config_word c = assemble config_table (config_values c)

-- Intr_status_REG: TX underflow, RX full, RX above threshold, TX full, TX below threshold, RX overrun
abbrev pub interrupt_status_table : List Field
interrupt_status_table = field 6 1 ∷ field 5 1 ∷ field 4 1 ∷ field 3 1 ∷ field 2 1 ∷ field 0 1 ∷ []

-- 01 calls it bit 4 of a status read: an RX word waits
abbrev pub rx_above_threshold : ℕ
rx_above_threshold = 4

-- En_REG
abbrev pub spi_enable_table : List Field
spi_enable_table = field 0 1 ∷ []

-- LPBK_DLY_ADJ: use loopback, delay 1, delay 0
abbrev pub loopback_table : List Field
loopback_table = field 5 1 ∷ field 3 2 ∷ field 0 3 ∷ []

abbrev pub loopback_word : ℕ → ℕ → ℕ → ℕ
loopback_word on delay1 delay0 = assemble loopback_table (on ∷ delay1 ∷ delay0 ∷ [])

-- LQSPI_CFG: 31 LQ_MODE, 30 TWO_MEM, 29 SEP_BUS, 28 U_PAGE, 25 MODE_EN, 24 MODE_ON, 23:16 MODE_BITS, 10:8 DUMMY_BYTE, 7:0 INST_CODE
abbrev pub linear_table : List Field
linear_table =
    field 31 1
    ∷ field 30 1
    ∷ field 29 1
    ∷ field 28 1
    ∷ field 25 1
    ∷ field 24 1
    ∷ field 16 8
    ∷ field 8 3
    ∷ field 0 8
    ∷ []

-- the values of its fields
pub record Linear : Type 0 where
  pub enable_linear_mode : ℕ
  pub both_memories : ℕ
  pub separate_memory_bus : ℕ
  pub upper_memory_page : ℕ
  pub mode_enable : ℕ
  pub mode_on : ℕ
  pub mode_bits : ℕ
  pub num_dummy_bytes : ℕ
  pub instruction_code : ℕ

abbrev pub linear_values : Linear → List ℕ
linear_values l =
    l.enable_linear_mode
    ∷ l.both_memories
    ∷ l.separate_memory_bus
    ∷ l.upper_memory_page
    ∷ l.mode_enable
    ∷ l.mode_on
    ∷ l.mode_bits
    ∷ l.num_dummy_bytes
    ∷ l.instruction_code
    ∷ []

abbrev pub linear_word : Linear → ℕ
linear_word l = assemble linear_table (linear_values l)
