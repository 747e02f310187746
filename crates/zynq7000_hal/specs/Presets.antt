-- The linear mode configurations: the words of document 01, "Modules of the flash path", 2, as fields of LQSPI_CFG. The Rust has them from
-- UG585, table 12-3.
use Rattle.std.specs.Prelude.{ℕ, Bool, true, false}
use Rattle.zynq7000.specs.Bits.{flag_value}
use Rattle.zynq7000.specs.Qspi.{Linear, instruction_byte}
use Rattle.zynq7000.specs.declared.qspi.InstructionCode.{InstructionCode}
use Rattle.zynq7000.specs.declared.qspi.InstructionCode.TheVariants.{Read, FastRead, FastReadDualOutput, FastReadQuadOutput, FastReadDualIo, FastReadQuadIo}
use Rattle.zynq7000_hal.specs.declared.qspi.QspiVendor.{QspiVendor}
use Rattle.zynq7000_hal.specs.declared.qspi.QspiVendor.TheVariants.{WinbondAndSpansion, Micron}
use Rattle.zynq7000_hal.specs.declared.qspi.QspiDeviceCombination.{QspiDeviceCombination}

abbrev pub mode_bits : Bool → ℕ
mode_bits true = 0xFF
mode_bits false = 0x00

-- a read in linear mode: its instruction, whether mode bits (FF) follow the address, its dummy bytes, and whether two memories on buses
-- of their own answer it
abbrev pub linear_read : InstructionCode → Bool → ℕ → Bool → Linear
linear_read i mode dummies two =
    record {
      enable_linear_mode = 1;
      both_memories = flag_value two;
      separate_memory_bus = flag_value two;
      upper_memory_page = 0;
      mode_enable = flag_value mode;
      mode_on = 0;
      mode_bits = mode_bits mode;
      num_dummy_bytes = dummies;
      instruction_code = instruction_byte i;
    }

-- which reads send mode bits, and the dummy bytes of each
abbrev pub sends_mode : InstructionCode → Bool
sends_mode Read = false
sends_mode FastRead = false
sends_mode FastReadDualOutput = false
sends_mode FastReadQuadOutput = false
sends_mode FastReadDualIo = true
sends_mode FastReadQuadIo = true

abbrev pub dummy_bytes : QspiVendor → InstructionCode → ℕ
dummy_bytes v Read = 0
dummy_bytes v FastRead = 1
dummy_bytes v FastReadDualOutput = 1
dummy_bytes v FastReadQuadOutput = 1
dummy_bytes WinbondAndSpansion FastReadDualIo = 0
dummy_bytes Micron FastReadDualIo = 1
dummy_bytes WinbondAndSpansion FastReadQuadIo = 2
dummy_bytes Micron FastReadQuadIo = 4

abbrev pub preset : QspiVendor → InstructionCode → Bool → Linear
preset v i two = linear_read i (sends_mode i) (dummy_bytes v i) two

abbrev pub preset_of : QspiDeviceCombination → Linear
preset_of d = preset d.vendor d.operating_mode d.two_devices

-- I/O mode: no linear reads; the rest is what the Rust calls the register's reset values. "io mode, one flash: A0 gets 01A002EB; dual
-- 61A002EB" (01, "Station cases")
abbrev pub io_mode_config : Bool → Linear
io_mode_config dual =
    record {
      enable_linear_mode = 0;
      both_memories = flag_value dual;
      separate_memory_bus = flag_value dual;
      upper_memory_page = 0;
      mode_enable = 0;
      mode_on = 1;
      mode_bits = 0xA0;
      num_dummy_bytes = 2;
      instruction_code = instruction_byte FastReadQuadIo;
    }
