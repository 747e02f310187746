-- The calls that write registers and send nothing, by the number of the access: document 01, "Modules of the flash path", 3, and the
-- functions of those names in the Rust file `zynq7000-hal/src/qspi/mod.rs`. Bits are those of config in specs/Qspi of zynq7000.
use Rattle.std.specs.Prelude.{ℕ, Bool, true, false, ◌==◌}
use Rattle.zynq7000.specs.Bits.{put, clear}
use Rattle.zynq7000.specs.Qspi.{loopback_word}
use Rattle.qspi_transfer.specs.declared.Due.{Due}
use Rattle.qspi_transfer.specs.declared.Due.TheVariants.{Read, Write}
use Rattle.qspi_transfer.specs.declared.low_level.Sequence.{Sequence}
use Rattle.qspi_transfer.specs.declared.low_level.Sequence.TheVariants.{Initialize, InitializeWithLoopback, EnableLinearAddressing, EnableIoMode, Disable}

-- chip select is driven high by bit 10; bits 14 and 15 make chip select and start the program's
abbrev pub chip_select_high : ℕ → ℕ
chip_select_high w = put 10 w

abbrev pub chip_select_low : ℕ → ℕ
chip_select_low w = clear 10 w

-- bit 16 starts what waits to be sent
abbrev pub started : ℕ → ℕ
started w = put 16 w

abbrev pub manual : ℕ → ℕ
manual w = put 14 (put 15 w)

abbrev pub automatic : ℕ → ℕ
automatic w = clear 10 (clear 14 (clear 15 w))

abbrev pub pick_due : Bool → Due → Due → Due
pick_due true a b = a
pick_due false a b = b

abbrev pub initialize_due : ℕ → ℕ → Due
initialize_due at word = pick_due (at == 0) (Write 0x00 word) (Write 0x38 (loopback_word 1 0 0))

abbrev pub linear_due : ℕ → ℕ → ℕ → Due
linear_due at config word =
    pick_due (at == 0) (Write 0x14 0)
    (pick_due (at == 1) (Read 0x00)
    (pick_due (at == 2) (Write 0x00 (automatic config)) (Write 0xA0 word)))

abbrev pub io_mode_due : ℕ → ℕ → ℕ → Due
io_mode_due at config word =
    pick_due (at == 0) (Read 0x00)
    (pick_due (at == 1) (Write 0x00 (manual config))
    (pick_due (at == 2) (Write 0x2C 1) (pick_due (at == 3) (Write 0x28 1) (Write 0xA0 word))))

abbrev pub disable_due : ℕ → ℕ → Due
disable_due at config =
    pick_due (at == 0) (Write 0x14 0) (pick_due (at == 1) (Read 0x00) (Write 0x00 (chip_select_high config)))

abbrev pub sequence_due : Sequence → ℕ → ℕ → ℕ → Due
sequence_due Initialize at config word = initialize_due at word
sequence_due InitializeWithLoopback at config word = initialize_due at word
sequence_due EnableLinearAddressing at config word = linear_due at config word
sequence_due EnableIoMode at config word = io_mode_due at config word
sequence_due Disable at config word = disable_due at config

-- how many accesses follow the first
abbrev pub sequence_more : Sequence → ℕ
sequence_more Initialize = 0
sequence_more InitializeWithLoopback = 1
sequence_more EnableLinearAddressing = 3
sequence_more EnableIoMode = 4
sequence_more Disable = 2
