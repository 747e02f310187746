-- The clock control word of the QSPI block, LQSPI_CLK_CTRL: "divisor times 256, plus source times 16, plus 1" (document 01, "Modules of the
-- flash path", 3), with the field widths of the Rust file `zynq7000/src/slcr/clocks.rs`: divisor 13:8, source 5:4, clock active 0.
use Rattle.std.specs.Prelude.{ℕ, List, [], ◌∷◌}
use Rattle.zynq7000.specs.Qspi.{Field, field, assemble}
use Rattle.zynq7000.specs.declared.slcr.clocks.SrcSelIo.{SrcSelIo}
use Rattle.zynq7000.specs.declared.slcr.clocks.SrcSelIo.TheVariants.{IoPll, IoPllAlt, ArmPll, DdrPll}

-- 0x is the I/O PLL in both codes, 10 the ARM PLL, 11 the DDR PLL
abbrev pub source_code : SrcSelIo → ℕ
source_code IoPll = 0
source_code IoPllAlt = 1
source_code ArmPll = 2
source_code DdrPll = 3

abbrev pub clock_control_table : List Field
clock_control_table = field 8 6 ∷ field 4 2 ∷ field 0 1 ∷ []

abbrev pub clock_control_word : ℕ → ℕ → ℕ → ℕ
clock_control_word divisor source active = assemble clock_control_table (divisor ∷ source ∷ active ∷ [])
