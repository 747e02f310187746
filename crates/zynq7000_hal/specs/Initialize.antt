-- The words of `initialize`: document 01, "Modules of the flash path", 3, and rule 12; the fields are those of specs/Qspi
-- and specs/Slcr of zynq7000.
use Rattle.std.specs.Prelude.{ℕ, Bool, cond, List, [], ◌∷◌, ltb, Option, Some, None, Result, Ok, Err}
use Rattle.zynq7000.specs.Number.{Answer, accepted, refused}
use Rattle.zynq7000.specs.Number.{FieldTooWide}
use Rattle.zynq7000.specs.Bits.{flag_value}
use Rattle.zynq7000.specs.Qspi.{baud_code, Config, config_word, loopback_word}
use Rattle.zynq7000.specs.Slcr.{source_code, clock_control_word}
use Rattle.zynq7000.specs.declared.qspi.BaudRateDivisor.{BaudRateDivisor}
use Rattle.zynq7000_hal.specs.Clocks.{baud_of}
use Rattle.zynq7000_hal.specs.declared.qspi.BaudRateConfig.{BaudRateConfig}
use Rattle.zynq7000_hal.specs.declared.qspi.BaudRateConfig.TheVariants.{WithLoopback, WithoutLoopback}
use Rattle.zynq7000_hal.specs.declared.qspi.ClockConfig.{ClockConfig}
use Rattle.zynq7000_hal.specs.declared.qspi.InitializeWords.{InitializeWords}
use Rattle.zynq7000_hal.specs.declared.qspi.FieldTooWide.{FieldTooWide as too_wide}

-- the flash memory interface with 32-bit FIFO words, low byte first; start and chip select are not yet the program's
abbrev pub initial_config : BaudRateDivisor → Bool → Bool → Config
initial_config d phase polarity =
    record {
      interface_mode = 1;
      edianness = 0;
      holdb_dr = 1;
      manual_start_command = 0;
      manual_start_enable = 0;
      manual_cs = 0;
      peripheral_chip_select = 0;
      fifo_width = 3;
      baud_rate_div = baud_code d;
      clock_phase = flag_value phase;
      clock_polarity = flag_value polarity;
      mode_select = 1;
    }

-- what goes to the loopback delay register: with loopback its use bit, else nothing
abbrev pub loopback_words : BaudRateConfig → List ℕ
loopback_words WithLoopback = loopback_word 1 0 0 ∷ []
loopback_words (WithoutLoopback d) = []

abbrev pub written_words : Option ℕ → List ℕ
written_words (Some w) = w ∷ []
written_words None = []

-- the answer's values: the clock control word that is returned, the config word, and the loopback word where there is one
abbrev pub initialized_answer : Result InitializeWords too_wide → Answer
initialized_answer (Ok w) = accepted (w.lqspi_clk_ctrl ∷ w.config ∷ written_words w.loopback)
initialized_answer (Err e) = refused FieldTooWide

-- rule 12: clock divisor above 63
abbrev pub initialize_answer : ClockConfig → Bool → Bool → Answer
initialize_answer c phase polarity =
    cond (ltb 63 c.ref_clk_div) (refused FieldTooWide)
    (accepted
    (clock_control_word c.ref_clk_div (source_code c.src_sel) 1
    ∷ config_word (initial_config (baud_of c.baud_rate_config) phase polarity)
    ∷ loopback_words c.baud_rate_config))
