-- The words of `initialize` out of the answer that promises them. Assumes nothing.
use Prim.Native.Nat.{ℕ}
use mathlib.Core.Path.{◌≡◌, refl, sym, ap, ◌∙◌}
use mathlib.Core.Bool.{Bool, true, false, cond}
use mathlib.Core.List.{◌∷◌}
use native.Mathlib.Omega.{arith}
use lib.Dec.{ltb}
use lib.ListN.{get_or}
use Rattle.zynq7000.specs.Number.{Answer, accepted, refused, FieldTooWide}
use Rattle.zynq7000.specs.Qspi.{config_word}
use Rattle.zynq7000.specs.Slcr.{source_code, clock_control_word}
use Rattle.zynq7000_hal.specs.Clocks.{baud_of}
use Rattle.zynq7000_hal.specs.Initialize.{initial_config, initialized_answer, initialize_answer, loopback_words, written_words}
use Rattle.zynq7000_hal.specs.declared.qspi.ClockConfig.{ClockConfig}
use Rattle.zynq7000_hal.specs.declared.qspi.InitializeWords.{InitializeWords}
use Rattle.zynq7000_hal.specs.declared.qspi.FieldTooWide.{FieldTooWide as too_wide_error}
use Rattle.std.specs.Prelude.{Result, Ok, Err}

pub record Worded (w : InitializeWords) (c : ClockConfig) (phase polarity : Bool) : Type 0 where
  pub narrow : ltb 63 c.ref_clk_div ≡ false
  pub config : w.config ≡ config_word (initial_config (baud_of c.baud_rate_config) phase polarity)
  pub clock : w.lqspi_clk_ctrl ≡ clock_control_word c.ref_clk_div (source_code c.src_sel) 1

pub worded : {i : Result InitializeWords too_wide_error} {w : InitializeWords} (c : ClockConfig) (phase polarity : Bool) → initialized_answer i ≡ initialize_answer c phase polarity → i ≡ Ok w → Worded w c phase polarity
worded {w = w} c phase polarity h e = go (ltb 63 c.ref_clk_div) refl (sym (ap initialized_answer e) ∙ h)
  where
    go : (b : Bool) → ltb 63 c.ref_clk_div ≡ b
        → accepted (w.lqspi_clk_ctrl ∷ w.config ∷ written_words w.loopback)
        ≡ cond b (refused FieldTooWide) (accepted (clock_control_word c.ref_clk_div (source_code c.src_sel) 1 ∷ config_word (initial_config (baud_of c.baud_rate_config) phase polarity) ∷ loopback_words c.baud_rate_config))
        → Worded w c phase polarity
    go true f g = absurd (let z : ◌≡◌ {A = ℕ} 0 12 = ap (λ (a : Answer). a.number) g in omega arith)
    go false f g = record { narrow = f; config = ap (λ (a : Answer). get_or a.values 1 0) g; clock = ap (λ (a : Answer). get_or a.values 0 0) g }

pub too_wide : {i : Result InitializeWords too_wide_error} {e : too_wide_error} (c : ClockConfig) (phase polarity : Bool) → initialized_answer i ≡ initialize_answer c phase polarity → i ≡ Err e → ltb 63 c.ref_clk_div ≡ true
too_wide c phase polarity h e = go (ltb 63 c.ref_clk_div) refl (sym (ap initialized_answer e) ∙ h)
  where
    go : (b : Bool) → ltb 63 c.ref_clk_div ≡ b
        → refused FieldTooWide
        ≡ cond b (refused FieldTooWide) (accepted (clock_control_word c.ref_clk_div (source_code c.src_sel) 1 ∷ config_word (initial_config (baud_of c.baud_rate_config) phase polarity) ∷ loopback_words c.baud_rate_config))
        → ltb 63 c.ref_clk_div ≡ true
    go true f g = f
    go false f g = absurd (let z : ◌≡◌ {A = ℕ} 12 0 = ap (λ (a : Answer). a.number) g in omega arith)
