-- What a call logs on prompt replies: nothing to drain, each reply ready at once, not busy. A reader's picture of a call as a plain list, as
-- document 01 prints one under "Log and printer"; `PromptLogs` in proofs/ has one of each call.
use Rattle.std.specs.Prelude.{ℕ, ◌≡◌, Bool, true, false, List, [], ◌∷◌, ◌++◌, map}
use Rattle.zynq7000.specs.declared.qspi.Access.{Access}
use Rattle.zynq7000.specs.declared.qspi.Access.TheVariants.{Read, Write}
use Rattle.qspi_transfer.specs.LowLevel.{chip_select_high, chip_select_low, started}
use Rattle.qspi_transfer.specs.Wire.{waits}
use Rattle.qspi_operation.specs.Machine.{Transfer}

-- what the controller answers in one transfer beside the replies: status without and with a word waiting, and config at opening, start and
-- closing; all other bits are free
pub record Prompt : Type 0 where
  pub idle : ℕ
  pub ready : ℕ
  pub opens : ℕ
  pub starts : ℕ
  pub closes : ℕ
  pub is_idle : waits idle ≡ false
  pub is_ready : waits ready ≡ true

-- each reply after one status read, or after two
abbrev pub taking : Bool → ℕ → List ℕ → List Access
taking twice s [] = []
taking true s (r ∷ rs) = Read 0x04 s ∷ Read 0x04 s ∷ Read 0x20 r ∷ taking true s rs
taking false s (r ∷ rs) = Read 0x04 s ∷ Read 0x20 r ∷ taking false s rs

abbrev pub closing : Prompt → List Access
closing a = Read 0x00 a.closes ∷ Write 0x00 (chip_select_high a.closes) ∷ Write 0x14 0 ∷ []

abbrev pub replying : Transfer → Prompt → List ℕ → List Access
replying x a rs = Read 0x00 a.starts ∷ Write 0x00 (started a.starts) ∷ taking x.twice a.ready rs ++ closing a

-- the log of a transfer that brings these replies
abbrev pub promptly : Transfer → Prompt → List ℕ → List Access
promptly x a rs =
    Read 0x04 a.idle ∷ Read 0x00 a.opens ∷ Write 0x00 (chip_select_low a.opens) ∷ Write 0x14 1
    ∷ map (Write x.port) (x.command ∷ x.further) ++ replying x a rs
