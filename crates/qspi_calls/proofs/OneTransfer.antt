-- The calls of one transfer, each tied to its script. Assumes nothing.
use mathlib.Core.Path.{◌≡◌, refl}
use mathlib.Core.List.{List, [], ◌∷◌, reverse}
use Prim.Native.Nat.{ℕ, zero, suc, ◌<◌}
use native.Mathlib.Omega.{arith}
use lib.ListN.{length, get_or}
use Rattle.zedboard_bsp.specs.DeviceId.{reply_bytes, long_reply_bytes}
use Rattle.qspi_transfer.specs.declared.Phase.TheVariants as phase
use Rattle.qspi_script.specs.Stages.{due_word}
use Rattle.qspi_script.specs.Turns.{turn_of}
use Rattle.qspi_script.specs.declared.Stage.{Stage}
use Rattle.qspi_script.specs.declared.Stage.TheVariants as stage
use Rattle.qspi_script.specs.declared.Status.TheVariants.{Done}
use Rattle.qspi_script.specs.declared.Gives.{Gives}
use Rattle.qspi_script.specs.declared.Gives.TheVariants as gives
use Rattle.qspi_script.specs.declared.Job.{Job}
use Rattle.qspi_script.specs.declared.Place.{Place}
use Rattle.qspi_operation.specs.Machine.{Transfer, Script, ends}
use Rattle.qspi_calls.specs.Calls as call
use Rattle.qspi_calls.specs.Calls.{top, done}
use Rattle.qspi_calls.specs.Starts as start
use Rattle.qspi_calls.proofs.Phases.{wire, words}
use Rattle.qspi_calls.proofs.Scripted.{Turns, over}
use Rattle.qspi_calls.proofs.Short.{of_one, of_three, same_short, word_short, Only, one_transfer_lem}
use Rattle.qspi_calls.proofs.Tied.{Starts}

module _ (log : List ℕ) where
  abbrev job : Gives → Job
  job given = start.command_job (start.plain given) (length log)

  abbrev at : Stage → Place
  at s = start.place_at s 0 0 0

  -- the end of a transfer of one reply
  abbrev Ends : Stage → Gives → Transfer → (List ℕ → Script) → ℕ → ℕ → ℕ → List ℕ → Type 0
  Ends s given x k c i b t = Turns (job given) [] [] (Only (at s) x k) (turn_of (job given) (at s) (get_or t 0 0)) (wire phase.Disable c i b t) 0 (k (reverse t))

  pub write_enable_lem : Starts (start.one_transfer stage.Enable gives.Nothing (length log)) [] log [] call.write_enable
  write_enable_lem =
      one_transfer_lem (job gives.Nothing) (at stage.Enable) [] call.enabling done (same_short 0x80 _) (word_short (job gives.Nothing) (at stage.Enable) [] 0x80 _ refl)
      (λ c i b taken e. of_one taken (Ends stage.Enable gives.Nothing call.enabling done c i b) e (λ r. over refl refl refl refl)) refl log refl refl refl refl

  pub write_disable_lem : Starts (start.one_transfer stage.Disable gives.Nothing (length log)) [] log [] call.write_disable
  write_disable_lem =
      one_transfer_lem (job gives.Nothing) (at stage.Disable) [] call.disabling done (same_short 0x80 _) (word_short (job gives.Nothing) (at stage.Disable) [] 0x80 _ refl)
      (λ c i b taken e. of_one taken (Ends stage.Disable gives.Nothing call.disabling done c i b) e (λ r. over refl refl refl refl)) refl log refl refl refl refl

  pub clear_status_lem : Starts (start.one_transfer stage.Clear gives.Nothing (length log)) [] log [] call.clear_status
  clear_status_lem =
      one_transfer_lem (job gives.Nothing) (at stage.Clear) [] call.clearing done (same_short 0x80 _) (word_short (job gives.Nothing) (at stage.Clear) [] 0x80 _ refl)
      (λ c i b taken e. of_one taken (Ends stage.Clear gives.Nothing call.clearing done c i b) e (λ r. over refl refl refl refl)) refl log refl refl refl refl

  pub read_status_lem : Starts (start.one_transfer stage.ReadStatus gives.Register (length log)) [] log [] call.read_status
  read_status_lem =
      one_transfer_lem (job gives.Register) (at stage.ReadStatus) [] call.status_reading (λ rs. ends Done (top rs ∷ [])) (same_short 0x84 _) (word_short (job gives.Register) (at stage.ReadStatus) [] 0x84 _ refl)
      (λ c i b taken e. of_one taken (Ends stage.ReadStatus gives.Register call.status_reading (λ rs. ends Done (top rs ∷ [])) c i b) e (λ r. over refl refl refl refl)) refl log refl refl refl refl

  pub read_config_lem : Starts (start.one_transfer stage.ReadConfig gives.Register (length log)) [] log [] call.read_config
  read_config_lem =
      one_transfer_lem (job gives.Register) (at stage.ReadConfig) [] call.config_reading (λ rs. ends Done (top rs ∷ [])) (same_short 0x84 _) (word_short (job gives.Register) (at stage.ReadConfig) [] 0x84 _ refl)
      (λ c i b taken e. of_one taken (Ends stage.ReadConfig gives.Register call.config_reading (λ rs. ends Done (top rs ∷ [])) c i b) e (λ r. over refl refl refl refl)) refl log refl refl refl refl

  pub read_id_lem : Starts (start.one_transfer stage.ReadId gives.Id (length log)) [] log [] call.read_id
  read_id_lem =
      one_transfer_lem (job gives.Id) (at stage.ReadId) [] call.id_reading (λ rs. ends Done (reply_bytes (get_or rs 0 0))) (same_short 0x1C _) (word_short (job gives.Id) (at stage.ReadId) [] 0x1C _ refl)
      (λ c i b taken e. of_one taken (Ends stage.ReadId gives.Id call.id_reading (λ rs. ends Done (reply_bytes (get_or rs 0 0))) c i b) e (λ r. over refl refl refl refl)) refl log refl refl refl refl

  long_word : (i : ℕ) → i < 3 → due_word (job gives.LongId) (at stage.ReadLongId) i [] ≡ get_or (words call.long_id_reading) i 0
  long_word zero l = refl
  long_word (suc zero) l = refl
  long_word (suc (suc zero)) l = refl
  long_word (suc (suc (suc i))) l = absurd (omega arith)

  pub read_long_id_lem : Starts (start.one_transfer stage.ReadLongId gives.LongId (length log)) [] log [] call.read_long_id
  read_long_id_lem =
      one_transfer_lem (job gives.LongId) (at stage.ReadLongId) [] call.long_id_reading (λ rs. ends Done (long_reply_bytes (get_or rs 0 0) (get_or rs 1 0) (get_or rs 2 0)))
      (record { port = refl; further = refl; bytes = refl; few = omega arith; twice = refl }) long_word
      (λ c i b taken e. of_three taken (Ends stage.ReadLongId gives.LongId call.long_id_reading (λ rs. ends Done (long_reply_bytes (get_or rs 0 0) (get_or rs 1 0) (get_or rs 2 0))) c i b) e (λ q r s. over refl refl refl refl))
      refl log refl refl refl refl
