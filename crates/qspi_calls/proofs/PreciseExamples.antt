-- The premises of Precisely, Failures, Refusals and ReadIndex, and of Shown and Changes in qspi_operation, can be met: a run that gives each of 21 to 24, and 4 and 5 after a finished chunk;
-- a `read_index` of 244; a byte that changes. Assumes nothing.
use mathlib.Core.Path.{◌≡◌, refl}
use mathlib.Core.Bool.{true, false}
use mathlib.Core.List.{List, [], ◌∷◌, ◌++◌}
use Prim.Native.Nat.{ℕ, zero, suc}
use lib.ListN.{replicate}
use Rattle.qspi_transfer.specs.declared.Phase.TheVariants.{Take, CloseRead}
use Rattle.qspi_script.specs.declared.Stage.TheVariants as stage
use Rattle.qspi_script.specs.declared.Status.TheVariants.{Going, NotAligned, CrossesPageBoundary, EraseErrorBitSet, ProgrammingErrorBitSet, RepliesEnded, LogFull}
use Rattle.qspi_script.specs.declared.Gives.TheVariants as gives
use Rattle.qspi_operation.specs.declared.Op.{Op}
use Rattle.std.specs.Prelude.{Option, Some, Ok}
use Rattle.qspi_transfer.specs.declared.Due.TheVariants as due
use Rattle.qspi_operation.specs.Machine.{runs, called}
use Rattle.qspi_operation.specs.Points.{Lending}
use Rattle.qspi_operation.specs.Follows.{op_after}
use Rattle.qspi_operation.specs.Step.{due_of, buffer_of}
use Rattle.qspi_calls.specs.Chunks.{chunks_in, chunks}
use Rattle.qspi_calls.specs.Calls.{zeros, erase_sector, program, write_pages}
use Rattle.qspi_calls.specs.Starts as start
use Rattle.qspi_calls.proofs.ReadIndex.{Later, then}
use Rattle.qspi_calls.proofs.Refusals.{by_input}

-- what a one-word transfer reads where nothing is to be drained and the reply is ready: status, config, config, status, the reply, config
abbrev pub once : ℕ → List ℕ
once r = 0 ∷ 0 ∷ 0 ∷ 0x10 ∷ r ∷ 0 ∷ []

-- so many replies, each after two status reads
abbrev taken : ℕ → List ℕ
taken zero = []
taken (suc n) = 0x10 ∷ 0x10 ∷ 0 ∷ taken n

-- what `program` of so many words reads
abbrev programmed : ℕ → List ℕ
programmed n = 0 ∷ 0 ∷ 0 ∷ taken (suc n) ++ 0 ∷ []

-- 21: the status shows bit 5
pub erase_fails : (called (erase_sector 0) 60 (once 0 ++ (once 0 ++ (once 0x20000000 ++ (once 0 ++ once 0))))).answer ≡ EraseErrorBitSet
unfolding runs
erase_fails = refl

-- 22: the status shows bit 6
pub program_fails : (called (program 0 (zeros 4)) 100 (once 0 ++ (programmed 1 ++ (once 0x40000000 ++ (once 0 ++ once 0))))).answer ≡ ProgrammingErrorBitSet
unfolding runs
program_fails = refl

pub pages_fail : (called (write_pages 0 (zeros 4)) 100 (once 0 ++ (programmed 1 ++ (once 0x40000000 ++ (once 0 ++ once 0))))).answer ≡ ProgrammingErrorBitSet
unfolding runs chunks chunks_in
pages_fail = refl

-- 4 and 5 after a finished chunk
pub pages_not_aligned : (called (write_pages 0 (zeros 130)) 200 (once 0 ++ (programmed 32 ++ once 0))).answer ≡ NotAligned
unfolding runs chunks chunks_in
pages_not_aligned = refl

pub pages_cross : (called (write_pages 0x40 (zeros 256)) 200 (once 0 ++ (programmed 32 ++ once 0))).answer ≡ CrossesPageBoundary
unfolding runs chunks chunks_in
pages_cross = refl

-- 23 and 24, in the middle of a transfer
pub erase_dry : (called (erase_sector 0) 60 (0 ∷ 0 ∷ [])).answer ≡ RepliesEnded
unfolding runs
erase_dry = refl

pub erase_full : (called (erase_sector 0) 3 (once 0)).answer ≡ LogFull
unfolding runs
erase_full = refl

-- a refusal of an input
pub erase_refused : by_input (called (erase_sector 0xFF0000) 0 []).answer ≡ true
unfolding runs
erase_refused = refl

-- steps that are lent what the call was lent at its start are some of those of `Later`
pub steps_later : (g : Lending) (rs : List (Option ℕ)) (o₀ o : Op) → Later o₀ o → Later o₀ (op_after g rs o)
steps_later g [] o₀ o l = l
steps_later g (r ∷ rs) o₀ o l = steps_later g rs o₀ _ (then l g.bytes _ g.room r)

-- `program` of 240 bytes adds 4 to a `read_index` of 240 at its last reply, and reaches 244
abbrev lent : Lending
lent = record { bytes = zeros 240; buffer = []; room = 1000 }

abbrev prompt : ℕ → List (Option ℕ)
prompt n = Some 0 ∷ replicate 11 (Some 0x10) ++ Some 0 ∷ replicate n (Some 0x10)

abbrev programs_240 : ℕ → Op
programs_240 n = op_after lent (prompt n) (start.program_of 0 240 1000)

pub takes_at_240 : ((programs_240 248).wire.phase ≡ Take) × ((programs_240 248).wire.read_index ≡ 240)
takes_at_240 = (refl, refl)

pub reaches_244 : ((programs_240 249).wire.phase ≡ CloseRead) × ((programs_240 249).wire.read_index ≡ 244)
reaches_244 = (refl, refl)

-- a query shows an access
pub shows_read : due_of (start.one_transfer stage.Enable gives.Nothing 100) [] ≡ Ok (Some (due.Read 0x04))
shows_read = refl

-- a byte changes at the step that takes its reply
abbrev taking : Op
taking = record {
  job = start.reading_job 0 false false 1 100;
  place = start.place_at stage.Read 1 0 0;
  wire = record { phase = Take; config = 0; sent = 1; read_index = 4; older = 0; old = 0; last = 0 };
  used = 0;
  replies = 0;
  status = Going;
}

pub byte_changes : buffer_of taking [] (0 ∷ []) 100 (Some 0xAB) ≡ 0xAB ∷ []
byte_changes = refl
