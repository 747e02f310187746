-- The premises of the laws of `write_pages` can be met: four bytes at 000100 are accepted and have a plain log, and of 132 bytes the first chunk
-- is not the last. Assumes nothing.
use mathlib.Core.Path.{refl}
use mathlib.Core.List.{List, [], ◌∷◌, ◌++◌}
use Prim.Native.Nat.{ℕ, ◌+◌, ◌≤◌}
use native.Mathlib.Omega.{arith}
use lib.ListN.{length, take}
use Rattle.qspi_calls.specs.Chunks.{chunks_in, chunks, Among, here}
use Rattle.qspi_calls.specs.Calls.{enabling, status_reading, programming, zeros}
use Rattle.qspi_calls.specs.Prompt.{Prompt, promptly}
use Rattle.qspi_calls.proofs.Pages.{NotLast, next}
use Rattle.qspi_calls.proofs.PromptLogs.{PagesLog, pages_none, pages_more}

abbrev line : List ℕ
line = 0xDE ∷ 0xAD ∷ 0xBE ∷ 0xEF ∷ []

pub in_range : 0x000100 + length line ≤ 16777215
in_range = omega arith

pub among_chunks : Among (record { address = 0x000100; bytes = line }) (chunks 0x000100 line)
unfolding chunks chunks_in
among_chunks = here

-- config as after `initialize` and `enable_io_mode`, once a transfer has closed
abbrev pub prompt : Prompt
prompt = record { idle = 0; ready = 0x10; opens = 0x8008C4C1; starts = 0x8008C0C1; closes = 0x8008C0C1; is_idle = refl; is_ready = refl }

pub line_log : PagesLog (chunks 0x000100 line) ((promptly enabling prompt (0 ∷ []) ++ (promptly (programming 0x000100 line) prompt (0 ∷ 0 ∷ []) ++ promptly status_reading prompt (0 ∷ []))) ++ [])
unfolding chunks chunks_in
line_log = pages_more prompt prompt prompt 0 0 (0 ∷ 0 ∷ []) refl refl refl refl refl refl refl pages_none

pub not_last : NotLast (record { address = 0; bytes = take 128 (zeros 132) }) (chunks 0 (zeros 132))
unfolding chunks chunks_in
not_last = next {l = record { address = 128; bytes = zeros 4 } ∷ []} (omega arith)
