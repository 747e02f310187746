-- The bytes that go out on the wire, in order: `program` sends its command byte, the address high byte first, then its data as lent.
-- Assumes nothing.
use mathlib.Core.Path.{◌≡◌, refl, ap, ◌∙◌}
use mathlib.Core.List.{List, [], ◌∷◌, ◌++◌}
use Prim.Native.Nat.{ℕ, ◌%◌, ◌<◌}
use native.Mathlib.Omega.{arith}
use lib.ListN.{length}
use Rattle.zedboard_bsp.specs.Spansion.{command_byte}
use Rattle.zedboard_bsp.specs.Words.{address_bytes}
use Rattle.zedboard_bsp.specs.declared.qspi_spansion.RegisterId.TheVariants as command
use Rattle.zedboard_bsp.proofs.WireBytes.{read_back, command_bytes}
use Rattle.qspi_operation.specs.Machine.{Transfer}
use Rattle.qspi_calls.specs.Calls.{words_of, bytes_of_all, programming}

abbrev pub AllBytes : List ℕ → Type 0
AllBytes [] = Unit {0}
AllBytes (b ∷ bs) = (b < 256) × AllBytes bs

-- the words of a transfer of four-byte words, as bytes
abbrev pub wire_bytes : Transfer → List ℕ
wire_bytes x = bytes_of_all (x.command ∷ x.further)

data_bytes : (bs : List ℕ) → AllBytes bs → length bs % 4 ≡ 0 → bytes_of_all (words_of bs) ≡ bs
data_bytes [] h e = refl
data_bytes (a ∷ []) h e = absurd (omega arith)
data_bytes (a ∷ b ∷ []) h e = absurd (omega arith)
data_bytes (a ∷ b ∷ c ∷ []) h e = absurd (omega arith)
data_bytes (a ∷ b ∷ c ∷ d ∷ bs) h e =
    ap (λ (z : List ℕ). z ++ bytes_of_all (words_of bs)) (read_back a b c d h.0 h.1.0 h.1.1.0 h.1.1.1.0)
    ∙ ap (λ (z : List ℕ). a ∷ b ∷ c ∷ d ∷ z) (data_bytes bs h.1.1.1.1 (omega arith))

pub program_bytes : (a : ℕ) (bs : List ℕ) → AllBytes bs → length bs % 4 ≡ 0 → wire_bytes (programming a bs) ≡ command_byte command.PageProgram ∷ address_bytes a ++ bs
program_bytes a bs h e =
    ap (λ (z : List ℕ). z ++ bytes_of_all (words_of bs)) (command_bytes command.PageProgram a)
    ∙ ap (λ (z : List ℕ). (command_byte command.PageProgram ∷ address_bytes a) ++ z) (data_bytes bs h e)
