-- Bytes on the wire and the words that hold them: document 01, "One transfer, access by access": "Words are written low byte first." A
-- command's address follows it high byte first, in three bytes: 01's erase of 030000 sends 000003D8.
use Rattle.std.specs.Prelude.{ℕ, ◌+◌, ◌*◌, ◌/◌, ◌%◌, ◌^◌, List, [], ◌∷◌}
use Rattle.zedboard_bsp.specs.Spansion.{command_byte}
use Rattle.zedboard_bsp.specs.declared.qspi_spansion.RegisterId.{RegisterId}
use Rattle.zedboard_bsp.specs.declared.qspi_spansion.RegisterId.TheVariants as command

-- the word of these bytes, the first of them lowest
abbrev pub word_of : List ℕ → ℕ
word_of [] = 0
word_of (b ∷ bs) = b + word_of bs * 256

-- the four bytes of a word, the lowest first
abbrev pub bytes_of : ℕ → List ℕ
bytes_of w = w % 256 ∷ w / 2 ^ 8 % 256 ∷ w / 2 ^ 16 % 256 ∷ w / 2 ^ 24 % 256 ∷ []

-- "Status and config bytes are the top byte of the reply"
abbrev pub top_byte : ℕ → ℕ
top_byte reply = reply / 2 ^ 24 % 256

-- A23 to A16, A15 to A8, A7 to A0
abbrev pub address_bytes : ℕ → List ℕ
address_bytes a = a / 2 ^ 16 % 256 ∷ a / 2 ^ 8 % 256 ∷ a % 256 ∷ []

-- a command that is sent alone
abbrev pub command_only : RegisterId → ℕ
command_only c = word_of (command_byte c ∷ [])

-- a command with its address
abbrev pub command_word : RegisterId → ℕ → ℕ
command_word c a = word_of (command_byte c ∷ address_bytes a)

-- WRR of SR1 alone
abbrev pub write_status_word : ℕ → ℕ
write_status_word sr = word_of (command_byte command.WriteRegisters ∷ sr ∷ [])

-- WRR of SR1 and CR1
abbrev pub write_registers_word : ℕ → ℕ → ℕ
write_registers_word sr cr = word_of (command_byte command.WriteRegisters ∷ sr ∷ cr ∷ [])
