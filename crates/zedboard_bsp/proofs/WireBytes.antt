-- The bytes of a word, in the order sent: document 01, "Words are written low byte first." Four bytes are read back from their word, and a
-- command word's are the command and the low 24 bits of the address, high byte first. Assumes nothing.
use Prim.Native.Nat.{ℕ, ◌+◌, ◌*◌, ◌/◌, ◌%◌, ◌^◌, ◌<◌}
use mathlib.Core.Path.{◌≡◌, refl}
use mathlib.Core.List.{List, [], ◌∷◌}
use native.Mathlib.Omega.{arith}
use Rattle.zedboard_bsp.specs.Spansion.{command_byte}
use Rattle.zedboard_bsp.specs.Words.{word_of, bytes_of, top_byte, address_bytes, command_word, write_status_word, write_registers_word}
use Rattle.zedboard_bsp.specs.declared.qspi_spansion.RegisterId.{RegisterId}
use Rattle.zedboard_bsp.specs.declared.qspi_spansion.RegisterId.TheVariants as command

-- one byte and what stands above it
low_byte : (b n : ℕ) → b < 256 → (b + n * 256) % 256 ≡ b
low_byte b n h = omega arith

rest : (b n : ℕ) → b < 256 → (b + n * 256) / 256 ≡ n
rest b n h = omega arith

-- the bytes of a word one by one
shifted : (w : ℕ) → bytes_of w ≡ w % 256 ∷ w / 256 % 256 ∷ w / 256 / 256 % 256 ∷ w / 256 / 256 / 256 % 256 ∷ []
shifted w =
    let a : w / 256 / 256 ≡ w / 2 ^ 16 = omega arith in
    let b : w / 2 ^ 16 / 256 ≡ w / 2 ^ 24 = omega arith in
    rw (a, b)

pub read_back : (a b c d : ℕ) → a < 256 → b < 256 → c < 256 → d < 256 → bytes_of (word_of (a ∷ b ∷ c ∷ d ∷ [])) ≡ a ∷ b ∷ c ∷ d ∷ []
read_back a b c d ha hb hc hd =
    let n = c + (d + 0 * 256) * 256 in
    let m = b + n * 256 in
    let x : (a + m * 256) / 256 ≡ m = rest a m ha in
    let y : m / 256 ≡ n = rest b n hb in
    let z : n / 256 ≡ d + 0 * 256 = rest c (d + 0 * 256) hc in
    rw (shifted (a + m * 256), x, y, z, low_byte a m ha, low_byte b n hb, low_byte c (d + 0 * 256) hc, low_byte d 0 hd)

pub top_read_back : (a b c d : ℕ) → a < 256 → b < 256 → c < 256 → d < 256 → top_byte (word_of (a ∷ b ∷ c ∷ d ∷ [])) ≡ d
top_read_back a b c d ha hb hc hd = omega arith

command_lt : (c : RegisterId) → command_byte c < 256
command_lt command.WriteRegisters = omega arith
command_lt command.PageProgram = omega arith
command_lt command.Read = omega arith
command_lt command.WriteDisable = omega arith
command_lt command.ReadStatus1 = omega arith
command_lt command.WriteEnable = omega arith
command_lt command.ReadStatus2 = omega arith
command_lt command.FastRead = omega arith
command_lt command.ClearStatus = omega arith
command_lt command.ReadConfig = omega arith
command_lt command.ReadId = omega arith
command_lt command.SectorErase = omega arith

-- what the device receives as a command with an address
pub command_bytes : (c : RegisterId) (a : ℕ) → bytes_of (command_word c a) ≡ command_byte c ∷ address_bytes a
command_bytes c a = read_back (command_byte c) (a / 2 ^ 16 % 256) (a / 2 ^ 8 % 256) (a % 256) (command_lt c) (omega arith) (omega arith) (omega arith)

-- the number of these bytes, the first of them highest
abbrev number_from : ℕ → List ℕ → ℕ
number_from n [] = n
number_from n (b ∷ bs) = number_from (n * 256 + b) bs

abbrev pub address_of : List ℕ → ℕ
address_of bs = number_from 0 bs

-- only the low 24 bits are sent
pub address_sent : (a : ℕ) → address_of (address_bytes a) ≡ a % 2 ^ 24
address_sent a = omega arith

-- ---- 01, "Station cases", and the words of WRR

pub erase_030000 : command_word command.SectorErase 0x030000 ≡ 0x000003D8
erase_030000 = refl

pub program_000100 : command_word command.PageProgram 0x000100 ≡ 0x00010002
program_000100 = refl

pub data_dead_beef : word_of (0xDE ∷ 0xAD ∷ 0xBE ∷ 0xEF ∷ []) ≡ 0xEFBEADDE
data_dead_beef = refl

pub read_000102 : command_word command.Read 0x000102 ≡ 0x02010003
read_000102 = refl

-- 0000ss01 and 00ccss01
pub write_status_lem : (sr : ℕ) → write_status_word sr ≡ sr * 0x100 + 0x01
write_status_lem sr = omega arith

pub write_registers_lem : (sr cr : ℕ) → write_registers_word sr cr ≡ cr * 0x10000 + sr * 0x100 + 0x01
write_registers_lem sr cr = omega arith
