-- What the simulated device answers to a word: document 01, "The flash, as defined here", where it fixes a reply. Where it leaves one free,
-- what the Rust expects of one: the latch in status register 1, the bytes of a read, the codes of an id.
use Rattle.std.specs.Prelude.{ℕ, ◌+◌, ◌-◌, ◌*◌, ◌%◌, cond, List, [], ◌∷◌, eqb, ltb, get_or}
use Rattle.zedboard_bsp.specs.Words.{word_of}
use Rattle.power_cut.specs.Flash.{address_of}
use Rattle.simulated_device.specs.declared.Chip.{Chip}

-- the array, of which a part from an address on is lent: every other byte is FF, as after an erase
abbrev pub byte_at : List ℕ → ℕ → ℕ → ℕ
byte_at array base a = cond (ltb a base) 0xFF (get_or array (a - base) 0xFF)

-- the address behind the command, high byte first (specs/Words of zedboard_bsp)
abbrev pub address_in : List ℕ → ℕ
address_in sent = address_of (get_or sent 1 0) (get_or sent 2 0) (get_or sent 3 0)

-- "Status bit 0 shows busy"; bit 1 is the latch (specs/Spansion of zedboard_bsp)
abbrev pub status_of : Chip → ℕ
status_of c = cond (ltb 0 c.busy) 0x01 (cond c.latch 0x02 0x00)

-- a byte of a read: the data follow command, address and dummy byte, and the address has 24 bits
abbrev pub data_byte : List ℕ → ℕ → ℕ → ℕ → ℕ → ℕ
data_byte array base a header at = cond (ltb at header) 0 (byte_at array base ((a % 0x100_0000 + (at - header) % 0x100_0000) % 0x100_0000))

abbrev pub read_reply : List ℕ → ℕ → ℕ → ℕ → ℕ → ℕ
read_reply array base a header words =
    word_of
    (data_byte array base a header (words % 0x100_0000 * 4)
    ∷ data_byte array base a header (words % 0x100_0000 * 4 + 1)
    ∷ data_byte array base a header (words % 0x100_0000 * 4 + 2)
    ∷ data_byte array base a header (words % 0x100_0000 * 4 + 3)
    ∷ [])

-- 01, 02 19, 4D, 01, 80 and "00": type, density and sectors are codes that the Rust lists, the other bytes any
abbrev pub id_reply : ℕ → ℕ
id_reply words = cond (eqb words 0) 0x1902_0100 (cond (eqb words 1) 0x3080_014D 0x0000_0030)

-- the reply to a word, by the command sent first and the words out before it
abbrev pub reply_of : Chip → ℕ → List ℕ → List ℕ → ℕ → ℕ
reply_of c base sent array words =
    cond (eqb (get_or sent 0 0) 0x05) (word_of (status_of c ∷ status_of c ∷ status_of c ∷ status_of c ∷ []))
    (cond (eqb (get_or sent 0 0) 0x03) (read_reply array base (address_in sent) 4 words)
    (cond (eqb (get_or sent 0 0) 0x0B) (read_reply array base (address_in sent) 5 words)
    (cond (eqb (get_or sent 0 0) 0x9F) (id_reply words) 0)))
