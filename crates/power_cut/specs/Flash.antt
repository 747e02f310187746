-- The flash: document 01, "The flash, as defined here", condensed there from the S25FL256S datasheet, bank register 0. Quotations are from
-- that section.
use Rattle.std.specs.Prelude.{ℕ, suc, ◌+◌, ◌*◌, ◌/◌, ◌%◌, ◌≤◌, ◌<◌, ◌≡◌, Bool, true, false, cond, ◌&&◌, List, [], ◌∷◌, eqb, leb, ltb}
use Rattle.std.proofs.Math.Option.{Option, none, some}
use Rattle.std.specs.Int.Bits.{bit_and}
use Rattle.zedboard_bsp.specs.Limits.{page_size, sector_size}
use Rattle.qspi_calls.specs.Chunks.{Chunk}

-- "The array has 16,777,216 bytes": the byte at each address. An address on the wire has 24 bits, so no byte past those is ever reached.
abbrev pub Array : Type 0
Array = ℕ → ℕ

-- ---- what the bytes sent while chip select was low ask for

pub data Command : Type 0 where
  write_enable write_disable status_read clear_status nothing : Command
  page_program : Chunk → Command
  sector_erase : ℕ → Command

abbrev pub address_of : ℕ → ℕ → ℕ → ℕ
address_of high middle low = high * 65536 + middle * 256 + low

-- address, high byte first, and data; "A program command without data changes nothing"
unfoldable pub program_of : List ℕ → Command
program_of [] = nothing
program_of (a ∷ []) = nothing
program_of (a ∷ b ∷ []) = nothing
program_of (a ∷ b ∷ c ∷ []) = nothing
program_of (a ∷ b ∷ c ∷ d ∷ ds) = page_program (record { address = address_of a b c; bytes = d ∷ ds })

unfoldable pub erase_of : List ℕ → Command
erase_of [] = nothing
erase_of (a ∷ []) = nothing
erase_of (a ∷ b ∷ []) = nothing
erase_of (a ∷ b ∷ c ∷ ds) = sector_erase (address_of a b c)

-- "Write enable (06)", "write disable (04)", "Page program (02) and sector erase (D8)", "status read (05) and clear status (30)"; other
-- commands touch neither array nor latch
unfoldable pub command_of : List ℕ → Command
unfolding program_of erase_of
command_of [] = nothing
command_of (b ∷ bs) =
    cond (eqb b 0x06) write_enable
    (cond (eqb b 0x04) write_disable
    (cond (eqb b 0x02) (program_of bs)
    (cond (eqb b 0xD8) (erase_of bs)
    (cond (eqb b 0x05) status_read
    (cond (eqb b 0x30) clear_status nothing)))))

-- ---- what the work does to the array

-- the address of byte i of a program at a: a program stays in its page of 256 bytes. 01 does not say so, and the driver sends none that
-- reaches past its page.
unfoldable pub byte_address : ℕ → ℕ → ℕ
byte_address a i = a / page_size * page_size + (a + i) % page_size

-- the byte of a program, from its i-th on, that lands on x
unfoldable pub lands_from : ℕ → ℕ → List ℕ → ℕ → Option ℕ
lands_from a x [] i = none
lands_from a x (b ∷ bs) i = cond (eqb x (byte_address a i)) (some b) (lands_from a x bs (suc i))

unfoldable pub lands : Chunk → ℕ → Option ℕ
unfolding lands_from
lands c x = lands_from c.address x c.bytes 0

-- "each programmed byte is old AND new"
abbrev pub anded : ℕ → Option ℕ → ℕ
anded old none = old
anded old (some new) = bit_and old new

unfoldable pub programmed : Chunk → Array → Array
programmed c m x = anded (m x) (lands c x)

-- "each byte of an erased 64 KiB sector is FF": from a sector's start, over its size
unfoldable pub erased : ℕ → ℕ → Array → Array
erased a n m x = cond (leb a x && ltb x (a + n)) 0xFF (m x)

pub data Work : Type 0 where
  programming : Chunk → Work
  erasing : ℕ → ℕ → Work  -- a sector's start and size

abbrev pub done : Work → Array → Array
done (programming c) m = programmed c m
done (erasing a n) m = erased a n m

-- x is none of the work's target bytes
abbrev pub Spares : Work → ℕ → Type 0
Spares (programming c) x = lands c x ≡ none
Spares (erasing a n) x = (a ≤ x) × (x < a + n) → ⊥

-- ---- the device

-- array, latch, and the work that it is busy with
pub data Flash : Type 0 where
  flash : Array → Bool → Option Work → Flash

abbrev pub busy : Flash → Bool
busy (flash m latch none) = false
busy (flash m latch (some w)) = true

-- "Write enable (06) sets the latch, write disable (04) clears it. Page program (02) and sector erase (D8) need the latch, clear it and make
-- the device busy"
unfoldable pub obey : Array → Bool → Command → Flash
obey m latch write_enable = flash m true none
obey m latch write_disable = flash m false none
obey m latch status_read = flash m latch none
obey m latch clear_status = flash m latch none
obey m latch nothing = flash m latch none
obey m true (page_program c) = flash m false (some (programming c))
obey m false (page_program c) = flash m false none
obey m true (sector_erase a) = flash m false (some (erasing (a / sector_size * sector_size) sector_size))
obey m false (sector_erase a) = flash m false none

-- "A command takes effect when chip select rises." "While busy only status read (05) and clear status (30) are obeyed": neither has an effect
-- on array, latch or work
unfoldable pub execute : Flash → List ℕ → Flash
unfolding obey command_of
execute (flash m latch none) bs = obey m latch (command_of bs)
execute (flash m latch (some w)) bs = flash m latch (some w)

-- "the target bytes are in doubt until it is idle. Then each programmed byte is old AND new"
pub data Settles : Flash → Flash → Type 0 where
  settles : {m : Array} {latch : Bool} {w : Work} → Settles (flash m latch (some w)) (flash (done w m) latch none)

-- "A cut before chip select rises leaves the command undone; after it, a byte in doubt may hold anything and no other changes."
unfoldable pub AfterCut : Flash → Array → Type 0
AfterCut (flash m latch none) new = (x : ℕ) → new x ≡ m x
AfterCut (flash m latch (some w)) new = (x : ℕ) → Spares w x → new x ≡ m x
