-- What stands at a place of a log: document 01, "Log and printer", and rule 13 of "What the input can bring on". A place is a record's
-- number from 0; a record is two words, or their eight bytes, low byte first.
use Rattle.std.specs.Prelude.{ℕ, ◌+◌, ◌*◌, ◌/◌, ◌%◌, Bool, true, false, cond, List, [], ◌∷◌, length, ◌==◌, nat_le, nat_lt, slice_index, Option, Some, None, Result, Ok, Err}
use Rattle.zynq7000.specs.Access.{first_word, value_word, record_of_words}
use Rattle.zynq7000.specs.Number.{Answer, Refusal, accepted, refused_with}
use Rattle.zynq7000.specs.declared.qspi.Access.{Access}
use Rattle.zynq7000.specs.declared.qspi.BadLog.{BadLog}
use Rattle.access_log.specs.declared.BadRecord.{BadRecord}

-- what stands at a place: an access, a record that is none, or nothing from the log's end on
abbrev pub Entry : Type 0
Entry = Option (Result Access BadRecord)

-- a record that 13 refuses, by its place
abbrev pub bad_at : ℕ → Entry
bad_at at = Some (Err (record { at = at }))

-- 01's number for an entry, with the access's two words or the place of the record that is refused
abbrev pub answer_of : Entry → Answer
answer_of (Some (Ok a)) = accepted (first_word a ∷ value_word a ∷ [])
answer_of None = accepted []
answer_of (Some (Err e)) = refused_with Refusal.BadLog (e.at ∷ [])

abbrev pub is_access : Entry → Bool
is_access (Some (Ok a)) = true
is_access None = false
is_access (Some (Err e)) = false

-- a whole record, at its place
abbrev pub entry_of : Result Access BadLog → ℕ → Entry
entry_of (Ok a) at = Some (Ok a)
entry_of (Err e) at = bad_at at

-- a place whose record is whole, short, or not begun, where a record has `size` words or bytes of `len`
abbrev pub placed : ℕ → ℕ → ℕ → Result Access BadLog → Entry
placed size len at r =
    cond (nat_le (at * size + size) len) (entry_of r at)
    (cond (nat_lt (at * size) len) (bad_at at) None)

-- "An access is two 32-bit words"; rule 13: "record short, or first word not a multiple of 4 or above 1FC"
unfoldable pub entry_at : List ℕ → ℕ → Entry
entry_at log at = placed 2 (length log) at (record_of_words (slice_index log (at * 2)) (slice_index log (at * 2 + 1)))

-- the little-endian word that starts at byte i
abbrev pub word_at : List ℕ → ℕ → ℕ
word_at bytes i =
    slice_index bytes i + slice_index bytes (i + 1) * 0x100 + slice_index bytes (i + 2) * 0x1_0000 + slice_index bytes (i + 3) * 0x100_0000

-- the same of a log of bytes: a tail of 1 to 7 bytes is a short record
unfoldable pub entry_in : List ℕ → ℕ → Entry
entry_in bytes at = placed 8 (length bytes) at (record_of_words (word_at bytes (at * 8)) (word_at bytes (at * 8 + 4)))

-- of a log of words, the same in 01's numbers: 13 with the place, or 0 with the record's two words, or 0 alone past the end
abbrev pub record_answer : ℕ → ℕ → ℕ → Answer
record_answer first v at =
    cond (nat_lt 0x1FC first) (refused_with Refusal.BadLog (at ∷ []))
    (cond (first % 4 == 0) (accepted (first ∷ v ∷ [])) (refused_with Refusal.BadLog (at ∷ [])))

abbrev pub placed_answer : ℕ → ℕ → ℕ → Answer → Answer
placed_answer size len at whole =
    cond (nat_le (at * size + size) len) whole
    (cond (nat_lt (at * size) len) (refused_with Refusal.BadLog (at ∷ [])) (accepted []))

unfoldable pub answer_at : List ℕ → ℕ → Answer
answer_at log at = placed_answer 2 (length log) at (record_answer (slice_index log (at * 2)) (slice_index log (at * 2 + 1)) at)

-- the little-endian bytes of words
unfoldable pub bytes_of : List ℕ → List ℕ
bytes_of [] = []
bytes_of (w ∷ ws) = w % 0x100 ∷ w / 0x100 % 0x100 ∷ w / 0x1_0000 % 0x100 ∷ w / 0x100_0000 % 0x100 ∷ bytes_of ws
