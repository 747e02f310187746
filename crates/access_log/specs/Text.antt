-- The text of a log: document 01, "Log and printer". "prints one line each: W or R, offset in two hex digits, value in eight, upper case,
-- no header. At 13 it prints one line, BAD, a space and the record's number from 0 in decimal, and stops." Characters are ASCII codes.
use Rattle.std.specs.Prelude.{ℕ, zero, suc, ◌+◌, ◌/◌, ◌%◌, ◌^◌, Bool, true, false, cond, List, [], ◌∷◌, ◌++◌, length, take, drop, nat_lt, Some, None, Ok, Err}
use Rattle.zynq7000.specs.declared.qspi.Access.{Access}
use Rattle.zynq7000.specs.declared.qspi.Access.TheVariants.{Read, Write}
use Rattle.access_log.specs.Log.{Entry, is_access, entry_in}

-- `0` to `9`, then `A` to `F`
abbrev pub hex_digit : ℕ → ℕ
hex_digit d = cond (nat_lt d 10) (48 + d) (55 + d)

-- n in k hex digits, the most significant first
abbrev pub hex : ℕ → ℕ → List ℕ
hex zero n = []
hex (suc k) n = hex k (n / 16) ++ (hex_digit (n % 16) ∷ [])

-- n in decimal with no zeros in front, where it has up to k digits
unfoldable pub decimal_up_to : ℕ → ℕ → List ℕ
decimal_up_to zero n = []
decimal_up_to (suc k) n = cond (nat_lt n 10) [] (decimal_up_to k (n / 10)) ++ ((48 + n % 10) ∷ [])

abbrev pub space : ℕ
space = 32

abbrev pub newline : ℕ
newline = 10

-- the letter of the kind, the offset and the value
abbrev pub line_with : ℕ → ℕ → ℕ → List ℕ
line_with kind offset value = (kind ∷ space ∷ []) ++ hex 2 offset ++ (space ∷ []) ++ hex 8 value ++ (newline ∷ [])

-- `R` is 82, `W` is 87
abbrev pub line_of : Access → List ℕ
line_of (Read o v) = line_with 82 o v
line_of (Write o v) = line_with 87 o v

-- `BAD` is 66 65 68; a number of 64 bits has up to 20 digits
unfoldable pub bad_line : ℕ → List ℕ
bad_line n = (66 ∷ 65 ∷ 68 ∷ space ∷ []) ++ decimal_up_to 20 n ++ (newline ∷ [])

-- an entry's line, and the lines after it; numbers have 64 bits
abbrev pub line_then : Entry → ℕ → List ℕ → List ℕ
line_then (Some (Ok a)) first rest = line_of a ++ rest
line_then None first rest = []
line_then (Some (Err e)) first rest = bad_line ((first + e.at) % 2 ^ 64)

-- the text of at most `count` records from place `at` on, by the entry at each place; place 0 has the number `first`
unfoldable pub text_of : ℕ → (ℕ → Entry) → ℕ → ℕ → List ℕ
text_of zero entries first at = []
text_of (suc count) entries first at = line_then (entries at) first (text_of count entries first (suc at))

-- the text of a whole log of bytes, which has no more records than bytes
unfoldable pub log_text : List ℕ → ℕ → List ℕ
log_text bytes first = text_of (length bytes) (entry_in bytes) first 0

-- whether `count` records from place `at` on are all accesses
unfoldable pub all_accesses : ℕ → (ℕ → Entry) → ℕ → Bool
all_accesses zero entries at = true
all_accesses (suc count) entries at = cond (is_access (entries at)) (all_accesses count entries (suc at)) false

-- a buffer with a text at one of its places
unfoldable pub written : List ℕ → ℕ → List ℕ → List ℕ
written out at text = take at out ++ text ++ drop (at + length text) out

-- a text over the front of a buffer: every other byte as it was
abbrev pub over : List ℕ → List ℕ → List ℕ
over text out = text ++ drop (length text) out
