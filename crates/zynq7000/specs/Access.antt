-- An access in a log: document 01, "Log and printer". "An access is two 32-bit words: offset (plus 100 hex for a read), then value."
use Rattle.std.specs.Prelude.{ℕ, ◌+◌, ◌-◌, ◌%◌, ◌<◌, ◌≡◌, cond, List, [], ◌∷◌, eqb, ltb, Result, Ok, Err}
use Rattle.zynq7000.specs.declared.qspi.Access.{Access}
use Rattle.zynq7000.specs.declared.qspi.Access.TheVariants.{Read, Write}
use Rattle.zynq7000.specs.declared.qspi.BadLog.{BadLog}

abbrev pub offset_in : Access → ℕ
offset_in (Read o v) = o
offset_in (Write o v) = o

abbrev pub first_word : Access → ℕ
first_word (Read o v) = 0x100 + o
first_word (Write o v) = o

abbrev pub value_word : Access → ℕ
value_word (Read o v) = v
value_word (Write o v) = v

-- an offset that a log can hold: a multiple of 4 in a byte
pub record Aligned (offset : ℕ) : Type 0 where
  pub fourth : offset % 4 ≡ 0
  pub byte : offset < 256

-- the log of a list of accesses
unfoldable pub encode : List Access → List ℕ
encode [] = []
encode (a ∷ l) = first_word a ∷ value_word a ∷ encode l

-- accesses whose offsets a log can hold
abbrev pub Loggable : List Access → Type 0
Loggable [] = Unit {0}
Loggable (a ∷ l) = Aligned (offset_in a) × Loggable l

-- rule 13: no access where the first word is above 1FC or not a multiple of 4
abbrev pub bad_log : BadLog
bad_log = record {}

abbrev pub record_of_words : ℕ → ℕ → Result Access BadLog
record_of_words first v =
    cond (ltb 0x1FC first) (Err bad_log)
    (cond (eqb (first % 4) 0)
    (Ok (cond (ltb first 0x100) (Write first v) (Read (first - 0x100) v)))
    (Err bad_log))
