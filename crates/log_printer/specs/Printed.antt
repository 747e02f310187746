-- What printing does to the bytes that a reader has left and to those that a writer holds, where they are known.
use Rattle.std.specs.Prelude.{◌≡◌, ℕ, ◌+◌, ◌%◌, ◌^◌, ◌<◌, List, ◌++◌, length, IfSome, Option}
use Rattle.std.specs.Io.KnownBytes.{Appends, Consumes}
use Rattle.access_log.specs.Text.{log_text}

-- the text of the whole log that is left is written; its first record has a number
abbrev pub PrintsAll : Option (List ℕ) → Option (List ℕ) → Option (List ℕ) → ℕ → Type 0
PrintsAll log old new first = IfSome log (λ xs. Appends old new (log_text xs first))

-- the whole text of a log below 2^64 bytes is written, its first record numbered 0
abbrev pub PrintsLog : Option (List ℕ) → Option (List ℕ) → Option (List ℕ) → Type 0
PrintsLog log old new = IfSome log (λ xs. length xs < 2 ^ 64 → Appends old new (log_text xs 0))

-- a full buffer is read and its text is written, and the text of the log goes on with that of what is left, numbered on
pub record PrintsPart (log left old new : Option (List ℕ)) (first : ℕ) : Type 0 where
  pub bytes : List ℕ
  pub full : length bytes ≡ 4096
  pub read : Consumes log left bytes
  pub written : Appends old new (log_text bytes first)
  pub rest : (ys : List ℕ) → log_text (bytes ++ ys) first ≡ log_text bytes first ++ log_text ys ((first + 512) % 2 ^ 64)
