-- The three kinds of place of a log: a whole record, a short one, and the end. Assumes nothing.
use Rattle.std.specs.Prelude.{None}
use Rattle.std.proofs.Common.{◌≡◌, ℕ, ◌+◌, ◌*◌, ◌/◌, ◌%◌, ◌<◌, ◌≤◌, List, length, get_or, arith, le-ltb, lt-ltb, le-leb}
use borrow.Author.Tests.{lt-leb}
use Rattle.zynq7000.specs.Access.{record_of_words}
use Rattle.zynq7000.specs.declared.qspi.BadLog.{BadLog}
use Rattle.zynq7000.specs.declared.qspi.Access.{Access}
use Rattle.std.specs.Prelude.{Result}
use Rattle.access_log.specs.Log.{bad_at, entry_of, placed, entry_at, word_at, entry_in}

-- ---- over the size of a record

pub placed_whole : (size len at : ℕ) (r : Result Access BadLog) → at * size + size ≤ len → placed size len at r ≡ entry_of r at
placed_whole size len at r h = simp (le-leb (at * size + size) len h)

pub placed_short : (size len at : ℕ) (r : Result Access BadLog) → len < at * size + size → at * size < len → placed size len at r ≡ bad_at at
placed_short size len at r h l = simp (lt-leb (at * size + size) len h, lt-ltb (at * size) len l)

pub placed_end : (size len at : ℕ) (r : Result Access BadLog) → len < at * size + size → len ≤ at * size → placed size len at r ≡ None
placed_end size len at r h l = simp (lt-leb (at * size + size) len h, le-ltb (at * size) len l)

-- ---- in words

module _ (log : List ℕ) (at : ℕ) where
  abbrev words : Result Access BadLog
  words = record_of_words (get_or log (at * 2) 0) (get_or log (at * 2 + 1) 0)

  pub at_whole : at < length log / 2 → entry_at log at ≡ entry_of (record_of_words (get_or log (at * 2) 0) (get_or log (at * 2 + 1) 0)) at
  unfolding entry_at
  at_whole h = placed_whole 2 (length log) at words (omega arith)

  pub at_short : at ≡ length log / 2 → (length log % 2 ≡ 0 → ⊥) → entry_at log at ≡ bad_at at
  unfolding entry_at
  at_short e o = placed_short 2 (length log) at words (omega arith) (omega arith)

  pub at_end : length log ≤ at * 2 → entry_at log at ≡ None
  unfolding entry_at
  at_end h = placed_end 2 (length log) at words (omega arith) h

-- ---- in bytes

module _ (bytes : List ℕ) (at : ℕ) where
  abbrev octets : Result Access BadLog
  octets = record_of_words (word_at bytes (at * 8)) (word_at bytes (at * 8 + 4))

  pub in_whole : at < length bytes / 8 → entry_in bytes at ≡ entry_of (record_of_words (word_at bytes (at * 8)) (word_at bytes (at * 8 + 4))) at
  unfolding entry_in
  in_whole h = placed_whole 8 (length bytes) at octets (omega arith)

  pub in_short : at ≡ length bytes / 8 → (length bytes % 8 ≡ 0 → ⊥) → entry_in bytes at ≡ bad_at at
  unfolding entry_in
  in_short e o = placed_short 8 (length bytes) at octets (omega arith) (omega arith)

  pub in_end : length bytes ≤ at * 8 → entry_in bytes at ≡ None
  unfolding entry_in
  in_end h = placed_end 8 (length bytes) at octets (omega arith) h
