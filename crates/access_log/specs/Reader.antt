-- A reader of a log of words: document 01, "For the log printer a reader keeps the lent log and its place together", "with one thin method
-- giving the next access". What it does behind the end or 13 is left open there: it stays, and gives the same again.
use Rattle.std.specs.Prelude.{ℕ, zero, suc, ◌+◌, cond, List, length}
use Rattle.access_log.specs.declared.reader.Found.{Found}
use Rattle.access_log.specs.declared.reader.LogReader.{LogReader}
use Rattle.access_log.specs.Log.{Entry, is_access, entry_at}

-- the entry at a place, and the place that is read next
unfoldable pub found_at : List ℕ → ℕ → Found
found_at log at = record { entry = entry_at log at; next = cond (is_access (entry_at log at)) (at + 1) at }

-- what a reader gives next, and the reader after it: the same log, at the next place
abbrev pub next_of : LogReader → Entry
next_of r = (found_at r.log.now r.at).entry

abbrev pub read_of : LogReader → LogReader
read_of r = record { log = r.log; at = (found_at r.log.now r.at).next }

-- the reader after k entries
unfoldable pub read_times : ℕ → LogReader → LogReader
read_times zero r = r
read_times (suc k) r = read_times k (read_of r)

-- of k places from `at` on, the first that holds no access, or the place behind them
unfoldable pub first_other : ℕ → (ℕ → Entry) → ℕ → ℕ
first_other zero entries at = at
first_other (suc k) entries at = cond (is_access (entries at)) (first_other k entries (suc at)) at

-- how many accesses stand before the end or the first record that 13 refuses; a log has no more records than words
abbrev pub accesses_in : List ℕ → ℕ
accesses_in log = first_other (length log) (entry_at log) 0
