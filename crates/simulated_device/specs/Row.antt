-- A row of calls: document 02, U2: "none but the last ended by 23 or 24, each on the flash and controller as the one before left them". The cut
-- point is a number of accesses over the whole row.
use Rattle.std.specs.Prelude.{ℕ, Option, Some, None, ◌-◌, ◌/◌, Bool, true, false, cond, List, [], ◌∷◌, ◌++◌, take}
use Rattle.qspi_script.specs.declared.Status.{Status}
use Rattle.qspi_script.specs.declared.Status.TheVariants as status
use Rattle.qspi_operation.specs.declared.Op.{Op}
use Rattle.simulated_device.specs.Simulated.{at_rest}
use Rattle.simulated_device.specs.Running.{Turn, turns, beginning}
use Rattle.simulated_device.specs.declared.Choices.{Choices}
use Rattle.simulated_device.specs.declared.run.Ran.{Ran}
use Rattle.simulated_device.specs.declared.row.Row.{Row}
use Rattle.simulated_device.specs.declared.row.Followed.{Followed}

-- ---- where a row stands

abbrev pub row_start : Choices → ℕ → Row
row_start ch accesses = record { device = at_rest ch; left = accesses; over = false }

-- "ended by 23 or 24"
abbrev pub is_stopped : Status → Bool
is_stopped status.Going = false
is_stopped status.Done = false
is_stopped status.OutOfRange = false
is_stopped status.Alignment = false
is_stopped status.DataTooLarge = false
is_stopped status.NotAligned = false
is_stopped status.CrossesPageBoundary = false
is_stopped status.AddressSpan = false
is_stopped status.FieldTooWide = false
is_stopped status.EraseErrorBitSet = false
is_stopped status.ProgrammingErrorBitSet = false
is_stopped status.RepliesEnded = true
is_stopped status.LogFull = true
is_stopped status.LentLengthChanged = false
is_stopped status.RepeatedSector = false
is_stopped status.ListTooLong = false

-- a call of a row that is over makes no access
abbrev pub may_make : Row → ℕ
may_make w = cond w.over 0 w.left

-- "ended by 23 or 24", or the device could not go on
abbrev pub ends_row : Option Status → Bool
ends_row None = true
ends_row (Some a) = is_stopped a

abbrev pub is_over : Row → Ran → Bool
is_over w r = cond w.over true (ends_row r.answer)

-- an access takes two words of log
abbrev pub row_after : Row → Ran → Row
row_after w r = record { device = r.device; left = w.left - r.op.used / 2; over = is_over w r }

abbrev pub followed : Row → Ran → Followed
followed w r = record { ran = r; row = row_after w r }

-- ---- the next call of a row

abbrev pub next : Row → Op → ℕ → List ℕ → List ℕ → List ℕ → List ℕ → List ℕ → List ℕ → Turn
next w o replies bytes buffer log sent received array = turns (may_make w) replies bytes (beginning o w.device buffer log sent received array)

-- ---- a whole row

-- a call, and what it is lent
pub record Call : Type 0 where
  pub op : Op
  pub replies : ℕ
  pub bytes : List ℕ
  pub buffer : List ℕ
  pub log : List ℕ

-- a row so far: where it stands, the device's memory, and the used words of the logs, one behind the other
pub record Past : Type 0 where
  pub row : Row
  pub sent : List ℕ
  pub received : List ℕ
  pub array : List ℕ
  pub words : List ℕ

abbrev pub turn_in : Past → Call → Turn
turn_in p c = next p.row c.op c.replies c.bytes c.buffer c.log p.sent p.received p.array

abbrev pub and_then : Past → Call → Past
and_then p c = record {
  row = row_after p.row (turn_in p c).ran;
  sent = (turn_in p c).sent;
  received = (turn_in p c).received;
  array = (turn_in p c).array;
  words = p.words ++ take (turn_in p c).ran.op.used (turn_in p c).log;
}

-- call after call
unfoldable pub row_of : Past → List Call → Past
row_of p [] = p
row_of p (c ∷ cs) = row_of (and_then p c) cs

abbrev pub no_call : Choices → ℕ → List ℕ → List ℕ → List ℕ → Past
no_call ch accesses sent received array = record { row = row_start ch accesses; sent = sent; received = received; array = array; words = [] }
