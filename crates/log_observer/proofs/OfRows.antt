-- The watch of the log of a row of saves, which `shows_row` is about: that log is the words of the saves, one behind the other, and under the premises
-- of the power-cut statement its counts are exact and at most one chunk is in doubt. Assumes nothing.
use Rattle.std.proofs.Common.{◌≡◌, ℕ, ◌+◌, ◌^◌, ◌<◌, ◌≤◌, List, [], ◌∷◌, ◌++◌, length, take, refl, ap, ◌∙◌, arith, length-append}
use Rattle.zynq7000.specs.Access.{encode}
use Rattle.qspi_operation.proofs.PointLaws.{encode_append}
use Rattle.qspi_calls.specs.Chunks.{Chunk}
use Rattle.qspi_calls.proofs.WireOrder.{AllBytes}
use Rattle.power_cut.specs.Flash.{Array, AfterCut}
use Rattle.power_cut.specs.Controller.{Device, flash_of, Trace, Rests}
use Rattle.power_cut.specs.Observer.{Observed, observed}
use Rattle.power_cut.specs.Statement.{total, Save, Each, row_log, CallByCall, no_call, at_hand, past}
use Rattle.power_cut.specs.Row.{Row, empty, last, more}
use Rattle.power_cut.proofs.Driver.{total_append}
use Rattle.power_cut.proofs.Fits.{AllSound, chunks_sound}
use Rattle.power_cut.proofs.Lands.{chunks_total}
use Rattle.power_cut.proofs.StatementLaws.{one_over_all}
use Rattle.power_cut.proofs.Rows.{all_bytes, power_cut}
use Rattle.log_observer.specs.Shown.{doubt_of, shown}
use Rattle.log_observer.proofs.OfRuns.{Exact}

-- ---- its words

abbrev pub words_of : List Save → List ℕ
words_of [] = []
words_of (c ∷ row) = encode c.accesses ++ words_of row

-- THEOREM. Where each save is lent the log behind the words that the ones before it used, the used words are the row's log.
pub row_words : (row : List Save) → encode (row_log row) ≡ words_of row
unfolding row_log encode
row_words [] = refl
row_words (c ∷ row) = encode_append c.accesses (row_log row) ∙ ap (λ (w : List ℕ). encode c.accesses ++ w) (row_words row)

-- ---- its counts

-- the bytes of data of a row
abbrev pub lengths : List Save → ℕ
lengths [] = 0
lengths (c ∷ row) = length c.bytes + lengths row

-- no more bytes finished than there are data
finished_most : {row : List Save} {k : ℕ} {f q : List Chunk} → CallByCall row k f q → total f ≤ lengths row
unfolding total
finished_most no_call = omega arith
finished_most (at_hand {c} {row} {first = first} left i e n h) =
    omega (arith, total_append first left, ap total e, chunks_total c.address c.bytes)
finished_most (past {c} {more = later} first left i e h r) =
    omega (arith, total_append first later, total_append first left, ap total e, chunks_total c.address c.bytes, finished_most r)

-- and no more chunks than bytes
sound_count : (k l : List Chunk) → AllSound (k ++ l) → length k ≤ total k
unfolding total
sound_count [] l h = omega arith
sound_count (c ∷ k) l h = omega (arith, sound_count k l h.1, h.0.some_byte)

finished_few : {row : List Save} {k : ℕ} {f q : List Chunk} → Each (λ c. AllBytes c.bytes) row → CallByCall row k f q → length f ≤ total f
unfolding total
finished_few h no_call = omega arith
finished_few h (at_hand {c} {first = first} left i e n m) = sound_count first left (rw e (chunks_sound c.address c.bytes h.0))
finished_few h (past {c} {more = later} first left i e m r) =
    omega (arith, total_append first later, length-append first later, sound_count first left (rw e (chunks_sound c.address c.bytes h.0)), finished_few h.1 r)

row_octets : {row : List Save} → Row row → Each (λ c. AllBytes c.bytes) row
row_octets empty = tt
row_octets (last {c} h) = (all_bytes c.bytes h.octets, tt)
row_octets (more {c} p r) = (all_bytes c.bytes p.runs.octets, row_octets r)

-- a row that the premises hold of, cut after k accesses
module _ {row : List Save} (r : Row row) (k : ℕ) (i : k ≤ length (row_log row)) (before after : Device) (old new : Array)
    (y : Rests old before) (t : Trace before (take k (row_log row)) after) (z : AfterCut (flash_of after) new) where
  abbrev seen : Observed
  seen = observed (take k (row_log row))

  call_by_call : CallByCall row k seen.finished seen.doubt
  call_by_call = ((power_cut r).cut k i before after old new y t z).chunks_are

  -- THEOREM. No count is past 2^32, so that none is cut off.
  pub exact_row : lengths row < 2 ^ 32 → Exact seen
  exact_row few =
      let m = finished_most call_by_call in
      let n = finished_few (row_octets r) call_by_call in
      record { finished = omega (arith, m, n, few); bytes = omega (arith, m, few) }

  -- THEOREM. "at most one chunk in doubt over all of them" (document 02, U2).
  pub one_shown : (shown seen).doubt.chunks ≤ 1
  one_shown = go seen.doubt (one_over_all call_by_call)
    where
      go : (q : List Chunk) → length q ≤ 1 → (doubt_of q).chunks ≤ 1
      go [] h = omega arith
      go (c ∷ q) h = omega (arith, h)
