-- What a reader gives, entry by entry: the accesses that wrote the log, then the end, and the same again for ever. Assumes nothing.
use Rattle.std.specs.Prelude.{Some, None, Ok}
use Rattle.std.proofs.Common.{◌≡◌, ℕ, zero, suc, ◌+◌, ◌<◌, ◌≤◌, true, false, List, [], ◌++◌, length, get_or, sym, refl, ap, ◌∙◌, append-nil, arith}
use Rattle.zynq7000.specs.Access.{encode, Loggable}
use Rattle.zynq7000.specs.declared.qspi.Access.{Access}
use Rattle.zynq7000.specs.declared.qspi.Access.TheVariants.{Write}
use Rattle.access_log.specs.declared.reader.LogReader.{LogReader}
use Rattle.access_log.specs.Log.{is_access, entry_at}
use Rattle.access_log.specs.Reader.{next_of, read_of, read_times}
use Rattle.access_log.proofs.Leading.{written_before}
use Rattle.access_log.proofs.Finding.{found_entry, next_on, next_stays}
use Rattle.access_log.proofs.RoundTrip.{reads_back, reads_end}

-- a reader at another place
abbrev placed_at : LogReader → ℕ → LogReader
placed_at r n = record { log = r.log; at = n }

next_entry : (r : LogReader) → next_of r ≡ entry_at r.log.now r.at
next_entry r = found_entry r.log.now r.at

-- ---- behind accesses

nothing : (n : ℕ) → n + 0 ≡ n
nothing n = omega arith

one_on : (n i : ℕ) → n + suc i ≡ n + 1 + i
one_on n i = omega arith

at_next : (log : List ℕ) {m n : ℕ} → m ≡ n → is_access (entry_at log m) ≡ true → is_access (entry_at log n) ≡ true
at_next log e h = ap (λ (i : ℕ). is_access (entry_at log i)) (sym e) ∙ h

-- a reader that finds k accesses in a row stands behind them
pub reads_on : (k : ℕ) (r : LogReader) → ((i : ℕ) → i < k → is_access (entry_at r.log.now (r.at + i)) ≡ true)
    → read_times k r ≡ placed_at r (r.at + k)
unfolding read_times
reads_on zero r all =
    let same : r.at ≡ r.at + 0 = omega arith in
    ap (placed_at r) same
reads_on (suc k) r all =
    let log : List ℕ = r.log.now in
    let here : is_access (entry_at log r.at) ≡ true = at_next log (nothing r.at) (all 0 (omega arith)) in
    let behind : r.at + 1 + k ≡ r.at + suc k = omega arith in
    ap (λ (n : ℕ). read_times k (placed_at r n)) (next_on log r.at here)
    ∙ (reads_on k (placed_at r (r.at + 1)) (λ i h. at_next log (one_on r.at i) (all (suc i) (omega arith)))
    ∙ ap (placed_at r) behind)

-- a reader at the start of a log that accesses wrote, whatever follows them
module _ (d : Access) (rest : List ℕ) (l : List Access) (o : Loggable l) (r : LogReader) (is : r.log.now ≡ encode l ++ rest) (from : r.at ≡ 0) where
  -- after k accesses it stands at the place k
  pub reader_at : (k : ℕ) → k ≤ length l → read_times k r ≡ placed_at r k
  reader_at k h =
      let place : r.at + k ≡ k = omega arith in
      reads_on k r
      (λ i b.
      let here : r.at + i ≡ i = omega arith in
      ap (λ (n : ℕ). is_access (entry_at r.log.now n)) here
      ∙ (ap (λ (w : List ℕ). is_access (entry_at w i)) is ∙ written_before l rest o i (omega arith)))
      ∙ ap (placed_at r) place

  -- THEOREM. It gives the k-th access as the k-th, at the place k.
  pub reader_reads_back : (k : ℕ) → k < length l → (next_of (read_times k r) ≡ Some (Ok (get_or l k d))) × ((read_times k r).at ≡ k)
  reader_reads_back k h =
      let at : read_times k r ≡ placed_at r k = reader_at k (omega arith) in (
        ap next_of at ∙ (next_entry (placed_at r k) ∙ (ap (λ (w : List ℕ). entry_at w k) is ∙ reads_back d rest l k o h)),
        ap (λ (x : LogReader). x.at) at,
      )

-- ---- at the end, or at a record that 13 refuses

-- THEOREM. A reader that gives no access is the same after any number of calls, and so gives the same entry for ever.
pub reader_stays : (r : LogReader) → is_access (next_of r) ≡ false → (k : ℕ) → read_times k r ≡ r
unfolding read_times
reader_stays r none zero = refl
reader_stays r none (suc k) =
    let same : read_of r ≡ r = ap (placed_at r) (next_stays r.log.now r.at (ap is_access (sym (next_entry r)) ∙ none)) in
    ap (read_times k) same ∙ reader_stays r none k

pub reader_repeats : (r : LogReader) → is_access (next_of r) ≡ false → (k : ℕ) → next_of (read_times k r) ≡ next_of r
reader_repeats r none k = ap next_of (reader_stays r none k)

-- THEOREM. Of a log that accesses wrote, the reader gives the end after them, for ever.
pub reader_ends : (l : List Access) → Loggable l → (r : LogReader) → r.log.now ≡ encode l → r.at ≡ 0
    → (k : ℕ) → next_of (read_times k (read_times (length l) r)) ≡ None
reader_ends l o r is from k =
    let at : read_times (length l) r ≡ placed_at r (length l) =
    reader_at (Write 0 0) [] l o r (is ∙ sym (append-nil (encode l))) from (length l) (omega arith) in
    let end : next_of (read_times (length l) r) ≡ None =
    ap next_of at ∙ (next_entry (placed_at r (length l)) ∙ (ap (λ (w : List ℕ). entry_at w (length l)) is ∙ reads_end l)) in
    reader_repeats (read_times (length l) r) (ap is_access end) k ∙ end
