-- The power-cut statement, proved of every row of saves: each goes on where the one before left flash and controller. Assumes nothing.
use mathlib.Core.Path.{◌≡◌, refl, ap, ◌∙◌, sym}
use mathlib.Core.Bool.{Bool, true, false, cond}
use mathlib.Core.List.{List, [], ◌∷◌, ◌++◌, append-nil, append_assoc, cons≢nil}
use Prim.Native.Nat.{ℕ, zero, suc, ◌+◌, ◌-◌, ◌≤◌, ◌<◌}
use native.Mathlib.Omega.{arith}
use native.Mathlib.Decide.{dec_le}
use lib.Dec.{ltb}
use lib.ListN.{length, get_or, take, length-append}
use lib.Seq.{take-nil, take_all, take-append-le, take-append-add}
use Rattle.zynq7000.specs.Access.{Loggable}
use Rattle.zynq7000.specs.declared.qspi.Access.{Access}
use Rattle.qspi_script.specs.declared.Status.TheVariants.{Done, OutOfRange, RepliesEnded, LogFull}
use Rattle.qspi_calls.specs.Chunks.{Chunk, chunks, Among}
use Rattle.qspi_calls.specs.Calls.{write_pages}
use Rattle.qspi_operation.specs.Machine.{nothing, State, want, begin, count_in, Makes, after}
use Rattle.qspi_operation.proofs.Orders.{run_ended}
use Rattle.qspi_operation.proofs.Stops.{some_due}
use Rattle.qspi_calls.proofs.Registers.{Call, run_loggable}
use Rattle.qspi_calls.proofs.WireOrder.{AllBytes}
use Rattle.power_cut.specs.Flash.{Array, Flash, AfterCut}
use Rattle.power_cut.specs.Controller.{Device, device, flash_of, Trace, still, quiet, step, AllOut, Rests, rests}
use Rattle.power_cut.specs.Observer.{Observed, see, sees, observed}
use Rattle.power_cut.specs.Statement.{In, total, anding, Save, Each, row_log, AtEnd, CallByCall, no_call, at_hand, past, Kept, PowerCut}
use Rattle.power_cut.specs.Row.{IsRun, Precedes, Row, empty, last, more}
use Rattle.power_cut.proofs.Driver.{midway, action, transfer_of, succeeded, failed, refuses, outset, Driver, at, over, state_of, start_next, driver_start}
use Rattle.power_cut.proofs.Fits.{AllFit, Good, good_driver}
use Rattle.std.specs.Cmp.Derive.{both_true}
use Rattle.power_cut.proofs.Watch.{view}
use Rattle.power_cut.proofs.Lands.{applied, applied_anding}
use Rattle.power_cut.proofs.Control.{Up}
use Rattle.power_cut.proofs.OnDevice.{Calm, calm, OnDevice, during, begins}
use Rattle.power_cut.proofs.OnDevice as on
use Rattle.power_cut.specs.WordsOut.{Sends, write_pages_call, RowOf}
use Rattle.power_cut.proofs.WordsOut.{seam, rests_so, run_over, run_last, run_more, cut_row, words_out}
use Rattle.power_cut.proofs.Theorem.{follows_take, finished_by, finished_by_lem, along, bytes_at, parted, between, start_shows, Goes, starts, stands, good_stands, makes_from, ends_in, count_is, counted_by_lem, whole_by}

-- ---- runs of `write_pages`

-- what is lent as bytes is bytes
pub all_bytes : (bs : List ℕ) → ((i : ℕ) → get_or bs i 0 < 256) → AllBytes bs
all_bytes [] h = tt
all_bytes (b ∷ bs) h = (h 0, all_bytes bs (λ i. h (suc i)))

-- the save has come to its end: no access is due
abbrev Over : Save → Type 0
Over c = want (after (begin (write_pages c.address c.bytes) [] 0) c.accesses) ≡ nothing

-- unless 23 or 24 ended it
run_stops : {c : Save} → IsRun c → (c.answer ≡ RepliesEnded → ⊥) → (c.answer ≡ LogFull → ⊥) → Over c
run_stops {c} h dry full =
    let a = ap (λ (z : Save). z.answer) h.is in
    let m = run_ended h.room (begin (write_pages c.address c.bytes) [] 0) h.replies in
    let w = run_over (write_pages c.address c.bytes) h.room h.replies (λ e. dry (a ∙ e)) (λ e. full (a ∙ e)) in
    rw (ap (λ (z : Save). z.accesses) h.is) (rw m.is at w)

pub run_goes : {c : Save} → IsRun c → Goes c
run_goes {c} h =
    let m = run_ended h.room (begin (write_pages c.address c.bytes) [] 0) h.replies in
    let l = ap (λ (z : Save). z.accesses) h.is in
    let a = ap (λ (z : Save). z.answer) h.is in
    record {
      octets = all_bytes c.bytes h.octets;
      makes = rw l m.makes;
      counts = ap (λ (z : Save). z.count) h.is ∙ ap count_in m.is ∙ rw l;
      done = λ e. rw l (rw m.is at (m.done (sym a ∙ e)));
      stops = λ g dry full. run_stops h dry full;
    }

pub precedes_over : {c : Save} → Precedes c → Over c
precedes_over p = run_stops p.runs p.read p.logged

-- a run's accesses go to registers, and so do those of a row
run_to_registers : {c : Save} → IsRun c → Loggable c.accesses
run_to_registers {c} h = rw (ap (λ (z : Save). z.accesses) h.is) (run_loggable (Call.write_pages_call c.address c.bytes) h.room h.replies)

loggable_append : (l m : List Access) → Loggable l → Loggable m → Loggable (l ++ m)
loggable_append [] m h k = k
loggable_append (a ∷ l) m h k = (h.0, loggable_append l m h.1 k)

pub row_to_registers : {row : List Save} → Row row → Loggable (row_log row)
unfolding row_log
row_to_registers empty = tt
row_to_registers (last {c} h) = loggable_append c.accesses [] (run_to_registers h) tt
row_to_registers (more {c} {row} p r) = loggable_append c.accesses (row_log row) (run_to_registers p.runs) (row_to_registers r)

-- a row of saves that go so, each but the last to its end
pub data Going : List Save → Type 0 where
  no_more : Going []
  at_last : {c : Save} → Goes c → Going (c ∷ [])
  and_then : {c : Save} {row : List Save} → Goes c → Over c → Going row → Going (c ∷ row)

pub row_going : {row : List Save} → Row row → Going row
row_going empty = no_more
row_going (last h) = at_last (run_goes h)
row_going (more p r) = and_then (run_goes p.runs) (precedes_over p) (row_going r)

-- earlier saves with one behind them
pub behind : (earlier : List Save) {c : Save} → Each Precedes earlier → Goes c → Going (earlier ++ c ∷ [])
behind [] h g = at_last g
behind (b ∷ earlier) h g = and_then (run_goes h.0.runs) (precedes_over h.0) (behind earlier h.1 g)

-- ---- at its end a save has nothing under way

-- between two saves: chip select is high, no word waits or is going out, and the flash is idle with what these chunks left
data Resting (old : Array) (early : List Chunk) : Device → Type 0 where
  resting : {c : ℕ} {w r : List ℕ} {f : Flash} → Up c → Calm (applied early old) f → Resting old early (device c [] [] w r f)

record Rested (old : Array) (early : List Chunk) (s : Driver) (e : Device) : Type 0 where
  rest : Resting old (early ++ finished_by s) e
  shows : view early s false ≡ between (early ++ finished_by s)

rested : (old : Array) (early : List Chunk) {s : Driver} {e : Device} → want (state_of s) ≡ nothing → OnDevice early old s e → Rested old early s e
rested old early n (during {s = s} {p = p} {c = c} y w) = absurd (some_due (midway p) (action (transfer_of s c) p) n)
rested old early n (on.ended {a = succeeded} nf u y) = record { rest = resting u y; shows = refl }
rested old early n (on.ended {a = failed} nf u y) = absurd nf
rested old early n (on.ended {a = refuses b} nf u y) = record { rest = resting u y; shows = refl }

starts_on : (old : Array) (early : List Chunk) (a : ℕ) (bs : List ℕ) {d : Device} → Resting old early d → OnDevice early old (driver_start a bs) d
unfolding driver_start
starts_on old early a bs (resting {c} {w} {r} {f} u y) = go (ltb 16777215 (a + length bs))
  where
    z : Calm (applied (early ++ []) old) f
    z = rw (append-nil early) y

    go : (b : Bool) → OnDevice early old (cond b (over (refuses OutOfRange) (chunks a bs) outset) (start_next (chunks a bs) outset)) (device c [] [] w r f)
    go true = on.ended tt u z
    go false = begins early old (chunks a bs) outset u z

-- ---- what two logs show, one behind the other

sees_append : (o : Observed) (l m : List Access) → sees o (l ++ m) ≡ sees (sees o l) m
unfolding sees
sees_append o [] m = refl
sees_append o (a ∷ l) m = sees_append (see o a) l m

-- ---- along a row

fit_append : (k l : List Chunk) → AllFit k → AllFit l → AllFit (k ++ l)
fit_append [] l f g = g
fit_append (c ∷ k) l f g = (f.0, fit_append k l f.1 g)

good_fit : (whole : List Chunk) (s : Driver) → Good whole s → AllFit (finished_by s)
good_fit whole (at s p taken c l k) g = g.past
good_fit whole (over succeeded l k) g = g.0.past
good_fit whole (over failed l k) g = g.past
good_fit whole (over (refuses a) l k) g = g.0.past

-- where a row stands after k accesses, begun after these chunks: the chunks finished since, those in doubt, and what a cut leaves
record Reached (old : Array) (row : List Save) (k : ℕ) (early : List Chunk) (l : List Access) (e : Device) : Type 0 where
  since : List Chunk
  doubt : List Chunk
  finished_is : (sees (between early) l).finished ≡ early ++ since
  doubt_is : (sees (between early) l).doubt ≡ doubt
  chunks_are : CallByCall row k since doubt
  bytes_are : (new : Array) → AfterCut (flash_of e) new → (x : ℕ) → ((c : Chunk) → Among c doubt → In x c → ⊥) → new x ≡ anding (early ++ since) x (old x)

module _ (old : Array) where
  -- a save along its log, or the front of it
  record Walked (early : List Chunk) (c : Save) (l : List Access) (e : Device) : Type 0 where
    on_device : OnDevice early old (stands c l) e
    seen : sees (between early) l ≡ view early (stands c l) false

  walks : (early : List Chunk) (c : Save) (l : List Access) {d e : Device} → Goes c → Makes (state_of (starts c)) l → Resting old early d → Trace d l e → Walked early c l e
  walks early c l g f h t =
      let r = along early old (chunks c.address c.bytes) (starts c) (good_driver c.address c.bytes g.octets) (starts_on old early c.address c.bytes h) f t in
      record { on_device = r.0; seen = ap (λ (o : Observed). sees o l) (sym (start_shows early c.address c.bytes)) ∙ r.1 }

  -- right behind it
  at_end : (early : List Chunk) (c : Save) {l : List Access} {e : Device} → Goes c → l ≡ c.accesses → OnDevice early old (stands c l) e → AtEnd c (finished_by (stands c l)) (view early (stands c l) false).doubt
  at_end early c {l} g all y = record {
    counted = ap (λ (z : List Access). total (finished_by (stands c z))) all ∙ sym (count_is c g);
    settled = λ over dry full.
        let n = ap (λ (z : List Access). want (state_of (stands c z))) all ∙ ap want (sym (ends_in c)) ∙ g.stops over dry full in
        ap (λ (o : Observed). o.doubt) (rested old early n y).shows;
  }

  -- the cut lies within the first save, or right behind it
  within : (early : List Chunk) (c : Save) (row : List Save) (k : ℕ) {d e : Device} → AllFit early → Goes c → k ≤ length c.accesses → Resting old early d → Trace d (take k c.accesses) e
      → Reached old (c ∷ row) k early (take k c.accesses) e
  within early c row k fe g i h t =
      let l = take k c.accesses in
      let s = stands c l in
      let v = walks early c l g (follows_take k (state_of (starts c)) c.accesses (makes_from c g)) h t in
      let y = good_stands c l g in
      let q = parted early (chunks c.address c.bytes) old y v.on_device in
      let f : AllFit (early ++ finished_by s) = fit_append early (finished_by s) fe (good_fit (chunks c.address c.bytes) s y) in
      record {
        since = finished_by s;
        doubt = (view early s false).doubt;
        finished_is = ap (λ (o : Observed). o.finished) v.seen ∙ finished_by_lem early s false;
        doubt_is = ap (λ (o : Observed). o.doubt) v.seen;
        chunks_are = at_hand q.left i q.parts q.next (λ e. at_end early c g (take_all k c.accesses (omega (arith, e))) v.on_device);
        bytes_are = λ new z x n. bytes_at early (chunks c.address c.bytes) old new x y v.on_device z n ∙ applied_anding (early ++ finished_by s) old x f;
      }

  -- a row of none
  nowhere : (early : List Chunk) {d e : Device} → AllFit early → Resting old early d → Trace d [] e → Reached old [] 0 early [] e
  unfolding sees
  nowhere early {e = e} fe (resting {f = f} u y) t =
      let z : Calm (applied (early ++ []) old) f = rw (append-nil early) y in
      let w = along early old [] (over succeeded [] outset) (record { parts = refl; past = tt }, refl) (on.ended tt u z) tt t in
      let i : AllFit (early ++ []) = rw (append-nil early) fe in
      record {
        since = [];
        doubt = [];
        finished_is = sym (append-nil early);
        doubt_is = refl;
        chunks_are = no_call;
        bytes_are = λ new a x n. bytes_at early [] old new {s = over succeeded [] outset} x (record { parts = refl; past = tt }, refl) w.0 a n ∙ applied_anding (early ++ []) old x i;
      }

  row_along : (row : List Save) → Going row → (k : ℕ) → k ≤ length (row_log row) → (early : List Chunk) {d e : Device} → AllFit early → Resting old early d → Trace d (take k (row_log row)) e → Reached old row k early (take k (row_log row)) e
  unfolding row_log
  row_along [] no_more zero i early fe h t = nowhere early fe h t
  row_along [] no_more (suc k) i early fe h t = absurd (omega (arith, i))
  row_along (c ∷ []) (at_last g) k i early {d} {e} fe h t =
      let n : c.accesses ++ [] ≡ c.accesses = append-nil c.accesses in
      rw n (within early c [] k fe g (rw n at i) h (rw n at t))
  row_along (c ∷ row) (and_then g o r) k i early {d} {e} fe h t = go (λ j i₁ early₁ d₁ f₁ h₁ t₁. row_along row r j i₁ early₁ {d = d₁} f₁ h₁ t₁) (dec_le k (length c.accesses))
    where
      l : List Access
      l = c.accesses

      go : ((j : ℕ) → j ≤ length (row_log row) → (early₁ : List Chunk) (d₁ : Device) → AllFit early₁ → Resting old early₁ d₁ → Trace d₁ (take j (row_log row)) e → Reached old row j early₁ (take j (row_log row)) e)
          → Dec (k ≤ length l) → Reached old (c ∷ row) k early (take k (l ++ row_log row)) e
      go rest (yes p) =
          let n = take-append-le k l (row_log row) p in
          rw n (within early c row k fe g p h (rw n at t))
      go rest (no p) =
          let j = k - length l in
          let m = take j (row_log row) in
          let n : length l + j ≡ k = omega arith in
          let eq : take k (l ++ row_log row) ≡ l ++ m = ap (λ (z : ℕ). take z (l ++ row_log row)) (sym n) ∙ take-append-add l (row_log row) j in
          let x = seam l m (rw eq at t) in
          let s = stands c l in
          let y = good_stands c l g in
          let v = walks early c l g (makes_from c g) h x.front in
          let q = parted early (chunks c.address c.bytes) old y v.on_device in
          let w = rested old early (ap want (sym (ends_in c)) ∙ o) v.on_device in
          let f = fit_append early (finished_by s) fe (good_fit (chunks c.address c.bytes) s y) in
          let z = rest j (omega (arith, i, length-append l (row_log row))) (early ++ finished_by s) x.middle f w.rest x.back in
          let seen : sees (between early) (l ++ m) ≡ sees (between (early ++ finished_by s)) m = sees_append (between early) l m ∙ ap (λ (a : Observed). sees a m) (v.seen ∙ w.shows) in
          let joined : (early ++ finished_by s) ++ z.since ≡ early ++ (finished_by s ++ z.since) = append_assoc early (finished_by s) z.since in
          rw eq (record {
            since = finished_by s ++ z.since;
            doubt = z.doubt;
            finished_is = ap (λ (a : Observed). a.finished) seen ∙ z.finished_is ∙ joined;
            doubt_is = ap (λ (a : Observed). a.doubt) seen ∙ z.doubt_is;
            chunks_are = past {c = c} {k = k} (finished_by s) q.left (omega arith) q.parts (sym (count_is c g)) z.chunks_are;
            bytes_are = λ new a b u. z.bytes_are new a b u ∙ ap (λ (k : List Chunk). anding k b (old b)) joined;
          })

-- ---- all words are out

-- where no access is made none raises chip select
none_made : {l : List Access} {d e : Device} → l ≡ [] → (t : Trace d l e) → AllOut t
unfolding AllOut
none_made e still = tt
none_made e (quiet s t) = none_made e t
none_made e (step i t) = absurd (cons≢nil e)

-- its accesses, if any, as those of a row of calls that send
data Sending (l : List Access) : Type 0 where
  none_sent : l ≡ [] → Sending l
  sent : {z : State} → RowOf Sends l z → Sending l

alone : {c : Save} → IsRun c → Sending (c.accesses ++ [])
alone {c} h =
    let e = ap (λ (z : Save). z.accesses) h.is in
    rw (append-nil c.accesses, e) (sent (run_last (write_pages c.address c.bytes) (write_pages_call c.address c.bytes) h.room h.replies))

before_others : {c : Save} {l : List Access} → Precedes c → Sending l → Sending (c.accesses ++ l)
before_others p (none_sent e) = rw e (alone p.runs)
before_others {c} p (sent w) =
    let h = p.runs in
    let a = ap (λ (z : Save). z.answer) h.is in
    rw (ap (λ (z : Save). z.accesses) h.is) (sent (run_more (write_pages c.address c.bytes) (write_pages_call c.address c.bytes) h.room h.replies (λ e. p.read (a ∙ e)) (λ e. p.logged (a ∙ e)) w))

sending : {row : List Save} → Row row → Sending (row_log row)
unfolding row_log
sending empty = none_sent refl
sending (last h) = alone h
sending (more p r) = before_others p (sending r)

-- THEOREM. Along every row of saves, up to every cut point of it, no word waits or is going out where chip select rises.
pub row_all_out : {row : List Save} → Row row → (k : ℕ) {old : Array} {before after₁ : Device} → Rests old before → (t : Trace before (take k (row_log row)) after₁) → AllOut t
row_all_out {row} r k {old} {before} {after₁} y = go (sending r)
  where
    go : Sending (row_log row) → (t : Trace before (take k (row_log row)) after₁) → AllOut t
    go (none_sent e) t = none_made (ap (take k) e ∙ take-nil {A = Access} k) t
    go (sent w) t = words_out.at_each_rise (cut_row k w).1 (rests_so y) t

-- ---- the statement

counted_each : {row : List Save} → Going row → Each (λ c. c.count ≡ total (observed c.accesses).finished) row
counted_each no_more = tt
counted_each (at_last {c} g) = (counted_by_lem c g, tt)
counted_each (and_then {c} g o r) = (counted_by_lem c g, counted_each r)

whole_each : {row : List Save} → Going row → Each (λ c. c.answer ≡ Done → c.count ≡ length c.bytes) row
whole_each no_more = tt
whole_each (at_last {c} g) = (whole_by c g, tt)
whole_each (and_then {c} g o r) = (whole_by c g, whole_each r)

cut_at : (row : List Save) → Going row → (k : ℕ) → k ≤ length (row_log row) → {before after₁ : Device} (old new : Array) → Rests old before → Trace before (take k (row_log row)) after₁ → AfterCut (flash_of after₁) new
    → Kept row k old (observed (take k (row_log row))) new
unfolding observed applied
cut_at row g k i old new (rests {c} u₁₀ u₁₄ u₁₅ u₁₆) t z =
    let u : Up c = record { up = u₁₀; unstarted = u₁₆; by_hand = both_true u₁₄ u₁₅ } in
    let r = row_along old row g k i [] tt (resting u calm) t in
    record {
      chunks_are = rw (r.finished_is, r.doubt_is) r.chunks_are;
      bytes_are = λ x n. r.bytes_are new z x (λ c m. n c (rw r.doubt_is m)) ∙ ap (λ (l : List Chunk). anding l x (old x)) (sym r.finished_is);
    }

pub going_cut : {row : List Save} → Going row → PowerCut row
going_cut {row} g = record { cut = λ k i before after₁ old new y t z. cut_at row g k i old new y t z; counted = counted_each g; whole = whole_each g }

-- THEOREM. Of every row of saves: none, one or more, those that are refused included, none but the last ended by 23 or 24.
pub power_cut : {row : List Save} → Row row → PowerCut row
power_cut r = going_cut (row_going r)

-- THEOREM. Of every save, whole or up to any access, behind every row of earlier ones.
pub power_cut_behind : {c : Save} → Goes c → (earlier : List Save) → Each Precedes earlier → PowerCut (earlier ++ c ∷ [])
power_cut_behind g earlier h = going_cut (behind earlier h g)
