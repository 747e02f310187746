-- The premises of the power-cut statement can be met: for every call, whatever it is refused by and after however many chunks, and from every
-- device at rest, there are replies on which the run comes to its end and is a trace at each cut point. Assumes nothing.
use mathlib.Core.Path.{◌≡◌, refl, ap, ◌∙◌, sym}
use mathlib.Core.Bool.{Bool, true, false, cond}
use mathlib.Core.Option.{Option, none, some}
use mathlib.Core.List.{List, [], ◌∷◌, ◌++◌, map, append-nil}
use Prim.Native.Nat.{ℕ, zero, suc, ◌+◌, ◌-◌, ◌%◌, ◌≤◌, ◌<◌}
use native.Mathlib.Omega.{arith}
use lib.Dec.{ltb, eqb}
use lib.ListN.{length, get_or, take}
use lib.Seq.{append_snoc}
use borrow.Author.Tests.{le-ltb, ltb-false}
use Rattle.zynq7000.specs.Bits.{is_set}
use Rattle.zynq7000.specs.declared.qspi.Access.{Access}
use Rattle.qspi_script.specs.declared.Status.{Status}
use Rattle.qspi_script.specs.declared.Status.TheVariants.{Done, OutOfRange, NotAligned, CrossesPageBoundary, RepliesEnded, LogFull}
use Rattle.qspi_calls.specs.Chunks.{Chunk, chunks, Among, here, there}
use Rattle.qspi_operation.specs.Machine.{State, begin, after, count_in, Result, called, replies_of}
use Rattle.qspi_operation.proofs.Orders.{run_ended}
use Rattle.qspi_calls.specs.Calls.{zeros, write_pages}
use Rattle.qspi_calls.proofs.WireOrder.{AllBytes}
use Rattle.qspi_calls.proofs.Pages.{within}
use Rattle.qspi_calls.proofs.PromptLogs.{Plays, plays_none, plays_read, plays_write, counting_logs}
use Rattle.power_cut.specs.Flash.{Array, programmed, programming, Flash, flash, busy, command_of, obey, execute, settles, AfterCut}
use Rattle.power_cut.specs.Controller.{bytes_out, Device, device, flash_of, idle, Trace, still, quiet, step, Rests, rests}
use Rattle.power_cut.specs.Statement.{total, Save, Each, row_log}
use Rattle.power_cut.specs.Row.{save_of, IsRun, Precedes, Row, empty, more}
use Rattle.power_cut.specs.Witness.{refusal, unless_refused, and_before, end_of, done_of, comes_to, finishes, Met, Comes, Possible, asks, PossibleRow}
use Rattle.power_cut.proofs.Driver.{draining, Stage, enables, programs, polls, transfer_of, then_of, Ending, succeeded, refuses, ending_status, Past, outset, joined, Driver, at, over, state_of, Verdict, accepts, refuses_with, judge, verdict_on, start_on, start_next, stage_after, driver_start, begin_stage, start_is}
use Rattle.power_cut.proofs.Fits.{Sound, Fit, AllSound, fit, chunks_sound}
use Rattle.power_cut.proofs.FlashLaws.{array_of}
use Rattle.power_cut.proofs.Watch.{width, port_is, asked, asks_program}
use Rattle.power_cut.proofs.Control.{Up}
use Rattle.power_cut.proofs.OnDevice.{reply_each}
use Rattle.std.specs.Cmp.Derive.{both_true}
use Rattle.power_cut.proofs.Ways.{Leads, on, nowhere, silently, through, trace_append}
use Rattle.power_cut.proofs.Rows.{all_bytes}

-- ---- one stage, one chunk, all chunks

pub record Reaches (s : Driver) (d : Device) (t : Driver) (f : Flash) : Type 0 where
  pub config : ℕ
  pub up : Up config
  pub wire : List ℕ
  pub left : List ℕ
  pub leads : Leads (state_of s) d (state_of t) (device config [] [] wire left f)

stage_reaches : (s : Stage) (c : Chunk) (l : List Chunk) (k : Past) (f : Flash) (v : ℕ) (w r : List ℕ) → Fit c → busy f ≡ false → Up v
    → Reaches (at s draining [] c l k) (device v [] [] w r f) (stage_after s (zeros (transfer_of s c).replies) c l k) (execute f (asked s c))
stage_reaches s c l k f v w r h b u =
    let t = through (width s) (transfer_of s c) (then_of s c l) (total k.chunks) f (port_is s c) b v w r (reply_each s c h) u in
    record { config = t.config; up = t.up; wire = []; left = []; leads = rw (begin_stage s (zeros (transfer_of s c).replies) c l k) at t.leads }

enabled : (m : Array) (latch : Bool) (c : Chunk) → execute (flash m latch none) (asked enables c) ≡ flash m true none
unfolding bytes_out execute obey command_of
enabled m latch c = refl

programs_it : (m : Array) (c : Chunk) → Fit c → execute (flash m true none) (asked programs c) ≡ flash m false (some (programming c))
unfolding execute obey
programs_it m c h = rw (asks_program c h)

polled : (m : Array) (c : Chunk) → execute (flash m false none) (asked polls c) ≡ flash m false none
unfolding bytes_out execute obey command_of
polled m c = refl

chunk_reaches : (c : Chunk) (l : List Chunk) (k : Past) (m : Array) (latch : Bool) (v : ℕ) (w r : List ℕ) → Fit c → Up v
    → Reaches (at enables draining [] c l k) (device v [] [] w r (flash m latch none)) (start_next l (joined k c)) (flash (programmed c m) false none)
unfolding stage_after
chunk_reaches c l k m latch v w r h u =
    let x = stage_reaches enables c l k (flash m latch none) v w r h refl u in
    let x' : Leads (state_of (at enables draining [] c l k)) (device v [] [] w r (flash m latch none)) (state_of (at programs draining [] c l k)) (device x.config [] [] x.wire x.left (flash m true none)) = rw (enabled m latch c) at x.leads in
    let y = stage_reaches programs c l k (flash m true none) x.config x.wire x.left h refl x.up in
    let y' : Leads (state_of (at programs draining [] c l k)) (device x.config [] [] x.wire x.left (flash m true none)) (state_of (at polls draining [] c l k)) (device y.config [] [] y.wire y.left (flash m false (some (programming c)))) = rw (programs_it m c h) at y.leads in
    let z = stage_reaches polls c l k (flash (programmed c m) false none) y.config y.wire y.left h refl y.up in
    let z' : Leads (state_of (at polls draining [] c l k)) (device y.config [] [] y.wire y.left (flash (programmed c m) false none)) (state_of (start_next l (joined k c))) (device z.config [] [] z.wire z.left (flash (programmed c m) false none)) = rw (polled (programmed c m) c) at z.leads in
    record { config = z.config; up = z.up; wire = z.wire; left = z.left; leads = on x' (on y' (silently (idle settles) z')) }

-- ---- the chunks one after the other, to the first that is refused

abbrev ending_by : Verdict → Ending → Ending
ending_by accepts later = later
ending_by (refuses_with a) later = refuses a

abbrev left_by : Verdict → Chunk → List Chunk → List Chunk → List Chunk
left_by accepts c l later = later
left_by (refuses_with a) c l later = c ∷ l

abbrev past_by : Verdict → Chunk → List Chunk → List Chunk
past_by accepts c later = c ∷ later
past_by (refuses_with a) c later = []

ending_of : List Chunk → Ending
ending_of [] = succeeded
ending_of (c ∷ l) = ending_by (verdict_on c) (ending_of l)

left_of : List Chunk → List Chunk
left_of [] = []
left_of (c ∷ l) = left_by (verdict_on c) c l (left_of l)

past_of : List Chunk → List Chunk
past_of [] = []
past_of (c ∷ l) = past_by (verdict_on c) c (past_of l)

-- with these chunks done too
abbrev behind : Past → List Chunk → Past
behind k l = record { chunks = k.chunks ++ l }

-- the flash at the end is idle; its latch is what the last chunk left
record Finishes (s : Driver) (d : Device) (t : Driver) : Type 0 where
  array : Array
  latch : Bool
  reached : Reaches s d t (flash array latch none)

chunks_finish : (l : List Chunk) (k : Past) (m : Array) (latch : Bool) (v : ℕ) (w r : List ℕ) → AllSound l → Up v
    → Finishes (start_next l k) (device v [] [] w r (flash m latch none)) (over (ending_of l) (left_of l) (behind k (past_of l)))
unfolding start_next ending_of left_of past_of
chunks_finish [] k m latch v w r h u = record { array = m; latch = latch; reached = record { config = v; up = u; wire = w; left = r; leads = rw (append-nil k.chunks) nowhere } }
chunks_finish (c ∷ l) k m latch v w r h u = go (verdict_on c) refl (λ k₁ m₁ v₁ w₁ r₁ u₁. chunks_finish l k₁ m₁ false v₁ w₁ r₁ h.1 u₁)
  where
    go : (y : Verdict) → verdict_on c ≡ y
        → ((k₁ : Past) (m₁ : Array) (v₁ : ℕ) (w₁ r₁ : List ℕ) → Up v₁ → Finishes (start_next l k₁) (device v₁ [] [] w₁ r₁ (flash m₁ false none)) (over (ending_of l) (left_of l) (behind k₁ (past_of l))))
        → Finishes (start_on y c l k) (device v [] [] w r (flash m latch none)) (over (ending_by y (ending_of l)) (left_by y c l (left_of l)) (behind k (past_by y c (past_of l))))
    go accepts e later =
        let x = chunk_reaches c l k m latch v w r (fit c h.0 e) u in
        let y = later (joined k c) (programmed c m) x.config x.wire x.left x.up in
        let z = y.reached in
        let q : Leads (state_of (start_next l (joined k c))) (device x.config [] [] x.wire x.left (flash (programmed c m) false none)) (state_of (over (ending_of l) (left_of l) (behind k (c ∷ past_of l)))) (device z.config [] [] z.wire z.left (flash y.array y.latch none)) =
        rw (append_snoc k.chunks c (past_of l)) at z.leads in
        record { array = y.array; latch = y.latch; reached = record { config = z.config; up = z.up; wire = z.wire; left = z.left; leads = on x.leads q } }
    go (refuses_with a) e later = record { array = m; latch = latch; reached = record { config = v; up = u; wire = w; left = r; leads = rw (append-nil k.chunks) nowhere } }

-- ---- of a call in range no chunk is refused by 1 or 3

judged_one : (c : Chunk) → Sound c → c.address + length c.bytes ≤ 16777215 → verdict_on c ≡ judge false false (eqb (length c.bytes % 4) 0) (ltb 256 (c.address % 256 + length c.bytes))
unfolding verdict_on
judged_one c s r = rw (le-ltb 16777215 (c.address + length c.bytes) r, le-ltb 240 (length c.bytes) (omega (arith, s.small)))

abbrev refusal_by : Bool → Bool → Option Status
refusal_by fours crosses = cond fours (cond crosses (some CrossesPageBoundary) none) (some NotAligned)

status_by : (fours crosses : Bool) (e : Ending) → ending_status (ending_by (judge false false fours crosses) e) ≡ unless_refused (refusal_by fours crosses) (ending_status e)
status_by false crosses e = refl
status_by true true e = refl
status_by true false e = refl

past_by_lem : (fours crosses : Bool) (c : Chunk) (l : List Chunk) → past_by (judge false false fours crosses) c l ≡ and_before (refusal_by fours crosses) c l
past_by_lem false crosses c l = refl
past_by_lem true true c l = refl
past_by_lem true false c l = refl

module _ (c : Chunk) where
  abbrev fours_in : Bool
  fours_in = eqb (length c.bytes % 4) 0

  abbrev crosses_in : Bool
  crosses_in = ltb 256 (c.address % 256 + length c.bytes)

ends_as : (l : List Chunk) → AllSound l → ((c : Chunk) → Among c l → c.address + length c.bytes ≤ 16777215) → (ending_status (ending_of l) ≡ end_of l) × (past_of l ≡ done_of l)
unfolding ending_of past_of end_of done_of
ends_as [] s r = (refl, refl)
ends_as (c ∷ l) s r =
    let v = judged_one c s.0 (r c here) in
    let x = ends_as l s.1 (λ b m. r b (there m)) in (
      ap (λ (y : Verdict). ending_status (ending_by y (ending_of l))) v ∙ status_by (fours_in c) (crosses_in c) (ending_of l) ∙ ap (unless_refused (refusal c)) x.0,
      ap (λ (y : Verdict). past_by y c (past_of l)) v ∙ past_by_lem (fours_in c) (crosses_in c) c (past_of l) ∙ ap (and_before (refusal c) c) x.1,
    )

-- ---- a prefix of a trace is a trace

pub record Prefix (d : Device) (l : List Access) : Type 0 where
  pub end : Device
  pub trace : Trace d l end

pub trace_take : (k : ℕ) {d e : Device} {l : List Access} → Trace d l e → Prefix d (take k l)
trace_take zero t = record { end = _; trace = still }
trace_take (suc k) still = record { end = _; trace = still }
trace_take (suc k) (quiet s t) = let x = trace_take (suc k) t in record { end = x.end; trace = quiet s x.trace }
trace_take (suc k) (step i t) = let x = trace_take k t in record { end = x.end; trace = step i x.trace }

-- a cut can leave the array as it was
left_so : (f : Flash) → AfterCut f (array_of f)
unfolding AfterCut
left_so (flash m latch none) = λ x. refl
left_so (flash m latch (some w)) = λ x h. refl

met_by : {d e : Device} {l : List Access} (k : ℕ) → Trace d l e → Met d l k
met_by k t = let x = trace_take k t in record { after = x.end; trace = x.trace; new = array_of (flash_of x.end); left = left_so (flash_of x.end) }

-- ---- the run over the replies of such a way

in_range : (a : ℕ) (bs : List ℕ) → a + length bs ≤ 16777215 → (c : Chunk) → Among c (chunks a bs) → c.address + length c.bytes ≤ 16777215
unfolding chunks
in_range a bs i c m = omega (arith, (within (length bs) a bs c m).0)

plays_after : {s t : State} {l : List Access} → Plays s l t → after s l ≡ t
plays_after plays_none = refl
plays_after (plays_read e p) = plays_after p
plays_after (plays_write e p) = plays_after p

-- a way to the end of a call, with the device at rest then
record Finished (a : ℕ) (bs : List ℕ) (d : Device) : Type 0 where
  ending : Ending
  unsent : List Chunk
  past : List Chunk
  is_end : ending_status ending ≡ comes_to a bs
  is_done : past ≡ finishes a bs
  array : Array
  latch : Bool
  reached : Reaches (driver_start a bs) d (over ending unsent (record { chunks = past })) (flash array latch none)

finished : (a : ℕ) (bs : List ℕ) → AllBytes bs → (m : Array) (latch : Bool) (v : ℕ) (w r : List ℕ) → Up v → Finished a bs (device v [] [] w r (flash m latch none))
unfolding comes_to finishes driver_start
finished a bs h m latch v w r u = go (ltb 16777215 (a + length bs)) refl
  where
    go : (b : Bool) → ltb 16777215 (a + length bs) ≡ b → Finished a bs (device v [] [] w r (flash m latch none))
    go true e = record {
      ending = refuses OutOfRange;
      unsent = chunks a bs;
      past = [];
      is_end = rw e;
      is_done = rw e;
      array = m;
      latch = latch;
      reached = record { config = v; up = u; wire = w; left = r; leads = rw e nowhere };
    }
    go false e =
        let i : a + length bs ≤ 16777215 = ltb-false 16777215 (a + length bs) e in
        let x = ends_as (chunks a bs) (chunks_sound a bs h) (in_range a bs i) in
        let f = chunks_finish (chunks a bs) outset m latch v w r (chunks_sound a bs h) u in
        let y = f.reached in
        record {
          ending = ending_of (chunks a bs);
          unsent = left_of (chunks a bs);
          past = past_of (chunks a bs);
          is_end = rw e x.0;
          is_done = rw e x.1;
          array = f.array;
          latch = f.latch;
          reached = record { config = y.config; up = y.up; wire = y.wire; left = y.left; leads = rw e y.leads };
        }

module _ (a : ℕ) (bs : List ℕ) {d : Device} (f : Finished a bs d) where
  abbrev way_log : List Access
  way_log = f.reached.leads.log

  abbrev end_device : Device
  end_device = device f.reached.config [] [] f.reached.wire f.reached.left (flash f.array f.latch none)

  way_trace : Trace d way_log end_device
  way_trace = f.reached.leads.way.trace

  way_plays : Plays (begin (write_pages a bs) [] 0) way_log (state_of (over f.ending f.unsent (record { chunks = f.past })))
  way_plays = rw (start_is a bs) f.reached.leads.way.plays

  -- it is a run, with at least so much room and whatever replies more
  record Runs (r : Result) : Type 0 where
    is_log : r.log ≡ way_log
    answer : r.answer ≡ comes_to a bs
    count : count_in r.state ≡ total (finishes a bs)

  way_runs : (n : ℕ) (extra : List ℕ) → Runs (called (write_pages a bs) (length way_log + n) (replies_of way_log ++ extra))
  way_runs n extra =
      let ran = counting_logs (write_pages a bs) way_log (ending_status f.ending) [] [] (total f.past) way_plays n extra in
      let m = run_ended (length way_log + n) (begin (write_pages a bs) [] 0) (replies_of way_log ++ extra) in
      let s = m.is ∙ ap (after (begin (write_pages a bs) [] 0)) ran.0 ∙ plays_after way_plays in
      record { is_log = ran.0; answer = ran.1 ∙ f.is_end; count = ap count_in s ∙ ap total f.is_done }

  possible_by : Possible a bs d
  possible_by = record { replies = replies_of way_log; accesses = length way_log; comes = comes }
    where
      room-is : (room : ℕ) → length way_log ≤ room → length way_log + (room - length way_log) ≡ room
      room-is room i = omega arith

      comes : (room : ℕ) (extra : List ℕ) → length way_log ≤ room → Comes a bs d (called (write_pages a bs) room (replies_of way_log ++ extra))
      comes room extra i =
          let r = called (write_pages a bs) (length way_log + (room - length way_log)) (replies_of way_log ++ extra) in
          let x = way_runs (room - length way_log) extra in
          let c : Comes a bs d r = record { met = λ j. rw x.is_log (met_by j way_trace); answer = x.answer; count = x.count } in
          rw (room-is room i) at c

rested_up : {c : ℕ} → is_set 10 c ≡ true → is_set 14 c ≡ true → is_set 15 c ≡ true → is_set 16 c ≡ false → Up c
rested_up u₁₀ u₁₄ u₁₅ u₁₆ = record { up = u₁₀; unstarted = u₁₆; by_hand = both_true u₁₄ u₁₅ }

-- THEOREM. Of every call.
pub possible : (a : ℕ) (bs : List ℕ) → AllBytes bs → (old : Array) (before : Device) → Rests old before → Possible a bs before
possible a bs h old before (rests {c} {w} {r} {latch} u₁₀ u₁₄ u₁₅ u₁₆) = possible_by a bs (finished a bs h old latch c w r (rested_up u₁₀ u₁₄ u₁₅ u₁₆))

-- ---- rows

-- no call comes to 23 or 24
refusal_ends : (c : Chunk) (later : Status) (a : Status) → (later ≡ a → ⊥) → (NotAligned ≡ a → ⊥) → (CrossesPageBoundary ≡ a → ⊥) → unless_refused (refusal c) later ≡ a → ⊥
refusal_ends c later a l four five = go (fours_in c) (crosses_in c)
  where
    go : (x y : Bool) → unless_refused (refusal_by x y) later ≡ a → ⊥
    go false y e = four e
    go true true e = five e
    go true false e = l e

end_is : (l : List Chunk) (a : Status) → (Done ≡ a → ⊥) → (NotAligned ≡ a → ⊥) → (CrossesPageBoundary ≡ a → ⊥) → end_of l ≡ a → ⊥
unfolding end_of
end_is [] a d four five e = d e
end_is (c ∷ l) a d four five e = refusal_ends c (end_of l) a (end_is l a d four five) four five e

comes_otherwise : (a : ℕ) (bs : List ℕ) (z : Status) → (Done ≡ z → ⊥) → (OutOfRange ≡ z → ⊥) → (NotAligned ≡ z → ⊥) → (CrossesPageBoundary ≡ z → ⊥) → comes_to a bs ≡ z → ⊥
unfolding comes_to
comes_otherwise a bs z d one four five = go (ltb 16777215 (a + length bs))
  where
    go : (b : Bool) → cond b OutOfRange (end_of (chunks a bs)) ≡ z → ⊥
    go true e = one e
    go false e = end_is (chunks a bs) z d four five e

not_dry : (a : ℕ) (bs : List ℕ) → comes_to a bs ≡ RepliesEnded → ⊥
not_dry a bs = comes_otherwise a bs RepliesEnded (λ e. let y : ◌≡◌ {A = ℕ} 0 1 = cc in omega (arith, y)) (λ e. let y : ◌≡◌ {A = ℕ} 0 1 = cc in omega (arith, y)) (λ e. let y : ◌≡◌ {A = ℕ} 0 1 = cc in omega (arith, y)) (λ e. let y : ◌≡◌ {A = ℕ} 0 1 = cc in omega (arith, y))

not_full : (a : ℕ) (bs : List ℕ) → comes_to a bs ≡ LogFull → ⊥
not_full a bs = comes_otherwise a bs LogFull (λ e. let y : ◌≡◌ {A = ℕ} 0 1 = cc in omega (arith, y)) (λ e. let y : ◌≡◌ {A = ℕ} 0 1 = cc in omega (arith, y)) (λ e. let y : ◌≡◌ {A = ℕ} 0 1 = cc in omega (arith, y)) (λ e. let y : ◌≡◌ {A = ℕ} 0 1 = cc in omega (arith, y))

-- data of bytes
abbrev pub Octets : List (ℕ × List ℕ) → Type 0
Octets [] = Unit {0}
Octets (c ∷ calls) = ((i : ℕ) → get_or c.1 i 0 < 256) × Octets calls

-- a row with its trace to the end, as long as the device goes on
record Followed (calls : List (ℕ × List ℕ)) (d : Device) : Type 0 where
  row : List Save
  of_calls : map asks row ≡ calls
  precede : Each Precedes row
  answers : Each (λ c. c.answer ≡ comes_to c.address c.bytes) row
  counts : Each (λ c. c.count ≡ total (finishes c.address c.bytes)) row
  end : Device
  trace : Trace d (row_log row) end

followed : (calls : List (ℕ × List ℕ)) → Octets calls → (m : Array) (latch : Bool) (v : ℕ) (w r : List ℕ) → Up v → Followed calls (device v [] [] w r (flash m latch none))
unfolding row_log
followed [] h m latch v w r u = record { row = []; of_calls = refl; precede = tt; answers = tt; counts = tt; end = device v [] [] w r (flash m latch none); trace = still }
followed ((a, bs) ∷ calls) h m latch v w r u =
    let f = finished a bs (all_bytes bs h.0) m latch v w r u in
    let l = way_log a bs f in
    let z = way_runs a bs f 0 [] in
    let c = save_of a bs (called (write_pages a bs) (length l + 0) (replies_of l ++ [])) in
    let rest = followed calls h.1 f.array f.latch f.reached.config f.reached.wire f.reached.left f.reached.up in
    let runs : IsRun c = record { octets = h.0; room = length l + 0; replies = replies_of l ++ []; is = refl } in
    let first : Trace (device v [] [] w r (flash m latch none)) c.accesses (end_device a bs f) = rw z.is_log (way_trace a bs f) in
    record {
      row = c ∷ rest.row;
      of_calls = ap (λ (k : List (ℕ × List ℕ)). (a, bs) ∷ k) rest.of_calls;
      precede = (record { runs = runs; read = λ e. not_dry a bs (sym z.answer ∙ e); logged = λ e. not_full a bs (sym z.answer ∙ e) }, rest.precede);
      answers = (z.answer, rest.answers);
      counts = (z.count, rest.counts);
      end = rest.end;
      trace = trace_append first rest.trace;
    }

-- THEOREM. Of every row of calls.
pub possible_row : (calls : List (ℕ × List ℕ)) → Octets calls → (old : Array) (before : Device) → Rests old before → PossibleRow calls before
possible_row calls h old before (rests {c} {w} {r} {latch} u₁₀ u₁₄ u₁₅ u₁₆) =
    let x = followed calls h old latch c w r (rested_up u₁₀ u₁₄ u₁₅ u₁₆) in
    record { row = x.row; of_calls = x.of_calls; precede = x.precede; answers = x.answers; counts = x.counts; met = λ k. met_by k x.trace }

-- THEOREM. Such a row is one that the power-cut statement is promised of.
pub precede_row : (row : List Save) → Each Precedes row → Row row
precede_row [] h = empty
precede_row (c ∷ row) h = more h.0 (precede_row row h.1)
