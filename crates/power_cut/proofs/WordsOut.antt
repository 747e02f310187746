-- At every rising chip select of every run no word waits or is going out: each transfer of each call that sends takes a reply for each of its
-- words, and a reply comes only with a word that is out. Kept by every access and by everything silent. Assumes nothing.
use mathlib.Core.Path.{◌≡◌, refl, ap, subst, ◌∙◌, sym}
use mathlib.Core.Bool.{Bool, true, false, ◌||◌}
use mathlib.Core.Logic.{◌⊎◌, inl, inr}
use mathlib.Core.List.{List, [], ◌∷◌, ◌++◌, reverse}
use Prim.Native.Nat.{ℕ, zero, suc, ◌+◌, ◌%◌, min}
use native.Mathlib.Omega.{arith}
use lib.Dec.{ltb, eqb}
use lib.ListN.{length, take}
use Rattle.std.proofs.lemmas.Bool.{and_parts}
use borrow.Author.Tests.{eqb-true}
use Rattle.zynq7000.specs.Access.{value_word}
use Rattle.zynq7000.specs.Bits.{is_set}
use Rattle.zynq7000.specs.declared.qspi.Access.{Access}
use Rattle.zedboard_bsp.specs.Limits.{last_end, sector_size, longest_list, max_data_bytes_per_write, page_size, largest_chunk, address_span}
use Rattle.zedboard_bsp.specs.Registers.{update_needed}
use Rattle.qspi_script.specs.declared.Status.{Status}
use Rattle.qspi_script.specs.declared.Status.TheVariants.{RepliesEnded, LogFull}
use Rattle.qspi_operation.specs.Machine.{drain, nothing, want_at, Transfer, Script, ends, perform, repeats, counts, State, ended, onward, begin, want, next, called, Matches, m_write, Makes, after}
use Rattle.qspi_operation.specs.Machine as machine
use Rattle.qspi_operation.proofs.Orders.{run_ended}
use Rattle.qspi_operation.proofs.Stops.{some_due, Stop, stopped}
use Rattle.qspi_operation.proofs.Stops as stop
use Rattle.std.specs.Prelude.{Option, Some, None}
use Rattle.qspi_calls.specs.Chunks.{Chunk, chunks}
use Rattle.qspi_calls.specs.Sectors.{first_refused, first_repeat}
use Rattle.qspi_calls.specs.Calls as call
use Rattle.qspi_calls.proofs.Phases.{words}
use Rattle.qspi_calls.proofs.Registers.{Call}
use Rattle.zynq7000_hal.specs.declared.qspi.ClockConfig.{ClockConfig}
use Rattle.qspi_calls.proofs.ReadCalls.{length_zeros}
use Rattle.qspi_calls.proofs.ProgramWords.{length_words}
use Rattle.power_cut.specs.Flash.{Array, Flash}
use Rattle.power_cut.specs.Controller.{tx, register_at, Device, device, Silent, out, unasked, idle, after_write, effect, Gives, Trace, still, quiet, step, raises, words_left, AllOut, Rests, rests}
use Rattle.power_cut.specs.WordsOut.{Sends, write_enable, write_disable, clear_status, read_status, read_config, read_id, read_long_id, write_status, write_registers, new, set_write_protection, erase_sector, erase_sectors, program, write_pages_call, read, AtRest, at_rest, RowOf, last, more, WordsOut}
use Rattle.power_cut.proofs.Driver.{Phase, draining, midway, action, in_transfer_of, transfer_next_of}
use Rattle.power_cut.proofs.SectorDriver.{Next, the_last, goes_on, next_of}
use Rattle.std.specs.Cmp.Derive.{both_true}
use Rattle.power_cut.proofs.Control.{Up, Held, held, c_drain, c_leave, clash, accessed, none_at_rise, goes_out, by_hand}
use Rattle.power_cut.proofs.Theorem.{follows_take}

-- ---- scripts that take a reply for each word

-- a transfer: its port is a TX register, and it takes as many replies as it has words
pub record ReplyEach (x : Transfer) : Type 0 where
  pub width : ℕ
  pub port_is : register_at x.port ≡ tx width
  pub each : x.replies ≡ length (words x)

-- a script of such transfers, whatever the replies decide
pub data Replied : Script → Type 0 where
  at_end : {a : Status} {vs : List ℕ} → Replied (ends a vs)
  once : {x : Transfer} {brings : List ℕ → List ℕ} {k : List ℕ → Script} → ReplyEach x → ((rs : List ℕ) → Replied (k rs)) → Replied (perform drain (machine.opening x) brings k)
  again : {x : Transfer} {still : List ℕ → Bool} {k : List ℕ → Script} → ReplyEach x → ((rs : List ℕ) → Replied (k rs)) → Replied (repeats drain (machine.opening x) still k)
  counted : {j : ℕ} {s : Script} → Replied s → Replied (counts j s)

either : {s t : Script} (b : Bool) → Replied s → Replied t → Replied (onward b s t)
either true p q = p
either false p q = q

-- where the test itself is needed
where_so : {s t : Script} (b : Bool) → (b ≡ true → Replied s) → Replied t → Replied (onward b s t)
where_so true p q = p refl
where_so false p q = q

-- ---- where a call stands, and what the device holds there

-- nothing is asked of a reply
abbrev Any : ℕ → Type 0
Any v = Unit {0}

data Stands : State → Device → Type 0 where
  during : {x : Transfer} {p : Phase} {taken : List ℕ} {brings : List ℕ → List ℕ} {k : List ℕ → Script} {bs : List ℕ} {n : ℕ} {f : Flash} {d : Device}
      → (y : ReplyEach x) → ((rs : List ℕ) → Replied (k rs)) → Held Any y.width x p taken f d → Stands (in_transfer_of x p taken brings k bs n) d
  over : {a : Status} {vs bs : List ℕ} {n : ℕ} {d : Device} → AtRest d → Stands (ended a vs bs n) d

rested : {c : ℕ} {w r : List ℕ} {f : Flash} → Up c → AtRest (device c [] [] w r f)
rested {c} u = let y = and_parts (is_set 14 c) (is_set 15 c) u.by_hand in at_rest u.up y.0 y.1 u.unstarted

opens : {x : Transfer} {brings : List ℕ → List ℕ} {k : List ℕ → Script} {bs : List ℕ} {n : ℕ} {d : Device} → ReplyEach x → ((rs : List ℕ) → Replied (k rs)) → AtRest d → Stands (in_transfer_of x draining [] brings k bs n) d
opens y q (at_rest b₁₀ b₁₄ b₁₅ b₁₆) = during y q (held (c_drain (record { up = b₁₀; unstarted = b₁₆; by_hand = both_true b₁₄ b₁₅ })))

begins : {s : Script} {d : Device} → Replied s → AtRest d → (bs : List ℕ) (n : ℕ) → Stands (begin s bs n) d
begins at_end h bs n = over h
begins (once y q) h bs n = opens y q h
begins (again {still = more_of} y q) h bs n = opens y (λ rs. either (more_of rs) (again y q) (q rs)) h
begins (counted {j = j} q) h bs n = begins q h bs (n + j)

-- what happens between accesses
silent : {s : State} {d e : Device} → Stands s d → Silent d e → Stands s e
silent (during {x = x} {f = f} y q (held k)) (out v h) = during y q (held (goes_out Any y.width x f (λ c n v b t w r e l z. tt) k h))
silent (during {x = x} {f = f} y q (held k)) (unasked h) = clash (by_hand Any y.width x f k) h
silent (during y q (held k)) (idle h) = during y q (held k)
silent (over (at_rest b₁₀ b₁₄ b₁₅ b₁₆)) (unasked h) = clash (both_true b₁₄ b₁₅) h
silent (over (at_rest b₁₀ b₁₄ b₁₅ b₁₆)) (idle h) = over (at_rest b₁₀ b₁₄ b₁₅ b₁₆)

-- an access
module _ {x : Transfer} {taken : List ℕ} (brings : List ℕ → List ℕ) {k : List ℕ → Script} (bs : List ℕ) (n : ℕ) {f : Flash} (y : ReplyEach x) (q : (rs : List ℕ) → Replied (k rs)) where
  goes : {p : Phase} {d : Device} {a : Access} → Next p → Held Any y.width x p taken f d → Matches (want_at (midway p) (action x p)) a → Gives d a → Stands (next (in_transfer_of x p taken brings k bs n) (value_word a)) (effect d a)
  unfolding effect after_write register_at
  goes the_last (held (c_leave u z)) m_write g = begins (q (reverse taken)) (rested u) (bs ++ brings (reverse taken)) n
  goes {p} {a = a} (goes_on e) (held c) m g = rw (transfer_next_of x brings k bs n p taken (value_word a) e) (during y q (accessed Any y.width x f y.port_is y.each c m g))

advance : {s : State} {d : Device} {a : Access} → Stands s d → Matches (want s) a → Gives d a → Stands (next s (value_word a)) (effect d a)
advance (during {p = p} {brings = brings} {bs = bs} {n = n} y q h) m g = goes brings bs n y q (next_of p) h m g
advance {d = d} (over {a = a} {vs = vs} {bs = bs} {n = n} _) m g = elim m [ ]

none_left : {s : State} {d : Device} {a : Access} → Stands s d → Matches (want s) a → raises d a ≡ true → words_left d ≡ []
none_left (during {x = x} {f = f} y q h) m r = none_at_rise Any y.width x f y.port_is h m r
none_left {d = d} (over {a = a} {vs = vs} {bs = bs} {n = n} _) m r = elim m [ ]

-- where nothing is due, the controller is at rest
at_the_end : {s : State} {d : Device} → Stands s d → want s ≡ nothing → AtRest d
at_the_end (during {x = x} {p = p} y q h) e = absurd (some_due (midway p) (action x p) e)
at_the_end (over h) e = h

-- ---- along a trace

along : {l : List Access} {s : State} {d e : Device} → Stands s d → Makes s l → (t : Trace d l e) → AllOut t × Stands (after s l) e
unfolding AllOut
along y f still = (tt, y)
along y f (quiet z t) = along (silent y z) f t
along y f (step g t) = let r = along (advance y f.0 g) f.1 t in ((none_left y f.0, r.0), r.1)

-- a trace over two logs, one behind the other, is one over each
pub record Seam (l m : List Access) {z : List Access} {d e : Device} (t : Trace d z e) : Type 0 where
  pub middle : Device
  pub front : Trace d l middle
  pub back : Trace middle m e
  pub joins : AllOut front → AllOut back → AllOut t
  pub both_out : AllOut t → AllOut front × AllOut back

seam_on : (a : Access) (l m z : List Access) → ((d e : Device) (t : Trace d z e) → Seam l m t) → {d e : Device} (t : Trace d (a ∷ z) e) → Seam (a ∷ l) m t
unfolding AllOut
seam_on a l m z k (quiet y t) = let r = seam_on a l m z k t in record { middle = r.middle; front = quiet y r.front; back = r.back; joins = r.joins; both_out = r.both_out }
seam_on a l m z k (step g t) = let r = k _ _ t in record { middle = r.middle; front = step g r.front; back = r.back; joins = λ h i. (h.0, r.joins h.1 i); both_out = λ h. (let p = r.both_out h.1 in ((h.0, p.0), p.1)) }

pub seam : (l m : List Access) {d e : Device} (t : Trace d (l ++ m) e) → Seam l m t
unfolding AllOut
seam [] m {d} t = record { middle = d; front = still; back = t; joins = λ h i. i; both_out = λ h. (tt, h) }
seam (a ∷ l) m t = seam_on a l m (l ++ m) (λ d e u. seam l m u) t

module _ {Call : Script → Type 0} (h : (s : Script) → Call s → Replied s) where
  rows : {l : List Access} {z : State} {d e : Device} → RowOf Call l z → AtRest d → (t : Trace d l e) → AllOut t × (want z ≡ nothing → AtRest e)
  rows (last {s} c f) y t = let r = along (begins (h s c) y [] 0) f t in (r.0, λ i. at_the_end r.1 i)
  rows (more {s} l {m} c f i w) y t =
      let b = seam l m t in
      let r = along (begins (h s c) y [] 0) f b.front in
      let q = rows w (at_the_end r.1 i) b.back in
      (b.joins r.0 q.0, q.1)

  -- THEOREM. Of calls that take a reply for each word: at every rising chip select of every row of them no word waits or is going out, and
  -- once the last call has ended the controller is at rest again.
  pub words_out_of : WordsOut Call
  words_out_of = record { at_each_rise = λ w y t. (rows w y t).0; rests_again = λ w i y t. (rows w y t).1 i }

-- ---- the transfers of the calls

-- of one word and one reply
short_each : (port word width : ℕ) → register_at port ≡ tx width → ReplyEach (call.short port word)
short_each port word width e = record { width = width; port_is = e; each = refl }

reading_each : (fast dummy : Bool) (a n : ℕ) → ReplyEach (call.reading fast dummy a n)
unfolding register_at
reading_each fast dummy a n = record { width = 4; port_is = refl; each = ap suc (sym (length_zeros (call.zero_words dummy n))) }

long_id_each : ReplyEach call.long_id_reading
unfolding register_at
long_id_each = record { width = 4; port_is = refl; each = refl }

-- the test of `program` sees to it that its words hold all bytes
programming_each : (a : ℕ) (bs : List ℕ) → length bs % 4 ≡ 0 → ReplyEach (call.programming a bs)
unfolding register_at
programming_each a bs h = record { width = 4; port_is = refl; each = omega (arith, length_words bs h) }

-- through the registers of one, two, three and four bytes
one_byte : (word : ℕ) → ReplyEach (call.short 0x80 word)
unfolding register_at
one_byte word = short_each 0x80 word 1 refl

two_bytes : (word : ℕ) → ReplyEach (call.short 0x84 word)
unfolding register_at
two_bytes word = short_each 0x84 word 2 refl

three_bytes : (word : ℕ) → ReplyEach (call.short 0x88 word)
unfolding register_at
three_bytes word = short_each 0x88 word 3 refl

four_bytes : (word : ℕ) → ReplyEach (call.short 0x1C word)
unfolding register_at
four_bytes word = short_each 0x1C word 4 refl

-- ---- the calls' parts

enabled_then_lem : {x : Transfer} → ReplyEach x → Replied (call.enabled_then x)
enabled_then_lem y = once (one_byte _) (λ rs. once y (λ rs. at_end))

writes_both : (sr cr : ℕ) → Replied (call.write_registers sr cr)
writes_both sr cr = enabled_then_lem (three_bytes _)

configures : (quad setLatency : Bool) (latency : ℕ) (clear : Bool) → Replied (call.configuring quad setLatency latency clear)
configures quad setLatency latency clear =
    once (two_bytes _) (λ cs. once (two_bytes _) (λ ss. either (update_needed quad setLatency latency clear (call.top cs) (call.top ss)) (writes_both _ _) at_end))

new_with_lem : (quad setLatency : Bool) (latency : ℕ) (clear : Bool) → Replied (call.new_with quad setLatency latency clear)
new_with_lem quad setLatency latency clear =
    either (ltb 3 latency) at_end (once (one_byte _) (λ rs. either (quad || (setLatency || clear)) (configures quad setLatency latency clear) at_end))

new_latency_lem : (l : Option ℕ) (quad clear : Bool) → Replied (call.new_latency l quad clear)
new_latency_lem None quad clear = new_with_lem quad false 0 clear
new_latency_lem (Some c) quad clear = new_with_lem quad true c clear

works : (bit : ℕ) (failure : Status) {x : Transfer} {then : Script} → ReplyEach x → Replied then → Replied (call.working bit failure x then)
works bit failure y q =
    once (one_byte _) (λ rs. once y (λ rs. again (two_bytes _) (λ rs. either (is_set bit (call.top rs)) (once (one_byte _) (λ rs. once (one_byte _) (λ rs. at_end))) q)))

sectors : (l : List ℕ) → Replied (call.sectors l)
sectors [] = at_end
sectors (a ∷ l) = works 5 _ (four_bytes _) (counted (sectors l))

programs : (a : ℕ) (bs : List ℕ) {then : Script} → Replied then → Replied (call.program_then a bs then)
programs a bs q =
    either (ltb last_end (a + length bs)) at_end
    (either (ltb max_data_bytes_per_write (length bs)) at_end
    (where_so (eqb (length bs % 4) 0)
    (λ e. either (ltb page_size (a % page_size + length bs)) at_end (works 6 _ (programming_each a bs (eqb-true (length bs % 4) 0 e)) q))
    at_end))

pages : (l : List Chunk) → Replied (call.pages l)
pages [] = at_end
pages (c ∷ l) = programs c.address c.bytes (counted (pages l))

reads_from : (n : ℕ) (fast dummy : Bool) (a left : ℕ) → Replied (call.read_from n fast dummy a left)
reads_from zero fast dummy a left = at_end
reads_from (suc n) fast dummy a zero = at_end
reads_from (suc n) fast dummy a (suc left) = once (reading_each fast dummy a (min (suc left) (largest_chunk dummy))) (λ rs. reads_from n fast dummy _ _)

-- ---- the calls

-- THEOREM. Every call that sends takes a reply for each word of each of its transfers.
pub calls_replied : {s : Script} → Sends s → Replied s
calls_replied write_enable = once (one_byte _) (λ rs. at_end)
calls_replied write_disable = once (one_byte _) (λ rs. at_end)
calls_replied clear_status = once (one_byte _) (λ rs. at_end)
calls_replied read_status = once (two_bytes _) (λ rs. at_end)
calls_replied read_config = once (two_bytes _) (λ rs. at_end)
calls_replied read_id = once (four_bytes _) (λ rs. at_end)
calls_replied read_long_id = once long_id_each (λ rs. at_end)
calls_replied (write_status sr) = enabled_then_lem (two_bytes _)
calls_replied (write_registers sr cr) = writes_both sr cr
calls_replied (new c) = new_latency_lem c.latency_config c.set_quad_bit_if_necessary c.clear_write_protection
calls_replied (set_write_protection p) = either (ltb 7 p) at_end (once (two_bytes _) (λ ss. once (two_bytes _) (λ cs. writes_both _ _)))
calls_replied (erase_sector a) = either (ltb last_end (a + sector_size)) at_end (either (eqb (a % sector_size) 0) (works 5 _ (four_bytes _) at_end) at_end)
calls_replied (erase_sectors l) =
    either (ltb longest_list (length l)) at_end (either (ltb (first_refused l) (length l)) at_end (either (ltb (first_repeat [] l) (length l)) at_end (sectors l)))
calls_replied (program a bs) = programs a bs at_end
calls_replied (write_pages_call a bs) = either (ltb last_end (a + length bs)) at_end (pages (chunks a bs))
calls_replied (read fast dummy a n) = either (ltb address_span (a + n)) at_end (reads_from n fast dummy a n)

-- THEOREM. So it is of every row of calls that send: of every call of the flash, whatever its arguments and the replies.
pub words_out : WordsOut Sends
words_out = words_out_of (λ s c. calls_replied c)

-- ---- what the claim covers

-- the calls that send nothing
pub data SendsNothing : Script → Type 0 where
  initialize : (c : ClockConfig) (phase polarity : Bool) → SendsNothing (call.initialize c phase polarity)
  enable_linear_addressing : (word : ℕ) → SendsNothing (call.enable_linear_addressing word)
  enable_io_mode : (dual : Bool) → SendsNothing (call.enable_io_mode dual)
  disable : SendsNothing call.disable

-- THEOREM. Every other call of 01 is covered. The list of sectors (document 02, U1) is a case of `Sends` too.
pub all_that_send : {s : Script} → Call s → Sends s ⊎ SendsNothing s
all_that_send Call.write_enable = inl write_enable
all_that_send Call.write_disable = inl write_disable
all_that_send Call.clear_status = inl clear_status
all_that_send Call.read_status = inl read_status
all_that_send Call.read_config = inl read_config
all_that_send Call.read_id = inl read_id
all_that_send Call.read_long_id = inl read_long_id
all_that_send (Call.write_status sr) = inl (write_status sr)
all_that_send (Call.write_registers sr cr) = inl (write_registers sr cr)
all_that_send (Call.new c) = inl (new c)
all_that_send (Call.set_write_protection p) = inl (set_write_protection p)
all_that_send (Call.erase_sector a) = inl (erase_sector a)
all_that_send (Call.program a bs) = inl (program a bs)
all_that_send (Call.write_pages_call a bs) = inl (write_pages_call a bs)
all_that_send (Call.read fast dummy a n) = inl (read fast dummy a n)
all_that_send (Call.initialize c phase polarity) = inr (initialize c phase polarity)
all_that_send (Call.enable_linear_addressing word) = inr (enable_linear_addressing word)
all_that_send (Call.enable_io_mode dual) = inr (enable_io_mode dual)
all_that_send Call.disable = inr disable

-- after calls that have ended, others find the controller at rest
pub and_again : {C : Script → Type 0} → WordsOut C → {l m : List Access} {y z : State} {d e g : Device} → RowOf C l z → want z ≡ nothing → RowOf C m y → AtRest d → Trace d l e → (t : Trace e m g) → AllOut t
and_again o r n s h u t = o.at_each_rise s (o.rests_again r n h u) t

-- a device that rests as the power-cut statement has it
pub rests_so : {m : Array} {d : Device} → Rests m d → AtRest d
rests_so (rests b₁₀ b₁₄ b₁₅ b₁₆) = at_rest b₁₀ b₁₄ b₁₅ b₁₆

-- two logs, one behind the other, cut after k accesses
data CutAt (k : ℕ) (l m : List Access) : Type 0 where
  within : take k (l ++ m) ≡ take k l → CutAt k l m
  beyond : (j : ℕ) → take k (l ++ m) ≡ l ++ take j m → CutAt k l m

cut_more : (a : Access) {k : ℕ} {l m : List Access} → CutAt k l m → CutAt (suc k) (a ∷ l) m
cut_more a (within e) = within (ap (λ (z : List Access). a ∷ z) e)
cut_more a (beyond j e) = beyond j (ap (λ (z : List Access). a ∷ z) e)

cut_at : (k : ℕ) (l m : List Access) → CutAt k l m
cut_at k [] m = beyond k refl
cut_at zero (a ∷ l) m = within refl
cut_at (suc k) (a ∷ l) m = cut_more a (cut_at k l m)

-- a run that neither 23 nor 24 ended has nothing due
pub run_over : (s : Script) (room : ℕ) (replies : List ℕ) → ((called s room replies).answer ≡ RepliesEnded → ⊥) → ((called s room replies).answer ≡ LogFull → ⊥) → want (called s room replies).state ≡ nothing
run_over s room replies h i = over_by (stopped s room replies)
  where
    over_by : Stop (called s room replies) → want (called s room replies).state ≡ nothing
    over_by (stop.at_end e f) = e
    over_by (stop.no_room_left e f g) = absurd (i g)
    over_by (stop.no_reply o e f g j) = absurd (h j)

module _ {Call : Script → Type 0} (s : Script) (c : Call s) where
  -- a run, with room for so many accesses, over these replies
  pub run_last : (room : ℕ) (replies : List ℕ) → RowOf Call (called s room replies).log (called s room replies).state
  run_last room replies = let y = run_ended room (begin s [] 0) replies in subst (RowOf Call (called s room replies).log) (sym y.is) (last c y.makes)

  -- before others
  pub run_more : (room : ℕ) (replies : List ℕ) → ((called s room replies).answer ≡ RepliesEnded → ⊥) → ((called s room replies).answer ≡ LogFull → ⊥) → {m : List Access} {z : State} → RowOf Call m z → RowOf Call ((called s room replies).log ++ m) z
  run_more room replies h i w = let y = run_ended room (begin s [] 0) replies in more (called s room replies).log c y.makes (ap want (sym y.is) ∙ run_over s room replies h i) w

  cut_first : {l m : List Access} (k : ℕ) → CutAt k l m → Makes (begin s [] 0) l → want (after (begin s [] 0) l) ≡ nothing → ((j : ℕ) → (y : State) × RowOf Call (take j m) y) → (y : State) × RowOf Call (take k (l ++ m)) y
  cut_first {l} k (within e) f i w = rw e (_, last c (follows_take k (begin s [] 0) l f))
  cut_first {l} k (beyond j e) f i w = rw e ((w j).0, more l c f i (w j).1)

-- THEOREM. A row that is cut after any number of its accesses is a row, so that the claim holds at every cut point over the whole row.
pub cut_row : {Call : Script → Type 0} {l : List Access} {z : State} (k : ℕ) → RowOf Call l z → (y : State) × RowOf Call (take k l) y
cut_row k (last {s} {l} c f) = (_, last c (follows_take k (begin s [] 0) l f))
cut_row k (more {s} l {m} c f i w) = cut_first s c k (cut_at k l m) f i (λ j. cut_row j w)
