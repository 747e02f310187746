-- The states of a run of `write_pages` over lists, by name: the stage of a chunk, the phase of its transfer, the chunks left and done. A state
-- of the list machine holds what comes next as a function; here it can be taken apart. Assumes nothing.
use mathlib.Core.Path.{◌≡◌, refl, ap, ◌∙◌, sym}
use mathlib.Core.Bool.{Bool, true, false, not, ◌&&◌, cond, true≢false}
use mathlib.Core.List.{List, [], ◌∷◌, ◌++◌, map, reverse}
use Prim.Native.Nat.{ℕ, zero, suc, ◌+◌, ◌%◌}
use native.Mathlib.Omega.{arith}
use lib.Dec.{ltb, eqb}
use lib.ListN.{length}
use Rattle.zynq7000.specs.Bits.{is_set}
use Rattle.qspi_transfer.specs.Wire.{waits}
use Rattle.qspi_transfer.specs.LowLevel.{chip_select_high, chip_select_low, started}
use Rattle.qspi_script.specs.declared.Status.{Status}
use Rattle.qspi_script.specs.declared.Status.TheVariants.{Done, OutOfRange, DataTooLarge, NotAligned, CrossesPageBoundary, ProgrammingErrorBitSet}
use Rattle.qspi_calls.specs.Chunks.{Chunk, chunks}
use Rattle.qspi_operation.specs.Machine as machine
use Rattle.qspi_operation.specs.Machine.{Action, write, modify, drain, reply, Midway, first, changed, ready, stays, Transfer, replicate, replying, Script, counts, exchange, State, going, ended, onward, begin, moves, next}
use Rattle.qspi_calls.specs.Calls.{enabling, disabling, clearing, status_reading, programming, top, refused, failing, settling, working, pages, write_pages}
use Rattle.qspi_calls.proofs.Phases.{words}
use Rattle.power_cut.specs.Statement.{total}

-- ---- a transfer

pub data Phase : Type 0 where
  draining dropping opening : Phase
  lowering : ℕ → Phase  -- config as read
  switching : Phase
  sending : List ℕ → ℕ → List ℕ → Phase  -- words sent, the word due, words left
  starting : Phase
  releasing : ℕ → Phase
  waiting again taking : ℕ → Phase  -- one less than the replies still to take
  closing : Phase
  raising : ℕ → Phase
  leaving : Phase

abbrev pub midway : Phase → Midway
midway draining = first
midway dropping = machine.full
midway opening = first
midway (lowering v) = changed (chip_select_low v)
midway switching = first
midway (sending q w l) = first
midway starting = first
midway (releasing v) = changed (started v)
midway (waiting n) = first
midway (again n) = machine.again
midway (taking n) = ready
midway closing = first
midway (raising v) = changed (chip_select_high v)
midway leaving = first

abbrev pub action : Transfer → Phase → Action
action x draining = drain
action x dropping = drain
action x opening = modify chip_select_low
action x (lowering v) = modify chip_select_low
action x switching = write 0x14 1
action x (sending q w l) = write x.port w
action x starting = modify started
action x (releasing v) = modify started
action x (waiting n) = reply x.twice
action x (again n) = reply x.twice
action x (taking n) = reply x.twice
action x closing = modify chip_select_high
action x (raising v) = modify chip_select_high
action x leaving = write 0x14 0

abbrev pub actions : Transfer → Phase → List Action
actions x draining = machine.opening x
actions x dropping = machine.opening x
actions x opening = write 0x14 1 ∷ map (write x.port) (words x) ++ replying x
actions x (lowering v) = write 0x14 1 ∷ map (write x.port) (words x) ++ replying x
actions x switching = map (write x.port) (words x) ++ replying x
actions x (sending q w l) = map (write x.port) l ++ replying x
actions x starting = replicate x.replies (reply x.twice) ++ machine.closing
actions x (releasing v) = replicate x.replies (reply x.twice) ++ machine.closing
actions x (waiting n) = replicate n (reply x.twice) ++ machine.closing
actions x (again n) = replicate n (reply x.twice) ++ machine.closing
actions x (taking n) = replicate n (reply x.twice) ++ machine.closing
actions x closing = write 0x14 0 ∷ []
actions x (raising v) = write 0x14 0 ∷ []
actions x leaving = []

abbrev pub send_next : List ℕ → List ℕ → Phase
send_next q [] = starting
send_next q (w ∷ l) = sending q w l

abbrev pub take_next : ℕ → Phase
take_next zero = closing
take_next (suc n) = waiting n

-- after an access of a value; nothing comes after the last
unfoldable pub phase_after : Transfer → Phase → ℕ → Phase
phase_after x draining v = cond (waits v) dropping opening
phase_after x dropping v = draining
phase_after x opening v = lowering v
phase_after x (lowering c) v = switching
phase_after x switching v = sending [] x.command x.further
phase_after x (sending q w l) v = send_next (q ++ w ∷ []) l
phase_after x starting v = releasing v
phase_after x (releasing c) v = take_next x.replies
phase_after x (waiting n) v = cond (waits v) (cond x.twice (again n) (taking n)) (waiting n)
phase_after x (again n) v = cond (waits v) (taking n) (waiting n)
phase_after x (taking n) v = take_next n
phase_after x closing v = raising v
phase_after x (raising c) v = leaving
phase_after x leaving v = leaving

abbrev pub taken_after : Phase → List ℕ → ℕ → List ℕ
taken_after draining taken v = taken
taken_after dropping taken v = taken
taken_after opening taken v = taken
taken_after (lowering c) taken v = taken
taken_after switching taken v = taken
taken_after (sending q w l) taken v = taken
taken_after starting taken v = taken
taken_after (releasing c) taken v = taken
taken_after (waiting n) taken v = taken
taken_after (again n) taken v = taken
taken_after (taking n) taken v = v ∷ taken
taken_after closing taken v = taken
taken_after (raising c) taken v = taken
taken_after leaving taken v = taken

abbrev pub is_last : Phase → Bool
is_last draining = false
is_last dropping = false
is_last opening = false
is_last (lowering c) = false
is_last switching = false
is_last (sending q w l) = false
is_last starting = false
is_last (releasing c) = false
is_last (waiting n) = false
is_last (again n) = false
is_last (taking n) = false
is_last closing = false
is_last (raising c) = false
is_last leaving = true

-- with what the replies bring, what they decide, the bytes brought before and the count
abbrev pub in_transfer_of : Transfer → Phase → List ℕ → (List ℕ → List ℕ) → (List ℕ → Script) → List ℕ → ℕ → State
in_transfer_of x p taken brings k bs n = going (midway p) (action x p) (actions x p) taken brings k bs n

-- of a transfer that brings nothing, as all of `write_pages`
abbrev pub in_transfer : Transfer → Phase → List ℕ → (List ℕ → Script) → ℕ → State
in_transfer x p taken k n = in_transfer_of x p taken machine.none k [] n

module _ (x : Transfer) (brings : List ℕ → List ℕ) (k : List ℕ → Script) (bs : List ℕ) (n : ℕ) where
  drained : (b : Bool) (taken : List ℕ) → moves (cond b (stays machine.full) machine.over) drain (machine.opening x) taken brings k bs n ≡ in_transfer_of x (cond b dropping opening) taken brings k bs n
  drained true taken = refl
  drained false taken = refl

  sent : (q l taken : List ℕ) → machine.proceed (map (write x.port) l ++ replying x) taken brings k bs n ≡ in_transfer_of x (send_next q l) taken brings k bs n
  sent q [] taken = refl
  sent q (w ∷ l) taken = refl

  to_take : (m : ℕ) (taken : List ℕ) → machine.proceed (replicate m (reply x.twice) ++ machine.closing) taken brings k bs n ≡ in_transfer_of x (take_next m) taken brings k bs n
  to_take zero taken = refl
  to_take (suc m) taken = refl

  polled : (b t : Bool) (m : ℕ) (taken : List ℕ) → moves (cond b (stays (cond t machine.again ready)) (stays first)) (reply x.twice) (replicate m (reply x.twice) ++ machine.closing) taken brings k bs n
      ≡ in_transfer_of x (cond b (cond t (again m) (taking m)) (waiting m)) taken brings k bs n
  polled true true m taken = refl
  polled true false m taken = refl
  polled false t m taken = refl

  polled_again : (b : Bool) (m : ℕ) (taken : List ℕ) → moves (cond b (stays ready) (stays first)) (reply x.twice) (replicate m (reply x.twice) ++ machine.closing) taken brings k bs n
      ≡ in_transfer_of x (cond b (taking m) (waiting m)) taken brings k bs n
  polled_again true m taken = refl
  polled_again false m taken = refl

  pub transfer_next_of : (p : Phase) (taken : List ℕ) (v : ℕ) → is_last p ≡ false → next (in_transfer_of x p taken brings k bs n) v ≡ in_transfer_of x (phase_after x p v) (taken_after p taken v) brings k bs n
  unfolding phase_after
  transfer_next_of draining taken v e = drained (waits v) taken
  transfer_next_of dropping taken v e = refl
  transfer_next_of opening taken v e = refl
  transfer_next_of (lowering c) taken v e = refl
  transfer_next_of switching taken v e = refl
  transfer_next_of (sending q w l) taken v e = sent (q ++ w ∷ []) l taken
  transfer_next_of starting taken v e = refl
  transfer_next_of (releasing c) taken v e = to_take x.replies taken
  transfer_next_of (waiting m) taken v e = polled (waits v) x.twice m taken
  transfer_next_of (again m) taken v e = polled_again (waits v) m taken
  transfer_next_of (taking m) taken v e = to_take m (v ∷ taken)
  transfer_next_of closing taken v e = refl
  transfer_next_of (raising c) taken v e = refl
  transfer_next_of leaving taken v e = absurd (true≢false e)

pub transfer_next : (x : Transfer) (k : List ℕ → Script) (n : ℕ) (p : Phase) (taken : List ℕ) (v : ℕ) → is_last p ≡ false → next (in_transfer x p taken k n) v ≡ in_transfer x (phase_after x p v) (taken_after p taken v) k n
transfer_next x k n = transfer_next_of x machine.none k [] n

-- ---- a chunk

pub data Stage : Type 0 where
  enables programs polls clears disables : Stage

abbrev pub transfer_of : Stage → Chunk → Transfer
transfer_of enables c = enabling
transfer_of programs c = programming c.address c.bytes
transfer_of polls c = status_reading
transfer_of clears c = clearing
transfer_of disables c = disabling

-- what comes once a chunk is programmed
abbrev pub rest : Chunk → List Chunk → Script
rest c l = counts (length c.bytes) (pages l)

abbrev pub settle : Chunk → List Chunk → Script
settle c l = settling 6 ProgrammingErrorBitSet (rest c l)

abbrev pub then_of : Stage → Chunk → List Chunk → List ℕ → Script
then_of enables c l rs = exchange (programming c.address c.bytes) (λ rs. settle c l)
then_of programs c l rs = settle c l
then_of polls c l rs = onward (not (is_set 6 (top rs)) && is_set 0 (top rs)) (settle c l) (onward (is_set 6 (top rs)) (failing ProgrammingErrorBitSet) (rest c l))
then_of clears c l rs = exchange disabling (λ rs. refused ProgrammingErrorBitSet)
then_of disables c l rs = refused ProgrammingErrorBitSet

pub data Ending : Type 0 where
  succeeded failed : Ending
  refuses : Status → Ending

abbrev pub ending_status : Ending → Status
ending_status succeeded = Done
ending_status failed = ProgrammingErrorBitSet
ending_status (refuses a) = a

-- ---- a call

-- what is behind it: the chunks done
pub record Past : Type 0 where
  pub chunks : List Chunk

abbrev pub outset : Past
outset = record { chunks = [] }

-- one more is done
abbrev pub joined : Past → Chunk → Past
joined k c = record { chunks = k.chunks ++ c ∷ [] }

pub data Driver : Type 0 where
  -- stage, phase, replies taken of the transfer (the newest first), chunk at hand, chunks left, what is behind
  at : Stage → Phase → List ℕ → Chunk → List Chunk → Past → Driver
  over : Ending → List Chunk → Past → Driver  -- chunks left, what is behind

abbrev pub state_of : Driver → State
state_of (at s p taken c l k) = in_transfer (transfer_of s c) p taken (then_of s c l) (total k.chunks)
state_of (over e l k) = ended (ending_status e) [] [] (total k.chunks)

-- the tests of `program`, in its order
pub data Verdict : Type 0 where
  accepts : Verdict
  refuses_with : Status → Verdict

abbrev pub judge : Bool → Bool → Bool → Bool → Verdict
judge true large fours crosses = refuses_with OutOfRange
judge false true fours crosses = refuses_with DataTooLarge
judge false false false crosses = refuses_with NotAligned
judge false false true true = refuses_with CrossesPageBoundary
judge false false true false = accepts

unfoldable pub verdict_on : Chunk → Verdict
verdict_on c = judge (ltb 16777215 (c.address + length c.bytes)) (ltb 240 (length c.bytes)) (eqb (length c.bytes % 4) 0) (ltb 256 (c.address % 256 + length c.bytes))

abbrev pub start_on : Verdict → Chunk → List Chunk → Past → Driver
start_on accepts c l k = at enables draining [] c l k
start_on (refuses_with a) c l k = over (refuses a) (c ∷ l) k

unfoldable pub start_next : List Chunk → Past → Driver
unfolding verdict_on
start_next [] k = over succeeded [] k
start_next (c ∷ l) k = start_on (verdict_on c) c l k

unfoldable pub settled : Bool → Bool → Chunk → List Chunk → Past → Driver
unfolding start_next
settled true b c l k = at clears draining [] c l k
settled false true c l k = at polls draining [] c l k
settled false false c l k = start_next l (joined k c)

unfoldable pub stage_after : Stage → List ℕ → Chunk → List Chunk → Past → Driver
unfolding settled
stage_after enables taken c l k = at programs draining [] c l k
stage_after programs taken c l k = at polls draining [] c l k
stage_after polls taken c l k = settled (is_set 6 (top (reverse taken))) (is_set 0 (top (reverse taken))) c l k
stage_after clears taken c l k = at disables draining [] c l k
stage_after disables taken c l k = over failed (c ∷ l) k

unfoldable pub driver_after : Driver → ℕ → Driver
unfolding stage_after phase_after
driver_after (at s p taken c l k) v = cond (is_last p) (stage_after s taken c l k) (at s (phase_after (transfer_of s c) p v) (taken_after p taken v) c l k)
driver_after (over e l k) v = over e l k

unfoldable pub driver_start : ℕ → List ℕ → Driver
unfolding start_next
driver_start a bs = cond (ltb 16777215 (a + length bs)) (over (refuses OutOfRange) (chunks a bs) outset) (start_next (chunks a bs) outset)

-- ---- they are the states of the list machine

start_by : (b₁ b₃ b₄ b₅ : Bool) (c : Chunk) (l : List Chunk) (k : Past)
    → begin (onward b₁ (refused OutOfRange) (onward b₃ (refused DataTooLarge) (onward b₄ (onward b₅ (refused CrossesPageBoundary) (working 6 ProgrammingErrorBitSet (programming c.address c.bytes) (rest c l))) (refused NotAligned)))) [] (total k.chunks)
    ≡ state_of (start_on (judge b₁ b₃ b₄ b₅) c l k)
start_by true b₃ b₄ b₅ c l k = refl
start_by false true b₄ b₅ c l k = refl
start_by false false false b₅ c l k = refl
start_by false false true true c l k = refl
start_by false false true false c l k = refl

pub begin_next : (l : List Chunk) (k : Past) → begin (pages l) [] (total k.chunks) ≡ state_of (start_next l k)
unfolding start_next verdict_on
begin_next [] k = refl
begin_next (c ∷ l) k = start_by (ltb 16777215 (c.address + length c.bytes)) (ltb 240 (length c.bytes)) (eqb (length c.bytes % 4) 0) (ltb 256 (c.address % 256 + length c.bytes)) c l k

pub total_snoc : (k : List Chunk) (c : Chunk) → total (k ++ c ∷ []) ≡ total k + length c.bytes
unfolding total
total_snoc [] c = omega arith
total_snoc (b ∷ k) c = omega (arith, total_snoc k c)

pub total_append : (k l : List Chunk) → total (k ++ l) ≡ total k + total l
unfolding total
total_append [] l = omega arith
total_append (c ∷ k) l = omega (arith, total_append k l)

begin_settled : (e b : Bool) (c : Chunk) (l : List Chunk) (k : Past)
    → begin (onward (not e && b) (settle c l) (onward e (failing ProgrammingErrorBitSet) (rest c l))) [] (total k.chunks) ≡ state_of (settled e b c l k)
unfolding settled
begin_settled true b c l k = refl
begin_settled false true c l k = refl
begin_settled false false c l k = ap (begin (pages l) []) (sym (total_snoc k.chunks c)) ∙ begin_next l (joined k c)

pub begin_stage : (s : Stage) (taken : List ℕ) (c : Chunk) (l : List Chunk) (k : Past) → begin (then_of s c l (reverse taken)) [] (total k.chunks) ≡ state_of (stage_after s taken c l k)
unfolding stage_after
begin_stage enables taken c l k = refl
begin_stage programs taken c l k = refl
begin_stage polls taken c l k = begin_settled (is_set 6 (top (reverse taken))) (is_set 0 (top (reverse taken))) c l k
begin_stage clears taken c l k = refl
begin_stage disables taken c l k = refl

next_at_lem : (s : Stage) (p : Phase) (taken : List ℕ) (c : Chunk) (l : List Chunk) (k : Past) (v : ℕ) → next (state_of (at s p taken c l k)) v ≡ state_of (driver_after (at s p taken c l k) v)
unfolding driver_after
next_at_lem s draining taken c l k v = transfer_next (transfer_of s c) (then_of s c l) (total k.chunks) draining taken v refl
next_at_lem s dropping taken c l k v = transfer_next (transfer_of s c) (then_of s c l) (total k.chunks) dropping taken v refl
next_at_lem s opening taken c l k v = transfer_next (transfer_of s c) (then_of s c l) (total k.chunks) opening taken v refl
next_at_lem s (lowering w) taken c l k v = transfer_next (transfer_of s c) (then_of s c l) (total k.chunks) (lowering w) taken v refl
next_at_lem s switching taken c l k v = transfer_next (transfer_of s c) (then_of s c l) (total k.chunks) switching taken v refl
next_at_lem s (sending q w t) taken c l k v = transfer_next (transfer_of s c) (then_of s c l) (total k.chunks) (sending q w t) taken v refl
next_at_lem s starting taken c l k v = transfer_next (transfer_of s c) (then_of s c l) (total k.chunks) starting taken v refl
next_at_lem s (releasing w) taken c l k v = transfer_next (transfer_of s c) (then_of s c l) (total k.chunks) (releasing w) taken v refl
next_at_lem s (waiting m) taken c l k v = transfer_next (transfer_of s c) (then_of s c l) (total k.chunks) (waiting m) taken v refl
next_at_lem s (again m) taken c l k v = transfer_next (transfer_of s c) (then_of s c l) (total k.chunks) (again m) taken v refl
next_at_lem s (taking m) taken c l k v = transfer_next (transfer_of s c) (then_of s c l) (total k.chunks) (taking m) taken v refl
next_at_lem s closing taken c l k v = transfer_next (transfer_of s c) (then_of s c l) (total k.chunks) closing taken v refl
next_at_lem s (raising w) taken c l k v = transfer_next (transfer_of s c) (then_of s c l) (total k.chunks) (raising w) taken v refl
next_at_lem s leaving taken c l k v = begin_stage s taken c l k

pub next_is : (d : Driver) (v : ℕ) → next (state_of d) v ≡ state_of (driver_after d v)
unfolding driver_after
next_is (at s p taken c l k) v = next_at_lem s p taken c l k v
next_is (over e l k) v = refl

pub start_is : (a : ℕ) (bs : List ℕ) → begin (write_pages a bs) [] 0 ≡ state_of (driver_start a bs)
unfolding driver_start total
start_is a bs = go (ltb 16777215 (a + length bs))
  where
    go : (b : Bool) → begin (onward b (refused OutOfRange) (pages (chunks a bs))) [] 0 ≡ state_of (cond b (over (refuses OutOfRange) (chunks a bs) outset) (start_next (chunks a bs) outset))
    go true = refl
    go false = begin_next (chunks a bs) outset
