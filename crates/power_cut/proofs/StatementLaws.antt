-- The terms of the power-cut statement read back: what chunks bring, bit by bit; how many are in doubt; and a row's log and counts as those of its saves. Assumes nothing.
use mathlib.Core.Path.{◌≡◌, refl, ap, ◌∙◌, sym}
use mathlib.Core.Bool.{Bool, true, false, ◌&&◌}
use mathlib.Core.Option.{Option, none, some}
use mathlib.Core.List.{List, [], ◌∷◌, ◌++◌, append-nil, append_assoc}
use Prim.Native.Nat.{ℕ, zero, suc, ◌+◌, ◌-◌, ◌/◌, ◌%◌, ◌^◌, ◌≤◌, ◌<◌, min}
use native.Mathlib.Omega.{arith}
use Rattle.std.proofs.Math.Bool.{and-true, and_assoc}
use lib.Bits.{bit_and, and_step}
use lib.Dec.{eqb}
use lib.ListN.{length, length-append}
use lib.Pow.{shr-shr}
use Rattle.zynq7000.specs.Bits.{bit, is_set}
use Rattle.zynq7000.specs.declared.qspi.Access.{Access}
use Rattle.qspi_script.specs.declared.Status.TheVariants.{Going, RepliesEnded, LogFull}
use Rattle.qspi_operation.specs.Step.{is_going}
use Rattle.qspi_calls.specs.Chunks.{Chunk, chunks, Among, here, there}
use Rattle.power_cut.specs.Flash.{anded}
use Rattle.power_cut.specs.Observer.{sees, observed}
use Rattle.power_cut.specs.Statement.{total, NextOnly, no_doubt, the_next, brought, anding, Save, Each, row_log, CallByCall, no_call, at_hand, past, PowerCut}
use Rattle.power_cut.specs.Row.{IsRun, Precedes, Row, empty, last}
use Rattle.power_cut.specs.Row as rows
use Rattle.power_cut.specs.Promise.{save_by, Saved}
use Rattle.power_cut.specs.declared.PagesRan.{PagesRan}
use Rattle.power_cut.proofs.Driver.{total_append}

-- ---- AND, bit by bit

bit_up : (i w : ℕ) → bit (suc i) w ≡ bit i (w / 2)
bit_up i w =
    let e : suc i ≡ 1 + i = omega arith in
    ap (λ (n : ℕ). w / 2 ^ n % 2) e ∙ ap (λ (n : ℕ). n % 2) (sym (shr-shr w 1 i))

and_half : (a b : ℕ) → bit_and a b / 2 ≡ bit_and (a / 2) (b / 2)
and_half a b = omega (arith, and_step a b)

and_bit : (i a b : ℕ) → bit i (bit_and a b) ≡ min (bit i a) (bit i b)
and_bit zero a b = omega (arith, and_step a b)
and_bit (suc i) a b = bit_up i (bit_and a b) ∙ ap (bit i) (and_half a b) ∙ and_bit i (a / 2) (b / 2) ∙ rw (bit_up i a, bit_up i b)

both_ones : (m n : ℕ) → m < 2 → n < 2 → eqb (min m n) 1 ≡ eqb m 1 && eqb n 1
both_ones zero zero h k = refl
both_ones zero (suc zero) h k = refl
both_ones (suc zero) zero h k = refl
both_ones (suc zero) (suc zero) h k = refl
both_ones zero (suc (suc n)) h k = absurd (omega arith)
both_ones (suc zero) (suc (suc n)) h k = absurd (omega arith)
both_ones (suc (suc m)) n h k = absurd (omega arith)

-- the bit is set in the byte brought, if any
abbrev pub leaves : ℕ → Option ℕ → Bool
leaves i none = true
leaves i (some b) = is_set i b

abbrev pub all_leave : ℕ → List Chunk → ℕ → Bool
all_leave i [] x = true
all_leave i (c ∷ l) x = leaves i (brought c x) && all_leave i l x

anded_bit : (i v : ℕ) (b : Option ℕ) → is_set i (anded v b) ≡ is_set i v && leaves i b
anded_bit i v none = sym (and-true (is_set i v))
anded_bit i v (some b) = ap (λ (n : ℕ). eqb n 1) (and_bit i v b) ∙ both_ones (bit i v) (bit i b) (omega arith) (omega arith)

-- THEOREM. A bit is set then precisely where it was set before and each finished chunk that brought a byte there brought it set: in whatever order they came.
pub anding_bit : (i : ℕ) (l : List Chunk) (x v : ℕ) → is_set i (anding l x v) ≡ is_set i v && all_leave i l x
unfolding anding
anding_bit i [] x v = anded_bit i v none
anding_bit i (c ∷ l) x v =
    anding_bit i l x (anded v (brought c x)) ∙ ap (λ (b : Bool). b && all_leave i l x) (anded_bit i v (brought c x)) ∙ and_assoc (is_set i v) (leaves i (brought c x)) (all_leave i l x)

-- what earlier chunks left is what later ones find
pub anding_append : (k l : List Chunk) (x v : ℕ) → anding (k ++ l) x v ≡ anding l x (anding k x v)
unfolding anding
anding_append [] l x v = refl
anding_append (c ∷ k) l x v = anding_append k l x (anded v (brought c x))

-- ---- a row

-- its log is the earlier saves' and then the last one's
pub row_log_behind : (row : List Save) (c : Save) → row_log (row ++ c ∷ []) ≡ row_log row ++ c.accesses
unfolding row_log
row_log_behind [] c = append-nil c.accesses
row_log_behind (b ∷ row) c = ap (λ (l : List Access). b.accesses ++ l) (row_log_behind row c) ∙ sym (append_assoc b.accesses (row_log row) c.accesses)

-- "at most one chunk in doubt over all of them"
pub at_most_one : {q l : List Chunk} → NextOnly q l → length q ≤ 1
at_most_one no_doubt = omega arith
at_most_one (the_next y z) = omega arith

-- "at most 128 bytes within one page"
pub doubt_in_a_page : {q l : List Chunk} {c : Chunk} → NextOnly q l → Among c q → (length c.bytes ≤ 128) × (c.address % 256 + length c.bytes ≤ 256)
doubt_in_a_page (the_next y z) here = (y, z)
doubt_in_a_page {l = l} {c = c} no_doubt x4 = elim x4 [ ]
doubt_in_a_page (the_next {c = c} {left = left} y z) (there x8) = elim x8 [ ]

pub one_over_all : {row : List Save} {k : ℕ} {f q : List Chunk} → CallByCall row k f q → length q ≤ 1
one_over_all no_call = omega arith
one_over_all (at_hand left i e n h) = at_most_one n
one_over_all (past first left i e h r) = one_over_all r

-- right behind a call that has ended otherwise than by 23 or 24 none is
pub none_behind : {c : Save} {row : List Save} {k : ℕ} {f q : List Chunk} → CallByCall (c ∷ row) k f q → k ≡ length c.accesses → (c.answer ≡ Going → ⊥) → (c.answer ≡ RepliesEnded → ⊥) → (c.answer ≡ LogFull → ⊥) → q ≡ []
none_behind (at_hand left i p n ends) e over dry full = (ends e).settled over dry full
none_behind (past first left i p n r) e over dry full = absurd (omega (arith, i, e))

-- of a call that lies wholly before the cut: its finished chunks are the first of its data, as many as its answer counts, and come before those
-- of later calls; what is in doubt is theirs
pub record Before (c : Save) (row : List Save) (k : ℕ) (f q : List Chunk) : Type 0 where
  pub first : List Chunk
  pub left : List Chunk
  pub more : List Chunk
  pub is : f ≡ first ++ more
  pub parts : first ++ left ≡ chunks c.address c.bytes
  pub counts : total first ≡ c.count
  pub later : CallByCall row (k - length c.accesses) more q

pub wholly_before : {c : Save} {row : List Save} {k : ℕ} {f q : List Chunk} → length c.accesses < k → CallByCall (c ∷ row) k f q → Before c row k f q
wholly_before j (at_hand left i e n h) = absurd (omega (arith, j, i))
wholly_before j (past {more = more} first left i e h r) = record { first = first; left = left; more = more; is = refl; parts = e; counts = h; later = r }

abbrev pub count_all : List Save → ℕ
count_all [] = 0
count_all (c ∷ row) = c.count + count_all row

abbrev Counted : Save → Type 0
Counted c = c.count ≡ total (observed c.accesses).finished

none_seen : (l : List Access) → length l ≡ 0 → total (observed l).finished ≡ 0
unfolding observed sees total
none_seen [] e = refl
none_seen (a ∷ l) e = absurd (omega (arith, e))

none_counted : (row : List Save) → length (row_log row) ≡ 0 → Each Counted row → count_all row ≡ 0
unfolding row_log
none_counted [] e h = refl
none_counted (c ∷ row) e h =
    let n = length-append c.accesses (row_log row) in
    omega (arith, h.0, none_seen c.accesses (omega (arith, n, e)), none_counted row (omega (arith, n, e)) h.1)

at_end : (row : List Save) (k : ℕ) {f q : List Chunk} → k ≡ length (row_log row) → Each Counted row → CallByCall row k f q → total f ≡ count_all row
unfolding row_log total
at_end [] k e h no_call = refl
at_end (c ∷ row) k e h (at_hand left i p n ends) =
    let m = length-append c.accesses (row_log row) in
    omega (arith, (ends (omega (arith, i, e, m))).counted, none_counted row (omega (arith, i, e, m)) h.1)
at_end (c ∷ row) k e h (past {more = more} first left i p n r) =
    let m = length-append c.accesses (row_log row) in
    omega (arith, total_append first more, n, at_end row (k - length c.accesses) (omega (arith, e, m)) h.1 r)

-- THEOREM. At the end of a row the chunks finished are as many bytes as its answers count together.
pub row_total : (row : List Save) {f q : List Chunk} → Each Counted row → CallByCall row (length (row_log row)) f q → total f ≡ count_all row
row_total row h r = at_end row (length (row_log row)) refl h r

-- ---- the rows of the theorem and those of the promise

-- a row with a last save: those before it, each ended by neither 23 nor 24, and that one
pub record Behind (row : List Save) : Type 0 where
  pub earlier : List Save
  pub this : Save
  pub is : row ≡ earlier ++ this ∷ []
  pub precede : Each Precedes earlier
  pub runs : IsRun this

one_more : {c : Save} {row : List Save} → Precedes c → Behind row → Behind (c ∷ row)
one_more {c} p s = record { earlier = c ∷ s.earlier; this = s.this; is = ap (λ (l : List Save). c ∷ l) s.is; precede = (p, s.precede); runs = s.runs }

pub row_behind : {c : Save} {row : List Save} → Row (c ∷ row) → Behind (c ∷ row)
row_behind (last {c} h) = record { earlier = []; this = c; is = refl; precede = tt; runs = h }
row_behind (rows.more {c} p empty) = record { earlier = []; this = c; is = refl; precede = tt; runs = p.runs }
row_behind (rows.more p (last h)) = one_more p (row_behind (last h))
row_behind (rows.more p (rows.more q r)) = one_more p (row_behind (rows.more q r))

pub behind_row : (earlier : List Save) {c : Save} → Each Precedes earlier → IsRun c → Row (earlier ++ c ∷ [])
behind_row [] h r = last r
behind_row (b ∷ earlier) h r = rows.more h.0 (behind_row earlier h.1 r)

-- ---- what the code promises of saves, one behind the other

-- THEOREM. Of two saves of which the code made its promise, the first ended by neither 23 nor 24, the statement holds as of one row.
pub two_saves : {a b : ℕ} {bs cs : List ℕ} {r s : PagesRan} {log log₁ : List ℕ} (x : Saved a bs r log) (y : Saved b cs s log₁)
    → is_going r.ran.answer ≡ false → (r.ran.answer ≡ RepliesEnded → ⊥) → (r.ran.answer ≡ LogFull → ⊥) → PowerCut (save_by a bs x.accesses r ∷ save_by b cs y.accesses s ∷ [])
two_saves {a} {bs = bs} {r = r} x y g h i = y.claim (save_by a bs x.accesses r ∷ []) (record { runs = x.runs g; read = h; logged = i }, tt)
