-- What the run of `erase_sectors` promises, out of what its start and its run promise. Assumes nothing.
use mathlib.Core.Path.{◌≡◌, refl, ap, subst, ◌∙◌, sym}
use mathlib.Core.Bool.{Bool, true, false, cond}
use mathlib.Core.List.{List, [], ◌∷◌}
use Prim.Native.Nat.{ℕ, zero, suc, ◌+◌, ◌/◌, ◌%◌, ◌≤◌, min}
use native.Mathlib.Omega.{arith}
use lib.Dec.{ltb, eqb}
use lib.ListN.{length, get_or, take, length-take}
use borrow.Author.Tests.{ltb-false}
use Rattle.zynq7000.specs.Access.{encode}
use Rattle.zedboard_bsp.specs.Limits.{sector_number}
use Rattle.qspi_script.specs.Answer as says
use Rattle.qspi_script.specs.Answer.{Said, Answered, said_by}
use Rattle.qspi_script.specs.declared.Status.{Status}
use Rattle.qspi_script.specs.declared.Status.TheVariants.{Going, OutOfRange, Alignment, RepeatedSector, ListTooLong}
use Rattle.qspi_script.proofs.AnswerLaws.{said_fixes}
use Rattle.qspi_operation.specs.declared.Op.{Op}
use Rattle.qspi_operation.specs.declared.Stepped.{Stepped}
use Rattle.qspi_operation.specs.Machine.{ended, begin, status_in, values_in, count_in, Result, halt, runs, called, reads_of}
use Rattle.qspi_operation.specs.Points.{Lending, outset, answered_of}
use Rattle.qspi_operation.specs.Follows.{RunFollows, answer_by}
use Rattle.qspi_operation.specs.Step.{is_going, counted_of}
use Rattle.qspi_operation.proofs.Orders.{run_ended}
use Rattle.qspi_operation.proofs.PointLaws.{over_runs}
use Rattle.qspi_operation.proofs.Stops.{Stop, at_end, no_room_left, no_reply, stopped}
use Rattle.qspi_calls.specs.Begins.{BeginsList}
use Rattle.qspi_calls.specs.Calls as call
use Rattle.qspi_calls.specs.Calls.{sectors, erase_sectors}
use Rattle.qspi_calls.specs.Sectors.{sector_status, first_refused, first_repeat, numbers, numbers_in}
use Rattle.qspi_calls.specs.OneByOne.{Accepted, SingleErases}
use Rattle.qspi_calls.specs.declared.run.Ran.{Ran}
use Rattle.qspi_calls.specs.Promise.{logged_of, handed, one_of}
use Rattle.qspi_calls.proofs.ListLoops.{length_in}
use Rattle.qspi_calls.proofs.ListOfSectors.{all_good}
use Rattle.qspi_calls.proofs.Registers.{OnRegisters, on_end, on_count, either, works, runs_on_registers}
use Rattle.qspi_calls.proofs.OneByOne.{single_erases}
use Rattle.qspi_calls.proofs.Promised.{whole_call}
use Rattle.power_cut.specs.SectorPromise.{Cleared, placed, sectors_answer}
use Rattle.power_cut.specs.declared.SectorsRan.{SectorsRan}
use Rattle.power_cut.proofs.Offsets.{used_words}
use Rattle.power_cut.proofs.SectorDriver.{Driver, at, succeeded, failed, state_of}
use Rattle.power_cut.proofs.SectorTheorem.{in_range, watched, listed, shows_sectors}

-- ---- the numbers that its run is lent

pub numbers_of : (n : ℕ) (l : List ℕ) → length l ≤ n → take (length l) (numbers_in n l) ≡ numbers l
numbers_of zero [] h = refl
numbers_of zero (a ∷ l) h = absurd (omega arith)
numbers_of (suc n) [] h = refl
numbers_of (suc n) (a ∷ l) h = ap (λ (z : List ℕ). sector_number a ∷ z) (numbers_of n l (omega arith))

-- they are among those written
pub lent_among : (l : List ℕ) {xs : List ℕ} {n : ℕ} → xs ≡ numbers_in 256 l → n ≡ min (length l) 256 → n ≡ length (take n xs)
lent_among l {xs} {n} e h = omega (arith, h, length-take n xs, (let z : length xs ≡ 256 = ap length e ∙ length_in 256 l in z))

-- ---- its accesses go to registers

sectors_on : (l : List ℕ) → OnRegisters (sectors l)
sectors_on [] = on_end
sectors_on (a ∷ l) = works 5 _ (call.erasing a) refl (on_count (sectors_on l))

erase_sectors_on : (l : List ℕ) → OnRegisters (erase_sectors l)
erase_sectors_on l = either (ltb 256 (length l)) on_end (either (ltb (first_refused l) (length l)) on_end (either (ltb (first_repeat [] l) (length l)) on_end (sectors_on l)))

-- ---- the place in its answer

-- what is said of values is said of the place among them, where the status has one
abbrev Fits : Status → List ℕ → Type 0
Fits a vs = said_by a (placed a (one_of (says.values_in (said_by a vs)))) ≡ said_by a vs

-- a script that ends at once
at_once : (a : Status) (vs : List ℕ) (n : ℕ) (rs : List ℕ) → Fits a vs → Fits (runs n (ended a vs [] 0) rs).answer (values_in (runs n (ended a vs [] 0) rs).state)
unfolding runs
at_once a vs zero rs h = h
at_once a vs (suc n) rs h = h

refused_fits : (a i : ℕ) → Fits (sector_status a) (i ∷ [])
refused_fits a i = go (ltb 16777215 (a + 65536)) (eqb (a % 65536) 0)
  where
    go : (b c : Bool) → Fits (cond b OutOfRange (cond c Going Alignment)) (i ∷ [])
    go true c = refl
    go false true = refl
    go false false = refl

-- a list that is not refused has none: it ends by 0 or 21, or by 23 or 24
no_values : (d : Driver) → values_in (state_of d) ≡ []
no_values (at s p taken a l k) = refl
no_values (succeeded k) = refl
no_values (failed a l k) = refl

own_fits : (d : Driver) → Fits (status_in (state_of d)) []
own_fits (at s p taken a l k) = refl
own_fits (succeeded k) = refl
own_fits (failed a l k) = refl

stop_fits : (r : Result) (d : Driver) → r.state ≡ state_of d → Stop r → Fits r.answer (values_in r.state)
stop_fits r d e (at_end f g) = rw (g, e, no_values d) (own_fits d)
stop_fits r d e (no_room_left f g h) = rw h
stop_fits r d e (no_reply o f g h i) = rw i

pub place_fits : (l : List ℕ) (room : ℕ) (rs : List ℕ) → Fits (called (erase_sectors l) room rs).answer (values_in (called (erase_sectors l) room rs).state)
place_fits l room rs = go (ltb 256 (length l)) (ltb (first_refused l) (length l)) refl (ltb (first_repeat [] l) (length l))
  where
    go : (b₁ b₂ : Bool) → ltb (first_refused l) (length l) ≡ b₂ → (b₃ : Bool) → Fits (called (listed l b₁ b₂ b₃) room rs).answer (values_in (called (listed l b₁ b₂ b₃) room rs).state)
    go true b₂ e b₃ = at_once ListTooLong [] room rs refl
    go false true e b₃ = at_once (sector_status (get_or l (first_refused l) 0)) (first_refused l ∷ []) room rs (refused_fits (get_or l (first_refused l) 0) (first_refused l))
    go false false e true = at_once RepeatedSector (first_repeat [] l ∷ []) room rs refl
    go false false e false =
        let m = run_ended room (begin (sectors l) [] 0) rs in
        let w = watched l (in_range l (all_good l (ltb-false (first_refused l) (length l) e))) (called (sectors l) room rs).log m.makes in
        stop_fits (called (sectors l) room rs) w.driver (m.is ∙ w.stands) (stopped (sectors l) room rs)

module _ (l rs log : List ℕ) where
  abbrev pub result : Result
  result = called (erase_sectors l) (length log / 2) rs

  -- the bytes that its run is lent
  abbrev lent : List ℕ
  lent = take (min (length l) 256) (numbers_in 256 l)

  -- ---- the run

  -- answer and log
  abbrev Ends : Stepped → List ℕ → Type 0
  Ends s log₁ = (answer_by s ≡ answered_of result) × (log₁ ≡ logged_of result log)

  module _ {o : Op} {s : Stepped} {buffer₁ log₁ : List ℕ} (b : BeginsList l (length log) o) (f : RunFollows o lent [] log rs s buffer₁ log₁) where
    abbrev lending : Lending
    lending = record { bytes = numbers l; buffer = []; room = length log }

    -- it is lent its own numbers
    short : length l ≤ 256 → Ends s log₁
    short h =
        let m : min (length l) 256 ≡ length l = omega (arith, h) in
        let e : lent ≡ numbers l = ap (λ (z : ℕ). take z (numbers_in 256 l)) m ∙ numbers_of 256 l h in
        let k = whole_call (erase_sectors l) lending b (subst (λ (z : List ℕ). RunFollows o z [] log rs s buffer₁ log₁) e f) refl refl in
        (k.answer, k.logged)

    -- 33: whatever it is lent
    long : ltb 256 (length l) ≡ true → Ends s log₁
    unfolding reads_of encode
    long e =
        let g : is_going (status_in (begin (erase_sectors l) [] 0)) ≡ false = rw e in
        let y = (f lending (outset (begin (erase_sectors l) [] 0)) b.follows).repeats g in
        let w : result ≡ halt (status_in (begin (erase_sectors l) [] 0)) (begin (erase_sectors l) [] 0) (length log / 2) rs = over_runs (length log / 2) (begin (erase_sectors l) [] 0) rs g in
        (y.1 ∙ ap answered_of (sym w), y.0.logged ∙ ap (λ (x : Result). logged_of x log) (sym w))

    ends : Ends s log₁
    ends = go (ltb 256 (length l)) refl
      where
        go : (x : Bool) → ltb 256 (length l) ≡ x → Ends s log₁
        go true e = long e
        go false e = short (ltb-false 256 (length l) e)

  -- ---- what it hands back

  -- answer, place, used counts and sectors finished; log
  pub record Promised (r : SectorsRan) (log₁ : List ℕ) : Type 0 where
    pub answer : sectors_answer r ≡ answered_of result
    pub place : r.place ≡ one_of (says.values_in (answered_of result).says)
    pub logged : log₁ ≡ logged_of result log

  answer_is : (s : Stepped) → answer_by s ≡ answered_of result → sectors_answer (record { ran = handed s; finished = counted_of s.op; place = one_of (says.values_in (answer_by s).says) }) ≡ answered_of result
  answer_is s e =
      let i : (answer_by s).says ≡ (answered_of result).says = ap (λ (z : Answered). z.says) e in
      let a : s.answer ≡ result.answer = said_fixes _ _ _ _ i in
      let p : said_by s.answer (placed s.answer (one_of (says.values_in (answer_by s).says))) ≡ (answer_by s).says
      = ap (λ (z : Said). said_by s.answer (placed s.answer (one_of (says.values_in z)))) i
      ∙ ap (λ (z : Status). said_by z (placed z (one_of (says.values_in (answered_of result).says)))) a
      ∙ place_fits l (length log / 2) rs ∙ sym i in
      ap (λ (z : Said). record { says = z; used = s.op.used; replies = s.op.replies; counted = counted_of s.op }) p ∙ e

  pub promised : {o : Op} {s : Stepped} {r : Ran} {xs buffer₁ log₁ : List ℕ} {m n place : ℕ} → BeginsList l (length log) o → xs ≡ numbers_in 256 l → m ≡ min (length l) 256
      → RunFollows o (take m xs) [] log rs s buffer₁ log₁ → n ≡ counted_of s.op → place ≡ one_of (says.values_in (answer_by s).says) → r ≡ handed s → Promised (record { ran = r; finished = n; place = place }) log₁
  promised {s = s} b i j f n p r =
      let k = ends b (rw (i, j) at f) in
      record { answer = rw (n, p, r) (answer_is s k.0); place = p ∙ ap (λ (z : Answered). one_of (says.values_in z.says)) k.0; logged = k.1 }

  -- and the claim about its log
  pub cleared : {r : SectorsRan} {log₁ : List ℕ} → Promised r log₁ → Cleared l r log₁
  cleared {r} {log₁} p =
      let u : r.ran.used ≡ (answered_of result).used = ap (λ (z : Answered). z.used) p.answer in
      let n : r.finished ≡ count_in result.state = ap (λ (z : Answered). z.counted) p.answer in
      record {
        accesses = result.log;
        is_log = ap (λ (z : ℕ). take z log₁) u ∙ ap (take (answered_of result).used) p.logged ∙ used_words result log;
        to_registers = runs_on_registers (erase_sectors_on l) (length log / 2) rs;
        claim = rw n (shows_sectors l (length log / 2) rs);
      }

  -- and of a list that is not refused it is that of the single erases
  pub single : {r : SectorsRan} {log₁ : List ℕ} → Promised r log₁ → Accepted l → SingleErases l (length log / 2) rs log r.ran.answer r.finished log₁
  single {r} p = single_erases l (length log / 2) rs log (said_fixes _ _ _ _ (ap (λ (z : Answered). z.says) p.answer)) (ap (λ (z : Answered). z.counted) p.answer) p.logged
