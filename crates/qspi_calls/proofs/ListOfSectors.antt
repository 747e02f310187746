-- A list of erases, tied to its script sector by sector. Assumes nothing.
use mathlib.Core.Path.{◌≡◌, refl, ap, ◌∙◌, sym}
use mathlib.Core.Bool.{Bool, true, false, cond}
use mathlib.Core.List.{List, [], ◌∷◌, head-eq_of_cons-eq, tail-eq_of_cons-eq}
use Prim.Native.Nat.{ℕ, zero, suc, ◌+◌, ◌-◌, ◌%◌, ◌^◌, ◌≤◌, ◌<◌}
use native.Mathlib.Omega.{arith}
use lib.Dec.{ltb, eqb}
use lib.ListN.{length, get_or, drop, length-drop}
use lib.Seq.{drop-cons}
use borrow.Author.Tests.{ltb-true, ltb-false, eqb-true}
use Rattle.zedboard_bsp.specs.Words.{command_word}
use Rattle.zedboard_bsp.specs.declared.qspi_spansion.RegisterId.TheVariants as command
use Rattle.qspi_transfer.specs.declared.Phase.TheVariants as phase
use Rattle.qspi_transfer.specs.declared.Wire.{Wire}
use Rattle.qspi_transfer.specs.Wire.{fresh_wire}
use Rattle.qspi_script.specs.Stages.{frame_at, due_word, listed_sector}
use Rattle.qspi_script.specs.Turns.{begin, finish, pick, next_sector, settled}
use Rattle.qspi_script.specs.declared.Stage.{Stage}
use Rattle.qspi_script.specs.declared.Stage.TheVariants as stage
use Rattle.qspi_script.specs.declared.Status.{Status}
use Rattle.qspi_script.specs.declared.Status.TheVariants.{Going, Done, OutOfRange, Alignment, EraseErrorBitSet, RepeatedSector, ListTooLong}
use Rattle.qspi_script.specs.declared.Gives.TheVariants as gives
use Rattle.qspi_script.specs.declared.Sequel.TheVariants as sequel
use Rattle.qspi_script.specs.declared.Job.{Job}
use Rattle.qspi_script.specs.declared.Place.{Place}
use Rattle.qspi_operation.specs.Step.{is_going}
use Rattle.qspi_operation.specs.Machine.{Transfer, Script, ends, counts, onward}
use Rattle.qspi_calls.specs.Sectors.{sector_status, first_refused, first_repeat, numbers}
use Rattle.qspi_calls.specs.Calls.{erasing, sectors, refused, erase_sectors, erase_sector, working}
use Rattle.qspi_calls.specs.Starts as start
use Rattle.qspi_calls.proofs.Phases.{words, Same}
use Rattle.qspi_calls.proofs.Scripted.{Turns, on, over, more, Scripted}
use Rattle.qspi_calls.proofs.Short.{same_short, word_short, ended_at_start, ended_with}
use Rattle.qspi_calls.proofs.Several.{Stages, opens, either, Working, settle_enable, working_scripted}
use Rattle.qspi_calls.proofs.Tied.{Starts}

-- ---- a sector that is not refused

-- THEOREM. 1 and 2 are as for one sector: the single erase is refused for what an entry is refused for, and goes on where it is not.
pub as_for_one : (a : ℕ) → erase_sector a ≡ onward (is_going (sector_status a)) (working 5 EraseErrorBitSet (erasing a) (ends Done [])) (refused (sector_status a))
as_for_one a = go (ltb 16777215 (a + 65536)) (eqb (a % 65536) 0)
  where
    go : (b c : Bool) → onward b (refused OutOfRange) (onward c (working 5 EraseErrorBitSet (erasing a) (ends Done [])) (refused Alignment))
        ≡ onward (is_going (cond b OutOfRange (cond c Going Alignment))) (working 5 EraseErrorBitSet (erasing a) (ends Done [])) (refused (cond b OutOfRange (cond c Going Alignment)))
    go true c = refl
    go false true = refl
    go false false = refl

-- it is in range and at a sector's start
pub data Good : List ℕ → Type 0 where
  none : Good []
  one : {a : ℕ} {l : List ℕ} → a + 65536 ≤ 16777215 → a % 65536 ≡ 0 → Good l → Good (a ∷ l)

pub accepted : (a : ℕ) → is_going (sector_status a) ≡ true → (a + 65536 ≤ 16777215) × (a % 65536 ≡ 0)
accepted a = go (ltb 16777215 (a + 65536)) refl (eqb (a % 65536) 0) refl
  where
    go : (b : Bool) → ltb 16777215 (a + 65536) ≡ b → (c : Bool) → eqb (a % 65536) 0 ≡ c → is_going (cond b OutOfRange (cond c Going Alignment)) ≡ true → (a + 65536 ≤ 16777215) × (a % 65536 ≡ 0)
    go true e c f h = absurd (let z : ◌≡◌ {A = ℕ} 0 1 = ap (λ (y : Bool). cond y 1 0) h in omega arith)
    go false e true f h = (ltb-false 16777215 (a + 65536) e, eqb-true (a % 65536) 0 f)
    go false e false f h = absurd (let z : ◌≡◌ {A = ℕ} 0 1 = ap (λ (y : Bool). cond y 1 0) h in omega arith)

pub all_good : (l : List ℕ) → length l ≤ first_refused l → Good l
all_good [] h = none
all_good (a ∷ l) h = go (is_going (sector_status a)) refl h (λ k. all_good l k)
  where
    go : (b : Bool) → is_going (sector_status a) ≡ b → suc (length l) ≤ cond b (suc (first_refused l)) 0 → (length l ≤ first_refused l → Good l) → Good (a ∷ l)
    go true e h rest = let y = accepted a e in one y.0 y.1 (rest (omega arith))
    go false e h rest = absurd (omega arith)

-- its number names it
named : (l : List ℕ) → Good l → (d : ℕ) → d < length l → listed_sector (numbers l) d ≡ get_or l d 0
named [] none d h = absurd (omega arith)
named (a ∷ l) (one f e g) zero h = omega (arith, f, e)
named (a ∷ l) (one f e g) (suc d) h = named l g d (omega arith)

pub length_numbers : (l : List ℕ) → length (numbers l) ≡ length l
length_numbers [] = refl
length_numbers (a ∷ l) = omega (arith, length_numbers l)

-- ---- the tie

module _ (list log : List ℕ) (few : length list ≤ 256) (good : Good list) where
  abbrev bytes : List ℕ
  bytes = numbers list

  abbrev job : Job
  job = start.list_job gives.Nothing (length bytes) (length log)

  abbrev at : Stage → ℕ → Place
  at s d = record { stage = s; done = d; chunk = 0; sr = 0; cr = 0 }

  -- after d sectors the next one is entry d
  data Sector : ℕ → ℕ → Transfer → Script → Type 0 where
    sector : {d : ℕ} → d < length list → Sector d 0 (erasing (get_or list d 0)) (counts 1 (sectors (drop (suc d) list)))

  abbrev Listing : Stages
  Listing = Working stage.Erase true sequel.Sectors EraseErrorBitSet 5 0 bytes log Sector

  sector_same : (d n : ℕ) (x : Transfer) (then : Script) → Sector d n x then → Same (frame_at stage.Erase job n) x
  sector_same d n x then (sector h) = same_short 0x1C _

  sector_word : (d n : ℕ) (x : Transfer) (then : Script) → Sector d n x then → (i : ℕ) → i < length (words x) → due_word job (record { stage = stage.Erase; done = d; chunk = n; sr = 0; cr = 0 }) i bytes ≡ get_or (words x) i 0
  sector_word d n x then (sector h) = word_short job (at stage.Erase d) bytes 0x1C _ (ap (λ (z : ℕ). command_word command.SectorErase z) (named list good d h))

  -- the next sector, or the end
  sector_turn : (s : Stage) (d : ℕ) (w : Wire) → d ≤ length list → Turns job bytes [] Listing (next_sector job (at s d)) w d (sectors (drop d list))
  sector_turn s d w h = go (drop d list) refl (ltb d (length bytes)) refl
    where
      n : length (numbers list) ≡ length list
      n = length_numbers list

      m : length (drop d list) ≡ length list - d
      m = length-drop d list

      go : (l : List ℕ) → drop d list ≡ l → (b : Bool) → ltb d (length bytes) ≡ b → Turns job bytes [] Listing (pick b (begin (at s d) stage.Enable) (finish (at s d) Done)) w d (sectors l)
      go [] e false f = over refl refl refl refl
      go [] e true f = absurd (omega (arith, n, m, ltb-true d (length bytes) f, (let z : length (drop d list) ≡ 0 = ap length e in z)))
      go (a ∷ l) e false f = absurd (omega (arith, n, m, ltb-false d (length bytes) f, (let z : length (drop d list) ≡ suc (length l) = ap length e in z)))
      go (a ∷ l) e true f =
          let k : d < length list = omega (arith, n, ltb-true d (length bytes) f) in
          let c : a ∷ l ≡ get_or list d 0 ∷ drop (suc d) list = sym e ∙ drop-cons list d 0 k in
          let z : Sector d 0 (erasing a) (counts 1 (sectors l)) = rw (head-eq_of_cons-eq c, tail-eq_of_cons-eq c) (sector {d = d} k) in
          on refl refl (settle_enable z)

  sector_clean : (d n : ℕ) (x : Transfer) (then : Script) (w : Wire) → Sector d n x then → Turns job bytes [] Listing (settled job (record { stage = stage.Poll; done = d; chunk = n; sr = 0; cr = 0 })) w d then
  sector_clean d n x then w (sector h) =
      let e : (d + 1) % 2 ^ 64 ≡ suc d = omega (arith, few) in
      let f : d + 1 ≡ suc d = omega arith in
      let t : Turns job bytes [] Listing (settled job (at stage.Poll d)) w (d + 1) (sectors (drop (suc d) list)) = rw (e, f) (sector_turn stage.Poll (suc d) w (omega arith)) in
      more t

  listing : Scripted job bytes [] Listing
  listing = working_scripted stage.Erase true sequel.Sectors EraseErrorBitSet 5 0 bytes log Sector refl (λ d n r. refl) sector_same sector_word sector_clean refl refl (λ st. refl)

  sectors_start : Starts (start.opened job (next_sector job (start.place_at stage.Enable 0 0 0))) bytes log [] (sectors list)
  sectors_start = opens job bytes log Listing listing (next_sector job (start.place_at stage.Enable 0 0 0)) (sectors list) (sector_turn stage.Enable 0 (fresh_wire phase.DrainStatus) (omega arith)) refl refl refl

-- refused for an entry, with its place
place_given_lem : (i n log : ℕ) (a : Status) (bytes words : List ℕ) → is_going a ≡ false → length bytes ≡ n → length words ≡ log → Starts (start.over (start.list_job (gives.Place i) n log) a) bytes words [] (ends a (i ∷ []))
place_given_lem i n log a bytes words g e f = ended_with (i ∷ []) (start.list_job (gives.Place i) n log) bytes words [] a g (λ w. refl) e f refl

-- the entry at the first place that is refused is refused
pub refused_there : (l : List ℕ) → first_refused l < length l → is_going (sector_status (get_or l (first_refused l) 0)) ≡ false
refused_there [] h = absurd (omega arith)
refused_there (a ∷ l) h = go (is_going (sector_status a)) refl h (λ k. refused_there l k)
  where
    go : (b : Bool) → is_going (sector_status a) ≡ b → cond b (suc (first_refused l)) 0 < suc (length l) → (first_refused l < length l → is_going (sector_status (get_or l (first_refused l) 0)) ≡ false) → is_going (sector_status (get_or (a ∷ l) (cond b (suc (first_refused l)) 0) 0)) ≡ false
    go true e h rest = rest (omega arith)
    go false e h rest = e

pub erase_sectors_lem : (list log : List ℕ) → Starts (start.erase_sectors_of list (length log)) (numbers list) log [] (erase_sectors list)
erase_sectors_lem list log =
    let n = length_numbers list in
    either (numbers list) log (ltb 256 (length list)) (λ e. ended_at_start (start.list_job gives.Nothing (length list) (length log)) (numbers list) log [] ListTooLong refl (λ w. refl) n refl refl)
    (λ e. either (numbers list) log (ltb (first_refused list) (length list))
    (λ f. place_given_lem (first_refused list) (length list) (length log) (sector_status (get_or list (first_refused list) 0)) (numbers list) log (refused_there list (ltb-true (first_refused list) (length list) f)) n refl)
    (λ f. either (numbers list) log (ltb (first_repeat [] list) (length list))
    (λ g. place_given_lem (first_repeat [] list) (length list) (length log) RepeatedSector (numbers list) log refl n refl)
    (λ g.
    let y = sectors_start list log (ltb-false 256 (length list) e) (all_good list (ltb-false (first_refused list) (length list) f)) in
    rw n at y)))
