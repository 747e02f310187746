-- What an operation is lent: of a list of sectors the driver's copy, and through all its steps the same. Assumes nothing.
use Rattle.std.specs.Prelude.{Option}
use Prim.Native.Nat.{ℕ, ◌+◌, ◌<◌, ◌≤◌}
use mathlib.Core.Path.{◌≡◌, refl, ap, ◌∙◌}
use mathlib.Core.Bool.{Bool, true, false}
use mathlib.Core.List.{List, [], ◌∷◌}
use native.Mathlib.Omega.{arith}
use lib.Dec.{ltb}
use lib.ListN.{length, get_or, take}
use Rattle.qspi_script.specs.declared.Job.{Job}
use Rattle.qspi_operation.specs.declared.Op.{Op}
use Rattle.zedboard_bsp.specs.Limits.{last_end, longest_list}
use Rattle.qspi_script.specs.declared.Turned.{Turned}
use Rattle.qspi_script.specs.declared.Stage.TheVariants.{Enable}
use Rattle.qspi_script.specs.declared.Status.TheVariants.{OutOfRange, RepeatedSector, ListTooLong}
use Rattle.qspi_script.specs.Turns.{next_page, next_sector}
use Rattle.qspi_script.specs.declared.Gives.TheVariants as gives
use Rattle.qspi_calls.specs.Sectors.{sector_status, first_refused, first_repeat}
use Rattle.qspi_calls.specs.Starts as start
use Rattle.qspi_calls.specs.Starts.{pick, over, opened, paging_job, place_at, write_pages_of}
use Rattle.qspi_operation.specs.Step.{step_of}
use Rattle.qspi_operation.specs.Step.{erases_list}
use Rattle.qspi_operation.proofs.Runs.{step_job}
use Rattle.qspi_driver.specs.State.{list_job, list_op, own_copy, lent_if, lent_to}

-- an operation that erases no list is lent the caller's data
pub lent_other : (o : Op) (list bytes : List ℕ) → erases_list o ≡ false → lent_to o list bytes ≡ bytes
lent_other o list bytes e = ap (λ (b : Bool). lent_if b o.job.lent.«data» list bytes) e

-- a list is lent its own copy where the caller lends nothing, and nothing where the caller lends data
pub lent_copy : (o : Op) (list bytes : List ℕ) → erases_list o ≡ true → length bytes ≤ 0 → lent_to o list bytes ≡ take o.job.lent.«data» list
lent_copy o list bytes e h = ap (λ (b : Bool). lent_if b o.job.lent.«data» list bytes) e ∙ empty bytes h
  where
    empty : (xs : List ℕ) → length xs ≤ 0 → own_copy o.job.lent.«data» list xs ≡ take o.job.lent.«data» list
    empty [] k = refl
    empty (x ∷ xs) k = absurd (omega arith)

pub lent_none : (o : Op) (list bytes : List ℕ) → erases_list o ≡ true → 0 < length bytes → lent_to o list bytes ≡ []
lent_none o list bytes e h = ap (λ (b : Bool). lent_if b o.job.lent.«data» list bytes) e ∙ some bytes h
  where
    some : (xs : List ℕ) → 0 < length xs → own_copy o.job.lent.«data» list xs ≡ []
    some [] k = absurd (omega arith)
    some (x ∷ xs) k = refl

-- a list that the driver began is lent the driver's copy
pub list_erases : (list : List ℕ) (log : ℕ) → erases_list (list_op list log) ≡ true
list_erases list log = by_tests (ltb longest_list (length list)) (ltb (first_refused list) (length list)) (ltb (first_repeat [] list) (length list))
  where
    by_tests : (b c d : Bool) → erases_list (pick b (over (start.list_job gives.Nothing (length list) log) ListTooLong)
        (pick c (over (start.list_job (gives.Place (first_refused list)) (length list) log) (sector_status (get_or list (first_refused list) 0)))
        (pick d (over (start.list_job (gives.Place (first_repeat [] list)) (length list) log) RepeatedSector)
        (opened (start.list_job gives.Nothing (length list) log) (next_sector (start.list_job gives.Nothing (length list) log) (place_at Enable 0 0 0)))))) ≡ true
    by_tests true c d = refl
    by_tests false true d = refl
    by_tests false false true = refl
    by_tests false false false = refl

pub lent_list : (list : List ℕ) (log : ℕ) (numbers : List ℕ) → lent_to (list_op list log) numbers [] ≡ take (list_op list log).job.lent.«data» numbers
lent_list list log numbers = ap (λ (b : Bool). lent_if b (list_op list log).job.lent.«data» numbers []) (list_erases list log)

-- a step keeps the job, and so what is lent
pub lent_kept : (o : Op) (bytes : List ℕ) (buffer room : ℕ) (r : Option ℕ) (list data₁ : List ℕ) → lent_to (step_of o bytes buffer room r).op list data₁ ≡ lent_to o list data₁
lent_kept o bytes buffer room r list data₁ = ap (λ (j : Job). lent_if (list_job j) j.lent.«data» list data₁) (step_job o bytes buffer room r)

pub erases_kept : (o : Op) (bytes : List ℕ) (buffer room : ℕ) (r : Option ℕ) → erases_list (step_of o bytes buffer room r).op ≡ erases_list o
erases_kept o bytes buffer room r = ap list_job (step_job o bytes buffer room r)

-- a save erases no list
pub save_erases_none : (a n log : ℕ) → erases_list (write_pages_of a n log) ≡ false
save_erases_none a n log = by_length (ltb last_end (a + n))
  where
    by_place : (t : Turned) → erases_list (opened (paging_job a n log) t) ≡ false
    by_place t = refl

    by_length : (b : Bool) → erases_list (pick b (over (paging_job a n log) OutOfRange) (opened (paging_job a n log) (next_page (paging_job a n log) (place_at Enable 0 0 0)))) ≡ false
    by_length true = refl
    by_length false = by_place (next_page (paging_job a n log) (place_at Enable 0 0 0))
