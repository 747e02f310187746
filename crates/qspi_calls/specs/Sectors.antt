-- The list of `erase_sectors`: document 02, U1. "We want a list of up to 256 sector addresses for which the erase rules are tested on all entries before the first command goes out. A sector
-- named twice is also a mistake."
use Rattle.std.specs.Prelude.{ℕ, zero, suc, ◌+◌, ◌%◌, Bool, false, cond, ◌||◌, List, [], ◌∷◌, ◌++◌, map, ltb, eqb}
use Rattle.zedboard_bsp.specs.Limits.{last_end, sector_size, sector_number}
use Rattle.qspi_script.specs.declared.Status.{Status}
use Rattle.qspi_script.specs.declared.Status.TheVariants.{Going, OutOfRange, Alignment}
use Rattle.qspi_operation.specs.Step.{is_going}

-- "1 and 2 as for one sector"; one that meets neither goes on
abbrev pub sector_status : ℕ → Status
sector_status a = cond (ltb last_end (a + sector_size)) OutOfRange (cond (eqb (a % sector_size) 0) Going Alignment)

-- "the first place, from 0, that meets either"; the length where none does
abbrev pub first_refused : List ℕ → ℕ
first_refused [] = 0
first_refused (a ∷ l) = cond (is_going (sector_status a)) (suc (first_refused l)) 0

abbrev pub among : ℕ → List ℕ → Bool
among a [] = false
among a (b ∷ l) = eqb b a || among a l

-- "the first that repeats an earlier one", where these came earlier; the length where none does
abbrev pub first_repeat : List ℕ → List ℕ → ℕ
first_repeat earlier [] = 0
first_repeat earlier (a ∷ l) = cond (among a earlier) 0 (suc (first_repeat (earlier ++ a ∷ []) l))

-- ---- the list as an operation is lent it: a byte a sector

abbrev pub numbers : List ℕ → List ℕ
numbers l = map sector_number l

-- the same in so many bytes, 0 past the end
abbrev pub numbers_in : ℕ → List ℕ → List ℕ
numbers_in zero l = []
numbers_in (suc n) [] = 0 ∷ numbers_in n []
numbers_in (suc n) (a ∷ l) = sector_number a ∷ numbers_in n l
