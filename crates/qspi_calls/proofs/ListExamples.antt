-- The premises of OneByOne and ListPrecisely can be met: a list of three that is accepted, runs of it that end with 0, 21, 23 and 24, and a list for each refusal. Assumes nothing.
use mathlib.Core.Path.{◌≡◌, refl}
use mathlib.Core.List.{List, [], ◌∷◌, ◌++◌}
use Prim.Native.Nat.{ℕ, zero, suc}
use lib.ListN.{replicate}
use Rattle.zedboard_bsp.specs.Limits.{sector_start}
use Rattle.qspi_script.specs.declared.Status.{Status}
use Rattle.qspi_script.specs.declared.Status.TheVariants.{Done, OutOfRange, Alignment, EraseErrorBitSet, RepliesEnded, LogFull, RepeatedSector, ListTooLong}
use Rattle.qspi_operation.specs.Machine.{count_in, Result, runs, called}
use Rattle.qspi_calls.specs.Calls.{erase_sectors}
use Rattle.qspi_calls.specs.OneByOne.{Accepted}
use Rattle.qspi_calls.proofs.PreciseExamples.{once}
use Rattle.qspi_calls.proofs.ListPrecisely.{erased_when, At}

-- ---- a list that is erased

abbrev three : List ℕ
three = 0x030000 ∷ 0x050000 ∷ 0x010000 ∷ []

pub three_accepted : Accepted three
three_accepted = (erased_when three).0 refl

-- all but the last sector of the array: no accepted list is longer
abbrev sectors_to : ℕ → List ℕ → List ℕ
sectors_to zero l = l
sectors_to (suc n) l = sectors_to n (sector_start n ∷ l)

pub all_but_last : Accepted (sectors_to 255 [])
all_but_last = (erased_when (sectors_to 255 [])).0 refl

-- write enable, the erase, and a status that is clean at once: 36 accesses
abbrev cleanly : List ℕ
cleanly = once 0 ++ (once 0 ++ once 0)

-- the answer, and so many finished
abbrev Ends : Result → Status → ℕ → Type 0
Ends r a n = (r.answer ≡ a) × (count_in r.state ≡ n)

pub three_done : Ends (called (erase_sectors three) 108 (cleanly ++ (cleanly ++ cleanly))) Done 3
unfolding runs
three_done = (refl, refl)

-- 21: the status of the second shows bit 5
pub second_fails : Ends (called (erase_sectors three) 200 (cleanly ++ (once 0 ++ (once 0 ++ (once 0x20000000 ++ (once 0 ++ (once 0 ++ cleanly))))))) EraseErrorBitSet 1
unfolding runs
second_fails = (refl, refl)

-- 23 and 24 in the closing of the second's clean status: it is not counted
pub second_dry : Ends (called (erase_sectors three) 200 (cleanly ++ (once 0 ++ (once 0 ++ (0 ∷ 0 ∷ 0 ∷ 0x10 ∷ 0 ∷ []))))) RepliesEnded 1
unfolding runs
second_dry = (refl, refl)

pub second_full : Ends (called (erase_sectors three) 71 (cleanly ++ (cleanly ++ cleanly))) LogFull 1
unfolding runs
second_full = (refl, refl)

-- with room for its last access it is
pub third_full : Ends (called (erase_sectors three) 72 (cleanly ++ (cleanly ++ cleanly))) LogFull 2
unfolding runs
third_full = (refl, refl)

-- ---- lists that are refused

-- 33 first, though each entry meets 1 and 2 too
pub too_many : (called (erase_sectors (replicate 257 0xFF0001)) 0 []).answer ≡ ListTooLong
unfolding runs
too_many = refl

-- the first place that meets 1 or 2, not the first that meets 1
pub two_before_one : At (called (erase_sectors (0x030000 ∷ 0x000001 ∷ 0xFF0000 ∷ [])) 0 []) Alignment 1
unfolding runs
two_before_one = (refl, refl)

-- 1 before 2 at that place
pub one_of_both : At (called (erase_sectors (0x030000 ∷ 0xFFFFFF ∷ 0x000001 ∷ [])) 0 []) OutOfRange 1
unfolding runs
one_of_both = (refl, refl)

-- the place of the later of the two
pub named_twice : At (called (erase_sectors (0x030000 ∷ 0x050000 ∷ 0x030000 ∷ [])) 0 []) RepeatedSector 2
unfolding runs
named_twice = (refl, refl)

-- 32 after both, though it comes at an earlier place
pub twice_and_wrong : At (called (erase_sectors (0x030000 ∷ 0x030000 ∷ 0x000001 ∷ [])) 0 []) Alignment 2
unfolding runs
twice_and_wrong = (refl, refl)
