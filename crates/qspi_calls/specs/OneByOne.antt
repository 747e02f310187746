-- What `erase_sectors` does, over the single erases: document 02, U1. "the log is that of the single erases in list order, each on the replies and driver state that the one before left, up to
-- where it is stopped. The answer counts sectors finished".
use Rattle.std.specs.Prelude.{ℕ, suc, ◌+◌, ◌*◌, ◌%◌, ◌≤◌, ◌<◌, ◌≡◌, Bool, true, false, List, [], ◌∷◌, ◌++◌, eqb, length, get_or, drop}
use Rattle.zynq7000.specs.Access.{encode}
use Rattle.zynq7000.specs.declared.qspi.Access.{Access}
use Rattle.zedboard_bsp.specs.Limits.{last_end, sector_size, longest_list}
use Rattle.qspi_script.specs.Answer.{number_of}
use Rattle.qspi_script.specs.declared.Status.{Status}
use Rattle.qspi_script.specs.declared.Status.TheVariants.{Done}
use Rattle.qspi_operation.specs.Machine.{Result, called, count_in}
use Rattle.qspi_calls.specs.Calls.{erase_sector}

-- ---- single erases, one after the other

pub record Erases : Type 0 where
  pub log : List Access
  pub answer : Status
  pub finished : ℕ
  pub room : ℕ  -- for how many accesses there is room left
  pub unread : List ℕ  -- the replies left

-- true of Done alone: no other status has the number 0
abbrev pub is_done : Status → Bool
is_done a = eqb (number_of a) 0

-- a single erase that is done, and the rest of the list behind it; one that is not done ends it and is not counted
abbrev pub after_one : Bool → Result → Erases → Erases
after_one true r e = record { log = r.log ++ e.log; answer = e.answer; finished = suc e.finished; room = e.room; unread = e.unread }
after_one false r e = record { log = r.log; answer = r.answer; finished = 0; room = r.room; unread = r.unread }

-- with room for so many accesses, over these replies
abbrev pub one_by_one : List ℕ → ℕ → List ℕ → Erases
one_by_one [] n rs = record { log = []; answer = Done; finished = 0; room = n; unread = rs }
one_by_one (a ∷ l) n rs = after_one (is_done (called (erase_sector a) n rs).answer) (called (erase_sector a) n rs) (one_by_one l (called (erase_sector a) n rs).room (called (erase_sector a) n rs).unread)

-- a run is that of the single erases
pub record Singles (l : List ℕ) (n : ℕ) (rs : List ℕ) (r : Result) : Type 0 where
  pub log : r.log ≡ (one_by_one l n rs).log
  pub answer : r.answer ≡ (one_by_one l n rs).answer
  pub finished : count_in r.state ≡ (one_by_one l n rs).finished
  pub room : r.room ≡ (one_by_one l n rs).room
  pub unread : r.unread ≡ (one_by_one l n rs).unread

-- the same of what is handed back: how it ended, the count, and the log, in which the accesses stand before the words that were there
pub record SingleErases (l : List ℕ) (n : ℕ) (rs log : List ℕ) (answer : Status) (finished : ℕ) (log₁ : List ℕ) : Type 0 where
  pub ends : answer ≡ (one_by_one l n rs).answer
  pub counts : finished ≡ (one_by_one l n rs).finished
  pub logged : log₁ ≡ encode (one_by_one l n rs).log ++ drop (2 * length (one_by_one l n rs).log) log

-- ---- the lists that are erased

-- none of 33, 1, 2 and 32 applies: "up to 256 sector addresses", each in range and at a sector's start, and none of them named twice
pub record Accepted (l : List ℕ) : Type 0 where
  pub short : length l ≤ longest_list
  pub sound : (i : ℕ) → i < length l → (get_or l i 0 + sector_size ≤ last_end) × (get_or l i 0 % sector_size ≡ 0)
  pub distinct : (i j : ℕ) → i < j → j < length l → get_or l i 0 ≡ get_or l j 0 → ⊥
