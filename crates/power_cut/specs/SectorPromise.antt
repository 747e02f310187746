-- What `erase_sectors` promises of its log: document 02, U1: "The answer counts sectors finished". The count, and the sectors that the log shows finished and in doubt.
use Rattle.std.specs.Prelude.{ℕ, ◌<◌, ◌≡◌, List, [], ◌∷◌, length, get_or, take}
use Rattle.zynq7000.specs.Access.{encode, Loggable}
use Rattle.zynq7000.specs.declared.qspi.Access.{Access}
use Rattle.qspi_script.specs.Answer.{Answered, said_by}
use Rattle.qspi_script.specs.declared.Status.{Status}
use Rattle.qspi_script.specs.declared.Status.TheVariants.{Going, Done, OutOfRange, Alignment, DataTooLarge, NotAligned, CrossesPageBoundary, AddressSpan, FieldTooWide, EraseErrorBitSet, ProgrammingErrorBitSet, RepliesEnded, LogFull, LentLengthChanged, RepeatedSector, ListTooLong}
use Rattle.power_cut.specs.SectorObserver.{seen}
use Rattle.power_cut.specs.declared.SectorsRan.{SectorsRan}

-- ---- the answer

-- "1 and 2 as for one sector, with the first place, from 0, that meets either; new 32 RepeatedSector (with the first that repeats an earlier one)": the values of an answer of a list
abbrev pub placed : Status → ℕ → List ℕ
placed Going place = []
placed Done place = []
placed OutOfRange place = place ∷ []
placed Alignment place = place ∷ []
placed DataTooLarge place = []
placed NotAligned place = []
placed CrossesPageBoundary place = []
placed AddressSpan place = []
placed FieldTooWide place = []
placed EraseErrorBitSet place = []
placed ProgrammingErrorBitSet place = []
placed RepliesEnded place = []
placed LogFull place = []
placed LentLengthChanged place = []
placed RepeatedSector place = place ∷ []
placed ListTooLong place = []

-- 01's number with the place, the used counts and the sectors finished
abbrev pub sectors_answer : SectorsRan → Answered
sectors_answer r = record { says = said_by r.ran.answer (placed r.ran.answer r.place); used = r.ran.used; replies = r.ran.replies; counted = r.finished }

-- ---- the log

-- of the sectors in doubt, where the first so many of the list are finished: none, or one, the next
pub data NextSector (l : List ℕ) (count : ℕ) : List ℕ → Type 0 where
  no_doubt : NextSector l count []
  the_next : count < length l → NextSector l count (get_or l count 0 ∷ [])

-- the claim about a run of a list, at its end or at any cut point: its accesses so far, and the count so far. Whatever the replies.
pub record ShowsSectors (l : List ℕ) (log : List Access) (count : ℕ) : Type 0 where
  -- "the log is that of the single erases in list order": the finished sectors are the first of the list
  pub finished : (seen log).finished ≡ take count l
  -- "The answer counts sectors finished"
  pub counted : count ≡ length (seen log).finished
  pub doubt : NextSector l count (seen log).doubt

-- the used words of the log are these accesses, each to a register's offset (so there are no others of which they are the words: `one_log` in proofs/Offsets), and the claim holds of them
-- and of the answer's count
pub record Cleared (l : List ℕ) (r : SectorsRan) (log : List ℕ) : Type 0 where
  pub accesses : List Access
  pub is_log : take r.ran.used log ≡ encode accesses
  pub to_registers : Loggable accesses
  pub claim : ShowsSectors l accesses r.finished
