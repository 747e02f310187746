-- What the run of `write_pages` promises, out of what its start and its run promise. Assumes nothing.
use mathlib.Core.Path.{◌≡◌, refl, ap, subst, ◌∙◌, sym}
use mathlib.Core.Bool.{Bool, true, false}
use mathlib.Core.List.{List, []}
use Prim.Native.Nat.{ℕ, ◌+◌, ◌/◌, ◌<◌}
use lib.Dec.{ltb}
use lib.ListN.{length, get_or}
use Rattle.qspi_script.specs.Answer.{Answered}
use Rattle.qspi_script.specs.declared.Gives.TheVariants as gives
use Rattle.qspi_script.specs.declared.Job.{Job}
use Rattle.qspi_script.specs.declared.Status.{Status}
use Rattle.qspi_script.specs.declared.Status.TheVariants.{OutOfRange}
use Rattle.qspi_script.specs.declared.Stage.TheVariants as stage
use Rattle.qspi_script.specs.Turns.{next_page}
use Rattle.qspi_script.proofs.AnswerLaws.{said_fixes}
use Rattle.qspi_operation.specs.declared.Op.{Op}
use Rattle.qspi_operation.specs.declared.Stepped.{Stepped}
use Rattle.qspi_operation.specs.Run as by-counters
use Rattle.qspi_operation.specs.Run.{run_of}
use Rattle.qspi_operation.specs.Machine.{Result, count_in, called}
use Rattle.qspi_operation.specs.Points.{answered_of}
use Rattle.qspi_operation.specs.Follows.{RunFollows, answer_by}
use Rattle.qspi_operation.specs.Step.{counted_of}
use Rattle.qspi_operation.proofs.Runs.{run_job}
use Rattle.qspi_calls.specs.Begins.{BeginsWith}
use Rattle.qspi_calls.specs.Calls.{write_pages}
use Rattle.qspi_calls.specs.Starts.{pick, over, opened, place_at, paging_job, write_pages_of}
use Rattle.qspi_calls.specs.declared.run.Ran.{Ran}
use Rattle.qspi_calls.specs.Promise.{logged_of, handed, Called}
use Rattle.qspi_calls.proofs.Registers.{Call, run_loggable}
use Rattle.qspi_calls.proofs.Promised.{whole_call}
use Rattle.power_cut.specs.Promise.{Saved, answer_of}
use Rattle.power_cut.specs.declared.PagesRan.{PagesRan}
use Rattle.power_cut.specs.Row.{save_of, IsRun}
use Rattle.power_cut.proofs.Rows.{run_goes, power_cut_behind}
use Rattle.power_cut.proofs.Offsets.{used_words}

-- the job of a save, however it starts
pub paging : (a n log : ℕ) → (write_pages_of a n log).job ≡ paging_job a n log
paging a n log = go (ltb 16777215 (a + n))
  where
    go : (b : Bool) → (pick b (over (paging_job a n log) OutOfRange) (opened (paging_job a n log) (next_page (paging_job a n log) (place_at stage.Enable 0 0 0)))).job ≡ paging_job a n log
    go true = refl
    go false = refl

-- it gives nothing beside its counts
pub pages_answer : (s : Stepped) → s.op.job.script.gives ≡ gives.Nothing → answer_of (record { ran = handed s; programmed = counted_of s.op }) ≡ answer_by s
pages_answer s e = rw e

module _ (a : ℕ) (bytes rs log : List ℕ) where
  abbrev pub result : Result
  result = called (write_pages a bytes) (length log / 2) rs

  -- answer and used counts, bytes programmed, log
  pub record Promised (r : PagesRan) (log₁ : List ℕ) : Type 0 where
    pub answer : answer_of r ≡ answered_of result
    pub logged : log₁ ≡ logged_of result log

  pub promised : {o : Op} {s : Stepped} {r : Ran} {n : ℕ} {buffer₁ log₁ : List ℕ} → (o ≡ write_pages_of a (length bytes) (length log)) × BeginsWith (length bytes) (length log) (write_pages a) o
      → by-counters.Ran s buffer₁ log₁ (run_of o bytes rs [] log) × RunFollows o bytes [] log rs s buffer₁ log₁ → n ≡ counted_of s.op → r ≡ handed s → Promised (record { ran = r; programmed = n }) log₁
  promised {o} {s} {buffer₁ = buffer₁} {log₁ = log₁} e h f g =
      let k : Called (write_pages a bytes) log [] rs s buffer₁ log₁ = whole_call (write_pages a bytes) (record { bytes = bytes; buffer = []; room = length log }) (e.1 bytes refl) h.1 refl refl in
      let j : s.op.job ≡ paging_job a (length bytes) (length log) = ap (λ (z : Op). z.job) h.0.op ∙ run_job o bytes rs [] log ∙ ap (λ (z : Op). z.job) e.0 ∙ paging a (length bytes) (length log) in
      record { answer = rw (g, f) (pages_answer s (ap (λ (z : Job). z.script.gives) j)) ∙ k.answer; logged = k.logged }

  -- the status and the counts that an answer says
  ran_is : {r : PagesRan} → answer_of r ≡ answered_of result → r ≡ record { ran = record { answer = result.answer; used = (answered_of result).used; replies = (answered_of result).replies }; programmed = count_in result.state }
  ran_is {r} e =
      let y : r.ran.answer ≡ result.answer = said_fixes _ _ _ _ (ap (λ (x : Answered). x.says) e) in
      let u : r.ran.used ≡ (answered_of result).used = ap (λ (x : Answered). x.used) e in
      let i : r.ran.replies ≡ (answered_of result).replies = ap (λ (x : Answered). x.replies) e in
      let n : r.programmed ≡ count_in result.state = ap (λ (x : Answered). x.counted) e in
      ap (λ (z : Status). record { ran = record { answer = z; used = r.ran.used; replies = r.ran.replies }; programmed = r.programmed }) y
      ∙ ap (λ (z : ℕ). record { ran = record { answer = result.answer; used = z; replies = r.ran.replies }; programmed = r.programmed }) u
      ∙ ap (λ (z : ℕ). record { ran = record { answer = result.answer; used = (answered_of result).used; replies = z }; programmed = r.programmed }) i
      ∙ ap (λ (z : ℕ). record { ran = record { answer = result.answer; used = (answered_of result).used; replies = (answered_of result).replies }; programmed = z }) n

  -- the result is that of a run
  is_run : ((i : ℕ) → get_or bytes i 0 < 256) → IsRun (save_of a bytes result)
  is_run octets = record { octets = octets; room = length log / 2; replies = rs; is = refl }

  -- and the power-cut statement of them
  pub saved : {r : PagesRan} {log₁ : List ℕ} → ((i : ℕ) → get_or bytes i 0 < 256) → Promised r log₁ → Saved a bytes r log₁
  saved {r} {log₁} octets p =
      subst (λ (z : PagesRan). Saved a bytes z log₁) (sym (ran_is {r = r} p.answer)) (rw p.logged (record {
        accesses = result.log;
        is_log = used_words result log;
        to_registers = run_loggable (Call.write_pages_call a bytes) (length log / 2) rs;
        runs = λ g. is_run octets;
        claim = power_cut_behind (run_goes (is_run octets));
      }))
