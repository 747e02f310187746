-- Calls of one-word transfers: each is tied to its script. Assumes nothing.
use mathlib.Core.Path.{◌≡◌, refl, sym}
use mathlib.Core.Bool.{false}
use mathlib.Core.List.{List, [], ◌∷◌, reverse}
use Prim.Native.Nat.{ℕ, zero, suc, ◌<◌}
use native.Mathlib.Omega.{arith}
use lib.ListN.{length, get_or}
use Rattle.qspi_transfer.specs.declared.Phase.TheVariants.{DrainStatus, Disable}
use Rattle.qspi_transfer.specs.Wire.{fresh_wire}
use Rattle.qspi_transfer.specs.declared.Wire.{Wire}
use Rattle.qspi_script.specs.Stages.{one_word, frame_of, first_word, due_word}
use Rattle.qspi_script.specs.Turns.{turn_of}
use Rattle.qspi_script.specs.declared.Status.{Status}
use Rattle.qspi_script.specs.declared.Status.TheVariants.{Going}
use Rattle.qspi_script.specs.Answer.{said_by}
use Rattle.qspi_script.specs.declared.Sequel.{Sequel}
use Rattle.qspi_script.specs.declared.Sequel.TheVariants.{Once, Pages, Sectors}
use Rattle.qspi_script.specs.declared.Job.{Job}
use Rattle.qspi_script.specs.declared.Place.{Place}
use Rattle.qspi_operation.specs.Store.{is_reading}
use Rattle.qspi_operation.specs.Step.{is_going, counted_by, counted_at}
use Rattle.qspi_operation.proofs.Verdicts.{no}
use Rattle.qspi_operation.specs.Machine.{Transfer, Script, ends, exchange, State, ended, nothing, want, status_in, values_in, count_in}
use Rattle.qspi_calls.specs.Calls.{short}
use Rattle.qspi_calls.specs.Starts as start
use Rattle.qspi_calls.proofs.Tied.{given, Tie, Starts}
use Rattle.qspi_calls.proofs.Phases.{wire, words, Same, p_drain}
use Rattle.qspi_calls.proofs.Scripted.{Turns, Rel, rel_on, script_tie}

-- the replies of a transfer that takes one, or three
pub of_one : (taken : List ℕ) (P : List ℕ → Type 0) → length taken ≡ 1 → ((r : ℕ) → P (r ∷ [])) → P taken
of_one [] P e h = absurd (omega arith)
of_one (r ∷ []) P e h = h r
of_one (r ∷ s ∷ l) P e h = absurd (omega arith)

pub of_three : (taken : List ℕ) (P : List ℕ → Type 0) → length taken ≡ 3 → ((q r s : ℕ) → P (q ∷ r ∷ s ∷ [])) → P taken
of_three [] P e h = absurd (omega arith)
of_three (q ∷ []) P e h = absurd (omega arith)
of_three (q ∷ r ∷ []) P e h = absurd (omega arith)
of_three (q ∷ r ∷ s ∷ []) P e h = h q r s
of_three (q ∷ r ∷ s ∷ t ∷ l) P e h = absurd (omega arith)

pub same_short : (port word : ℕ) → Same (one_word port) (short port word)
same_short port word = record { port = refl; further = refl; bytes = refl; few = omega arith; twice = refl }

pub word_short : (job : Job) (p : Place) (bytes : List ℕ) (port word : ℕ) → first_word job p bytes ≡ word → (i : ℕ) → i < length (words (short port word)) → due_word job p i bytes ≡ get_or (words (short port word)) i 0
word_short job p bytes port word e zero l = e
word_short job p bytes port word e (suc i) l = absurd (omega arith)

-- ---- a call of one transfer

pub data Only (p₀ : Place) (x₀ : Transfer) (k₀ : List ℕ → Script) : Place → Transfer → (List ℕ → Script) → Type 0 where
  only : Only p₀ x₀ k₀ p₀ x₀ k₀

module _ (job : Job) (p : Place) (buffer : List ℕ) (x : Transfer) (k : List ℕ → Script) (same : Same (frame_of job p) x)
    (word : (i : ℕ) → i < length (words x) → due_word job p i [] ≡ get_or (words x) i 0)
    (turn : (c i b : ℕ) (taken : List ℕ) → length taken ≡ x.replies → Turns job [] buffer (Only p x k) (turn_of job p (get_or taken 0 0)) (wire Disable c i b taken) (counted_at job p) (k (reverse taken)))
    (unread : is_reading p.stage ≡ false) where
  only_same : (q : Place) (y : Transfer) (z : List ℕ → Script) → Only p x k q y z → Same (frame_of job q) y
  only_same q y z only = same

  only_word : (q : Place) (y : Transfer) (z : List ℕ → Script) → Only p x k q y z → (i : ℕ) → i < length (words y) → due_word job q i [] ≡ get_or (words y) i 0
  only_word q y z only = word

  only_turn : (q : Place) (y : Transfer) (z : List ℕ → Script) → Only p x k q y z → (c i b : ℕ) (taken : List ℕ) → length taken ≡ y.replies
      → Turns job [] buffer (Only p x k) (turn_of job q (get_or taken 0 0)) (wire Disable c i b taken) (counted_at job q) (z (reverse taken))
  only_turn q y z only = turn

  only_unread : (q : Place) (y : Transfer) (z : List ℕ → Script) → Only p x k q y z → is_reading q.stage ≡ false
  only_unread q y z only = unread

  pub one_transfer_lem : (log : List ℕ) → 0 ≡ counted_at job p → 0 ≡ job.lent.«data» → length log ≡ job.lent.log → length buffer ≡ job.lent.buffer → Starts (start.going job p) [] log buffer (exchange x k)
  one_transfer_lem log n d l b = record {
    job = job;
    place = p;
    wire = _;
    status = Going;
    is = refl;
    Rel = Rel job [] buffer (Only p x k);
    tie = script_tie job [] buffer (Only p x k) (record { same = only_same; word = only_word; turn = only_turn; unread = only_unread });
    rel = rel_on n only p_drain;
    lent_data = d;
    lent_log = l;
    lent_buffer = b;
    unread = refl;
  }

-- ---- a call that has ended at its start

data Over (job : Job) : Place → Wire → Status → State → Type 0 where
  over_at : {p : Place} {w : Wire} {a : Status} {vs : List ℕ} → 0 ≡ p.done → is_going a ≡ false → said_by a (given job w) ≡ said_by a vs → Over job p w a (ended a vs [] 0)

over_tie : (job : Job) (bytes buffer : List ℕ) → Tie job bytes buffer (Over job)
over_tie job bytes buffer = record {
  due = λ p w s q. absurd (not_going q);
  some = λ p w s q e. not_going q;
  steps = λ p w s v q. absurd (not_going q);
  over = λ p w a s q g. ended-over q;
  values = λ p w a s q g. nothing-given q;
  counts = λ p w a s q. nothing-counted job.script.sequel q;
  keeps = λ p w s v q. absurd (not_going q);
}
  where
    not_going : {p : Place} {w : Wire} {s : State} → Over job p w Going s → ⊥
    not_going (over_at e g f) = no (sym g)

    ended-over : {p : Place} {w : Wire} {a : Status} {s : State} → Over job p w a s → (want s ≡ nothing) × (a ≡ status_in s)
    ended-over (over_at e g f) = (refl, refl)

    nothing-counted : (q : Sequel) {p : Place} {w : Wire} {a : Status} {s : State} → Over job p w a s → count_in s ≡ counted_by q p.done
    nothing-counted Once (over_at e g f) = refl
    nothing-counted Pages (over_at e g f) = e
    nothing-counted Sectors (over_at e g f) = e

    nothing-given : {p : Place} {w : Wire} {a : Status} {s : State} → Over job p w a s → said_by a (given job w) ≡ said_by a (values_in s)
    nothing-given (over_at e g f) = f

-- with these values
pub ended_with : (vs : List ℕ) (job : Job) (bytes log buffer : List ℕ) (a : Status) → is_going a ≡ false → ((w : Wire) → said_by a (given job w) ≡ said_by a vs) → length bytes ≡ job.lent.«data» → length log ≡ job.lent.log
    → length buffer ≡ job.lent.buffer → Starts (start.over job a) bytes log buffer (ends a vs)
ended_with vs job bytes log buffer a g f d l b = record {
  job = job;
  place = _;
  wire = _;
  status = a;
  is = refl;
  Rel = Over job;
  tie = over_tie job bytes buffer;
  rel = over_at refl g (f (fresh_wire DrainStatus));
  lent_data = d;
  lent_log = l;
  lent_buffer = b;
  unread = refl;
}

pub ended_at_start : (job : Job) (bytes log buffer : List ℕ) (a : Status) → is_going a ≡ false → ((w : Wire) → said_by a (given job w) ≡ said_by a []) → length bytes ≡ job.lent.«data» → length log ≡ job.lent.log
    → length buffer ≡ job.lent.buffer → Starts (start.over job a) bytes log buffer (ends a [])
ended_at_start = ended_with []
