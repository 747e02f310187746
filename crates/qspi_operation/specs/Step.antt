-- A step of an operation: what is due, what is answered, and the log and buffer after it. Document 01, "What changes shape" and "What the
-- state can bring on".
use Rattle.std.specs.Prelude.{ℕ, ◌+◌, ◌%◌, ◌^◌, Bool, true, false, ◌&&◌, List, [], ◌∷◌, length, ◌==◌, nat_le, nat_lt, slice_index, slice_set}
use Rattle.zynq7000.specs.Number as paper
use Rattle.qspi_transfer.specs.LowLevel.{sequence_due, chip_select_high, chip_select_low, started}
use Rattle.qspi_transfer.specs.Wire.{fresh_wire, pick_wire, wire_next}
use Rattle.qspi_transfer.specs.declared.Due.{Due}
use Rattle.qspi_transfer.specs.declared.Due.TheVariants as due
use Rattle.qspi_transfer.specs.declared.Phase.{Phase}
use Rattle.qspi_transfer.specs.declared.Phase.TheVariants.{DrainStatus, DrainData, OpenRead, OpenWrite, Enable, Send, StartRead, StartWrite, Wait, WaitAgain, Take, CloseRead, CloseWrite, Disable, Registers}
use Rattle.qspi_transfer.specs.declared.Wire.{Wire}
use Rattle.qspi_script.specs.Stages.{frame_of, due_word}
use Rattle.qspi_script.specs.Turns.{turn_of}
use Rattle.qspi_script.specs.declared.Status.{Status}
use Rattle.qspi_script.specs.declared.Status.TheVariants as status
use Rattle.qspi_script.specs.declared.Sequel.{Sequel}
use Rattle.qspi_script.specs.declared.Sequel.TheVariants as sequel
use Rattle.qspi_script.specs.declared.Job.{Job}
use Rattle.qspi_script.specs.declared.Place.{Place}
use Rattle.qspi_script.specs.declared.Turned.{Turned}
use Rattle.qspi_operation.specs.Store.{stored}
use Rattle.qspi_operation.specs.declared.Op.{Op}
use Rattle.std.specs.Prelude.{Option, Some, None, Result, Ok, Err}
use Rattle.qspi_operation.specs.declared.LentLengthChanged.{LentLengthChanged}
use Rattle.qspi_operation.specs.declared.Stepped.{Stepped}

abbrev pub is_going : Status → Bool
is_going status.Going = true
is_going status.Done = false
is_going status.OutOfRange = false
is_going status.Alignment = false
is_going status.DataTooLarge = false
is_going status.NotAligned = false
is_going status.CrossesPageBoundary = false
is_going status.AddressSpan = false
is_going status.FieldTooWide = false
is_going status.EraseErrorBitSet = false
is_going status.ProgrammingErrorBitSet = false
is_going status.RepliesEnded = false
is_going status.LogFull = false
is_going status.LentLengthChanged = false
is_going status.RepeatedSector = false
is_going status.ListTooLong = false

-- ---- the access that is due

abbrev pub register_access : Job → Wire → Due
register_access job w = sequence_due job.low_level.sequence w.sent w.config job.low_level.word

abbrev pub send_access : Job → Place → Wire → List ℕ → Due
send_access job p w bytes = due.Write (frame_of job p).port (due_word job p w.sent bytes)

abbrev pub access_at : Phase → Job → Place → Wire → List ℕ → Due
access_at DrainStatus job p w bytes = due.Read 0x04
access_at DrainData job p w bytes = due.Read 0x20
access_at OpenRead job p w bytes = due.Read 0x00
access_at OpenWrite job p w bytes = due.Write 0x00 (chip_select_low w.config)
access_at Enable job p w bytes = due.Write 0x14 1
access_at Send job p w bytes = send_access job p w bytes
access_at StartRead job p w bytes = due.Read 0x00
access_at StartWrite job p w bytes = due.Write 0x00 (started w.config)
access_at Wait job p w bytes = due.Read 0x04
access_at WaitAgain job p w bytes = due.Read 0x04
access_at Take job p w bytes = due.Read 0x20
access_at CloseRead job p w bytes = due.Read 0x00
access_at CloseWrite job p w bytes = due.Write 0x00 (chip_select_high w.config)
access_at Disable job p w bytes = due.Write 0x14 0
access_at Registers job p w bytes = register_access job w

abbrev pub access_of : Job → Place → Wire → List ℕ → Due
access_of job p w bytes = access_at w.phase job p w bytes

-- what a query answers: the access that is due, or none, or that the data lent has another length
abbrev pub Asked : Type 0
Asked = Result (Option Due) LentLengthChanged

abbrev pub length_changed : Asked
length_changed = Err (record {})

abbrev pub shown : Due → Asked
shown x = Ok (Some x)

abbrev pub pick_asked : Bool → Asked → Asked → Asked
pick_asked true a b = a
pick_asked false a b = b

-- "The access due can be asked for beforehand without effect"; with another length of data it is not known
abbrev pub due_of : Op → List ℕ → Asked
due_of o bytes =
    pick_asked (is_going o.status)
    (pick_asked (length bytes == o.job.lent.«data») (shown (access_of o.job o.place o.wire bytes)) length_changed)
    (Ok None)

-- its number, where it has one, and values: of an access what its log words will be, as far as they are known beforehand; of an operation that has ended, nothing
pub record Query : Type 0 where
  pub number : Option ℕ
  pub values : List ℕ

abbrev pub asked_answer : Asked → Query
asked_answer (Ok (Some (due.Read o))) = record { number = None; values = (0x100 + o) ∷ [] }
asked_answer (Ok (Some (due.Write o v))) = record { number = None; values = o ∷ v ∷ [] }
asked_answer (Ok None) = record { number = None; values = [] }
asked_answer (Err e) = record { number = Some (paper.number paper.LentLengthChanged); values = [] }

-- ---- what a step does

-- nothing, or one access, as its two log words and whether it used a reply
pub data Verdict : Type 0 where
  Ended : Verdict
  Changed : Verdict
  Full : Verdict
  Dry : Verdict
  Made : ℕ → ℕ → Bool → Verdict

-- "An access is two 32-bit words: offset (plus 100 hex for a read), then value"; only a read uses a reply
abbrev pub answered : Due → Option ℕ → Verdict
answered (due.Read o) (Some v) = Made (0x100 + o) v true
answered (due.Read o) None = Dry
answered (due.Write o v) r = Made o v false

abbrev pub choose : Bool → Verdict → Verdict → Verdict
choose true a b = a
choose false a b = b

abbrev pub same_lengths : Job → ℕ → ℕ → ℕ → Bool
same_lengths job data₁ buffer log = data₁ == job.lent.«data» && (buffer == job.lent.buffer && log == job.lent.log)

-- another lent length: 25; fewer than two words of log left: 24; a read and no reply: 23
abbrev pub going : Op → List ℕ → ℕ → ℕ → Option ℕ → Verdict
going o bytes buffer room r =
    choose (same_lengths o.job (length bytes) buffer room)
    (choose (nat_le (o.used + 2) room) (answered (access_of o.job o.place o.wire bytes) r) Full)
    Changed

abbrev pub verdict_of : Op → List ℕ → ℕ → ℕ → Option ℕ → Verdict
verdict_of o bytes buffer room r = choose (is_going o.status) (going o bytes buffer room r) Ended

-- ---- the operation after it

abbrev pub stopped : Op → Status → Stepped
stopped o a = record {
  op = record { job = o.job; place = o.place; wire = o.wire; used = o.used; replies = o.replies; status = a };
  answer = a;
}

abbrev pub went_on : Op → Wire → ℕ → ℕ → Stepped
went_on o w used replies = record {
  op = record { job = o.job; place = o.place; wire = w; used = used; replies = replies; status = status.Going };
  answer = status.Going;
}

-- the next transfer begins afresh
abbrev pub turned_to : Op → Turned → ℕ → ℕ → Stepped
turned_to o t used replies = record {
  op = record {
    job = o.job;
    place = t.place;
    wire = pick_wire (is_going t.status) (fresh_wire DrainStatus) o.wire;
    used = used;
    replies = replies;
    status = t.status;
  };
  answer = t.status;
}

abbrev pub turned_on : Op → ℕ → ℕ → Stepped
turned_on o used replies = turned_to o (turn_of o.job o.place o.wire.last) used replies

abbrev pub moved_by : Option Wire → Op → ℕ → ℕ → Stepped
moved_by (Some w) o used replies = went_on o w used replies
moved_by None o used replies = turned_on o used replies

-- after an access of value v, with the new used counts
abbrev pub moved : Op → ℕ → ℕ → ℕ → Stepped
moved o used replies v = moved_by (wire_next o.wire (frame_of o.job o.place) v) o used replies

abbrev pub counted : Bool → ℕ → ℕ
counted true n = (n + 1) % 2 ^ 64
counted false n = n

abbrev pub act : Verdict → Op → Stepped
act Ended o = record { op = o; answer = o.status }
act Changed o = record { op = o; answer = status.LentLengthChanged }
act Full o = stopped o status.LogFull
act Dry o = stopped o status.RepliesEnded
act (Made first v read) o = moved o (o.used + 2) (counted read o.replies) v

-- the state and the answer after a step
abbrev pub step_of : Op → List ℕ → ℕ → ℕ → Option ℕ → Stepped
step_of o bytes buffer room r = act (verdict_of o bytes buffer room r) o

-- ---- the memory after it

abbrev pub written : List ℕ → ℕ → ℕ → ℕ → List ℕ
written log at first v = slice_set (slice_set log at first) (at + 1) v

abbrev pub noted : Verdict → ℕ → List ℕ → List ℕ
noted Ended at log = log
noted Changed at log = log
noted Full at log = log
noted Dry at log = log
noted (Made first v read) at log = written log at first v

-- the log after a step
abbrev pub log_of : Op → List ℕ → ℕ → List ℕ → Option ℕ → List ℕ
log_of o bytes buffer log r = noted (verdict_of o bytes buffer (length log) r) o.used log

abbrev pub taken : Verdict → Op → List ℕ → List ℕ
taken Ended o buffer = buffer
taken Changed o buffer = buffer
taken Full o buffer = buffer
taken Dry o buffer = buffer
taken (Made first v read) o buffer = stored o.job o.place o.wire v buffer

-- the read buffer after a step
abbrev pub buffer_of : Op → List ℕ → List ℕ → ℕ → Option ℕ → List ℕ
buffer_of o bytes buffer room r = taken (verdict_of o bytes (length buffer) room r) o buffer

abbrev pub pick_reply : Bool → Option ℕ → Option ℕ → Option ℕ
pick_reply true a b = a
pick_reply false a b = b

abbrev pub reply_of : List ℕ → ℕ → Option ℕ
reply_of replies at = pick_reply (nat_lt at (length replies)) (Some (slice_index replies at)) None

-- ---- what the answer counts

-- "4 or 5 may come after finished chunks, .. whose bytes the answer counts"; "the failed chunk isn't counted": the bytes done are those of the finished chunks of `write_pages`. U1: "The
-- answer counts sectors finished": of a list what is done are its finished sectors. Any other call counts nothing
abbrev pub counted_by : Sequel → ℕ → ℕ
counted_by sequel.Once done = 0
counted_by sequel.Pages done = done
counted_by sequel.Sectors done = done

-- a list of sectors, which is lent as data
abbrev pub is_list : Sequel → Bool
is_list sequel.Once = false
is_list sequel.Pages = false
is_list sequel.Sectors = true

abbrev pub erases_list : Op → Bool
erases_list o = is_list o.job.script.sequel

abbrev pub counted_at : Job → Place → ℕ
counted_at job p = counted_by job.script.sequel p.done

abbrev pub counted_of : Op → ℕ
counted_of o = counted_at o.job o.place
