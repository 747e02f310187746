-- The numbers of the answers, in one place: document 01's tables "What the input can bring on" and "What the state can bring on", and what the requests of document 02 add
-- (U1: "new 32 RepeatedSector .., new 33 ListTooLong"; U3: "new 31 BaudDivOutOfRange").
use Rattle.std.specs.Prelude.{ℕ, List, []}

-- the refusals by the papers' names
pub data Refusal : Type 0 where
  OutOfRange Alignment DataTooLarge NotAligned CrossesPageBoundary : Refusal
  RefDivOutOfRange RefClockSmallerThanCpu1xClock ZeroClock TargetTooFast : Refusal
  AddressSpan UnknownCode FieldTooWide BadLog : Refusal
  EraseErrorBitSet ProgrammingErrorBitSet RepliesEnded LogFull LentLengthChanged : Refusal
  BaudDivOutOfRange RepeatedSector ListTooLong : Refusal

abbrev pub number : Refusal → ℕ
number OutOfRange = 1
number Alignment = 2
number DataTooLarge = 3
number NotAligned = 4
number CrossesPageBoundary = 5
number RefDivOutOfRange = 6
number RefClockSmallerThanCpu1xClock = 7
number ZeroClock = 8
number TargetTooFast = 9
number AddressSpan = 10
number UnknownCode = 11
number FieldTooWide = 12
number BadLog = 13
number EraseErrorBitSet = 21
number ProgrammingErrorBitSet = 22
number RepliesEnded = 23
number LogFull = 24
number LentLengthChanged = 25
number BaudDivOutOfRange = 31
number RepeatedSector = 32
number ListTooLong = 33

-- an answer as 01 speaks of it: its number, 0 where nothing is refused, and its values in order
pub record Answer : Type 0 where
  pub number : ℕ
  pub values : List ℕ

abbrev pub accepted : List ℕ → Answer
accepted vs = record { number = 0; values = vs }

abbrev pub refused : Refusal → Answer
refused r = record { number = number r; values = [] }

-- a refusal that carries values
abbrev pub refused_with : Refusal → List ℕ → Answer
refused_with r vs = record { number = number r; values = vs }
