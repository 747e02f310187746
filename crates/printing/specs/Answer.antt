-- Answers as the programs print them.
use Rattle.std.specs.Prelude.{ℕ, List, [], ◌++◌, codes, decimal, if◌then◌else◌, ◌==◌}

-- the papers' names, by number: 0 is done, and a number between the refusals has no name
abbrev pub answer_name : ℕ → List ℕ
answer_name n =
    if n == 0 then codes "Done" else (
    if n == 1 then codes "OutOfRange" else (
    if n == 2 then codes "Alignment" else (
    if n == 3 then codes "DataTooLarge" else (
    if n == 4 then codes "NotAligned" else (
    if n == 5 then codes "CrossesPageBoundary" else (
    if n == 6 then codes "RefDivOutOfRange" else (
    if n == 7 then codes "RefClockSmallerThanCpu1xClock" else (
    if n == 8 then codes "ZeroClock" else (
    if n == 9 then codes "TargetTooFast" else (
    if n == 10 then codes "AddressSpan" else (
    if n == 11 then codes "UnknownCode" else (
    if n == 12 then codes "FieldTooWide" else (
    if n == 13 then codes "BadLog" else (
    if n == 21 then codes "EraseErrorBitSet" else (
    if n == 22 then codes "ProgrammingErrorBitSet" else (
    if n == 23 then codes "RepliesEnded" else (
    if n == 24 then codes "LogFull" else (
    if n == 25 then codes "LentLengthChanged" else (
    if n == 31 then codes "BaudDivOutOfRange" else (
    if n == 32 then codes "RepeatedSector" else (
    if n == 33 then codes "ListTooLong" else
    [])))))))))))))))))))))

-- the number, a blank and the name
abbrev pub answer_text : ℕ → List ℕ
answer_text n = decimal n ++ codes " " ++ answer_name n
