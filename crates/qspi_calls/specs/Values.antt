-- Which answers have values. Document 01 gives values with the calls that return something (ids, status and config, the SLCR clock word), and to a refusal of theirs none; document 02
-- gives a place with 1, 2 and 32 of a list of sectors (U1). A call that is not a list has no value where 1 or 2 refuses it.
use Rattle.std.specs.Prelude.{Bool, true, false}
use Rattle.qspi_script.specs.declared.Status.{Status}
use Rattle.qspi_script.specs.declared.Status.TheVariants.{Going, Done, OutOfRange, Alignment, DataTooLarge, NotAligned, CrossesPageBoundary, AddressSpan, FieldTooWide, EraseErrorBitSet, ProgrammingErrorBitSet, RepliesEnded, LogFull, LentLengthChanged, RepeatedSector, ListTooLong}

abbrev pub has_values : Status → Bool
has_values Going = false
has_values Done = true
has_values OutOfRange = true
has_values Alignment = true
has_values DataTooLarge = false
has_values NotAligned = false
has_values CrossesPageBoundary = false
has_values AddressSpan = false
has_values FieldTooWide = false
has_values EraseErrorBitSet = false
has_values ProgrammingErrorBitSet = false
has_values RepliesEnded = false
has_values LogFull = false
has_values LentLengthChanged = false
has_values RepeatedSector = true
has_values ListTooLong = false
