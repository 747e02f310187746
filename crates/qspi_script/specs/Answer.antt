-- What a call answers, as document 01 speaks of it: "If an answer is an enum, the promises use a definition that states this paper's number and values for each of its
-- cases." A call that goes on has no number yet, so that 0 is said only by one that is done. 32 and 33 are document 02's (U1).
use Rattle.std.specs.Prelude.{ℕ, List, [], ◌∷◌, Option, Some, None, unwrap_or}
use Rattle.zynq7000.specs.Number as paper
use Rattle.zedboard_bsp.specs.Words.{top_byte}
use Rattle.zedboard_bsp.specs.DeviceId.{reply_bytes, long_reply_bytes}
use Rattle.qspi_script.specs.declared.Status.{Status}
use Rattle.qspi_script.specs.declared.Status.TheVariants as status
use Rattle.qspi_script.specs.declared.Gives.{Gives}
use Rattle.qspi_script.specs.declared.Gives.TheVariants as gives

-- nothing yet, or a number and values
pub data Said : Type 0 where
  goes_on : Said
  said : paper.Answer → Said

-- by its status, and the values that its call has: where it is done, or where it is refused for an entry of a list, "with the first place, from 0"
abbrev pub said_by : Status → List ℕ → Said
said_by status.Going vs = goes_on
said_by status.Done vs = said (paper.accepted vs)
said_by status.OutOfRange vs = said (paper.refused_with paper.OutOfRange vs)
said_by status.Alignment vs = said (paper.refused_with paper.Alignment vs)
said_by status.DataTooLarge vs = said (paper.refused paper.DataTooLarge)
said_by status.NotAligned vs = said (paper.refused paper.NotAligned)
said_by status.CrossesPageBoundary vs = said (paper.refused paper.CrossesPageBoundary)
said_by status.AddressSpan vs = said (paper.refused paper.AddressSpan)
said_by status.FieldTooWide vs = said (paper.refused paper.FieldTooWide)
said_by status.EraseErrorBitSet vs = said (paper.refused paper.EraseErrorBitSet)
said_by status.ProgrammingErrorBitSet vs = said (paper.refused paper.ProgrammingErrorBitSet)
said_by status.RepliesEnded vs = said (paper.refused paper.RepliesEnded)
said_by status.LogFull vs = said (paper.refused paper.LogFull)
said_by status.LentLengthChanged vs = said (paper.refused paper.LentLengthChanged)
said_by status.RepeatedSector vs = said (paper.refused_with paper.RepeatedSector vs)
said_by status.ListTooLong vs = said (paper.refused paper.ListTooLong)

-- the values of a call, by what it gives, the clock word of its inputs and its last three replies: "Status and config bytes are the top byte of the reply"; "one reply, its bytes 1 to 3"; "bytes 1
-- to 8 of three replies"; "Its SLCR clock word is returned"; U1: "with the first place, from 0, that meets either", "the first that repeats an earlier one"
abbrev pub values_of : Gives → ℕ → ℕ → ℕ → ℕ → List ℕ
values_of gives.Nothing clock older old last = []
values_of gives.Register clock older old last = top_byte last ∷ []
values_of gives.Id clock older old last = reply_bytes last
values_of gives.LongId clock older old last = long_reply_bytes older old last
values_of gives.Clock clock older old last = clock ∷ []
values_of (gives.Place n) clock older old last = n ∷ []

-- the whole of an answer: what is said, with the call's own values (a register's byte, the bytes of an id, the SLCR word), "both used counts (log words, replies)", and
-- the count: of programmed bytes by `write_pages`, of finished sectors by a list, a refusal included; 0 by any other call
pub record Answered : Type 0 where
  pub says : Said
  pub used : ℕ
  pub replies : ℕ
  pub counted : ℕ

-- ---- its parts

-- the number
abbrev pub number_in : Said → Option ℕ
number_in goes_on = None
number_in (said a) = Some a.number

-- or another one where it has none
abbrev pub or_else : Option ℕ → ℕ → ℕ
or_else number without = unwrap_or number without

-- that of a status; one that goes on has none, and is given one that no answer has
abbrev pub number_of : Status → ℕ
number_of a = or_else (number_in (said_by a [])) 26

-- the values; none while it goes on
abbrev pub values_in : Said → List ℕ
values_in goes_on = []
values_in (said a) = a.values
