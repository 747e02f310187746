-- Lines of document 01's example, "Log and printer", and a `BAD` line, computed from the definitions; and witnesses. Assumes nothing.
use Rattle.std.proofs.Common.{◌≡◌, ℕ, true, false, List, [], ◌∷◌, refl, arith}
use Rattle.zynq7000.specs.Access.{Loggable}
use Rattle.zynq7000.specs.declared.qspi.Access.TheVariants.{Read, Write}
use Rattle.access_log.specs.Log.{entry_at, entry_in, bytes_of}
use Rattle.access_log.specs.declared.reader.LogReader.{LogReader}
use Rattle.access_log.specs.Reader.{first_other, accesses_in}
use Rattle.access_log.specs.Text.{line_of, decimal_up_to, bad_line, all_accesses}

-- `W 00 8008C0C1`
pub a_write : line_of (Write 0x00 0x8008_C0C1) ≡ 87 ∷ 32 ∷ 48 ∷ 48 ∷ 32 ∷ 56 ∷ 48 ∷ 48 ∷ 56 ∷ 67 ∷ 48 ∷ 67 ∷ 49 ∷ 10 ∷ []
a_write = refl

-- `R 20 FF000000`
pub a_read : line_of (Read 0x20 0xFF00_0000) ≡ 82 ∷ 32 ∷ 50 ∷ 48 ∷ 32 ∷ 70 ∷ 70 ∷ 48 ∷ 48 ∷ 48 ∷ 48 ∷ 48 ∷ 48 ∷ 10 ∷ []
a_read = refl

-- `BAD 1100`
pub a_bad_record : bad_line 1100 ≡ 66 ∷ 65 ∷ 68 ∷ 32 ∷ 49 ∷ 49 ∷ 48 ∷ 48 ∷ 10 ∷ []
unfolding bad_line decimal_up_to
a_bad_record = refl

-- an access, a record that 13 refuses, and an access behind it: one leads
pub one_leads : accesses_in (0x80 ∷ 0x06 ∷ 0x82 ∷ 0x06 ∷ 0x14 ∷ 0x00 ∷ []) ≡ 1
unfolding first_other entry_at
one_leads = refl

-- ---- the premises of the laws can be met

-- of `reads_back`: accesses of registers
pub loggable_accesses : Loggable (Read 0x04 0x10 ∷ Write 0x80 0x06 ∷ [])
loggable_accesses = (record { fourth = refl; byte = omega arith }, (record { fourth = refl; byte = omega arith }, tt))

-- of `reader_reads_back` and of `reader_ends`: a reader at the start of a log
pub starting_reader : (log : List ℕ) → (r : LogReader) × ((r.log.now ≡ log) × (r.at ≡ 0))
starting_reader log = (record { log = record { ref_ptr = (0, 0); now = log }; at = 0 }, (refl, refl))

-- of `text_of_parts` and of `text_stops`: a record that is an access, and one that is none
pub all_accesses_lem : all_accesses 1 (entry_in (bytes_of (0x80 ∷ 0x06 ∷ []))) 0 ≡ true
unfolding all_accesses entry_in bytes_of
all_accesses_lem = refl

pub not_all_accesses : all_accesses 1 (entry_in (bytes_of (0x82 ∷ 0x06 ∷ []))) 0 ≡ false
unfolding all_accesses entry_in bytes_of
not_all_accesses = refl
