-- The transfers of the calls by their counters: how many words and replies each has, and the words it sends. Document 01, "One transfer,
-- access by access"; the words are those of specs/Words of zedboard_bsp.
use Rattle.std.specs.Prelude.{ℕ, ◌+◌, ◌-◌, ◌*◌, ◌/◌, ◌%◌, ◌^◌, Bool, true, false, cond, List, [], ◌∷◌, length, ◌==◌, nat_le, slice_index}
use Rattle.zynq7000.specs.Bits.{flag_value}
use Rattle.zynq7000_hal.specs.Fifo.{prefilled}
use Rattle.zedboard_bsp.specs.Limits.{sector_start}
use Rattle.zedboard_bsp.specs.Words.{word_of, command_only, command_word, write_status_word, write_registers_word}
use Rattle.zedboard_bsp.specs.declared.qspi_spansion.RegisterId.TheVariants as command
use Rattle.qspi_transfer.specs.LowLevel.{sequence_more}
use Rattle.qspi_transfer.specs.declared.Frame.{Frame}
use Rattle.qspi_script.specs.declared.Stage.{Stage}
use Rattle.qspi_script.specs.declared.Stage.TheVariants.{Enable, Disable, Clear, ReadStatus, ReadConfig, WriteStatus, WriteRegisters, ReadId, ReadLongId, Erase, Program, Poll, Read, Registers, End}
use Rattle.qspi_script.specs.declared.Sequel.{Sequel}
use Rattle.qspi_script.specs.declared.Sequel.TheVariants.{Once, Pages, Sectors}
use Rattle.qspi_script.specs.declared.Job.{Job}
use Rattle.qspi_script.specs.declared.Place.{Place}

-- ---- how long a transfer is

-- "A one-word command waits until bit 4 of a status read is set, then reads 20 once."
abbrev pub one_word : ℕ → Frame
one_word port = record { port = port; words = 0; bytes = 4; twice = false }

-- words of four bytes, "each reply after two such status reads"
abbrev pub data_frame : ℕ → ℕ → Frame
data_frame words bytes = record { port = 0x1C; words = words; bytes = bytes; twice = true }

-- the chunk and the dummy byte in words, rounded up
abbrev pub read_words : ℕ → Bool → ℕ
read_words chunk dummy = (chunk + flag_value dummy + 3) / 4

-- "The reply to the command word is dropped", so there is one reply more
abbrev pub read_frame : ℕ → Bool → Frame
read_frame chunk dummy = data_frame (prefilled (read_words chunk dummy)) (read_words chunk dummy * 4 + 4)

-- "the command word and n data words"; document 02, U2: "Take n + 1 replies, one for empty data"
abbrev pub program_frame : ℕ → Frame
program_frame chunk = data_frame (prefilled (chunk / 4)) (chunk + 4)

-- "the long form sends two zero words more and takes bytes 1 to 8 of three replies"
abbrev pub long_id_frame : Frame
long_id_frame = record { port = 0x1C; words = 2; bytes = 12; twice = false }

abbrev pub registers_frame : Job → Frame
registers_frame job = record { port = 0x00; words = sequence_more job.low_level.sequence; bytes = 0; twice = false }

-- "One-byte commands use 80; status and config reads and `write_status` use 84; writing both registers uses 88."
abbrev pub frame_at : Stage → Job → ℕ → Frame
frame_at Enable job chunk = one_word 0x80
frame_at Disable job chunk = one_word 0x80
frame_at Clear job chunk = one_word 0x80
frame_at ReadStatus job chunk = one_word 0x84
frame_at ReadConfig job chunk = one_word 0x84
frame_at WriteStatus job chunk = one_word 0x84
frame_at WriteRegisters job chunk = one_word 0x88
frame_at ReadId job chunk = one_word 0x1C
frame_at ReadLongId job chunk = long_id_frame
frame_at Erase job chunk = one_word 0x1C
frame_at Program job chunk = program_frame chunk
frame_at Poll job chunk = one_word 0x84
frame_at Read job chunk = read_frame chunk job.reading.dummy
frame_at Registers job chunk = registers_frame job
frame_at End job chunk = one_word 0x80

abbrev pub frame_of : Job → Place → Frame
frame_of job p = frame_at p.stage job p.chunk

-- ---- the words

abbrev pub chunk_address : Job → Place → ℕ
chunk_address job p = (job.addr + p.done % 2 ^ 32) % 2 ^ 32

abbrev pub read_word : Job → Place → ℕ
read_word job p = cond job.reading.fast (command_word command.FastRead (chunk_address job p)) (command_word command.Read (chunk_address job p))

-- the sector of a list after so many: a byte a sector, its number
abbrev pub listed_sector : List ℕ → ℕ → ℕ
listed_sector bytes done = sector_start (slice_index bytes done)

-- the sector to erase: the call's own, or that of its list
abbrev pub address_by : Sequel → Job → Place → List ℕ → ℕ
address_by Once job p bytes = job.addr
address_by Pages job p bytes = job.addr
address_by Sectors job p bytes = listed_sector bytes p.done

abbrev pub sector_address : Job → Place → List ℕ → ℕ
sector_address job p bytes = address_by job.script.sequel job p bytes

abbrev pub first_at : Stage → Job → Place → List ℕ → ℕ
first_at Enable job p bytes = command_only command.WriteEnable
first_at Disable job p bytes = command_only command.WriteDisable
first_at Clear job p bytes = command_only command.ClearStatus
first_at ReadStatus job p bytes = command_only command.ReadStatus1
first_at ReadConfig job p bytes = command_only command.ReadConfig
first_at WriteStatus job p bytes = write_status_word p.sr
first_at WriteRegisters job p bytes = write_registers_word p.sr p.cr
first_at ReadId job p bytes = command_only command.ReadId
first_at ReadLongId job p bytes = command_only command.ReadId
first_at Erase job p bytes = command_word command.SectorErase (sector_address job p bytes)
first_at Program job p bytes = command_word command.PageProgram (chunk_address job p)
first_at Poll job p bytes = command_only command.ReadStatus1
first_at Read job p bytes = read_word job p
first_at Registers job p bytes = 0
first_at End job p bytes = 0

abbrev pub first_word : Job → Place → List ℕ → ℕ
first_word job p bytes = first_at p.stage job p bytes

-- the four data bytes from a place on, low byte first; 0 where they are not all there
abbrev pub data_word : List ℕ → ℕ → ℕ
data_word bytes at =
    cond (nat_le (at + 4) (length bytes))
    (word_of (slice_index bytes at ∷ slice_index bytes (at + 1) ∷ slice_index bytes (at + 2) ∷ slice_index bytes (at + 3) ∷ []))
    0

abbrev pub further_at : Stage → ℕ → List ℕ → ℕ
further_at Enable at bytes = 0
further_at Disable at bytes = 0
further_at Clear at bytes = 0
further_at ReadStatus at bytes = 0
further_at ReadConfig at bytes = 0
further_at WriteStatus at bytes = 0
further_at WriteRegisters at bytes = 0
further_at ReadId at bytes = 0
further_at ReadLongId at bytes = 0
further_at Erase at bytes = 0
further_at Program at bytes = data_word bytes at
further_at Poll at bytes = 0
further_at Read at bytes = 0
further_at Registers at bytes = 0
further_at End at bytes = 0

-- the words after the first
abbrev pub further_word : Place → ℕ → List ℕ → ℕ
further_word p index bytes = further_at p.stage ((p.done + index * 4) % 2 ^ 64) bytes

-- the word that is sent after so many others
abbrev pub due_word : Job → Place → ℕ → List ℕ → ℕ
due_word job p sent bytes = cond (sent == 0) (first_word job p bytes) (further_word p (sent - 1) bytes)
