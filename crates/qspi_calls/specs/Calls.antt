-- The calls of document 01 over lists: "One transfer, access by access", the refusals of "What the input can bring on" in their order, and
-- "What changes shape"; and of document 02 the list of sectors (U1). Each is a script of specs/Machine of qspi_operation.
use Rattle.std.specs.Prelude.{ℕ, zero, suc, ◌+◌, ◌-◌, ◌/◌, ◌%◌, min, Bool, true, false, not, ◌&&◌, ◌||◌, List, [], ◌∷◌, ◌++◌, map, ltb, eqb, length, get_or, take, drop}
use Rattle.zynq7000.specs.Bits.{is_set, flag_value}
use Rattle.zynq7000.specs.Qspi.{linear_word, config_word}
use Rattle.zynq7000.specs.Slcr.{source_code, clock_control_word}
use Rattle.zynq7000_hal.specs.Clocks.{baud_of}
use Rattle.zynq7000_hal.specs.Initialize.{initial_config, loopback_words}
use Rattle.zynq7000_hal.specs.Presets.{io_mode_config}
use Rattle.zynq7000_hal.specs.declared.qspi.ClockConfig.{ClockConfig}
use Rattle.zedboard_bsp.specs.DeviceId.{reply_bytes, long_reply_bytes}
use Rattle.zedboard_bsp.specs.Limits.{last_end, sector_size, longest_list, max_data_bytes_per_write, page_size, largest_chunk, address_span}
use Rattle.zedboard_bsp.specs.Registers.{protected, configured_cr, configured_sr, update_needed}
use Rattle.zedboard_bsp.specs.Words.{word_of, bytes_of, top_byte, command_only, command_word, write_status_word, write_registers_word}
use Rattle.zedboard_bsp.specs.declared.qspi_spansion.RegisterId.TheVariants as command
use Rattle.qspi_transfer.specs.LowLevel.{automatic, manual, chip_select_high}
use Rattle.qspi_script.specs.declared.Status.{Status}
use Rattle.qspi_script.specs.declared.Status.TheVariants.{Done, OutOfRange, Alignment, DataTooLarge, NotAligned, CrossesPageBoundary, AddressSpan, FieldTooWide, EraseErrorBitSet, ProgrammingErrorBitSet, RepeatedSector, ListTooLong}
use Rattle.qspi_calls.specs.declared.start.Config.{Config}
use Rattle.std.specs.Prelude.{Option, Some, None}
use Rattle.qspi_calls.specs.Chunks.{Chunk, chunks}
use Rattle.qspi_calls.specs.Sectors.{sector_status, first_refused, first_repeat}
use Rattle.qspi_operation.specs.Machine.{write, modify, drain, Transfer, opening, Script, ends, perform, repeats, counts, none, exchange, onward}

-- ---- transfers

-- "A one-word command waits until bit 4 of a status read is set, then reads 20 once."
abbrev pub short : ℕ → ℕ → Transfer
short port word = record { port = port; command = word; further = []; replies = 1; twice = false }

-- "One-byte commands use 80; status and config reads and `write_status` use 84; writing both registers uses 88."
abbrev pub enabling : Transfer
enabling = short 0x80 (command_only command.WriteEnable)

abbrev pub disabling : Transfer
disabling = short 0x80 (command_only command.WriteDisable)

abbrev pub clearing : Transfer
clearing = short 0x80 (command_only command.ClearStatus)

abbrev pub status_reading : Transfer
status_reading = short 0x84 (command_only command.ReadStatus1)

abbrev pub config_reading : Transfer
config_reading = short 0x84 (command_only command.ReadConfig)

abbrev pub status_writing : ℕ → Transfer
status_writing sr = short 0x84 (write_status_word sr)

abbrev pub registers_writing : ℕ → ℕ → Transfer
registers_writing sr cr = short 0x88 (write_registers_word sr cr)

-- "Ids: 0000009F to 1C, one reply"; "the long form sends two zero words more"
abbrev pub id_reading : Transfer
id_reading = short 0x1C (command_only command.ReadId)

abbrev pub long_id_reading : Transfer
long_id_reading = record { port = 0x1C; command = command_only command.ReadId; further = 0 ∷ 0 ∷ []; replies = 3; twice = false }

abbrev pub erasing : ℕ → Transfer
erasing a = short 0x1C (command_word command.SectorErase a)

-- four bytes a word, low byte first
abbrev pub words_of : List ℕ → List ℕ
words_of [] = []
words_of (a ∷ []) = []
words_of (a ∷ b ∷ []) = []
words_of (a ∷ b ∷ c ∷ []) = []
words_of (a ∷ b ∷ c ∷ d ∷ l) = word_of (a ∷ b ∷ c ∷ d ∷ []) ∷ words_of l

-- "`program` writes the command word and n data words." It takes "n + 1 replies, one for empty data" (document 02, U2), "each after two
-- status reads in a row"
abbrev pub programming : ℕ → List ℕ → Transfer
programming a bs = record { port = 0x1C; command = command_word command.PageProgram a; further = words_of bs; replies = suc (length bs / 4); twice = true }

abbrev pub zeros : ℕ → List ℕ
zeros zero = []
zeros (suc n) = 0 ∷ zeros n

abbrev pub read_command : Bool → ℕ → ℕ
read_command true a = command_word command.FastRead a
read_command false a = command_word command.Read a

-- the bytes to come, the dummy byte among them, in words
abbrev pub zero_words : Bool → ℕ → ℕ
zero_words dummy n = (n + flag_value dummy + 3) / 4

-- a reply for each word
abbrev pub reading : Bool → Bool → ℕ → ℕ → Transfer
reading fast dummy a n = record { port = 0x1C; command = read_command fast a; further = zeros (zero_words dummy n); replies = suc (zero_words dummy n); twice = true }

abbrev pub bytes_of_all : List ℕ → List ℕ
bytes_of_all [] = []
bytes_of_all (r ∷ rs) = bytes_of r ++ bytes_of_all rs

-- "The reply to the command word is dropped; with a dummy, the first byte of the next reply is dropped too."
abbrev pub bytes_read : Bool → ℕ → List ℕ → List ℕ
bytes_read dummy n rs = take n (drop (flag_value dummy) (bytes_of_all (drop 1 rs)))

-- "Status and config bytes are the top byte of the reply."
abbrev pub top : List ℕ → ℕ
top rs = top_byte (get_or rs 0 0)

-- ---- calls of one transfer

abbrev pub done : List ℕ → Script
done rs = ends Done []

abbrev pub refused : Status → Script
refused a = ends a []

abbrev pub write_enable : Script
write_enable = exchange enabling done

abbrev pub write_disable : Script
write_disable = exchange disabling done

abbrev pub clear_status : Script
clear_status = exchange clearing done

abbrev pub read_status : Script
read_status = exchange status_reading (λ rs. ends Done (top rs ∷ []))

abbrev pub read_config : Script
read_config = exchange config_reading (λ rs. ends Done (top rs ∷ []))

-- "one reply, its bytes 1 to 3"; "takes bytes 1 to 8 of three replies"
abbrev pub read_id : Script
read_id = exchange id_reading (λ rs. ends Done (reply_bytes (get_or rs 0 0)))

abbrev pub read_long_id : Script
read_long_id = exchange long_id_reading (λ rs. ends Done (long_reply_bytes (get_or rs 0 0) (get_or rs 1 0) (get_or rs 2 0)))

-- ---- calls of several

abbrev pub enabled_then : Transfer → Script
enabled_then x = exchange enabling (λ rs. exchange x done)

abbrev pub write_status : ℕ → Script
write_status sr = enabled_then (status_writing sr)

abbrev pub write_registers : ℕ → ℕ → Script
write_registers sr cr = enabled_then (registers_writing sr cr)

-- `new`: clear status; where something is asked for, config, then status; both are written where something asked for is not so yet
abbrev pub configuring : Bool → Bool → ℕ → Bool → Script
configuring quad setLatency latency clear =
    exchange config_reading
    (λ cs. exchange status_reading
    (λ ss. onward (update_needed quad setLatency latency clear (top cs) (top ss))
    (write_registers (configured_sr clear (top ss)) (configured_cr quad setLatency latency (top cs)))
    (ends Done [])))

abbrev pub new_with : Bool → Bool → ℕ → Bool → Script
new_with quad setLatency latency clear =
    onward (ltb 3 latency) (refused FieldTooWide)
    (exchange clearing (λ rs. onward (quad || (setLatency || clear)) (configuring quad setLatency latency clear) (ends Done [])))

abbrev pub new_latency : Option ℕ → Bool → Bool → Script
new_latency None quad clear = new_with quad false 0 clear
new_latency (Some c) quad clear = new_with quad true c clear

abbrev pub new_call : Config → Script
new_call c = new_latency c.latency_config c.set_quad_bit_if_necessary c.clear_write_protection

-- "`set_write_protection` here reads status, then config, then writes both .., with bit 7 clear and bits 2 to 4 as asked"
abbrev pub set_write_protection : ℕ → Script
set_write_protection p =
    onward (ltb 7 p) (refused FieldTooWide)
    (exchange status_reading (λ ss. exchange config_reading (λ cs. write_registers (protected (top ss) p) (top cs))))

-- "After program or erase the status is read by a whole transfer each time, the error bit .. tested before bit 0. On error: clear status,
-- write disable, refuse."
abbrev pub failing : Status → Script
failing failure = exchange clearing (λ rs. exchange disabling (λ rs. refused failure))

abbrev pub settling : ℕ → Status → Script → Script
settling bit failure then =
    repeats drain (opening status_reading)
    (λ rs. not (is_set bit (top rs)) && is_set 0 (top rs))
    (λ rs. onward (is_set bit (top rs)) (failing failure) then)

-- the work, and what comes once its status is clean
abbrev pub working : ℕ → Status → Transfer → Script → Script
working bit failure x then = exchange enabling (λ rs. exchange x (λ rs. settling bit failure then))

-- rules 1 and 2, the sum taken in full
abbrev pub erase_sector : ℕ → Script
erase_sector a =
    onward (ltb last_end (a + sector_size)) (refused OutOfRange)
    (onward (eqb (a % sector_size) 0) (working 5 EraseErrorBitSet (erasing a) (ends Done [])) (refused Alignment))

-- U1: the erases in list order, each counted once its status is clean
abbrev pub sectors : List ℕ → Script
sectors [] = ends Done []
sectors (a ∷ l) = working 5 EraseErrorBitSet (erasing a) (counts 1 (sectors l))

-- a refusal for an entry of a list, "with the first place"
abbrev pub refused_at : Status → ℕ → Script
refused_at a at = ends a (at ∷ [])

-- "1 and 2 as for one sector, with the first place, from 0, that meets either; new 32 RepeatedSector (with the first that repeats an earlier one) after both; new 33 ListTooLong, tested first"
abbrev pub erase_sectors : List ℕ → Script
erase_sectors l =
    onward (ltb longest_list (length l)) (refused ListTooLong)
    (onward (ltb (first_refused l) (length l)) (refused_at (sector_status (get_or l (first_refused l) 0)) (first_refused l))
    (onward (ltb (first_repeat [] l) (length l)) (refused_at RepeatedSector (first_repeat [] l))
    (sectors l)))

-- rules 1, 3, 4, 5, and what comes once the bytes are programmed
abbrev pub program_then : ℕ → List ℕ → Script → Script
program_then a bs then =
    onward (ltb last_end (a + length bs)) (refused OutOfRange)
    (onward (ltb max_data_bytes_per_write (length bs)) (refused DataTooLarge)
    (onward (eqb (length bs % 4) 0)
    (onward (ltb page_size (a % page_size + length bs)) (refused CrossesPageBoundary) (working 6 ProgrammingErrorBitSet (programming a bs) then))
    (refused NotAligned)))

abbrev pub program : ℕ → List ℕ → Script
program a bs = program_then a bs (ends Done [])

-- "calls program: 4 or 5 may come after finished chunks, whose accesses remain in the log and whose bytes the answer counts"
abbrev pub pages : List Chunk → Script
pages [] = ends Done []
pages (c ∷ l) = program_then c.address c.bytes (counts (length c.bytes) (pages l))

-- "`write_pages` gives 1 on the whole length first, then cuts into 128 bytes"
abbrev pub write_pages : ℕ → List ℕ → Script
write_pages a bs = onward (ltb last_end (a + length bs)) (refused OutOfRange) (pages (chunks a bs))

-- "A read goes in chunks of 248 bytes, 247 with a dummy byte", until nothing is left; there are no more chunks than bytes
abbrev pub read_from : ℕ → Bool → Bool → ℕ → ℕ → Script
read_from zero fast dummy a left = ends Done []
read_from (suc n) fast dummy a zero = ends Done []
read_from (suc n) fast dummy a (suc left) =
    perform drain (opening (reading fast dummy a (min (suc left) (largest_chunk dummy)))) (bytes_read dummy (min (suc left) (largest_chunk dummy)))
    (λ rs. read_from n fast dummy (a + min (suc left) (largest_chunk dummy)) (suc left - min (suc left) (largest_chunk dummy)))

-- rule 10
abbrev pub read : Bool → Bool → ℕ → ℕ → Script
read fast dummy a n = onward (ltb address_span (a + n)) (refused AddressSpan) (read_from n fast dummy a n)

-- ---- calls that send nothing

-- "`initialize` writes 800800C1 plus ..; with loopback it then writes 20 (hex) to offset 38. Its SLCR clock word is returned"; rule 12
abbrev pub initialize : ClockConfig → Bool → Bool → Script
initialize c phase polarity =
    onward (ltb 63 c.ref_clk_div) (refused FieldTooWide)
    (perform (write 0x00 (config_word (initial_config (baud_of c.baud_rate_config) phase polarity)))
    (map (write 0x38) (loopback_words c.baud_rate_config)) none
    (λ rs. ends Done (clock_control_word c.ref_clk_div (source_code c.src_sel) 1 ∷ [])))

abbrev pub enable_linear_addressing : ℕ → Script
enable_linear_addressing word = perform (write 0x14 0) (modify automatic ∷ write 0xA0 word ∷ []) none done

abbrev pub enable_io_mode : Bool → Script
enable_io_mode dual = perform (modify manual) (write 0x2C 1 ∷ write 0x28 1 ∷ write 0xA0 (linear_word (io_mode_config dual)) ∷ []) none done

abbrev pub disable : Script
disable = perform (write 0x14 0) (modify chip_select_high ∷ []) none done
