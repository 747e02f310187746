-- How the calls start, by counters: refused, ended, or with the first access of their first transfer due. Document 01, "What changes shape":
-- "an operation is a state by value, ended at its start if no access is due", and the refusals of "What the input can bring on". specs/Calls
-- says what each call does from there.
use Rattle.std.specs.Prelude.{ℕ, ◌+◌, ◌%◌, Bool, true, false, List, [], ltb, eqb, length, get_or, Option, None, is_some, unwrap_or}
use Rattle.zynq7000.specs.Qspi.{linear_word, config_word}
use Rattle.zynq7000.specs.Slcr.{source_code, clock_control_word}
use Rattle.zynq7000_hal.specs.Clocks.{baud_of}
use Rattle.zynq7000_hal.specs.Initialize.{initial_config}
use Rattle.zynq7000_hal.specs.Presets.{io_mode_config}
use Rattle.zynq7000_hal.specs.declared.qspi.BaudRateConfig.{BaudRateConfig}
use Rattle.zynq7000_hal.specs.declared.qspi.BaudRateConfig.TheVariants.{WithLoopback, WithoutLoopback}
use Rattle.zynq7000_hal.specs.declared.qspi.ClockConfig.{ClockConfig}
use Rattle.zedboard_bsp.specs.Limits.{last_end, longest_list, max_data_bytes_per_write, page_size, address_span}
use Rattle.qspi_transfer.specs.Wire.{fresh_wire}
use Rattle.qspi_transfer.specs.declared.Phase.TheVariants as phase
use Rattle.qspi_transfer.specs.declared.low_level.Sequence.{Sequence}
use Rattle.qspi_transfer.specs.declared.low_level.Sequence.TheVariants as sequence
use Rattle.qspi_script.specs.Turns.{next_chunk, next_page, next_sector}
use Rattle.qspi_script.specs.declared.Stage.{Stage}
use Rattle.qspi_script.specs.declared.Stage.TheVariants as stage
use Rattle.qspi_script.specs.declared.Status.{Status}
use Rattle.qspi_script.specs.declared.Status.TheVariants as status
use Rattle.qspi_script.specs.declared.Purpose.{Purpose}
use Rattle.qspi_script.specs.declared.Purpose.TheVariants as purpose
use Rattle.qspi_script.specs.declared.Gives.{Gives}
use Rattle.qspi_script.specs.declared.Gives.TheVariants as gives
use Rattle.qspi_script.specs.declared.Sequel.{Sequel}
use Rattle.qspi_script.specs.declared.Sequel.TheVariants as sequel
use Rattle.qspi_script.specs.declared.Script.{Script}
use Rattle.qspi_script.specs.declared.Lent.{Lent}
use Rattle.qspi_script.specs.declared.Wanted.{Wanted}
use Rattle.qspi_script.specs.declared.Reading.{Reading}
use Rattle.qspi_script.specs.declared.LowLevel.{LowLevel}
use Rattle.qspi_script.specs.declared.Job.{Job}
use Rattle.qspi_script.specs.declared.Place.{Place}
use Rattle.qspi_script.specs.declared.Turned.{Turned}
use Rattle.qspi_operation.specs.declared.Op.{Op}
use Rattle.qspi_operation.specs.Step.{is_going}
use Rattle.qspi_calls.specs.Sectors.{sector_status, first_refused, first_repeat}
use Rattle.qspi_calls.specs.declared.start.Config.{Config}

-- ---- a call as it was asked for

abbrev pub then : Stage → Stage → Status → Bool → Sequel → Purpose → Gives → Script
then enable clear disable erases next for given =
    record { after_enable = enable; after_clear = clear; after_disable = disable; erasing = erases; sequel = next; purpose = for; gives = given }

abbrev pub plain : Gives → Script
plain given = then stage.End stage.End status.Done false sequel.Once purpose.Answer given

abbrev pub not_reading : Reading
not_reading = record { fast = false; dummy = false }

abbrev pub nothing_wanted : Wanted
nothing_wanted = record { quad = false; latency = None; clear = false; protection = 0 }

abbrev pub no_registers : LowLevel
no_registers = record { sequence = sequence.Disable; word = 0; clock = 0 }

abbrev pub lent : ℕ → ℕ → ℕ → Lent
lent d b l = record { «data» = d; buffer = b; log = l }

abbrev pub job_of : Lent → Script → ℕ → Job
job_of l s a = record { lent = l; script = s; addr = a; reading = not_reading; wanted = nothing_wanted; low_level = no_registers }

abbrev pub command_job : Script → ℕ → Job
command_job s log = job_of (lent 0 0 log) s 0

abbrev pub updating_job : Stage → Purpose → Wanted → ℕ → Job
updating_job cleared for w log =
    record { lent = lent 0 0 log; script = then stage.WriteRegisters cleared status.Done false sequel.Once for gives.Nothing; addr = 0; reading = not_reading; wanted = w; low_level = no_registers }

abbrev pub works : Stage → Bool → Sequel → Status → Gives → Script
works work isErase next failure given = then work stage.Disable failure isErase next purpose.Answer given

abbrev pub working_job : Stage → Bool → Sequel → Status → ℕ → ℕ → ℕ → Job
working_job work isErase next failure a n log = job_of (lent n 0 log) (works work isErase next failure gives.Nothing) a

abbrev pub reading_job : ℕ → Bool → Bool → ℕ → ℕ → Job
reading_job a fast dummy n log =
    record { lent = lent 0 n log; script = plain gives.Nothing; addr = a; reading = record { fast = fast; dummy = dummy }; wanted = nothing_wanted; low_level = no_registers }

abbrev pub registers_job : Sequence → ℕ → Gives → ℕ → ℕ → Job
registers_job s w given clock log =
    record { lent = lent 0 0 log; script = plain given; addr = 0; reading = not_reading; wanted = nothing_wanted; low_level = record { sequence = s; word = w; clock = clock } }

-- ---- where it begins

abbrev pub place_at : Stage → ℕ → ℕ → ℕ → Place
place_at s n sr cr = record { stage = s; done = 0; chunk = n; sr = sr; cr = cr }

abbrev pub going : Job → Place → Op
going job p = record { job = job; place = p; wire = fresh_wire phase.DrainStatus; used = 0; replies = 0; status = status.Going }

abbrev pub over : Job → Status → Op
over job a = record { job = job; place = place_at stage.End 0 0 0; wire = fresh_wire phase.DrainStatus; used = 0; replies = 0; status = a }

abbrev pub pick : Bool → Op → Op → Op
pick true a b = a
pick false a b = b

abbrev pub one_transfer : Stage → Gives → ℕ → Op
one_transfer s given log = going (command_job (plain given) log) (place_at s 0 0 0)

abbrev pub enabled : Stage → Script
enabled s = then s stage.End status.Done false sequel.Once purpose.Answer gives.Nothing

abbrev pub enabled_then : Stage → ℕ → ℕ → ℕ → Op
enabled_then s sr cr log = going (command_job (enabled s) log) (place_at stage.Enable 0 sr cr)

-- `new` reads the registers where it may have to write them
abbrev pub may_update : Bool → Bool → Bool → Stage
may_update true l c = stage.ReadConfig
may_update false true c = stage.ReadConfig
may_update false false true = stage.ReadConfig
may_update false false false = stage.End

abbrev pub configuring_job : Bool → Option ℕ → Bool → ℕ → Job
configuring_job quad latency clear log =
    updating_job (may_update quad (is_some latency) clear) purpose.Configure (record { quad = quad; latency = latency; clear = clear; protection = 0 }) log

abbrev pub new_with : Bool → Option ℕ → Bool → ℕ → Op
new_with quad latency clear log =
    pick (ltb 3 (unwrap_or latency 0)) (over (configuring_job quad latency clear log) status.FieldTooWide)
    (going (configuring_job quad latency clear log) (place_at stage.Clear 0 0 0))

abbrev pub new_of : Config → ℕ → Op
new_of c log = new_with c.set_quad_bit_if_necessary c.latency_config c.clear_write_protection log

abbrev pub protecting_job : ℕ → ℕ → Job
protecting_job p log = updating_job stage.End purpose.Protect (record { quad = false; latency = None; clear = false; protection = p }) log

abbrev pub set_write_protection : ℕ → ℕ → Op
set_write_protection p log =
    pick (ltb 7 p) (over (protecting_job p log) status.FieldTooWide) (going (protecting_job p log) (place_at stage.ReadStatus 0 0 0))

-- a script of sector erases: one of them, or those of a list
abbrev pub erases : Sequel → Gives → Script
erases next given = works stage.Erase true next status.EraseErrorBitSet given

abbrev pub erasing_job : ℕ → ℕ → Job
erasing_job a log = job_of (lent 0 0 log) (erases sequel.Once gives.Nothing) a

abbrev pub erase_sector : ℕ → ℕ → Op
erase_sector a log = pick (is_going (sector_status a)) (going (erasing_job a log) (place_at stage.Enable 0 0 0)) (over (erasing_job a log) (sector_status a))

-- a job of page programs: one of them, or the chunks of `write_pages`
abbrev pub programs_job : Sequel → ℕ → ℕ → ℕ → Job
programs_job next a n log = working_job stage.Program false next status.ProgrammingErrorBitSet a n log

abbrev pub programming_job : ℕ → ℕ → ℕ → Job
programming_job a n log = programs_job sequel.Once a n log

abbrev pub program_of : ℕ → ℕ → ℕ → Op
program_of a n log =
    pick (ltb last_end (a + n)) (over (programming_job a n log) status.OutOfRange)
    (pick (ltb max_data_bytes_per_write n) (over (programming_job a n log) status.DataTooLarge)
    (pick (eqb (n % 4) 0)
    (pick (ltb page_size (a % page_size + n)) (over (programming_job a n log) status.CrossesPageBoundary) (going (programming_job a n log) (place_at stage.Enable n 0 0)))
    (over (programming_job a n log) status.NotAligned)))

-- where a turn leads: its first access is due, or none is
abbrev pub opened : Job → Turned → Op
opened job t = record { job = job; place = t.place; wire = fresh_wire phase.DrainStatus; used = 0; replies = 0; status = t.status }

abbrev pub paging_job : ℕ → ℕ → ℕ → Job
paging_job a n log = programs_job sequel.Pages a n log

-- "`write_pages` gives 1 on the whole length first, then cuts into 128 bytes and calls program"
abbrev pub write_pages_of : ℕ → ℕ → ℕ → Op
write_pages_of a n log =
    pick (ltb last_end (a + n)) (over (paging_job a n log) status.OutOfRange) (opened (paging_job a n log) (next_page (paging_job a n log) (place_at stage.Enable 0 0 0)))

-- a list of so many sectors, with what its answer gives
abbrev pub list_job : Gives → ℕ → ℕ → Job
list_job given n log = job_of (lent n 0 log) (erases sequel.Sectors given) 0

-- 33; the first place that meets 1 or 2; the first that repeats an earlier one; else the first sector
abbrev pub erase_sectors_of : List ℕ → ℕ → Op
erase_sectors_of l log =
    pick (ltb longest_list (length l)) (over (list_job gives.Nothing (length l) log) status.ListTooLong)
    (pick (ltb (first_refused l) (length l)) (over (list_job (gives.Place (first_refused l)) (length l) log) (sector_status (get_or l (first_refused l) 0)))
    (pick (ltb (first_repeat [] l) (length l)) (over (list_job (gives.Place (first_repeat [] l)) (length l) log) status.RepeatedSector)
    (opened (list_job gives.Nothing (length l) log) (next_sector (list_job gives.Nothing (length l) log) (place_at stage.Enable 0 0 0)))))

abbrev pub read_of : ℕ → Bool → Bool → ℕ → ℕ → Op
read_of a fast dummy n log =
    pick (ltb address_span (a + n)) (over (reading_job a fast dummy n log) status.AddressSpan)
    (pick (eqb n 0) (over (reading_job a fast dummy n log) status.Done)
    (going (reading_job a fast dummy n log) (place_at stage.Read (next_chunk n 0 dummy) 0 0)))

-- ---- calls that send nothing

abbrev pub registers_of : Sequence → ℕ → Gives → ℕ → ℕ → Op
registers_of s w given clock log =
    record { job = registers_job s w given clock log; place = place_at stage.Registers 0 0 0; wire = fresh_wire phase.Registers; used = 0; replies = 0; status = status.Going }

abbrev pub initializing : BaudRateConfig → Sequence
initializing WithLoopback = sequence.InitializeWithLoopback
initializing (WithoutLoopback d) = sequence.Initialize

abbrev pub initialize_of : ClockConfig → Bool → Bool → ℕ → Op
initialize_of c phase₁ polarity log =
    pick (ltb 63 c.ref_clk_div) (over (registers_job sequence.Initialize 0 gives.Nothing 0 log) status.FieldTooWide)
    (registers_of (initializing c.baud_rate_config) (config_word (initial_config (baud_of c.baud_rate_config) phase₁ polarity))
    gives.Clock
    (clock_control_word c.ref_clk_div (source_code c.src_sel) 1)
    log)

abbrev pub enable_io_mode : Bool → ℕ → Op
enable_io_mode dual log = registers_of sequence.EnableIoMode (linear_word (io_mode_config dual)) gives.Nothing 0 log
