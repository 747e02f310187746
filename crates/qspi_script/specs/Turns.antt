-- Which transfer comes after which, by counters: document 01, "One transfer, access by access" and "What changes shape", and the Rust's
-- functions.
use Rattle.std.specs.Prelude.{ℕ, ◌+◌, ◌-◌, ◌%◌, ◌^◌, min, Bool, true, false, cond, ◌==◌, nat_lt, is_some, unwrap_or}
use Rattle.zynq7000.specs.Bits.{is_set}
use Rattle.zedboard_bsp.specs.Limits.{largest_chunk, recommended_program_page_size, page_size}
use Rattle.zedboard_bsp.specs.Words.{top_byte}
use Rattle.zedboard_bsp.specs.Registers.{protected, configured_cr, configured_sr, update_needed}
use Rattle.qspi_script.specs.declared.Stage.{Stage}
use Rattle.qspi_script.specs.declared.Stage.TheVariants.{Enable, Disable, Clear, ReadStatus, ReadConfig, WriteStatus, WriteRegisters, ReadId, ReadLongId, Erase, Program, Poll, Read, Registers, End}
use Rattle.qspi_script.specs.declared.Status.{Status}
use Rattle.qspi_script.specs.declared.Status.TheVariants.{Going, Done, NotAligned, CrossesPageBoundary}
use Rattle.qspi_script.specs.declared.Purpose.{Purpose}
use Rattle.qspi_script.specs.declared.Purpose.TheVariants.{Answer, Configure, Protect}
use Rattle.qspi_script.specs.declared.Sequel.{Sequel}
use Rattle.qspi_script.specs.declared.Sequel.TheVariants.{Once, Pages, Sectors}
use Rattle.qspi_script.specs.declared.Script.{Script}
use Rattle.qspi_script.specs.declared.Wanted.{Wanted}
use Rattle.qspi_script.specs.declared.Job.{Job}
use Rattle.qspi_script.specs.declared.Place.{Place}
use Rattle.qspi_script.specs.declared.Turned.{Turned}
use Rattle.qspi_script.specs.Stages.{chunk_address}

abbrev pub status_of : Stage → Status
status_of Enable = Going
status_of Disable = Going
status_of Clear = Going
status_of ReadStatus = Going
status_of ReadConfig = Going
status_of WriteStatus = Going
status_of WriteRegisters = Going
status_of ReadId = Going
status_of ReadLongId = Going
status_of Erase = Going
status_of Program = Going
status_of Poll = Going
status_of Read = Going
status_of Registers = Going
status_of End = Done

abbrev pub at_stage : Place → Stage → Place
at_stage p s = record { stage = s; done = p.done; chunk = p.chunk; sr = p.sr; cr = p.cr }

abbrev pub begin : Place → Stage → Turned
begin p s = record { place = at_stage p s; status = status_of s }

abbrev pub finish : Place → Status → Turned
finish p a = record { place = at_stage p End; status = a }

abbrev pub with_registers : Place → ℕ → ℕ → Place
with_registers p sr cr = record { stage = p.stage; done = p.done; chunk = p.chunk; sr = sr; cr = cr }

abbrev pub pick : Bool → Turned → Turned → Turned
pick true a b = a
pick false a b = b

-- a read's next chunk: what is left, but at most the largest
abbrev pub next_chunk : ℕ → ℕ → Bool → ℕ
next_chunk length done dummy = min (length - done) (largest_chunk dummy)

abbrev pub next_read : Job → Place → ℕ → Place
next_read job p done = record { stage = Read; done = done; chunk = next_chunk job.lent.buffer done job.reading.dummy; sr = p.sr; cr = p.cr }

abbrev pub pick_next : Place → Turned
pick_next p = pick (p.chunk == 0) (finish p Done) (begin p Read)

-- a chunk of a read is done
abbrev pub read_on : Job → Place → Turned
read_on job p = pick_next (next_read job p ((p.done + p.chunk) % 2 ^ 64))

-- the next chunk of `write_pages`
abbrev pub page_chunk : ℕ → ℕ → ℕ
page_chunk length done = min (length - done) recommended_program_page_size

-- the place of the chunk after the bytes done
abbrev pub page_at : Job → Place → Place
page_at job p = record { stage = Enable; done = p.done; chunk = page_chunk job.lent.«data» p.done; sr = p.sr; cr = p.cr }

-- rules 4 and 5 of `program`, in its order; 1 and 3 a chunk cannot meet
abbrev pub pick_page : Job → Place → Turned
pick_page job p =
    pick (p.chunk == 0) (finish p Done)
    (pick (p.chunk % 4 == 0)
    (pick (nat_lt page_size (chunk_address job p % page_size + p.chunk)) (finish p CrossesPageBoundary) (begin p Enable))
    (finish p NotAligned))

abbrev pub next_page : Job → Place → Turned
next_page job p = pick_page job (page_at job p)

-- the sector of a list after those done
abbrev pub next_sector : Job → Place → Turned
next_sector job p = pick (nat_lt p.done job.lent.«data») (begin p Enable) (finish p Done)

-- so much more is done
abbrev pub grown : Place → ℕ → Place
grown p more = record { stage = p.stage; done = (p.done + more) % 2 ^ 64; chunk = p.chunk; sr = p.sr; cr = p.cr }

-- the chunk or the sector at hand is finished: "its status loop has ended clean"
abbrev pub settled_by : Sequel → Job → Place → Turned
settled_by Once job p = finish p Done
settled_by Pages job p = next_page job (grown p p.chunk)
settled_by Sectors job p = next_sector job (grown p 1)

abbrev pub settled : Job → Place → Turned
settled job p = settled_by job.script.sequel job p

-- "the error bit (6 for program, 5 for erase) tested before bit 0"
abbrev pub failed : Script → ℕ → Bool
failed s status = cond s.erasing (is_set 5 status) (is_set 6 status)

abbrev pub polled : Job → Place → ℕ → Turned
polled job p status = pick (failed job.script status) (begin p Clear) (pick (is_set 0 status) (begin p Poll) (settled job p))

-- `new` has read both registers
abbrev pub configured : Wanted → Place → ℕ → Turned
configured w p sr =
    pick (update_needed w.quad (is_some w.latency) (unwrap_or w.latency 0) w.clear p.cr sr)
    (begin (with_registers p (configured_sr w.clear sr) (configured_cr w.quad (is_some w.latency) (unwrap_or w.latency 0) p.cr)) Enable)
    (finish p Done)

abbrev pub protecting : Wanted → Place → ℕ → Turned
protecting w p sr = begin (with_registers p (protected sr w.protection) p.cr) ReadConfig

abbrev pub status_read_for : Purpose → Job → Place → ℕ → Turned
status_read_for Answer job p sr = finish p Done
status_read_for Configure job p sr = configured job.wanted p sr
status_read_for Protect job p sr = protecting job.wanted p sr

abbrev pub status_read : Job → Place → ℕ → Turned
status_read job p sr = status_read_for job.script.purpose job p sr

abbrev pub config_read_for : Purpose → Place → ℕ → Turned
config_read_for Answer p cr = finish p Done
config_read_for Configure p cr = begin (with_registers p p.sr cr) ReadStatus
config_read_for Protect p cr = begin (with_registers p p.sr cr) Enable

abbrev pub config_read : Job → Place → ℕ → Turned
config_read job p cr = config_read_for job.script.purpose p cr

abbrev pub turn_at : Stage → Job → Place → ℕ → Turned
turn_at Enable job p reply = begin p job.script.after_enable
turn_at Disable job p reply = finish p job.script.after_disable
turn_at Clear job p reply = begin p job.script.after_clear
turn_at ReadStatus job p reply = status_read job p (top_byte reply)
turn_at ReadConfig job p reply = config_read job p (top_byte reply)
turn_at WriteStatus job p reply = finish p Done
turn_at WriteRegisters job p reply = finish p Done
turn_at ReadId job p reply = finish p Done
turn_at ReadLongId job p reply = finish p Done
turn_at Erase job p reply = begin p Poll
turn_at Program job p reply = begin p Poll
turn_at Poll job p reply = polled job p (top_byte reply)
turn_at Read job p reply = read_on job p
turn_at Registers job p reply = finish p Done
turn_at End job p reply = finish p Done

-- a transfer is over; the last reply that it took
abbrev pub turn_of : Job → Place → ℕ → Turned
turn_of job p reply = turn_at p.stage job p reply
