-- Rows of saves at work. Two that overlap in full, four bytes at 000100 and then four others there: a trace, what the log shows at some cut points,
-- and the bytes that it leaves, each the one before AND the first AND the second; readings of the statement that this row shows to be wrong. Three
-- with a refused one in the middle. And a save behind one that 23 or 24 ended, of which the claim is false. Assumes nothing.
use mathlib.Core.Path.{◌≡◌, refl, ap}
use mathlib.Core.Bool.{true, false}
use mathlib.Core.Option.{Option, none, some}
use mathlib.Core.List.{List, [], ◌∷◌, ◌++◌}
use Prim.Native.Nat.{ℕ, ◌<◌}
use native.Mathlib.Omega.{arith}
use lib.Bits.{bit_and}
use lib.ListN.{length, take}
use Rattle.zynq7000.specs.declared.qspi.Access.TheVariants as access
use Rattle.qspi_script.specs.Answer.{number_of}
use Rattle.qspi_script.specs.declared.Status.TheVariants.{Done, CrossesPageBoundary, RepliesEnded, LogFull}
use Rattle.qspi_calls.specs.Chunks.{Chunk, chunks_in, chunks, Among, here, there}
use Rattle.qspi_operation.specs.Machine.{Result, count_in, runs, called}
use Rattle.qspi_calls.specs.Calls.{enabling, status_reading, write_pages}
use Rattle.qspi_calls.proofs.WireOrder.{AllBytes}
use Rattle.power_cut.specs.Flash.{Array, flash, program_of, erase_of, command_of, byte_address, lands_from, lands, programmed, programming, obey, execute, settles, AfterCut}
use Rattle.power_cut.specs.Controller.{register_at, bytes_out, is_status_read, Device, out, idle, configured, after_write, after_read, effect, GivenBy, Gives, Trace, quiet, step, Rests, rests}
use Rattle.power_cut.specs.Observer.{Observed, raised, config_written, is_clean, closing, enable_written, seen_write, seen_read, see, sees, observed}
use Rattle.power_cut.specs.Statement.{total, no_doubt, anding, Save, row_log, CallByCall, at_hand, past, PowerCut}
use Rattle.power_cut.specs.Row.{save_of, IsRun, Precedes, Row, last, more}
use Rattle.power_cut.specs.OneCall.{KeptBy}
use Rattle.power_cut.proofs.Ways.{trace_append}
use Rattle.power_cut.proofs.Rows.{power_cut}
use Rattle.power_cut.proofs.Examples.{line, blank, unread, run_of, resting, one_word, two_words, one_chunk, accesses_of, two_word_program, enables, programs, polls}
use Rattle.power_cut.proofs.WrongDrivers.{bytes_of, idle_cut, eight, crossing}

-- ---- two saves at one place

abbrev first_chunk : Chunk
first_chunk = record { address = 0x000100; bytes = 0x0F ∷ 0x0F ∷ 0xFF ∷ 0x00 ∷ [] }

abbrev second_chunk : Chunk
second_chunk = record { address = 0x000100; bytes = 0x3C ∷ 0xFF ∷ 0x3C ∷ 0x3C ∷ [] }

-- a save of a chunk of four bytes: its status is clean at once
abbrev save_of_lem : Chunk → Save
save_of_lem c = save_of c.address c.bytes (called (write_pages c.address c.bytes) 41 (one_chunk 0x00))

abbrev pub row : List Save
row = save_of_lem first_chunk ∷ save_of_lem second_chunk ∷ []

pub both_succeed : (((save_of_lem first_chunk).answer ≡ Done) × ((save_of_lem first_chunk).count ≡ 4)) × (((save_of_lem second_chunk).answer ≡ Done) × ((save_of_lem second_chunk).count ≡ 4))
unfolding runs chunks chunks_in
both_succeed = ((refl, refl), (refl, refl))

-- ended by an answer below 23
precedes : {c : Save} → IsRun c → number_of c.answer < 23 → Precedes c
precedes r h = record {
  runs = r;
  read = λ e. omega (arith, h, ap number_of e);
  logged = λ e. omega (arith, h, ap number_of e);
}

first_runs : IsRun (save_of_lem first_chunk)
first_runs = run_of 0x000100 first_chunk.bytes 41 (one_chunk 0x00) (omega arith, (omega arith, (omega arith, (omega arith, tt))))

second_runs : IsRun (save_of_lem second_chunk)
second_runs = run_of 0x000100 second_chunk.bytes 41 (one_chunk 0x00) (omega arith, (omega arith, (omega arith, (omega arith, tt))))

pub is_row : Row row
unfolding runs chunks chunks_in
is_row = more (precedes first_runs (omega arith)) (last second_runs)

-- ---- its trace, from an array of F7

abbrev worn : Array
worn x = 0xF7

abbrev after_first : Array
after_first = programmed first_chunk worn

abbrev left : Array
left = programmed second_chunk after_first

-- a save of a word at 000100
word_saved : (m : Array) (w : ℕ)
    → Trace (resting (flash m false none)) (accesses_of enabling 12 (one_word 0x00) ++ (accesses_of (two_word_program 0x00010002 w) 17 two_words ++ accesses_of status_reading 12 (one_word 0x00)))
    (resting (flash (programmed (record { address = 0x000100; bytes = bytes_out 4 w }) m) false none))
unfolding bytes_out execute obey command_of program_of is_status_read
word_saved m w =
    trace_append (enables (flash m false none))
    (trace_append (programs (flash m true none) 0x00010002 w refl)
    (quiet (idle settles) (polls (flash (programmed (record { address = 0x000100; bytes = bytes_out 4 w }) m) false none) 0x00 refl refl refl)))

pub rests_before : Rests worn (resting (flash worn false none))
rests_before = rests refl refl refl refl

pub row_trace : Trace (resting (flash worn false none)) (row_log row) (resting (flash left false none))
unfolding runs chunks chunks_in row_log bytes_out
row_trace = trace_append (word_saved worn 0x00FF0F0F) (word_saved after_first 0x3C3CFF3C)

pub row_leaves : AfterCut (flash left false none) left
row_leaves = idle_cut left false

-- up to the second program, with which the flash is busy then
pub to_the_second : Trace (resting (flash worn false none)) (take 70 (row_log row)) (resting (flash after_first false (some (programming second_chunk))))
unfolding runs chunks chunks_in row_log bytes_out execute obey command_of program_of is_status_read
to_the_second = trace_append (word_saved worn 0x00FF0F0F) (trace_append (enables (flash after_first false none)) (programs (flash after_first true none) 0x00010002 0x3C3CFF3C refl))

-- ---- what its log shows

abbrev shown_at : ℕ → Observed
shown_at k = observed (take k (row_log row))

-- where the first save has ended and the second has not begun; around the second's rising chip select; before its status has closed, and then
pub between : ((shown_at 41).doubt ≡ []) × ((shown_at 41).finished ≡ first_chunk ∷ [])
unfolding runs chunks chunks_in row_log observed sees see seen_read seen_write config_written enable_written closing is_clean is_status_read raised register_at bytes_out command_of program_of erase_of
between = (refl, refl)

pub before_the_rise : ((shown_at 68).doubt ≡ []) × ((shown_at 68).finished ≡ first_chunk ∷ [])
unfolding runs chunks chunks_in row_log observed sees see seen_read seen_write config_written enable_written closing is_clean is_status_read raised register_at bytes_out command_of program_of erase_of
before_the_rise = (refl, refl)

-- the bytes of the first are in doubt again
pub from_the_rise : ((shown_at 69).doubt ≡ second_chunk ∷ []) × ((shown_at 69).finished ≡ first_chunk ∷ [])
unfolding runs chunks chunks_in row_log observed sees see seen_read seen_write config_written enable_written closing is_clean is_status_read raised register_at bytes_out command_of program_of erase_of
from_the_rise = (refl, refl)

pub before_the_closing : ((shown_at 81).doubt ≡ second_chunk ∷ []) × ((shown_at 81).finished ≡ first_chunk ∷ [])
unfolding runs chunks chunks_in row_log observed sees see seen_read seen_write config_written enable_written closing is_clean is_status_read raised register_at bytes_out command_of program_of erase_of
before_the_closing = (refl, refl)

pub both_finished : (length (row_log row) ≡ 82) × (((shown_at 82).doubt ≡ []) × ((shown_at 82).finished ≡ first_chunk ∷ second_chunk ∷ []))
unfolding runs chunks chunks_in row_log observed sees see seen_read seen_write config_written enable_written closing is_clean is_status_read raised register_at bytes_out command_of program_of erase_of
both_finished = (refl, (refl, refl))

-- ---- the bytes that it leaves: AND of three, with FF where a save leaves a byte as it is; and the neighbours

pub bytes_left : (left 0x000100 ≡ bit_and (bit_and 0xF7 0x0F) 0x3C) × ((left 0x000101 ≡ bit_and (bit_and 0xF7 0x0F) 0xFF) × ((left 0x000102 ≡ bit_and (bit_and 0xF7 0xFF) 0x3C) × (left 0x000103 ≡ bit_and (bit_and 0xF7 0x00) 0x3C)))
unfolding programmed lands lands_from byte_address
bytes_left = (refl, (refl, (refl, refl)))

pub neighbours : (left 0x0000FF ≡ 0xF7) × (left 0x000104 ≡ 0xF7)
unfolding programmed lands lands_from byte_address
neighbours = (refl, refl)

-- at 000100 each of the three matters, and it is what the statement says
pub at_000100 : (left 0x000100 ≡ 0x04) × (anding (first_chunk ∷ second_chunk ∷ []) 0x000100 (worn 0x000100) ≡ 0x04)
unfolding programmed lands lands_from byte_address anding
at_000100 = (refl, refl)

-- and so says the claim, of whatever the cut leaves at the row's end
pub claimed_at_000100 : (new : Array) → AfterCut (flash left false none) new → new 0x000100 ≡ 0x04
unfolding runs chunks chunks_in row_log anding
claimed_at_000100 new z =
    bytes_of ((power_cut is_row).cut 82 (omega arith) (resting (flash worn false none)) (resting (flash left false none)) worn new rests_before row_trace z) both_finished.1 0x000100

-- ---- readings that are wrong of it

-- a byte is the one before AND what these chunks brought
abbrev Brought : List Chunk → Array → Type 0
Brought l new = (x : ℕ) → new x ≡ anding l x (worn x)

-- what the last chunk alone brought
pub last_alone : Brought (second_chunk ∷ []) left → ⊥
unfolding programmed lands lands_from byte_address anding
last_alone b = let e : ◌≡◌ {A = ℕ} 0x04 0x34 = b 0x000100 in omega (arith, e)

-- what the first alone brought, as if a byte were written once
pub first_alone : Brought (first_chunk ∷ []) left → ⊥
unfolding programmed lands lands_from byte_address anding
first_alone b = let e : ◌≡◌ {A = ℕ} 0x04 0x07 = b 0x000100 in omega (arith, e)

-- the log of the save at hand alone, with the chunks of earlier ones forgotten
pub earlier_forgotten : Brought (observed (save_of_lem second_chunk).accesses).finished left → ⊥
unfolding runs chunks chunks_in observed sees see seen_read seen_write config_written enable_written closing is_clean is_status_read raised register_at bytes_out command_of program_of erase_of
earlier_forgotten b = last_alone b

-- the words of one save, "each byte of a finished chunk is the byte there before the call AND its data byte", of the whole row
pub not_as_one_save : (c : Save) → KeptBy c worn (shown_at 82) left → ⊥
unfolding programmed lands lands_from byte_address
not_as_one_save c k =
    let m : Among second_chunk (shown_at 82).finished = rw both_finished.1.1 (there here) in
    let e : ◌≡◌ {A = ℕ} 0x04 0x34 = k.written second_chunk m 0 (omega arith) in
    omega (arith, e)

-- "each byte not now in doubt": a finished byte that is in doubt again may hold anything

abbrev torn_by : Option ℕ → ℕ → ℕ
torn_by none v = v
torn_by (some b) v = 0xAA

abbrev torn : Array
torn x = torn_by (lands second_chunk x) (after_first x)

pub torn_left : AfterCut (flash after_first false (some (programming second_chunk))) torn
unfolding AfterCut
torn_left x h = rw h

pub finished_yet_in_doubt : Brought (shown_at 70).finished torn → ⊥
unfolding runs chunks chunks_in row_log observed sees see seen_read seen_write config_written enable_written closing is_clean is_status_read raised register_at bytes_out command_of program_of erase_of lands lands_from byte_address anding
finished_yet_in_doubt b = let e : ◌≡◌ {A = ℕ} 0xAA 0x07 = b 0x000100 in omega (arith, e)

-- ---- a refused save in the middle: eight bytes at 0000FC cross a page

abbrev refused : Save
refused = save_of 0x0000FC eight (called (write_pages 0x0000FC eight) 41 [])

pub refused_by_five : (refused.answer ≡ CrossesPageBoundary) × ((refused.accesses ≡ []) × (refused.count ≡ 0))
unfolding runs chunks chunks_in
refused_by_five = (refl, (refl, refl))

eight_octets : AllBytes eight
eight_octets = (omega arith, (omega arith, (omega arith, (omega arith, (omega arith, (omega arith, (omega arith, (omega arith, tt))))))))

refused_runs : IsRun refused
refused_runs = run_of 0x0000FC eight 41 [] eight_octets

abbrev pub row_of_three : List Save
row_of_three = save_of_lem first_chunk ∷ refused ∷ save_of_lem second_chunk ∷ []

pub is_row_of_three : Row row_of_three
unfolding runs chunks chunks_in
is_row_of_three = more (precedes first_runs (omega arith)) (more (precedes refused_runs (omega arith)) (last second_runs))

-- it makes no access: the trace is that of the two
pub same_log : row_log row_of_three ≡ row_log row
unfolding runs chunks chunks_in row_log
same_log = refl

-- its chunk is left, and is none of those finished
pub call_by_call : CallByCall row_of_three 82 (first_chunk ∷ second_chunk ∷ []) []
unfolding runs chunks chunks_in total
call_by_call =
    past {c = save_of_lem first_chunk} {k = 82} (first_chunk ∷ []) [] (omega arith) refl refl
    (past {c = refused} {k = 41} [] (crossing ∷ []) (omega arith) refl refl
    (at_hand {c = save_of_lem second_chunk} {k = 41} {first = second_chunk ∷ []} [] (omega arith) refl no_doubt (λ e. record { counted = refl; settled = λ g dry full. refl })))

-- ---- without the premise that none but the last is ended by 23 or 24

-- Eight bytes at 000100 stop after 19 accesses, with chip select low and their three words not started. The write enable of the next save starts
-- them and goes out as a ninth byte behind them, and the latch is spent on that: the next save's own program is ignored, and it answers 0.

abbrev stopped : ℕ → Result
stopped room = called (write_pages 0x000100 eight) room (one_word 0x00 ++ 0x00 ∷ 0x8008C4C1 ∷ [])

abbrev next_save : Result
next_save = called (write_pages 0x000200 line) 47
    (0x00 ∷ 0x8008C0C1 ∷ 0x8008C0C1 ∷ 0x10 ∷ 0x00 ∷ 0x8008C0C1 ∷
    0x10 ∷ 0x00 ∷ 0x10 ∷ 0x00 ∷ 0x10 ∷ 0x00 ∷ (two_words ++ one_word 0x00))

abbrev next_chunk_lem : Chunk
next_chunk_lem = record { address = 0x000200; bytes = line }

abbrev row_behind : Result → List Save
row_behind r = save_of 0x000100 eight r ∷ save_of 0x000200 line next_save ∷ []

-- 24 and 23, by the room alone
pub stopped_by : ((stopped 19).answer ≡ LogFull) × (((stopped 20).answer ≡ RepliesEnded) × ((next_save.answer ≡ Done) × (count_in next_save.state ≡ 4)))
unfolding runs chunks chunks_in
stopped_by = (refl, (refl, (refl, refl)))

pub both_run : (room : ℕ) → IsRun (save_of 0x000100 eight (stopped room)) × IsRun (save_of 0x000200 line next_save)
both_run room = (run_of 0x000100 eight room _ eight_octets, run_of 0x000200 line 47 _ (omega arith, (omega arith, (omega arith, (omega arith, tt)))))

-- at the end of a row it may stand
pub last_stopped : (room : ℕ) → Row (save_of_lem first_chunk ∷ save_of 0x000100 eight (stopped room) ∷ [])
unfolding runs chunks chunks_in
last_stopped room = more (precedes first_runs (omega arith)) (last (both_run room).0)

-- `Precedes` of the first is all that is missing
pub row_but_for : (room : ℕ) → Precedes (save_of 0x000100 eight (stopped room)) → Row (row_behind (stopped room))
row_but_for room h = more h (last (both_run room).1)

abbrev nine : Chunk
nine = record { address = 0x000100; bytes = eight ++ 0x06 ∷ [] }

abbrev spilt : Device
spilt = resting (flash (programmed nine blank) false none)

spilt_trace : Trace (resting (flash blank false none)) (row_log (row_behind (stopped 19))) spilt
unfolding runs chunks chunks_in row_log effect after_read after_write configured register_at bytes_out execute obey command_of program_of erase_of Gives GivenBy is_status_read
spilt_trace =
    trace_append (enables (flash blank false none))
    -- the page program, up to its words
    (step {a = access.Read 0x04 0x00} refl
    (step {a = access.Read 0x00 0x8008C4C1} refl
    (step {a = access.Write 0x00 0x8008C0C1} tt
    (step {a = access.Write 0x14 0x01} tt
    (step {a = access.Write 0x1C 0x00010002} tt
    (step {a = access.Write 0x1C 0x04030201} tt
    (step {a = access.Write 0x1C 0x08070605} tt
    -- the next save's write enable; chip select is low already
    (step {a = access.Read 0x04 0x00} refl
    (step {a = access.Read 0x00 0x8008C0C1} refl
    (step {a = access.Write 0x00 0x8008C0C1} tt
    (step {a = access.Write 0x14 0x01} tt
    (step {a = access.Write 0x80 0x06} tt
    (step {a = access.Read 0x00 0x8008C0C1} refl
    (step {a = access.Write 0x00 0x8009C0C1} tt
    (quiet (out 0x00 (unread refl))
    (quiet (out 0x00 (unread refl))
    (quiet (out 0x00 (unread refl))
    (quiet (out 0x00 (unread refl))
    (step {a = access.Read 0x04 0x10} refl
    (step {a = access.Read 0x20 0x00} refl
    (step {a = access.Read 0x00 0x8008C0C1} refl
    (step {a = access.Write 0x00 0x8008C4C1} tt
    (step {a = access.Write 0x14 0x00} tt
    (quiet (idle settles)
    -- three RX words are left
    (step {a = access.Read 0x04 0x10} refl
    (step {a = access.Read 0x20 0x00} refl
    (step {a = access.Read 0x04 0x10} refl
    (step {a = access.Read 0x20 0x00} refl
    (step {a = access.Read 0x04 0x10} refl
    (step {a = access.Read 0x20 0x00} refl
    (trace_append (programs (flash (programmed nine blank) false none) 0x00020002 0xEFBEADDE refl) (polls (flash (programmed nine blank) false none) 0x00 refl refl refl))))))))))))))))))))))))))))))))

-- a byte that neither save has, and one that the log shows finished
pub spilt_bytes : (programmed nine blank 0x000108 ≡ 0x06) × (programmed nine blank 0x000200 ≡ 0xFF)
unfolding programmed lands lands_from byte_address
spilt_bytes = (refl, refl)

spilt_shown : ((observed (row_log (row_behind (stopped 19)))).doubt ≡ []) × ((observed (row_log (row_behind (stopped 19)))).finished ≡ next_chunk_lem ∷ [])
unfolding runs chunks chunks_in row_log observed sees see seen_read seen_write config_written enable_written closing is_clean is_status_read raised register_at bytes_out command_of program_of erase_of
spilt_shown = (refl, refl)

-- of any row with this log
spilt_fails : (row : List Save) → row_log row ≡ row_log (row_behind (stopped 19)) → PowerCut row → ⊥
unfolding runs chunks chunks_in row_log anding
spilt_fails row l p =
    let k = p.cut 66 (rw l (omega arith)) (resting (flash blank false none)) spilt blank (programmed nine blank) (rests refl refl refl refl) (rw l spilt_trace) (idle_cut (programmed nine blank) false) in
    let s : ((observed (take 66 (row_log row))).doubt ≡ []) × ((observed (take 66 (row_log row))).finished ≡ next_chunk_lem ∷ []) = rw l spilt_shown in
    let e : programmed nine blank 0x000200 ≡ 0xDE = bytes_of k s 0x000200 in
    omega (arith, e, spilt_bytes.1)

pub after_full_fails : PowerCut (row_behind (stopped 19)) → ⊥
after_full_fails p = spilt_fails (row_behind (stopped 19)) refl p

pub after_dry_fails : PowerCut (row_behind (stopped 20)) → ⊥
unfolding runs chunks chunks_in row_log
after_dry_fails p = spilt_fails (row_behind (stopped 20)) refl p
