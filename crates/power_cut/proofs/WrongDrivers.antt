-- Drivers that the power-cut statement excludes, each by a run on a device that meets the premises: no write enable, no page check, two programs
-- one after the other without a status between them, in one save or in two, a reply less than words, the last reply taken after chip select has
-- risen, a busy status taken for done, bytes counted before their status is clean. Assumes nothing.
use mathlib.Core.Path.{◌≡◌, refl}
use mathlib.Core.Bool.{Bool, true, false, ◌||◌}
use mathlib.Core.Option.{none, some}
use mathlib.Core.List.{List, [], ◌∷◌, ◌++◌, cons≢nil}
use Prim.Native.Nat.{ℕ, ◌/◌}
use native.Mathlib.Omega.{arith}
use lib.ListN.{length, get_or, drop}
use Rattle.zynq7000.specs.Bits.{is_set}
use Rattle.zynq7000.specs.declared.qspi.Access.TheVariants as access
use Rattle.zedboard_bsp.specs.Words.{top_byte}
use Rattle.qspi_transfer.specs.LowLevel.{chip_select_low}
use Rattle.qspi_script.specs.declared.Status.TheVariants.{Done, ProgrammingErrorBitSet}
use Rattle.qspi_calls.specs.Chunks.{Chunk, Among}
use Rattle.qspi_operation.specs.Machine.{modify, Transfer, opening, ends, perform, counts, none as no_bytes, exchange, onward, Result, runs, called}
use Rattle.qspi_calls.specs.Calls.{done, enabling, status_reading, programming, settling, working}
use Rattle.power_cut.specs.Flash.{Array, flash, program_of, erase_of, command_of, byte_address, lands_from, lands, programmed, programming as works_on, obey, execute, settles, AfterCut}
use Rattle.power_cut.specs.Controller.{register_at, bytes_out, is_status_read, Device, device, out, idle, configured, after_write, after_read, effect, GivenBy, Gives, Trace, still, quiet, step, raises, AllOut, rests}
use Rattle.power_cut.specs.Observer.{Observed, raised, config_written, is_clean, closing, enable_written, seen_write, seen_read, see, sees, observed}
use Rattle.power_cut.specs.Statement.{total, NextOnly, anding, Save, row_log, CallByCall, at_hand, past, Kept, PowerCut}
use Rattle.power_cut.specs.Row.{save_of}
use Rattle.power_cut.specs.WordsOut.{at_rest as at_rest_so, WordsOut}
use Rattle.power_cut.proofs.Ways.{trace_append}
use Rattle.power_cut.proofs.WordsOut.{run_last}
use Rattle.power_cut.proofs.Examples.{line, line_chunk, blank, unread, resting, one_word, two_words, one_chunk, accesses_of, enables, programs, polls}

-- one save: the row of one
abbrev pub PowerCutOf : ℕ → List ℕ → Result → Type 0
PowerCutOf a bs r = PowerCut (save_of a bs r ∷ [])

abbrev at_rest : Device
at_rest = resting (flash blank false none)

-- ---- what the claim asks, and these runs do not keep

none_among : {c : Chunk} → Among c [] → ⊥
none_among = elim [ ]

-- where no chunk is in doubt, every byte is the one before AND what the finished ones brought
pub bytes_of : {row : List Save} {k : ℕ} {old new : Array} {o : Observed} {l : List Chunk} → Kept row k old o new → (o.doubt ≡ []) × (o.finished ≡ l) → (x : ℕ) → new x ≡ anding l x (old x)
bytes_of k s x = rw s.1 at (k.bytes_are x (λ c m i. none_among (rw s.0 at m)))

-- no two chunks are in doubt
not_two : {b c : Chunk} {q l : List Chunk} → NextOnly (b ∷ c ∷ q) l → ⊥
not_two = elim [ ]

never_two : {row : List Save} {k : ℕ} {b c : Chunk} {q l : List Chunk} → CallByCall row k l (b ∷ c ∷ q) → ⊥
never_two (at_hand left h e n t) = not_two n
never_two (past first left h e t y) = never_two y

-- an idle flash keeps its array
pub idle_cut : (m : Array) (latch : Bool) → AfterCut (flash m latch none) m
unfolding AfterCut
idle_cut m latch x = refl

-- ---- no write enable: the flash ignores the program, and its status is clean

abbrev unenabled : Result
unenabled = called (exchange (programming 0x000100 line) (λ rs. settling 6 ProgrammingErrorBitSet (counts 4 (ends Done [])))) 29 (two_words ++ one_word 0x00)

unenabled_trace : Trace at_rest unenabled.log at_rest
unfolding runs bytes_out execute obey command_of program_of erase_of is_status_read
unenabled_trace = trace_append (programs (flash blank false none) 0x00010002 0xEFBEADDE refl) (polls (flash blank false none) 0x00 refl refl refl)

unenabled_shown : ((observed unenabled.log).doubt ≡ []) × ((observed unenabled.log).finished ≡ line_chunk ∷ [])
unfolding runs observed sees see seen_read seen_write config_written enable_written closing is_clean is_status_read raised register_at bytes_out command_of program_of erase_of
unenabled_shown = (refl, refl)

pub no_write_enable : PowerCutOf 0x000100 line unenabled → ⊥
unfolding runs row_log anding
no_write_enable p =
    let k = p.cut 29 (omega arith) at_rest at_rest blank blank (rests refl refl refl refl) unenabled_trace (idle_cut blank false) in
    let e : ◌≡◌ {A = ℕ} 0xFF 0xDE = bytes_of k unenabled_shown 0x000100 in
    omega (arith, e)

-- ---- no page check: eight bytes at 0000FC come round to the start of their page

abbrev pub eight : List ℕ
eight = 1 ∷ 2 ∷ 3 ∷ 4 ∷ 5 ∷ 6 ∷ 7 ∷ 8 ∷ []

abbrev pub crossing : Chunk
crossing = record { address = 0x0000FC; bytes = eight }

-- what a page program of eight bytes reads
abbrev three_words : List ℕ
three_words = 0x00 ∷ 0x8008C4C1 ∷ 0x8008C0C1 ∷ 0x10 ∷ 0x10 ∷ 0x00 ∷ 0x10 ∷ 0x10 ∷ 0x00 ∷ 0x10 ∷ 0x10 ∷ 0x00 ∷ 0x8008C0C1 ∷ []

abbrev unchecked : Result
unchecked = called (working 6 ProgrammingErrorBitSet (programming 0x0000FC eight) (counts 8 (ends Done []))) 45 (one_word 0x00 ++ (three_words ++ one_word 0x00))

abbrev wrapped : Device
wrapped = resting (flash (programmed crossing blank) false none)

eight_programmed : Trace (resting (flash blank true none)) (accesses_of (programming 0x0000FC eight) 21 three_words) (resting (flash blank false (some (works_on crossing))))
unfolding runs effect after_read after_write configured register_at bytes_out execute obey command_of program_of erase_of Gives GivenBy is_status_read
eight_programmed =
    (step {a = access.Read 0x04 0x00} refl
    (step {a = access.Read 0x00 0x8008C4C1} refl
    (step {a = access.Write 0x00 0x8008C0C1} tt
    (step {a = access.Write 0x14 0x01} tt
    (step {a = access.Write 0x1C 0xFC000002} tt
    (step {a = access.Write 0x1C 0x04030201} tt
    (step {a = access.Write 0x1C 0x08070605} tt
    (step {a = access.Read 0x00 0x8008C0C1} refl
    (step {a = access.Write 0x00 0x8009C0C1} tt
    (quiet (out 0x00 (unread refl))
    (quiet (out 0x00 (unread refl))
    (quiet (out 0x00 (unread refl))
    (step {a = access.Read 0x04 0x10} refl
    (step {a = access.Read 0x04 0x10} refl
    (step {a = access.Read 0x20 0x00} refl
    (step {a = access.Read 0x04 0x10} refl
    (step {a = access.Read 0x04 0x10} refl
    (step {a = access.Read 0x20 0x00} refl
    (step {a = access.Read 0x04 0x10} refl
    (step {a = access.Read 0x04 0x10} refl
    (step {a = access.Read 0x20 0x00} refl
    (step {a = access.Read 0x00 0x8008C0C1} refl
    (step {a = access.Write 0x00 0x8008C4C1} tt
    (step {a = access.Write 0x14 0x00} tt still))))))))))))))))))))))))

unchecked_trace : Trace at_rest unchecked.log wrapped
unfolding runs bytes_out execute obey command_of
unchecked_trace =
    trace_append (enables (flash blank false none))
    (trace_append eight_programmed
    (quiet (idle settles) (polls (flash (programmed crossing blank) false none) 0x00 refl refl refl)))

unchecked_shown : ((observed unchecked.log).doubt ≡ []) × ((observed unchecked.log).finished ≡ crossing ∷ [])
unfolding runs observed sees see seen_read seen_write config_written enable_written closing is_clean is_status_read raised register_at bytes_out command_of program_of erase_of
unchecked_shown = (refl, refl)

-- 000100 is the next page's
pub no_page_check : PowerCutOf 0x0000FC eight unchecked → ⊥
unfolding runs row_log anding programmed lands lands_from byte_address
no_page_check p =
    let k = p.cut 45 (omega arith) at_rest wrapped blank (programmed crossing blank) (rests refl refl refl refl) unchecked_trace (idle_cut (programmed crossing blank) false) in
    let e : ◌≡◌ {A = ℕ} 0xFF 0x05 = bytes_of k unchecked_shown 0x000100 in
    omega (arith, e)

-- ---- two programs without a status between them: the flash is busy with the first and ignores the second, and the log shows two chunks in doubt

abbrev next_line : Chunk
next_line = record { address = 0x000104; bytes = line }

-- up to the end of the second program
abbrev unwaiting : Result
unwaiting = called (exchange enabling (λ rs. exchange (programming 0x000100 line) (λ rs. exchange enabling (λ rs. exchange (programming 0x000104 line) (λ rs. settling 6 ProgrammingErrorBitSet (counts 8 (ends Done []))))))) 58
    (one_word 0x00 ++ (two_words ++ (one_word 0x00 ++ two_words)))

abbrev at_work : Device
at_work = resting (flash blank false (some (works_on line_chunk)))

unwaiting_trace : Trace at_rest unwaiting.log at_work
unfolding runs bytes_out execute obey command_of program_of erase_of is_status_read
unwaiting_trace =
    trace_append (enables (flash blank false none))
    (trace_append (programs (flash blank true none) 0x00010002 0xEFBEADDE refl)
    (trace_append (enables (flash blank false (some (works_on line_chunk)))) (programs (flash blank false (some (works_on line_chunk))) 0x04010002 0xEFBEADDE refl)))

unwaiting_cut : AfterCut (flash blank false (some (works_on line_chunk))) blank
unfolding AfterCut
unwaiting_cut x h = refl

unwaiting_shown : (observed unwaiting.log).doubt ≡ line_chunk ∷ next_line ∷ []
unfolding runs observed sees see seen_read seen_write config_written enable_written closing is_clean is_status_read raised register_at bytes_out command_of program_of erase_of
unwaiting_shown = refl

pub no_status_between : PowerCutOf 0x000100 (line ++ line) unwaiting → ⊥
unfolding runs row_log
no_status_between p =
    let k = p.cut 58 (omega arith) at_rest at_work blank blank (rests refl refl refl refl) unwaiting_trace unwaiting_cut in
    never_two (rw unwaiting_shown at k.chunks_are)

-- the same log by two saves, each of which gives up with no status and counts nothing: "at most one chunk in doubt over all of them"
abbrev unsettled : ℕ → Save
unsettled a = save_of a line (called (exchange enabling (λ rs. exchange (programming a line) (λ rs. ends ProgrammingErrorBitSet []))) 29 (one_word 0x00 ++ two_words))

pub no_status_at_the_end : PowerCut (unsettled 0x000100 ∷ unsettled 0x000104 ∷ []) → ⊥
unfolding runs row_log
no_status_at_the_end p =
    let k = p.cut 58 (omega arith) at_rest at_work blank blank (rests refl refl refl refl) unwaiting_trace unwaiting_cut in
    never_two (rw unwaiting_shown at k.chunks_are)

-- ---- a reply less than words: chip select rises with the data word left, and the flash is handed a program without data

-- `programming`, but for one reply: as the published Rust has it
abbrev short_programming : ℕ → List ℕ → Transfer
short_programming a bs =
    let x = programming a bs in
    record { port = x.port; command = x.command; further = x.further; replies = length bs / 4; twice = x.twice }

abbrev short_replies : List ℕ
short_replies = 0x00 ∷ 0x8008C4C1 ∷ 0x8008C0C1 ∷ 0x10 ∷ 0x10 ∷ 0x00 ∷ 0x8008C0C1 ∷ []

-- the data word waits for the next start
abbrev left_behind : Device
left_behind = device 0x8008C4C1 [] (line ∷ []) [] [] (flash blank true none)

unfoldable pub short_programmed : Trace (resting (flash blank true none)) (accesses_of (short_programming 0x000100 line) 14 short_replies) left_behind
unfolding runs effect after_read after_write configured register_at bytes_out execute obey command_of program_of erase_of Gives GivenBy is_status_read
short_programmed =
    (step {a = access.Read 0x04 0x00} refl
    (step {a = access.Read 0x00 0x8008C4C1} refl
    (step {a = access.Write 0x00 0x8008C0C1} tt
    (step {a = access.Write 0x14 0x01} tt
    (step {a = access.Write 0x1C 0x00010002} tt
    (step {a = access.Write 0x1C 0xEFBEADDE} tt
    (step {a = access.Read 0x00 0x8008C0C1} refl
    (step {a = access.Write 0x00 0x8009C0C1} tt
    (quiet (out 0x00 (unread refl))
    (step {a = access.Read 0x04 0x10} refl
    (step {a = access.Read 0x04 0x10} refl
    (step {a = access.Read 0x20 0x00} refl
    (step {a = access.Read 0x00 0x8008C0C1} refl
    (step {a = access.Write 0x00 0x8008C4C1} tt
    (step {a = access.Write 0x14 0x00} tt still)))))))))))))))

-- not all words are out before chip select rises
pub word_left : AllOut short_programmed → ⊥
unfolding short_programmed AllOut raises effect after_read after_write configured register_at bytes_out
word_left h = cons≢nil (h.1.1.1.1.1.1.1.1.1.1.1.1.0 refl)

-- THEOREM. So of a call with one reply less than words the claim that all words are out is false.
pub one_reply_short : WordsOut (λ s. s ≡ exchange (short_programming 0x000100 line) done) → ⊥
one_reply_short o = word_left (o.at_each_rise (run_last (exchange (short_programming 0x000100 line) done) refl 14 short_replies) (at_rest_so refl refl refl refl) short_programmed)

abbrev replied_less : Result
replied_less = called (working 6 ProgrammingErrorBitSet (short_programming 0x000100 line) (counts 4 (ends Done []))) 38 (one_word 0x00 ++ (short_replies ++ one_word 0x00))

-- the status command is left too
abbrev less_end : Device
less_end = device 0x8008C4C1 [] ((0x05 ∷ 0x00 ∷ []) ∷ []) [] [] (flash blank true none)

-- the data word goes out in front of the status command, so that its reply is no status
less_polled : Trace left_behind (accesses_of status_reading 12 (one_word 0x00)) less_end
unfolding runs effect after_read after_write configured register_at bytes_out execute obey command_of Gives GivenBy is_status_read
less_polled =
    (step {a = access.Read 0x04 0x00} refl
    (step {a = access.Read 0x00 0x8008C4C1} refl
    (step {a = access.Write 0x00 0x8008C0C1} tt
    (step {a = access.Write 0x14 0x01} tt
    (step {a = access.Write 0x84 0x05} tt
    (step {a = access.Read 0x00 0x8008C0C1} refl
    (step {a = access.Write 0x00 0x8009C0C1} tt
    (quiet (out 0x00 (unread refl))
    (step {a = access.Read 0x04 0x10} refl
    (step {a = access.Read 0x20 0x00} refl
    (step {a = access.Read 0x00 0x8008C0C1} refl
    (step {a = access.Write 0x00 0x8008C4C1} tt
    (step {a = access.Write 0x14 0x00} tt still)))))))))))))

less_trace : Trace at_rest replied_less.log less_end
unfolding runs execute obey command_of
less_trace = trace_append (enables (flash blank false none)) (trace_append short_programmed less_polled)

-- the run takes the line for programmed
less_shown : ((observed replied_less.log).doubt ≡ []) × ((observed replied_less.log).finished ≡ line_chunk ∷ [])
unfolding runs observed sees see seen_read seen_write config_written enable_written closing is_clean is_status_read raised register_at bytes_out command_of program_of erase_of
less_shown = (refl, refl)

pub one_reply_less : PowerCutOf 0x000100 line replied_less → ⊥
unfolding runs row_log anding
one_reply_less p =
    let k = p.cut 38 (omega arith) at_rest less_end blank blank (rests refl refl refl refl) less_trace (idle_cut blank true) in
    let e : ◌≡◌ {A = ℕ} 0xFF 0xDE = bytes_of k less_shown 0x000100 in
    omega (arith, e)

-- ---- a reply for each word, but the last taken after chip select has risen: the first status transfer takes it in front of its own, with no
-- drain that would drop it

abbrev late_status : Transfer
late_status =
    let x = status_reading in
    record { port = x.port; command = x.command; further = x.further; replies = 2; twice = x.twice }

-- where the second reply is not clean the usual loop decides
abbrev replied_late : Result
replied_late = called (exchange enabling (λ rs. exchange (short_programming 0x000100 line) (λ rs. perform (modify chip_select_low) (drop 1 (opening late_status)) no_bytes
    (λ rs. onward (is_set 6 (top_byte (get_or rs 1 0)) || is_set 0 (top_byte (get_or rs 1 0))) (settling 6 ProgrammingErrorBitSet (counts 4 (ends Done []))) (counts 4 (ends Done [])))))) 39
    (one_word 0x00 ++ (short_replies ++ (0x8008C4C1 ∷ 0x8008C0C1 ∷ 0x10 ∷ 0x00 ∷ 0x10 ∷ 0x00 ∷ 0x8008C0C1 ∷ [])))

late_trace : Trace at_rest replied_late.log (resting (flash blank true none))
unfolding runs effect after_read after_write configured register_at bytes_out execute obey command_of Gives GivenBy is_status_read
late_trace =
    trace_append (enables (flash blank false none))
    (trace_append short_programmed
    (step {a = access.Read 0x00 0x8008C4C1} refl
    (step {a = access.Write 0x00 0x8008C0C1} tt
    (step {a = access.Write 0x14 0x01} tt
    (step {a = access.Write 0x84 0x05} tt
    (step {a = access.Read 0x00 0x8008C0C1} refl
    (step {a = access.Write 0x00 0x8009C0C1} tt
    (quiet (out 0x00 (unread refl))
    (quiet (out 0x00 (unread refl))
    (step {a = access.Read 0x04 0x10} refl
    (step {a = access.Read 0x20 0x00} refl
    (step {a = access.Read 0x04 0x10} refl
    (step {a = access.Read 0x20 0x00} refl
    (step {a = access.Read 0x00 0x8008C0C1} refl
    (step {a = access.Write 0x00 0x8008C4C1} tt
    (step {a = access.Write 0x14 0x00} tt still))))))))))))))))

late_shown : ((observed replied_late.log).doubt ≡ []) × ((observed replied_late.log).finished ≡ line_chunk ∷ [])
unfolding runs observed sees see seen_read seen_write config_written enable_written closing is_clean is_status_read raised register_at bytes_out command_of program_of erase_of
late_shown = (refl, refl)

pub one_reply_late : PowerCutOf 0x000100 line replied_late → ⊥
unfolding runs row_log anding
one_reply_late p =
    let k = p.cut 39 (omega arith) at_rest (resting (flash blank true none)) blank blank (rests refl refl refl refl) late_trace (idle_cut blank true) in
    let e : ◌≡◌ {A = ℕ} 0xFF 0xDE = bytes_of k late_shown 0x000100 in
    omega (arith, e)

-- ---- a busy status taken for done, and bytes counted once they are sent: the count is not that of the chunks finished in the log

abbrev hasty : Result
hasty = called (exchange enabling (λ rs. exchange (programming 0x000100 line) (λ rs. exchange status_reading (λ rs. counts 4 (ends Done []))))) 41 (one_chunk 0x01000000)

pub busy_taken_for_done : PowerCutOf 0x000100 line hasty → ⊥
unfolding runs observed sees see seen_read seen_write config_written enable_written closing is_clean is_status_read raised register_at bytes_out command_of program_of erase_of total
busy_taken_for_done p = let e : ◌≡◌ {A = ℕ} 4 0 = p.counted.0 in omega (arith, e)

abbrev counted_early : Result
counted_early = called (exchange enabling (λ rs. exchange (programming 0x000100 line) (λ rs. counts 4 (settling 6 ProgrammingErrorBitSet (ends Done []))))) 29 (one_word 0x00 ++ two_words)

pub counted_before_clean : PowerCutOf 0x000100 line counted_early → ⊥
unfolding runs observed sees see seen_read seen_write config_written enable_written closing is_clean is_status_read raised register_at bytes_out command_of program_of erase_of total
counted_before_clean p = let e : ◌≡◌ {A = ℕ} 4 0 = p.counted.0 in omega (arith, e)
