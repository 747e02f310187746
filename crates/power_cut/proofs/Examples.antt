-- The statement at work. `witness`: a whole run of an accepted call that meets the premises, with an RX word from before, words that go out late
-- and a status that shows busy; and what its log shows at some cut points. Calls that are refused after a finished chunk. At the end the whole
-- transfers, written once, of which the runs of proofs/WrongDrivers and proofs/RowExamples are made. Assumes nothing.
use mathlib.Core.Path.{◌≡◌, refl}
use mathlib.Core.Bool.{true, false}
use mathlib.Core.Option.{none}
use mathlib.Core.List.{List, [], ◌∷◌, ◌++◌}
use Prim.Native.Nat.{ℕ, zero, suc, ◌<◌}
use native.Mathlib.Omega.{arith}
use lib.ListN.{get_or, take}
use Rattle.zynq7000.specs.declared.qspi.Access.{Access}
use Rattle.zynq7000.specs.declared.qspi.Access.TheVariants as access
use Rattle.qspi_script.specs.declared.Status.TheVariants.{Done, NotAligned, CrossesPageBoundary}
use Rattle.qspi_calls.specs.Chunks.{Chunk, chunks_in, chunks}
use Rattle.qspi_operation.specs.Machine.{Transfer, exchange, Result, count_in, runs, called}
use Rattle.qspi_calls.specs.Calls.{enabling, status_reading, zeros, done, write_pages}
use Rattle.qspi_calls.proofs.WireOrder.{AllBytes}
use Rattle.power_cut.specs.Flash.{Array, Flash, flash, busy, program_of, erase_of, command_of, programmed, obey, execute, settles}
use Rattle.power_cut.specs.Controller.{register_at, bytes_out, is_status_read, shows_busy, shows_program_error, shows_erase_error, Device, device, Shows, out, idle, configured, after_write, after_read, effect, GivenBy, Gives, Trace, still, quiet, step, Rests, rests}
use Rattle.power_cut.specs.Observer.{Observed, raised, config_written, is_clean, closing, enable_written, seen_write, seen_read, see, sees, observed}
use Rattle.power_cut.specs.Row.{save_of, IsRun}
use Rattle.power_cut.specs.Witness.{end_of, done_of, comes_to, finishes}
use Rattle.power_cut.proofs.ControllerLaws.{any_such_status, any_other_reply}

abbrev pub line : List ℕ
line = 0xDE ∷ 0xAD ∷ 0xBE ∷ 0xEF ∷ []

abbrev pub line_chunk : Chunk
line_chunk = record { address = 0x000100; bytes = line }

abbrev pub blank : Array
blank x = 0xFF

-- a reply to no status read, and one to a status read
pub unread : {c : ℕ} {f : Flash} {bs : List ℕ} {v : ℕ} → is_status_read bs ≡ false → Shows c f bs v
unread {c} {f} {bs} {v} e = any_other_reply c f bs v e

pub told : {c : ℕ} {f : Flash} {bs : List ℕ} {v : ℕ} → shows_busy v ≡ busy f → shows_program_error v ≡ false → shows_erase_error v ≡ false → Shows c f bs v
told {c} {f} {bs} {v} b p e = any_such_status c f bs v b p e

-- ---- a run that meets the premises

abbrev replies : List ℕ
replies =
    0x10 ∷ 0x07 ∷ 0x00 ∷ 0x8008C4C1 ∷ 0x8008C0C1 ∷ 0x10 ∷ 0xFF000000 ∷ 0x8008C0C1 ∷
    0x00 ∷ 0x8008C4C1 ∷ 0x8008C0C1 ∷ 0x10 ∷ 0x10 ∷ 0xFF000000 ∷ 0x10 ∷ 0x10 ∷ 0x00 ∷ 0x8008C0C1 ∷
    0x00 ∷ 0x8008C4C1 ∷ 0x8008C0C1 ∷ 0x00 ∷ 0x10 ∷ 0x03000000 ∷ 0x8008C0C1 ∷
    0x00 ∷ 0x8008C4C1 ∷ 0x8008C0C1 ∷ 0x10 ∷ 0x02000000 ∷ 0x8008C0C1 ∷ []

abbrev ran : Result
ran = called (write_pages 0x000100 line) 56 replies

abbrev at_rest : Device
at_rest = device 0x8008C4C1 [] [] [] (0x07 ∷ []) (flash blank false none)

pub is_at_rest : Rests blank at_rest
is_at_rest = rests refl refl refl refl

pub succeeds : (ran.answer ≡ Done) × (count_in ran.state ≡ 4)
unfolding runs chunks chunks_in
succeeds = (refl, refl)

pub witness : Trace at_rest ran.log (device 0x8008C4C1 [] [] [] [] (flash (programmed line_chunk blank) false none))
unfolding runs chunks chunks_in effect after_read after_write configured register_at bytes_out execute obey command_of program_of erase_of Gives GivenBy is_status_read
witness =
    -- write enable; an RX word waits from before
    (step {a = access.Read 0x04 0x10} refl
    (step {a = access.Read 0x20 0x07} refl
    (step {a = access.Read 0x04 0x00} refl
    (step {a = access.Read 0x00 0x8008C4C1} refl
    (step {a = access.Write 0x00 0x8008C0C1} tt
    (step {a = access.Write 0x14 0x01} tt
    (step {a = access.Write 0x80 0x06} tt
    (step {a = access.Read 0x00 0x8008C0C1} refl
    (step {a = access.Write 0x00 0x8009C0C1} tt
    (quiet (out 0xFF000000 (unread refl))
    (step {a = access.Read 0x04 0x10} refl
    (step {a = access.Read 0x20 0xFF000000} refl
    (step {a = access.Read 0x00 0x8008C0C1} refl
    (step {a = access.Write 0x00 0x8008C4C1} tt
    (step {a = access.Write 0x14 0x00} tt
    -- page program; its data word goes out after the first reply was taken, and chip select rises after the second
    (step {a = access.Read 0x04 0x00} refl
    (step {a = access.Read 0x00 0x8008C4C1} refl
    (step {a = access.Write 0x00 0x8008C0C1} tt
    (step {a = access.Write 0x14 0x01} tt
    (step {a = access.Write 0x1C 0x00010002} tt
    (step {a = access.Write 0x1C 0xEFBEADDE} tt
    (step {a = access.Read 0x00 0x8008C0C1} refl
    (step {a = access.Write 0x00 0x8009C0C1} tt
    (quiet (out 0xFF000000 (unread refl))
    (step {a = access.Read 0x04 0x10} refl
    (step {a = access.Read 0x04 0x10} refl
    (step {a = access.Read 0x20 0xFF000000} refl
    (quiet (out 0x00 (unread refl))
    (step {a = access.Read 0x04 0x10} refl
    (step {a = access.Read 0x04 0x10} refl
    (step {a = access.Read 0x20 0x00} refl
    (step {a = access.Read 0x00 0x8008C0C1} refl
    (step {a = access.Write 0x00 0x8008C4C1} tt
    (step {a = access.Write 0x14 0x00} tt
    -- a status read that shows busy; its word goes out late
    (step {a = access.Read 0x04 0x00} refl
    (step {a = access.Read 0x00 0x8008C4C1} refl
    (step {a = access.Write 0x00 0x8008C0C1} tt
    (step {a = access.Write 0x14 0x01} tt
    (step {a = access.Write 0x84 0x05} tt
    (step {a = access.Read 0x00 0x8008C0C1} refl
    (step {a = access.Write 0x00 0x8009C0C1} tt
    (step {a = access.Read 0x04 0x00} refl
    (quiet (out 0x03000000 (told refl refl refl))
    (step {a = access.Read 0x04 0x10} refl
    (step {a = access.Read 0x20 0x03000000} refl
    (step {a = access.Read 0x00 0x8008C0C1} refl
    (step {a = access.Write 0x00 0x8008C4C1} tt
    (step {a = access.Write 0x14 0x00} tt
    (quiet (idle settles)
    -- and one that does not
    (step {a = access.Read 0x04 0x00} refl
    (step {a = access.Read 0x00 0x8008C4C1} refl
    (step {a = access.Write 0x00 0x8008C0C1} tt
    (step {a = access.Write 0x14 0x01} tt
    (step {a = access.Write 0x84 0x05} tt
    (step {a = access.Read 0x00 0x8008C0C1} refl
    (step {a = access.Write 0x00 0x8009C0C1} tt
    (quiet (out 0x02000000 (told refl refl refl))
    (step {a = access.Read 0x04 0x10} refl
    (step {a = access.Read 0x20 0x02000000} refl
    (step {a = access.Read 0x00 0x8008C0C1} refl
    (step {a = access.Write 0x00 0x8008C4C1} tt
    (step {a = access.Write 0x14 0x00} tt still))))))))))))))))))))))))))))))))))))))))))))))))))))))))))))))

-- what the log shows before the page program's chip select rises, from then on, before the last closing, and at the end
abbrev shown_at : ℕ → Observed
shown_at k = observed (take k ran.log)

pub before_the_rise : ((shown_at 29).doubt ≡ []) × ((shown_at 29).finished ≡ [])
unfolding runs chunks chunks_in observed sees see seen_read seen_write config_written enable_written closing is_clean is_status_read raised register_at bytes_out command_of program_of erase_of
before_the_rise = (refl, refl)

pub from_the_rise : ((shown_at 30).doubt ≡ line_chunk ∷ []) × ((shown_at 30).finished ≡ [])
unfolding runs chunks chunks_in observed sees see seen_read seen_write config_written enable_written closing is_clean is_status_read raised register_at bytes_out command_of program_of erase_of
from_the_rise = (refl, refl)

pub before_the_closing : ((shown_at 55).doubt ≡ line_chunk ∷ []) × ((shown_at 55).finished ≡ [])
unfolding runs chunks chunks_in observed sees see seen_read seen_write config_written enable_written closing is_clean is_status_read raised register_at bytes_out command_of program_of erase_of
before_the_closing = (refl, refl)

pub after_the_closing : ((shown_at 56).doubt ≡ []) × ((shown_at 56).finished ≡ line_chunk ∷ [])
unfolding runs chunks chunks_in observed sees see seen_read seen_write config_written enable_written closing is_clean is_status_read raised register_at bytes_out command_of program_of erase_of
after_the_closing = (refl, refl)

-- ---- calls that `possible` speaks of: rules 4 and 5 come after a finished chunk

abbrev first_chunk : ℕ → Chunk
first_chunk a = record { address = a; bytes = zeros 128 }

-- 130 bytes at 000100, and 256 bytes at 000040
pub four_after_a_chunk : (comes_to 0x000100 (zeros 130) ≡ NotAligned) × (finishes 0x000100 (zeros 130) ≡ first_chunk 0x000100 ∷ [])
unfolding comes_to finishes end_of done_of chunks chunks_in
four_after_a_chunk = (refl, refl)

pub five_after_a_chunk : (comes_to 0x000040 (zeros 256) ≡ CrossesPageBoundary) × (finishes 0x000040 (zeros 256) ≡ first_chunk 0x000040 ∷ [])
unfolding comes_to finishes end_of done_of chunks chunks_in
five_after_a_chunk = (refl, refl)

-- ---- runs of `write_pages`

octets_of : (bs : List ℕ) → AllBytes bs → (i : ℕ) → get_or bs i 0 < 256
octets_of [] h i = omega arith
octets_of (b ∷ bs) h zero = h.0
octets_of (b ∷ bs) h (suc i) = octets_of bs h.1 i

pub run_of : (a : ℕ) (bs : List ℕ) (room : ℕ) (replies : List ℕ) → AllBytes bs → IsRun (save_of a bs (called (write_pages a bs) room replies))
run_of a bs room replies h = record { octets = octets_of bs h; room = room; replies = replies; is = refl }

-- ---- whole transfers, on any flash: every word is out at once, and no RX word waits before them or after

abbrev pub resting : Flash → Device
resting f = device 0x8008C4C1 [] [] [] [] f

-- what a transfer of one word reads, with this as the reply, and what a page program of four bytes reads
abbrev pub one_word : ℕ → List ℕ
one_word v = 0x00 ∷ 0x8008C4C1 ∷ 0x8008C0C1 ∷ 0x10 ∷ v ∷ 0x8008C0C1 ∷ []

abbrev pub two_words : List ℕ
two_words = 0x00 ∷ 0x8008C4C1 ∷ 0x8008C0C1 ∷ 0x10 ∷ 0x10 ∷ 0x00 ∷ 0x10 ∷ 0x10 ∷ 0x00 ∷ 0x8008C0C1 ∷ []

-- what a call reads that writes one chunk of four bytes, with this status at its end
abbrev pub one_chunk : ℕ → List ℕ
one_chunk v = one_word 0x00 ++ (two_words ++ one_word v)

-- the accesses of a transfer by itself, so many, on these replies
abbrev pub accesses_of : Transfer → ℕ → List ℕ → List Access
accesses_of x n replies = (called (exchange x done) n replies).log

pub enables : (f : Flash) → Trace (resting f) (accesses_of enabling 12 (one_word 0x00)) (resting (execute f (0x06 ∷ [])))
unfolding runs effect after_read after_write configured register_at bytes_out Gives GivenBy is_status_read
enables f =
    (step {a = access.Read 0x04 0x00} refl
    (step {a = access.Read 0x00 0x8008C4C1} refl
    (step {a = access.Write 0x00 0x8008C0C1} tt
    (step {a = access.Write 0x14 0x01} tt
    (step {a = access.Write 0x80 0x06} tt
    (step {a = access.Read 0x00 0x8008C0C1} refl
    (step {a = access.Write 0x00 0x8009C0C1} tt
    (quiet (out 0x00 (unread refl))
    (step {a = access.Read 0x04 0x10} refl
    (step {a = access.Read 0x20 0x00} refl
    (step {a = access.Read 0x00 0x8008C0C1} refl
    (step {a = access.Write 0x00 0x8008C4C1} tt
    (step {a = access.Write 0x14 0x00} tt still)))))))))))))

-- a page program of two words: command and data
abbrev pub two_word_program : ℕ → ℕ → Transfer
two_word_program v w = record { port = 0x1C; command = v; further = w ∷ []; replies = 2; twice = true }

pub programs : (f : Flash) (v w : ℕ) → is_status_read (bytes_out 4 v) ≡ false → Trace (resting f) (accesses_of (two_word_program v w) 17 two_words) (resting (execute f (bytes_out 4 v ++ bytes_out 4 w)))
unfolding runs effect after_read after_write configured register_at bytes_out Gives GivenBy is_status_read
programs f v w e =
    (step {a = access.Read 0x04 0x00} refl
    (step {a = access.Read 0x00 0x8008C4C1} refl
    (step {a = access.Write 0x00 0x8008C0C1} tt
    (step {a = access.Write 0x14 0x01} tt
    (step {a = access.Write 0x1C v} tt
    (step {a = access.Write 0x1C w} tt
    (step {a = access.Read 0x00 0x8008C0C1} refl
    (step {a = access.Write 0x00 0x8009C0C1} tt
    (quiet (out 0x00 (unread e))
    (quiet (out 0x00 (unread e))
    (step {a = access.Read 0x04 0x10} refl
    (step {a = access.Read 0x04 0x10} refl
    (step {a = access.Read 0x20 0x00} refl
    (step {a = access.Read 0x04 0x10} refl
    (step {a = access.Read 0x04 0x10} refl
    (step {a = access.Read 0x20 0x00} refl
    (step {a = access.Read 0x00 0x8008C0C1} refl
    (step {a = access.Write 0x00 0x8008C4C1} tt
    (step {a = access.Write 0x14 0x00} tt still)))))))))))))))))))

pub polls : (f : Flash) (v : ℕ) → shows_busy v ≡ busy f → shows_program_error v ≡ false → shows_erase_error v ≡ false → Trace (resting f) (accesses_of status_reading 12 (one_word v)) (resting (execute f (0x05 ∷ 0x00 ∷ [])))
unfolding runs effect after_read after_write configured register_at bytes_out Gives GivenBy
polls f v b p e =
    (step {a = access.Read 0x04 0x00} refl
    (step {a = access.Read 0x00 0x8008C4C1} refl
    (step {a = access.Write 0x00 0x8008C0C1} tt
    (step {a = access.Write 0x14 0x01} tt
    (step {a = access.Write 0x84 0x05} tt
    (step {a = access.Read 0x00 0x8008C0C1} refl
    (step {a = access.Write 0x00 0x8009C0C1} tt
    (quiet (out v (told b p e))
    (step {a = access.Read 0x04 0x10} refl
    (step {a = access.Read 0x20 v} refl
    (step {a = access.Read 0x00 0x8008C0C1} refl
    (step {a = access.Write 0x00 0x8008C4C1} tt
    (step {a = access.Write 0x14 0x00} tt still)))))))))))))
