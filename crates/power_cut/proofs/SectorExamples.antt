-- A list of two sectors at work: what the log of a run shows at some cut points, of a run that fails, and of a run whose replies lie. Assumes nothing.
use mathlib.Core.Path.{◌≡◌, refl}
use mathlib.Core.List.{List, [], ◌∷◌, ◌++◌}
use Prim.Native.Nat.{ℕ}
use lib.ListN.{length, take}
use Rattle.qspi_script.specs.declared.Status.TheVariants.{Done, EraseErrorBitSet, RepliesEnded}
use Rattle.qspi_operation.specs.Machine.{Result, count_in, runs, called}
use Rattle.qspi_calls.specs.Calls.{erase_sectors}
use Rattle.power_cut.specs.Flash.{program_of, erase_of, command_of}
use Rattle.power_cut.specs.Controller.{register_at, bytes_out, is_status_read}
use Rattle.power_cut.specs.SectorObserver.{SectorsSeen, raised, config_written, is_clean, closing, enable_written, seen_write, seen_read, see, sees, seen}

-- the replies of a transfer of one word, whose RX word is this
abbrev transfer : ℕ → List ℕ
transfer v = 0x00 ∷ 0x8008C4C1 ∷ 0x8008C0C1 ∷ 0x10 ∷ v ∷ 0x8008C0C1 ∷ []

abbrev two : List ℕ
two = 0x030000 ∷ 0x010000 ∷ []

-- the first is busy once, and its clean status has the program error's bit set; the second is clean at once
abbrev ran : Result
ran =
    called (erase_sectors two) 84
    (transfer 0xFF000000 ++ (transfer 0xFF000000 ++ (transfer 0x03000000 ++ (transfer 0x40000000 ++ (transfer 0xFF000000 ++ (transfer 0xFF000000 ++ transfer 0x00000000))))))

pub succeeds : (ran.answer ≡ Done) × ((count_in ran.state ≡ 2) × (length ran.log ≡ 84))
unfolding runs
succeeds = (refl, (refl, refl))

-- before the first erase's chip select rises, from then on, before its clean status has closed, then, from the rise of the second, and at the end
abbrev shown_at : ℕ → SectorsSeen
shown_at k = seen (take k ran.log)

pub before_the_rise : ((shown_at 22).doubt ≡ []) × ((shown_at 22).finished ≡ [])
unfolding runs seen sees see seen_read seen_write config_written enable_written closing is_clean is_status_read raised register_at bytes_out command_of program_of erase_of
before_the_rise = (refl, refl)

pub from_the_rise : ((shown_at 23).doubt ≡ 0x030000 ∷ []) × ((shown_at 23).finished ≡ [])
unfolding runs seen sees see seen_read seen_write config_written enable_written closing is_clean is_status_read raised register_at bytes_out command_of program_of erase_of
from_the_rise = (refl, refl)

pub after_a_busy_status : ((shown_at 36).doubt ≡ 0x030000 ∷ []) × ((shown_at 36).finished ≡ [])
unfolding runs seen sees see seen_read seen_write config_written enable_written closing is_clean is_status_read raised register_at bytes_out command_of program_of erase_of
after_a_busy_status = (refl, refl)

pub before_the_closing : ((shown_at 47).doubt ≡ 0x030000 ∷ []) × ((shown_at 47).finished ≡ [])
unfolding runs seen sees see seen_read seen_write config_written enable_written closing is_clean is_status_read raised register_at bytes_out command_of program_of erase_of
before_the_closing = (refl, refl)

pub after_the_closing : ((shown_at 48).doubt ≡ []) × ((shown_at 48).finished ≡ 0x030000 ∷ [])
unfolding runs seen sees see seen_read seen_write config_written enable_written closing is_clean is_status_read raised register_at bytes_out command_of program_of erase_of
after_the_closing = (refl, refl)

pub second_in_doubt : ((shown_at 71).doubt ≡ 0x010000 ∷ []) × ((shown_at 71).finished ≡ 0x030000 ∷ [])
unfolding runs seen sees see seen_read seen_write config_written enable_written closing is_clean is_status_read raised register_at bytes_out command_of program_of erase_of
second_in_doubt = (refl, refl)

pub at_the_end : ((shown_at 84).doubt ≡ []) × ((shown_at 84).finished ≡ two)
unfolding runs seen sees see seen_read seen_write config_written enable_written closing is_clean is_status_read raised register_at bytes_out command_of program_of erase_of
at_the_end = (refl, refl)

-- ---- 23 at the closing of the clean status: the sector is not counted

abbrev cut_short : Result
cut_short = called (erase_sectors two) 84 (take 23 (transfer 0xFF000000 ++ (transfer 0xFF000000 ++ (transfer 0x03000000 ++ transfer 0x00000000))))

pub not_counted : (cut_short.answer ≡ RepliesEnded) × ((count_in cut_short.state ≡ 0) × (((seen cut_short.log).doubt ≡ 0x030000 ∷ []) × ((seen cut_short.log).finished ≡ [])))
unfolding runs seen sees see seen_read seen_write config_written enable_written closing is_clean is_status_read raised register_at bytes_out command_of program_of erase_of
not_counted = (refl, (refl, (refl, refl)))

-- ---- 21 on the second sector: the first is counted, the second stays in doubt

abbrev fails : Result
fails =
    called (erase_sectors two) 96
    (transfer 0xFF000000 ++ (transfer 0xFF000000 ++ (transfer 0x00000000 ++ (transfer 0xFF000000 ++ (transfer 0xFF000000 ++ (transfer 0x20000000 ++ (transfer 0xFF000000 ++ transfer 0xFF000000)))))))

pub one_counted : (fails.answer ≡ EraseErrorBitSet) × ((count_in fails.state ≡ 1) × (((seen fails.log).doubt ≡ 0x010000 ∷ []) × ((seen fails.log).finished ≡ 0x030000 ∷ [])))
unfolding runs seen sees see seen_read seen_write config_written enable_written closing is_clean is_status_read raised register_at bytes_out command_of program_of erase_of
one_counted = (refl, (refl, (refl, refl)))

-- ---- replies that lie: config reads with chip select high where the erase is started, so that it rises there by the log

abbrev lies : Result
lies = called (erase_sectors two) 19 (transfer 0xFF000000 ++ (0x00 ∷ 0x8008C4C1 ∷ 0x8008C4C1 ∷ []))

pub early : (length lies.log ≡ 19) × (((seen (take 18 lies.log)).doubt ≡ []) × ((seen lies.log).doubt ≡ 0x030000 ∷ []))
unfolding runs seen sees see seen_read seen_write config_written enable_written closing is_clean is_status_read raised register_at bytes_out command_of program_of erase_of
early = (refl, (refl, refl))
