-- What a read is answered, by its style: a status, a config word, or data received, whose top byte may be a status: of that bits 6 and 5
-- tell errors and bit 0 that the chip is busy.
use Rattle.std.specs.Prelude.{ℕ, ◌/◌, ◌%◌, Bool, true, false, not, eqb, if◌then◌else◌, bit_and, bit_or}
use Rattle.trial_calls.specs.Draws.{swapped}
use Rattle.trial_calls.specs.declared.reply.Style.{Style}
use Rattle.trial_calls.specs.declared.reply.Style.TheVariants.{Prompt, Busy, Anything, BusyWithErrors, ProgrammingError, EraseError, Slow}

-- every other time
abbrev pub every_other : ℕ → Bool
every_other draw = eqb (draw / 0x8000000 % 2) 1

-- three times in four
abbrev pub mostly : ℕ → Bool
mostly draw = not (eqb (draw / 0x4000000 % 4) 0)

-- whether a status read has bit 4 set, by whether the controller is enabled
abbrev pub is_ready : Style → Bool → ℕ → Bool
is_ready Slow true draw = every_other draw
is_ready s false draw = every_other draw
is_ready s true draw = mostly draw

abbrev pub drawn_status : Bool → ℕ → ℕ
drawn_status ready word = if ready then bit_or word 0x10 else bit_and word 0xFFFFFFEF

abbrev pub status_of : Style → Bool → ℕ → ℕ
status_of Prompt enabled draw = if enabled then 0x10 else 0
status_of s enabled draw = drawn_status (is_ready s enabled draw) (swapped draw)

abbrev pub config_of : Style → ℕ → ℕ
config_of Prompt draw = 0x8008C4C1
config_of s draw = swapped draw

abbrev pub received_of : Style → ℕ → ℕ
received_of Busy word = bit_and word 0x9FFFFFFF
received_of Anything word = word
received_of BusyWithErrors word = bit_or word 0x61000000
received_of ProgrammingError word = bit_or (bit_and word 0x9EFFFFFF) 0x40000000
received_of EraseError word = bit_or (bit_and word 0x9EFFFFFF) 0x20000000
received_of s word = bit_and word 0x9EFFFFFF

-- by the register's offset
abbrev pub reply_of : Style → ℕ → Bool → ℕ → ℕ
reply_of s draw enabled offset =
    if eqb offset 0x04 then status_of s enabled draw else (if eqb offset 0x00 then config_of s draw else received_of s (swapped draw))
