-- The draws of the trials: a linear congruential generator in 32 bits.
use Rattle.std.specs.Prelude.{ℕ, ◌+◌, ◌*◌, ◌/◌, ◌%◌, ◌^◌}

abbrev pub next_draw : ℕ → ℕ
next_draw draw = (draw * 1664525 + 1013904223) % 2 ^ 32

-- the halves of a draw, exchanged
abbrev pub swapped : ℕ → ℕ
swapped draw = draw % 2 ^ 16 * 2 ^ 16 + draw / 2 ^ 16
