-- Bits of a register word: bit 0 is the lowest.
use Rattle.std.specs.Prelude.{ℕ, ◌+◌, ◌-◌, ◌*◌, ◌/◌, ◌%◌, ◌^◌, Bool, true, false, eqb}

-- bit i of w, 0 or 1
abbrev pub bit : ℕ → ℕ → ℕ
bit i w = w / 2 ^ i % 2

abbrev pub is_set : ℕ → ℕ → Bool
is_set i w = eqb (bit i w) 1

-- w with bit i one
abbrev pub put : ℕ → ℕ → ℕ
put i w = w + (1 - bit i w) * 2 ^ i

-- w with bit i zero
abbrev pub clear : ℕ → ℕ → ℕ
clear i w = w - bit i w * 2 ^ i

-- w with all bits below bit n zero
abbrev pub zero_below : ℕ → ℕ → ℕ
zero_below n w = w / 2 ^ n * 2 ^ n

-- a one-bit field's value
abbrev pub flag_value : Bool → ℕ
flag_value true = 1
flag_value false = 0
