-- The controller's FIFOs, as the Rust has them: "Depth of the TX and RX FIFO in 32 bit words", and its loop before start, "Fill the FIFO until it is full".
use Rattle.std.specs.Prelude.{ℕ, ◌-◌, min}

abbrev pub fifo_depth : ℕ
fifo_depth = 63

-- the words behind the command word that are written before start: `min(fifo_writes, FIFO_DEPTH - 1)`
abbrev pub prefilled : ℕ → ℕ
prefilled n = min n (fifo_depth - 1)
