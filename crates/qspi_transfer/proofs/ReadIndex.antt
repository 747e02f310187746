-- Taking a reply adds 4 to `read_index` without a wrap wherever the sum fits. That it fits, over every run of `program`, `write_pages` and the reads, is said in proofs/ReadIndex of qspi_calls.
-- Assumes nothing.
use Rattle.std.proofs.Common.{◌≡◌, ℕ, ◌+◌, ◌^◌, ◌<◌, arith}
use Rattle.qspi_transfer.specs.Wire.{four_more}

pub never_wraps : (n : ℕ) → n + 4 < 2 ^ 32 → four_more n ≡ n + 4
never_wraps n h = omega arith
