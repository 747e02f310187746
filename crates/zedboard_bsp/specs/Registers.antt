-- What is written back to SR1 and CR1: the Rust's `new` and document 01, "What changes shape" (`set_write_protection`). A field gets its
-- value, the bits above and below it stay as read.
use Rattle.std.specs.Prelude.{ℕ, ◌+◌, ◌*◌, ◌/◌, ◌%◌, ◌^◌, Bool, cond, not, ◌&&◌, ◌||◌, eqb}
use Rattle.zynq7000.specs.Qspi.{Field, field}
use Rattle.zedboard_bsp.specs.Spansion.{status_register_write_disable, block_protection, latency_code, quad_bit}

abbrev pub field_value : Field → ℕ → ℕ
field_value (field low width) w = w / 2 ^ low % 2 ^ width

-- w with the low bits of v in the field: the bits above it, the field, the bits below it
abbrev pub with_field : Field → ℕ → ℕ → ℕ
with_field (field low width) v w = w / 2 ^ (width + low) * 2 ^ (width + low) + v % 2 ^ width * 2 ^ low + w % 2 ^ low

-- "with bit 7 clear and bits 2 to 4 as asked"
abbrev pub protected : ℕ → ℕ → ℕ
protected sr protection = with_field block_protection protection (with_field status_register_write_disable 0 sr)

-- ---- `new`: what is asked for, and where the register has it already nothing is to be written

abbrev pub is_protected : ℕ → Bool
is_protected sr = not (eqb (field_value block_protection sr) 0)

abbrev pub quad_set : Bool → ℕ → ℕ
quad_set quad cr = cond quad (with_field quad_bit 1 cr) cr

-- CR1 with the quad bit set and the latency code put, each where asked
abbrev pub configured_cr : Bool → Bool → ℕ → ℕ → ℕ
configured_cr quad setLatency latency cr = cond setLatency (with_field latency_code latency (quad_set quad cr)) (quad_set quad cr)

-- SR1 with the protection cleared where asked; bit 7 stays where no block is protected
abbrev pub configured_sr : Bool → ℕ → ℕ
configured_sr clear sr = cond (clear && is_protected sr) (protected sr 0) sr

abbrev pub update_needed : Bool → Bool → ℕ → Bool → ℕ → ℕ → Bool
update_needed quad setLatency latency clear cr sr =
    (quad && eqb (field_value quad_bit cr) 0) || (setLatency && not (eqb (field_value latency_code cr) (latency % 4))) || (clear && is_protected sr)
