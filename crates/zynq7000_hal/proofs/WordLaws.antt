-- The words as the code adds them up are those of the tables: values within their widths lose nothing, and absent fields are 0. Assumes
-- nothing.
use Prim.Native.Nat.{ℕ, ◌+◌, ◌*◌, ◌%◌, ◌<◌, ◌≤◌}
use mathlib.Core.Path.{◌≡◌, refl}
use mathlib.Core.Bool.{Bool, true, false}
use mathlib.Core.List.{[], ◌∷◌}
use native.Mathlib.Omega.{arith}
use native.Mathlib.Nat.{mod-eq_of_lt}
use Rattle.zynq7000.specs.Bits.{flag_value}
use Rattle.zynq7000.specs.Qspi.{config_table}
use Rattle.zynq7000.proofs.ByField.{sums}
use Rattle.zynq7000_hal.specs.Presets.{mode_bits}

pub flag_le : (b : Bool) → flag_value b ≤ 1
flag_le true = omega arith
flag_le false = omega arith

-- the config word after each field as the code adds it up, with a baud code k, a phase p and a polarity q
pub config_added : (k p q a b : ℕ) → k < 8 → p ≤ 1 → q ≤ 1 → a ≡ p * 4 → b ≡ q * 2
    → 0x80000000
    ∷ 0x80000000
    ∷ 0x80080000
    ∷ 0x80080000
    ∷ 0x80080000
    ∷ 0x80080000
    ∷ 0x80080000
    ∷ 0x800800C0
    ∷ (0x800800C0 + k * 8 % 4294967296)
    ∷ ((0x800800C0 + k * 8 % 4294967296) + a)
    ∷ (((0x800800C0 + k * 8 % 4294967296) + a) + b)
    ∷ ((((0x800800C0 + k * 8 % 4294967296) + a) + b) + 1)
    ∷ []
    ≡ sums 0 config_table (1 ∷ 0 ∷ 1 ∷ 0 ∷ 0 ∷ 0 ∷ 0 ∷ 3 ∷ k ∷ p ∷ q ∷ 1 ∷ [])
config_added k p q a b hk hp hq ea eb =
    let x : k * 8 % 4294967296 ≡ k * 8 = mod-eq_of_lt (omega arith) in
    let y : k % 8 ≡ k = mod-eq_of_lt hk in
    let z : p % 2 ≡ p = mod-eq_of_lt (omega arith) in
    let w : q % 2 ≡ q = mod-eq_of_lt (omega arith) in
    rw (x, y, z, w, ea, eb) refl

mode_lt : (b : Bool) → mode_bits b < 256
mode_lt true = omega arith
mode_lt false = omega arith

-- d dummy bytes, an instruction byte i, two memories f, mode bits m that are sent where e is 1
linear_sum : (d i f e m a b g n : ℕ) → d < 8 → i < 256 → f ≤ 1 → e ≤ 1 → m < 256
    → a ≡ f * 1073741824
    → b ≡ f * 536870912
    → g ≡ e * 33554432
    → n ≡ m * 65536
    → (((((2147483648 + a) + b) + g) + n) + d * 256 % 4294967296) + i
    ≡ 2147483648 + (f % 2 * 1073741824 + (f % 2 * 536870912 + (0 + (e % 2 * 33554432 + (0 + (m % 256 * 65536 + (d % 8 * 256 + (i % 256 * 1 + 0))))))))
linear_sum d i f e m a b g n hd hi hf he hm ea eb eg en =
    let u : d * 256 % 4294967296 ≡ d * 256 = mod-eq_of_lt (omega arith) in
    let v : f % 2 ≡ f = mod-eq_of_lt (omega arith) in
    let w : e % 2 ≡ e = mod-eq_of_lt (omega arith) in
    let x : m % 256 ≡ m = mod-eq_of_lt hm in
    let y : d % 8 ≡ d = mod-eq_of_lt hd in
    let z : i % 256 ≡ i = mod-eq_of_lt hi in
    rw (u, v, w, x, y, z) (omega arith)

-- the same of the values that the code has
pub read_sum : (d i a b g n : ℕ) (two mode : Bool) → d < 8 → i < 256
    → a ≡ flag_value two * 1073741824
    → b ≡ flag_value two * 536870912
    → g ≡ flag_value mode * 33554432
    → n ≡ mode_bits mode * 65536
    → (((((2147483648 + a) + b) + g) + n) + d * 256 % 4294967296) + i
    ≡ 2147483648
    + (flag_value two % 2 * 1073741824
    + (flag_value two % 2 * 536870912
    + (0 + (flag_value mode % 2 * 33554432 + (0 + (mode_bits mode % 256 * 65536 + (d % 8 * 256 + (i % 256 * 1 + 0))))))))
read_sum d i a b g n two mode hd hi = linear_sum d i (flag_value two) (flag_value mode) (mode_bits mode) a b g n hd hi (flag_le two) (flag_le mode) (mode_lt mode)
