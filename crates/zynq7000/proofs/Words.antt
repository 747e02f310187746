-- Words put together from fields: each field of a table can be read back from its word, since the rows of a table lie one below the other.
-- Assumes nothing.
use Prim.Native.Nat.{ℕ, ◌+◌, ◌-◌, ◌*◌, ◌/◌, ◌%◌, ◌^◌, ◌<◌, ◌≤◌}
use mathlib.Core.Path.{◌≡◌, refl, sym, ap, ◌∙◌}
use mathlib.Core.Bool.{Bool, true, false, ◌&&◌}
use mathlib.Core.List.{List, [], ◌∷◌}
use native.Mathlib.Omega.{arith}
use native.Mathlib.Nat.{add-mul, mul_assoc, mod-lt, le_trans, le_of_eq, lt_of_lt_of_le}
use lib.Arith.{digits_lt}
use lib.Dec.{T, leb, leb→le}
use lib.Pow.{pow_pos, pow-add, pow_mono}
use lib.Pow.{high as high_part, low as low_part}
use Rattle.zynq7000.specs.Bits.{bit}
use Rattle.zynq7000.specs.Qspi.{baud_code, divisor_of, Field, field, assemble}
use Rattle.zynq7000.specs.Qspi.{Config, config_table, config_values, config_word, Linear, linear_table, linear_values, linear_word, loopback_table, loopback_word}
use Rattle.zynq7000.specs.Slcr.{clock_control_table, clock_control_word}
use Rattle.zynq7000.specs.declared.qspi.BaudRateDivisor.{BaudRateDivisor}
use Rattle.zynq7000.specs.declared.qspi.BaudRateDivisor.TheVariants as baud

-- a code divides by two, and by twice as much for each code below it
pub divisor_power : (d : BaudRateDivisor) → divisor_of d ≡ 2 * 2 ^ baud_code d
divisor_power baud._2 = refl
divisor_power baud._4 = refl
divisor_power baud._8 = refl
divisor_power baud._16 = refl
divisor_power baud._32 = refl
divisor_power baud._64 = refl
divisor_power baud._128 = refl
divisor_power baud._256 = refl

-- whether the fields lie one below the other, all of them below bit `top`
abbrev pub descends : ℕ → List Field → Bool
descends top [] = true
descends top (field low width ∷ fs) = leb (low + width) top && descends low fs

-- what each field of w holds: the low bits of its value
abbrev pub Holds : List Field → List ℕ → ℕ → Type 0
Holds [] vs w = Unit {0}
Holds (f ∷ fs) [] w = Unit {0}
Holds (field low width ∷ fs) (v ∷ vs) w = (w / 2 ^ low % 2 ^ width ≡ v % 2 ^ width) × Holds fs vs w

and_left : (a b : Bool) → T (a && b) → T a
and_left true b t = tt
and_left false b t = t

and_right : (a b : Bool) → T (a && b) → T b
and_right true b t = t
and_right false b t = absurd t

-- the first field lies below bit `top`, and the others below the first
pub first_fits : (low width : ℕ) (fs : List Field) (top : ℕ) → T (descends top (field low width ∷ fs)) → low + width ≤ top
first_fits low width fs top t = leb→le (low + width) top (and_left (leb (low + width) top) (descends low fs) t)

pub rest_descends : (low width : ℕ) (fs : List Field) (top : ℕ) → T (descends top (field low width ∷ fs)) → T (descends low fs)
rest_descends low width fs top t = and_right (leb (low + width) top) (descends low fs) t

pub assemble_lt : (fs : List Field) (vs : List ℕ) (top : ℕ) → T (descends top fs) → assemble fs vs < 2 ^ top
assemble_lt [] vs top t = pow_pos top
assemble_lt (f ∷ fs) [] top t = pow_pos top
assemble_lt (field low width ∷ fs) (v ∷ vs) top t =
    let fits = first_fits low width fs top t in
    let rest : assemble fs vs < 2 ^ low = assemble_lt fs vs low (rest_descends low width fs top t) in
    lt_of_lt_of_le (digits_lt (mod-lt v (pow_pos width)) rest)
    (le_trans (le_of_eq (sym (pow-add 2 width low))) (pow_mono (omega arith)))

-- what ends at bit `top` ends at each bit below it
pub ends_lower : (q low top : ℕ) → low ≤ top → q * 2 ^ top ≡ q * 2 ^ (top - low) * 2 ^ low
ends_lower q low top h =
    let s : (top - low) + low ≡ top = omega arith in
    ap (λ (n : ℕ). q * 2 ^ n) (sym s) ∙ (ap (λ (n : ℕ). q * n) (pow-add 2 (top - low) low) ∙ sym (mul_assoc q (2 ^ (top - low)) (2 ^ low)))

-- and with a field's value x behind it, at the field's lowest bit
pub field_behind : (q x low top : ℕ) → low ≤ top → q * 2 ^ top + x * 2 ^ low ≡ (q * 2 ^ (top - low) + x) * 2 ^ low
field_behind q x low top h = omega (arith, ends_lower q low top h, add-mul (q * 2 ^ (top - low)) x (2 ^ low))

-- also where more stands from bit `top` up
holds_below : (fs : List Field) (vs : List ℕ) (top high : ℕ) → T (descends top fs) → Holds fs vs (high * 2 ^ top + assemble fs vs)
holds_below [] vs top high t = tt
holds_below (f ∷ fs) [] top high t = tt
holds_below (field low width ∷ fs) (v ∷ vs) top high t =
    let x = v % 2 ^ width in
    let ok = rest_descends low width fs top t in
    let fits = first_fits low width fs top t in
    let up = high * 2 ^ (top - low) + x in
    let same : high * 2 ^ top + (x * 2 ^ low + assemble fs vs) ≡ up * 2 ^ low + assemble fs vs =
    omega (arith, field_behind high x low top (omega arith)) in
    let own : up % 2 ^ width ≡ x =
    ap (λ (n : ℕ). (high * 2 ^ n + x) % 2 ^ width) (omega arith) ∙ top_field high x (top - low - width) width (mod-lt v (pow_pos width)) in
    rw same (
      (ap (λ (n : ℕ). n % 2 ^ width) (high_part up low (assemble_lt fs vs low ok)) ∙ own),
      holds_below fs vs low up ok,
    )
  where
    top_field : (h x d width : ℕ) → x < 2 ^ width → (h * 2 ^ (d + width) + x) % 2 ^ width ≡ x
    top_field h x d width lt =
        ap (λ (n : ℕ). (n + x) % 2 ^ width) (ap (λ (n : ℕ). h * n) (pow-add 2 d width) ∙ sym (mul_assoc h (2 ^ d) (2 ^ width)))
        ∙ low_part (h * 2 ^ d) width lt

-- each field of a descending table can be read back from the word
pub read_back : (fs : List Field) (vs : List ℕ) → T (descends 32 fs) → Holds fs vs (assemble fs vs)
read_back fs vs t =
    let same : 0 * 2 ^ 32 + assemble fs vs ≡ assemble fs vs = omega arith in
    rw same at (holds_below fs vs 32 0 t)

pub config_read_back : (c : Config) → Holds config_table (config_values c) (config_word c)
config_read_back c = read_back config_table (config_values c) tt

-- by name: each value stands in its own field, so that no two of them are exchanged where both are 0
pub config_by_name : (c : Config)
    → (bit 31 (config_word c) ≡ c.interface_mode % 2)
    × ((bit 26 (config_word c) ≡ c.edianness % 2)
    × ((bit 19 (config_word c) ≡ c.holdb_dr % 2)
    × ((bit 16 (config_word c) ≡ c.manual_start_command % 2)
    × ((bit 15 (config_word c) ≡ c.manual_start_enable % 2)
    × ((bit 14 (config_word c) ≡ c.manual_cs % 2)
    × ((bit 10 (config_word c) ≡ c.peripheral_chip_select % 2)
    × ((config_word c / 2 ^ 6 % 4 ≡ c.fifo_width % 4)
    × ((config_word c / 2 ^ 3 % 8 ≡ c.baud_rate_div % 8)
    × ((bit 2 (config_word c) ≡ c.clock_phase % 2)
    × ((bit 1 (config_word c) ≡ c.clock_polarity % 2)
    × ((bit 0 (config_word c) ≡ c.mode_select % 2)
    × Unit {0})))))))))))
config_by_name c = config_read_back c

pub loopback_read_back : (on delay1 delay0 : ℕ) → Holds loopback_table (on ∷ delay1 ∷ delay0 ∷ []) (loopback_word on delay1 delay0)
loopback_read_back on delay1 delay0 = read_back loopback_table (on ∷ delay1 ∷ delay0 ∷ []) tt

pub linear_read_back : (l : Linear) → Holds linear_table (linear_values l) (linear_word l)
linear_read_back l = read_back linear_table (linear_values l) tt

pub clock_control_read_back : (divisor source active : ℕ) → Holds clock_control_table (divisor ∷ source ∷ active ∷ []) (clock_control_word divisor source active)
clock_control_read_back divisor source active = read_back clock_control_table (divisor ∷ source ∷ active ∷ []) tt
