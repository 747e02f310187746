-- Words put together field by field, from bit 31 down (document 02, U4): where the rows of a table lie one below the other, the sum of its
-- fields so far is the final word with all bits below the last of them zero, since what is still to come is below that bit. Assumes nothing.
use Prim.Native.Nat.{ℕ, suc, zero, ◌+◌, ◌-◌, ◌*◌, ◌%◌, ◌^◌, ◌<◌}
use mathlib.Core.Path.{◌≡◌, refl, sym, ap, ap₂, ◌∙◌}
use mathlib.Core.Bool.{Bool, ◌&&◌}
use mathlib.Core.List.{List, [], ◌∷◌}
use native.Mathlib.Omega.{arith}
use lib.Dec.{T, eqb}
use lib.ListN.{length, get_or}
use lib.Pow.{high}
use Rattle.zynq7000.specs.Bits.{zero_below}
use Rattle.zynq7000.specs.Qspi.{Field, field, lows, assemble, after_each, Config, config_table, config_values, config_word}
use Rattle.zynq7000.proofs.Words.{descends, first_fits, rest_descends, assemble_lt, ends_lower, field_behind}

-- ---- the sums

-- the sum so far, after each field of a table: `above` stands already, and a field without a value is 0
abbrev pub sums : ℕ → List Field → List ℕ → List ℕ
sums above [] vs = []
sums above (f ∷ fs) [] = above ∷ sums above fs []
sums above (field low width ∷ fs) (v ∷ vs) = (above + v % 2 ^ width * 2 ^ low) ∷ sums (above + v % 2 ^ width * 2 ^ low) fs vs

assemble_none : (fs : List Field) → assemble fs [] ≡ 0
assemble_none [] = refl
assemble_none (f ∷ fs) = refl

-- a field more, the word after it ending at its lowest bit
one_more : (low width : ℕ) (fs : List Field) (vs : List ℕ) (up : ℕ) → T (descends low fs)
    → sums (up * 2 ^ low) fs vs ≡ after_each fs (up * 2 ^ low + assemble fs vs)
    → up * 2 ^ low ∷ sums (up * 2 ^ low) fs vs ≡ after_each (field low width ∷ fs) (up * 2 ^ low + assemble fs vs)
one_more low width fs vs up t e = ap₂ ◌∷◌ (ap (λ (n : ℕ). n * 2 ^ low) (sym (high up low (assemble_lt fs vs low t)))) e

-- also where more stands from bit `top` up
sums_below : (fs : List Field) (vs : List ℕ) (top q : ℕ) → T (descends top fs)
    → sums (q * 2 ^ top) fs vs ≡ after_each fs (q * 2 ^ top + assemble fs vs)
sums_below [] vs top q t = refl
sums_below (field low width ∷ fs) [] top q t =
    let ok = rest_descends low width fs top t in
    let fits = first_fits low width fs top t in
    let up = q * 2 ^ (top - low) in
    rw (ends_lower q low top (omega arith), sym (assemble_none fs)) (one_more low width fs [] up ok (sums_below fs [] low up ok))
sums_below (field low width ∷ fs) (v ∷ vs) top q t =
    let x = v % 2 ^ width in
    let ok = rest_descends low width fs top t in
    let fits = first_fits low width fs top t in
    let up = q * 2 ^ (top - low) + x in
    let s : q * 2 ^ top + x * 2 ^ low ≡ up * 2 ^ low = field_behind q x low top (omega arith) in
    let same : q * 2 ^ top + (x * 2 ^ low + assemble fs vs) ≡ up * 2 ^ low + assemble fs vs = omega (arith, s) in
    rw (same, s) (one_more low width fs vs up ok (sums_below fs vs low up ok))

-- after each field of a descending table the sum so far is the final word with all bits below that field zero
pub sums_after_each : (fs : List Field) (vs : List ℕ) → T (descends 32 fs) → sums 0 fs vs ≡ after_each fs (assemble fs vs)
sums_after_each fs vs t =
    let none : 0 * 2 ^ 32 ≡ 0 = refl in
    let same : 0 * 2 ^ 32 + assemble fs vs ≡ assemble fs vs = omega arith in
    rw (same, none) at (sums_below fs vs 32 0 t)

pub config_sums : (c : Config) → sums 0 config_table (config_values c) ≡ after_each config_table (config_word c)
config_sums c = sums_after_each config_table (config_values c) tt

-- ---- what `after_each` says

-- of the field at place i of any table: the word w with all bits below that field's lowest bit zero
pub after_at : (fs : List Field) (w i : ℕ) → i < length fs → get_or (after_each fs w) i 0 ≡ zero_below (get_or (lows fs) i 0) w
after_at [] w i h = absurd (omega (arith, h))
after_at (f ∷ fs) w zero h = refl
after_at (f ∷ fs) w (suc i) h = after_at fs w i (omega arith)

-- ---- with the reserved bits

-- a row of the manual's table: a field that has a value, or bits that are 0
pub data TableRow : Type 0 where
  named : Field → TableRow
  reserved : Field → TableRow

abbrev pub rows_of : List TableRow → List Field
rows_of [] = []
rows_of (named f ∷ rs) = f ∷ rows_of rs
rows_of (reserved f ∷ rs) = f ∷ rows_of rs

abbrev pub fields_of : List TableRow → List Field
fields_of [] = []
fields_of (named f ∷ rs) = f ∷ fields_of rs
fields_of (reserved f ∷ rs) = fields_of rs

-- the fields' values, with 0 for each reserved row
abbrev pub with_zeros : List TableRow → List ℕ → List ℕ
with_zeros [] vs = []
with_zeros (reserved f ∷ rs) vs = 0 ∷ with_zeros rs vs
with_zeros (named f ∷ rs) [] = 0 ∷ with_zeros rs []
with_zeros (named f ∷ rs) (v ∷ vs) = v ∷ with_zeros rs vs

-- whether each bit from `top` - 1 down stands in one row
abbrev pub tiles : ℕ → List Field → Bool
tiles top [] = eqb top 0
tiles top (field low width ∷ fs) = eqb (low + width) top && tiles low fs

-- Config_reg whole, as recalled: reserved 30:27, 25:20, 18:17, 13:11 and 9, and bit 8, REF_CLK, which must be 0
abbrev pub config_rows : List TableRow
config_rows =
    named (field 31 1)
    ∷ reserved (field 27 4)
    ∷ named (field 26 1)
    ∷ reserved (field 20 6)
    ∷ named (field 19 1)
    ∷ reserved (field 17 2)
    ∷ named (field 16 1)
    ∷ named (field 15 1)
    ∷ named (field 14 1)
    ∷ reserved (field 11 3)
    ∷ named (field 10 1)
    ∷ reserved (field 9 1)
    ∷ reserved (field 8 1)
    ∷ named (field 6 2)
    ∷ named (field 3 3)
    ∷ named (field 2 1)
    ∷ named (field 1 1)
    ∷ named (field 0 1)
    ∷ []

-- its fields are those of the table, and it leaves no bit out
pub rows_of_table : fields_of config_rows ≡ config_table
rows_of_table = refl

pub rows_tile : T (tiles 32 (rows_of config_rows))
rows_tile = tt

-- reserved bits bring nothing to the sum, so that also after each reserved row it is the final word with all bits below that row zero
pub config_rows_lem : (c : Config) → sums 0 (rows_of config_rows) (with_zeros config_rows (config_values c)) ≡ after_each (rows_of config_rows) (config_word c)
config_rows_lem c = sums_after_each (rows_of config_rows) (with_zeros config_rows (config_values c)) tt ∙ ap (after_each (rows_of config_rows)) (omega arith)
