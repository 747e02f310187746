-- The data words of `program`, all of them written before start: word j of a chunk is read from its bytes 4 j to 4 j + 3 among those lent. Assumes nothing.
use mathlib.Core.Path.{◌≡◌, refl, sym}
use mathlib.Core.Bool.{true}
use mathlib.Core.List.{List, [], ◌∷◌}
use Prim.Native.Nat.{ℕ, zero, suc, ◌+◌, ◌*◌, ◌/◌, ◌%◌, ◌^◌, ◌≤◌, ◌<◌}
use native.Mathlib.Omega.{arith}
use lib.Dec.{leb}
use lib.ListN.{length, get_or}
use borrow.Author.Tests.{le-leb}
use Rattle.zynq7000_hal.specs.Fifo.{prefilled}
use Rattle.zedboard_bsp.specs.Limits.{max_data_bytes_per_write}
use Rattle.zedboard_bsp.specs.Words.{word_of}
use Rattle.qspi_script.specs.Stages.{data_word}
use Rattle.qspi_calls.specs.Calls.{words_of}

abbrev four_at : List ℕ → ℕ → ℕ
four_at l i = word_of (get_or l i 0 ∷ get_or l (i + 1) 0 ∷ get_or l (i + 2) 0 ∷ get_or l (i + 3) 0 ∷ [])

word_at_lem : (l : List ℕ) (i : ℕ) → 4 * i + 3 < length l → get_or (words_of l) i 0 ≡ four_at l (i * 4)
word_at_lem [] i h = absurd (omega arith)
word_at_lem (a ∷ []) i h = absurd (omega arith)
word_at_lem (a ∷ b ∷ []) i h = absurd (omega arith)
word_at_lem (a ∷ b ∷ c ∷ []) i h = absurd (omega arith)
word_at_lem (a ∷ b ∷ c ∷ d ∷ l) zero h = refl
word_at_lem (a ∷ b ∷ c ∷ d ∷ l) (suc i) h =
    let e₀ : suc i * 4 ≡ suc (suc (suc (suc (i * 4)))) = omega arith in
    let e₁ : suc i * 4 + 1 ≡ suc (suc (suc (suc (i * 4 + 1)))) = omega arith in
    let e₂ : suc i * 4 + 2 ≡ suc (suc (suc (suc (i * 4 + 2)))) = omega arith in
    let e₃ : suc i * 4 + 3 ≡ suc (suc (suc (suc (i * 4 + 3)))) = omega arith in
    rw (e₁, e₂, e₃, e₀) (word_at_lem l i (omega arith))

pub length_words : (l : List ℕ) → length l % 4 ≡ 0 → length (words_of l) * 4 ≡ length l
length_words [] h = refl
length_words (a ∷ []) h = absurd (omega arith)
length_words (a ∷ b ∷ []) h = absurd (omega arith)
length_words (a ∷ b ∷ c ∷ []) h = absurd (omega arith)
length_words (a ∷ b ∷ c ∷ d ∷ l) h = omega (arith, length_words l (omega arith))

-- the bytes c stand in l from byte d on
pub data_word_lem : (l c : List ℕ) (d j : ℕ) → d + length c ≤ length l → d + length c < 2 ^ 64 → ((i : ℕ) → i < length c → get_or c i 0 ≡ get_or l (d + i) 0) → length c % 4 ≡ 0 → j < length (words_of c)
    → data_word l ((d + j * 4) % 2 ^ 64) ≡ get_or (words_of c) j 0
data_word_lem l c d j there fits same fours h =
    let n = length_words c fours in
    let e : (d + j * 4) % 2 ^ 64 ≡ d + j * 4 = omega arith in
    let f : leb (d + j * 4 + 4) (length l) ≡ true = le-leb (d + j * 4 + 4) (length l) (omega arith) in
    let p₁ : d + j * 4 + 1 ≡ d + (j * 4 + 1) = omega arith in
    let p₂ : d + j * 4 + 2 ≡ d + (j * 4 + 2) = omega arith in
    let p₃ : d + j * 4 + 3 ≡ d + (j * 4 + 3) = omega arith in
    let g₀ = same (j * 4) (omega arith) in
    let g₁ = same (j * 4 + 1) (omega arith) in
    let g₂ = same (j * 4 + 2) (omega arith) in
    let g₃ = same (j * 4 + 3) (omega arith) in
    rw (e, f, p₁, p₂, p₃, ← g₀, ← g₁, ← g₂, ← g₃) (sym (word_at_lem c j (omega arith)))

-- what `program` accepts fits the FIFO: all its words are written before start, and none is left out
pub all_prefilled : (n : ℕ) → n ≤ max_data_bytes_per_write → prefilled (n / 4) ≡ n / 4
all_prefilled n h = omega arith
