-- Lines as they are written. Assumes nothing.
use Rattle.std.proofs.Common.{◌≡◌, ℕ, zero, suc, ◌+◌, ◌/◌, ◌%◌, ◌≤◌, Bool, true, false, cond, ltb, List, [], ◌∷◌, ◌++◌, length, refl, ap, ◌∙◌, arith, length-append}
use Rattle.zynq7000.specs.declared.qspi.Access.{Access}
use Rattle.zynq7000.specs.declared.qspi.Access.TheVariants.{Read, Write}
use Rattle.access_log.specs.Text.{space, newline, line_of, decimal_up_to, bad_line, written}
use Rattle.access_log.proofs.Buffer.{written_on}

pub line_length : (a : Access) → length (line_of a) ≡ 14
line_length (Read o v) = refl
line_length (Write o v) = refl

abbrev bad : List ℕ
bad = 66 ∷ 65 ∷ 68 ∷ space ∷ []

fewer : (b : Bool) (l : List ℕ) → length (cond b [] l) ≤ length l
fewer true l = omega arith
fewer false l = omega arith

-- a number has as many digits as it may have at most
decimal_most : (k n : ℕ) → length (decimal_up_to k n) ≤ k
unfolding decimal_up_to
decimal_most zero n = omega arith
decimal_most (suc k) n =
    omega (arith, length-append (cond (ltb n 10) [] (decimal_up_to k (n / 10))) ((48 + n % 10) ∷ []), fewer (ltb n 10) (decimal_up_to k (n / 10)), decimal_most k (n / 10))

pub bad_most : (n : ℕ) → length (bad_line n) ≤ 25
unfolding bad_line
bad_most n = omega (arith, decimal_most 20 n, length-append (bad ++ decimal_up_to 20 n) (newline ∷ []))

-- the line of a bad record, written in three parts
module _ (out : List ℕ) (at n k : ℕ) (digits : List ℕ) (fits : at + 25 ≤ length out) (spells : digits ≡ decimal_up_to 20 n) (long : k ≡ length digits) (few : k ≤ 20) where
  abbrev text : List ℕ
  text = bad ++ digits ++ (newline ∷ [])

  whole : text ≡ bad_line n
  unfolding bad_line
  whole = rw spells

  pub bad_length : at + 5 + k ≡ at + length (bad_line n)
  bad_length = omega (arith, length-append (bad ++ digits) (newline ∷ []), ap length whole)

  pub bad_written : (first second : List ℕ) → first ≡ written out at bad → second ≡ written first (at + 4) digits
      → written second (at + 4 + k) (newline ∷ []) ≡ written out at (bad_line n)
  bad_written first second e₁ e₂ =
      let room : at + length bad + length digits ≤ length out = omega arith in
      let two : second ≡ written out at (bad ++ digits) = e₂ ∙ (ap (λ (l : List ℕ). written l (at + 4) digits) e₁ ∙ written_on out at bad digits room) in
      let place : at + 4 + k ≡ at + length (bad ++ digits) = omega arith in
      let room₂ : at + length (bad ++ digits) + length (newline ∷ []) ≤ length out = omega arith in
      ap (λ (l : List ℕ). written l (at + 4 + k) (newline ∷ [])) two
      ∙ (ap (λ (i : ℕ). written (written out at (bad ++ digits)) i (newline ∷ [])) place
      ∙ (written_on out at (bad ++ digits) (newline ∷ []) room₂
      ∙ ap (λ (l : List ℕ). written out at l) whole))
