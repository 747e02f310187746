-- What the loops over a list of sectors keep. Assumes nothing.
use mathlib.Core.Path.{◌≡◌, refl, ap, ◌∙◌, sym, subst}
use Rattle.std.proofs.Common.{min, ltb-true, ltb-false}
use Rattle.std.proofs.Math.Bool.{or-true}
use Rattle.std.proofs.Math.Nat.{min-le_left, min-le_right, min-eq_left, min-eq_right}
use Rattle.std.proofs.lemmas.List.{length-take-le, get_or-take}
use mathlib.Core.Bool.{Bool, true, false, cond, ◌||◌}
use mathlib.Core.List.{List, [], ◌∷◌, ◌++◌}
use Prim.Native.Nat.{ℕ, zero, suc, ◌+◌, ◌-◌, ◌≤◌, ◌<◌}
use native.Mathlib.Omega.{arith}
use lib.Dec.{ltb, eqb}
use lib.ListN.{length, get_or, take, drop, set, replicate, drop_of_length-le}
use lib.Seq.{take-suc, drop-cons, append_snoc, set-append_seam}
use borrow.Author.Tests.{eq-eqb}
use Rattle.zedboard_bsp.specs.Limits.{sector_number}
use Rattle.qspi_operation.specs.Step.{is_going}
use Rattle.qspi_calls.specs.Sectors.{sector_status, first_refused, among, first_repeat, numbers_in}

-- ---- the first place that meets rule 1 or 2

pub refused_here : (a : ℕ) (l : List ℕ) → is_going (sector_status a) ≡ false → first_refused (a ∷ l) ≡ 0
refused_here a l e = ap (λ (b : Bool). cond b (suc (first_refused l)) 0) e

pub refused_later : (a : ℕ) (l : List ℕ) → is_going (sector_status a) ≡ true → first_refused (a ∷ l) ≡ first_refused l + 1
refused_later a l e =
    let n : first_refused (a ∷ l) ≡ suc (first_refused l) = ap (λ (b : Bool). cond b (suc (first_refused l)) 0) e in
    omega (arith, n)

-- ---- whether a sector is among the first so many

among_last : (a : ℕ) (l : List ℕ) (b : ℕ) → among a (l ++ b ∷ []) ≡ among a l || eqb b a
among_last a [] b = go (eqb b a)
  where
    go : (x : Bool) → x || false ≡ x
    go true = refl
    go false = refl
among_last a (c ∷ l) b = go (eqb c a) (among_last a l b)
  where
    go : (x : Bool) → among a (l ++ b ∷ []) ≡ among a l || eqb b a → x || among a (l ++ b ∷ []) ≡ (x || among a l) || eqb b a
    go true e = refl
    go false e = e

module _ (l : List ℕ) (a at : ℕ) (h : at < length l) where
  among_next : among a (take (suc at) l) ≡ among a (take at l) || eqb (get_or l at 0) a
  among_next = ap (among a) (take-suc l at 0 h) ∙ among_last a (take at l) (get_or l at 0)

-- found, it stays found
pub found : (l : List ℕ) (a at k : ℕ) → at + suc k ≤ length l → get_or l at 0 ≡ a → among a (take (at + suc k) l) ≡ true
found l a at zero h e =
    let z : at + 1 ≡ suc at = omega arith in
    rw z (among_next l a at (omega arith) ∙ ap (λ (x : Bool). among a (take at l) || x) (eq-eqb (get_or l at 0) a e) ∙ or-true (among a (take at l)))
found l a at (suc k) h e =
    let z : at + suc (suc k) ≡ suc (at + suc k) = omega arith in
    rw z (among_next l a (at + suc k) (omega arith) ∙ ap (λ (x : Bool). x || eqb (get_or l (at + suc k) 0) a) (found l a at k (omega arith) e))

-- ---- the first place that repeats an earlier one

abbrev pub Distinct : List ℕ → ℕ → Type 0
Distinct l at = first_repeat [] l ≡ at + first_repeat (take at l) (drop at l)

module _ (l : List ℕ) (at : ℕ) (h : at < length l) where
  repeat_at : first_repeat (take at l) (drop at l) ≡ cond (among (get_or l at 0) (take at l)) 0 (suc (first_repeat (take (suc at) l) (drop (suc at) l)))
  repeat_at = ap (first_repeat (take at l)) (drop-cons l at 0 h) ∙ ap (λ (z : List ℕ). cond (among (get_or l at 0) (take at l)) 0 (suc (first_repeat z (drop (suc at) l)))) (sym (take-suc l at 0 h))

  pub new_one : among (get_or l at 0) (take at l) ≡ false → Distinct l at → Distinct l (at + 1)
  new_one e p =
      let n : first_repeat (take at l) (drop at l) ≡ suc (first_repeat (take (suc at) l) (drop (suc at) l)) = repeat_at ∙ ap (λ (b : Bool). cond b 0 (suc (first_repeat (take (suc at) l) (drop (suc at) l)))) e in
      let k : at + 1 ≡ suc at = omega arith in
      rw k (omega (arith, p, n))

  pub old_one : among (get_or l at 0) (take at l) ≡ true → Distinct l at → at ≡ first_repeat [] l
  old_one e p =
      let n : first_repeat (take at l) (drop at l) ≡ 0 = repeat_at ∙ ap (λ (b : Bool). cond b 0 (suc (first_repeat (take (suc at) l) (drop (suc at) l)))) e in
      omega (arith, p, n)

pub distinct_all : (l : List ℕ) (at : ℕ) → length l ≤ at → Distinct l at → at ≡ first_repeat [] l
distinct_all l at h p =
    let n : first_repeat (take at l) (drop at l) ≡ 0 = ap (first_repeat (take at l)) (drop_of_length-le l {i = at} h) in
    omega (arith, p, n)

-- ---- the numbers, one after the other

pub length_in : (n : ℕ) (l : List ℕ) → length (numbers_in n l) ≡ n
length_in zero l = refl
length_in (suc n) [] = omega (arith, length_in n [])
length_in (suc n) (a ∷ l) = omega (arith, length_in n l)

-- the number at a place, 0 past the end
abbrev number_at : List ℕ → ℕ → ℕ
number_at l at = cond (ltb at (length l)) (sector_number (get_or l at 0)) 0

last_in : (n : ℕ) (l : List ℕ) → numbers_in (suc n) l ≡ numbers_in n l ++ get_or (numbers_in (suc n) l) n 0 ∷ []
last_in zero [] = refl
last_in zero (a ∷ l) = refl
last_in (suc n) [] = ap (λ (z : List ℕ). 0 ∷ z) (last_in n [])
last_in (suc n) (a ∷ l) = ap (λ (z : List ℕ). sector_number a ∷ z) (last_in n l)

there_in : (n : ℕ) (l : List ℕ) → n < length l → get_or (numbers_in (suc n) l) n 0 ≡ sector_number (get_or l n 0)
there_in n [] h = absurd (omega arith)
there_in zero (a ∷ l) h = refl
there_in (suc n) (a ∷ l) h = there_in n l (omega arith)

past_in : (n : ℕ) (l : List ℕ) → length l ≤ n → get_or (numbers_in (suc n) l) n 0 ≡ 0
past_in zero [] h = refl
past_in zero (a ∷ l) h = absurd (omega arith)
past_in (suc n) [] h = past_in n [] (omega arith)
past_in (suc n) (a ∷ l) h = past_in n l (omega arith)

-- so many are written
abbrev pub Written : List ℕ → ℕ → List ℕ → Type 0
Written l at xs = xs ≡ numbers_in at l ++ replicate (256 - at) 0

module _ (l : List ℕ) (at : ℕ) (xs : List ℕ) (h : at < 256) where
  rest : replicate {A = ℕ} (256 - at) 0 ≡ 0 ∷ replicate (256 - (at + 1)) 0
  rest = ap (λ (k : ℕ). replicate {A = ℕ} k 0) (let z : 256 - at ≡ suc (256 - (at + 1)) = omega arith in z)

  pub writes : at < length l → Written l at xs → Written l (at + 1) (set xs at (sector_number (get_or l at 0)))
  writes g w =
      let y : set xs at (sector_number (get_or l at 0)) ≡ numbers_in at l ++ sector_number (get_or l at 0) ∷ replicate (256 - (at + 1)) 0
      = ap (λ (z : List ℕ). set z at (sector_number (get_or l at 0))) (w ∙ ap (λ (z : List ℕ). numbers_in at l ++ z) rest)
      ∙ ap (λ (k : ℕ). set (numbers_in at l ++ 0 ∷ replicate (256 - (at + 1)) 0) k (sector_number (get_or l at 0))) (sym (length_in at l))
      ∙ set-append_seam (numbers_in at l) 0 (replicate (256 - (at + 1)) 0) (sector_number (get_or l at 0)) in
      y ∙ sym (append_snoc (numbers_in at l) (sector_number (get_or l at 0)) (replicate (256 - (at + 1)) 0)) ∙ next
    where
      next : numbers_in at l ++ (sector_number (get_or l at 0) ∷ []) ++ replicate (256 - (at + 1)) 0 ≡ numbers_in (at + 1) l ++ replicate (256 - (at + 1)) 0
      next =
          let k : at + 1 ≡ suc at = omega arith in
          let e : numbers_in (suc at) l ≡ numbers_in at l ++ sector_number (get_or l at 0) ∷ [] = last_in at l ∙ ap (λ (z : ℕ). numbers_in at l ++ z ∷ []) (there_in at l g) in
          rw (k, e)

  pub skips : length l ≤ at → Written l at xs → Written l (at + 1) xs
  skips g w =
      let k : at + 1 ≡ suc at = omega arith in
      let e : numbers_in (suc at) l ≡ numbers_in at l ++ 0 ∷ [] = last_in at l ∙ ap (λ (z : ℕ). numbers_in at l ++ z ∷ []) (past_in at l g) in
      w ∙ ap (λ (z : List ℕ). numbers_in at l ++ z) rest ∙ sym (append_snoc (numbers_in at l) 0 (replicate (256 - (at + 1)) 0)) ∙ rw (k, e)

pub all_written : (l : List ℕ) (at : ℕ) (xs : List ℕ) → 256 ≤ at → at ≤ 256 → Written l at xs → xs ≡ numbers_in 256 l
all_written l at xs h g w = let e : at ≡ 256 = omega arith in go (rw e at w)
  where
    go : Written l 256 xs → xs ≡ numbers_in 256 l
    go v = v ∙ no_more (numbers_in 256 l)
      where
        no_more : (ys : List ℕ) → ys ++ [] ≡ ys
        no_more [] = refl
        no_more (y ∷ ys) = ap (λ (z : List ℕ). y ∷ z) (no_more ys)

-- past the end of the list nothing is left to write
pub none_left : (k : ℕ) (l : List ℕ) (at : ℕ) (xs : List ℕ) → at + k ≡ 256 → length l ≤ at → Written l at xs → xs ≡ numbers_in 256 l
none_left zero l at xs e h w = all_written l at xs (omega arith) (omega arith) w
none_left (suc k) l at xs e h w = none_left k l (at + 1) xs (omega arith) (omega arith) (skips l at xs (omega arith) h w)

-- the loop over the entries that are written: all, or 256
module _ (l : List ℕ) (n : ℕ) (e : n ≡ min (length l) 256) (at : ℕ) (xs : List ℕ) (w : Written l at xs) where
  n_list : n ≤ length l
  n_list = omega (arith, e, min-le_left (length l) 256)

  n_most : n ≤ 256
  n_most = omega (arith, e, min-le_right (length l) 256)

  taken : length (take n l) ≡ n
  taken = length-take-le n l n_list

  pub numbers_on : (v : ℕ) → at < length (take n l) → v ≡ sector_number (get_or (take n l) at 0) → Written l (at + 1) (set xs at v)
  numbers_on v h f =
      let k : at < n = omega (arith, h, taken) in
      subst (λ (z : ℕ). Written l (at + 1) (set xs at z)) (sym (f ∙ ap sector_number (get_or-take n l at 0 k))) (writes l at xs (omega (arith, k, n_most)) (omega (arith, k, n_list)) w)

  pub numbers_off : at ≤ length (take n l) → length (take n l) ≤ at → xs ≡ numbers_in 256 l
  numbers_off h k = go (ltb 256 (length l)) refl
    where
      go : (b : Bool) → ltb 256 (length l) ≡ b → xs ≡ numbers_in 256 l
      go true f =
          let m : n ≡ 256 = e ∙ min-eq_right (let z : 256 < length l = ltb-true 256 (length l) f in omega (arith, z)) in
          all_written l at xs (omega (arith, m, k, taken)) (omega (arith, m, h, taken)) w
      go false f = let m : length l ≤ 256 = ltb-false 256 (length l) f in none_left (256 - at) l at xs (omega (arith, h, taken, n_most)) (let z : n ≡ length l = e ∙ min-eq_left m in omega (arith, z, k, taken)) w
