-- The work on the lent part of the array is the work on the array: byte by byte, in the target and outside of it. Assumes nothing.
use Prim.Native.Nat.{ℕ, zero, suc, ◌+◌, ◌-◌, ◌*◌, ◌/◌, ◌%◌, ◌≤◌, ◌<◌}
use mathlib.Core.Path.{◌≡◌, refl, sym, ap, ◌∙◌}
use mathlib.Core.Bool.{Bool, true, false, cond, true≢false}
use mathlib.Core.Logic.{◌⊎◌, inl, inr}
use mathlib.Core.Option.{none, some}
use mathlib.Core.List.{List, [], ◌∷◌}
use native.Mathlib.Omega.{arith}
use lib.Bits.{bit_and}
use lib.Dec.{eqb, ltb, leb}
use lib.ListN.{length, get_or, set, length-set}
use lib.Seq.{get_or-set_same, get_or-set_other}
use borrow.Author.Tests.{lt-ltb, le-ltb, ltb-true, ltb-false, leb-true, le-leb, lt-leb, eqb-true, eqb-false, eq-eqb, ne_eqb}
use Rattle.qspi_calls.specs.Chunks.{Chunk}
use Rattle.power_cut.specs.Flash.{Array, byte_address, lands_from, lands, anded, erased}
use Rattle.power_cut.specs.Flash as flash
use Rattle.simulated_device.specs.Replies.{byte_at}
use Rattle.simulated_device.specs.Simulated.{done_byte, done_from, within, programming, erasing}
use Rattle.simulated_device.specs.declared.work.Effect.{Effect}
use Rattle.simulated_device.specs.declared.work.Work.{Work}
use Rattle.std.proofs.lemmas.List.{get_or_default}

-- ---- the lent part

abbrev pub Apart : ℕ → ℕ → ℕ → Type 0
Apart y from n = (y < from) ⊎ (from + n ≤ y)

module _ (does : Effect) (at bytes : ℕ) (sent : List ℕ) where
  abbrev new : ℕ → List ℕ → ℕ
  new i l = done_byte does (get_or l (at + i) 0) i bytes sent

  done_kept : (n i : ℕ) (l : List ℕ) → length (done_from n i does at bytes sent l) ≡ length l
  unfolding done_from
  done_kept zero i l = refl
  done_kept (suc n) i l = done_kept n (suc i) (set l (at + i) (new i l)) ∙ length-set l (at + i) (new i l)

  done_apart : (n i : ℕ) (l : List ℕ) (y : ℕ) → Apart y (at + i) n → get_or (done_from n i does at bytes sent l) y 0xFF ≡ get_or l y 0xFF
  unfolding done_from
  done_apart zero i l y p = refl
  done_apart (suc n) i l y (inl p) =
      done_apart n (suc i) (set l (at + i) (new i l)) y (inl (omega arith)) ∙ get_or-set_other l (at + i) y (new i l) 0xFF (λ e. omega arith)
  done_apart (suc n) i l y (inr p) =
      done_apart n (suc i) (set l (at + i) (new i l)) y (inr (omega arith)) ∙ get_or-set_other l (at + i) y (new i l) 0xFF (λ e. omega arith)

  -- byte j of the target
  done_there : (n i : ℕ) (l : List ℕ) (j : ℕ) → i ≤ j → j < i + n → at + i + n ≤ length l
      → get_or (done_from n i does at bytes sent l) (at + j) 0xFF ≡ done_byte does (get_or l (at + j) 0xFF) j bytes sent
  unfolding done_from
  done_there zero i l j p q r = absurd (omega arith)
  done_there (suc n) i l j p q r =
      go (eqb i j) refl (λ h. done_there n (suc i) (set l (at + i) (new i l)) j h (omega arith) (rw (length-set l (at + i) (new i l)) (omega arith)))
    where
      go : (b : Bool) → eqb i j ≡ b
          → (suc i ≤ j → get_or (done_from n (suc i) does at bytes sent (set l (at + i) (new i l))) (at + j) 0xFF ≡ done_byte does (get_or (set l (at + i) (new i l)) (at + j) 0xFF) j bytes sent)
          → get_or (done_from n (suc i) does at bytes sent (set l (at + i) (new i l))) (at + j) 0xFF ≡ done_byte does (get_or l (at + j) 0xFF) j bytes sent
      go true e more =
          let h : i ≡ j = eqb-true i j e in
          rw (sym h)
          (done_apart n (suc i) (set l (at + i) (new i l)) (at + i) (inl (omega arith))
          ∙ (get_or-set_same l (at + i) (new i l) 0xFF (omega arith) ∙ ap (λ (z : ℕ). done_byte does z i bytes sent) (get_or_default l (at + i) 0 0xFF (omega arith))))
      go false e more =
          let h = eqb-false i j e in
          more (omega (arith, h))
          ∙ ap (λ (z : ℕ). done_byte does z j bytes sent) (get_or-set_other l (at + i) (at + j) (new i l) 0xFF (λ f. h (omega arith)))

-- ---- where a program's bytes land in its page

-- in a page only one byte lands on a place
lands_once : (r s i : ℕ) → r < 256 → s < 256 → i < 256 → (s + i) % 256 ≡ r → i ≡ (r + 256 - s) % 256
lands_once r s i p q k e = omega arith

low_sum : (a i : ℕ) → (a + i) % 256 ≡ (a % 256 + i) % 256
low_sum a i = omega arith

low_part : (a x i : ℕ) → x ≡ a / 256 * 256 + (a + i) % 256 → (a + i) % 256 ≡ x % 256
low_part a x i e = omega arith

module _ (a x : ℕ) (same : x / 256 ≡ a / 256) where
  abbrev place : ℕ
  place = (x % 256 + 256 - a % 256) % 256

  lands_from_lem : (bs : List ℕ) (i : ℕ) → i ≤ place → lands_from a x bs i ≡ cond (ltb (place - i) (length bs)) (some (get_or bs (place - i) 0)) none
  unfolding lands_from byte_address
  lands_from_lem [] i p = rw (le-ltb (place - i) 0 (omega arith))
  lands_from_lem (b ∷ bs) i p = go (eqb i place) refl (lands_from_lem bs (suc i))
    where
      go : (t : Bool) → eqb i place ≡ t → (suc i ≤ place → lands_from a x bs (suc i) ≡ cond (ltb (place - suc i) (length bs)) (some (get_or bs (place - suc i) 0)) none)
          → cond (eqb x (byte_address a i)) (some b) (lands_from a x bs (suc i)) ≡ cond (ltb (place - i) (suc (length bs))) (some (get_or (b ∷ bs) (place - i) 0)) none
      go true e more =
          let h : i ≡ place = eqb-true i place e in
          let z : place - i ≡ 0 = omega arith in
          rw (eq-eqb x (byte_address a i) (omega (arith, h, same)), z, lt-ltb 0 (suc (length bs)) (omega arith))
      go false e more =
          let h = eqb-false i place e in
          let l : suc i ≤ place = omega (arith, h) in
          let z : place - i ≡ suc (place - suc i) = omega arith in
          let i-small : i < 256 = omega (arith, l) in
          let apart : x ≡ byte_address a i → ⊥ =
          (λ f. h (lands_once (x % 256) (a % 256) i (omega arith) (omega arith) i-small (sym (low_sum a i) ∙ low_part a x i f))) in
          rw (ne_eqb x (byte_address a i) apart, z)
          (more l ∙ ap (λ (t : Bool). cond t (some (get_or bs (place - suc i) 0)) none) (shift (place - suc i) (length bs)))
        where
          shift : (m n : ℕ) → ltb m n ≡ ltb (suc m) (suc n)
          shift m n = yes (ltb m n) refl
            where
              yes : (t : Bool) → ltb m n ≡ t → ltb m n ≡ ltb (suc m) (suc n)
              yes true e = rw (e, lt-ltb (suc m) (suc n) (let p = ltb-true m n e in omega arith))
              yes false e = rw (e, le-ltb (suc m) (suc n) (let p = ltb-false m n e in omega arith))

lands_elsewhere : (a x : ℕ) → (x / 256 ≡ a / 256 → ⊥) → (bs : List ℕ) (i : ℕ) → lands_from a x bs i ≡ none
unfolding lands_from byte_address
lands_elsewhere a x n [] i = refl
lands_elsewhere a x n (b ∷ bs) i = rw (ne_eqb x (byte_address a i) (λ e. n (omega arith))) (lands_elsewhere a x n bs (suc i))

-- ---- the array

pub record Inside (w : Work) (base room : ℕ) : Type 0 where
  pub above : base ≤ w.target
  pub below : w.target - base + w.size ≤ room

pub inside : (w : Work) (base room : ℕ) → within w base room ≡ true → Inside w base room
inside w base room h = low (ltb w.target base) refl h
  where
    fit : (b : Bool) → ltb room w.size ≡ b → base ≤ w.target → cond b false (leb (w.target - base) (room - w.size)) ≡ true → Inside w base room
    fit true e p h = let z : true ≡ false = sym h in absurd (true≢false z)
    fit false e p h =
        let q = ltb-false room w.size e in
        let r = leb-true (w.target - base) (room - w.size) h in
        record { above = p; below = omega arith }

    low : (b : Bool) → ltb w.target base ≡ b → cond b false (cond (ltb room w.size) false (leb (w.target - base) (room - w.size))) ≡ true → Inside w base room
    low true e h = let z : true ≡ false = sym h in absurd (true≢false z)
    low false e h = fit (ltb room w.size) refl (ltb-false w.target base e) h

-- an array that is the old one outside of the target, and in it what the work makes of the old one, is the one after the work
worked : (w : Work) (base bytes : ℕ) (sent array : List ℕ) (m new : Array) → Inside w base (length array) → ((x : ℕ) → m x ≡ byte_at array base x)
    → ((x : ℕ) → Apart x w.target w.size → new x ≡ m x) → ((j : ℕ) → j < w.size → new (w.target + j) ≡ done_byte w.effect (m (w.target + j)) j bytes sent)
    → (x : ℕ) → new x ≡ byte_at (done_from w.size 0 w.effect (w.target - base) bytes sent array) base x
worked w base bytes sent array m new i old out there x = below (ltb x base) refl
  where
    at : ℕ
    at = w.target - base

    array₁ : List ℕ
    array₁ = done_from w.size 0 w.effect (w.target - base) bytes sent array

    -- past the base
    apart : base ≤ x → Apart x w.target w.size → Apart (x - base) (w.target - base + 0) w.size
    apart p (inl q) = inl (omega (arith, i.above))
    apart p (inr q) = inr (omega (arith, i.above))

    beside : base ≤ x → Apart x w.target w.size → new x ≡ get_or array₁ (x - base) 0xFF
    beside p a =
        out x a ∙ (old x ∙ (rw (le-ltb x base p) (sym (done_apart w.effect (w.target - base) bytes sent w.size 0 array (x - base) (apart p a)))))

    within₁ : w.target ≤ x → x < w.target + w.size → new x ≡ get_or array₁ (x - base) 0xFF
    within₁ p q =
        let j = x - w.target in
        let e : x ≡ w.target + (x - w.target) = omega arith in
        let y : x - base ≡ w.target - base + (x - w.target) = omega (arith, i.above) in
        let b : m (w.target + (x - w.target)) ≡ get_or array (w.target - base + (x - w.target)) 0xFF =
        ap m (sym e) ∙ (old x ∙ rw (le-ltb x base (omega (arith, i.above)), y)) in
        ap new e
        ∙ (there (x - w.target) (omega arith)
        ∙ (ap (λ (z : ℕ). done_byte w.effect z (x - w.target) bytes sent) b
        ∙ (sym (done_there w.effect (w.target - base) bytes sent w.size 0 array (x - w.target) (omega arith) (omega arith) (omega (arith, i.below)))
        ∙ ap (λ (z : ℕ). get_or array₁ z 0xFF) (sym y))))

    inside₁ : (b c : Bool) → ltb x w.target ≡ b → ltb x (w.target + w.size) ≡ c → base ≤ x → new x ≡ get_or array₁ (x - base) 0xFF
    inside₁ true c e f p = beside p (inl (ltb-true x w.target e))
    inside₁ false true e f p = within₁ (ltb-false x w.target e) (ltb-true x (w.target + w.size) f)
    inside₁ false false e f p = beside p (inr (ltb-false x (w.target + w.size) f))

    below : (b : Bool) → ltb x base ≡ b → new x ≡ byte_at array₁ base x
    below true e =
        let p = ltb-true x base e in
        out x (inl (omega (arith, i.above))) ∙ (old x ∙ rw e)
    below false e = rw e (inside₁ (ltb x w.target) (ltb x (w.target + w.size)) refl refl (ltb-false x base e))

-- ---- a sector erase

pub erase_worked : (a base bytes : ℕ) (sent array : List ℕ) (m : Array) → Inside (erasing a) base (length array) → ((x : ℕ) → m x ≡ byte_at array base x)
    → (x : ℕ) → erased (a / 65536 * 65536) 65536 m x ≡ byte_at (done_from 65536 0 (erasing a).effect (a / 65536 * 65536 - base) bytes sent array) base x
unfolding erased
erase_worked a base bytes sent array m i old = worked (erasing a) base bytes sent array m (erased (a / 65536 * 65536) 65536 m) i old out there
  where
    out : (x : ℕ) → Apart x (a / 65536 * 65536) 65536 → erased (a / 65536 * 65536) 65536 m x ≡ m x
    out x (inl p) = rw (lt-leb (a / 65536 * 65536) x p)
    out x (inr p) = rw (le-leb (a / 65536 * 65536) x (omega arith), le-ltb x (a / 65536 * 65536 + 65536) p)

    there : (j : ℕ) → j < 65536 → erased (a / 65536 * 65536) 65536 m (a / 65536 * 65536 + j) ≡ 0xFF
    there j p = rw (le-leb (a / 65536 * 65536) (a / 65536 * 65536 + j) (omega arith), lt-ltb (a / 65536 * 65536 + j) (a / 65536 * 65536 + 65536) (omega arith))

-- ---- a page program

program_place : (a j : ℕ) → j < 256 → (j % 256 + 256 - a % 256 % 256) % 256 ≡ ((a / 256 * 256 + j) % 256 + 256 - a % 256) % 256
program_place a j p =
    let e : j % 256 ≡ (a / 256 * 256 + j) % 256 = omega arith in
    let f : a % 256 % 256 ≡ a % 256 = omega arith in
    rw (e, f)

-- a byte of the page, told by the place of its data behind command and address
and_landed : (old k bytes : ℕ) (bs sent : List ℕ) → length bs ≡ bytes - 4 → ((k : ℕ) → k < length bs → get_or bs k 0 ≡ get_or sent (k + 4) 0) → (b : Bool) → ltb k (length bs) ≡ b
    → anded old (cond b (some (get_or bs k 0)) none) ≡ cond (ltb (k + 4) bytes) (bit_and old (get_or sent (k + 4) 0)) old
and_landed old k bytes bs sent n same true e =
    let p = ltb-true k (length bs) e in
    rw (lt-ltb (k + 4) bytes (omega arith)) (ap (bit_and old) (same k p))
and_landed old k bytes bs sent n same false e =
    let p = ltb-false k (length bs) e in
    rw (le-ltb (k + 4) bytes (omega arith))

pub program_worked : (a base bytes : ℕ) (sent array bs : List ℕ) (m : Array) → Inside (programming a) base (length array) → ((x : ℕ) → m x ≡ byte_at array base x)
    → length bs ≡ bytes - 4 → ((k : ℕ) → k < length bs → get_or bs k 0 ≡ get_or sent (k + 4) 0)
    → (x : ℕ) → flash.programmed (record { address = a; bytes = bs }) m x ≡ byte_at (done_from 256 0 (programming a).effect (a / 256 * 256 - base) bytes sent array) base x
unfolding flash.programmed lands
program_worked a base bytes sent array bs m i old n same = worked (programming a) base bytes sent array m (flash.programmed c m) i old out there
  where
    c : Chunk
    c = record { address = a; bytes = bs }

    out : (x : ℕ) → Apart x (a / 256 * 256) 256 → flash.programmed c m x ≡ m x
    out x (inl p) = rw (lands_elsewhere a x (λ e. omega arith) bs 0)
    out x (inr p) = rw (lands_elsewhere a x (λ e. omega arith) bs 0)

    there : (j : ℕ) → j < 256 → flash.programmed c m (a / 256 * 256 + j) ≡ done_byte (programming a).effect (m (a / 256 * 256 + j)) j bytes sent
    there j p =
        let k = ((a / 256 * 256 + j) % 256 + 256 - a % 256) % 256 in
        let z : k - 0 ≡ k = omega arith in
        let l : lands_from a (a / 256 * 256 + j) bs 0 ≡ cond (ltb k (length bs)) (some (get_or bs k 0)) none =
        lands_from_lem a (a / 256 * 256 + j) (omega arith) bs 0 (omega arith) ∙ rw z in
        rw (l, program_place a j p) (and_landed (m (a / 256 * 256 + j)) k bytes bs sent n same (ltb k (length bs)) refl)
