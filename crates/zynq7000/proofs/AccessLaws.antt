-- An access and its two log words, both ways, and when two words are no access. Assumes nothing.
use Prim.Native.Nat.{ℕ, ◌+◌, ◌-◌, ◌*◌, ◌%◌, ◌<◌, ◌≤◌}
use mathlib.Core.Path.{◌≡◌, refl}
use mathlib.Core.Bool.{Bool, true, false}
use mathlib.Core.List.{List, [], ◌∷◌}
use mathlib.Core.Logic.{◌↔◌, ◌⊎◌, inl, inr}
use native.Mathlib.Omega.{arith}
use lib.Dec.{eqb, ltb}
use lib.ListN.{length}
use borrow.Author.Tests.{lt-ltb, le-ltb, eq-eqb, ne_eqb, ltb-true, ltb-false, eqb-true, eqb-false}
use Rattle.std.specs.Prelude.{Ok, Err}
use Rattle.zynq7000.specs.Qspi.{offset_of}
use Rattle.zynq7000.specs.Access.{offset_in, first_word, value_word, encode, record_of_words, bad_log, Aligned}
use Rattle.zynq7000.specs.declared.qspi.Access.{Access}
use Rattle.zynq7000.specs.declared.qspi.Access.TheVariants.{Read, Write}
use Rattle.zynq7000.specs.declared.qspi.Register.{Register}
use Rattle.zynq7000.specs.declared.qspi.Register.TheVariants as register

-- "An access is two 32-bit words"
pub length_encode : (l : List Access) → length (encode l) ≡ 2 * length l
unfolding encode
length_encode [] = refl
length_encode (a ∷ l) = omega (arith, length_encode l)

-- the registers' offsets are such
pub register_aligned : (r : Register) → Aligned (offset_of r)
register_aligned register.Config = record { fourth = refl; byte = omega arith }
register_aligned register.InterruptStatus = record { fourth = refl; byte = omega arith }
register_aligned register.SpiEnable = record { fourth = refl; byte = omega arith }
register_aligned register.TxData00 = record { fourth = refl; byte = omega arith }
register_aligned register.RxData = record { fourth = refl; byte = omega arith }
register_aligned register.TxFifoThreshold = record { fourth = refl; byte = omega arith }
register_aligned register.RxFifoThreshold = record { fourth = refl; byte = omega arith }
register_aligned register.LoopbackMasterClockDelay = record { fourth = refl; byte = omega arith }
register_aligned register.TxData01 = record { fourth = refl; byte = omega arith }
register_aligned register.TxData10 = record { fourth = refl; byte = omega arith }
register_aligned register.TxData11 = record { fourth = refl; byte = omega arith }
register_aligned register.LinearQspiConfig = record { fourth = refl; byte = omega arith }

-- the words of an access are read as that access
pub read_words_lem : (a : Access) → Aligned (offset_in a) → record_of_words (first_word a) (value_word a) ≡ Ok a
read_words_lem (Write o v) h =
    let e : o % 4 ≡ 0 = h.fourth in
    let l : o < 256 = h.byte in
    simp (le-ltb 0x1FC o (omega arith), eq-eqb (o % 4) 0 e, lt-ltb o 0x100 l)
read_words_lem (Read o v) h =
    let l : o < 256 = h.byte in
    let e : (0x100 + o) % 4 ≡ 0 = omega (arith, h.fourth) in
    let u : 0x100 + o ≤ 0x1FC = omega (arith, h.fourth) in
    let d : 0x100 + o - 0x100 ≡ o = omega arith in
    simp (le-ltb 0x1FC (0x100 + o) u, eq-eqb ((0x100 + o) % 4) 0 e, le-ltb (0x100 + o) 0x100 (omega arith), d)

-- what two words are, by the tests of rule 13
data Cases (first v : ℕ) : Type 0 where
  above : 0x1FC < first → record_of_words first v ≡ Err bad_log → Cases first v
  odd : (first % 4 ≡ 0 → ⊥) → record_of_words first v ≡ Err bad_log → Cases first v
  write : first % 4 ≡ 0 → first < 0x100 → record_of_words first v ≡ Ok (Write first v) → Cases first v
  read : first % 4 ≡ 0 → 0x100 ≤ first → first ≤ 0x1FC → record_of_words first v ≡ Ok (Read (first - 0x100) v) → Cases first v

cases : (first v : ℕ) → Cases first v
cases first v = go (ltb 0x1FC first) (eqb (first % 4) 0) (ltb first 0x100) refl refl refl
  where
    go : (a b c : Bool) → ltb 0x1FC first ≡ a → eqb (first % 4) 0 ≡ b → ltb first 0x100 ≡ c → Cases first v
    go true b c ea eb ec = above (ltb-true 0x1FC first ea) (simp ea)
    go false false c ea eb ec = odd (eqb-false (first % 4) 0 eb) (simp (ea, eb))
    go false true true ea eb ec = write (eqb-true (first % 4) 0 eb) (ltb-true first 0x100 ec) (simp (ea, eb, ec))
    go false true false ea eb ec = read (eqb-true (first % 4) 0 eb) (ltb-false first 0x100 ec) (ltb-false 0x1FC first ea) (simp (ea, eb, ec))

-- two words that are read as an access are that access's words, and its offset is one that a log can hold
pub record FromWords (first v : ℕ) (a : Access) : Type 0 where
  pub first_is : first_word a ≡ first
  pub value_is : value_word a ≡ v
  pub aligned : Aligned (offset_in a)

pub write_record : (first v : ℕ) (a : Access) → record_of_words first v ≡ Ok a → FromWords first v a
write_record first v a h = go (cases first v)
  where
    same : (b : Access) → record_of_words first v ≡ Ok b → a ≡ b
    same b e = cc

    no : record_of_words first v ≡ Err bad_log → FromWords first v a
    no e = let z : ◌≡◌ {A = ℕ} 0 1 = cc in absurd (omega arith)

    go : Cases first v → FromWords first v a
    go (above p e) = no e
    go (odd p e) = no e
    go (write f l e) =
        rw (same (Write first v) e) (record { first_is = refl; value_is = refl; aligned = record { fourth = f; byte = l } })
    go (read f l u e) =
        rw (same (Read (first - 0x100) v) e)
        (record { first_is = omega arith; value_is = refl; aligned = record { fourth = omega arith; byte = omega arith } })

-- rule 13 of two words, precisely when
pub bad_when : (first v : ℕ) → record_of_words first v ≡ Err bad_log ↔ (0x1FC < first) ⊎ (first % 4 ≡ 0 → ⊥)
bad_when first v = (to (cases first v), from)
  where
    never : (a : Access) → record_of_words first v ≡ Ok a → record_of_words first v ≡ Err bad_log → ⊥
    never a p q = let z : ◌≡◌ {A = ℕ} 0 1 = cc in omega arith

    to : Cases first v → record_of_words first v ≡ Err bad_log → (0x1FC < first) ⊎ (first % 4 ≡ 0 → ⊥)
    to (above p e) q = inl p
    to (odd p e) q = inr p
    to (write f l e) q = absurd (never (Write first v) e q)
    to (read f l u e) q = absurd (never (Read (first - 0x100) v) e q)

    from : (0x1FC < first) ⊎ (first % 4 ≡ 0 → ⊥) → record_of_words first v ≡ Err bad_log
    from (inl p) = simp (lt-ltb 0x1FC first p)
    from (inr p) = bad (ltb 0x1FC first) refl
      where
        bad : (b : Bool) → ltb 0x1FC first ≡ b → record_of_words first v ≡ Err bad_log
        bad true e = simp e
        bad false e = simp (e, ne_eqb (first % 4) 0 p)
