-- The power-cut statement by byte numbers: the finished chunks are the first n bytes of the data, and the chunk in doubt is the bytes after
-- them. Assumes nothing.
use mathlib.Core.Path.{◌≡◌, refl, ap, ◌∙◌, sym}
use mathlib.Core.Bool.{Bool, true, false}
use mathlib.Core.List.{List, [], ◌∷◌, ◌++◌, head-eq_of_cons-eq, tail-eq_of_cons-eq, cons≢nil}
use Prim.Native.Nat.{ℕ, zero, suc, ◌+◌, ◌-◌, ◌≤◌, ◌<◌}
use native.Mathlib.Omega.{arith}
use lib.Bits.{bit_and}
use lib.Dec.{ltb}
use lib.ListN.{length, get_or, take, drop, length-take, length-drop}
use lib.Seq.{get_or-take, get_or-drop, drop-drop}
use borrow.Author.Tests.{ltb-true, ltb-false}
use Rattle.qspi_calls.specs.Chunks.{Chunk, chunks_in, chunks, Among, here, there}
use Rattle.power_cut.specs.Flash.{Array}
use Rattle.power_cut.specs.Observer.{Observed}
use Rattle.power_cut.specs.Statement.{In, total, NextOnly, no_doubt, the_next, Save}
use Rattle.power_cut.specs.OneCall.{KeptBy}
use Rattle.power_cut.proofs.StatementLaws.{at_most_one}

-- ---- the first chunks of the data

total_front : (f a : ℕ) (bs : List ℕ) (k l : List Chunk) → k ++ l ≡ chunks_in f a bs → total k ≤ length bs
unfolding chunks_in total
total_front f a bs [] l e = omega arith
total_front zero a bs (c ∷ k) l e = absurd (cons≢nil e)
total_front (suc f) a [] (c ∷ k) l e = absurd (cons≢nil e)
total_front (suc f) a (b ∷ bs) (c ∷ k) l e =
    let n : length c.bytes ≡ length (take 128 (b ∷ bs)) = ap (λ (z : Chunk). length z.bytes) (head-eq_of_cons-eq e) in
    omega (arith, n, total_front f (a + 128) (drop 128 (b ∷ bs)) k l (tail-eq_of_cons-eq e), length-take 128 (b ∷ bs), length-drop 128 (b ∷ bs))

-- byte j of the data stands in one of the chunks
record Stands (k : List Chunk) (a : ℕ) (bs : List ℕ) (j : ℕ) : Type 0 where
  chunk : Chunk
  place : ℕ
  among : Among chunk k
  inside : place < length chunk.bytes
  address_is : chunk.address + place ≡ a + j
  byte_is : get_or chunk.bytes place 0 ≡ get_or bs j 0

later : (c : Chunk) (k : List Chunk) (a : ℕ) (bs : List ℕ) (j : ℕ) → 128 ≤ j → Stands k (a + 128) (drop 128 bs) (j - 128) → Stands (c ∷ k) a bs j
later c k a bs j h s =
    let e : 128 + (j - 128) ≡ j = omega arith in
    record {
      chunk = s.chunk;
      place = s.place;
      among = there s.among;
      inside = s.inside;
      address_is = omega (arith, s.address_is);
      byte_is = s.byte_is ∙ get_or-drop 128 bs (j - 128) 0 ∙ ap (λ (z : ℕ). get_or bs z 0) e;
    }

stands : (f a : ℕ) (bs : List ℕ) (k l : List Chunk) → k ++ l ≡ chunks_in f a bs → (j : ℕ) → j < total k → Stands k a bs j
unfolding chunks_in total
stands f a bs [] l e j h = absurd (omega arith)
stands zero a bs (c ∷ k) l e j h = absurd (cons≢nil e)
stands (suc f) a [] (c ∷ k) l e j h = absurd (cons≢nil e)
stands (suc f) a (b ∷ bs) (c ∷ k) l e j h = go (ltb j (length c.bytes)) refl (λ i. stands f (a + 128) (drop 128 (b ∷ bs)) k l (tail-eq_of_cons-eq e) (j - 128) i)
  where
    c-is : c ≡ record { address = a; bytes = take 128 (b ∷ bs) }
    c-is = head-eq_of_cons-eq e

    long : length c.bytes ≡ length (take 128 (b ∷ bs))
    long = ap (λ (z : Chunk). length z.bytes) c-is

    few : total k ≤ length (drop 128 (b ∷ bs))
    few = total_front f (a + 128) (drop 128 (b ∷ bs)) k l (tail-eq_of_cons-eq e)

    go : (t : Bool) → ltb j (length c.bytes) ≡ t → (j - 128 < total k → Stands k (a + 128) (drop 128 (b ∷ bs)) (j - 128)) → Stands (c ∷ k) a (b ∷ bs) j
    go true g r = record {
      chunk = c;
      place = j;
      among = here;
      inside = ltb-true j (length c.bytes) g;
      address_is = ap (λ (z : Chunk). z.address + j) c-is;
      byte_is = ap (λ (z : Chunk). get_or z.bytes j 0) c-is ∙ get_or-take 128 (b ∷ bs) j 0 (omega (arith, ltb-true j (length c.bytes) g, long, length-take 128 (b ∷ bs)));
    }
    go false g r =
        later c k a (b ∷ bs) j (omega (arith, ltb-false j (length c.bytes) g, long, few, length-take 128 (b ∷ bs), length-drop 128 (b ∷ bs)))
        (r (omega (arith, ltb-false j (length c.bytes) g, long, few, length-take 128 (b ∷ bs), length-drop 128 (b ∷ bs))))

-- and they hold no other byte
covers : (f a : ℕ) (bs : List ℕ) (k l : List Chunk) → k ++ l ≡ chunks_in f a bs → {c : Chunk} (x : ℕ) → Among c k → In x c → (a ≤ x) × (x < a + total k)
unfolding chunks_in total
covers zero a bs (c ∷ k) l e x m h = absurd (cons≢nil e)
covers (suc f) a [] (c ∷ k) l e x m h = absurd (cons≢nil e)
covers (suc f) a (b ∷ bs) (c ∷ k) l e x here h =
    let i : c.address ≡ a = ap (λ (z : Chunk). z.address) (head-eq_of_cons-eq e) in
    (omega (arith, i, h.0), omega (arith, i, h.1))
covers (suc f) a (b ∷ bs) (c ∷ k) l e x (there m) h =
    let r = covers f (a + 128) (drop 128 (b ∷ bs)) k l (tail-eq_of_cons-eq e) x m h in
    let n : length c.bytes ≡ length (take 128 (b ∷ bs)) = ap (λ (z : Chunk). length z.bytes) (head-eq_of_cons-eq e) in
    let t = total_front f (a + 128) (drop 128 (b ∷ bs)) k l (tail-eq_of_cons-eq e) in
    (omega (arith, r.0), omega (arith, r.0, r.1, n, t, length-take 128 (b ∷ bs), length-drop 128 (b ∷ bs)))
covers zero a bs [] l e {c = c} x m h = elim m [ ]
covers (suc f) a [] [] l e {c = c} x m h = elim m [ ]
covers (suc f) a (b ∷ bs) [] l e {c = c} x m h = elim m [ ]

-- there is a byte for each chunk
some_byte : (f a : ℕ) (bs : List ℕ) (k : List Chunk) (c : Chunk) (l : List Chunk) → k ++ c ∷ l ≡ chunks_in f a bs → 0 < length bs
unfolding chunks_in
some_byte zero a bs [] c l e = absurd (cons≢nil e)
some_byte zero a bs (d ∷ k) c l e = absurd (cons≢nil e)
some_byte (suc f) a [] [] c l e = absurd (cons≢nil e)
some_byte (suc f) a [] (d ∷ k) c l e = absurd (cons≢nil e)
some_byte (suc f) a (b ∷ bs) k c l e = omega arith

-- the chunk after them begins where they end
next_chunk_lem : (f a : ℕ) (bs : List ℕ) (k : List Chunk) (c : Chunk) (l : List Chunk) → k ++ c ∷ l ≡ chunks_in f a bs → c ≡ record { address = a + total k; bytes = take 128 (drop (total k) bs) }
unfolding chunks_in total
next_chunk_lem zero a bs [] c l e = absurd (cons≢nil e)
next_chunk_lem zero a bs (d ∷ k) c l e = absurd (cons≢nil e)
next_chunk_lem (suc f) a [] [] c l e = absurd (cons≢nil e)
next_chunk_lem (suc f) a [] (d ∷ k) c l e = absurd (cons≢nil e)
next_chunk_lem (suc f) a (b ∷ bs) [] c l e =
    let i : a + 0 ≡ a = omega arith in
    head-eq_of_cons-eq e ∙ ap (λ (z : ℕ). record { address = z; bytes = take 128 (b ∷ bs) }) (sym i)
next_chunk_lem (suc f) a (b ∷ bs) (d ∷ k) c l e =
    let t = tail-eq_of_cons-eq e in
    let r = next_chunk_lem f (a + 128) (drop 128 (b ∷ bs)) k c l t in
    let n : length d.bytes ≡ length (take 128 (b ∷ bs)) = ap (λ (z : Chunk). length z.bytes) (head-eq_of_cons-eq e) in
    let m : length d.bytes ≡ 128 = omega (arith, n, some_byte f (a + 128) (drop 128 (b ∷ bs)) k c l t, length-take 128 (b ∷ bs), length-drop 128 (b ∷ bs)) in
    let i : a + 128 + total k ≡ a + (length d.bytes + total k) = omega (arith, m) in
    let j : drop (total k) (drop 128 (b ∷ bs)) ≡ drop (length d.bytes + total k) (b ∷ bs) = rw (m, drop-drop (total k) 128 (b ∷ bs)) in
    r ∙ rw (i, j)

-- ---- the statement

-- with the first n bytes of the data finished
pub record Plain (a : ℕ) (bs : List ℕ) (old new : Array) (n : ℕ) (doubt : List Chunk) : Type 0 where
  pub few : n ≤ length bs
  pub written : (j : ℕ) → j < n → new (a + j) ≡ bit_and (old (a + j)) (get_or bs j 0)
  pub one : length doubt ≤ 1
  pub next : (c : Chunk) → Among c doubt → c ≡ record { address = a + n; bytes = take 128 (drop n bs) }
  pub same : (x : ℕ) → ((a ≤ x) × (x < a + n) → ⊥) → ((c : Chunk) → Among c doubt → In x c → ⊥) → new x ≡ old x

doubt_next : (f a : ℕ) (bs : List ℕ) (k l : List Chunk) {q : List Chunk} → k ++ l ≡ chunks_in f a bs → NextOnly q l → (c : Chunk) → Among c q → c ≡ record { address = a + total k; bytes = take 128 (drop (total k) bs) }
doubt_next f a bs k l e (the_next {left = left} y z) c here = next_chunk_lem f a bs k c left e
doubt_next f a bs k l e no_doubt c x5 = elim x5 [ ]
doubt_next f a bs k _ e (the_next {left = left} y z) c (there x10) = elim x10 [ ]

pub plain : (c : Save) (old new : Array) (o : Observed) → KeptBy c old o new → Plain c.address c.bytes old new (total o.finished) o.doubt
unfolding chunks
plain c old new o k = record {
  few = total_front (length c.bytes) c.address c.bytes o.finished k.left k.first;
  written = λ j h. (let s = stands (length c.bytes) c.address c.bytes o.finished k.left k.first j h in
      ap new (sym s.address_is) ∙ k.written s.chunk s.among s.place s.inside ∙ rw (s.address_is, s.byte_is));
  one = at_most_one k.next;
  next = doubt_next (length c.bytes) c.address c.bytes o.finished k.left k.first k.next;
  same = λ x h g. k.same x (λ b m i. h (covers (length c.bytes) c.address c.bytes o.finished k.left k.first x m i)) g;
}
