-- Where the bytes of chunks land, and what finished chunks leave in the array. Assumes nothing.
use mathlib.Core.Path.{◌≡◌, refl, ap, ◌∙◌}
use mathlib.Core.Bool.{Bool, true, false, cond, ◌&&◌}
use mathlib.Core.Option.{Option, none, some}
use mathlib.Core.Logic.{◌⊎◌, inl, inr}
use mathlib.Core.List.{List, [], ◌∷◌, ◌++◌}
use Prim.Native.Nat.{ℕ, zero, suc, ◌+◌, ◌-◌, ◌%◌, ◌≤◌, ◌<◌}
use native.Mathlib.Omega.{arith}
use native.Mathlib.Decide.{dec_le}
use lib.Bits.{bit_and}
use lib.ListN.{length, get_or, take, drop, length-take, length-drop}
use lib.Dec.{leb, ltb}
use borrow.Author.Tests.{eq-eqb, ne_eqb, le-leb, lt-leb, lt-ltb, le-ltb}
use Rattle.qspi_calls.specs.Chunks.{Chunk, chunks_in, chunks, Among, here, there}
use Rattle.power_cut.specs.Flash.{Array, byte_address, lands_from, lands, anded, programmed}
use Rattle.power_cut.specs.Statement.{In, total, brought, anding}
use Rattle.power_cut.proofs.Fits.{Fit, AllFit}

-- ---- one chunk

stays_put : (a i : ℕ) → a % 256 + i < 256 → byte_address a i ≡ a + i
unfolding byte_address
stays_put a i h = omega arith

-- before the bytes, or after them
abbrev pub Beside : ℕ → ℕ → ℕ → Type 0
Beside x a n = (x < a) ⊎ (a + n ≤ x)

out_from : (a x : ℕ) (bs : List ℕ) (i : ℕ) → a % 256 + i + length bs ≤ 256 → Beside x (a + i) (length bs) → lands_from a x bs i ≡ none
unfolding lands_from
out_from a x [] i h o = refl
out_from a x (b ∷ bs) i h (inl o) =
    rw (ne_eqb x (byte_address a i) (λ e. let p = stays_put a i (omega arith) in omega arith)) (out_from a x bs (suc i) (omega arith) (inl (omega arith)))
out_from a x (b ∷ bs) i h (inr o) =
    rw (ne_eqb x (byte_address a i) (λ e. let p = stays_put a i (omega arith) in omega arith)) (out_from a x bs (suc i) (omega arith) (inr (omega arith)))

in_from : (a x : ℕ) (bs : List ℕ) (i j : ℕ) → a % 256 + i + length bs ≤ 256 → j < length bs → x ≡ a + i + j → lands_from a x bs i ≡ some (get_or bs j 0)
unfolding lands_from
in_from a x [] i j h k e = absurd (omega arith)
in_from a x (b ∷ bs) i zero h k e = rw (eq-eqb x (byte_address a i) (let p = stays_put a i (omega arith) in omega arith))
in_from a x (b ∷ bs) i (suc j) h k e =
    rw (ne_eqb x (byte_address a i) (λ z. let p = stays_put a i (omega arith) in omega arith)) (in_from a x bs (suc i) j (omega arith) (omega arith) (omega arith))

pub lands_out : (c : Chunk) (x : ℕ) → Fit c → Beside x c.address (length c.bytes) → lands c x ≡ none
unfolding lands
lands_out c x f (inl o) = out_from c.address x c.bytes 0 (omega (arith, f.in_page)) (inl (omega arith))
lands_out c x f (inr o) = out_from c.address x c.bytes 0 (omega (arith, f.in_page)) (inr (omega arith))

lands_in : (c : Chunk) (i : ℕ) → Fit c → i < length c.bytes → lands c (c.address + i) ≡ some (get_or c.bytes i 0)
unfolding lands
lands_in c i f h = in_from c.address (c.address + i) c.bytes 0 i (omega (arith, f.in_page)) h (omega arith)

pub spared : (c : Chunk) (m : Array) (x : ℕ) → lands c x ≡ none → programmed c m x ≡ m x
unfolding programmed
spared c m x e = rw e

pub beside : (x a n : ℕ) → ((a ≤ x) × (x < a + n) → ⊥) → Beside x a n
beside x a n h = go (dec_le a x) (dec_le (a + n) x)
  where
    go : Dec (a ≤ x) → Dec (a + n ≤ x) → Beside x a n
    go (yes p) (yes q) = inr q
    go (yes p) (no q) = absurd (h (p, omega arith))
    go (no p) d = inl (omega arith)

-- ---- several, one after the other

-- the array after these chunks
unfoldable pub applied : List Chunk → Array → Array
applied [] m = m
applied (c ∷ l) m = applied l (programmed c m)

pub applied_snoc : (k : List Chunk) (c : Chunk) (m : Array) → applied (k ++ c ∷ []) m ≡ programmed c (applied k m)
unfolding applied
applied_snoc [] c m = refl
applied_snoc (b ∷ k) c m = applied_snoc k c (programmed b m)

-- each chunk lies above those before it
abbrev pub Above : ℕ → List Chunk → Type 0
Above a [] = Unit {0}
Above a (c ∷ l) = (a ≤ c.address) × Above a l

abbrev pub Ordered : List Chunk → Type 0
Ordered [] = Unit {0}
Ordered (c ∷ l) = Above (c.address + length c.bytes) l × Ordered l

above_among : (a : ℕ) (l : List Chunk) {c : Chunk} → Above a l → Among c l → a ≤ c.address
above_among a (c ∷ l) h here = h.0
above_among a (b ∷ l) h (there m) = above_among a l h.1 m
-- ---- what each chunk brought, by its addresses
above_among a [] {c = c} h x'' = elim x'' [ ]

-- a chunk that `program` accepts lands where it says
lands_brought : (c : Chunk) (x : ℕ) → Fit c → lands c x ≡ brought c x
lands_brought c x f = go (dec_le c.address x) (dec_le (c.address + length c.bytes) x)
  where
    go : Dec (c.address ≤ x) → Dec (c.address + length c.bytes ≤ x) → lands c x ≡ brought c x
    go (no p) q = rw (lt-leb c.address x (omega arith)) (lands_out c x f (inl (omega arith)))
    go (yes p) (yes q) = rw (le-leb c.address x p, le-ltb x (c.address + length c.bytes) q) (lands_out c x f (inr q))
    go (yes p) (no q) =
        let i : c.address + (x - c.address) ≡ x = omega arith in
        rw (le-leb c.address x p, lt-ltb x (c.address + length c.bytes) (omega arith)) (rw i at (lands_in c (x - c.address) f (omega arith)))

pub applied_anding : (l : List Chunk) (m : Array) (x : ℕ) → AllFit l → applied l m x ≡ anding l x (m x)
unfolding applied anding programmed
applied_anding [] m x f = refl
applied_anding (c ∷ l) m x f = applied_anding l (programmed c m) x f.1 ∙ ap (λ (z : Option ℕ). anding l x (anded (m x) z)) (lands_brought c x f.0)

pub brought_out : (c : Chunk) (x : ℕ) → Beside x c.address (length c.bytes) → brought c x ≡ none
brought_out c x (inl o) = rw (lt-leb c.address x o)
brought_out c x (inr o) = go (leb c.address x)
  where
    go : (b : Bool) → cond (b && ltb x (c.address + length c.bytes)) (some (get_or c.bytes (x - c.address) 0)) none ≡ none
    go true = rw (le-ltb x (c.address + length c.bytes) o)
    go false = refl

pub brought_in : (c : Chunk) (i : ℕ) → i < length c.bytes → brought c (c.address + i) ≡ some (get_or c.bytes i 0)
brought_in c i h =
    let e : c.address + i - c.address ≡ i = omega arith in
    rw (le-leb c.address (c.address + i) (omega arith), lt-ltb (c.address + i) (c.address + length c.bytes) (omega arith), e)

anding_above : (l : List Chunk) (a x v : ℕ) → Above a l → x < a → anding l x v ≡ v
unfolding anding
anding_above [] a x v h o = refl
anding_above (c ∷ l) a x v h o = rw (brought_out c x (inl (omega (arith, h.0)))) (anding_above l a x v h.1 o)

pub anding_in : (l : List Chunk) {c : Chunk} (i v : ℕ) → Ordered l → Among c l → i < length c.bytes → anding l (c.address + i) v ≡ bit_and v (get_or c.bytes i 0)
unfolding anding
anding_in (c ∷ l) i v o here h = rw (brought_in c i h) (anding_above l (c.address + length c.bytes) (c.address + i) (bit_and v (get_or c.bytes i 0)) o.0 (omega arith))
anding_in (b ∷ l) {c} i v o (there n) h = rw (brought_out b (c.address + i) (inr (omega (arith, above_among (b.address + length b.bytes) l o.0 n)))) (anding_in l i v o.1 n h)
anding_in [] {c = c} i v o x3 h = elim x3 [ ]

pub anding_out : (l : List Chunk) (x v : ℕ) → ((c : Chunk) → Among c l → In x c → ⊥) → anding l x v ≡ v
unfolding anding
anding_out [] x v h = refl
anding_out (c ∷ l) x v h = rw (brought_out c x (beside x c.address (length c.bytes) (h c here))) (anding_out l x v (λ b n. h b (there n)))

-- ---- the chunks of a call

in_above : (n a z : ℕ) (bs : List ℕ) → z ≤ a → Above z (chunks_in n a bs)
unfolding chunks_in
in_above zero a z bs h = tt
in_above (suc n) a z [] h = tt
in_above (suc n) a z (b ∷ bs) h = (h, in_above n (a + 128) z (drop 128 (b ∷ bs)) (omega arith))

above_less : (l : List Chunk) (y z : ℕ) → y ≤ z → Above z l → Above y l
above_less [] y z h a = tt
above_less (c ∷ l) y z h a = (omega (arith, a.0), above_less l y z h a.1)

in_ordered : (n a : ℕ) (bs : List ℕ) → Ordered (chunks_in n a bs)
unfolding chunks_in
in_ordered zero a bs = tt
in_ordered (suc n) a [] = tt
in_ordered (suc n) a (b ∷ bs) = (
  above_less (chunks_in n (a + 128) (drop 128 (b ∷ bs))) (a + length (take 128 (b ∷ bs))) (a + 128) (omega (arith, length-take 128 (b ∷ bs))) (in_above n (a + 128) (a + 128) (drop 128 (b ∷ bs)) (omega arith)),
  in_ordered n (a + 128) (drop 128 (b ∷ bs)),
)

pub chunks_ordered : (a : ℕ) (bs : List ℕ) → Ordered (chunks a bs)
unfolding chunks
chunks_ordered a bs = in_ordered (length bs) a bs

in_total : (n a : ℕ) (bs : List ℕ) → length bs ≤ n → total (chunks_in n a bs) ≡ length bs
unfolding chunks_in total
in_total zero a [] h = refl
in_total zero a (b ∷ bs) h = absurd (omega arith)
in_total (suc n) a [] h = refl
in_total (suc n) a (b ∷ bs) h =
    let e = in_total n (a + 128) (drop 128 (b ∷ bs)) (omega (arith, length-drop 128 (b ∷ bs))) in
    omega (arith, length-drop 128 (b ∷ bs), length-take 128 (b ∷ bs))

pub chunks_total : (a : ℕ) (bs : List ℕ) → total (chunks a bs) ≡ length bs
unfolding chunks
chunks_total a bs = in_total (length bs) a bs (omega arith)

pub ordered_front : (k l : List Chunk) → Ordered (k ++ l) → Ordered k
ordered_front [] l h = tt
ordered_front (c ∷ k) l h = (front (c.address + length c.bytes) k l h.0, ordered_front k l h.1)
  where
    front : (a : ℕ) (k l : List Chunk) → Above a (k ++ l) → Above a k
    front a [] l h = tt
    front a (c ∷ k) l h = (h.0, front a k l h.1)

pub ordered_seam : (k : List Chunk) (d : Chunk) (l : List Chunk) {c : Chunk} → Ordered (k ++ d ∷ l) → Among c k → c.address + length c.bytes ≤ d.address
ordered_seam (c ∷ k) d l h here = back (c.address + length c.bytes) k h.0
  where
    back : (a : ℕ) (k : List Chunk) → Above a (k ++ d ∷ l) → a ≤ d.address
    back a [] h = h.0
    back a (b ∷ k) h = back a k h.1
ordered_seam (b ∷ k) d l h (there m) = ordered_seam k d l h.1 m
ordered_seam [] d l {c = c} h x'' = elim x'' [ ]
