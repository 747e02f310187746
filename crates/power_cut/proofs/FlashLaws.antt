-- The definition of the flash read back, sentence by sentence of document 01, "The flash, as defined here": what each command does to array,
-- latch and work, what a busy flash ignores, what a cut may leave, and that no command reaches past the array. Assumes nothing.
use mathlib.Core.Path.{◌≡◌, refl, ap, ◌∙◌}
use mathlib.Core.Bool.{Bool, true, false, cond, ◌&&◌, true≢false}
use mathlib.Core.Option.{none, some}
use mathlib.Core.List.{List, [], ◌∷◌}
use mathlib.Core.Logic.{◌↔◌}
use Prim.Native.Nat.{ℕ, suc, ◌+◌, ◌*◌, ◌/◌, ◌≤◌, ◌<◌}
use native.Mathlib.Omega.{arith}
use lib.Dec.{eqb, leb, ltb}
use borrow.Author.Tests.{eqb-true, eqb-false, leb-true, le-leb, lt-ltb, le-ltb}
use Rattle.qspi_calls.specs.Chunks.{Chunk}
use Rattle.power_cut.specs.Flash.{Array, address_of, program_of, erase_of, command_of, byte_address, lands_from, lands, erased, Work, programming, erasing, done, Spares, Flash, flash, obey, execute, Settles, settles, AfterCut}

abbrev pub array_of : Flash → Array
array_of (flash m latch w) = m

outside : (h x : ℕ) → (x / 65536 ≡ h → ⊥) → h * 65536 ≤ x → h * 65536 + 65536 ≤ x
outside h x d f = omega (arith, d)

erased_by : (h x : ℕ) (m : Array) (b : Bool) → eqb (x / 65536) h ≡ b → erased (h * 65536) 65536 m x ≡ cond b 0xFF (m x)
unfolding erased
erased_by h x m true e =
    let d = eqb-true (x / 65536) h e in
    rw (le-leb (h * 65536) x (omega (arith, d)), lt-ltb x (h * 65536 + 65536) (omega (arith, d)))
erased_by h x m false e = go (leb (h * 65536) x) refl
  where
    go : (b : Bool) → leb (h * 65536) x ≡ b → cond (b && ltb x (h * 65536 + 65536)) 0xFF (m x) ≡ m x
    go false f = refl
    go true f = rw (le-ltb x (h * 65536 + 65536) (outside h x (eqb-false (x / 65536) h e) (leb-true (h * 65536) x f)))

-- "each byte of an erased 64 KiB sector is FF"
pub erase_law : (m : Array) (h l₁ l₀ x : ℕ) → l₁ < 256 → l₀ < 256 → {g : Flash} → Settles (execute (flash m true none) (0xD8 ∷ h ∷ l₁ ∷ l₀ ∷ [])) g
    → array_of g x ≡ cond (eqb (x / 65536) h) 0xFF (m x)
unfolding execute obey command_of erase_of
erase_law m h l₁ l₀ x p q settles =
    let e : address_of h l₁ l₀ / 65536 * 65536 ≡ h * 65536 = omega arith in
    ap (λ (z : ℕ). erased z 65536 m x) e ∙ erased_by h x m (eqb (x / 65536) h) refl

-- "Write enable (06) sets the latch", whatever comes behind the byte
pub enable_sets : (m : Array) (latch : Bool) (bs : List ℕ) → execute (flash m latch none) (0x06 ∷ bs) ≡ flash m true none
unfolding execute obey command_of
enable_sets m latch bs = refl

-- "write disable (04) clears it"
pub disable_clears : (m : Array) (latch : Bool) (bs : List ℕ) → execute (flash m latch none) (0x04 ∷ bs) ≡ flash m false none
unfolding execute obey command_of
disable_clears m latch bs = refl

-- "status read (05) and clear status (30)" touch neither array nor latch
pub status_keeps : (m : Array) (latch : Bool) (bs : List ℕ) → execute (flash m latch none) (0x05 ∷ bs) ≡ flash m latch none
unfolding execute obey command_of
status_keeps m latch bs = refl

pub clear_status_keeps : (m : Array) (latch : Bool) (bs : List ℕ) → execute (flash m latch none) (0x30 ∷ bs) ≡ flash m latch none
unfolding execute obey command_of
clear_status_keeps m latch bs = refl

-- and so does every other command
pub other_keeps : (m : Array) (latch : Bool) (b : ℕ) (bs : List ℕ) → eqb b 0x06 ≡ false → eqb b 0x04 ≡ false → eqb b 0x02 ≡ false → eqb b 0xD8 ≡ false → eqb b 0x05 ≡ false → eqb b 0x30 ≡ false
    → execute (flash m latch none) (b ∷ bs) ≡ flash m latch none
unfolding execute obey command_of
other_keeps m latch b bs e₁ e₂ e₃ e₄ e₅ e₆ = rw (e₁, e₂, e₃, e₄, e₅, e₆)

pub silence_keeps : (m : Array) (latch : Bool) → execute (flash m latch none) [] ≡ flash m latch none
unfolding execute obey command_of
silence_keeps m latch = refl

-- "While busy only status read (05) and clear status (30) are obeyed": array, latch and work stay, whatever is sent
pub busy_keeps : (m : Array) (latch : Bool) (w : Work) (bs : List ℕ) → execute (flash m latch (some w)) bs ≡ flash m latch (some w)
unfolding execute
busy_keeps m latch w bs = refl

-- "Page program (02) and sector erase (D8) need the latch, clear it and make the device busy"
pub program_works : (m : Array) (h l₁ l₀ d : ℕ) (ds : List ℕ)
    → execute (flash m true none) (0x02 ∷ h ∷ l₁ ∷ l₀ ∷ d ∷ ds) ≡ flash m false (some (programming (record { address = h * 65536 + l₁ * 256 + l₀; bytes = d ∷ ds })))
unfolding execute obey command_of program_of
program_works m h l₁ l₀ d ds = refl

pub erase_works : (m : Array) (h l₁ l₀ : ℕ) (ds : List ℕ) → l₁ < 256 → l₀ < 256 → execute (flash m true none) (0xD8 ∷ h ∷ l₁ ∷ l₀ ∷ ds) ≡ flash m false (some (erasing (h * 65536) 65536))
unfolding execute obey command_of erase_of
erase_works m h l₁ l₀ ds p q =
    let e : address_of h l₁ l₀ / 65536 * 65536 ≡ h * 65536 = omega arith in
    ap (λ (z : ℕ). flash m false (some (erasing z 65536))) e

-- "until it is idle. Then ..": the work is done, and the latch stays
pub settled_does : {m : Array} {latch : Bool} {w : Work} {g : Flash} → Settles (flash m latch (some w)) g → g ≡ flash (done w m) latch none
settled_does settles = refl

-- "after it, a byte in doubt may hold anything and no other changes": so much is left free, and no more
pub cut_leaves_any : (m new : Array) (latch : Bool) (w : Work) → ((x : ℕ) → Spares w x → new x ≡ m x) → AfterCut (flash m latch (some w)) new
unfolding AfterCut
cut_leaves_any m new latch w h = h

-- of a program the bytes that it lands on, of an erase those of its sector
pub cut_of_program : (m new : Array) (latch : Bool) (c : Chunk) → AfterCut (flash m latch (some (programming c))) new ↔ ((x : ℕ) → lands c x ≡ none → new x ≡ m x)
unfolding AfterCut
cut_of_program m new latch c = (λ h. h, λ h. h)

pub cut_of_erase : (m new : Array) (latch : Bool) (a n : ℕ) → AfterCut (flash m latch (some (erasing a n))) new ↔ ((x : ℕ) → ((a ≤ x) × (x < a + n) → ⊥) → new x ≡ m x)
unfolding AfterCut
cut_of_erase m new latch a n = (λ h. h, λ h. h)

pub cut_of_idle : (m new : Array) (latch : Bool) → AfterCut (flash m latch none) new → (x : ℕ) → new x ≡ m x
unfolding AfterCut
cut_of_idle m new latch h = h

-- "need the latch"
pub program_needs_latch : (m : Array) (bs : List ℕ) → execute (flash m false none) (0x02 ∷ bs) ≡ flash m false none
unfolding execute obey command_of program_of
program_needs_latch m [] = refl
program_needs_latch m (a ∷ []) = refl
program_needs_latch m (a ∷ b ∷ []) = refl
program_needs_latch m (a ∷ b ∷ c ∷ []) = refl
program_needs_latch m (a ∷ b ∷ c ∷ d ∷ ds) = refl

pub erase_needs_latch : (m : Array) (bs : List ℕ) → execute (flash m false none) (0xD8 ∷ bs) ≡ flash m false none
unfolding execute obey command_of erase_of
erase_needs_latch m [] = refl
erase_needs_latch m (a ∷ []) = refl
erase_needs_latch m (a ∷ b ∷ []) = refl
erase_needs_latch m (a ∷ b ∷ c ∷ ds) = refl

-- "A program command without data changes nothing"
pub no_data : (m : Array) (latch : Bool) (h l₁ l₀ : ℕ) → execute (flash m latch none) (0x02 ∷ h ∷ l₁ ∷ l₀ ∷ []) ≡ flash m latch none
unfolding execute obey command_of program_of
no_data m latch h l₁ l₀ = refl

-- "The array has 16,777,216 bytes"
lands_from_within : (a x : ℕ) (bs : List ℕ) (i v : ℕ) → a < 16777216 → lands_from a x bs i ≡ some v → x < 16777216
unfolding lands_from byte_address
lands_from_within a x [] i v h e = let z : ◌≡◌ {A = Bool} true false = cc in absurd (true≢false z)
lands_from_within a x (b ∷ bs) i v h e = go (eqb x (byte_address a i)) refl e (λ f. lands_from_within a x bs (suc i) v h f)
  where
    go : (c : Bool) → eqb x (byte_address a i) ≡ c → cond c (some b) (lands_from a x bs (suc i)) ≡ some v → (lands_from a x bs (suc i) ≡ some v → x < 16777216) → x < 16777216
    go true f e k = omega (arith, eqb-true x (byte_address a i) f)
    go false f e k = k e

pub program_within : (h l₁ l₀ x v : ℕ) (bs : List ℕ) → h < 256 → l₁ < 256 → l₀ < 256 → lands (record { address = address_of h l₁ l₀; bytes = bs }) x ≡ some v → x < 16777216
unfolding lands
program_within h l₁ l₀ x v bs p q r e = lands_from_within (address_of h l₁ l₀) x bs 0 v (omega arith) e

pub erase_within : (h l₁ l₀ : ℕ) → h < 256 → l₁ < 256 → l₀ < 256 → address_of h l₁ l₀ / 65536 * 65536 + 65536 ≤ 16777216
erase_within h l₁ l₀ p q r = omega arith
