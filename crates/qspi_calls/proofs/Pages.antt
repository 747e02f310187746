-- `write_pages`, tied to its script chunk by chunk; what a chunk can be refused for, and where. Assumes nothing.
use mathlib.Core.Path.{◌≡◌, refl, ap, ◌∙◌, sym}
use mathlib.Core.Bool.{Bool, true, false}
use mathlib.Core.List.{List, [], ◌∷◌}
use Prim.Native.Nat.{ℕ, zero, suc, ◌+◌, ◌-◌, ◌%◌, ◌^◌, ◌≤◌, ◌<◌}
use native.Mathlib.Omega.{arith}
use lib.Dec.{ltb, eqb}
use lib.ListN.{length, get_or, take, drop, length-take, length-drop, drop_of_length-le}
use lib.Seq.{get_or-take, get_or-drop, drop-drop}
use borrow.Author.Tests.{ltb-true, ltb-false, lt-ltb, le-ltb, eq-eqb, ne_eqb, eqb-true}
use Rattle.qspi_transfer.specs.declared.Phase.TheVariants as phase
use Rattle.qspi_transfer.specs.declared.Wire.{Wire}
use Rattle.qspi_transfer.specs.Wire.{fresh_wire}
use Rattle.qspi_script.specs.Stages.{frame_at, due_word}
use Rattle.qspi_script.specs.Turns.{begin, finish, pick, page_chunk, next_page, settled}
use Rattle.qspi_script.specs.declared.Stage.{Stage}
use Rattle.qspi_script.specs.declared.Stage.TheVariants as stage
use Rattle.qspi_script.specs.declared.Status.TheVariants.{Done, OutOfRange, NotAligned, CrossesPageBoundary, ProgrammingErrorBitSet}
use Rattle.qspi_script.specs.declared.Sequel.TheVariants as sequel
use Rattle.qspi_script.specs.declared.Job.{Job}
use Rattle.qspi_script.specs.declared.Place.{Place}
use Rattle.qspi_operation.specs.Machine.{Transfer, Script, ends, counts, onward}
use Rattle.qspi_calls.specs.Chunks.{Chunk, chunks_in, chunks, Among, here, there}
use Rattle.qspi_calls.specs.Calls.{refused, programming, program_then, pages, write_pages}
use Rattle.qspi_calls.specs.Calls as call
use Rattle.qspi_calls.specs.Starts as start
use Rattle.qspi_calls.proofs.Phases.{words, Same}
use Rattle.qspi_calls.proofs.Scripted.{Turns, on, over, more, Scripted}
use Rattle.qspi_calls.proofs.Short.{ended_at_start}
use Rattle.qspi_calls.proofs.ProgramWords.{length_words, data_word_lem, all_prefilled}
use Rattle.qspi_calls.proofs.Several.{Stages, opens, either, Working, settle_enable, working_scripted}
use Rattle.qspi_calls.proofs.Tied.{Starts}

-- ---- the chunks

pub chunks_cons : (f a : ℕ) (l : List ℕ) → 0 < length l → chunks_in (suc f) a l ≡ record { address = a; bytes = take 128 l } ∷ chunks_in f (a + 128) (drop 128 l)
unfolding chunks_in
chunks_cons f a [] h = absurd (omega arith)
chunks_cons f a (b ∷ l) h = refl

chunks_nil : (f a : ℕ) → chunks_in f a [] ≡ []
unfolding chunks_in
chunks_nil zero a = refl
chunks_nil (suc f) a = refl

-- one that has another after it
pub data NotLast (c : Chunk) : List Chunk → Type 0 where
  next : {l : List Chunk} → 0 < length l → NotLast c (c ∷ l)
  later : {d : Chunk} {l : List Chunk} → NotLast c l → NotLast c (d ∷ l)

some_among : {c : Chunk} {l : List Chunk} → Among c l → 0 < length l
some_among here = omega arith
some_among (there q) = omega arith

some_before : {c : Chunk} {l : List Chunk} → NotLast c l → 0 < length l
some_before (next h) = omega arith
some_before (later q) = omega arith

-- a chunk lies within the bytes and has at most 128 of them
pub within : (f a : ℕ) (bs : List ℕ) (c : Chunk) → Among c (chunks_in f a bs) → (c.address + length c.bytes ≤ a + length bs) × (length c.bytes ≤ 128)
unfolding chunks_in
within zero a bs c q = absurd (omega (arith, some_among q))
within (suc f) a [] c q = absurd (omega (arith, some_among q))
within (suc f) a (b ∷ bs) c here = let n = length-take 128 (b ∷ bs) in (omega (arith, n), omega (arith, n))
within (suc f) a (b ∷ bs) c (there q) = go (drop 128 (b ∷ bs)) refl (within f (a + 128) (drop 128 (b ∷ bs)) c q) q
  where
    go : (r : List ℕ) → drop 128 (b ∷ bs) ≡ r → (c.address + length c.bytes ≤ a + 128 + length r) × (length c.bytes ≤ 128) → Among c (chunks_in f (a + 128) r)
        → (c.address + length c.bytes ≤ a + length (b ∷ bs)) × (length c.bytes ≤ 128)
    go [] e h q = absurd (let z : Among c [] = rw (chunks_nil f (a + 128)) at q in omega (arith, some_among z))
    go (x ∷ r) e h q = let m : length (drop 128 (b ∷ bs)) ≡ length (x ∷ r) = ap length e in (omega (arith, h.0, m, length-drop 128 (b ∷ bs)), h.1)

-- rules 1 and 3 on bytes within the range and no more than 128
chunk_rules : (a : ℕ) (bs : List ℕ) (then : Script) → a + length bs ≤ 16777215 → length bs ≤ 128
    → program_then a bs then
    ≡ onward (eqb (length bs % 4) 0)
    (onward (ltb 256 (a % 256 + length bs)) (refused CrossesPageBoundary) (call.working 6 ProgrammingErrorBitSet (programming a bs) then))
    (refused NotAligned)
chunk_rules a bs then h g = rw (le-ltb 16777215 (a + length bs) h, le-ltb 240 (length bs) (omega arith))

-- 1 and 3 never come from a chunk: only 4, then 5
pub only_four_and_five : (a : ℕ) (bs : List ℕ) (c : Chunk) (then : Script) → a + length bs ≤ 16777215 → Among c (chunks a bs)
    → program_then c.address c.bytes then
    ≡ onward (eqb (length c.bytes % 4) 0)
    (onward (ltb 256 (c.address % 256 + length c.bytes)) (refused CrossesPageBoundary) (call.working 6 ProgrammingErrorBitSet (programming c.address c.bytes) then))
    (refused NotAligned)
unfolding chunks
only_four_and_five a bs c then h q = let w = within (length bs) a bs c q in chunk_rules c.address c.bytes then (omega (arith, w.0)) w.1

full_before : (f a : ℕ) (bs : List ℕ) (c : Chunk) → NotLast c (chunks_in f a bs) → length c.bytes ≡ 128
unfolding chunks_in
full_before zero a bs c q = absurd (omega (arith, some_before q))
full_before (suc f) a [] c q = absurd (omega (arith, some_before q))
full_before (suc f) a (b ∷ bs) c (later q) = full_before f (a + 128) (drop 128 (b ∷ bs)) c q
full_before (suc f) a (b ∷ bs) c (next h) = go (drop 128 (b ∷ bs)) refl h
  where
    go : (r : List ℕ) → drop 128 (b ∷ bs) ≡ r → 0 < length (chunks_in f (a + 128) r) → length (take 128 (b ∷ bs)) ≡ 128
    go [] e h = absurd (let z : 0 < length {A = Chunk} [] = rw (chunks_nil f (a + 128)) at h in omega (arith, z))
    go (x ∷ r) e h = let m : length (drop 128 (b ∷ bs)) ≡ length (x ∷ r) = ap length e in omega (arith, m, length-drop 128 (b ∷ bs), length-take 128 (b ∷ bs))

-- 4 comes only from the last chunk: every other has 128 bytes
pub four_at_the_last : (a : ℕ) (bs : List ℕ) (c : Chunk) → NotLast c (chunks a bs) → length c.bytes ≡ 128
unfolding chunks
four_at_the_last a bs c q = full_before (length bs) a bs c q

-- no data: done without an access, where the address is in range, else 1
pub empty_done : (a : ℕ) → a ≤ 16777215 → write_pages a [] ≡ ends Done []
unfolding chunks chunks_in
empty_done a h = rw (le-ltb 16777215 (a + 0) (omega arith))

pub empty_refused : (a : ℕ) → 16777215 < a → write_pages a [] ≡ refused OutOfRange
empty_refused a h = rw (lt-ltb 16777215 (a + 0) (omega arith))

-- ---- the tie

module _ (a : ℕ) (bytes log : List ℕ) (range : a + length bytes ≤ 16777215) where
  abbrev job : Job
  job = start.paging_job a (length bytes) (length log)

  -- the chunk after d bytes
  abbrev chunk : ℕ → List ℕ
  chunk d = take 128 (drop d bytes)

  abbrev rest : ℕ → ℕ → Script
  rest f d = pages (chunks_in f (a + d + 128) (drop 128 (drop d bytes)))

  data Page : ℕ → ℕ → Transfer → Script → Type 0 where
    page : (f : ℕ) {d : ℕ} → d < length bytes → length bytes ≤ d + suc f → length (chunk d) % 4 ≡ 0
        → Page d (page_chunk (length bytes) d) (programming (a + d) (chunk d)) (counts (length (chunk d)) (rest f d))

  abbrev Paging : Stages
  Paging = Working stage.Program false sequel.Pages ProgrammingErrorBitSet 6 a bytes log Page

  abbrev at : Stage → ℕ → ℕ → Place
  at s d n = record { stage = s; done = d; chunk = n; sr = 0; cr = 0 }

  chunk_length : (d : ℕ) → length (chunk d) ≡ page_chunk (length bytes) d
  chunk_length d = omega (arith, length-take 128 (drop d bytes), length-drop d bytes)

  page_same : (d n : ℕ) (x : Transfer) (then : Script) → Page d n x then → Same (frame_at stage.Program job n) x
  page_same d n x then (page f₀ h g e) =
      let l = chunk_length d in
      let m = length_words (chunk d) e in
      record { port = refl; further = all_prefilled (page_chunk (length bytes) d) (omega arith) ∙ omega (arith, l, m); bytes = omega (arith, l, e); few = omega (arith, l); twice = refl }

  -- a byte of the chunk among the bytes lent
  page_byte : (d i : ℕ) → i < length (chunk d) → get_or (chunk d) i 0 ≡ get_or bytes (d + i) 0
  page_byte d i h = get_or-take 128 (drop d bytes) i 0 (omega (arith, chunk_length d)) ∙ get_or-drop d bytes i 0

  page_word : (d n : ℕ) (x : Transfer) (then : Script) → Page d n x then → (i : ℕ) → i < length (words x) → due_word job (at stage.Program d n) i bytes ≡ get_or (words x) i 0
  page_word d n x then (page f₀ h g e) zero l =
      let f : (a + d % 2 ^ 32) % 2 ^ 32 ≡ a + d = omega arith in
      rw f
  page_word d n x then (page f₀ h g e) (suc j) l =
      let f : suc j - 1 ≡ j = omega arith in
      let z : eqb (suc j) 0 ≡ false = ne_eqb (suc j) 0 (λ y. omega arith) in
      let m = chunk_length d in
      rw (z, f) (data_word_lem bytes (chunk d) d j (omega (arith, m)) (omega (arith, m)) (page_byte d) e (omega arith))

  -- the next chunk, what it is refused for, or the end
  page_turn : (f d : ℕ) (s : Stage) (n : ℕ) (w : Wire) → d ≤ length bytes → length bytes ≤ d + f → Turns job bytes [] Paging (next_page job (at s d n)) w d (pages (chunks_in f (a + d) (drop d bytes)))
  page_turn f d s n w h g = go f g (ltb d (length bytes)) refl
    where
      decide : (f : ℕ) → d < length bytes → length bytes ≤ d + suc f → (b₁ b₂ : Bool) → eqb (length (chunk d) % 4) 0 ≡ b₁
          → Turns job bytes [] Paging (pick b₁ (pick b₂ (finish (at stage.Enable d (page_chunk (length bytes) d)) CrossesPageBoundary) (begin (at stage.Enable d (page_chunk (length bytes) d)) stage.Enable)) (finish (at stage.Enable d (page_chunk (length bytes) d)) NotAligned)) w d
          (onward b₁ (onward b₂ (refused CrossesPageBoundary) (call.working 6 ProgrammingErrorBitSet (programming (a + d) (chunk d)) (counts (length (chunk d)) (rest f d)))) (refused NotAligned))
      decide f l m true false e = on refl refl (settle_enable (page f l m (eqb-true (length (chunk d) % 4) 0 e)))
      decide f l m true true e = over refl refl refl refl
      decide f l m false b e = over refl refl refl refl

      go : (f : ℕ) → length bytes ≤ d + f → (b : Bool) → ltb d (length bytes) ≡ b → Turns job bytes [] Paging (next_page job (at s d n)) w d (pages (chunks_in f (a + d) (drop d bytes)))
      go f g false e =
          let l = ltb-false d (length bytes) e in
          let z : eqb (page_chunk (length bytes) d) 0 ≡ true = eq-eqb (page_chunk (length bytes) d) 0 (omega arith) in
          rw (z, drop_of_length-le bytes {i = d} l, chunks_nil f (a + d)) (over refl refl refl refl)
      go zero g true e = absurd (omega (arith, ltb-true d (length bytes) e))
      go (suc f) g true e =
          let l = ltb-true d (length bytes) e in
          let m = chunk_length d in
          let z : eqb (page_chunk (length bytes) d) 0 ≡ false = ne_eqb (page_chunk (length bytes) d) 0 (λ y. omega arith) in
          let k = chunks_cons f (a + d) (drop d bytes) (omega (arith, length-drop d bytes)) in
          let p = chunk_rules (a + d) (chunk d) (counts (length (chunk d)) (rest f d)) (omega (arith, m)) (omega (arith, m)) in
          let y₁ : eqb (page_chunk (length bytes) d % 4) 0 ≡ eqb (length (chunk d) % 4) 0 = ap (λ (v : ℕ). eqb (v % 4) 0) (sym m) in
          let y₂ : (a + d % 2 ^ 32) % 2 ^ 32 % 256 + page_chunk (length bytes) d ≡ (a + d) % 256 + length (chunk d) = omega (arith, m) in
          rw (k, z, y₁, y₂, p) (decide f l g (eqb (length (chunk d) % 4) 0) (ltb 256 ((a + d) % 256 + length (chunk d))) refl)

  -- after a chunk the rest of the chunks
  rest_chunks : (f d : ℕ) → d < length bytes → chunks_in f (a + d + 128) (drop 128 (drop d bytes)) ≡ chunks_in f (a + (d + length (chunk d))) (drop (d + length (chunk d)) bytes)
  rest_chunks f d h = go (ltb (length bytes - d) 128) refl
    where
      go : (b : Bool) → ltb (length bytes - d) 128 ≡ b → chunks_in f (a + d + 128) (drop 128 (drop d bytes)) ≡ chunks_in f (a + (d + length (chunk d))) (drop (d + length (chunk d)) bytes)
      go false e =
          let m : length (chunk d) ≡ 128 = omega (arith, chunk_length d, ltb-false (length bytes - d) 128 e) in
          let p : a + d + 128 ≡ a + (d + 128) = omega arith in
          rw (m, p, drop-drop 128 d bytes)
      go true e =
          let m : length (chunk d) ≡ length bytes - d = omega (arith, chunk_length d, ltb-true (length bytes - d) 128 e) in
          let l₁ : drop 128 (drop d bytes) ≡ [] = drop_of_length-le (drop d bytes) {i = 128} (omega (arith, length-drop d bytes, ltb-true (length bytes - d) 128 e)) in
          let l₂ : drop (d + length (chunk d)) bytes ≡ [] = drop_of_length-le bytes {i = d + length (chunk d)} (omega (arith, m)) in
          rw (l₁, l₂, chunks_nil f (a + d + 128), chunks_nil f (a + (d + length (chunk d))))

  page_clean : (d n : ℕ) (x : Transfer) (then : Script) (w : Wire) → Page d n x then → Turns job bytes [] Paging (settled job (at stage.Poll d n)) w d then
  page_clean d n x then w (page f h g e) =
      let m = chunk_length d in
      let p : (d + page_chunk (length bytes) d) % 2 ^ 64 ≡ d + length (chunk d) = omega (arith, m) in
      let q = page_turn f (d + length (chunk d)) stage.Poll (page_chunk (length bytes) d) w (omega (arith, m)) (omega (arith, m)) in
      let t : Turns job bytes [] Paging (settled job (at stage.Poll d (page_chunk (length bytes) d))) w (d + length (chunk d)) (rest f d) = rw (p, rest_chunks f d h) q in
      more t

  page_scripted : Scripted job bytes [] Paging
  page_scripted = working_scripted stage.Program false sequel.Pages ProgrammingErrorBitSet 6 a bytes log Page refl (λ d n r. refl) page_same page_word page_clean refl refl (λ st. refl)

  pages_start : Starts (start.opened job (next_page job (start.place_at stage.Enable 0 0 0))) bytes log [] (pages (chunks a bytes))
  unfolding chunks
  pages_start =
      let e : chunks_in (length bytes) (a + 0) bytes ≡ chunks_in (length bytes) a bytes = ap (λ (z : ℕ). chunks_in (length bytes) z bytes) (let z : a + 0 ≡ a = omega arith in z) in
      let q = page_turn (length bytes) 0 stage.Enable 0 (fresh_wire phase.DrainStatus) (omega arith) (omega arith) in
      opens job bytes log Paging page_scripted (next_page job (start.place_at stage.Enable 0 0 0)) (pages (chunks_in (length bytes) a bytes)) (rw e at q) refl refl refl

pub write_pages_lem : (a : ℕ) (bytes log : List ℕ) → Starts (start.write_pages_of a (length bytes) (length log)) bytes log [] (write_pages a bytes)
write_pages_lem a bytes log =
    either bytes log (ltb 16777215 (a + length bytes)) (λ e. ended_at_start (start.paging_job a (length bytes) (length log)) bytes log [] OutOfRange refl (λ w. refl) refl refl refl)
    (λ e. pages_start a bytes log (ltb-false 16777215 (a + length bytes) e))
