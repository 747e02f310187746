-- "A read byte changes only at the step that takes its reply": of every operation, whatever it is lent. Assumes nothing.
use Rattle.std.proofs.Common.{◌≡◌, ℕ, ◌+◌, ◌-◌, ◌/◌, ◌%◌, ◌^◌, ◌<◌, ◌≤◌, Bool, true, false, eqb, ltb, leb, ◌⊎◌, List, length, get_or, set, sym, refl, ap, ◌∙◌, inl, inr, arith, get_or-set_other, get_or-set_same, ltb-false, ltb-true, eqb-true, leb-true}
use lib.Seq.{set_out}
use borrow.Author.Tests.{eqb-false}
use Rattle.zedboard_bsp.specs.Words.{bytes_of}
use Rattle.qspi_transfer.specs.declared.Due.{Due}
use Rattle.qspi_transfer.specs.declared.Due.TheVariants as due
use Rattle.qspi_transfer.specs.declared.Phase.{Phase}
use Rattle.qspi_transfer.specs.declared.Phase.TheVariants.{DrainStatus, DrainData, OpenRead, OpenWrite, Enable, Send, StartRead, StartWrite, Wait, WaitAgain, Take, CloseRead, CloseWrite, Disable, Registers}
use Rattle.qspi_script.specs.declared.Stage.{Stage}
use Rattle.qspi_script.specs.declared.Stage.TheVariants as stage
use Rattle.qspi_script.specs.declared.Place.{Place}
use Rattle.qspi_operation.specs.declared.Op.{Op}
use Rattle.std.specs.Prelude.{Option, Some, None}
use Rattle.qspi_operation.specs.Step.{Ended, Changed, Full}
use Rattle.qspi_operation.specs.Store.{when, store_byte, store_reply, is_taking, is_reading, skipped, stored}
use Rattle.qspi_operation.specs.Step.{is_going, access_of, answered, choose, same_lengths, taken, buffer_of}
use Rattle.qspi_operation.proofs.Verdicts.{no}

-- ---- one byte, one reply

-- byte i of a buffer is, afterwards, the one that a byte of the replies brings: its place among those after the first reply, the dummy byte skipped, is within the chunk
pub record Brought (p : Place) (dummy at : ℕ) (i : ℕ) : Type 0 where
  pub past : dummy ≤ at
  pub within : at - dummy < p.chunk
  pub place : i ≡ (p.done + (at - dummy)) % 2 ^ 64

byte_changes : (buffer : List ℕ) (p : Place) (dummy at b i : ℕ) → (get_or (store_byte buffer p dummy at b) i 0 ≡ get_or buffer i 0) ⊎ (Brought p dummy at i × (get_or (store_byte buffer p dummy at b) i 0 ≡ b))
byte_changes buffer p dummy at b i = go (leb dummy at) refl (ltb (at - dummy) p.chunk) refl (eqb i n) refl (ltb n (length buffer)) refl
  where
    n : ℕ
    n = (p.done + (at - dummy)) % 2 ^ 64

    go : (x : Bool) → leb dummy at ≡ x → (y : Bool) → ltb (at - dummy) p.chunk ≡ y → (e : Bool) → eqb i n ≡ e → (l : Bool) → ltb n (length buffer) ≡ l
        → (get_or (when x (when y (set buffer n b) buffer) buffer) i 0 ≡ get_or buffer i 0) ⊎ (Brought p dummy at i × (get_or (when x (when y (set buffer n b) buffer) buffer) i 0 ≡ b))
    go false f y g e h l k = inl refl
    go true f false g e h l k = inl refl
    go true f true g false h l k = inl (get_or-set_other buffer n i b 0 (eqb-false i n h))
    go true f true g true h false k = inl (ap (λ (z : List ℕ). get_or z i 0) (set_out buffer n b (ltb-false n (length buffer) k)))
    go true f true g true h true k =
        inr (
          record { past = leb-true dummy at f; within = ltb-true (at - dummy) p.chunk g; place = eqb-true i n h },
          ap (λ (z : ℕ). get_or (set buffer n b) z 0) (eqb-true i n h) ∙ get_or-set_same buffer n b 0 (ltb-true n (length buffer) k),
        )

-- which byte of the reply it is
pub record ByteOf (p : Place) (dummy at : ℕ) (w i b : ℕ) : Type 0 where
  pub byte : ℕ
  pub few : byte < 4
  pub brought : Brought p dummy (at + byte) i
  pub value : b ≡ get_or (bytes_of w) byte 0

reply_changes : (buffer : List ℕ) (p : Place) (dummy at w i : ℕ) → (get_or (store_reply buffer p dummy at w) i 0 ≡ get_or buffer i 0) ⊎ ByteOf p dummy at w i (get_or (store_reply buffer p dummy at w) i 0)
reply_changes buffer p dummy at w i =
    go (byte_changes buffer p dummy at (w % 256) i) (byte_changes one p dummy (at + 1) (w / 256 % 256) i) (byte_changes two p dummy (at + 2) (w / 65536 % 256) i) (byte_changes three p dummy (at + 3) (w / 16777216 % 256) i)
  where
    one : List ℕ
    one = store_byte buffer p dummy at (w % 256)

    two : List ℕ
    two = store_byte one p dummy (at + 1) (w / 256 % 256)

    three : List ℕ
    three = store_byte two p dummy (at + 2) (w / 65536 % 256)

    four : List ℕ
    four = store_byte three p dummy (at + 3) (w / 16777216 % 256)

    zeroth : at ≡ at + 0
    zeroth = omega arith

    go : (get_or one i 0 ≡ get_or buffer i 0) ⊎ (Brought p dummy at i × (get_or one i 0 ≡ w % 256)) → (get_or two i 0 ≡ get_or one i 0) ⊎ (Brought p dummy (at + 1) i × (get_or two i 0 ≡ w / 256 % 256))
        → (get_or three i 0 ≡ get_or two i 0) ⊎ (Brought p dummy (at + 2) i × (get_or three i 0 ≡ w / 65536 % 256)) → (get_or four i 0 ≡ get_or three i 0) ⊎ (Brought p dummy (at + 3) i × (get_or four i 0 ≡ w / 16777216 % 256))
        → (get_or four i 0 ≡ get_or buffer i 0) ⊎ ByteOf p dummy at w i (get_or four i 0)
    go a b c (inr d) = inr (record { byte = 3; few = omega arith; brought = d.0; value = d.1 })
    go a b (inr c) (inl d) = inr (record { byte = 2; few = omega arith; brought = c.0; value = d ∙ c.1 })
    go a (inr b) (inl c) (inl d) = inr (record { byte = 1; few = omega arith; brought = b.0; value = d ∙ (c ∙ b.1) })
    go (inr a) (inl b) (inl c) (inl d) = inr (record { byte = 0; few = omega arith; brought = ap-brought a.0; value = d ∙ (c ∙ (b ∙ a.1)) })
      where
        ap-brought : Brought p dummy at i → Brought p dummy (at + 0) i
        ap-brought h = rw (← zeroth) h
    go (inl a) (inl b) (inl c) (inl d) = inl (d ∙ (c ∙ (b ∙ a)))

-- ---- a step

taking : (p : Phase) → is_taking p ≡ true → p ≡ Take
taking DrainStatus e = no e
taking DrainData e = no e
taking OpenRead e = no e
taking OpenWrite e = no e
taking Enable e = no e
taking Send e = no e
taking StartRead e = no e
taking StartWrite e = no e
taking Wait e = no e
taking WaitAgain e = no e
taking Take e = refl
taking CloseRead e = no e
taking CloseWrite e = no e
taking Disable e = no e
taking Registers e = no e

reading : (s : Stage) → is_reading s ≡ true → s ≡ stage.Read
reading stage.Enable e = no e
reading stage.Disable e = no e
reading stage.Clear e = no e
reading stage.ReadStatus e = no e
reading stage.ReadConfig e = no e
reading stage.WriteStatus e = no e
reading stage.WriteRegisters e = no e
reading stage.ReadId e = no e
reading stage.ReadLongId e = no e
reading stage.Erase e = no e
reading stage.Program e = no e
reading stage.Poll e = no e
reading stage.Read e = refl
reading stage.Registers e = no e
reading stage.End e = no e

-- the operation is about to take a reply of a read, not the first of its transfer, and byte i is one that this word brings
pub record AtTake (o : Op) (word i b : ℕ) : Type 0 where
  pub phase : o.wire.phase ≡ Take
  pub stage : o.place.stage ≡ stage.Read
  pub index : 4 ≤ o.wire.read_index
  pub byte : ByteOf o.place (skipped o.job.reading.dummy) (o.wire.read_index - 4) word i b

-- the step is handed that word, for a read of RX data
pub record Takes (o : Op) (bytes : List ℕ) (r : Option ℕ) (i b : ℕ) : Type 0 where
  pub word : ℕ
  pub reply : r ≡ Some word
  pub due : access_of o.job o.place o.wire bytes ≡ due.Read 0x20
  pub at : AtTake o word i b

module _ (o : Op) (bytes buffer : List ℕ) (room : ℕ) (r : Option ℕ) (i : ℕ) where
  -- what an access of value v leaves at i
  access_changes : (v : ℕ) → (get_or (stored o.job o.place o.wire v buffer) i 0 ≡ get_or buffer i 0) ⊎ AtTake o v i (get_or (stored o.job o.place o.wire v buffer) i 0)
  access_changes v = go (is_taking o.wire.phase) refl (is_reading o.place.stage) refl (leb 4 o.wire.read_index) refl
    where
      new : List ℕ
      new = store_reply buffer o.place (skipped o.job.reading.dummy) (o.wire.read_index - 4) v

      go : (x : Bool) → is_taking o.wire.phase ≡ x → (y : Bool) → is_reading o.place.stage ≡ y → (z : Bool) → leb 4 o.wire.read_index ≡ z
          → (get_or (when x (when y (when z new buffer) buffer) buffer) i 0 ≡ get_or buffer i 0) ⊎ AtTake o v i (get_or (when x (when y (when z new buffer) buffer) buffer) i 0)
      go false e y f z g = inl refl
      go true e false f z g = inl refl
      go true e true f false g = inl refl
      go true e true f true g = by (reply_changes buffer o.place (skipped o.job.reading.dummy) (o.wire.read_index - 4) v i)
        where
          by : (get_or new i 0 ≡ get_or buffer i 0) ⊎ ByteOf o.place (skipped o.job.reading.dummy) (o.wire.read_index - 4) v i (get_or new i 0)
              → (get_or new i 0 ≡ get_or buffer i 0) ⊎ AtTake o v i (get_or new i 0)
          by (inl k) = inl k
          by (inr k) = inr (record { phase = taking o.wire.phase e; stage = reading o.place.stage f; index = leb-true 4 o.wire.read_index g; byte = k })

  -- at Take the access due is a read of RX data
  due_taking : o.wire.phase ≡ Take → access_of o.job o.place o.wire bytes ≡ due.Read 0x20
  due_taking e = rw e

  -- THEOREM. A step leaves each byte of the buffer as it was, but for those that the reply which it takes brings: where byte i is another one afterwards, it is such a byte.
  pub changes_taken : (get_or (buffer_of o bytes buffer room r) i 0 ≡ get_or buffer i 0 → ⊥) → Takes o bytes r i (get_or (buffer_of o bytes buffer room r) i 0)
  changes_taken n = go (is_going o.status) (same_lengths o.job (length bytes) (length buffer) room) (leb (o.used + 2) room) (access_of o.job o.place o.wire bytes) refl r refl n
    where
      go : (g l f : Bool) (w : Due) → access_of o.job o.place o.wire bytes ≡ w → (q : Option ℕ) → r ≡ q
          → (get_or (taken (choose g (choose l (choose f (answered w q) Full) Changed) Ended) o buffer) i 0 ≡ get_or buffer i 0 → ⊥) → Takes o bytes r i (get_or (taken (choose g (choose l (choose f (answered w q) Full) Changed) Ended) o buffer) i 0)
      go false l f w e q h m = absurd (m refl)
      go true false f w e q h m = absurd (m refl)
      go true true false w e q h m = absurd (m refl)
      go true true true (due.Read k) e None h m = absurd (m refl)
      go true true true (due.Read k) e (Some v) h m = by (access_changes v)
        where
          by : (get_or (stored o.job o.place o.wire v buffer) i 0 ≡ get_or buffer i 0) ⊎ AtTake o v i (get_or (stored o.job o.place o.wire v buffer) i 0)
              → Takes o bytes r i (get_or (stored o.job o.place o.wire v buffer) i 0)
          by (inl c) = absurd (m c)
          by (inr c) = record { word = v; reply = h; due = due_taking c.phase; at = c }
      go true true true (due.Write k v) e q h m = absurd (by (access_changes v))
        where
          by : (get_or (stored o.job o.place o.wire v buffer) i 0 ≡ get_or buffer i 0) ⊎ AtTake o v i (get_or (stored o.job o.place o.wire v buffer) i 0)
              → ⊥
          by (inl c) = m c
          by (inr c) = let d : due.Read 0x20 ≡ due.Write k v = sym (due_taking c.phase) ∙ e in let z : ◌≡◌ {A = ℕ} 0 1 = cc in omega (arith, z)
