-- One transfer by its counters is the transfer over lists: the same access is due, and every access keeps the two together. Assumes
-- nothing.
use mathlib.Core.Path.{◌≡◌, refl, ◌∙◌, sym}
use mathlib.Core.Bool.{Bool, true, false, cond}
use mathlib.Core.List.{List, [], ◌∷◌, ◌++◌, map, reverse}
use Prim.Native.Nat.{ℕ, zero, suc, ◌+◌, ◌*◌, ◌%◌, ◌^◌, ◌≤◌, ◌<◌}
use native.Mathlib.Omega.{arith}
use lib.Dec.{ltb}
use lib.ListN.{length, get_or, drop, drop_of_length-le}
use lib.Seq.{drop-cons}
use borrow.Author.Tests.{ltb-true, ltb-false, lt-ltb, le-ltb}
use Rattle.qspi_transfer.specs.LowLevel.{chip_select_high, chip_select_low, started}
use Rattle.qspi_transfer.specs.Wire.{choose, waits, at_phase, pick_wire, another_sent, word_sent, reply_taken, wire_next}
use Rattle.qspi_transfer.specs.declared.Frame.{Frame}
use Rattle.std.specs.Prelude.{Option, Some, None}
use Rattle.qspi_transfer.specs.declared.Phase.{Phase}
use Rattle.qspi_transfer.specs.declared.Phase.TheVariants.{DrainStatus, DrainData, OpenRead, OpenWrite, Enable, Send, StartRead, StartWrite, Wait, WaitAgain, Take, CloseRead, CloseWrite, Disable}
use Rattle.qspi_transfer.specs.declared.Wire.{Wire}
use Rattle.qspi_script.specs.Stages.{frame_of, due_word}
use Rattle.qspi_script.specs.declared.Job.{Job}
use Rattle.qspi_script.specs.declared.Place.{Place}
use Rattle.qspi_operation.specs.Step.{access_of}
use Rattle.qspi_operation.specs.Machine.{Action, write, modify, drain, reply, Midway, first, full, changed, again, ready, want_at, stays, over, progress, Transfer, replicate, closing, replying, opening, Script, State, going, moves, proceed, begin}
use Rattle.qspi_calls.proofs.Tied.{asked}

abbrev pub wire : Phase → ℕ → ℕ → ℕ → List ℕ → Wire
wire p c i b taken = record { phase = p; config = c; sent = i; read_index = b; older = get_or taken 2 0; old = get_or taken 1 0; last = get_or taken 0 0 }

abbrev pub words : Transfer → List ℕ
words x = x.command ∷ x.further

-- the counts of a transfer and its lists agree
pub record Same (f : Frame) (x : Transfer) : Type 0 where
  pub port : f.port ≡ x.port
  pub further : f.words ≡ length x.further
  pub bytes : f.bytes ≡ 4 * x.replies
  pub few : x.replies < 100
  pub twice : f.twice ≡ x.twice

-- a transfer by counters, and the same over lists
pub data AtPhase (x : Transfer) : Wire → Midway → Action → List Action → List ℕ → Type 0 where
  p_drain : {c : ℕ} → AtPhase x (wire DrainStatus c 0 0 []) first drain (opening x) []
  p_data : {c : ℕ} → AtPhase x (wire DrainData c 0 0 []) full drain (opening x) []
  p_open : {c : ℕ} → AtPhase x (wire OpenRead c 0 0 []) first (modify chip_select_low) (write 0x14 1 ∷ map (write x.port) (words x) ++ replying x) []
  p_opens : {v : ℕ} → AtPhase x (wire OpenWrite v 0 0 []) (changed (chip_select_low v)) (modify chip_select_low) (write 0x14 1 ∷ map (write x.port) (words x) ++ replying x) []
  p_enable : {c : ℕ} → AtPhase x (wire Enable c 0 0 []) first (write 0x14 1) (map (write x.port) (words x) ++ replying x) []
  p_send : {c i : ℕ} → i < length (words x) → AtPhase x (wire Send c i 0 []) first (write x.port (get_or (words x) i 0)) (map (write x.port) (drop (suc i) (words x)) ++ replying x) []
  p_start : {c i : ℕ} → AtPhase x (wire StartRead c i 0 []) first (modify started) (replicate x.replies (reply x.twice) ++ closing) []
  p_starts : {v i : ℕ} → AtPhase x (wire StartWrite v i 0 []) (changed (started v)) (modify started) (replicate x.replies (reply x.twice) ++ closing) []
  p_wait : {c i b : ℕ} (k : ℕ) {taken : List ℕ} → b ≡ 4 * length taken → length taken + suc k ≡ x.replies → AtPhase x (wire Wait c i b taken) first (reply x.twice) (replicate k (reply x.twice) ++ closing) taken
  p_again : {c i b : ℕ} (k : ℕ) {taken : List ℕ} → b ≡ 4 * length taken → length taken + suc k ≡ x.replies → AtPhase x (wire WaitAgain c i b taken) again (reply x.twice) (replicate k (reply x.twice) ++ closing) taken
  p_take : {c i b : ℕ} (k : ℕ) {taken : List ℕ} → b ≡ 4 * length taken → length taken + suc k ≡ x.replies → AtPhase x (wire Take c i b taken) ready (reply x.twice) (replicate k (reply x.twice) ++ closing) taken
  p_close : {c i b : ℕ} {taken : List ℕ} → length taken ≡ x.replies → AtPhase x (wire CloseRead c i b taken) first (modify chip_select_high) (write 0x14 0 ∷ []) taken
  p_closes : {v i b : ℕ} {taken : List ℕ} → length taken ≡ x.replies → AtPhase x (wire CloseWrite v i b taken) (changed (chip_select_high v)) (modify chip_select_high) (write 0x14 0 ∷ []) taken
  p_end : {c i b : ℕ} {taken : List ℕ} → length taken ≡ x.replies → AtPhase x (wire Disable c i b taken) first (write 0x14 0) [] taken

-- the same access is due, where the words agree
pub due_same : (job : Job) (p : Place) (bytes : List ℕ) {x : Transfer} {w : Wire} {m : Midway} {a : Action} {l : List Action} {taken : List ℕ} → Same (frame_of job p) x
    → ((i : ℕ) → i < length (words x) → due_word job p i bytes ≡ get_or (words x) i 0) → AtPhase x w m a l taken → access_of job p w bytes ≡ asked (want_at m a)
due_same job p bytes s h p_drain = refl
due_same job p bytes s h p_data = refl
due_same job p bytes s h p_open = refl
due_same job p bytes s h p_opens = refl
due_same job p bytes s h p_enable = refl
due_same job p bytes s h (p_send {i = i} l) = rw (s.port, h i l)
due_same job p bytes s h p_start = refl
due_same job p bytes s h p_starts = refl
due_same job p bytes s h (p_wait j e f) = refl
due_same job p bytes s h (p_again j e f) = refl
due_same job p bytes s h (p_take j e f) = refl
due_same job p bytes s h (p_close e) = refl
due_same job p bytes s h (p_closes e) = refl
due_same job p bytes s h (p_end e) = refl

-- what an access of value v does to a transfer
pub data Goes (x : Transfer) (brings : List ℕ → List ℕ) (k : List ℕ → Script) (bs : List ℕ) (n₀ : ℕ) (u : Wire) (taken : List ℕ) : State → Option Wire → Type 0 where
  goes_on : {w : Wire} {m : Midway} {a : Action} {l : List Action} {taken' : List ℕ} → AtPhase x w m a l taken' → Goes x brings k bs n₀ u taken (going m a l taken' brings k bs n₀) (Some w)
  goes_over : (c i b : ℕ) → u ≡ wire Disable c i b taken → length taken ≡ x.replies → Goes x brings k bs n₀ u taken (begin (k (reverse taken)) (bs ++ brings (reverse taken)) n₀) None

module _ (x : Transfer) (brings : List ℕ → List ℕ) (k : List ℕ → Script) (bs : List ℕ) (n₀ : ℕ) (u : Wire) where
  drained : (b : Bool) (c : ℕ) → Goes x brings k bs n₀ u [] (moves (cond b (stays full) over) drain (opening x) [] brings k bs n₀) (Some (wire (choose b DrainData OpenRead) c 0 0 []))
  drained true c = goes_on p_data
  drained false c = goes_on p_open

  polled : (b t : Bool) (c i n j : ℕ) (taken : List ℕ) → t ≡ x.twice → n ≡ 4 * length taken → length taken + suc j ≡ x.replies
      → Goes x brings k bs n₀ u taken (moves (cond b (stays (cond x.twice again ready)) (stays first)) (reply x.twice) (replicate j (reply x.twice) ++ closing) taken brings k bs n₀) (Some (wire (choose b (choose t WaitAgain Take) Wait) c i n taken))
  polled false t c i n j taken e f g = goes_on (p_wait j f g)
  polled true t c i n j taken e f g = rw e (go x.twice refl)
    where
      go : (y : Bool) → x.twice ≡ y → Goes x brings k bs n₀ u taken (going (cond y again ready) (reply x.twice) (replicate j (reply x.twice) ++ closing) taken brings k bs n₀) (Some (wire (choose y WaitAgain Take) c i n taken))
      go true z = goes_on (p_again j f g)
      go false z = goes_on (p_take j f g)

  polled_again_lem : (b : Bool) (c i n j : ℕ) (taken : List ℕ) → n ≡ 4 * length taken → length taken + suc j ≡ x.replies
      → Goes x brings k bs n₀ u taken (moves (cond b (stays ready) (stays first)) (reply x.twice) (replicate j (reply x.twice) ++ closing) taken brings k bs n₀) (Some (wire (choose b Take Wait) c i n taken))
  polled_again_lem true c i n j taken f g = goes_on (p_take j f g)
  polled_again_lem false c i n j taken f g = goes_on (p_wait j f g)

  sent_one : (f : Frame) (c i : ℕ) → Same f x → i < length (words x)
      → Goes x brings k bs n₀ u [] (proceed (map (write x.port) (drop (suc i) (words x)) ++ replying x) [] brings k bs n₀) (Some (word_sent (wire Send c i 0 []) f))
  sent_one f c i s h = go (ltb i f.words) refl
    where
      go : (b : Bool) → ltb i f.words ≡ b → Goes x brings k bs n₀ u [] (proceed (map (write x.port) (drop (suc i) (words x)) ++ replying x) [] brings k bs n₀) (Some (pick_wire b (another_sent (wire Send c i 0 [])) (at_phase (wire Send c i 0 []) StartRead)))
      go true e =
          let l : suc i < length (words x) = omega (arith, ltb-true i f.words e, s.further) in
          let n : i + 1 ≡ suc i = omega arith in
          rw (drop-cons (words x) (suc i) 0 l, n) (goes_on (p_send l))
      go false e =
          let l : length x.further ≤ i = omega (arith, ltb-false i f.words e, s.further) in
          rw (drop_of_length-le x.further {i = i} l) (goes_on p_start)

  took_one : (f : Frame) (c i b j v : ℕ) (taken : List ℕ) → Same f x → b ≡ 4 * length taken → length taken + suc j ≡ x.replies
      → Goes x brings k bs n₀ u taken (proceed (replicate j (reply x.twice) ++ closing) (v ∷ taken) brings k bs n₀) (Some (reply_taken (wire Take c i b taken) f v))
  took_one f c i b zero v taken s e g =
      let m : (b + 4) % 2 ^ 32 ≡ b + 4 = omega (arith, s.few) in
      let n : ltb (b + 4) f.bytes ≡ false = le-ltb (b + 4) f.bytes (omega (arith, s.bytes)) in
      let q : length (v ∷ taken) ≡ x.replies = omega arith in
      rw (m, n) (goes_on (p_close q))
  took_one f c i b (suc j) v taken s e g =
      let m : (b + 4) % 2 ^ 32 ≡ b + 4 = omega (arith, s.few) in
      let n : ltb (b + 4) f.bytes ≡ true = lt-ltb (b + 4) f.bytes (omega (arith, s.bytes)) in
      let o : b + 4 ≡ 4 * length (v ∷ taken) = omega arith in
      let q : length (v ∷ taken) + suc j ≡ x.replies = omega arith in
      rw (m, n) (goes_on (p_wait j o q))

  begun : (f : Frame) (c i : ℕ) → Same f x
      → Goes x brings k bs n₀ u [] (proceed (replicate x.replies (reply x.twice) ++ closing) [] brings k bs n₀) (Some (wire (choose (ltb 0 f.bytes) Wait CloseRead) c i 0 []))
  begun f c i s = go x.replies refl
    where
      go : (n : ℕ) → x.replies ≡ n → Goes x brings k bs n₀ u [] (proceed (replicate n (reply x.twice) ++ closing) [] brings k bs n₀) (Some (wire (choose (ltb 0 f.bytes) Wait CloseRead) c i 0 []))
      go zero e =
          let n : ltb 0 f.bytes ≡ false = le-ltb 0 f.bytes (omega (arith, s.bytes)) in
          rw n (goes_on (p_close (sym e)))
      go (suc n) e =
          let z : length {A = ℕ} [] + suc n ≡ suc n = omega arith in
          let m : ltb 0 f.bytes ≡ true = lt-ltb 0 f.bytes (omega (arith, s.bytes)) in
          rw m (goes_on (p_wait n {taken = []} refl (z ∙ sym e)))

module _ (x : Transfer) (brings : List ℕ → List ℕ) (k : List ℕ → Script) (bs : List ℕ) (n₀ : ℕ) where
  pub wire_same : (f : Frame) {w : Wire} {m : Midway} {a : Action} {l : List Action} {taken : List ℕ} (v : ℕ) → Same f x → AtPhase x w m a l taken
      → Goes x brings k bs n₀ w taken (moves (progress m a v) a l taken brings k bs n₀) (wire_next w f v)
  wire_same f {w} v s (p_drain {c}) = drained x brings k bs n₀ w (waits v) c
  wire_same f v s p_data = goes_on p_drain
  wire_same f v s p_open = goes_on p_opens
  wire_same f v s p_opens = goes_on p_enable
  wire_same f v s p_enable = goes_on (p_send {i = 0} (omega arith))
  wire_same f {w} v s (p_send {c} {i} h) = sent_one x brings k bs n₀ w f c i s h
  wire_same f v s p_start = goes_on p_starts
  wire_same f {w} v s (p_starts {v = c} {i}) = begun x brings k bs n₀ w f c i s
  wire_same f {w} v s (p_wait {c} {i} {b} j {taken} e g) = polled x brings k bs n₀ w (waits v) f.twice c i b j taken s.twice e g
  wire_same f {w} v s (p_again {c} {i} {b} j {taken} e g) = polled_again_lem x brings k bs n₀ w (waits v) c i b j taken e g
  wire_same f {w} v s (p_take {c} {i} {b} j {taken} e g) = took_one x brings k bs n₀ w f c i b j v taken s e g
  wire_same f {w} v s (p_close e) = goes_on (p_closes e)
  wire_same f {w} v s (p_closes e) = goes_on (p_end e)
  wire_same f v s (p_end {c} {i} {b} e) = goes_over c i b refl e
