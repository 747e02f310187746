-- Document 01's numbers 21 and 22, and 4 and 5 after finished chunks, each with "precisely when"; after 21 or 22 the log ends with clear status and write disable, and an erase that is done ends clean. Assumes nothing.
use mathlib.Core.Path.{◌≡◌, refl, ap, subst, ◌∙◌, sym}
use mathlib.Core.Bool.{Bool, true, false, not, ◌&&◌}
use mathlib.Core.List.{List, [], ◌∷◌, ◌++◌, append-nil, append_assoc}
use mathlib.Core.Logic.Iff
use mathlib.Core.Logic.{◌↔◌, ◌⊎◌, inl, inr}
use Prim.Native.Nat.{ℕ, zero, suc, ◌+◌, ◌%◌, ◌≤◌, ◌<◌}
use native.Mathlib.Omega.{arith}
use lib.Dec.{ltb, eqb}
use lib.ListN.{length, length-append}
use borrow.Author.Tests.{ltb-true, ltb-false, lt-ltb, le-ltb, eq-eqb, ne_eqb, eqb-true, eqb-false}
use Rattle.zynq7000.specs.Bits.{is_set}
use Rattle.zynq7000.specs.declared.qspi.Access.{Access}
use Rattle.qspi_script.specs.Answer.{number_of}
use Rattle.qspi_script.specs.declared.Status.{Status}
use Rattle.qspi_script.specs.declared.Status.TheVariants.{Done, OutOfRange, Alignment, DataTooLarge, NotAligned, CrossesPageBoundary, EraseErrorBitSet, ProgrammingErrorBitSet}
use Rattle.qspi_operation.specs.Machine.{Transfer, Script, ends, counts, exchange, onward, State, ended, begin, want, nothing, status_in, Result, called, after}
use Rattle.qspi_operation.specs.Whole.{Whole}
use Rattle.qspi_operation.proofs.Verdicts.{no}
use Rattle.qspi_operation.proofs.Stops.{EndsWith, with_end, with_perform, with_either, answers, some_read, Stop, at_end, no_room_left, no_reply, stands, stopped, own_answer}
use Rattle.qspi_operation.proofs.Wholes.{Plays, First, plays_end, plays_first, after_first, whole_some}
use Rattle.qspi_calls.specs.Chunks.{Chunk, chunks, Among, here, there}
use Rattle.qspi_calls.specs.Calls.{refused, enabling, disabling, clearing, status_reading, erasing, programming, top}
use Rattle.qspi_calls.specs.Calls as call
use Rattle.qspi_calls.specs.Settled.{Busy, no_more, once_more, Looped, Settles, Disarmed, Fails, Accepted, Finished, none_yet, one_more, ComesTo}
use Rattle.qspi_calls.proofs.Precisely.{with_working, with_protecting, with_reads, with_program, with_pages, with_call_new, at_once, past, past_not, accepted, refuses_not, never}
use Rattle.qspi_calls.proofs.Pages.{within}
use Rattle.qspi_calls.proofs.Registers.{Call, write_enable, write_disable, clear_status, read_status, read_config, read_id, read_long_id, write_status, write_registers, new, set_write_protection, erase_sector, program, write_pages_call, read, initialize, enable_linear_addressing, enable_io_mode, disable}

-- any status but 21 and 22
abbrev not_failed : Status → Bool
not_failed a = not (ltb 20 (number_of a) && ltb (number_of a) 23)

unfailing : (room : ℕ) (replies : List ℕ) {c : Script} → EndsWith not_failed c → (((called c room replies).answer ≡ EraseErrorBitSet) ⊎ ((called c room replies).answer ≡ ProgrammingErrorBitSet)) → ⊥
unfailing room replies w (inl q) = no (ap not_failed (sym q) ∙ answers not_failed w room replies refl refl)
unfailing room replies w (inr q) = no (ap not_failed (sym q) ∙ answers not_failed w room replies refl refl)

-- ---- a run and its own end

module _ (c : Script) (room : ℕ) (replies : List ℕ) where
  abbrev r : Result
  r = called c room replies

  -- an answer below 23 is the script's own
  own_end : (a : Status) → own_answer a ≡ true → r.answer ≡ a → (want r.state ≡ nothing) × (status_in r.state ≡ a)
  own_end a o q = go (stopped c room replies)
    where
      go : Stop r → (want r.state ≡ nothing) × (status_in r.state ≡ a)
      go (at_end e f) = (e, sym f ∙ q)
      go (no_room_left e f g) = no (ap own_answer (sym g ∙ q) ∙ o)
      go (no_reply n e f g h) = no (ap own_answer (sym h ∙ q) ∙ o)

  plays_run : Plays c [] 0 r.log r.state
  plays_run = let y = stands c room replies in record { makes = y.makes; there = sym y.there }

  -- a run whose accesses lead to an end answers that
  answers_end : (e : State) → want e ≡ nothing → after (begin c [] 0) r.log ≡ e → r.answer ≡ status_in e
  answers_end e o f = go (stopped c room replies)
    where
      is : r.state ≡ e
      is = (stands c room replies).there ∙ f

      go : Stop r → r.answer ≡ status_in e
      go (at_end u v) = v ∙ ap status_in is
      go (no_room_left u v w) = absurd (u (ap want is ∙ o))
      go (no_reply n u v w z) = absurd (some_read u (ap want is ∙ o))

-- ---- the status loop

parts : (a b c d e : List Access) → (a ++ (b ++ (c ++ d))) ++ e ≡ a ++ (b ++ (c ++ (d ++ e)))
parts a b c d e = append_assoc a (b ++ (c ++ d)) e ∙ ap (λ (z : List Access). a ++ z) (append_assoc b (c ++ d) e ∙ ap (λ (z : List Access). b ++ z) (append_assoc c d e))

module _ (bit : ℕ) (failure : Status) (then : Script) (bs : List ℕ) (n : ℕ) where
  abbrev unsettled : List ℕ → Bool
  unsettled rs = not (is_set bit (top rs)) && is_set 0 (top rs)

  abbrev outcome : List ℕ → Script
  outcome rs = onward (is_set bit (top rs)) (call.failing failure) then

  abbrev loop : Script
  loop = call.settling bit failure then

  -- the same, as a transfer and what its reply decides
  abbrev looping : List ℕ → Script
  looping rs = onward (unsettled rs) loop (outcome rs)

  record Loop (log : List Access) (e : State) : Type 0 where
    pub busy : List Access
    pub last : List Access
    pub tail : List Access
    pub rs : List ℕ
    pub polled : Busy bit busy
    pub shown : Whole status_reading last rs
    pub settled : unsettled rs ≡ false
    pub is : log ≡ busy ++ (last ++ tail)
    pub rest : Plays (outcome rs) bs n tail e

  busy_error : (rs : List ℕ) → unsettled rs ≡ true → (is_set bit (top rs) ≡ false) × (is_set 0 (top rs) ≡ true)
  busy_error rs = go (is_set bit (top rs)) (is_set 0 (top rs))
    where
      go : (e b : Bool) → (not e && b) ≡ true → (e ≡ false) × (b ≡ true)
      go true b h = no h
      go false true h = (refl, refl)
      go false false h = no h

  shorter : (l m log : List Access) (f : ℕ) → log ≡ l ++ m → 0 < length l → length log ≤ suc f → length m ≤ f
  shorter l m log f e h g = omega (arith, length-append l m, (let z : length log ≡ length (l ++ m) = ap length e in z), h, g)

  loop_by : (f : ℕ) (log : List Access) (e : State) → want e ≡ nothing → length log ≤ suc f → ((m : List Access) → length m ≤ f → Plays loop bs n m e → Loop m e) → First status_reading looping bs n log e → Loop log e
  loop_by f log e o g again c = go (unsettled c.replies) refl c.rest
    where
      go : (b : Bool) → unsettled c.replies ≡ b → Plays (onward b loop (outcome c.replies)) bs n c.tail e → Loop log e
      go false z p = record { busy = []; last = c.head; tail = c.tail; rs = c.replies; polled = no_more; shown = c.whole; settled = z; is = c.is; rest = p }
      go true z p =
          let y = again c.tail (shorter c.head c.tail log f c.is (whole_some status_reading c.head c.replies c.whole) g) p in
          let u = busy_error c.replies z in
          record {
            busy = c.head ++ y.busy;
            last = y.last;
            tail = y.tail;
            rs = y.rs;
            polled = once_more c.whole u.0 u.1 y.polled;
            shown = y.shown;
            settled = y.settled;
            is = c.is ∙ (ap (λ (z : List Access). c.head ++ z) y.is ∙ sym (append_assoc c.head y.busy (y.last ++ y.tail)));
            rest = y.rest;
          }

  loop_plays : (f : ℕ) (log : List Access) (e : State) → want e ≡ nothing → length log ≤ f → Plays loop bs n log e → Loop log e
  loop_plays zero log e o g p =
      let c = plays_first status_reading looping bs n log e o (record { makes = p.makes; there = p.there }) in
      absurd (omega (arith, length-append c.head c.tail, (let z : length log ≡ length (c.head ++ c.tail) = ap length c.is in z), whole_some status_reading c.head c.replies c.whole))
  loop_plays (suc f) log e o g p = loop_by f log e o g (λ m h q. loop_plays f m e o h q) (plays_first status_reading looping bs n log e o (record { makes = p.makes; there = p.there }))

  -- and the other way
  after_loop : (busy last tail : List Access) (rs : List ℕ) → Busy bit busy → Whole status_reading last rs → unsettled rs ≡ false → after (begin loop bs n) (busy ++ (last ++ tail)) ≡ after (begin (outcome rs) bs n) tail
  after_loop busy last tail rs no_more w e = after_first status_reading looping bs n last tail rs w ∙ ap (λ (b : Bool). after (begin (onward b loop (outcome rs)) bs n) tail) e
  after_loop busy last tail rs (once_more {l} {m} {rs = qs} v x y q) w e =
      ap (after (begin loop bs n)) (append_assoc l m (last ++ tail)) ∙ (after_first status_reading looping bs n l (m ++ (last ++ tail)) qs v
      ∙ (ap (λ (b : Bool). after (begin (onward b loop (outcome qs)) bs n) (m ++ (last ++ tail))) (still qs x y) ∙ after_loop m last tail rs q w e))
    where
      still : (qs : List ℕ) → is_set bit (top qs) ≡ false → is_set 0 (top qs) ≡ true → unsettled qs ≡ true
      still qs x y = rw (x, y)

  -- ---- write enable, the work, and the loop

  module _ (x : Transfer) where
    abbrev work : Script
    work = call.working bit failure x then

    record Work (log : List Access) (e : State) : Type 0 where
      pub front : List Access
      pub tail : List Access
      pub rs : List ℕ
      pub looped : Looped bit x front rs
      pub settled : unsettled rs ≡ false
      pub is : log ≡ front ++ tail
      pub rest : Plays (outcome rs) bs n tail e

    work_plays : (log : List Access) (e : State) → want e ≡ nothing → Plays work bs n log e → Work log e
    work_plays log e o p =
        let c = plays_first enabling (λ rs. exchange x (λ rs. loop)) bs n log e o p in
        let d = plays_first x (λ rs. loop) bs n c.tail e o c.rest in
        let l = loop_plays (length d.tail) d.tail e o (omega arith) d.rest in
        record {
          front = c.head ++ (d.head ++ (l.busy ++ l.last));
          tail = l.tail;
          rs = l.rs;
          looped = record { enable = c.head; work = d.head; busy = l.busy; last = l.last; enabled = (c.replies, c.whole); worked = (d.replies, d.whole); polled = l.polled; shown = l.shown; is = refl };
          settled = l.settled;
          is = c.is ∙ (ap (λ (z : List Access). c.head ++ z) (d.is ∙ ap (λ (z : List Access). d.head ++ z) l.is) ∙ sym (parts c.head d.head l.busy l.last l.tail));
          rest = l.rest;
        }

    after_work : (front tail : List Access) (rs : List ℕ) → Looped bit x front rs → unsettled rs ≡ false → after (begin work bs n) (front ++ tail) ≡ after (begin (outcome rs) bs n) tail
    after_work front tail rs l e =
        ap (λ (z : List Access). after (begin work bs n) (z ++ tail)) l.is ∙ (ap (after (begin work bs n)) (parts l.enable l.work l.busy l.last tail)
        ∙ (after_first enabling (λ rs. exchange x (λ rs. loop)) bs n l.enable _ l.enabled.0 l.enabled.1 ∙ (after_first x (λ rs. loop) bs n l.work _ l.worked.0 l.worked.1
        ∙ after_loop l.busy l.last tail rs l.polled l.shown e)))

-- ---- the end of a failure

module _ (failure : Status) (bs : List ℕ) (n : ℕ) where
  failing_plays : (front log : List Access) (e : State) → want e ≡ nothing → Plays (call.failing failure) bs n log e → Disarmed front (front ++ log) × (ended failure [] bs n ≡ e)
  failing_plays front log e o p =
      let c = plays_first clearing (λ rs. exchange disabling (λ rs. refused failure)) bs n log e o p in
      let d = plays_first disabling (λ rs. refused failure) bs n c.tail e o c.rest in
      let z = plays_end failure [] bs n d.tail e d.rest in (
        record {
          clear = c.head;
          disable = d.head;
          clears = (c.replies, c.whole);
          disables = (d.replies, d.whole);
          is = ap (λ (y : List Access). front ++ y) (c.is ∙ ap (λ (y : List Access). c.head ++ y) (d.is ∙ (ap (λ (y : List Access). d.head ++ y) z.0 ∙ append-nil d.head)));
        },
        z.1,
      )

  after_failing : (clear off : List Access) (cs ds : List ℕ) → Whole clearing clear cs → Whole disabling off ds → after (begin (call.failing failure) bs n) (clear ++ off) ≡ ended failure [] bs n
  after_failing clear off cs ds u v =
      after_first clearing (λ rs. exchange disabling (λ rs. refused failure)) bs n clear off cs u
      ∙ (ap (after (begin (exchange disabling (λ rs. refused failure)) bs n)) (sym (append-nil off)) ∙ after_first disabling (λ rs. refused failure) bs n off [] ds v)

-- clean, or failed
still_error : (bit : ℕ) (rs : List ℕ) → is_set bit (top rs) ≡ true → (not (is_set bit (top rs)) && is_set 0 (top rs)) ≡ false
still_error bit rs e = rw e

still_clean : (bit : ℕ) (rs : List ℕ) → is_set bit (top rs) ≡ false → is_set 0 (top rs) ≡ false → (not (is_set bit (top rs)) && is_set 0 (top rs)) ≡ false
still_clean bit rs e f = rw (e, f)

idle_clean : (bit : ℕ) (rs : List ℕ) → is_set bit (top rs) ≡ false → (not (is_set bit (top rs)) && is_set 0 (top rs)) ≡ false → is_set 0 (top rs) ≡ false
idle_clean bit rs e f = rw e at f

module _ (bit : ℕ) (failure : Status) (x : Transfer) (then : Script) (bs : List ℕ) (n : ℕ) where
  -- accesses of the work that failed lead to the refusal
  after_fails : (log : List Access) → Fails bit x log → after (begin (call.working bit failure x then) bs n) log ≡ ended failure [] bs n
  after_fails log f =
      let d = f.disarmed in
      ap (after (begin (call.working bit failure x then) bs n)) d.is ∙ (after_work bit failure then bs n x f.front (d.clear ++ d.disable) f.rs f.looped (still_error bit f.rs f.error)
      ∙ (ap (λ (b : Bool). after (begin (onward b (call.failing failure) then) bs n) (d.clear ++ d.disable)) f.error ∙ after_failing failure bs n d.clear d.disable d.clears.0 d.disables.0 d.clears.1 d.disables.1))

  -- those of the work that is settled lead to what comes then
  after_settles : (log tail : List Access) → Settles bit x log → after (begin (call.working bit failure x then) bs n) (log ++ tail) ≡ after (begin then bs n) tail
  after_settles log tail s =
      after_work bit failure then bs n x log tail s.rs s.looped (still_clean bit s.rs s.sound s.idle) ∙ ap (λ (b : Bool). after (begin (onward b (call.failing failure) then) bs n) tail) s.sound

  -- and one of the two it comes to
  data Comes (log : List Access) (e : State) : Type 0 where
    fails : Fails bit x log → ended failure [] bs n ≡ e → Comes log e
    settles : (front tail : List Access) → Settles bit x front → log ≡ front ++ tail → Plays then bs n tail e → Comes log e

  work_comes : (log : List Access) (e : State) → want e ≡ nothing → Plays (call.working bit failure x then) bs n log e → Comes log e
  work_comes log e o p = let w = work_plays bit failure then bs n x log e o p in go w (is_set bit (top w.rs)) refl w.rest
    where
      go : (w : Work bit failure then bs n x log e) (b : Bool) → is_set bit (top w.rs) ≡ b → Plays (onward b (call.failing failure) then) bs n w.tail e → Comes log e
      go w true f q =
          let z = failing_plays failure bs n w.front w.tail e o q in
          fails (record { rs = w.rs; front = w.front; looped = w.looped; error = f; disarmed = subst (Disarmed w.front) (sym w.is) z.0 }) z.1
      go w false f q = settles w.front w.tail (record { rs = w.rs; looped = w.looped; sound = f; idle = idle_clean bit w.rs f w.settled }) w.is q

-- ---- the chunks of `write_pages`

-- the rule of `program` that a chunk breaks, the earlier ones kept
pub data Breaks (c : Chunk) : Status → Type 0 where
  one : 16777215 < c.address + length c.bytes → Breaks c OutOfRange
  three : c.address + length c.bytes ≤ 16777215 → 240 < length c.bytes → Breaks c DataTooLarge
  four : c.address + length c.bytes ≤ 16777215 → length c.bytes ≤ 240 → (length c.bytes % 4 ≡ 0 → ⊥) → Breaks c NotAligned
  five : c.address + length c.bytes ≤ 16777215 → length c.bytes ≤ 240 → length c.bytes % 4 ≡ 0 → 256 < c.address % 256 + length c.bytes → Breaks c CrossesPageBoundary

abbrev chunk_work : Chunk → List Chunk → Script
chunk_work c l = call.working 6 ProgrammingErrorBitSet (programming c.address c.bytes) (counts (length c.bytes) (call.pages l))

accepts : (c : Chunk) (l : List Chunk) → Accepted c → call.pages (c ∷ l) ≡ chunk_work c l
accepts c l h =
    rw (le-ltb 16777215 (c.address + length c.bytes) h.range, le-ltb 240 (length c.bytes) h.small, eq-eqb (length c.bytes % 4) 0 h.fours, le-ltb 256 (c.address % 256 + length c.bytes) h.page)

pub breaks : (c : Chunk) (l : List Chunk) {a : Status} → Breaks c a → call.pages (c ∷ l) ≡ refused a
breaks c l (one h) = rw (lt-ltb 16777215 (c.address + length c.bytes) h)
breaks c l (three h g) = rw (le-ltb 16777215 (c.address + length c.bytes) h, lt-ltb 240 (length c.bytes) g)
breaks c l (four h g n) = rw (le-ltb 16777215 (c.address + length c.bytes) h, le-ltb 240 (length c.bytes) g, ne_eqb (length c.bytes % 4) 0 n)
breaks c l (five h g n p) = rw (le-ltb 16777215 (c.address + length c.bytes) h, le-ltb 240 (length c.bytes) g, eq-eqb (length c.bytes % 4) 0 n, lt-ltb 256 (c.address % 256 + length c.bytes) p)

-- how the chunks can end
data PagesEnd (l : List Chunk) (log : List Access) (a : Status) : Type 0 where
  all_done : Finished l log → Done ≡ a → PagesEnd l log a
  refused_at : (before : List Chunk) (c : Chunk) (behind : List Chunk) → before ++ c ∷ behind ≡ l → Finished before log → Breaks c a → PagesEnd l log a
  failed_at : (before : List Chunk) (c : Chunk) (behind : List Chunk) → before ++ c ∷ behind ≡ l → (front tail : List Access) → log ≡ front ++ tail → Finished before front → Accepted c
      → Fails 6 (programming c.address c.bytes) tail → ProgrammingErrorBitSet ≡ a → PagesEnd l log a

longer : {c : Chunk} {l : List Chunk} {log front tail : List Access} {a : Status} → Accepted c → Settles 6 (programming c.address c.bytes) front → log ≡ front ++ tail → PagesEnd l tail a → PagesEnd (c ∷ l) log a
longer {c} h s e (all_done f g) = all_done (subst (Finished (c ∷ _)) (sym e) (one_more h s f)) g
longer {c} h s e (refused_at before d behind is f b) = refused_at (c ∷ before) d behind (ap (λ (z : List Chunk). c ∷ z) is) (subst (Finished (c ∷ before)) (sym e) (one_more h s f)) b
longer {c} {front = front} h s e (failed_at before d behind is head tail f g i j k) =
    failed_at (c ∷ before) d behind (ap (λ (z : List Chunk). c ∷ z) is) (front ++ head) tail (e ∙ (ap (λ (z : List Access). front ++ z) f ∙ sym (append_assoc front head tail))) (one_more h s g) i j k

module _ (e : State) (o : want e ≡ nothing) where
  abbrev PagesPlay : List Chunk → Type 0
  PagesPlay l = (n : ℕ) (log : List Access) → Plays (call.pages l) [] n log e → PagesEnd l log (status_in e)

  -- a chunk that breaks a rule
  at_chunk : (c : Chunk) (l : List Chunk) (n : ℕ) (log : List Access) (a : Status) → Breaks c a → Plays (refused a) [] n log e → PagesEnd (c ∷ l) log (status_in e)
  at_chunk c l n log a b p =
      let z = plays_end a [] [] n log e p in
      refused_at [] c l refl (subst (Finished []) (sym z.0) none_yet) (subst (Breaks c) (ap status_in z.1) b)

  -- one that breaks none
  in_chunk : (c : Chunk) (l : List Chunk) (n : ℕ) (log : List Access) → Accepted c → PagesPlay l → Plays (chunk_work c l) [] n log e → PagesEnd (c ∷ l) log (status_in e)
  in_chunk c l n log h more p = go (work_comes 6 ProgrammingErrorBitSet (programming c.address c.bytes) (counts (length c.bytes) (call.pages l)) [] n log e o p)
    where
      go : Comes 6 ProgrammingErrorBitSet (programming c.address c.bytes) (counts (length c.bytes) (call.pages l)) [] n log e → PagesEnd (c ∷ l) log (status_in e)
      go (fails f z) = failed_at [] c l refl [] log refl none_yet h f (ap status_in z)
      go (settles front tail s is q) = longer h s is (more (n + length c.bytes) tail (record { makes = q.makes; there = q.there }))

  any_chunk : (c : Chunk) (l : List Chunk) → PagesPlay l → PagesPlay (c ∷ l)
  any_chunk c l more n log p = go b₁ refl b₂ refl b₃ refl b₄ refl p
    where
      b₁ : Bool
      b₁ = ltb 16777215 (c.address + length c.bytes)

      b₂ : Bool
      b₂ = ltb 240 (length c.bytes)

      b₃ : Bool
      b₃ = eqb (length c.bytes % 4) 0

      b₄ : Bool
      b₄ = ltb 256 (c.address % 256 + length c.bytes)

      go : (x₁ : Bool) → ltb 16777215 (c.address + length c.bytes) ≡ x₁ → (x₂ : Bool) → ltb 240 (length c.bytes) ≡ x₂ → (x₃ : Bool) → eqb (length c.bytes % 4) 0 ≡ x₃ → (x₄ : Bool) → ltb 256 (c.address % 256 + length c.bytes) ≡ x₄
          → Plays (onward x₁ (refused OutOfRange) (onward x₂ (refused DataTooLarge) (onward x₃ (onward x₄ (refused CrossesPageBoundary) (chunk_work c l)) (refused NotAligned)))) [] n log e → PagesEnd (c ∷ l) log (status_in e)
      go true e₁ x₂ e₂ x₃ e₃ x₄ e₄ q = at_chunk c l n log OutOfRange (one (ltb-true _ _ e₁)) q
      go false e₁ true e₂ x₃ e₃ x₄ e₄ q = at_chunk c l n log DataTooLarge (three (ltb-false _ _ e₁) (ltb-true _ _ e₂)) q
      go false e₁ false e₂ false e₃ x₄ e₄ q = at_chunk c l n log NotAligned (four (ltb-false _ _ e₁) (ltb-false _ _ e₂) (eqb-false _ _ e₃)) q
      go false e₁ false e₂ true e₃ true e₄ q = at_chunk c l n log CrossesPageBoundary (five (ltb-false _ _ e₁) (ltb-false _ _ e₂) (eqb-true _ _ e₃) (ltb-true _ _ e₄)) q
      go false e₁ false e₂ true e₃ false e₄ q =
          in_chunk c l n log (record { range = ltb-false _ _ e₁; small = ltb-false _ _ e₂; fours = eqb-true _ _ e₃; page = ltb-false _ _ e₄ }) more q

  pages_plays : (l : List Chunk) → PagesPlay l
  pages_plays [] n log p = let z = plays_end Done [] [] n log e p in all_done (subst (Finished []) (sym z.0) none_yet) (ap status_in z.1)
  pages_plays (c ∷ l) n log p = any_chunk c l (pages_plays l) n log p

-- finished chunks lead to those behind them
finished_after : (before rest : List Chunk) (n : ℕ) (log tail : List Access) → Finished before log → (m : ℕ) × (after (begin (call.pages (before ++ rest)) [] n) (log ++ tail) ≡ after (begin (call.pages rest) [] m) tail)
finished_after before rest n log tail none_yet = (n, refl)
finished_after before rest n log tail (one_more {c} {l} {log = head} {more = more} h s f) =
    let y = finished_after l rest (n + length c.bytes) more tail f in (
      y.0,
      ap (after (begin (call.pages (c ∷ (l ++ rest))) [] n)) (append_assoc head more tail) ∙ (ap (λ (z : Script). after (begin z [] n) (head ++ (more ++ tail))) (accepts c (l ++ rest) h)
          ∙ (after_settles 6 ProgrammingErrorBitSet (programming c.address c.bytes) (counts (length c.bytes) (call.pages (l ++ rest))) [] n head (more ++ tail) s ∙ y.1)),
    )

among_middle : (before : List Chunk) (c : Chunk) (behind l : List Chunk) → before ++ c ∷ behind ≡ l → Among c l
among_middle before c behind l e = subst (Among c) e (go before)
  where
    go : (b : List Chunk) → Among c (b ++ c ∷ behind)
    go [] = here
    go (d ∷ b) = there (go b)

-- a failure has accesses
fails_some : (bit : ℕ) (x : Transfer) (log : List Access) → Fails bit x log → 0 < length log
fails_some bit x log f =
    let l = f.looped in
    let d = f.disarmed in
    let h = whole_some enabling l.enable l.enabled.0 l.enabled.1 in
    let u : length f.front ≡ length l.enable + length (l.work ++ (l.busy ++ l.last)) = ap length l.is ∙ length-append l.enable (l.work ++ (l.busy ++ l.last)) in
    let v : length log ≡ length f.front + length (d.clear ++ d.disable) = ap length d.is ∙ length-append f.front (d.clear ++ d.disable) in
    omega (arith, h, u, v)

-- and so has what is settled
settles_some : (bit : ℕ) (x : Transfer) (log : List Access) → Settles bit x log → 0 < length log
settles_some bit x log s =
    let l = s.looped in
    let h = whole_some enabling l.enable l.enabled.0 l.enabled.1 in
    let u : length log ≡ length l.enable + length (l.work ++ (l.busy ++ l.last)) = ap length l.is ∙ length-append l.enable (l.work ++ (l.busy ++ l.last)) in
    omega (arith, h, u)

module _ (room : ℕ) (replies : List ℕ) where
  abbrev Answers : Script → Status → Type 0
  Answers c a = (called c room replies).answer ≡ a

  abbrev log_of : Script → List Access
  log_of c = (called c room replies).log

  -- a refusal at the start has no accesses, and so no failure
  fails_not : (s : Status) (bit : ℕ) (x : Transfer) → Fails bit x (log_of (refused s)) → ⊥
  fails_not s bit x f = let z : length (log_of (refused s)) ≡ 0 = ap (λ (r : Result). length r.log) (at_once room replies s []) in omega (arith, z, fails_some bit x (log_of (refused s)) f)

  work_when : (bit : ℕ) (failure : Status) (x : Transfer) → own_answer failure ≡ true → (Done ≡ failure → ⊥)
      → Answers (call.working bit failure x (ends Done [])) failure ↔ Fails bit x (log_of (call.working bit failure x (ends Done [])))
  work_when bit failure x o n =
      let c = call.working bit failure x (ends Done []) in (
        λ q.
            let e = own_end c room replies failure o q in
            go e.1 (work_comes bit failure x (ends Done []) [] 0 (log_of c) (called c room replies).state e.0 (plays_run c room replies)),
        λ f. answers_end c room replies (ended failure [] [] 0) refl (after_fails bit failure x (ends Done []) [] 0 (log_of c) f),
      )
    where
      go : status_in (called (call.working bit failure x (ends Done [])) room replies).state ≡ failure
          → Comes bit failure x (ends Done []) [] 0 (log_of (call.working bit failure x (ends Done []))) (called (call.working bit failure x (ends Done [])) room replies).state
          → Fails bit x (log_of (call.working bit failure x (ends Done [])))
      go e (fails f z) = f
      go e (settles front tail s is p) = absurd (n (ap status_in (plays_end Done [] [] 0 tail _ p).1 ∙ e))

  -- 21: "status bit 5" in the status transfer that ended the loop, and "clear status and write disable are in the log", both whole
  pub erase_twenty_one : (a : ℕ) → Answers (call.erase_sector a) EraseErrorBitSet ↔ Fails 5 (erasing a) (log_of (call.erase_sector a))
  erase_twenty_one a =
      Iff.trans (Iff.trans (past room replies (λ r. r.answer ≡ EraseErrorBitSet) b₁ OutOfRange _ (refuses_not room replies OutOfRange EraseErrorBitSet refl refl)) (Iff.and Iff.rfl (past_not room replies (λ r. r.answer ≡ EraseErrorBitSet) b₂ Alignment _ (refuses_not room replies Alignment EraseErrorBitSet refl refl))))
      (Iff.trans (Iff.and Iff.rfl (Iff.and Iff.rfl (work_when 5 EraseErrorBitSet (erasing a) refl (λ e. let z : ◌≡◌ {A = ℕ} 0 21 = ap number_of e in omega (arith, z)))))
      (Iff.symm (Iff.trans (past room replies (λ r. Fails 5 (erasing a) r.log) b₁ OutOfRange _ (fails_not OutOfRange 5 (erasing a))) (Iff.and Iff.rfl (past_not room replies (λ r. Fails 5 (erasing a) r.log) b₂ Alignment _ (fails_not Alignment 5 (erasing a)))))))
    where
      b₁ : Bool
      b₁ = ltb 16777215 (a + 65536)

      b₂ : Bool
      b₂ = eqb (a % 65536) 0

  settles_not : (s : Status) (bit : ℕ) (x : Transfer) → Settles bit x (log_of (refused s)) → ⊥
  settles_not s bit x f = let z : length (log_of (refused s)) ≡ 0 = ap (λ (r : Result). length r.log) (at_once room replies s []) in omega (arith, z, settles_some bit x (log_of (refused s)) f)

  work_done : (bit : ℕ) (failure : Status) (x : Transfer) → (failure ≡ Done → ⊥) → Answers (call.working bit failure x (ends Done [])) Done ↔ Settles bit x (log_of (call.working bit failure x (ends Done [])))
  work_done bit failure x n =
      let c = call.working bit failure x (ends Done []) in (
        λ q.
            let e = own_end c room replies Done refl q in
            go e.1 (work_comes bit failure x (ends Done []) [] 0 (log_of c) (called c room replies).state e.0 (plays_run c room replies)),
        λ f. answers_end c room replies (ended Done [] [] 0) refl (ap (after (begin c [] 0)) (sym (append-nil (log_of c))) ∙ after_settles bit failure x (ends Done []) [] 0 (log_of c) [] f),
      )
    where
      go : status_in (called (call.working bit failure x (ends Done [])) room replies).state ≡ Done
          → Comes bit failure x (ends Done []) [] 0 (log_of (call.working bit failure x (ends Done []))) (called (call.working bit failure x (ends Done [])) room replies).state
          → Settles bit x (log_of (call.working bit failure x (ends Done [])))
      go e (fails f z) = absurd (n (ap status_in z ∙ e))
      go e (settles front tail s is p) = subst (Settles bit x) (sym (is ∙ (ap (λ (y : List Access). front ++ y) (plays_end Done [] [] 0 tail _ p).0 ∙ append-nil front))) s

  -- done: the status transfer that ended the loop shows neither bit 5 nor bit 0, its closing included
  pub erase_done : (a : ℕ) → Answers (call.erase_sector a) Done ↔ Settles 5 (erasing a) (log_of (call.erase_sector a))
  erase_done a =
      Iff.trans (Iff.trans (past room replies (λ r. r.answer ≡ Done) b₁ OutOfRange _ (refuses_not room replies OutOfRange Done refl refl)) (Iff.and Iff.rfl (past_not room replies (λ r. r.answer ≡ Done) b₂ Alignment _ (refuses_not room replies Alignment Done refl refl))))
      (Iff.trans (Iff.and Iff.rfl (Iff.and Iff.rfl (work_done 5 EraseErrorBitSet (erasing a) (λ e. let z : ◌≡◌ {A = ℕ} 21 0 = ap number_of e in omega (arith, z)))))
      (Iff.symm (Iff.trans (past room replies (λ r. Settles 5 (erasing a) r.log) b₁ OutOfRange _ (settles_not OutOfRange 5 (erasing a))) (Iff.and Iff.rfl (past_not room replies (λ r. Settles 5 (erasing a) r.log) b₂ Alignment _ (settles_not Alignment 5 (erasing a)))))))
    where
      b₁ : Bool
      b₁ = ltb 16777215 (a + 65536)

      b₂ : Bool
      b₂ = eqb (a % 65536) 0

  -- 22 of `program`: "status bit 6", "the same"
  pub program_twenty_two : (a : ℕ) (bs : List ℕ) → Answers (call.program a bs) ProgrammingErrorBitSet ↔ Fails 6 (programming a bs) (log_of (call.program a bs))
  program_twenty_two a bs =
      Iff.trans (accepted room replies a bs (λ r. r.answer ≡ ProgrammingErrorBitSet) (refuses_not room replies OutOfRange ProgrammingErrorBitSet refl refl) (refuses_not room replies DataTooLarge ProgrammingErrorBitSet refl refl)
      (refuses_not room replies NotAligned ProgrammingErrorBitSet refl refl) (refuses_not room replies CrossesPageBoundary ProgrammingErrorBitSet refl refl))
      (Iff.trans (Iff.and Iff.rfl (Iff.and Iff.rfl (Iff.and Iff.rfl (Iff.and Iff.rfl (work_when 6 ProgrammingErrorBitSet (programming a bs) refl (λ e. let z : ◌≡◌ {A = ℕ} 0 22 = ap number_of e in omega (arith, z)))))))
      (Iff.symm (accepted room replies a bs (λ r. Fails 6 (programming a bs) r.log) (fails_not OutOfRange 6 (programming a bs)) (fails_not DataTooLarge 6 (programming a bs)) (fails_not NotAligned 6 (programming a bs)) (fails_not CrossesPageBoundary 6 (programming a bs)))))

  -- ---- write_pages

  module _ (a : ℕ) (bs : List ℕ) where
    abbrev save : Script
    save = call.write_pages a bs

    -- a run that answers so: what came of the chunks, the whole length being in range
    saved : (s : Status) → own_answer s ≡ true → (OutOfRange ≡ s → ⊥) → Answers save s → (a + length bs ≤ 16777215) × PagesEnd (chunks a bs) (log_of save) s
    saved s o n = go (ltb 16777215 (a + length bs)) refl
      where
        go : (b : Bool) → ltb 16777215 (a + length bs) ≡ b → Answers (onward b (refused OutOfRange) (call.pages (chunks a bs))) s → (a + length bs ≤ 16777215) × PagesEnd (chunks a bs) (log_of (onward b (refused OutOfRange) (call.pages (chunks a bs)))) s
        go true e q = absurd (n (sym (ap (λ (r : Result). r.answer) (at_once room replies OutOfRange [])) ∙ q))
        go false e q =
            let c = call.pages (chunks a bs) in
            let y = own_end c room replies s o q in
            (ltb-false 16777215 (a + length bs) e, subst (PagesEnd (chunks a bs) (log_of c)) y.1 (pages_plays (called c room replies).state y.0 (chunks a bs) 0 (log_of c) (plays_run c room replies)))

    -- and the other way: accesses that lead to an end
    saves : a + length bs ≤ 16777215 → (s : Status) (m : ℕ) → after (begin (call.pages (chunks a bs)) [] 0) (log_of save) ≡ ended s [] [] m → Answers save s
    saves h s m = rw (le-ltb 16777215 (a + length bs) h) (answers_end (call.pages (chunks a bs)) room replies (ended s [] [] m) refl)

    -- where finished chunks lead
    ends_so : a + length bs ≤ 16777215 → (before rest : List Chunk) (log tail : List Access) → before ++ rest ≡ chunks a bs → Finished before log → log_of save ≡ log ++ tail
        → (s : Status) → ((m : ℕ) → after (begin (call.pages rest) [] m) tail ≡ ended s [] [] m) → Answers save s
    ends_so h before rest log tail is f l s g =
        let y = finished_after before rest 0 log tail f in
        saves h s y.0 (ap (λ (z : List Chunk). after (begin (call.pages z) [] 0) (log_of save)) (sym is) ∙ (ap (after (begin (call.pages (before ++ rest)) [] 0)) l ∙ (y.1 ∙ g y.0)))

    -- a chunk that breaks a rule, after finished ones
    breaks_so : a + length bs ≤ 16777215 → (c : Chunk) → ComesTo a bs c (log_of save) → (s : Status) → Breaks c s → Answers save s
    breaks_so h c t s b =
        ends_so h t.before (c ∷ t.behind) (log_of save) [] t.is t.finished (sym (append-nil (log_of save))) s (λ m. ap (λ (z : Script). begin z [] m) (breaks c t.behind b))

    -- a chunk lies within the bytes and has at most 128
    chunk_in : a + length bs ≤ 16777215 → (c : Chunk) {log : List Access} → ComesTo a bs c log → (c.address + length c.bytes ≤ 16777215) × (length c.bytes ≤ 240)
    unfolding chunks
    chunk_in h c t = let w = within (length bs) a bs c (among_middle t.before c t.behind _ t.is) in (omega (arith, w.0, h), omega (arith, w.1))

    -- 4, which "may come after finished chunks": the chunk that comes then has a "length not a multiple of 4"; the log is that of the finished ones
    pub pages_four : Answers save NotAligned ↔ ((a + length bs ≤ 16777215) × ((c : Chunk) × (ComesTo a bs c (log_of save) × (length c.bytes % 4 ≡ 0 → ⊥))))
    pages_four = (
      λ q. let y = saved NotAligned refl (λ e. let z : ◌≡◌ {A = ℕ} 1 4 = ap number_of e in omega (arith, z)) q in (y.0, to y.1),
      λ h. let g = chunk_in h.0 h.1.0 h.1.1.0 in breaks_so h.0 h.1.0 h.1.1.0 NotAligned (four g.0 g.1 h.1.1.1),
    )
      where
        to : PagesEnd (chunks a bs) (log_of save) NotAligned → (c : Chunk) × (ComesTo a bs c (log_of save) × (length c.bytes % 4 ≡ 0 → ⊥))
        to (all_done f e) = absurd (let z : ◌≡◌ {A = ℕ} 0 4 = ap number_of e in omega (arith, z))
        to (refused_at before c behind is f (four h g n)) = (c, (record { before = before; behind = behind; is = is; finished = f }, n))
        to (failed_at before c behind is front tail l f h g e) = absurd (let z : ◌≡◌ {A = ℕ} 22 4 = ap number_of e in omega (arith, z))

    -- 5, likewise: that chunk has "addr mod 256 plus length above 256", and 4 does not apply to it
    pub pages_five : Answers save CrossesPageBoundary ↔ ((a + length bs ≤ 16777215) × ((c : Chunk) × (ComesTo a bs c (log_of save) × ((length c.bytes % 4 ≡ 0) × (256 < c.address % 256 + length c.bytes)))))
    pages_five = (
      λ q. let y = saved CrossesPageBoundary refl (λ e. let z : ◌≡◌ {A = ℕ} 1 5 = ap number_of e in omega (arith, z)) q in (y.0, to y.1),
      λ h.
          let g = chunk_in h.0 h.1.0 h.1.1.0 in
          breaks_so h.0 h.1.0 h.1.1.0 CrossesPageBoundary (five g.0 g.1 h.1.1.1.0 h.1.1.1.1),
    )
      where
        to : PagesEnd (chunks a bs) (log_of save) CrossesPageBoundary → (c : Chunk) × (ComesTo a bs c (log_of save) × ((length c.bytes % 4 ≡ 0) × (256 < c.address % 256 + length c.bytes)))
        to (all_done f e) = absurd (let z : ◌≡◌ {A = ℕ} 0 5 = ap number_of e in omega (arith, z))
        to (refused_at before c behind is f (five h g n p)) = (c, (record { before = before; behind = behind; is = is; finished = f }, (n, p)))
        to (failed_at before c behind is front tail l f h g e) = absurd (let z : ◌≡◌ {A = ℕ} 22 5 = ap number_of e in omega (arith, z))

    -- 22: the accesses after those of the finished chunks are those of the next, which `program` accepts and which fails as above
    pub pages_twenty_two : Answers save ProgrammingErrorBitSet
        ↔ ((a + length bs ≤ 16777215) × ((c : Chunk) × (Accepted c × ((front : List Access) × ((tail : List Access) × ((log_of save ≡ front ++ tail) × (ComesTo a bs c front × Fails 6 (programming c.address c.bytes) tail)))))))
    pages_twenty_two = (
      λ q. let y = saved ProgrammingErrorBitSet refl (λ e. let z : ◌≡◌ {A = ℕ} 1 22 = ap number_of e in omega (arith, z)) q in (y.0, to y.1),
      λ h. from h.0 h.1.0 h.1.1.0 h.1.1.1.0 h.1.1.1.1.0 h.1.1.1.1.1.0 h.1.1.1.1.1.1.0 h.1.1.1.1.1.1.1,
    )
      where
        to : PagesEnd (chunks a bs) (log_of save) ProgrammingErrorBitSet
            → (c : Chunk) × (Accepted c × ((front : List Access) × ((tail : List Access) × ((log_of save ≡ front ++ tail) × (ComesTo a bs c front × Fails 6 (programming c.address c.bytes) tail)))))
        to (all_done f e) = absurd (let z : ◌≡◌ {A = ℕ} 0 22 = ap number_of e in omega (arith, z))
        to (refused_at before c behind _ _ x) = elim x [ ]
        to (failed_at before c behind is front tail l f h g e) = (c, (h, (front, (tail, (l, (record { before = before; behind = behind; is = is; finished = f }, g))))))

        from : a + length bs ≤ 16777215 → (c : Chunk) → Accepted c → (front tail : List Access) → log_of save ≡ front ++ tail → ComesTo a bs c front → Fails 6 (programming c.address c.bytes) tail → Answers save ProgrammingErrorBitSet
        from h c k front tail l t f =
            ends_so h t.before (c ∷ t.behind) front tail t.is t.finished l ProgrammingErrorBitSet
            (λ m. ap (λ (z : Script). after (begin z [] m) tail) (accepts c t.behind k) ∙ after_fails 6 ProgrammingErrorBitSet (programming c.address c.bytes) (counts (length c.bytes) (call.pages t.behind)) [] m tail f)

    -- 0: every chunk is finished
    pub pages_done : Answers save Done ↔ ((a + length bs ≤ 16777215) × Finished (chunks a bs) (log_of save))
    pages_done = (
      λ q. let y = saved Done refl (λ e. let z : ◌≡◌ {A = ℕ} 1 0 = ap number_of e in omega (arith, z)) q in (y.0, to y.1),
      λ h. ends_so h.0 (chunks a bs) [] (log_of save) [] (append-nil (chunks a bs)) h.1 (sym (append-nil (log_of save))) Done (λ m. refl),
    )
      where
        to : PagesEnd (chunks a bs) (log_of save) Done → Finished (chunks a bs) (log_of save)
        to (all_done f e) = f
        to (refused_at before c behind _ _ x) = elim x [ ]
        to (failed_at before c behind is front tail l f h g e) = absurd (let z : ◌≡◌ {A = ℕ} 22 0 = ap number_of e in omega (arith, z))

    -- after 22 the log ends with clear status and write disable
    pub pages_disarmed : Answers save ProgrammingErrorBitSet → (front : List Access) × Disarmed front (log_of save)
    pages_disarmed q = go (saved ProgrammingErrorBitSet refl (λ e. let z : ◌≡◌ {A = ℕ} 1 22 = ap number_of e in omega (arith, z)) q).1
      where
        go : PagesEnd (chunks a bs) (log_of save) ProgrammingErrorBitSet → (front : List Access) × Disarmed front (log_of save)
        go (all_done f e) = absurd (let z : ◌≡◌ {A = ℕ} 0 22 = ap number_of e in omega (arith, z))
        go (refused_at before c behind _ _ x) = elim x [ ]
        go (failed_at before c behind is front tail l f h g e) =
            let d = g.disarmed in (
              front ++ g.front,
              record { clear = d.clear; disable = d.disable; clears = d.clears; disables = d.disables; is = l ∙ (ap (λ (z : List Access). front ++ z) d.is ∙ sym (append_assoc front g.front (d.clear ++ d.disable))) },
            )

  -- ---- after 21 or 22

  failed_disarmed : (bit : ℕ) (x : Transfer) (log : List Access) → Fails bit x log → (front : List Access) × Disarmed front log
  failed_disarmed bit x log f = (f.front, f.disarmed)

  -- THEOREM. After 21 or 22, of whatever call, the log ends with a whole clear status and a whole write disable.
  pub ends_disarmed : {c : Script} → Call c → (Answers c EraseErrorBitSet ⊎ Answers c ProgrammingErrorBitSet) → (front : List Access) × Disarmed front (log_of c)
  ends_disarmed write_enable q = absurd (unfailing room replies (with_perform (λ rs. with_end refl)) q)
  ends_disarmed write_disable q = absurd (unfailing room replies (with_perform (λ rs. with_end refl)) q)
  ends_disarmed clear_status q = absurd (unfailing room replies (with_perform (λ rs. with_end refl)) q)
  ends_disarmed read_status q = absurd (unfailing room replies (with_perform (λ rs. with_end refl)) q)
  ends_disarmed read_config q = absurd (unfailing room replies (with_perform (λ rs. with_end refl)) q)
  ends_disarmed read_id q = absurd (unfailing room replies (with_perform (λ rs. with_end refl)) q)
  ends_disarmed read_long_id q = absurd (unfailing room replies (with_perform (λ rs. with_end refl)) q)
  ends_disarmed (write_status sr) q = absurd (unfailing room replies (with_perform (λ rs. with_perform (λ rs. with_end refl))) q)
  ends_disarmed (write_registers sr cr) q = absurd (unfailing room replies (with_perform (λ rs. with_perform (λ rs. with_end refl))) q)
  ends_disarmed (new c) q = absurd (unfailing room replies (with_call_new not_failed refl refl c) q)
  ends_disarmed (set_write_protection v) q = absurd (unfailing room replies (with_either (ltb 7 v) (with_end refl) (with_protecting refl v)) q)
  ends_disarmed (erase_sector a) (inl q) = failed_disarmed 5 (erasing a) (log_of (call.erase_sector a)) ((erase_twenty_one a).0 q)
  ends_disarmed (erase_sector a) (inr q) =
      absurd (never room replies ProgrammingErrorBitSet (with_either (ltb 16777215 (a + 65536)) (with_end refl) (with_either (eqb (a % 65536) 0) (with_working 5 _ (erasing a) refl (with_end refl)) (with_end refl))) refl refl refl q)
  ends_disarmed (program a bs) (inl q) = absurd (never room replies EraseErrorBitSet (with_program refl refl refl refl refl a bs (with_end refl)) refl refl refl q)
  ends_disarmed (program a bs) (inr q) = failed_disarmed 6 (programming a bs) (log_of (call.program a bs)) ((program_twenty_two a bs).0 q)
  ends_disarmed (write_pages_call a bs) (inl q) = absurd (never room replies EraseErrorBitSet (with_either (ltb 16777215 (a + length bs)) (with_end refl) (with_pages refl refl refl refl refl refl (chunks a bs))) refl refl refl q)
  ends_disarmed (write_pages_call a bs) (inr q) = pages_disarmed a bs q
  ends_disarmed (read fast dummy a n) q = absurd (unfailing room replies (with_either (ltb 4294967296 (a + n)) (with_end refl) (with_reads refl n fast dummy a n)) q)
  ends_disarmed (initialize c phase polarity) q = absurd (unfailing room replies (with_either (ltb 63 c.ref_clk_div) (with_end refl) (with_perform (λ rs. with_end refl))) q)
  ends_disarmed (enable_linear_addressing word) q = absurd (unfailing room replies (with_perform (λ rs. with_end refl)) q)
  ends_disarmed (enable_io_mode dual) q = absurd (unfailing room replies (with_perform (λ rs. with_end refl)) q)
  ends_disarmed disable q = absurd (unfailing room replies (with_perform (λ rs. with_end refl)) q)
