-- Document 01's numbers 1 to 5, 10, 12, 23 and 24, each with "precisely when": "What the input can bring on" in the order of its rules, whatever the room and the replies are, and "What the
-- state can bring on". Failures has 21 and 22, and 4 and 5 after finished chunks. Assumes nothing.
use mathlib.Core.Path.{◌≡◌, refl, ap, ◌∙◌, sym}
use mathlib.Core.Bool.{Bool, true, false, not, ◌||◌}
use mathlib.Core.List.{List, [], ◌∷◌}
use mathlib.Core.Logic.Iff
use mathlib.Core.Logic.{◌↔◌}
use Prim.Native.Nat.{ℕ, zero, suc, ◌+◌, ◌%◌, ◌≤◌, ◌<◌}
use native.Mathlib.Omega.{arith}
use lib.Dec.{ltb, eqb}
use lib.ListN.{length}
use Rattle.std.proofs.lemmas.Bool.Decides.{Decides-ltb, Decides-eqb}
use borrow.Author.Tests.{ltb-true, ltb-false, lt-ltb, le-ltb, ne_eqb, eqb-false}
use Rattle.zynq7000.specs.Bits.{is_set}
use Rattle.zynq7000_hal.specs.declared.qspi.ClockConfig.{ClockConfig}
use Rattle.zedboard_bsp.specs.Registers.{protected, update_needed}
use Rattle.qspi_script.specs.Answer.{number_of}
use Rattle.qspi_script.specs.declared.Status.{Status}
use Rattle.qspi_script.specs.declared.Status.TheVariants.{Done, OutOfRange, Alignment, DataTooLarge, NotAligned, CrossesPageBoundary, AddressSpan, FieldTooWide, ProgrammingErrorBitSet, RepliesEnded, LogFull}
use Rattle.qspi_operation.specs.Machine.{Transfer, Script, ends, exchange, onward, ended, want, reads, nothing, Result, halt, runs, called}
use Rattle.qspi_operation.proofs.Verdicts.{no}
use Rattle.qspi_operation.proofs.Stops.{EndsWith, with_end, with_perform, with_repeat, with_count, with_either, answers, own_answer, full_when, dry_when}
use Rattle.qspi_calls.specs.Chunks.{Chunk, chunks_in, chunks, Among, here, there}
use Rattle.qspi_calls.specs.declared.start.Config.{Config}
use Rattle.std.specs.Prelude.{Option, Some, None}
use Rattle.qspi_calls.specs.Calls.{refused, clearing, status_reading, config_reading, erasing, programming, top}
use Rattle.qspi_calls.specs.Calls as call
use Rattle.qspi_calls.proofs.Pages.{within}
use Rattle.qspi_calls.proofs.Registers.{Call, write_enable, write_disable, clear_status, read_status, read_config, read_id, read_long_id, write_status, write_registers, new, set_write_protection, erase_sector, program, write_pages_call, read, initialize, enable_linear_addressing, enable_io_mode, disable}

-- ---- what the scripts end with

-- `new` and `set_write_protection` past rule 12
abbrev cleared : Bool → Bool → ℕ → Bool → Script
cleared quad setLatency latency clear = exchange clearing (λ rs. onward (quad || (setLatency || clear)) (call.configuring quad setLatency latency clear) (ends Done []))

abbrev protecting : ℕ → Script
protecting q = exchange status_reading (λ ss. exchange config_reading (λ cs. call.write_registers (protected (top ss) q) (top cs)))

module _ {p : Status → Bool} where
  with_settling : (bit : ℕ) (failure : Status) {then : Script} → p failure ≡ true → EndsWith p then → EndsWith p (call.settling bit failure then)
  with_settling bit failure f w = with_repeat (λ rs. with_either (is_set bit (top rs)) (with_perform (λ rs. with_perform (λ rs. with_end f))) w)

  pub with_working : (bit : ℕ) (failure : Status) (x : Transfer) {then : Script} → p failure ≡ true → EndsWith p then → EndsWith p (call.working bit failure x then)
  with_working bit failure x f w = with_perform (λ rs. with_perform (λ rs. with_settling bit failure f w))

  with_update : p Done ≡ true → (sr cr : ℕ) → EndsWith p (call.write_registers sr cr)
  with_update d sr cr = with_perform (λ rs. with_perform (λ rs. with_end d))

  with_configuring : p Done ≡ true → (quad setLatency : Bool) (latency : ℕ) (clear : Bool) → EndsWith p (call.configuring quad setLatency latency clear)
  with_configuring d quad setLatency latency clear =
      with_perform (λ cs. with_perform (λ ss. with_either (update_needed quad setLatency latency clear (top cs) (top ss)) (with_update d _ _) (with_end d)))

  pub with_cleared : p Done ≡ true → (quad setLatency : Bool) (latency : ℕ) (clear : Bool) → EndsWith p (cleared quad setLatency latency clear)
  with_cleared d quad setLatency latency clear = with_perform (λ rs. with_either (quad || (setLatency || clear)) (with_configuring d quad setLatency latency clear) (with_end d))

  pub with_protecting : p Done ≡ true → (q : ℕ) → EndsWith p (protecting q)
  with_protecting d q = with_perform (λ ss. with_perform (λ cs. with_update d _ _))

  pub with_reads : p Done ≡ true → (n : ℕ) (fast dummy : Bool) (a left : ℕ) → EndsWith p (call.read_from n fast dummy a left)
  with_reads d zero fast dummy a left = with_end d
  with_reads d (suc n) fast dummy a zero = with_end d
  with_reads d (suc n) fast dummy a (suc left) = with_perform (λ rs. with_reads d n fast dummy _ _)

  pub with_program : p OutOfRange ≡ true → p DataTooLarge ≡ true → p NotAligned ≡ true → p CrossesPageBoundary ≡ true → p ProgrammingErrorBitSet ≡ true
      → (a : ℕ) (bs : List ℕ) {then : Script} → EndsWith p then → EndsWith p (call.program_then a bs then)
  with_program e₁ e₃ e₄ e₅ e₂₂ a bs w =
      with_either (ltb 16777215 (a + length bs)) (with_end e₁)
      (with_either (ltb 240 (length bs)) (with_end e₃)
      (with_either (eqb (length bs % 4) 0) (with_either (ltb 256 (a % 256 + length bs)) (with_end e₅) (with_working 6 _ (programming a bs) e₂₂ w)) (with_end e₄)))

  pub with_pages : p Done ≡ true → p OutOfRange ≡ true → p DataTooLarge ≡ true → p NotAligned ≡ true → p CrossesPageBoundary ≡ true → p ProgrammingErrorBitSet ≡ true → (l : List Chunk) → EndsWith p (call.pages l)
  with_pages d e₁ e₃ e₄ e₅ e₂₂ [] = with_end d
  with_pages d e₁ e₃ e₄ e₅ e₂₂ (c ∷ l) = with_program e₁ e₃ e₄ e₅ e₂₂ c.address c.bytes (with_count (with_pages d e₁ e₃ e₄ e₅ e₂₂ l))

pub with_call_new : (p : Status → Bool) → p Done ≡ true → p FieldTooWide ≡ true → (c : Config) → EndsWith p (call.new_call c)
with_call_new p d e c = go c.latency_config
  where
    go : (l : Option ℕ) → EndsWith p (call.new_latency l c.set_quad_bit_if_necessary c.clear_write_protection)
    go None = with_cleared d c.set_quad_bit_if_necessary false 0 c.clear_write_protection
    go (Some v) = with_either (ltb 3 v) (with_end e) (with_cleared d c.set_quad_bit_if_necessary true v c.clear_write_protection)

-- THEOREM. Every call ends by itself with 0 to 22, so that 23 and 24 come only from the replies and the room.
pub calls_own : {c : Script} → Call c → EndsWith own_answer c
calls_own write_enable = with_perform (λ rs. with_end refl)
calls_own write_disable = with_perform (λ rs. with_end refl)
calls_own clear_status = with_perform (λ rs. with_end refl)
calls_own read_status = with_perform (λ rs. with_end refl)
calls_own read_config = with_perform (λ rs. with_end refl)
calls_own read_id = with_perform (λ rs. with_end refl)
calls_own read_long_id = with_perform (λ rs. with_end refl)
calls_own (write_status sr) = with_perform (λ rs. with_perform (λ rs. with_end refl))
calls_own (write_registers sr cr) = with_update refl sr cr
calls_own (new c) = with_call_new own_answer refl refl c
calls_own (set_write_protection q) = with_either (ltb 7 q) (with_end refl) (with_protecting refl q)
calls_own (erase_sector a) = with_either (ltb 16777215 (a + 65536)) (with_end refl) (with_either (eqb (a % 65536) 0) (with_working 5 _ (erasing a) refl (with_end refl)) (with_end refl))
calls_own (program a bs) = with_program refl refl refl refl refl a bs (with_end refl)
calls_own (write_pages_call a bs) = with_either (ltb 16777215 (a + length bs)) (with_end refl) (with_pages refl refl refl refl refl refl (chunks a bs))
calls_own (read fast dummy a n) = with_either (ltb 4294967296 (a + n)) (with_end refl) (with_reads refl n fast dummy a n)
calls_own (initialize c phase polarity) = with_either (ltb 63 c.ref_clk_div) (with_end refl) (with_perform (λ rs. with_end refl))
calls_own (enable_linear_addressing word) = with_perform (λ rs. with_end refl)
calls_own (enable_io_mode dual) = with_perform (λ rs. with_end refl)
calls_own disable = with_perform (λ rs. with_end refl)

-- ---- one rule after the other

-- any other status than this one
abbrev other : Status → Status → Bool
other a b = not (eqb (number_of b) (number_of a))

not_below : (a b : ℕ) → (ltb a b ≡ false) ↔ (b ≤ a)
not_below a b = (ltb-false a b, le-ltb a b)

unequal : (a b : ℕ) → (eqb a b ≡ false) ↔ (a ≡ b → ⊥)
unequal a b = (eqb-false a b, ne_eqb a b)

as_read : {v : ℕ} → None ≡ Some v → ◌≡◌ {A = ℕ} 0 1
as_read e = cc

abbrev code_of : Option ℕ → ℕ
code_of None = 0
code_of (Some v) = v

coded : {v w : ℕ} → Some v ≡ Some w → v ≡ w
coded e = ap code_of e

-- the chunks of bytes in range end with anything but 1
with_chunk : (a : ℕ) (bs : List ℕ) (then : Script) → a + length bs ≤ 16777215 → EndsWith (other OutOfRange) then → EndsWith (other OutOfRange) (call.program_then a bs then)
with_chunk a bs then h w =
    rw (le-ltb 16777215 (a + length bs) h)
    (with_either (ltb 240 (length bs)) (with_end refl)
    (with_either (eqb (length bs % 4) 0) (with_either (ltb 256 (a % 256 + length bs)) (with_end refl) (with_working 6 _ (programming a bs) refl w)) (with_end refl)))

with_chunks : (l : List Chunk) → ((c : Chunk) → Among c l → c.address + length c.bytes ≤ 16777215) → EndsWith (other OutOfRange) (call.pages l)
with_chunks [] h = with_end refl
with_chunks (c ∷ l) h = with_chunk c.address c.bytes _ (h c here) (with_count (with_chunks l (λ d q. h d (there q))))

chunks_past_one : (a : ℕ) (bs : List ℕ) → a + length bs ≤ 16777215 → EndsWith (other OutOfRange) (call.pages (chunks a bs))
unfolding chunks
chunks_past_one a bs h = with_chunks (chunks_in (length bs) a bs) (λ c q. let w = within (length bs) a bs c q in omega (arith, w.0))

module _ (room : ℕ) (replies : List ℕ) where
  -- a script that ends at once, whatever the room and the replies
  pub at_once : (a : Status) (vs : List ℕ) → called (ends a vs) room replies ≡ halt a (ended a vs [] 0) room replies
  unfolding runs
  at_once a vs = go room
    where
      go : (n : ℕ) → called (ends a vs) n replies ≡ halt a (ended a vs [] 0) n replies
      go zero = refl
      go (suc n) = refl

  abbrev Answers : Script → Status → Type 0
  Answers c a = (called c room replies).answer ≡ a

  answers_at_once : (a : Status) → Answers (refused a) a
  answers_at_once a = ap (λ (r : Result). r.answer) (at_once a [])

  -- a rule that applies, and no script after it that gives its number
  applies : (b : Bool) (a : Status) (t : Script) → (Answers t a → ⊥) → Answers (onward b (refused a) t) a ↔ (b ≡ true)
  applies true a t n = (λ q. refl, λ h. answers_at_once a)
  applies false a t n = (λ q. absurd (n q), λ h. no h)

  applies_not : (b : Bool) (a : Status) (t : Script) → (Answers t a → ⊥) → Answers (onward b t (refused a)) a ↔ (b ≡ false)
  applies_not false a t n = (λ q. refl, λ h. answers_at_once a)
  applies_not true a t n = (λ q. absurd (n q), λ h. no (sym h))

  -- what holds of a run that an earlier rule does not refuse
  pub past : (Q : Result → Type 0) (b : Bool) (s : Status) (t : Script) → (Q (called (refused s) room replies) → ⊥) → Q (called (onward b (refused s) t) room replies) ↔ ((b ≡ false) × Q (called t room replies))
  past Q true s t n = (λ q. absurd (n q), λ h. no (sym h.0))
  past Q false s t n = (λ q. (refl, q), λ h. h.1)

  pub past_not : (Q : Result → Type 0) (b : Bool) (s : Status) (t : Script) → (Q (called (refused s) room replies) → ⊥) → Q (called (onward b t (refused s)) room replies) ↔ ((b ≡ true) × Q (called t room replies))
  past_not Q false s t n = (λ q. absurd (n q), λ h. no h.0)
  past_not Q true s t n = (λ q. (refl, q), λ h. h.1)

  -- a refusal gives its own number alone
  pub refuses_not : (s a : Status) → other a s ≡ true → other a a ≡ false → Answers (refused s) a → ⊥
  refuses_not s a e f q = no (sym f ∙ (ap (other a) (sym (sym (answers_at_once s) ∙ q)) ∙ e))

  -- a script that ends with none but other numbers
  pub never : (a : Status) {t : Script} → EndsWith (other a) t → other a RepliesEnded ≡ true → other a LogFull ≡ true → other a a ≡ false → Answers t a → ⊥
  never a w e f g q = no (sym g ∙ (ap (other a) (sym q) ∙ answers (other a) w room replies e f))

  -- ---- erase_sector

  -- 1: "addr + 65,536, .. above 16,777,215; the sum taken in full"
  pub erase_one : (a : ℕ) → Answers (call.erase_sector a) OutOfRange ↔ (16777215 < a + 65536)
  erase_one a =
      Iff.trans (applies (ltb 16777215 (a + 65536)) OutOfRange _ (never OutOfRange (with_either (eqb (a % 65536) 0) (with_working 5 _ (erasing a) refl (with_end refl)) (with_end refl)) refl refl refl)) (Decides-ltb 16777215 (a + 65536))

  -- 2: "addr not a multiple of 65,536", and 1 does not apply
  pub erase_two : (a : ℕ) → Answers (call.erase_sector a) Alignment ↔ ((a + 65536 ≤ 16777215) × (a % 65536 ≡ 0 → ⊥))
  erase_two a =
      Iff.trans (past (λ r. r.answer ≡ Alignment) (ltb 16777215 (a + 65536)) OutOfRange _ (refuses_not OutOfRange Alignment refl refl))
      (Iff.and (not_below 16777215 (a + 65536)) (Iff.trans (applies_not (eqb (a % 65536) 0) Alignment _ (never Alignment (with_working 5 _ (erasing a) refl (with_end refl)) refl refl refl)) (unequal (a % 65536) 0)))

  -- ---- program

  module _ (a : ℕ) (bs : List ℕ) where
    abbrev work : Script
    work = call.working 6 ProgrammingErrorBitSet (programming a bs) (ends Done [])

    with_work : (p : Status → Bool) → p Done ≡ true → p ProgrammingErrorBitSet ≡ true → EndsWith p work
    with_work p d f = with_working 6 _ (programming a bs) f (with_end d)

    abbrev paged : Script
    paged = onward (ltb 256 (a % 256 + length bs)) (refused CrossesPageBoundary) work

    abbrev aligned : Script
    aligned = onward (eqb (length bs % 4) 0) paged (refused NotAligned)

    abbrev small : Script
    small = onward (ltb 240 (length bs)) (refused DataTooLarge) aligned

    with_paged : (p : Status → Bool) → p Done ≡ true → p ProgrammingErrorBitSet ≡ true → p CrossesPageBoundary ≡ true → EndsWith p paged
    with_paged p d f e₅ = with_either (ltb 256 (a % 256 + length bs)) (with_end e₅) (with_work p d f)

    with_aligned : (p : Status → Bool) → p Done ≡ true → p ProgrammingErrorBitSet ≡ true → p CrossesPageBoundary ≡ true → p NotAligned ≡ true → EndsWith p aligned
    with_aligned p d f e₅ e₄ = with_either (eqb (length bs % 4) 0) (with_paged p d f e₅) (with_end e₄)

    with_small : (p : Status → Bool) → p Done ≡ true → p ProgrammingErrorBitSet ≡ true → p CrossesPageBoundary ≡ true → p NotAligned ≡ true → p DataTooLarge ≡ true → EndsWith p small
    with_small p d f e₅ e₄ e₃ = with_either (ltb 240 (length bs)) (with_end e₃) (with_aligned p d f e₅ e₄)

    -- what holds of a run that 1 does not refuse, or 1 and 3, or 1, 3 and 4
    past_one : (Q : Result → Type 0) → (Q (called (refused OutOfRange) room replies) → ⊥) → Q (called (call.program a bs) room replies) ↔ ((a + length bs ≤ 16777215) × Q (called small room replies))
    past_one Q n = Iff.trans (past Q (ltb 16777215 (a + length bs)) OutOfRange small n) (Iff.and (not_below 16777215 (a + length bs)) Iff.rfl)

    past_three : (Q : Result → Type 0) → (Q (called (refused DataTooLarge) room replies) → ⊥) → Q (called small room replies) ↔ ((length bs ≤ 240) × Q (called aligned room replies))
    past_three Q n = Iff.trans (past Q (ltb 240 (length bs)) DataTooLarge aligned n) (Iff.and (not_below 240 (length bs)) Iff.rfl)

    past_four : (Q : Result → Type 0) → (Q (called (refused NotAligned) room replies) → ⊥) → Q (called aligned room replies) ↔ ((length bs % 4 ≡ 0) × Q (called paged room replies))
    past_four Q n = Iff.trans (past_not Q (eqb (length bs % 4) 0) NotAligned paged n) (Iff.and (Decides-eqb (length bs % 4) 0) Iff.rfl)

    past_five : (Q : Result → Type 0) → (Q (called (refused CrossesPageBoundary) room replies) → ⊥) → Q (called paged room replies) ↔ ((a % 256 + length bs ≤ 256) × Q (called work room replies))
    past_five Q n = Iff.trans (past Q (ltb 256 (a % 256 + length bs)) CrossesPageBoundary work n) (Iff.and (not_below 256 (a % 256 + length bs)) Iff.rfl)

    -- what holds of a run that no rule refuses
    pub accepted : (Q : Result → Type 0) → (Q (called (refused OutOfRange) room replies) → ⊥) → (Q (called (refused DataTooLarge) room replies) → ⊥) → (Q (called (refused NotAligned) room replies) → ⊥)
        → (Q (called (refused CrossesPageBoundary) room replies) → ⊥)
        → Q (called (call.program a bs) room replies) ↔ ((a + length bs ≤ 16777215) × ((length bs ≤ 240) × ((length bs % 4 ≡ 0) × ((a % 256 + length bs ≤ 256) × Q (called work room replies)))))
    accepted Q n₁ n₃ n₄ n₅ = Iff.trans (past_one Q n₁) (Iff.and Iff.rfl (Iff.trans (past_three Q n₃) (Iff.and Iff.rfl (Iff.trans (past_four Q n₄) (Iff.and Iff.rfl (past_five Q n₅))))))

    -- 1: "addr + length, above 16,777,215; the sum taken in full"
    pub program_one : Answers (call.program a bs) OutOfRange ↔ (16777215 < a + length bs)
    program_one = Iff.trans (applies (ltb 16777215 (a + length bs)) OutOfRange small (never OutOfRange (with_small (other OutOfRange) refl refl refl refl refl) refl refl refl)) (Decides-ltb 16777215 (a + length bs))

    -- 3: "over 240 bytes", and 1 does not apply
    pub program_three : Answers (call.program a bs) DataTooLarge ↔ ((a + length bs ≤ 16777215) × (240 < length bs))
    program_three =
        Iff.trans (past_one (λ r. r.answer ≡ DataTooLarge) (refuses_not OutOfRange DataTooLarge refl refl))
        (Iff.and Iff.rfl (Iff.trans (applies (ltb 240 (length bs)) DataTooLarge aligned (never DataTooLarge (with_aligned (other DataTooLarge) refl refl refl refl) refl refl refl)) (Decides-ltb 240 (length bs))))

    -- 4: "length not a multiple of 4", and neither 1 nor 3 applies
    pub program_four : Answers (call.program a bs) NotAligned ↔ ((a + length bs ≤ 16777215) × ((length bs ≤ 240) × (length bs % 4 ≡ 0 → ⊥)))
    program_four =
        Iff.trans (past_one (λ r. r.answer ≡ NotAligned) (refuses_not OutOfRange NotAligned refl refl))
        (Iff.and Iff.rfl (Iff.trans (past_three (λ r. r.answer ≡ NotAligned) (refuses_not DataTooLarge NotAligned refl refl))
        (Iff.and Iff.rfl (Iff.trans (applies_not (eqb (length bs % 4) 0) NotAligned paged (never NotAligned (with_paged (other NotAligned) refl refl refl) refl refl refl)) (unequal (length bs % 4) 0)))))

    -- 5: "addr mod 256 plus length above 256", and none of 1, 3 and 4 applies
    pub program_five : Answers (call.program a bs) CrossesPageBoundary ↔ ((a + length bs ≤ 16777215) × ((length bs ≤ 240) × ((length bs % 4 ≡ 0) × (256 < a % 256 + length bs))))
    program_five =
        Iff.trans (past_one (λ r. r.answer ≡ CrossesPageBoundary) (refuses_not OutOfRange CrossesPageBoundary refl refl))
        (Iff.and Iff.rfl (Iff.trans (past_three (λ r. r.answer ≡ CrossesPageBoundary) (refuses_not DataTooLarge CrossesPageBoundary refl refl))
        (Iff.and Iff.rfl (Iff.trans (past_four (λ r. r.answer ≡ CrossesPageBoundary) (refuses_not NotAligned CrossesPageBoundary refl refl))
        (Iff.and Iff.rfl (Iff.trans (applies (ltb 256 (a % 256 + length bs)) CrossesPageBoundary work (never CrossesPageBoundary (with_work (other CrossesPageBoundary) refl refl) refl refl refl)) (Decides-ltb 256 (a % 256 + length bs))))))))

  -- ---- write_pages, the reads, and values wider than their field

  -- 1: "`write_pages` gives 1 on the whole length first"; a chunk never gives it
  pub pages_one : (a : ℕ) (bs : List ℕ) → Answers (call.write_pages a bs) OutOfRange ↔ (16777215 < a + length bs)
  pages_one a bs = (to (ltb 16777215 (a + length bs)) refl, λ h. rw (lt-ltb 16777215 (a + length bs) h) (answers_at_once OutOfRange))
    where
      to : (b : Bool) → ltb 16777215 (a + length bs) ≡ b → Answers (onward b (refused OutOfRange) (call.pages (chunks a bs))) OutOfRange → 16777215 < a + length bs
      to true e q = ltb-true 16777215 (a + length bs) e
      to false e q = absurd (never OutOfRange (chunks_past_one a bs (ltb-false 16777215 (a + length bs) e)) refl refl refl q)

  -- 10: "addr + length above 4,294,967,296", of READ and of FAST READ, with and without the dummy byte
  pub read_ten : (fast dummy : Bool) (a n : ℕ) → Answers (call.read fast dummy a n) AddressSpan ↔ (4294967296 < a + n)
  read_ten fast dummy a n = Iff.trans (applies (ltb 4294967296 (a + n)) AddressSpan _ (never AddressSpan (with_reads refl n fast dummy a n) refl refl refl)) (Decides-ltb 4294967296 (a + n))

  -- 12: "latency above 3", where one is asked for
  pub new_twelve : (c : Config) → Answers (call.new_call c) FieldTooWide ↔ ((v : ℕ) × ((c.latency_config ≡ Some v) × (3 < v)))
  new_twelve c = go c.latency_config
    where
      rest : (setLatency : Bool) (v : ℕ) → Answers (cleared c.set_quad_bit_if_necessary setLatency v c.clear_write_protection) FieldTooWide → ⊥
      rest setLatency v = never FieldTooWide (with_cleared refl c.set_quad_bit_if_necessary setLatency v c.clear_write_protection) refl refl refl

      go : (l : Option ℕ) → Answers (call.new_latency l c.set_quad_bit_if_necessary c.clear_write_protection) FieldTooWide ↔ ((v : ℕ) × ((l ≡ Some v) × (3 < v)))
      go None = (λ q. absurd (rest false 0 q), λ h. absurd (let z : ◌≡◌ {A = ℕ} 0 1 = as_read h.1.0 in omega (arith, z)))
      go (Some v) =
          Iff.trans (applies (ltb 3 v) FieldTooWide _ (rest true v))
          (λ e. (v, (refl, ltb-true 3 v e)), λ h. lt-ltb 3 v (let z : v ≡ h.0 = coded h.1.0 in omega (arith, z, h.1.1)))

  -- 12: "protection above 7"
  pub protection_twelve : (q : ℕ) → Answers (call.set_write_protection q) FieldTooWide ↔ (7 < q)
  protection_twelve q = Iff.trans (applies (ltb 7 q) FieldTooWide _ (never FieldTooWide (with_protecting refl q) refl refl refl)) (Decides-ltb 7 q)

  -- 12: "clock divisor above 63"
  pub initialize_twelve : (c : ClockConfig) (phase polarity : Bool) → Answers (call.initialize c phase polarity) FieldTooWide ↔ (63 < c.ref_clk_div)
  initialize_twelve c phase polarity =
      Iff.trans (applies (ltb 63 c.ref_clk_div) FieldTooWide _ (never FieldTooWide (with_perform (λ rs. with_end refl)) refl refl refl)) (Decides-ltb 63 c.ref_clk_div)

  -- ---- 23 and 24 of every call

  module _ {c : Script} (q : Call c) where
    abbrev r : Result
    r = called c room replies

    -- 24: "an access is due, fewer than two words of log left": there is no room for it where the run stands
    pub twenty_four : Answers c LogFull ↔ ((want r.state ≡ nothing → ⊥) × (r.room ≡ 0))
    twenty_four = full_when (calls_own q) room replies

    -- 23: "a read is due, no reply left" where the run stands, and there is room for it
    pub twenty_three : Answers c RepliesEnded ↔ (((o : ℕ) × (want r.state ≡ reads o)) × ((0 < r.room) × (r.unread ≡ [])))
    twenty_three = dry_when (calls_own q) room replies
