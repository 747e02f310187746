-- The starred cases of document 01 hold. What no rule refuses goes through its transfers, whatever the replies are (proofs/Through); what a
-- rule refuses at its start is over before an access; words and clocks compute. Assumes nothing.
use Prim.Native.Nat.{ℕ, zero, suc, ◌+◌, ◌-◌, ◌/◌, ◌%◌, ◌≤◌, ◌<◌}
use mathlib.Core.Path.{◌≡◌, refl, ap, ◌∙◌, sym, subst}
use mathlib.Core.Bool.{Bool, true, false}
use mathlib.Core.List.{List, [], ◌∷◌, ◌++◌}
use native.Mathlib.Omega.{arith}
use lib.ListN.{length, take, drop, length-take, length-drop}
use borrow.Author.Tests.{lt-ltb, le-ltb, eq-eqb, ne_eqb}
use Rattle.zynq7000.specs.Bits.{is_set}
use Rattle.zynq7000.specs.declared.qspi.Access.{Access}
use Rattle.qspi_script.specs.declared.Status.{Status}
use Rattle.qspi_script.specs.declared.Status.TheVariants.{Done, OutOfRange, NotAligned, CrossesPageBoundary, EraseErrorBitSet, ProgrammingErrorBitSet}
use Rattle.qspi_calls.specs.Chunks.{chunks_in, chunks}
use Rattle.qspi_operation.specs.Machine.{drain, Action, first, going, none, Transfer, opening, Script, ends, counts, onward, Result, runs, called}
use Rattle.qspi_calls.specs.Calls.{refused, working, failing, words_of, erasing, erase_sector, programming, program_then, program, pages, write_pages, read, enable_io_mode}
use Rattle.qspi_operation.specs.Machine.{replies_of}
use Rattle.qspi_calls.proofs.PromptLogs.{Logs, counting_logs, works, read_logs, read_chunk, read_none, io_mode_logs}
use Rattle.qspi_calls.proofs.PageExamples.{prompt}
use Rattle.qspi_calls.proofs.Pages.{chunks_cons}
use Rattle.qspi_calls.proofs.ProgramWords.{length_words}
use Rattle.qspi_script.specs.Answer.{number_of}
use Rattle.starred_cases.specs.Cases.{any, write_pages_call, accepted, gives, sends, gives_with, Case, case, starred, words_to, Ends, Meets, Holds, AllHold}
use Rattle.starred_cases.proofs.Through.{sending, Through, stops, arrives, performs, repeating, counting, arrives_always}

-- ---- runs

refused_at_once : (a : Status) → Meets (gives (number_of a)) (refused a)
unfolding runs
refused_at_once a zero rs = (refl, refl, refl)
refused_at_once a (suc room) rs = (refl, refl, refl)

-- a call that begins with a transfer makes an access, unless room or replies are lacking
some_access : (room : ℕ) (l : List Action) (k : List ℕ → Script) (rs : List ℕ) → number_of (runs room (going first drain l [] none k [] 0) rs).answer < 21
    → 0 < length (runs room (going first drain l [] none k [] 0) rs).log
unfolding runs
some_access zero l k rs i = absurd (omega arith)
some_access (suc room) l k [] i = absurd (omega arith)
some_access (suc room) l k (v ∷ rs) i = omega arith

-- a log of the call shows that the state need not end it
ends_by_log : (c : Script) (P : Result → Type 0) (l : List Access) (s : Status) → Logs c l s → number_of s < 21
    → ((room : ℕ) (rs : List ℕ) → number_of (called c room rs).answer < 21 → P (called c room rs)) → Ends c P
ends_by_log c P l s logs h always = record { always = always; room = length l + 0; replies = replies_of l ++ []; possible = rw (logs 0 []).1 h }

-- ---- program and erase

works_through : (Good : Status → ℕ → Type 0) (bit : ℕ) (failure : Status) (x : Transfer) (then : Script) (n : ℕ) (ws : List ℕ) → 21 ≤ number_of failure → Through 0x1C Good then n ws
    → Through 0x1C Good (working bit failure x then) n (sending 0x1C (drain ∷ opening x) ws)
works_through Good bit failure x then n ws h t = performs (λ rs. performs (λ rs. repeating refl (λ rs. settled (is_set bit _))))
  where
    settled : (b : Bool) → Through 0x1C Good (onward b (failing failure) then) n ws
    settled true = performs (λ rs. performs (λ rs. stops h))
    settled false = t

-- the work that nothing follows: unless the state ends it, it is done, with these words sent
abbrev Worked : Transfer → Result → Type 0
Worked x r = (r.answer ≡ Done) × (words_to 0x1C r.log ≡ sending 0x1C (drain ∷ opening x) []) × (0 < length r.log)

work_ends : (bit : ℕ) (failure : Status) (x : Transfer) (rs : List ℕ) → 21 ≤ number_of failure → is_set bit 0 ≡ false → length rs ≡ x.replies → Ends (working bit failure x (ends Done [])) (Worked x)
work_ends bit failure x rs h clean e =
    let c = working bit failure x (ends Done []) in
    let t = works_through (λ a n. a ≡ Done) bit failure x (ends Done []) 0 [] h (arrives refl) in
    let p = works bit failure x (ends Done []) 0 prompt prompt prompt 0 0 rs e clean refl in
    ends_by_log c (Worked x) _ Done (counting_logs c _ Done [] [] 0 p) (omega arith)
    (λ room qs i. let y = arrives_always 0x1C (λ a n. a ≡ Done) refl c _ t room qs i in (y.1, y.0, some_access room _ _ qs i))

work_accepted : (x : Transfer) (c : Script) → Ends c (Worked x) → Meets accepted c
work_accepted x c w = record { always = λ room rs i. let y = w.always room rs i in (y.0, y.2); room = w.room; replies = w.replies; possible = w.possible }

work_sends : (x : Transfer) (c : Script) → Ends c (Worked x) → Meets (sends (sending 0x1C (drain ∷ opening x) [])) c
work_sends x c w = record { always = λ room rs i. let y = w.always room rs i in (y.0, y.1); room = w.room; replies = w.replies; possible = w.possible }

erase_works : (a : ℕ) → a + 65536 ≤ 16777215 → a % 65536 ≡ 0 → Ends (erase_sector a) (Worked (erasing a))
erase_works a h e = rw (le-ltb 16777215 (a + 65536) h, eq-eqb (a % 65536) 0 e) (work_ends 5 EraseErrorBitSet (erasing a) (0 ∷ []) (omega arith) refl refl)

-- the rules of `program`, in their order
program_range : (a : ℕ) (bs : List ℕ) (then : Script) → 16777215 < a + length bs → program_then a bs then ≡ refused OutOfRange
program_range a bs then h = rw (lt-ltb 16777215 (a + length bs) h)

program_fours : (a : ℕ) (bs : List ℕ) (then : Script) → a + length bs ≤ 16777215 → length bs ≤ 240 → (length bs % 4 ≡ 0 → ⊥) → program_then a bs then ≡ refused NotAligned
program_fours a bs then h g e = rw (le-ltb 16777215 (a + length bs) h, le-ltb 240 (length bs) g, ne_eqb (length bs % 4) 0 e)

program_crosses : (a : ℕ) (bs : List ℕ) (then : Script) → a + length bs ≤ 16777215 → length bs ≤ 240 → length bs % 4 ≡ 0 → 256 < a % 256 + length bs → program_then a bs then ≡ refused CrossesPageBoundary
program_crosses a bs then h g e p = rw (le-ltb 16777215 (a + length bs) h, le-ltb 240 (length bs) g, eq-eqb (length bs % 4) 0 e, lt-ltb 256 (a % 256 + length bs) p)

program_goes : (a : ℕ) (bs : List ℕ) (then : Script) → a + length bs ≤ 16777215 → length bs ≤ 240 → length bs % 4 ≡ 0 → a % 256 + length bs ≤ 256
    → program_then a bs then ≡ working 6 ProgrammingErrorBitSet (programming a bs) then
program_goes a bs then h g e p = rw (le-ltb 16777215 (a + length bs) h, le-ltb 240 (length bs) g, eq-eqb (length bs % 4) 0 e, le-ltb 256 (a % 256 + length bs) p)

-- a reply for each word that `program` sends, the command's too (document 02, U2)
abbrev replies_to : List ℕ → List ℕ
replies_to bs = 0 ∷ words_of bs

replies_of_lem : (bs : List ℕ) → length bs % 4 ≡ 0 → length (replies_to bs) ≡ suc (length bs / 4)
replies_of_lem bs e = omega (arith, length_words bs e)

program_works : (a : ℕ) (bs : List ℕ) → a + length bs ≤ 16777215 → length bs ≤ 240 → length bs % 4 ≡ 0 → a % 256 + length bs ≤ 256 → Ends (program a bs) (Worked (programming a bs))
program_works a bs h g e p =
    let w = work_ends 6 ProgrammingErrorBitSet (programming a bs) (replies_to bs) (omega arith) refl (replies_of_lem bs e) in
    subst (λ c. Ends c (Worked (programming a bs))) (sym (program_goes a bs (ends Done []) h g e p)) w

-- ---- write_pages

two_chunks : (a : ℕ) (bs : List ℕ) (n : ℕ) → length bs ≡ suc (suc n) → 128 < length bs
    → chunks a bs ≡ record { address = a; bytes = take 128 bs } ∷ record { address = a + 128; bytes = take 128 (drop 128 bs) } ∷ chunks_in n (a + 128 + 128) (drop 128 (drop 128 bs))
unfolding chunks
two_chunks a bs n e h = rw (e, chunks_cons (suc n) a bs (omega arith), chunks_cons n (a + 128) (drop 128 bs) (omega (arith, length-drop 128 bs)))

-- the first chunk is programmed, the second refused: the answer is the refusal, with the bytes of the first
module _ (a : ℕ) (bs : List ℕ) (s : Status) (range : a + length bs ≤ 16777215) (more : 128 < length bs) (page : a % 256 ≤ 128)
    (second : (then : Script) → program_then (a + 128) (take 128 (drop 128 bs)) then ≡ refused s) (given : number_of s < 21) where
  abbrev one : List ℕ
  one = take 128 bs

  abbrev first_only : Script
  first_only = working 6 ProgrammingErrorBitSet (programming a one) (counts (length one) (refused s))

  whole : length one ≡ 128
  whole = omega (arith, length-take 128 bs)

  abbrev Refused : Status → ℕ → Type 0
  Refused b n = (number_of b ≡ number_of s) × (n ≡ 128)

  is_first_only : write_pages a bs ≡ first_only
  is_first_only =
      let rest = chunks_in (length bs - 2) (a + 128 + 128) (drop 128 (drop 128 bs)) in
      let then = counts (length (take 128 (drop 128 bs))) (pages rest) in
      rw (le-ltb 16777215 (a + length bs) range, two_chunks a bs (length bs - 2) (omega arith) more)
      (program_goes a one (counts (length one) (program_then (a + 128) (take 128 (drop 128 bs)) then)) (omega (arith, whole)) (omega (arith, whole)) (omega (arith, whole)) (omega (arith, whole))
      ∙ ap (λ (z : Script). working 6 ProgrammingErrorBitSet (programming a one) (counts (length one) z)) (second then))

  second_refused : Meets (gives_with (number_of s) 128) (write_pages a bs)
  second_refused =
      let n : 0 + length one ≡ 128 = omega (arith, whole) in
      let e : length one % 4 ≡ 0 = omega (arith, whole) in
      let t = works_through Refused 6 ProgrammingErrorBitSet (programming a one) (counts (length one) (refused s)) 0 [] (omega arith) (counting (arrives (refl, n))) in
      let p = works 6 ProgrammingErrorBitSet (programming a one) (counts (length one) (refused s)) 0 prompt prompt prompt 0 0 (replies_to one) (replies_of_lem one e) refl refl in
      subst (Meets (gives_with (number_of s) 128)) (sym is_first_only)
      (ends_by_log first_only _ _ s (counting_logs first_only _ s [] [] (0 + length one) p) given (λ room qs i. (arrives_always 0x1C Refused refl first_only _ t room qs i).1))

-- ---- the cases, each at its place in the list

abbrev HoldsAt : List Case → ℕ → Type 0
HoldsAt [] i = ⊥
HoldsAt (c ∷ l) zero = Holds c
HoldsAt (c ∷ l) (suc i) = HoldsAt l i

erase_fe0000 : HoldsAt starred 0
erase_fe0000 = work_accepted (erasing 0xFE0000) _ (erase_works 0xFE0000 (omega arith) refl)

erase_ff0000 : HoldsAt starred 1
erase_ff0000 = refused_at_once OutOfRange

erase_030000 : HoldsAt starred 2
erase_030000 = work_sends (erasing 0x030000) _ (erase_works 0x030000 (omega arith) refl)

program_000100 : HoldsAt starred 3
program_000100 =
    let line : List ℕ = 0xDE ∷ 0xAD ∷ 0xBE ∷ 0xEF ∷ [] in
    work_sends (programming 0x000100 line) _ (program_works 0x000100 line (omega arith) (omega arith) refl (omega arith))

program_16_at_f0 : HoldsAt starred 4
program_16_at_f0 = λ bs e. work_accepted (programming 0xF0 bs) _ (program_works 0xF0 bs (omega arith) (omega arith) (omega arith) (omega arith))

program_20_at_f0 : HoldsAt starred 5
program_20_at_f0 = λ bs e. rw (program_crosses 0xF0 bs (ends Done []) (omega arith) (omega arith) (omega arith) (omega arith)) (refused_at_once CrossesPageBoundary)

program_at_fffffb : HoldsAt starred 6
program_at_fffffb = λ bs e. work_accepted (programming 0xFFFFFB bs) _ (program_works 0xFFFFFB bs (omega arith) (omega arith) (omega arith) (omega arith))

program_at_fffffc : HoldsAt starred 7
program_at_fffffc = λ bs e. rw (program_range 0xFFFFFC bs (ends Done []) (omega arith)) (refused_at_once OutOfRange)

write_pages_at_40 : HoldsAt starred 8
write_pages_at_40 = λ bs e.
    let l = length-drop 128 bs in
    let m = length-take 128 (drop 128 bs) in
    second_refused 0x40 bs CrossesPageBoundary (omega arith) (omega arith) (omega arith)
    (λ then. program_crosses (0x40 + 128) (take 128 (drop 128 bs)) then (omega (arith, l, m)) (omega (arith, l, m)) (omega (arith, l, m)) (omega (arith, l, m))) (omega arith)

read_000102 : HoldsAt starred 9
read_000102 =
    let t : Through 0x1C (λ a n. a ≡ Done) (read false false 0x000102 1) 0 (0x02010003 ∷ 0 ∷ []) = performs (λ rs. arrives refl) in
    ends_by_log _ _ _ Done (read_logs false false 0x000102 1 _ refl (read_chunk prompt (0 ∷ 0 ∷ []) refl read_none)) (omega arith)
    (λ room qs i. let y = arrives_always 0x1C (λ a n. a ≡ Done) refl _ _ t room qs i in (y.1, y.0))

interface_5000000 : HoldsAt starred 10
interface_5000000 = λ c h. (rw h.io, rw (h.io, h.cpu))

loopback_7936508 : HoldsAt starred 11
loopback_7936508 = λ c h. rw h.io

io_mode_one_flash : HoldsAt starred 12
io_mode_one_flash =
    let t : Through 0xA0 (λ a n. a ≡ Done) (enable_io_mode false) 0 (0x01A002EB ∷ []) = performs (λ rs. arrives refl) in
    ends_by_log _ _ _ Done (io_mode_logs false 0) (omega arith) (λ room qs i. let y = arrives_always 0xA0 (λ a n. a ≡ Done) refl _ _ t room qs i in (y.1, y.0))

-- a case, and those after it
infixr 4 ◌and◌
abbrev ◌and◌ : {A B : Type 0} → A → B → A × B
◌and◌ a b = (a, b)

pub starred_hold : AllHold starred
starred_hold =
    erase_fe0000 and erase_ff0000 and erase_030000
    and program_000100 and program_16_at_f0 and program_20_at_f0 and program_at_fffffb and program_at_fffffc
    and write_pages_at_40 and read_000102
    and interface_5000000 and loopback_7936508
    and io_mode_one_flash and tt

-- ---- the other cases of write_pages, which have no star

-- "at C0, 5 with 0": the first chunk is refused, so there is no access
pub write_pages_at_c0 : Holds (case (write_pages_call (any 256) 0xC0) (gives 5))
write_pages_at_c0 = λ bs e.
    let m = length-take 128 bs in
    rw (
      le-ltb 16777215 (0xC0 + length bs) (omega arith),
      two_chunks 0xC0 bs (length bs - 2) (omega arith) (omega arith),
      program_crosses 0xC0 (take 128 bs) _ (omega (arith, m)) (omega (arith, m)) (omega (arith, m)) (omega (arith, m)),
    )
    (refused_at_once CrossesPageBoundary)

-- "130 bytes at 0: 4 with 128"
pub write_pages_130 : Holds (case (write_pages_call (any 130) 0) (gives_with 4 128))
write_pages_130 = λ bs e.
    let l = length-drop 128 bs in
    let m = length-take 128 (drop 128 bs) in
    second_refused 0 bs NotAligned (omega arith) (omega arith) (omega arith)
    (λ then. program_fours (0 + 128) (take 128 (drop 128 bs)) then (omega (arith, l, m)) (omega (arith, l, m)) (λ z. omega (arith, l, m))) (omega arith)
