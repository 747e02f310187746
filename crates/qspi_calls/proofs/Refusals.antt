-- Every refusal at the start makes no access and changes no word: document 01, "A refusal here, but for 4 and 5 from `write_pages`, makes no access: log and buffers are untouched, both used
-- counts (log words, replies) are 0." Assumes nothing.
use mathlib.Core.Path.{◌≡◌, refl, ap, subst, ◌∙◌, sym}
use mathlib.Core.Bool.{Bool, true, false, not, ◌&&◌}
use mathlib.Core.List.{List, [], ◌∷◌}
use Prim.Native.Nat.{ℕ, ◌+◌, ◌/◌, ◌%◌, ◌≤◌}
use lib.Dec.{ltb, eqb}
use lib.ListN.{length}
use borrow.Author.Tests.{lt-ltb, le-ltb}
use Rattle.zynq7000.specs.Access.{encode}
use Rattle.qspi_script.specs.Answer.{said_by, number_of}
use Rattle.qspi_script.specs.declared.Status.{Status}
use Rattle.qspi_script.specs.declared.Status.TheVariants.{OutOfRange, FieldTooWide}
use Rattle.qspi_operation.specs.Machine.{Script, onward, Result, called, reads_of}
use Rattle.qspi_operation.specs.Points.{answered_of}
use Rattle.qspi_operation.proofs.Verdicts.{no}
use Rattle.qspi_operation.proofs.Stops.{EndsWith, with_end, with_perform, answers}
use Rattle.qspi_calls.specs.Chunks.{Chunk, chunks}
use Rattle.qspi_calls.specs.Promise.{logged_of, buffered_of}
use Rattle.std.specs.Prelude.{Option, Some, None}
use Rattle.qspi_calls.specs.Calls.{refused, erasing, programming}
use Rattle.qspi_calls.specs.Calls as call
use Rattle.qspi_calls.proofs.Precisely.{with_working, with_cleared, with_protecting, with_reads, at_once, pages_one}
use Rattle.qspi_calls.proofs.Failures.{Breaks, breaks}
use Rattle.qspi_calls.proofs.Registers.{Call, write_enable, write_disable, clear_status, read_status, read_config, read_id, read_long_id, write_status, write_registers, new, set_write_protection, erase_sector, program, write_pages_call, read, initialize, enable_linear_addressing, enable_io_mode, disable}

-- a call that is lent this log and this buffer answers so without an access: both used counts and the count of bytes programmed are 0, every word of the log and every byte of the buffer is
-- the one before
pub record Untouched (c : Script) (log buffer replies : List ℕ) (a : Status) : Type 0 where
  pub accesses : (called c (length log / 2) replies).log ≡ []
  pub answer : answered_of (called c (length log / 2) replies) ≡ record { says = said_by a []; used = 0; replies = 0; counted = 0 }
  pub logged : logged_of (called c (length log / 2) replies) log ≡ log
  pub stored : buffered_of (called c (length log / 2) replies) buffer ≡ buffer

-- THEOREM. So does every script that ends at once.
pub refused_untouched : (a : Status) (log buffer replies : List ℕ) → Untouched (refused a) log buffer replies a
unfolding encode reads_of
refused_untouched a log buffer replies =
    let e = at_once (length log / 2) replies a [] in
    record {
      accesses = ap (λ (r : Result). r.log) e;
      answer = ap answered_of e;
      logged = ap (λ (r : Result). logged_of r log) e;
      stored = ap (λ (r : Result). buffered_of r buffer) e;
    }

-- ---- the calls

-- the numbers of "What the input can bring on": 1 to 12
abbrev pub by_input : Status → Bool
by_input a = ltb 0 (number_of a) && ltb (number_of a) 13

-- a script that is over at once, or ends with no such number
data AtOnce : Script → Type 0 where
  refuses : (a : Status) → AtOnce (refused a)
  goes : {c : Script} → EndsWith (λ a. not (by_input a)) c → AtOnce c

if : (b : Bool) (a : Status) {t : Script} → AtOnce t → AtOnce (onward b (refused a) t)
if true a h = refuses a
if false a h = h

unless : (b : Bool) (a : Status) {t : Script} → AtOnce t → AtOnce (onward b t (refused a))
unless true a h = h
unless false a h = refuses a

-- `write_pages` has its own rules after the first
abbrev pub is_pages : {c : Script} → Call c → Bool
is_pages write_enable = false
is_pages write_disable = false
is_pages clear_status = false
is_pages read_status = false
is_pages read_config = false
is_pages read_id = false
is_pages read_long_id = false
is_pages (write_status sr) = false
is_pages (write_registers sr cr) = false
is_pages (new c) = false
is_pages (set_write_protection v) = false
is_pages (erase_sector a) = false
is_pages (program a bs) = false
is_pages (write_pages_call a bs) = true
is_pages (read fast dummy a n) = false
is_pages (initialize c phase polarity) = false
is_pages (enable_linear_addressing word) = false
is_pages (enable_io_mode dual) = false
is_pages disable = false

at_its_start : {c : Script} (q : Call c) → is_pages q ≡ false → AtOnce c
at_its_start write_enable p = goes (with_perform (λ rs. with_end refl))
at_its_start write_disable p = goes (with_perform (λ rs. with_end refl))
at_its_start clear_status p = goes (with_perform (λ rs. with_end refl))
at_its_start read_status p = goes (with_perform (λ rs. with_end refl))
at_its_start read_config p = goes (with_perform (λ rs. with_end refl))
at_its_start read_id p = goes (with_perform (λ rs. with_end refl))
at_its_start read_long_id p = goes (with_perform (λ rs. with_end refl))
at_its_start (write_status sr) p = goes (with_perform (λ rs. with_perform (λ rs. with_end refl)))
at_its_start (write_registers sr cr) p = goes (with_perform (λ rs. with_perform (λ rs. with_end refl)))
at_its_start (new c) p = go c.latency_config
  where
    go : (l : Option ℕ) → AtOnce (call.new_latency l c.set_quad_bit_if_necessary c.clear_write_protection)
    go None = goes (with_cleared refl c.set_quad_bit_if_necessary false 0 c.clear_write_protection)
    go (Some v) = if (ltb 3 v) FieldTooWide (goes (with_cleared refl c.set_quad_bit_if_necessary true v c.clear_write_protection))
at_its_start (set_write_protection v) p = if (ltb 7 v) _ (goes (with_protecting refl v))
at_its_start (erase_sector a) p = if (ltb 16777215 (a + 65536)) _ (unless (eqb (a % 65536) 0) _ (goes (with_working 5 _ (erasing a) refl (with_end refl))))
at_its_start (program a bs) p =
    if (ltb 16777215 (a + length bs)) _ (if (ltb 240 (length bs)) _ (unless (eqb (length bs % 4) 0) _ (if (ltb 256 (a % 256 + length bs)) _ (goes (with_working 6 _ (programming a bs) refl (with_end refl))))))
at_its_start (write_pages_call a bs) p = no (sym p)
at_its_start (read fast dummy a n) p = if (ltb 4294967296 (a + n)) _ (goes (with_reads refl n fast dummy a n))
at_its_start (initialize c phase polarity) p = if (ltb 63 c.ref_clk_div) _ (goes (with_perform (λ rs. with_end refl)))
at_its_start (enable_linear_addressing word) p = goes (with_perform (λ rs. with_end refl))
at_its_start (enable_io_mode dual) p = goes (with_perform (λ rs. with_end refl))
at_its_start disable p = goes (with_perform (λ rs. with_end refl))

-- THEOREM. Every refusal of an input, by whatever call but `write_pages`, makes no access and changes no word.
pub refusal_untouched : {c : Script} (q : Call c) (log buffer replies : List ℕ) → is_pages q ≡ false → by_input (called c (length log / 2) replies).answer ≡ true
    → Untouched c log buffer replies (called c (length log / 2) replies).answer
refusal_untouched q log buffer replies p = go (at_its_start q p)
  where
    go : {c : Script} → AtOnce c → by_input (called c (length log / 2) replies).answer ≡ true → Untouched c log buffer replies (called c (length log / 2) replies).answer
    go (refuses a) h = subst (Untouched (refused a) log buffer replies) (sym (ap (λ (r : Result). r.answer) (at_once (length log / 2) replies a []))) (refused_untouched a log buffer replies)
    go {c} (goes w) h = no (sym (ap not h) ∙ answers (λ a. not (by_input a)) w (length log / 2) replies refl refl)

-- 1 of `write_pages`, on the whole length
pub pages_untouched : (a : ℕ) (bs log buffer replies : List ℕ) → (called (call.write_pages a bs) (length log / 2) replies).answer ≡ OutOfRange → Untouched (call.write_pages a bs) log buffer replies OutOfRange
pages_untouched a bs log buffer replies q = rw (lt-ltb 16777215 (a + length bs) ((pages_one (length log / 2) replies a bs).0 q)) (refused_untouched OutOfRange log buffer replies)

-- a number that its first chunk gives, before any is finished
pub first_chunk_untouched : (a : ℕ) (bs : List ℕ) (c : Chunk) (l : List Chunk) (s : Status) (log buffer replies : List ℕ) → a + length bs ≤ 16777215 → chunks a bs ≡ c ∷ l → Breaks c s
    → Untouched (call.write_pages a bs) log buffer replies s
first_chunk_untouched a bs c l s log buffer replies h e b =
    let z : call.write_pages a bs ≡ refused s = ap (λ (x : Bool). onward x (refused OutOfRange) (call.pages (chunks a bs))) (le-ltb 16777215 (a + length bs) h) ∙ (ap call.pages e ∙ breaks c l b) in
    subst (λ (y : Script). Untouched y log buffer replies s) (sym z) (refused_untouched s log buffer replies)
