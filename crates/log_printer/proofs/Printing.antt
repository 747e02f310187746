-- The printer's buffers, one after another: what they print is the text of the log. Assumes nothing.
use Rattle.std.proofs.Common.{◌≡◌, ℕ, ◌+◌, ◌-◌, ◌*◌, ◌%◌, ◌^◌, ◌≤◌, true, false, List, [], ◌++◌, length, take, drop, Option, None, Some, sym, refl, ap, ◌∙◌, subst, append_assoc, arith, length-append}
use lib.Seq.{take-append-le}
use Rattle.std.proofs.Math.Seq.{take-length}
use Rattle.std.specs.Io.KnownBytes.{Appends, Consumes, IsAtEnd}
use Rattle.std.proofs.KnownBytes.{Consumes-nil, Consumes-trans, Consumes-whole, Appends-nil, Appends-trans}
use Rattle.access_log.specs.Log.{entry_in}
use Rattle.access_log.specs.Text.{text_of, log_text, all_accesses, over}
use Rattle.access_log.proofs.Parts.{text_of_buffer, text_of_parts, text_stops}
use Rattle.log_printer.specs.Printed.{PrintsAll, PrintsLog, PrintsPart}

-- ---- a buffer

-- what stands of a buffer's text at the front of the room for it is written, and so the text is
pub writes_text : (bytes before out : List ℕ) (n first : ℕ) → length bytes ≤ 4096
    → out ≡ over (text_of 512 (entry_in bytes) first 0) before → n ≡ length (text_of 512 (entry_in bytes) first 0)
    → (old new : Option (List ℕ)) → Appends old new (take n out) → Appends old new (log_text bytes first)
writes_text bytes before out n first short e f old new written =
    let text : List ℕ = text_of 512 (entry_in bytes) first 0 in
    let fits : length text ≤ length text = omega arith in
    let front : take n out ≡ text =
    ap (λ (k : ℕ). take k out) f ∙ (ap (take (length text)) e ∙ take-append-le (length text) text (drop (length text) before) fits ∙ take-length text) in
    subst (Appends old new) (front ∙ text_of_buffer bytes first short) written

-- the bytes of a buffer are read, and their text is written
module _ (log left old new : Option (List ℕ)) (bytes : List ℕ) (first : ℕ) (read : Consumes log left bytes) (written : Appends old new (log_text bytes first)) where
  -- the input has ended
  pub prints_end : IsAtEnd left → PrintsAll log old new first
  prints_end end = Consumes-whole log left bytes (λ xs. Appends old new (log_text xs first)) read end written

  -- a record of a full buffer is refused
  pub prints_bad : length bytes ≡ 4096 → all_accesses 512 (entry_in bytes) 0 ≡ false → PrintsAll log old new first
  prints_bad full some = of_all log left read
    where
      of_all : (a b : Option (List ℕ)) → Consumes a b bytes → PrintsAll a old new first
      of_all None b r = tt
      of_all (Some xs) None r = absurd r
      of_all (Some xs) (Some ys) r =
          subst (Appends old new) (sym (ap (λ (l : List ℕ). log_text l first) r ∙ text_stops 512 bytes ys (omega arith) first some)) written

  -- all records of a full buffer are accesses
  pub prints_part : length bytes ≡ 4096 → all_accesses 512 (entry_in bytes) 0 ≡ true → PrintsPart log left old new first
  prints_part long all = record {
    bytes = bytes;
    full = long;
    read = read;
    written = written;
    rest = λ ys. text_of_parts 512 bytes ys (omega arith) first all;
  }

-- ---- buffers

-- so many turns have read `moved`, full buffers, and written `text`; the text of what is left goes on from there, numbered on
pub record Printing (log left old new : Option (List ℕ)) (number turn : ℕ) : Type 0 where
  pub moved : List ℕ
  pub text : List ℕ
  pub read : Consumes log left moved
  pub written : Appends old new text
  pub long : length moved ≡ 4096 * turn
  pub rest : (ys : List ℕ) → log_text (moved ++ ys) 0 ≡ text ++ log_text ys number

pub starts : (log old : Option (List ℕ)) → Printing log log old old 0 0
starts log old = record { moved = []; text = []; read = Consumes-nil log; written = Appends-nil old; long = refl; rest = λ ys. refl }

module _ (log left old now : Option (List ℕ)) (number turn : ℕ) (p : Printing log left old now number turn) where
  pub goes_on : (left' new : Option (List ℕ)) (number' : ℕ) → PrintsPart left left' now new number → number' ≡ (number + 512) % 2 ^ 64
      → Printing log left' old new number' (turn + 1)
  goes_on left' new number' q e = record {
    moved = p.moved ++ q.bytes;
    text = p.text ++ log_text q.bytes number;
    read = Consumes-trans log left left' p.moved q.bytes p.read q.read;
    written = Appends-trans old now new p.text (log_text q.bytes number) p.written q.written;
    long = omega (arith, length-append p.moved q.bytes, p.long, q.full);
    rest = λ ys.
        ap (λ (l : List ℕ). log_text l 0) (append_assoc p.moved q.bytes ys)
        ∙ (p.rest (q.bytes ++ ys)
        ∙ (ap (λ (l : List ℕ). p.text ++ l) (q.rest ys)
        ∙ (sym (append_assoc p.text (log_text q.bytes number) (log_text ys ((number + 512) % 2 ^ 64)))
        ∙ ap (λ (n : ℕ). (p.text ++ log_text q.bytes number) ++ log_text ys n) (sym e))));
  }

  pub stops : (new : Option (List ℕ)) → PrintsAll left now new number → PrintsLog log old new
  stops new q = of_log log left p.read q
    where
      of_log : (a b : Option (List ℕ)) → Consumes a b p.moved → PrintsAll b now new number → PrintsLog a old new
      of_log None b r h = tt
      of_log (Some xs) None r h = absurd r
      of_log (Some xs) (Some ys) r h = λ small.
          subst (Appends old new) (sym (ap (λ (l : List ℕ). log_text l 0) r ∙ p.rest ys)) (Appends-trans old now new p.text (log_text ys number) p.written h)

  -- no log below 2^64 bytes takes so many turns
  pub used_up : 2 ^ 64 - 1 ≤ turn → PrintsLog log old now
  used_up h = of_log log left p.read
    where
      of_log : (a b : Option (List ℕ)) → Consumes a b p.moved → PrintsLog a old now
      of_log None b r = tt
      of_log (Some xs) None r = absurd r
      of_log (Some xs) (Some ys) r = λ small. absurd (omega (arith, ap length r, length-append p.moved ys, p.long))
