-- The used words of a run's log are the words of its accesses, and accesses to offsets that a log can hold have their words to themselves.
-- Assumes nothing.
use mathlib.Core.Path.{◌≡◌, refl, ◌∙◌, sym}
use mathlib.Core.List.{List, [], ◌∷◌, head-eq_of_cons-eq, tail-eq_of_cons-eq, cons≢nil, nil≢cons}
use Prim.Native.Nat.{ℕ, ◌*◌}
use lib.ListN.{length, take, drop}
use lib.Seq.{take_at}
use Rattle.std.specs.Prelude as prelude
use Rattle.zynq7000.specs.Access.{offset_in, first_word, value_word, Aligned, encode, Loggable, record_of_words}
use Rattle.zynq7000.specs.declared.qspi.Access.{Access}
use Rattle.zynq7000.specs.declared.qspi.BadLog.{BadLog}
use Rattle.zynq7000.proofs.AccessLaws.{read_words_lem}
use Rattle.qspi_operation.specs.Machine.{Result}
use Rattle.zynq7000.proofs.AccessLaws.{length_encode}
use Rattle.qspi_calls.specs.Promise.{ran_of, logged_of}

pub used_words : (r : Result) (log : List ℕ) → take (ran_of r).used (logged_of r log) ≡ encode r.log
used_words r log = take_at (encode r.log) (drop (2 * length r.log) log) (2 * length r.log) (length_encode r.log)

accesses_equal : {a b : Access} → ◌≡◌ {A = prelude.Result Access BadLog} (prelude.Ok a) (prelude.Ok b) → a ≡ b
accesses_equal e = cc

one_access : (a b : Access) → Aligned (offset_in a) → Aligned (offset_in b) → first_word a ≡ first_word b → value_word a ≡ value_word b → a ≡ b
one_access a b p q e f =
    let z : record_of_words (first_word a) (value_word a) ≡ record_of_words (first_word b) (value_word b) = rw (e, f) in
    accesses_equal (sym (read_words_lem a p) ∙ z ∙ read_words_lem b q)

pub one_log : (l m : List Access) → Loggable l → Loggable m → encode l ≡ encode m → l ≡ m
unfolding encode
one_log [] [] p q e = refl
one_log [] (b ∷ m) p q e = absurd (nil≢cons e)
one_log (a ∷ l) [] p q e = absurd (cons≢nil e)
one_log (a ∷ l) (b ∷ m) p q e =
    let t = tail-eq_of_cons-eq e in
    let h : a ≡ b = one_access a b p.0 q.0 (head-eq_of_cons-eq e) (head-eq_of_cons-eq t) in
    let r : l ≡ m = one_log l m p.1 q.1 (tail-eq_of_cons-eq t) in
    rw (h, r)
