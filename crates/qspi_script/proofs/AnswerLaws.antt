-- What is said tells the status, and 0 is said only by a call that is done. Assumes nothing.
use Rattle.std.proofs.Common.{◌≡◌, ℕ, cond, eqb, List, sym, refl, ap, ◌∙◌, arith}
use Rattle.qspi_script.specs.Answer.{Said, said_by, number_in, or_else, values_in}
use Rattle.qspi_script.specs.declared.Status.{Status}
use Rattle.qspi_script.specs.declared.Status.TheVariants.{Going, Done, OutOfRange, Alignment, DataTooLarge, NotAligned, CrossesPageBoundary, AddressSpan, FieldTooWide, EraseErrorBitSet, ProgrammingErrorBitSet, RepliesEnded, LogFull, LentLengthChanged, RepeatedSector, ListTooLong}

-- the status that a number stands for; any other number is that of no answer
abbrev status_from : ℕ → Status
status_from n =
    cond (eqb n 0) Done
    (cond (eqb n 1) OutOfRange
    (cond (eqb n 2) Alignment
    (cond (eqb n 3) DataTooLarge
    (cond (eqb n 4) NotAligned
    (cond (eqb n 5) CrossesPageBoundary
    (cond (eqb n 10) AddressSpan
    (cond (eqb n 12) FieldTooWide
    (cond (eqb n 21) EraseErrorBitSet
    (cond (eqb n 22) ProgrammingErrorBitSet
    (cond (eqb n 23) RepliesEnded
    (cond (eqb n 24) LogFull
    (cond (eqb n 25) LentLengthChanged
    (cond (eqb n 32) RepeatedSector
    (cond (eqb n 33) ListTooLong Going))))))))))))))

tells : (a : Status) (vs : List ℕ) (w : ℕ) → status_from w ≡ Going → status_from (or_else (number_in (said_by a vs)) w) ≡ a
tells a vs w e = grind (arith, e)

-- THEOREM. Equal words, equal status; so a promise on what is said fixes the status.
pub said_fixes : (a b : Status) (vs ws : List ℕ) → said_by a vs ≡ said_by b ws → a ≡ b
said_fixes a b vs ws e = sym (tells a vs 26 refl) ∙ ap (λ (s : Said). status_from (or_else (number_in s) 26)) e ∙ tells b ws 26 refl

-- and the values, where the call is done
pub done_values : (vs ws : List ℕ) → said_by Done vs ≡ said_by Done ws → vs ≡ ws
done_values vs ws e = ap values_in e

-- THEOREM. 0 is said only by a call that is done, whatever other number stands for one that goes on.
pub zero_is_done : (a : Status) (vs : List ℕ) (w : ℕ) → status_from w ≡ Going → or_else (number_in (said_by a vs)) w ≡ 0 → a ≡ Done
zero_is_done a vs w e h = sym (tells a vs w e) ∙ ap status_from h

-- the number does not depend on the values
pub number_alone : (a : Status) (vs ws : List ℕ) → number_in (said_by a vs) ≡ number_in (said_by a ws)
number_alone a vs ws = grind arith
