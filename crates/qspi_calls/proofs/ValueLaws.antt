-- The values of an answer: one that has values says them, any other says none. Assumes nothing.
use Prim.Native.Nat.{ℕ}
use mathlib.Core.Path.{◌≡◌, refl, ap, ◌∙◌}
use mathlib.Core.Bool.{Bool, true, false, cond}
use mathlib.Core.List.{List, []}
use Rattle.qspi_script.specs.Answer.{said_by, values_in, values_of}
use Rattle.qspi_script.specs.declared.Gives.{Gives}
use Rattle.qspi_script.specs.declared.Gives.TheVariants as gives
use Rattle.qspi_script.specs.declared.Status.{Status}
use Rattle.qspi_script.specs.declared.Status.TheVariants.{Going, Done, OutOfRange, Alignment, DataTooLarge, NotAligned, CrossesPageBoundary, AddressSpan, FieldTooWide, EraseErrorBitSet, ProgrammingErrorBitSet, RepliesEnded, LogFull, LentLengthChanged, RepeatedSector, ListTooLong}
use Rattle.qspi_operation.specs.declared.Stepped.{Stepped}
use Rattle.qspi_operation.specs.Follows.{answer_by}
use Rattle.qspi_calls.specs.Values.{has_values}
use Rattle.qspi_calls.specs.Promise.{given_of, one_of}

-- whatever holds of all values said by one that has them, and of none by any other, holds of each
pub by_values : (a : Status) (P : Bool → (List ℕ → List ℕ) → Type 0) → P true (λ vs. vs) → P false (λ vs. []) → P (has_values a) (λ vs. values_in (said_by a vs))
by_values Going P d n = n
by_values Done P d n = d
by_values OutOfRange P d n = d
by_values Alignment P d n = d
by_values DataTooLarge P d n = n
by_values NotAligned P d n = n
by_values CrossesPageBoundary P d n = n
by_values AddressSpan P d n = n
by_values FieldTooWide P d n = n
by_values EraseErrorBitSet P d n = n
by_values ProgrammingErrorBitSet P d n = n
by_values RepliesEnded P d n = n
by_values LogFull P d n = n
by_values LentLengthChanged P d n = n
by_values RepeatedSector P d n = d
by_values ListTooLong P d n = n

-- the one value
pub one_value : (a : Status) (g : Gives) (k x y z : ℕ) → one_of (values_of (given_of a g) k x y z) ≡ one_of (values_in (said_by a (values_of g k x y z)))
one_value a g k x y z = by_values a (λ (b : Bool) (f : List ℕ → List ℕ). one_of (values_of (cond b g gives.Nothing) k x y z) ≡ one_of (f (values_of g k x y z))) refl refl

-- of what is handed back, once it is known what the call gives
pub value_is : (s : Stepped) {k : Gives} {v : ℕ} → k ≡ given_of s.answer s.op.job.script.gives → v ≡ one_of (values_of k s.op.job.low_level.clock s.op.wire.older s.op.wire.old s.op.wire.last) → v ≡ one_of (values_in (answer_by s).says)
value_is s e f =
    f ∙ ap (λ (z : Gives). one_of (values_of z s.op.job.low_level.clock s.op.wire.older s.op.wire.old s.op.wire.last)) e
    ∙ one_value s.answer s.op.job.script.gives s.op.job.low_level.clock s.op.wire.older s.op.wire.old s.op.wire.last
