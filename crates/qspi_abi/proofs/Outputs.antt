-- The numbers handed out are those of what the run promised. Assumes nothing.
use Prim.Native.Nat.{ℕ, zero, suc, ◌/◌}
use mathlib.Core.Path.{◌≡◌, refl, sym, ap, subst, ◌∙◌}
use mathlib.Core.Bool.{Bool, true, false, cond, ◌||◌}
use mathlib.Core.List.{List, []}
use lib.Dec.{ltb}
use lib.ListN.{length}
use Rattle.std.specs.Prelude.{Result, Ok, Err}
use Rattle.zynq7000.specs.Access.{encode}
use Rattle.zynq7000_hal.specs.declared.qspi.FieldTooWide.{FieldTooWide as too_wide}
use Rattle.zynq7000_hal.specs.declared.qspi.ClockConfig.{ClockConfig}
use Rattle.zedboard_bsp.specs.DeviceId.{reply_bytes, long_reply_bytes}
use Rattle.qspi_script.specs.Answer.{Answered, said_by, values_in}
use Rattle.qspi_script.specs.declared.Gives.{Gives}
use Rattle.qspi_script.specs.declared.Gives.TheVariants as gives
use Rattle.qspi_script.specs.declared.Job.{Job}
use Rattle.qspi_script.specs.declared.Status.{Status}
use Rattle.qspi_script.specs.declared.Status.TheVariants.{Done, FieldTooWide}
use Rattle.qspi_script.proofs.AnswerLaws.{zero_is_done}
use Rattle.qspi_operation.specs.declared.Op.{Op}
use Rattle.qspi_operation.specs.declared.Stepped.{Stepped}
use Rattle.qspi_operation.specs.Machine.{Script, onward, runs, reads_of, called}
use Rattle.qspi_operation.proofs.Verdicts.{no}
use Rattle.qspi_operation.specs.Points.{answered_of}
use Rattle.qspi_operation.specs.Follows.{given_by, answer_by, RunFollows}
use Rattle.qspi_calls.specs.Begins.{Begins, BeginsWith}
use Rattle.qspi_calls.specs.Calls as call
use Rattle.qspi_calls.specs.Promise.{kept_of, logged_of, Called}
use Rattle.qspi_calls.proofs.Promised.{whole_call}
use Rattle.qspi_calls.proofs.ValueLaws.{by_values}
use Rattle.power_cut.specs.Promise.{answer_of as pages_answer}
use Rattle.power_cut.specs.declared.PagesRan.{PagesRan}
use Rattle.qspi_abi.specs.Codes as codes
use Rattle.qspi_abi.specs.Numbers.{going_on, answer_number, ran, valued, pages, with_place, sectors, with_id, identified, with_long_id, identified_at_length, clock_config, Commands, Reads}
use Rattle.qspi_abi.specs.Numbers as numbers
use Rattle.qspi_abi.specs.declared.QspiRan.{QspiRan}
use Rattle.qspi_abi.specs.declared.QspiPagesRan.{QspiPagesRan}
use Rattle.qspi_abi.specs.declared.QspiValueRan.{QspiValueRan}
use Rattle.qspi_abi.specs.declared.QspiIdRan.{QspiIdRan}
use Rattle.qspi_abi.specs.declared.QspiLongIdRan.{QspiLongIdRan}

-- ---- the number of an answer

-- 0 is the number of a save that is done
pub zero_done : (p : PagesRan) {q : QspiPagesRan} {n : ℕ} → q ≡ pages (pages_answer p) → (p.ran.answer ≡ Done → p.programmed ≡ n) → q.answer ≡ 0 → q.programmed ≡ n
zero_done p e f z = ap (λ (x : QspiPagesRan). x.programmed) e ∙ f (zero_is_done p.ran.answer [] going_on refl (sym (ap (λ (x : QspiPagesRan). x.answer) e) ∙ z))

-- ---- runs

-- a call that is lent replies and a log, in numbers
module _ {o : Op} {log rs log₁ : List ℕ} {s : Stepped} (r : RunFollows o [] [] log rs s [] log₁) where
  pub commanded : {q : QspiRan} → q ≡ ran (answer_by s) → Commands o log rs q log₁
  commanded e c b = let w = whole_call c (record { bytes = []; buffer = []; room = length log }) b r refl refl in (e ∙ ap ran w.answer, w.logged)

  pub giving : {q : QspiValueRan} → q ≡ valued (answer_by s) → numbers.Gives o log rs q log₁
  giving e c b = let w = whole_call c (record { bytes = []; buffer = []; room = length log }) b r refl refl in (e ∙ ap valued w.answer, w.logged)

-- one that is lent a buffer too
pub reading : {o : Op} {buffer log rs buffer₁ log₁ : List ℕ} {s : Stepped} {q : QspiRan} → RunFollows o [] buffer log rs s buffer₁ log₁ → q ≡ ran (answer_by s) → Reads o buffer log rs q buffer₁ log₁
reading {buffer = buffer} {log = log} r e c b = let w = whole_call c (record { bytes = []; buffer = buffer; room = length log }) (b buffer refl) r refl refl in (e ∙ ap ran w.answer, (w.logged, w.stored))

-- and one that is lent data
pub programmed : (c : List ℕ → Script) {o : Op} {bytes log rs buffer₁ log₁ : List ℕ} {s : Stepped} {q : QspiRan} → BeginsWith (length bytes) (length log) c o → RunFollows o bytes [] log rs s buffer₁ log₁ → q ≡ ran (answer_by s)
    → (q ≡ ran (answered_of (called (c bytes) (length log / 2) rs))) × (log₁ ≡ logged_of (called (c bytes) (length log / 2) rs) log)
programmed c {bytes = bytes} {log = log} b r e = let w = whole_call (c bytes) (record { bytes = bytes; buffer = []; room = length log }) (b bytes refl) r refl refl in (e ∙ ap ran w.answer, w.logged)

-- ---- `initialize`

abbrev is_within : Result ClockConfig too_wide → Bool
is_within (Ok c) = true
is_within (Err e) = false

abbrev config_if : Bool → ClockConfig → Result ClockConfig too_wide
config_if t c = cond t (Err (record {})) (Ok c)

module _ (s d : ℕ) (loopback : Bool) (b : ℕ) (phase polarity : Bool) where
  abbrev config : ClockConfig
  config = record { src_sel = codes.source_of s; ref_clk_div = d; baud_rate_config = codes.baud_rate_of loopback b }

  is_refusal : {w : too_wide} → Err w ≡ codes.config_at s d loopback b → call.refused FieldTooWide ≡ codes.initialize s d loopback b phase polarity
  is_refusal {w} e = go (ltb 3 s || ltb 7 b) e
    where
      go : (t : Bool) → Err w ≡ config_if t config → call.refused FieldTooWide ≡ onward t (call.refused FieldTooWide) (call.initialize config phase polarity)
      go true f = refl
      go false f = no (ap is_within f)

abbrev too_wide_ran : QspiValueRan
too_wide_ran = record { answer = 12; value = 0; used = 0; replies = 0 }

refused_at_lem : (n : ℕ) (log rs : List ℕ) → (too_wide_ran ≡ valued (answered_of (called (call.refused FieldTooWide) n rs))) × (log ≡ logged_of (called (call.refused FieldTooWide) n rs) log)
unfolding runs reads_of encode
refused_at_lem zero log rs = (refl, refl)
refused_at_lem (suc n) log rs = (refl, refl)

pub refused : (s d : ℕ) (loopback : Bool) (b : ℕ) (phase polarity : Bool) (log rs : List ℕ) {w : too_wide} → Err w ≡ codes.config_at s d loopback b
    → (too_wide_ran ≡ valued (answered_of (called (codes.initialize s d loopback b phase polarity) (length log / 2) rs))) × (log ≡ logged_of (called (codes.initialize s d loopback b phase polarity) (length log / 2) rs) log)
refused s d loopback b phase polarity log rs e =
    subst (λ (z : Script). (too_wide_ran ≡ valued (answered_of (called z (length log / 2) rs))) × (log ≡ logged_of (called z (length log / 2) rs) log)) (is_refusal s d loopback b phase polarity e) (refused_at_lem (length log / 2) log rs)

-- ---- ids

-- an id that is not given yet is zeros, as its numbers are
id_zeros : (a : Status) (x : ℕ) (w : Answered) → with_id w (reply_bytes (kept_of a x)) ≡ with_id w (values_in (said_by a (reply_bytes x)))
id_zeros a x w = by_values a (λ (b : Bool) (f : List ℕ → List ℕ). with_id w (reply_bytes (cond b x 0)) ≡ with_id w (f (reply_bytes x))) refl refl

long_id_zeros : (a : Status) (x y z : ℕ) (w : Answered) → with_long_id w (long_reply_bytes (kept_of a x) (kept_of a y) (kept_of a z)) ≡ with_long_id w (values_in (said_by a (long_reply_bytes x y z)))
long_id_zeros a x y z w = by_values a (λ (b : Bool) (f : List ℕ → List ℕ). with_long_id w (long_reply_bytes (cond b x 0) (cond b y 0) (cond b z 0)) ≡ with_long_id w (f (long_reply_bytes x y z))) refl refl

-- the operation at the end of a run still gives what its call gives
gives_still : {g : Gives} (o : Op) (s : Stepped) → o.job.script.gives ≡ g → s.op.job ≡ o.job → s.op.job.script.gives ≡ g
gives_still o s e f = ap (λ (z : Job). z.script.gives) f ∙ e

module _ (c : Script) {o : Op} {log rs log₁ : List ℕ} {s : Stepped} (b : Begins (length log) c o) (r : RunFollows o [] [] log rs s [] log₁ × (s.op.job ≡ o.job)) where
  abbrev all_of_it : Called c log [] rs s [] log₁
  all_of_it = whole_call c (record { bytes = []; buffer = []; room = length log }) b r.0 refl refl

  pub identity : {bs : List ℕ} {q : QspiIdRan} → o.job.script.gives ≡ gives.Id → q ≡ with_id (answer_by s) bs → bs ≡ reply_bytes (kept_of s.answer s.op.wire.last)
      → (q ≡ identified (answered_of (called c (length log / 2) rs))) × (log₁ ≡ logged_of (called c (length log / 2) rs) log)
  identity g e f =
      let y : given_by s.op ≡ reply_bytes s.op.wire.last = rw (gives_still o s g r.1) in
      (e ∙ ap (with_id (answer_by s)) f ∙ id_zeros s.answer s.op.wire.last (answer_by s) ∙ ap (λ (z : List ℕ). with_id (answer_by s) (values_in (said_by s.answer z))) (sym y) ∙ ap identified all_of_it.answer, all_of_it.logged)

  pub long_identity : {bs : List ℕ} {q : QspiLongIdRan} → o.job.script.gives ≡ gives.LongId → q ≡ with_long_id (answer_by s) bs
      → bs ≡ long_reply_bytes (kept_of s.answer s.op.wire.older) (kept_of s.answer s.op.wire.old) (kept_of s.answer s.op.wire.last)
      → (q ≡ identified_at_length (answered_of (called c (length log / 2) rs))) × (log₁ ≡ logged_of (called c (length log / 2) rs) log)
  long_identity g e f =
      let y : given_by s.op ≡ long_reply_bytes s.op.wire.older s.op.wire.old s.op.wire.last = rw (gives_still o s g r.1) in
      (e ∙ ap (with_long_id (answer_by s)) f ∙ long_id_zeros s.answer s.op.wire.older s.op.wire.old s.op.wire.last (answer_by s) ∙ ap (λ (z : List ℕ). with_long_id (answer_by s) (values_in (said_by s.answer z))) (sym y) ∙ ap identified_at_length all_of_it.answer, all_of_it.logged)
