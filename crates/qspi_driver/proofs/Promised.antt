-- What the driver promises over lists, out of what it says by counters. Assumes nothing.
use Rattle.std.specs.Prelude.{Option}
use Prim.Native.Nat.{ℕ}
use mathlib.Core.Path.{◌≡◌, refl, ap, subst, ◌∙◌, sym}
use mathlib.Core.Bool.{Bool, false}
use mathlib.Core.List.{List, [], ◌∷◌}
use lib.ListN.{length}
use Rattle.zedboard_bsp.specs.Words.{top_byte}
use Rattle.zedboard_bsp.specs.DeviceId.{reply_bytes, long_reply_bytes}
use Rattle.qspi_script.specs.Answer.{said_by, values_of}
use Rattle.qspi_script.specs.declared.Gives.TheVariants as gives
use Rattle.qspi_script.specs.declared.Gives.{Gives}
use Rattle.qspi_script.specs.declared.Status.{Status}
use Rattle.qspi_script.specs.declared.Status.TheVariants.{Going, Done, OutOfRange, Alignment, DataTooLarge, NotAligned, CrossesPageBoundary, AddressSpan, FieldTooWide, EraseErrorBitSet, ProgrammingErrorBitSet, RepliesEnded, LogFull, LentLengthChanged, RepeatedSector, ListTooLong}
use Rattle.qspi_operation.specs.declared.Op.{Op}
use Rattle.qspi_operation.specs.Step.{Asked}
use Rattle.qspi_operation.specs.declared.Stepped.{Stepped}
use Rattle.qspi_operation.specs.Run.{run_of}
use Rattle.qspi_operation.specs.Step.{is_going, step_of, log_of, buffer_of, due_of}
use Rattle.qspi_operation.specs.Follows.{Begun, StepFollows, DueFollows, RunFollows, answer_of}
use Rattle.qspi_operation.proofs.Verdicts.{Promised}
use Rattle.qspi_operation.proofs.Following.{shows, on_step, on_run}
use Rattle.qspi_calls.specs.Promise.{kept_of, given_of}
use Rattle.power_cut.specs.Saving.{KeepsSaving}
use Rattle.power_cut.proofs.Stepped.{saving_begins, step_saves, run_saves}
use Rattle.qspi_operation.specs.Step.{erases_list}
use Rattle.qspi_driver.specs.State.{begun_if, begun_of, stepped_of, progress_of, values_given, place_given, answered_in}
use Rattle.qspi_driver.specs.Driver.{Driver, Drive, refused, driven_if, driven_of}
use Rattle.qspi_driver.specs.Promise.{Started, Steps, AnswerFollows, Drives}
use Rattle.qspi_driver.specs.declared.Driven.{Driven}
use Rattle.qspi_driver.specs.declared.state.State.{State}
use Rattle.qspi_driver.specs.State.{Answer}
use Rattle.qspi_driver.specs.declared.state.Acted.{Acted}
use Rattle.qspi_driver.specs.declared.state.Progress.{Progress}

-- ---- a start

pub started : (s : State) (op : Op) {x : Acted} → x ≡ begun_of s op → (x ≡ begun_of s op) × Started s.op op x.answer x.state.op
started s op {x} e = (
  e,
  record {
    busy = λ g. let y = taken g refl in (ap (λ (w : Acted). w.answer) y, ap (λ (w : Acted). w.state.op) y);
    missing = λ g k. let y = taken g k in (ap (λ (w : Acted). w.answer) y, ap (λ (w : Acted). w.state.op) y);
    takes = λ g k. let y = taken g k in (ap (λ (w : Acted). w.answer) y, is-op g k);
    begins = λ g k l c h. subst (Begun l c) (sym (is-op g k)) h;
    saves = λ g k a bs log octets h. saving_begins a bs log octets (λ b n. subst (Begun _ _) (sym (is-op g k)) (h b n));
  },
)
  where
    taken : {b m : Bool} → is_going s.op.status ≡ b → erases_list op ≡ m → x ≡ begun_if b m s op
    taken {b} g k = e ∙ (ap (λ (y : Bool). begun_if y (erases_list op) s op) g ∙ ap (λ (y : Bool). begun_if b y s op) k)

    is-op : is_going s.op.status ≡ false → erases_list op ≡ false → x.state.op ≡ op
    is-op g k = ap (λ (w : Acted). w.state.op) (taken g k)

-- ---- a step

pub steps : (s : State) (bytes buffer log : List ℕ) (r : Option ℕ) {x : Acted} {buffer₁ log₁ : List ℕ} → x ≡ stepped_of s bytes (length buffer) (length log) r → buffer₁ ≡ buffer_of s.op bytes buffer (length log) r → log₁ ≡ log_of s.op bytes (length buffer) log r
    → Steps s.op bytes buffer log r x.answer x.state.op buffer₁ log₁
steps s bytes buffer log r {x} {buffer₁} {log₁} e f g =
    let y : Stepped = step_of s.op bytes (length buffer) (length log) r in
    let z : Stepped = record { op = x.state.op; answer = y.answer } in
    let i : x.state.op ≡ y.op = ap (λ (w : Acted). w.state.op) e in
    let h : Promised s.op bytes buffer log r z log₁ buffer₁ = (ap (λ (o : Op). record { op = o; answer = y.answer }) i, (g, f)) in
    let k : StepFollows s.op bytes buffer log r z buffer₁ log₁ = on_step s.op bytes buffer log r h in
    record { status = y.answer; given = ap (λ (w : Acted). w.answer) e; follows = k; saves = step_saves s.op bytes buffer log r k }

-- the same of the data that the operation is lent
pub steps_with : {s : State} {lent bytes buffer log : List ℕ} {r : Option ℕ} {x : Acted} {buffer₁ log₁ : List ℕ} → lent ≡ bytes → x ≡ stepped_of s lent (length buffer) (length log) r → buffer₁ ≡ buffer_of s.op lent buffer (length log) r → log₁ ≡ log_of s.op lent (length buffer) log r
    → (x ≡ stepped_of s bytes (length buffer) (length log) r) × (buffer₁ ≡ buffer_of s.op bytes buffer (length log) r) × (log₁ ≡ log_of s.op bytes (length buffer) log r) × Steps s.op bytes buffer log r x.answer x.state.op buffer₁ log₁
steps_with {s} {lent} {bytes} {buffer} {log} {r} same e f g =
    let e₁ = e ∙ ap (λ (l : List ℕ). stepped_of s l (length buffer) (length log) r) same in
    let f₁ = f ∙ ap (λ (l : List ℕ). buffer_of s.op l buffer (length log) r) same in
    let g₁ = g ∙ ap (λ (l : List ℕ). log_of s.op l (length buffer) log r) same in
    (e₁, f₁, g₁, steps s bytes buffer log r e₁ f₁ g₁)

pub due_with : {o : Op} {lent bytes : List ℕ} {a : Asked} → lent ≡ bytes → (a ≡ due_of o lent) × DueFollows o lent a → (a ≡ due_of o bytes) × DueFollows o bytes a
due_with {o} {lent} {bytes} {a} same h = subst (λ (l : List ℕ). (a ≡ due_of o l) × DueFollows o l a) same h

-- ---- the answer so far

-- what a call has not given yet is not said
not_yet : (a : Status) (g : Gives) (k x y z : ℕ) → said_by a (values_of (given_of a g) (kept_of a k) (kept_of a x) (kept_of a y) (kept_of a z)) ≡ said_by a (values_of g k x y z)
not_yet Going g k x y z = refl
not_yet Done g k x y z = refl
not_yet OutOfRange g k x y z = refl
not_yet Alignment g k x y z = refl
not_yet DataTooLarge g k x y z = refl
not_yet NotAligned g k x y z = refl
not_yet CrossesPageBoundary g k x y z = refl
not_yet AddressSpan g k x y z = refl
not_yet FieldTooWide g k x y z = refl
not_yet EraseErrorBitSet g k x y z = refl
not_yet ProgrammingErrorBitSet g k x y z = refl
not_yet RepliesEnded g k x y z = refl
not_yet LogFull g k x y z = refl
not_yet LentLengthChanged g k x y z = refl
not_yet RepeatedSector g k x y z = refl
not_yet ListTooLong g k x y z = refl

pub answers : (o : Op) {r : Progress} → r ≡ progress_of o → (r ≡ progress_of o) × AnswerFollows o r
answers o {r} e =
    let y : answered_in (progress_of o) ≡ answer_of o = rw (not_yet o.status o.job.script.gives o.job.low_level.clock o.wire.older o.wire.old o.wire.last) in
    (e, λ g p f. ap answered_in e ∙ y ∙ (shows g f).answer)

-- ---- the values of an answer, by what the call gives

pub place_given_lem : (p : Progress) {r : ℕ} → r ≡ place_given p.gives → (r ≡ place_given p.gives) × ((n : ℕ) → p.gives ≡ gives.Place n → values_given p ≡ r ∷ [])
place_given_lem p {r} e = (e, λ n h. ap (λ (g : Gives). values_of g p.clock p.older p.old p.last) h ∙ ap (λ (z : ℕ). z ∷ []) (sym (e ∙ ap place_given h)))

module _ (p : Progress) where
  pub register_given : {r : ℕ} → r ≡ top_byte p.last → (r ≡ top_byte p.last) × (p.gives ≡ gives.Register → values_given p ≡ r ∷ [])
  register_given e = (e, λ g. ap (λ (z : Gives). values_of z p.clock p.older p.old p.last) g ∙ ap (λ (z : ℕ). z ∷ []) (sym e))

  pub id_given : {bs : List ℕ} → bs ≡ reply_bytes p.last → (bs ≡ reply_bytes p.last) × (p.gives ≡ gives.Id → values_given p ≡ bs)
  id_given e = (e, λ g. ap (λ (z : Gives). values_of z p.clock p.older p.old p.last) g ∙ sym e)

  pub long_id_given : {bs : List ℕ} → bs ≡ long_reply_bytes p.older p.old p.last → (bs ≡ long_reply_bytes p.older p.old p.last) × (p.gives ≡ gives.LongId → values_given p ≡ bs)
  long_id_given e = (e, λ g. ap (λ (z : Gives). values_of z p.clock p.older p.old p.last) g ∙ sym e)

  pub clock_given : {r : ℕ} → r ≡ p.clock → (r ≡ p.clock) × (p.gives ≡ gives.Clock → values_given p ≡ r ∷ [])
  clock_given e = (e, λ g. ap (λ (z : Gives). values_of z p.clock p.older p.old p.last) g ∙ ap (λ (z : ℕ). z ∷ []) (sym e))

-- ---- a whole call

pub drives : (d : Driver) (op : Op) (bytes buffer log rs : List ℕ) {r : Driven} {buffer₁ log₁ : List ℕ} → record { driver = r.driver; answer = r.answer; buffer = buffer₁; log = log₁ } ≡ driven_of d op bytes rs buffer log
    → Drives d op bytes buffer log rs r buffer₁ log₁
drives d op bytes buffer log rs {r} {buffer₁} {log₁} e = record {
  busy = λ g. untouched (decided g refl);
  missing = λ g k. untouched (decided g k);
  status = (run_of op bytes rs buffer log).answer;
  given = λ g k. ap (λ (x : Drive). x.answer) (decided g k);
  runs = follows;
  saves = λ g k a octets empty h. (keeps g k).goes a empty (saving_begins a bytes log octets h);
  keeps = keeps;
}
  where
    decided : {b m : Bool} → is_going d.state.op.status ≡ b → erases_list op ≡ m → record { driver = r.driver; answer = r.answer; buffer = buffer₁; log = log₁ } ≡ driven_if b m d (run_of op bytes rs buffer log) buffer log
    decided {b} g k = e ∙ (ap (λ (y : Bool). driven_if y (erases_list op) d (run_of op bytes rs buffer log) buffer log) g ∙ ap (λ (y : Bool). driven_if b y d (run_of op bytes rs buffer log) buffer log) k)

    untouched : {a : Answer} → record { driver = r.driver; answer = r.answer; buffer = buffer₁; log = log₁ } ≡ refused d a buffer log → (r.driver ≡ d) × ((r.answer ≡ a) × ((log₁ ≡ log) × (buffer₁ ≡ buffer)))
    untouched y = (ap (λ (x : Drive). x.driver) y, (ap (λ (x : Drive). x.answer) y, (ap (λ (x : Drive). x.log) y, ap (λ (x : Drive). x.buffer) y)))

    follows : is_going d.state.op.status ≡ false → erases_list op ≡ false → RunFollows op bytes buffer log rs (record { op = r.driver.state.op; answer = (run_of op bytes rs buffer log).answer }) buffer₁ log₁
    follows g k =
        let y = decided g k in
        on_run op bytes buffer log rs (record { op = ap (λ (x : Drive). x.driver.state.op) y; answer = refl; stored = ap (λ (x : Drive). x.buffer) y; logged = ap (λ (x : Drive). x.log) y })

    keeps : is_going d.state.op.status ≡ false → erases_list op ≡ false → KeepsSaving op bytes buffer log r.driver.state.op log₁
    keeps g k = run_saves op bytes buffer log rs (follows g k)
