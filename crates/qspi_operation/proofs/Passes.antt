-- A pass stands for a step, the passes of a transfer are a part of the run, and so are its transfers. Assumes nothing.
use Rattle.std.proofs.Common.{◌≡◌, ℕ, ◌+◌, ◌<◌, ◌≤◌, Bool, true, false, List, length, sym, refl, ap, ◌∙◌, subst, arith}
use Rattle.std.specs.Prelude.{Option, Some, None, Result, Ok, Err}
use Rattle.qspi_transfer.specs.Wire.{wire_next}
use Rattle.qspi_transfer.specs.declared.Frame.{Frame}
use Rattle.qspi_transfer.specs.declared.Wire.{Wire}
use Rattle.qspi_script.specs.Stages.{frame_of}
use Rattle.qspi_script.specs.declared.Status.{Status}
use Rattle.qspi_script.specs.declared.Status.TheVariants as status
use Rattle.qspi_script.specs.declared.Status.TheVariants.{Going}
use Rattle.qspi_operation.specs.declared.Accessed.{Accessed}
use Rattle.qspi_operation.specs.declared.NoAccess.{NoAccess}
use Rattle.qspi_operation.specs.declared.NoAccess.TheVariants.{LentLengthChanged, LogFull, RepliesEnded}
use Rattle.qspi_operation.specs.declared.Op.{Op}
use Rattle.qspi_operation.specs.declared.Passed.{Passed}
use Rattle.qspi_operation.specs.declared.Stepped.{Stepped}
use Rattle.qspi_operation.specs.Store.{stored}
use Rattle.qspi_operation.specs.Step.{Verdict, Ended, is_going, choose, going, verdict_of, moved_by, counted, written, reply_of}
use Rattle.qspi_operation.specs.Pass.{verdict_on, stands_for, left, Onward}
use Rattle.qspi_operation.specs.Run.{run_at, fuel}
use Rattle.qspi_operation.proofs.Runs.{Turn, turn}
use Rattle.qspi_operation.proofs.Verdicts.{no, Promised, by_verdict, by_access}

-- only `Going` goes on
pub going_is : (a : Status) → is_going a ≡ true → a ≡ Going
going_is status.Going g = refl
going_is status.Done g = no g
going_is status.OutOfRange g = no g
going_is status.Alignment g = no g
going_is status.DataTooLarge g = no g
going_is status.NotAligned g = no g
going_is status.CrossesPageBoundary g = no g
going_is status.AddressSpan g = no g
going_is status.FieldTooWide g = no g
going_is status.EraseErrorBitSet g = no g
going_is status.ProgrammingErrorBitSet g = no g
going_is status.RepliesEnded g = no g
going_is status.LogFull g = no g
going_is status.LentLengthChanged g = no g
going_is status.RepeatedSector g = no g
going_is status.ListTooLong g = no g

-- ---- one pass

module _ (o : Op) (bytes buffer log : List ℕ) (r : Option ℕ) (g : o.status ≡ Going) where
  judged : {v : Verdict} → v ≡ going o bytes (length buffer) (length log) r → verdict_of o bytes (length buffer) (length log) r ≡ v
  judged e = ap (λ (z : Status). choose (is_going z) (going o bytes (length buffer) (length log) r) Ended) g ∙ sym e

  pub refuses : (e : NoAccess) → verdict_on (Err e) ≡ going o bytes (length buffer) (length log) r → Promised o bytes buffer log r (stands_for (Err e) o) log buffer
  refuses LentLengthChanged h = by_verdict o bytes buffer log r (judged h)
  refuses LogFull h = by_verdict o bytes buffer log r (judged h)
  refuses RepliesEnded h = by_verdict o bytes buffer log r (judged h)

  pub made : (a : Accessed) {n : ℕ} {f : Frame} {w : Option Wire} {log₁ buffer₁ : List ℕ} → verdict_on (Ok a) ≡ going o bytes (length buffer) (length log) r → f ≡ frame_of o.job o.place
      → w ≡ wire_next o.wire f a.value → n ≡ counted a.read o.replies → log₁ ≡ written log o.used a.first a.value → buffer₁ ≡ stored o.job o.place o.wire a.value buffer
      → Promised o bytes buffer log r (stands_for (Ok (record { wire = w; used = o.used + 2; replies = n })) o) log₁ buffer₁
  made a {n = n} h e₁ e₂ e₃ e₄ e₅ =
      by_access o bytes buffer log r (judged h) e₃ (ap (λ (z : Option Wire). moved_by z o (o.used + 2) n) (e₂ ∙ ap (λ (z : Frame). wire_next o.wire z a.value) e₁)) e₄ e₅

-- an operation that has ended repeats its answer
pub ended : (o : Op) (bytes buffer log : List ℕ) (r : Option ℕ) → is_going o.status ≡ false → Promised o bytes buffer log r (record { op = o; answer = o.status }) log buffer
ended o bytes buffer log r e =
    by_verdict o bytes buffer log r (ap (λ (b : Bool). choose b (going o bytes (length buffer) (length log) r) Ended) e)

-- ---- the passes of a transfer

-- its operation so far
abbrev pub at : Op → Wire → ℕ → ℕ → Op
at o w used replies = record { job = o.job; place = o.place; wire = w; used = used; replies = replies; status = Going }

-- how far a transfer has come: the run from there is the run from its start
pub record Way (o : Op) (bytes rs buffer log : List ℕ) (o₁ : Op) (buffer₁ log₁ : List ℕ) : Type 0 where
  pub same : run_at (fuel o log) true Going o bytes rs buffer log ≡ run_at (fuel o₁ log₁) true Going o₁ bytes rs buffer₁ log₁
  pub most : fuel o₁ log₁ ≤ fuel o log
  pub long : length log₁ ≡ length log
  pub wide : length buffer₁ ≡ length buffer

pub begins : (o : Op) (bytes rs buffer log : List ℕ) → o.status ≡ Going → Way o bytes rs buffer log (at o o.wire o.used o.replies) buffer log
begins o bytes rs buffer log g =
    let e : at o o.wire o.used o.replies ≡ o = ap (λ (z : Status). record { job = o.job; place = o.place; wire = o.wire; used = o.used; replies = o.replies; status = z }) (sym g) in
    record { same = ap (λ (z : Op). run_at (fuel z log) true Going z bytes rs buffer log) (sym e); most = omega arith; long = refl; wide = refl }

status_by : (x : Result Passed NoAccess) (o : Op) → is_going (stands_for x o).answer ≡ true → (stands_for x o).op.status ≡ Going
status_by (Ok x) o h = go x.wire h
  where
    go : (w : Option Wire) → is_going (moved_by w o x.used x.replies).answer ≡ true → (moved_by w o x.used x.replies).op.status ≡ Going
    go (Some w) k = refl
    go None k = going_is (moved_by None o x.used x.replies).answer k
status_by (Err LentLengthChanged) o h = no h
status_by (Err LogFull) o h = no h
status_by (Err RepliesEnded) o h = no h

module _ (o : Op) (bytes rs buffer log : List ℕ) (o₁ : Op) (buffer₁ log₁ : List ℕ) (y : Way o bytes rs buffer log o₁ buffer₁ log₁) (buffer₂ log₂ : List ℕ) where
  abbrev pub Steps : Stepped → Type 0
  Steps s = Promised o₁ bytes buffer₁ log₁ (reply_of rs o₁.replies) s log₂ buffer₂

  -- a pass that is not the last one is a part of the run as it stands
  turns : (s : Stepped) → Steps s → Turn true Going o₁ bytes rs buffer₁ log₁ s buffer₂ log₂
  turns s p = turn true Going o₁ bytes rs buffer₁ log₁ s buffer₂ log₂ refl p.0 p.1.0 p.1.1

  pub onward : (x : Result Passed NoAccess) {s : Stepped} → Steps (stands_for x o₁) → s ≡ stands_for x o₁ → Onward o bytes rs buffer log s buffer₂ log₂
  onward x p e =
      let t = turns (stands_for x o₁) p in
      rw e (record { same = y.same ∙ t.same; fewer = omega (arith, y.most, t.fewer); long = t.long ∙ y.long; wide = t.wide ∙ y.wide; status = status_by x o₁ })

  -- where the transfer goes on
  pub record Goes (w : Wire) (used replies : ℕ) : Type 0 where
    pub way : Way o bytes rs buffer log (at o₁ w used replies) buffer₂ log₂
    pub less : fuel (at o₁ w used replies) log₂ < fuel o₁ log₁

  pub goes : (x : Passed) (w : Wire) → Steps (stands_for (Ok x) o₁) → x.wire ≡ Some w → Goes w x.used x.replies
  goes x w p e =
      let t : Turn true Going o₁ bytes rs buffer₁ log₁ (moved_by (Some w) o₁ x.used x.replies) buffer₂ log₂ = turns (moved_by (Some w) o₁ x.used x.replies) (subst (λ (z : Option Wire). Steps (moved_by z o₁ x.used x.replies)) e p) in
      record { way = record { same = y.same ∙ t.same; most = omega (arith, y.most, t.fewer); long = t.long ∙ y.long; wide = t.wide ∙ y.wide }; less = t.fewer }

-- a transfer at hand: it has come so far, and of its operation only the wire and the used counts have moved
pub record Underway (o : Op) (bytes rs buffer log : List ℕ) (o₁ : Op) (buffer₁ log₁ : List ℕ) : Type 0 where
  pub way : Way o bytes rs buffer log o₁ buffer₁ log₁
  pub kept : o₁ ≡ at o o₁.wire o₁.used o₁.replies

pub sets_out : (o : Op) (bytes rs buffer log : List ℕ) → o.status ≡ Going → Underway o bytes rs buffer log o buffer log
sets_out o bytes rs buffer log g =
    record { way = record { same = refl; most = omega arith; long = refl; wide = refl }; kept = ap (λ (z : Status). record { job = o.job; place = o.place; wire = o.wire; used = o.used; replies = o.replies; status = z }) g }

-- the same with another wire and other counts
abbrev pub moved_to : Op → Wire → ℕ → ℕ → Op
moved_to o w used replies = record { job = o.job; place = o.place; wire = w; used = used; replies = replies; status = o.status }

module _ (o : Op) (bytes rs buffer log : List ℕ) (o₁ : Op) (buffer₁ log₁ : List ℕ) (y : Underway o bytes rs buffer log o₁ buffer₁ log₁) (buffer₂ log₂ : List ℕ) (x : Passed) (w : Wire) (p : Promised o₁ bytes buffer₁ log₁ (reply_of rs o₁.replies) (stands_for (Ok x) o₁) log₂ buffer₂) (e : x.wire ≡ Some w) where
  there : at o₁ w x.used x.replies ≡ moved_to o₁ w x.used x.replies
  there = ap (λ (z : Op). record { job = o₁.job; place = o₁.place; wire = w; used = x.used; replies = x.replies; status = z.status }) (sym y.kept)

  pub goes_on : Underway o bytes rs buffer log (moved_to o₁ w x.used x.replies) buffer₂ log₂
  goes_on = record {
    way = subst (λ (z : Op). Way o bytes rs buffer log z buffer₂ log₂) there (goes o bytes rs buffer log o₁ buffer₁ log₁ y.way buffer₂ log₂ x w p e).way;
    kept = ap (λ (z : Op). moved_to z w x.used x.replies) y.kept;
  }

  pub less_on : fuel (moved_to o₁ w x.used x.replies) log₂ < fuel o₁ log₁
  less_on = subst (λ (z : Op). fuel z log₂ < fuel o₁ log₁) there (goes o bytes rs buffer log o₁ buffer₁ log₁ y.way buffer₂ log₂ x w p e).less

-- ---- a turn of the run's loop

pub same_run : (n : ℕ) (a : Status) (o : Op) (bytes rs buffer log : List ℕ) → is_going a ≡ true → run_at n (is_going a) a o bytes rs buffer log ≡ run_at n true Going o bytes rs buffer log
same_run n a o bytes rs buffer log g = ap (λ (z : Status). run_at n (is_going z) z o bytes rs buffer log) (going_is a g)

pub less_left : (b : Bool) (k n : ℕ) → b ≡ true → k < n → k < left b n
less_left true k n e h = h
less_left false k n e h = no e
