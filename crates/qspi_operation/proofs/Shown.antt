-- A step logs what a query of the same operation and data showed: document 01, "The access due can be asked for beforehand without effect". Assumes nothing.
use Rattle.std.proofs.Common.{◌≡◌, ℕ, suc, ◌+◌, ◌*◌, Bool, true, false, ◌&&◌, eqb, leb, List, [], ◌∷◌, length, sym, refl, ap, ◌∙◌, add-one, arith}
use lib.Seq.{sets}
use Rattle.zynq7000.specs.Access.{encode}
use Rattle.zynq7000.specs.declared.qspi.Access.{Access}
use Rattle.zynq7000.specs.declared.qspi.Access.TheVariants as access
use Rattle.qspi_transfer.specs.Wire.{wire_next}
use Rattle.qspi_transfer.specs.declared.Due.{Due}
use Rattle.qspi_transfer.specs.declared.Due.TheVariants as due
use Rattle.qspi_transfer.specs.declared.Wire.{Wire}
use Rattle.qspi_script.specs.Stages.{frame_of}
use Rattle.qspi_operation.specs.declared.Op.{Op}
use Rattle.std.specs.Prelude.{Option, Some, None, Ok, Err}
use Rattle.qspi_operation.specs.Step.{Ended, Changed, Full}
use Rattle.qspi_operation.specs.Machine.{Want, reads, writes, nothing}
use Rattle.qspi_operation.specs.Points.{Point, wanted, access_if, access_at}
use Rattle.qspi_operation.specs.Follows.{asked_for}
use Rattle.qspi_operation.specs.Step.{Asked, length_changed, is_going, access_of, shown, pick_asked, due_of, answered, choose, same_lengths, act, moved, moved_by, counted, written, noted, step_of, log_of}

-- the access that a query showed, a read with the word of the reply; none without a reply, and none where it showed none
abbrev pub showing : Asked → Option ℕ → List Access
showing (Ok (Some (due.Read k))) (Some v) = access.Read k v ∷ []
showing (Ok (Some (due.Read k))) None = []
showing (Ok (Some (due.Write k v))) r = access.Write k v ∷ []
showing (Ok None) r = []
showing (Err e) r = []

abbrev pub when : Bool → List Access → List Access
when true l = l
when false l = []

when_none : (b : Bool) → when b [] ≡ []
when_none true = refl
when_none false = refl

module _ (o : Op) (bytes buffer log : List ℕ) (r : Option ℕ) where
  -- whether the step is lent the lengths of the start and has room for an access
  abbrev able : Bool
  able = same_lengths o.job (length bytes) (length buffer) (length log) && leb (o.used + 2) (length log)

  two : (x y : ℕ) → written log o.used x y ≡ sets log o.used (x ∷ y ∷ [])
  two x y = let e : o.used + 1 ≡ suc o.used = add-one o.used in rw e

  -- THEOREM. A step logs what `due` showed of the same operation and data: that read with the reply's word, or that write, at the used words; where the lengths are not those of the
  -- start, or the room is not there, or a read has no reply, it logs nothing.
  pub logs_shown : log_of o bytes (length buffer) log r ≡ sets log o.used (encode (when able (showing (due_of o bytes) r)))
  unfolding encode
  logs_shown = go (is_going o.status) (eqb (length bytes) o.job.lent.«data») (eqb (length buffer) o.job.lent.buffer && eqb (length log) o.job.lent.log) (leb (o.used + 2) (length log)) (access_of o.job o.place o.wire bytes) r
    where
      go : (g d x f : Bool) (w : Due) (r : Option ℕ) → noted (choose g (choose (d && x) (choose f (answered w r) Full) Changed) Ended) o.used log
          ≡ sets log o.used (encode (when ((d && x) && f) (showing (pick_asked g (pick_asked d (shown w) length_changed) (Ok None)) r)))
      go false d x f w r = ap (λ (l : List Access). sets log o.used (encode l)) (sym (when_none ((d && x) && f)))
      go true false x f w r = refl
      go true true false f w r = refl
      go true true true false w r = refl
      go true true true true (due.Read k) (Some v) = two (0x100 + k) v
      go true true true true (due.Read k) None = refl
      go true true true true (due.Write k v) r = two k v

  -- and the used words grow by those of that access
  pub uses_shown : (step_of o bytes (length buffer) (length log) r).op.used ≡ o.used + 2 * length (when able (showing (due_of o bytes) r))
  uses_shown = go (is_going o.status) (eqb (length bytes) o.job.lent.«data») (eqb (length buffer) o.job.lent.buffer && eqb (length log) o.job.lent.log) (leb (o.used + 2) (length log)) (access_of o.job o.place o.wire bytes) r
    where
      on : (u n v : ℕ) → (moved o u n v).op.used ≡ u
      on u n v = by (wire_next o.wire (frame_of o.job o.place) v)
        where
          by : (m : Option Wire) → (moved_by m o u n).op.used ≡ u
          by (Some w) = refl
          by None = refl

      same : (l : List Access) → l ≡ [] → o.used ≡ o.used + 2 * length l
      same l e = rw e (let z : o.used ≡ o.used + 2 * 0 = omega arith in z)

      go : (g d x f : Bool) (w : Due) (r : Option ℕ) → (act (choose g (choose (d && x) (choose f (answered w r) Full) Changed) Ended) o).op.used
          ≡ o.used + 2 * length (when ((d && x) && f) (showing (pick_asked g (pick_asked d (shown w) length_changed) (Ok None)) r))
      go false d x f w r = same _ (when_none ((d && x) && f))
      go true false x f w r = same _ refl
      go true true false f w r = same _ refl
      go true true true false w r = same _ refl
      go true true true true (due.Read k) (Some v) = on (o.used + 2) (counted true o.replies) v
      go true true true true (due.Read k) None = same _ refl
      go true true true true (due.Write k v) r = on (o.used + 2) (counted false o.replies) v

  -- where `due` shows no access a step logs nothing
  pub logs_none : due_of o bytes ≡ Ok None → log_of o bytes (length buffer) log r ≡ log
  unfolding encode
  logs_none e = logs_shown ∙ ap (λ (a : Asked). sets log o.used (encode (when able (showing a r)))) e ∙ ap (λ (l : List Access). sets log o.used (encode l)) (when_none able)

  pub logs_none_changed : due_of o bytes ≡ length_changed → log_of o bytes (length buffer) log r ≡ log
  unfolding encode
  logs_none_changed e = logs_shown ∙ ap (λ (a : Asked). sets log o.used (encode (when able (showing a r)))) e ∙ ap (λ (l : List Access). sets log o.used (encode l)) (when_none able)

-- the same over lists: the access of a step is the one that is wanted
pub makes_shown : (room : ℕ) (r : Option ℕ) (p : Point) → access_at room r p ≡ when (leb (2 * length p.made + 2) room) (showing (asked_for (wanted p)) r)
makes_shown room r p = go (leb (2 * length p.made + 2) room) (wanted p) r
  where
    go : (b : Bool) (w : Want) (r : Option ℕ) → access_if b w r ≡ when b (showing (asked_for w) r)
    go false w r = refl
    go true nothing r = refl
    go true (reads k) (Some v) = refl
    go true (reads k) None = refl
    go true (writes k v) r = refl
