-- The power-cut statement of `write_pages` stepped, in any order of steps: after each of them it holds of the log so far. Assumes nothing.
use mathlib.Core.Path.{◌≡◌, refl, ap, subst, ◌∙◌, sym}
use mathlib.Core.List.{List, [], ◌∷◌, ◌++◌}
use mathlib.Core.Bool.{Bool, true, false}
use Prim.Native.Nat.{ℕ, ◌+◌, ◌-◌, ◌*◌, ◌/◌, ◌<◌, ◌≤◌}
use native.Mathlib.Omega.{arith}
use lib.ListN.{length, get_or, take, drop, length-append}
use lib.Seq.{take_at, sets, length-sets, sets-eq}
use Rattle.zynq7000.specs.Access.{encode, Loggable}
use Rattle.zynq7000.specs.declared.qspi.Access.{Access}
use Rattle.zynq7000.proofs.AccessLaws.{length_encode}
use Rattle.qspi_script.specs.Answer.{Answered}
use Rattle.qspi_script.specs.declared.Status.{Status}
use Rattle.qspi_script.specs.declared.Status.TheVariants.{Going}
use Rattle.qspi_operation.specs.declared.Op.{Op}
use Rattle.std.specs.Prelude.{Option}
use Rattle.qspi_operation.specs.declared.Stepped.{Stepped}
use Rattle.qspi_operation.specs.Step.{is_going}
use Rattle.qspi_operation.specs.Machine.{State, begin, count_in, Result, halt, runs, called, replies_of, after, Makes}
use Rattle.qspi_operation.specs.Points.{Lending, same_as, Point, outset, step_at, access_at, rest, ran_at}
use Rattle.qspi_operation.specs.Follows.{Follows, Leaves, StepFollows, RunFollows}
use Rattle.qspi_operation.specs.Orders.{before, Stands}
use Rattle.qspi_operation.proofs.Following.{shows}
use Rattle.qspi_operation.proofs.Orders.{runs_on, before_log, step_stands, run_stands, outset_stands}
use Rattle.qspi_operation.proofs.Passes.{going_is}
use Rattle.qspi_operation.proofs.PointLaws.{made_more, encode_append}
use Rattle.qspi_calls.specs.Begins.{BeginsWith}
use Rattle.qspi_calls.specs.Calls.{write_pages}
use Rattle.qspi_calls.proofs.Registers.{Call, run_loggable}
use Rattle.power_cut.specs.Statement.{Save, Each, PowerCut}
use Rattle.power_cut.specs.Row.{save_of, IsRun, Precedes}
use Rattle.power_cut.specs.Saving.{lending, Saving, KeepsSaving}
use Rattle.power_cut.proofs.Rows.{all_bytes, run_goes, power_cut_behind}

-- the save that it is so far
abbrev pub save_at : ℕ → List ℕ → Point → Save
save_at a bs p = record { address = a; bytes = bs; accesses = p.made; answer = p.answer; count = count_in p.state }

-- THEOREM. Once it has ended it is a run over the replies that it took.
pub stepped_run : (a : ℕ) (bs : List ℕ) (room : ℕ) → ((i : ℕ) → get_or bs i 0 < 256) → (p : Point) → Stands (begin (write_pages a bs) [] 0) room p → is_going p.answer ≡ false → IsRun (save_at a bs p)
stepped_run a bs room octets p s e =
    let n = room / 2 - length p.made in
    let k : length p.made + n ≡ room / 2 = omega (arith, s.short) in
    let r : called (write_pages a bs) (room / 2) (replies_of p.made ++ []) ≡ before p.made (halt p.answer p.state n []) =
    ap (λ (z : ℕ). runs z (begin (write_pages a bs) [] 0) (replies_of p.made ++ [])) (sym k) ∙ runs_on p.made (begin (write_pages a bs) [] 0) n [] s.makes
    ∙ ap (λ (z : State). before p.made (runs n z [])) (sym s.is) ∙ ap (before p.made) (s.over e) in
    record { octets = octets; room = room / 2; replies = replies_of p.made ++ []; is = sym (ap (save_of a bs) r ∙ save-before p.made) }
  where
    save-before : (l : List Access) → save_of a bs (before l (halt p.answer p.state (room / 2 - length p.made) [])) ≡ record { address = a; bytes = bs; accesses = l; answer = p.answer; count = count_in p.state }
    save-before [] = refl
    save-before (b ∷ l) = ap (λ (c : Save). record { address = a; bytes = bs; accesses = b ∷ c.accesses; answer = c.answer; count = c.count }) (save-before l)

going_not : (z : Status) → (z ≡ Going → ⊥) → is_going z ≡ false
going_not z g = go (is_going z) refl
  where
    go : (b : Bool) → is_going z ≡ b → is_going z ≡ false
    go true e = absurd (g (going_is z e))
    go false e = e

-- THEOREM. Of the call over lists: wherever it stands after any steps, whatever replies they were handed, and behind every row of earlier saves.
pub stepped_cut : (a : ℕ) (bs : List ℕ) (room : ℕ) → ((i : ℕ) → get_or bs i 0 < 256) → (p : Point) → Stands (begin (write_pages a bs) [] 0) room p → (earlier : List Save) → Each Precedes earlier → PowerCut (earlier ++ save_at a bs p ∷ [])
stepped_cut a bs room octets p s = power_cut_behind (record {
  octets = all_bytes bs octets;
  makes = s.makes;
  counts = ap count_in s.is;
  done = λ e. rw s.is at (s.done e);
  stops = λ g dry full. (run_goes (stepped_run a bs room octets p s (going_not p.answer g))).stops g dry full;
})

-- its accesses go to registers: they are the first of a run
front_loggable : (l m : List Access) → Loggable (l ++ m) → Loggable l
front_loggable [] m h = tt
front_loggable (a ∷ l) m h = (h.0, front_loggable l m h.1)

loggable : (a : ℕ) (bs : List ℕ) (l : List Access) → Makes (begin (write_pages a bs) [] 0) l → Loggable l
loggable a bs l m =
    let e = ap (λ (r : Result). r.log) (runs_on l (begin (write_pages a bs) [] 0) 0 [] m) ∙ before_log l (runs 0 (after (begin (write_pages a bs) [] 0) l) []) in
    let y : Loggable (runs (length l + 0) (begin (write_pages a bs) [] 0) (replies_of l ++ [])).log = run_loggable (Call.write_pages_call a bs) (length l + 0) (replies_of l ++ []) in
    front_loggable l _ (rw e at y)

-- ---- for the contracts of a driver: a save begins, and each step goes on with it

module _ (a : ℕ) (bs : List ℕ) where
  -- an operation that follows the script, with a log that holds the accesses made
  saving_at : (p : Point) (o : Op) (log : List ℕ) → ((i : ℕ) → get_or bs i 0 < 256) → Stands (begin (write_pages a bs) [] 0) (length log) p → Follows (lending bs log) p o
      → take (2 * length p.made) log ≡ encode p.made → Saving a bs o log
  saving_at p o log octets s f e =
      let z = shows (lending bs log) f in
      let u = ap (λ (x : Answered). x.used) z.answer in
      let n = ap (λ (x : Answered). x.counted) z.answer in
      record {
        saved = record {
          accesses = p.made;
          is_log = ap (λ (k : ℕ). take k log) u ∙ e;
          to_registers = loggable a bs p.made s.makes;
          runs = λ g. rw (z.status, n) (stepped_run a bs (length log) octets p s (rw z.status at g));
          claim = rw (z.status, n) (stepped_cut a bs (length log) octets p s);
        };
        octets = octets;
        point = p;
        stands = s;
        follows = f;
        is_log = e;
      }

  -- THEOREM. A start of `write_pages` is a save under way, of no accesses so far.
  pub saving_begins : {o : Op} (log : List ℕ) → ((i : ℕ) → get_or bs i 0 < 256) → BeginsWith (length bs) (length log) (write_pages a) o → Saving a bs o log
  unfolding encode
  saving_begins {o} log octets h = saving_at (outset (begin (write_pages a bs) [] 0)) o log octets (outset_stands (begin (write_pages a bs) [] 0) (length log)) (h bs refl).follows refl

  -- accesses more, logged behind the used words
  module _ (log : List ℕ) {log₁ : List ℕ} (p q : Point) (l : List Access) (made : q.made ≡ p.made ++ l) (log_is : log₁ ≡ sets log (2 * length p.made) (encode l)) where
    as_long : length log₁ ≡ length log
    as_long = ap length log_is ∙ length-sets log (2 * length p.made) (encode l)

    used_words : 2 * length q.made ≤ length log → take (2 * length p.made) log ≡ encode p.made → take (2 * length q.made) log₁ ≡ encode q.made
    used_words short is_log =
        let more : length q.made ≡ length p.made + length l = ap length made ∙ length-append p.made l in
        let k₀ = length_encode p.made in
        let k₁ = length_encode l in
        let w : length (take (2 * length p.made) log) ≡ 2 * length p.made = ap length is_log ∙ k₀ in
        let u : length (take (2 * length p.made) log ++ encode l) ≡ 2 * length q.made = length-append (take (2 * length p.made) log) (encode l) ∙ omega (arith, w, k₁, more) in
        let y : log₁ ≡ take (2 * length p.made) log ++ encode l ++ drop (2 * length p.made + length (encode l)) log = log_is ∙ sets-eq (encode l) log (2 * length p.made) (omega (arith, k₁, more, short)) in
        ap (take (2 * length q.made)) y ∙ take_at (take (2 * length p.made) log ++ encode l) _ (2 * length q.made) u
        ∙ ap (λ (z : List ℕ). z ++ encode l) is_log ∙ sym (encode_append p.made l) ∙ ap encode (sym made)

    saving_on : {o₁ : Op} → ((i : ℕ) → get_or bs i 0 < 256) → Stands (begin (write_pages a bs) [] 0) (length log) q → Follows (lending bs log) q o₁ → take (2 * length p.made) log ≡ encode p.made → Saving a bs o₁ log₁
    saving_on {o₁} octets s f is_log =
        saving_at q o₁ log₁ octets
        (subst (λ (n : ℕ). Stands (begin (write_pages a bs) [] 0) n q) (sym as_long) s)
        (subst (λ (n : ℕ). Follows (record { bytes = bs; buffer = []; room = n }) q o₁) (sym as_long) f)
        (used_words s.short is_log)

-- lent other memory, or after its end, a step and a run leave all as it was
module _ (o : Op) (bytes buffer log : List ℕ) {s : Stepped} {buffer₁ log₁ : List ℕ} (repeats : (g : Lending) (p : Point) → Follows g p o → is_going p.answer ≡ false → Leaves o buffer log s buffer₁ log₁)
    (changed : (g : Lending) (p : Point) → Follows g p o → is_going p.answer ≡ true → same_as g (length bytes) (length buffer) (length log) ≡ false → Leaves o buffer log s buffer₁ log₁) where
  aside : (a : ℕ) (bs own : List ℕ) → Saving a bs o own → (is_going o.status ≡ true → same_as (lending bs own) (length bytes) (length buffer) (length log) ≡ false) → Saving a bs s.op own × (log₁ ≡ log)
  aside a bs own g d = go (is_going g.point.answer) refl
    where
      left : Leaves o buffer log s buffer₁ log₁ → Saving a bs s.op own × (log₁ ≡ log)
      left x = (rw x.op g, x.logged)

      go : (b : Bool) → is_going g.point.answer ≡ b → Saving a bs s.op own × (log₁ ≡ log)
      go false e = left (repeats (lending bs own) g.point g.follows e)
      go true e = left (changed (lending bs own) g.point g.follows e (d (ap is_going (shows (lending bs own) g.follows).status ∙ e)))

-- THEOREM. A step of a save under way is a save under way, whatever it is handed, and one that is lent other memory leaves it as it is.
pub step_saves : (o : Op) (bytes buffer log : List ℕ) (r : Option ℕ) {s : Stepped} {buffer₁ log₁ : List ℕ} → StepFollows o bytes buffer log r s buffer₁ log₁ → KeepsSaving o bytes buffer log s.op log₁
step_saves o bytes buffer log r {s} {buffer₁} {log₁} f = record {
  goes = λ a empty g.
      let p = g.point in
      let x = (f (lending bytes log) p g.follows).steps refl empty refl in
      saving_on a bytes log p (step_at (length log) r p) (access_at (length log) r p) (made_more (length log) r p) x.logged g.octets (step_stands (begin (write_pages a bytes) [] 0) (length log) r p g.stands) x.follows g.is_log;
  beside = aside o bytes buffer log (λ g p h e. ((f g p h).repeats e).0) (λ g p h e d. ((f g p h).changed e d).0);
}

-- THEOREM. So is a run of it.
pub run_saves : (o : Op) (bytes buffer log rs : List ℕ) {s : Stepped} {buffer₁ log₁ : List ℕ} → RunFollows o bytes buffer log rs s buffer₁ log₁ → KeepsSaving o bytes buffer log s.op log₁
run_saves o bytes buffer log rs {s} {buffer₁} {log₁} f = record { goes = λ a empty g. go a empty g (is_going g.point.answer) refl; beside = left }
  where
    left : (a : ℕ) (bs own : List ℕ) → Saving a bs o own → (is_going o.status ≡ true → same_as (lending bs own) (length bytes) (length buffer) (length log) ≡ false) → Saving a bs s.op own × (log₁ ≡ log)
    left = aside o bytes buffer log (λ g p h e. ((f g p h).repeats e).0) (λ g p h e d. ((f g p h).changed e d).0)

    go : (a : ℕ) → length buffer ≡ 0 → (g : Saving a bytes o log) (b : Bool) → is_going g.point.answer ≡ b → Saving a bytes s.op log₁
    go a empty g false e =
        let x = ((f (lending bytes log) g.point g.follows).repeats e).0 in
        rw (x.op, x.logged) g
    go a empty g true e =
        let p = g.point in
        let x = (f (lending bytes log) p g.follows).runs e refl empty refl in
        saving_on a bytes log p (ran_at (length log) rs p) (rest (length log) rs p).log refl x.logged g.octets (run_stands (begin (write_pages a bytes) [] 0) (length log) rs p g.stands) x.follows g.is_log
