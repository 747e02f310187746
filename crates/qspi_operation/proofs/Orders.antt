-- A call in any order of steps, runs and queries is the run of its script. Assumes nothing.
use Rattle.std.proofs.Common.{◌≡◌, ℕ, zero, suc, ◌+◌, ◌-◌, ◌*◌, ◌/◌, ◌<◌, ◌≤◌, Bool, true, false, leb, List, [], ◌∷◌, ◌++◌, length, drop, sym, refl, ap, ◌∙◌, subst, append-nil, arith, length-append, leb-false, leb-true}
use lib.Seq.{sets, length-sets, sets-eq}
use Rattle.zynq7000.specs.Access.{encode, value_word}
use Rattle.zynq7000.specs.declared.qspi.Access.{Access}
use Rattle.zynq7000.specs.declared.qspi.Access.TheVariants as access
use Rattle.zynq7000.proofs.AccessLaws.{length_encode}
use Rattle.qspi_script.specs.declared.Status.{Status}
use Rattle.qspi_script.specs.declared.Status.TheVariants.{Done, RepliesEnded, LogFull}
use Rattle.qspi_script.specs.Answer.{said_by}
use Rattle.qspi_operation.specs.declared.Op.{Op}
use Rattle.std.specs.Prelude.{Option, Some, None}
use Rattle.qspi_operation.specs.declared.Stepped.{Stepped}
use Rattle.qspi_operation.specs.Machine.{Want, reads, writes, nothing, State, want, next, status_in, values_in, bytes_in, count_in, overlaid, reads_of, replies_of, Script, begin, Result, halt, logging, no_room, made, runs, called, Matches, m_read, m_write, Makes, after}
use Rattle.qspi_operation.specs.Points.{Lending, same_as, Point, reached, outset, tried, filled, room_for, step_at, access_at, rest, ran_at}
use Rattle.qspi_operation.specs.Follows.{Follows, Begun, Leaves, StepFollows, RunFollows}
use Rattle.qspi_operation.specs.Orders.{History, begun, stepped, ran, beside, ran_beside, queried, before, Stands, InOrder}
use Rattle.qspi_operation.specs.Step.{is_going}
use Rattle.qspi_operation.proofs.PointLaws.{encode_append, sets_more, made_more, stays, over_runs}
use Rattle.qspi_operation.proofs.Passes.{going_is}
use Rattle.qspi_operation.proofs.Following.{shows, some}

-- ---- the accesses that a script makes

pub after_append : (s : State) (l m : List Access) → after s (l ++ m) ≡ after (after s l) m
after_append s [] m = refl
after_append s (a ∷ l) m = after_append (next s (value_word a)) l m

makes_append : (s : State) (l m : List Access) → Makes s l → Makes (after s l) m → Makes s (l ++ m)
makes_append s [] m h k = k
makes_append s (a ∷ l) m h k = (h.0, makes_append (next s (value_word a)) l m h.1 k)

fit_read : {x : Want} {o v : ℕ} → Matches x (access.Read o v) → x ≡ reads o
fit_read m_read = refl

fit_write : {x : Want} {o v : ℕ} → Matches x (access.Write o v) → x ≡ writes o v
fit_write m_write = refl

-- THEOREM. Accesses of a script are the first of its run over the replies that they used and whatever replies come, with any room more, and the run goes on from where they lead.
pub runs_on : (l : List Access) (s : State) (n : ℕ) (more : List ℕ) → Makes s l → runs (length l + n) s (replies_of l ++ more) ≡ before l (runs n (after s l) more)
unfolding runs
runs_on [] s n more h = let e : 0 + n ≡ n = omega arith in rw e
runs_on (access.Read o v ∷ l) s n more h =
    let e : suc (length l) + n ≡ suc (length l + n) = omega arith in
    rw (e, fit_read h.0) (ap (logging (access.Read o v)) (runs_on l (next s v) n more h.1))
runs_on (access.Write o v ∷ l) s n more h =
    let e : suc (length l) + n ≡ suc (length l + n) = omega arith in
    rw (e, fit_write h.0) (ap (logging (access.Write o v)) (runs_on l (next s v) n more h.1))

-- ---- where a call stands

-- what a run makes, and where it ends
pub record Ended (s : State) (n : ℕ) (r : Result) : Type 0 where
  pub makes : Makes s r.log
  pub is : r.state ≡ after s r.log
  pub short : length r.log ≤ n
  pub done : r.answer ≡ Done → status_in r.state ≡ Done
  pub over : runs (n - length r.log) r.state [] ≡ halt r.answer r.state (n - length r.log) []

run_full : (x : Want) (s : State) (rs : List ℕ) → want s ≡ x → Ended s 0 (no_room x s rs)
unfolding runs
run_full nothing s rs e = record { makes = tt; is = refl; short = omega arith; done = λ z. z; over = rw e }
run_full (reads o) s rs e = record { makes = tt; is = refl; short = omega arith; done = λ z. let y : ◌≡◌ {A = ℕ} 0 1 = cc in absurd (omega (arith, y)); over = rw e }
run_full (writes o v) s rs e = record { makes = tt; is = refl; short = omega arith; done = λ z. let y : ◌≡◌ {A = ℕ} 0 1 = cc in absurd (omega (arith, y)); over = rw e }

ended_more : (s : State) (n : ℕ) (a : Access) (r : Result) → Matches (want s) a → Ended (next s (value_word a)) n r → Ended s (suc n) (logging a r)
ended_more s n a r m h =
    let k : suc n - suc (length r.log) ≡ n - length r.log = omega arith in
    record { makes = (m, h.makes); is = h.is; short = omega (arith, h.short); done = h.done; over = rw k h.over }

run_made : (x : Want) (s : State) (n : ℕ) (rs : List ℕ) → want s ≡ x → ((t : State) (us : List ℕ) → Ended t n (runs n t us)) → Ended s (suc n) (made x s n rs (runs n))
unfolding runs
run_made nothing s n rs e h = let k : suc n - 0 ≡ suc n = omega arith in record { makes = tt; is = refl; short = omega arith; done = λ z. z; over = rw (k, e) }
run_made (reads o) s n [] e h =
    let k : suc n - 0 ≡ suc n = omega arith in
    record { makes = tt; is = refl; short = omega arith; done = λ z. let y : ◌≡◌ {A = ℕ} 0 1 = cc in absurd (omega (arith, y)); over = rw (k, e) }
run_made (reads o) s n (v ∷ us) e h = ended_more s n (access.Read o v) _ (rw e m_read) (h (next s v) us)
run_made (writes o v) s n rs e h = ended_more s n (access.Write o v) _ (rw e m_write) (h (next s v) rs)

-- THEOREM. A run makes accesses of its script, ends where they lead, and has ended: without replies it goes no further.
pub run_ended : (n : ℕ) (s : State) (rs : List ℕ) → Ended s n (runs n s rs)
unfolding runs
run_ended zero s rs = run_full (want s) s rs refl
run_ended (suc n) s rs = run_made (want s) s n rs refl (run_ended n)

module _ (s : State) (room : ℕ) where
  -- no access, by 23 or 24
  halts : (p : Point) (a : Status) → Stands s room p → (a ≡ Done → ⊥) → runs (room / 2 - length p.made) p.state [] ≡ halt a p.state (room / 2 - length p.made) [] → Stands s room (record { state = p.state; made = p.made; answer = a })
  halts p a h n e = record { makes = h.makes; is = h.is; short = h.short; done = λ z. absurd (n z); over = λ g. e }

  -- one access
  one : (p : Point) (a : Access) → Stands s room p → Matches (want p.state) a → 2 * length p.made + 2 ≤ room → Stands s room (reached (next p.state (value_word a)) (p.made ++ a ∷ []))
  one p a h m l =
      let k : length (p.made ++ a ∷ []) ≡ length p.made + 1 = length-append p.made (a ∷ []) in
      record {
        makes = makes_append s p.made (a ∷ []) h.makes (rw h.is at m, tt);
        is = ap (λ (z : State). next z (value_word a)) h.is ∙ sym (after_append s p.made (a ∷ []));
        short = omega (arith, k, l);
        done = λ z. z;
        over = λ g. over_runs (room / 2 - length (p.made ++ a ∷ [])) (next p.state (value_word a)) [] g;
      }

  tried_stands : (p : Point) (x : Want) → want p.state ≡ x → (r : Option ℕ) → Stands s room p → 2 * length p.made + 2 ≤ room → Stands s room (tried x r p)
  unfolding runs
  tried_stands p nothing e r h l = h
  tried_stands p (reads o) e (Some v) h l = one p (access.Read o v) h (rw e m_read) l
  tried_stands p (reads o) e None h l =
      let k : room / 2 - length p.made ≡ suc (room / 2 - length p.made - 1) = omega (arith, l) in
      halts p RepliesEnded h (λ z. let y : ◌≡◌ {A = ℕ} 0 1 = cc in omega (arith, y)) (rw (k, e))
  tried_stands p (writes o v) e r h l = one p (access.Write o v) h (rw e m_write) l

  filled_stands : (p : Point) (x : Want) → want p.state ≡ x → Stands s room p → room < 2 * length p.made + 2 → Stands s room (filled x p)
  unfolding runs
  filled_stands p nothing e h l = h
  filled_stands p (reads o) e h l =
      let k : room / 2 - length p.made ≡ 0 = omega (arith, l) in
      halts p LogFull h (λ z. let y : ◌≡◌ {A = ℕ} 0 1 = cc in omega (arith, y)) (rw (k, e))
  filled_stands p (writes o v) e h l =
      let k : room / 2 - length p.made ≡ 0 = omega (arith, l) in
      halts p LogFull h (λ z. let y : ◌≡◌ {A = ℕ} 0 1 = cc in omega (arith, y)) (rw (k, e))

  -- a step keeps it
  pub step_stands : (r : Option ℕ) (p : Point) → Stands s room p → Stands s room (step_at room r p)
  step_stands r p h = go (is_going p.answer) refl
    where
      there : (c : Bool) → leb (2 * length p.made + 2) room ≡ c → Stands s room (room_for c (want p.state) r p)
      there true e = tried_stands p (want p.state) refl r h (leb-true (2 * length p.made + 2) room e)
      there false e = filled_stands p (want p.state) refl h (leb-false (2 * length p.made + 2) room e)

      go : (b : Bool) → is_going p.answer ≡ b → Stands s room (step_at room r p)
      go false e = rw (stays room r p e).0 h
      go true e = rw e (there (leb (2 * length p.made + 2) room) refl)

  -- and a run
  pub run_stands : (rs : List ℕ) (p : Point) → Stands s room p → Stands s room (ran_at room rs p)
  run_stands rs p h =
      let x = rest room rs p in
      let y = run_ended (room / 2 - length p.made) p.state (drop (reads_of p.made) rs) in
      let k : length (p.made ++ x.log) ≡ length p.made + length x.log = length-append p.made x.log in
      let n : room / 2 - length (p.made ++ x.log) ≡ room / 2 - length p.made - length x.log = omega (arith, k) in
      record {
        makes = makes_append s p.made x.log h.makes (subst (λ (z : State). Makes z x.log) h.is y.makes);
        is = y.is ∙ ap (λ (z : State). after z x.log) h.is ∙ sym (after_append s p.made x.log);
        short = omega (arith, k, y.short, h.short);
        done = y.done;
        over = λ g. rw n y.over;
      }

  pub outset_stands : Stands s room (outset s)
  outset_stands = record { makes = tt; is = refl; short = omega arith; done = λ e. e; over = λ g. over_runs (room / 2 - 0) s [] g }

  -- the run of the script makes the accesses made first
  pub first : (p : Point) → Stands s room p → (more : List ℕ) → runs (room / 2) s (replies_of p.made ++ more) ≡ before p.made (runs (room / 2 - length p.made) p.state more)
  first p h more =
      let k : room / 2 ≡ length p.made + (room / 2 - length p.made) = omega (arith, h.short) in
      ap (λ (z : ℕ). runs z s (replies_of p.made ++ more)) k ∙ runs_on p.made s (room / 2 - length p.made) more h.makes
      ∙ ap (λ (z : State). before p.made (runs (room / 2 - length p.made) z more)) (sym h.is)

  -- an ended one is the run over the replies that it used
  pub whole : (p : Point) → Stands s room p → is_going p.answer ≡ false → runs (room / 2) s (replies_of p.made) ≡ before p.made (halt p.answer p.state (room / 2 - length p.made) [])
  whole p h g = ap (runs (room / 2) s) (sym (append-nil (replies_of p.made))) ∙ first p h [] ∙ ap (before p.made) (h.over g)

pub before_log : (l : List Access) (r : Result) → (before l r).log ≡ l ++ r.log
before_log [] r = refl
before_log (a ∷ l) r = ap (λ (z : List Access). a ∷ z) (before_log l r)

before_state : (l : List Access) (r : Result) → ((before l r).state ≡ r.state) × ((before l r).answer ≡ r.answer)
before_state [] r = (refl, refl)
before_state (a ∷ l) r = before_state l r

-- ---- along a history

module _ (c : Script) (g : Lending) {o₀ : Op} (h : Begun g c o₀) (log₀ : List ℕ) (long : length log₀ ≡ g.room) where
  -- what every step of it keeps
  record Kept (o : Op) (buffer log : List ℕ) : Type 0 where
    pub point : Point
    pub follows : Follows g point o
    pub stands : Stands (begin c [] 0) g.room point
    pub logged : log ≡ sets log₀ 0 (encode point.made)
    pub stored : buffer ≡ overlaid (bytes_in point.state) g.buffer

  at_outset : Kept o₀ g.buffer log₀
  unfolding encode
  at_outset = record { point = outset (begin c [] 0); follows = h.follows; stands = outset_stands (begin c [] 0) g.room; logged = refl; stored = ap (λ (z : List ℕ). overlaid z g.buffer) (sym h.unread) }

  module _ {o : Op} {buffer log : List ℕ} (k : Kept o buffer log) where
    abbrev p : Point
    p = k.point

    as_long : length log ≡ g.room
    as_long = ap length k.logged ∙ length-sets log₀ 0 (encode p.made) ∙ long

    as_wide : length buffer ≡ length g.buffer
    as_wide = ap length k.stored ∙ (shows g k.follows).wide

    -- more accesses in the log
    longer : (l : List Access) → sets log (2 * length p.made) (encode l) ≡ sets log₀ 0 (encode (p.made ++ l))
    longer l =
        let e : 2 * length p.made ≡ 0 + length (encode p.made) = omega (arith, length_encode p.made) in
        ap (λ (z : List ℕ). sets z (2 * length p.made) (encode l)) k.logged ∙ ap (λ (z : ℕ). sets (sets log₀ 0 (encode p.made)) z (encode l)) e
        ∙ sets_more (encode p.made) (encode l) log₀ 0 ∙ ap (sets log₀ 0) (sym (encode_append p.made l))

    step_kept : (r : Option ℕ) {s : Stepped} {buffer₁ log₁ : List ℕ} → StepFollows o g.bytes buffer log r s buffer₁ log₁ → Kept s.op buffer₁ log₁
    step_kept r f =
        let x = f g p k.follows in
        let y = x.steps refl as_wide as_long in
        record {
          point = step_at g.room r p;
          follows = y.follows;
          stands = step_stands (begin c [] 0) g.room r p k.stands;
          logged = y.logged ∙ longer (access_at g.room r p) ∙ ap (λ (z : List Access). sets log₀ 0 (encode z)) (sym (made_more g.room r p));
          stored = x.stored refl as_long k.stored;
        }

    -- state and memory the same
    left_kept : {s : Stepped} {buffer' log' buffer₁ log₁ : List ℕ} → Leaves o buffer' log' s buffer₁ log₁ → Kept s.op buffer log
    left_kept y = rw y.op k

    same_kept : {s : Stepped} {buffer₁ log₁ : List ℕ} → Leaves o buffer log s buffer₁ log₁ → Kept s.op buffer₁ log₁
    same_kept y = rw (y.op, y.logged, y.stored) k

    run_kept : (rs : List ℕ) {s : Stepped} {buffer₁ log₁ : List ℕ} → RunFollows o g.bytes buffer log rs s buffer₁ log₁ → Kept s.op buffer₁ log₁
    run_kept rs {s} {buffer₁} {log₁} f = go (is_going p.answer) refl
      where
        go : (b : Bool) → is_going p.answer ≡ b → Kept s.op buffer₁ log₁
        go false e = same_kept ((f g p k.follows).repeats e).0
        go true e =
            let x = f g p k.follows in
            let y = x.runs e refl as_wide as_long in
            record {
              point = ran_at g.room rs p;
              follows = y.follows;
              stands = run_stands (begin c [] 0) g.room rs p k.stands;
              logged = y.logged ∙ longer (rest g.room rs p).log;
              stored = x.stored e refl as_long k.stored;
            }

    beside_kept : (bytes buffer' log' : List ℕ) (r : Option ℕ) {s : Stepped} {buffer₁ log₁ : List ℕ} → (is_going o.status ≡ true → same_as g (length bytes) (length buffer') (length log') ≡ false)
        → StepFollows o bytes buffer' log' r s buffer₁ log₁ → Kept s.op buffer log
    beside_kept bytes buffer' log' r {s} d f = go (is_going p.answer) refl
      where
        go : (b : Bool) → is_going p.answer ≡ b → Kept s.op buffer log
        go false e = left_kept ((f g p k.follows).repeats e).0
        go true e = left_kept ((f g p k.follows).changed e (d (ap is_going (shows g k.follows).status ∙ e))).0

    ran_beside_kept : (bytes buffer' log' rs : List ℕ) {s : Stepped} {buffer₁ log₁ : List ℕ} → (is_going o.status ≡ true → same_as g (length bytes) (length buffer') (length log') ≡ false)
        → RunFollows o bytes buffer' log' rs s buffer₁ log₁ → Kept s.op buffer log
    ran_beside_kept bytes buffer' log' rs {s} d f = go (is_going p.answer) refl
      where
        go : (b : Bool) → is_going p.answer ≡ b → Kept s.op buffer log
        go false e = left_kept ((f g p k.follows).repeats e).0
        go true e = left_kept ((f g p k.follows).changed e (d (ap is_going (shows g k.follows).status ∙ e))).0

    -- what shows of it
    in_order : InOrder c g log₀ o buffer log
    in_order =
        let n = length_encode p.made in
        let m : 0 + length (encode p.made) ≡ 2 * length p.made = omega (arith, n) in
        let z = shows g k.follows in
        record {
          made = p.made;
          state = p.state;
          logged = k.logged ∙ sets-eq (encode p.made) log₀ 0 (omega (arith, n, long, k.stands.short)) ∙ ap (λ (y : ℕ). encode p.made ++ drop y log₀) m;
          stored = k.stored;
          first = first (begin c [] 0) g.room p k.stands;
          ended = λ e.
              let w = whole (begin c [] 0) g.room p k.stands (sym (ap is_going z.status) ∙ e) in
              let v = halt p.answer p.state (g.room / 2 - length p.made) [] in
              let l : (called c (g.room / 2) (replies_of p.made)).log ≡ p.made = ap (λ (x : Result). x.log) w ∙ before_log p.made v ∙ append-nil p.made in
              let s : (called c (g.room / 2) (replies_of p.made)).state ≡ p.state = ap (λ (x : Result). x.state) w ∙ (before_state p.made v).0 in
              let a : (called c (g.room / 2) (replies_of p.made)).answer ≡ p.answer = ap (λ (x : Result). x.answer) w ∙ (before_state p.made v).1 in
              (l, (s, z.answer ∙ rw (l, s, a)));
          goes = λ e.
              let f = sym (ap is_going z.status) ∙ e in
              (some g k.follows f, z.answer ∙ ap (λ (a : Status). record { says = said_by a (values_in p.state); used = 2 * length p.made; replies = reads_of p.made; counted = count_in p.state }) (going_is p.answer f));
        }

  kept_along : {o : Op} {buffer log : List ℕ} → History g o₀ g.buffer log₀ o buffer log → Kept o buffer log
  kept_along begun = at_outset
  kept_along (stepped y r f) = step_kept (kept_along y) r f
  kept_along (ran y rs f) = run_kept (kept_along y) rs f
  kept_along (beside y bytes buffer' log' r d f) = beside_kept (kept_along y) bytes buffer' log' r d f
  kept_along (ran_beside y bytes buffer' log' rs d f) = ran_beside_kept (kept_along y) bytes buffer' log' rs d f
  kept_along (queried y bytes f) = kept_along y

  -- THEOREM. Of every call that is begun, in any order of steps, runs and queries.
  pub any_order : {o : Op} {buffer log : List ℕ} → History g o₀ g.buffer log₀ o buffer log → InOrder c g log₀ o buffer log
  any_order y = in_order (kept_along y)
