-- Every run against the simulated device is a trace that the power-cut statement speaks of: each step of the driver logs the access that the
-- device saw, and a step that makes none is the last and leaves the device as it is. Assumes nothing.
use Prim.Native.Nat.{ℕ, zero, suc, ◌+◌, ◌-◌, ◌≤◌}
use mathlib.Core.Path.{◌≡◌, refl, sym, ap, ◌∙◌, subst}
use mathlib.Core.Bool.{Bool, true, false, cond, ◌&&◌, true≢false}
use mathlib.Core.Option.{none}
use mathlib.Core.List.{List, [], ◌∷◌, ◌++◌, append_assoc, append-nil}
use native.Mathlib.Omega.{arith}
use lib.Dec.{eqb, ltb, leb}
use lib.ListN.{length, take, set, length-set, length-append}
use lib.Seq.{take-suc-set}
use Rattle.std.proofs.lemmas.Bool.{and_parts}
use borrow.Author.Tests.{ltb-true, ltb-false, leb-true, le-leb, lt-leb}
use Rattle.zynq7000.specs.Access.{first_word, value_word, encode}
use Rattle.zynq7000.specs.declared.qspi.Access.{Access}
use Rattle.zynq7000.specs.declared.qspi.Access.TheVariants as access
use Rattle.qspi_transfer.specs.Wire.{wire_next}
use Rattle.qspi_transfer.specs.declared.Due.{Due}
use Rattle.qspi_transfer.specs.declared.Due.TheVariants as due
use Rattle.qspi_transfer.specs.declared.Wire.{Wire}
use Rattle.qspi_script.specs.Stages.{frame_of}
use Rattle.qspi_operation.specs.declared.Op.{Op}
use Rattle.qspi_operation.proofs.PointLaws.{encode_append}
use Rattle.std.specs.Prelude.{Option, Some, None, Ok}
use Rattle.qspi_operation.specs.Step.{Verdict, Ended, Changed, Full, Dry, Made}
use Rattle.qspi_operation.specs.Step.{Asked, length_changed, is_going, access_of, shown, pick_asked, due_of, answered, choose, same_lengths, verdict_of, act, moved_by, counted, noted, written}
use Rattle.qspi_operation.proofs.Runs.{kept}
use Rattle.qspi_operation.proofs.Verdicts.{makes, ends}
use Rattle.power_cut.specs.Flash.{Array, Work, programming, erasing, done, erased, programmed, Spares, flash, AfterCut}
use Rattle.power_cut.specs.Controller.{Rests, rests, flash_of}
use Rattle.power_cut.specs.Controller as controller
use Rattle.simulated_device.specs.Replies.{byte_at}
use Rattle.simulated_device.specs.Simulated.{Sim, sim_of, at_rest, read_of, write_of}
use Rattle.simulated_device.specs.Running.{Turn, sim_in, stepped, after_read, after_write, met_on, after_meeting, turn_of, goes_on, turns, beginning}
use Rattle.simulated_device.specs.Instance.{Instance}
use Rattle.simulated_device.specs.declared.Choices.{Choices}
use Rattle.simulated_device.proofs.Standing.{resting, working, Stands, stands, Leads, nowhere, on}
use Rattle.simulated_device.proofs.Accesses.{reads, Attempt, made, not_made, writes}
use Rattle.simulated_device.proofs.Kept.{read_choices, write_choices}

-- ---- a log with one access more

encode_snoc : (l : List Access) (a : Access) → encode (l ++ a ∷ []) ≡ encode l ++ first_word a ∷ value_word a ∷ []
unfolding encode
encode_snoc l a = encode_append l (a ∷ [])

take_written : (log : List ℕ) (at first v : ℕ) → at + 2 ≤ length log → take (at + 2) (written log at first v) ≡ take at log ++ first ∷ v ∷ []
take_written log at first v p =
    let n : at + 2 ≡ suc (suc at) = omega arith in
    let m : at + 1 ≡ suc at = omega arith in
    rw (n, m)
    (take-suc-set (set log at first) (suc at) v (rw (length-set log at first) (omega arith))
    ∙ (ap (λ (z : List ℕ). z ++ v ∷ []) (take-suc-set log at first (omega arith)) ∙ append_assoc (take at log) (first ∷ []) (v ∷ [])))

-- ---- what a verdict keeps

used_made : (o : Op) (first v : ℕ) (read : Bool) → (act (Made first v read) o).op.used ≡ o.used + 2
used_made o first v read = go (wire_next o.wire (frame_of o.job o.place) v)
  where
    go : (m : Option Wire) → (moved_by m o (o.used + 2) (counted read o.replies)).op.used ≡ o.used + 2
    go (Some w) = refl
    go None = refl

same_used : (v : Verdict) (o : Op) → makes v ≡ false → (act v o).op.used ≡ o.used
same_used Ended o h = refl
same_used Changed o h = refl
same_used Full o h = refl
same_used Dry o h = refl
same_used (Made first v read) o h = absurd (true≢false h)

same_log : (v : Verdict) (at : ℕ) (log : List ℕ) → makes v ≡ false → noted v at log ≡ log
same_log Ended at log h = refl
same_log Changed at log h = refl
same_log Full at log h = refl
same_log Dry at log h = refl
same_log (Made first v read) at log h = absurd (true≢false h)

one_more : (l : List Access) (a : Access) → length (l ++ a ∷ []) ≡ suc (length l)
one_more l a = omega (arith, length-append l (a ∷ []))

-- ---- where a run stands

-- the log so far is a trace to where the device stands
pub record Stage (bytes : List ℕ) (base : ℕ) (before : controller.Device) (l : List Access) (t : Turn) : Type 0 where
  pub is_log : take t.ran.op.used t.log ≡ encode l
  pub within : t.ran.op.used ≤ length t.log
  pub leads : Leads before l (sim_in t)
  pub based : t.ran.device.choices.base ≡ base

-- a run after n turns: each has made an access, unless it was the last
pub record Further (bytes : List ℕ) (base : ℕ) (before : controller.Device) (n : ℕ) (t : Turn) : Type 0 where
  pub log : List Access
  pub stage : Stage bytes base before log t
  pub most : length log ≤ n
  pub each : goes_on t.ran ≡ true → length log ≡ n

module _ (bytes : List ℕ) (base : ℕ) (before : controller.Device) (o : Op) (buffer log : List ℕ) (r : Option ℕ) (s : Sim) where
  abbrev verdict : Verdict
  verdict = verdict_of o bytes (length buffer) (length log) r

  abbrev after : Turn
  after = stepped o bytes buffer log r s

  -- a step that makes no access
  no_access : makes verdict ≡ false → (l : List Access) → take o.used log ≡ encode l → o.used ≤ length log → Leads before l s
      → s.device.choices.base ≡ base → Stage bytes base before l after
  no_access m l e p x b = record {
    is_log = rw (same_used verdict o m, same_log verdict o.used log m) e;
    within = rw (same_used verdict o m, kept o bytes (length buffer) log r) p;
    leads = x;
    based = b;
  }

  -- a step that makes one
  an_access : (a : Access) (read : Bool) → verdict ≡ Made (first_word a) (value_word a) read → o.used + 2 ≤ length log → (l : List Access) → take o.used log ≡ encode l
      → Leads before (l ++ a ∷ []) s → s.device.choices.base ≡ base → Stage bytes base before (l ++ a ∷ []) after
  an_access a read m p l e x b =
      let u : after.ran.op.used ≡ o.used + 2 = ap (λ (z : Verdict). (act z o).op.used) m ∙ used_made o (first_word a) (value_word a) read in
      let w : after.log ≡ written log o.used (first_word a) (value_word a) = ap (λ (z : Verdict). noted z o.used log) m in
      record {
        is_log = ap (λ (z : ℕ). take z after.log) u ∙ (ap (take (o.used + 2)) w ∙ (take_written log o.used (first_word a) (value_word a) p ∙ (ap (λ (z : List ℕ). z ++ first_word a ∷ value_word a ∷ []) e ∙ sym (encode_snoc l a))));
        within = rw (u, kept o bytes (length buffer) log r) p;
        leads = x;
        based = b;
      }

-- ---- what is due

data Knows (o : Op) (bytes : List ℕ) : Asked → Type 0 where
  reading : {x : ℕ} → is_going o.status ≡ true → access_of o.job o.place o.wire bytes ≡ due.Read x → Knows o bytes (Ok (Some (due.Read x)))
  writing : {x v : ℕ} → is_going o.status ≡ true → access_of o.job o.place o.wire bytes ≡ due.Write x v → Knows o bytes (Ok (Some (due.Write x v)))
  ended : is_going o.status ≡ false → Knows o bytes (Ok None)
  changed : eqb (length bytes) o.job.lent.«data» ≡ false → Knows o bytes length_changed

knows : (o : Op) (bytes : List ℕ) → Knows o bytes (due_of o bytes)
knows o bytes = go (is_going o.status) (eqb (length bytes) o.job.lent.«data») (access_of o.job o.place o.wire bytes) refl refl refl
  where
    go : (g l : Bool) (d : Due) → is_going o.status ≡ g → eqb (length bytes) o.job.lent.«data» ≡ l → access_of o.job o.place o.wire bytes ≡ d
        → Knows o bytes (pick_asked g (pick_asked l (shown d) length_changed) (Ok None))
    go true true (due.Read x) e f h = reading e h
    go true true (due.Write x v) e f h = writing e h
    go true false d e f h = changed f
    go false l d e f h = ended e

-- a step without room makes no access
no_room : (g l : Bool) (x : Verdict) → makes (choose g (choose l (choose false x Full) Changed) Ended) ≡ false
no_room true true x = refl
no_room true false x = refl
no_room false l x = refl

-- nor one for which another length is lent than at the start
no_lengths : (g f : Bool) (x : Verdict) → makes (choose g (choose false (choose f x Full) Changed) Ended) ≡ false
no_lengths true f x = refl
no_lengths false f x = refl

module _ (bytes : List ℕ) (base : ℕ) (before : controller.Device) (replies : ℕ) (t : Turn) (l : List Access) (st : Stage bytes base before l t) where
  abbrev o : Op
  o = t.ran.op

  -- the driver makes no access, and the device stands as it does
  idles : (r : Option ℕ) → makes (verdict_of o bytes (length t.buffer) (length t.log) r) ≡ false → Further bytes base before (suc (length l)) (stepped o bytes t.buffer t.log r (sim_in t))
  idles r m = record {
    log = l;
    stage = no_access bytes base before o t.buffer t.log r (sim_in t) m l st.is_log st.within st.leads st.based;
    most = omega arith;
    each = λ g. absurd (true≢false (sym g ∙ ends o bytes (length t.buffer) (length t.log) r m));
  }

  full : ltb (length t.log - o.used) 2 ≡ true → Further bytes base before (suc (length l)) (stepped o bytes t.buffer t.log None (sim_in t))
  full h =
      let p = ltb-true (length t.log - o.used) 2 h in
      let n : leb (o.used + 2) (length t.log) ≡ false = lt-leb (o.used + 2) (length t.log) (omega (arith, st.within)) in
      idles None
      (rw n (no_room (is_going o.status) (same_lengths o.job (length bytes) (length t.buffer) (length t.log)) (answered (access_of o.job o.place o.wire bytes) None)))

  unlike : same_lengths o.job (length bytes) (length t.buffer) (length t.log) ≡ false → Further bytes base before (suc (length l)) (stepped o bytes t.buffer t.log None (sim_in t))
  unlike h =
      idles None
      (rw h (no_lengths (is_going o.status) (leb (o.used + 2) (length t.log)) (answered (access_of o.job o.place o.wire bytes) None)))

  module _ (alike : same_lengths o.job (length bytes) (length t.buffer) (length t.log) ≡ true) (room : o.used + 2 ≤ length t.log) where
    -- with room and the lengths of the start, what is due decides
    decided : (r : Option ℕ) {d : Due} → is_going o.status ≡ true → access_of o.job o.place o.wire bytes ≡ d
        → verdict_of o bytes (length t.buffer) (length t.log) r ≡ answered d r
    decided r g h = rw (g, alike, le-leb (o.used + 2) (length t.log) room, h)

    ended_idles : is_going o.status ≡ false → makes (verdict_of o bytes (length t.buffer) (length t.log) None) ≡ false
    ended_idles g = rw g

    abbrev met : Asked → Bool → Turn
    met a b = after_meeting (met_on a b (sim_in t)) o bytes t.buffer t.log

    read_turn : (x : ℕ) → is_going o.status ≡ true → access_of o.job o.place o.wire bytes ≡ due.Read x → (b : Bool) → Further bytes base before (suc (length l)) (met (Ok (Some (due.Read x))) b)
    read_turn x g h true =
        let v = (read_of (sim_in t) x).value in
        let y = on st.leads (reads (sim_in t) st.leads.after st.leads.standing x) in
        record {
          log = l ++ access.Read x v ∷ [];
          stage = an_access bytes base before o t.buffer t.log (Some v) (after_read (sim_in t) x) (access.Read x v) true (decided (Some v) g h) room l st.is_log y (ap (λ (c : Choices). c.base) (read_choices (sim_in t) x) ∙ st.based);
          most = omega (arith, one_more l (access.Read x v));
          each = λ e. one_more l (access.Read x v);
        }
    read_turn x g h false = idles None (ap makes (decided None g h))

    write_turn : (x v : ℕ) → is_going o.status ≡ true → access_of o.job o.place o.wire bytes ≡ due.Write x v → (b : Bool) → Further bytes base before (suc (length l)) (met (Ok (Some (due.Write x v))) b)
    write_turn x v g h b = go (writes (sim_in t) st.leads.after st.leads.standing x v)
      where
        based₁ : (write_of (sim_in t) x v).written.device.choices.base ≡ base
        based₁ = ap (λ (c : Choices). c.base) (write_choices (sim_in t) x v) ∙ st.based

        go : Attempt st.leads.after (access.Write x v) (write_of (sim_in t) x v) → Further bytes base before (suc (length l)) (met (Ok (Some (due.Write x v))) b)
        go (made n z) =
            rw n
            (record {
              log = l ++ access.Write x v ∷ [];
              stage = an_access bytes base before o t.buffer t.log None (after_write (write_of (sim_in t) x v)) (access.Write x v) false (decided None g h) room l st.is_log (on st.leads z) based₁;
              most = omega (arith, one_more l (access.Write x v));
              each = λ e. one_more l (access.Write x v);
            })
        go (not_made n z) =
            rw n
            (record {
              log = l;
              stage = record { is_log = st.is_log; within = st.within; leads = subst (λ (k : List Access). Leads before k (after_write (write_of (sim_in t) x v))) (append-nil l) (on st.leads z); based = based₁ };
              most = omega arith;
              each = λ e. absurd (true≢false (sym e));
            })

    due_turn : (a : Asked) → Knows o bytes a → (b : Bool) → Further bytes base before (suc (length l)) (met a b)
    due_turn a (reading {x} g h) b = read_turn x g h b
    due_turn a (writing {x} {v} g h) b = write_turn x v g h b
    due_turn a (ended g) b = idles None (ended_idles g)
    due_turn a (changed h) b = absurd (true≢false (sym (and_parts (eqb (length bytes) o.job.lent.«data») _ alike).0 ∙ h))

  turn_on : Further bytes base before (suc (length l)) (turn_of replies bytes t)
  turn_on = go (same_lengths o.job (length bytes) (length t.buffer) (length t.log)) (ltb (length t.log - o.used) 2) refl refl
    where
      go : (s b : Bool) → same_lengths o.job (length bytes) (length t.buffer) (length t.log) ≡ s → ltb (length t.log - o.used) 2 ≡ b
          → Further bytes base before (suc (length l)) (after_meeting (met_on (cond s (cond b (Ok None) (due_of o bytes)) (Ok None)) (ltb o.replies replies) (sim_in t)) o bytes t.buffer t.log)
      go false b h k = unlike h
      go true true h k = full k
      go true false h k =
          let p = ltb-false (length t.log - o.used) 2 k in
          due_turn h (omega arith) (due_of o bytes) (knows o bytes) (ltb o.replies replies)

-- ---- a run

module _ (bytes : List ℕ) (base : ℕ) (before : controller.Device) (replies : ℕ) where
  all_turns : (n k : ℕ) (t : Turn) → Further bytes base before k t → Further bytes base before (k + n) (turns n replies bytes t)
  unfolding turns
  all_turns zero k t f = record { log = f.log; stage = f.stage; most = omega (arith, f.most); each = λ g. let e = f.each g in omega arith }
  all_turns (suc n) k t f =
      go (goes_on t.ran) refl (all_turns n (suc (length f.log)) (turn_of replies bytes t) (turn_on bytes base before replies t f.log f.stage))
    where
      go : (b : Bool) → goes_on t.ran ≡ b → Further bytes base before (suc (length f.log) + n) (turns n replies bytes (turn_of replies bytes t))
          → Further bytes base before (k + suc n) (cond b (turns n replies bytes (turn_of replies bytes t)) t)
      go true g more =
          let e : suc (length f.log) + n ≡ k + suc n = let z = f.each g in omega arith in
          subst (λ (m : ℕ). Further bytes base before m (turns n replies bytes (turn_of replies bytes t))) e more
      go false g more = record { log = f.log; stage = f.stage; most = omega (arith, f.most); each = λ h. absurd (true≢false (sym h ∙ g)) }

  -- n turns from where the simulated device stands
  pub from_here : (n : ℕ) (o : Op) (s : Sim) (buffer log : List ℕ) → o.used ≡ 0 → Stands s before → s.device.choices.base ≡ base
      → Further bytes base before n (turns n replies bytes (beginning o s.device buffer log s.sent s.received s.array))
  unfolding encode
  from_here n o s buffer log u st b =
      let first = beginning o s.device buffer log s.sent s.received s.array in
      let stage : Stage bytes base before [] first = record { is_log = rw u; within = rw u (omega arith); leads = nowhere st; based = b } in
      let e : 0 + n ≡ n = omega arith in
      subst (λ (m : ℕ). Further bytes base before m (turns n replies bytes first)) e (all_turns n 0 first (record { log = []; stage = stage; most = omega arith; each = λ g. refl }))

-- ---- what a cut leaves

spared : (w : Work) (m : Array) (x : ℕ) → Spares w x → done w m x ≡ m x
unfolding programmed erased
spared (programming c) m x h = rw h
spared (erasing a n) m x h = go (leb a x) (ltb x (a + n)) refl refl
  where
    go : (b c : Bool) → leb a x ≡ b → ltb x (a + n) ≡ c → cond (b && c) 0xFF (m x) ≡ m x
    go true true e f = absurd (h (leb-true a x e, ltb-true x (a + n) f))
    go true false e f = refl
    go false c e f = refl

pub may_leave : (s : Sim) (e : controller.Device) → Stands s e → AfterCut (flash_of e) (λ (x : ℕ). byte_at s.array s.device.choices.base x)
unfolding AfterCut
may_leave s e (stands h (resting z old)) = λ x. sym (old x)
may_leave s e (stands h (working {m} {w} z old)) = λ x free. sym (old x) ∙ spared w m x free

-- ---- from the start

module _ (ch : Choices) (sent received array : List ℕ) where
  abbrev pub resting_sim : Sim
  resting_sim = sim_of (at_rest ch) sent received array

  pub start : controller.Device
  start = controller.device 0x8008_C4C1 [] [] [] [] (flash (λ (x : ℕ). byte_at array ch.base x) false none)

  pub stands_at_rest : Stands resting_sim start
  unfolding start
  stands_at_rest =
      stands {ws = []} {t = []} {u = []}
      (record { outs = refl; freed = refl; all = refl; bytes = refl; room = omega arith; order = omega arith; held = omega arith; rest = λ z. (refl, refl) })
      (resting refl (λ x. refl))

  pub rests_so : Rests (λ (x : ℕ). byte_at array ch.base x) start
  unfolding start
  rests_so = rests refl refl refl refl

  -- what leads from the start to where the simulated device stands is an instance
  abbrev pub by_trace : {words : List ℕ} (l : List Access) (s : Sim) → words ≡ encode l → Leads start l s → s.device.choices.base ≡ ch.base → Instance ch.base array words s.array
  by_trace l s e x b = record {
    accesses = l;
    is_log = e;
    before = start;
    after = x.after;
    rests = rests_so;
    trace = x.trace;
    left = subst (λ (base : ℕ). AfterCut (flash_of x.after) (λ (y : ℕ). byte_at s.array base y)) b (may_leave s x.after x.standing);
  }

  -- every run is an instance, wherever it is cut
  module _ (o : Op) (n replies : ℕ) (bytes buffer log : List ℕ) (u : o.used ≡ 0) where
    abbrev ran : Turn
    ran = turns n replies bytes (beginning o (at_rest ch) buffer log sent received array)

    further : Further bytes ch.base start n ran
    further = from_here bytes ch.base start replies n o resting_sim buffer log u stands_at_rest refl

    pub instance : Instance ch.base array (take ran.ran.op.used ran.log) ran.array
    instance = by_trace further.log (sim_in ran) further.stage.is_log further.stage.leads further.stage.based
