-- One access to the simulated device is one that the controller allows: a read gives what it may, and a write has the controller's effect.
-- A refused write is none. Assumes nothing.
use Prim.Native.Nat.{ℕ, suc, ◌+◌, ◌-◌, ◌≤◌, ◌<◌}
use mathlib.Core.Path.{◌≡◌, refl, sym, ap, ◌∙◌, subst}
use mathlib.Core.Bool.{Bool, true, false, cond, true≢false}
use mathlib.Core.List.{List, [], ◌∷◌, ◌++◌, append_assoc, append-nil}
use native.Mathlib.Omega.{arith}
use lib.Dec.{eqb, ltb}
use lib.ListN.{length, get_or, take, drop, length-append}
use lib.Seq.{slice, slice-cons, slice_empty, sets, length-sets, sets-eq, length-take-le, take_at}
use borrow.Author.Tests.{lt-ltb, ltb-true, ltb-false, eqb-true, eqb-false, ne_eqb}
use Rattle.zynq7000.specs.Bits.{is_set, clear}
use Rattle.zynq7000.specs.declared.qspi.Access.{Access}
use Rattle.zynq7000.specs.declared.qspi.Access.TheVariants as access
use Rattle.zedboard_bsp.specs.Words.{bytes_of}
use Rattle.power_cut.specs.Flash.{Flash, execute}
use Rattle.power_cut.specs.Controller.{Register, config, status, enable, rx, other, tx, register_at, bytes_out, high, configured, effect, some_wait, Oldest, GivenBy, Gives, Trace, still, step}
use Rattle.power_cut.specs.Controller as controller
use Rattle.power_cut.proofs.Control.{join}
use Rattle.power_cut.proofs.Levels.{high_stored}
use Rattle.simulated_device.specs.Simulated.{Sim, sim_of, no_words, word_out, can_go_now, passed, taken_from, after_take, interrupt_status, answered, read_of, width_at, After, write_of, wrote}
use Rattle.simulated_device.specs.Simulated as sim
use Rattle.simulated_device.specs.Running.{after_read, after_write}
use Rattle.simulated_device.specs.declared.Tx.{Tx}
use Rattle.simulated_device.proofs.Standing.{Holds, Fits, Stands, stands, stands_as, Leads, nowhere, on}
use Rattle.simulated_device.proofs.WordsOut.{join_snoc, passes}
use Rattle.simulated_device.proofs.Executing.{Outcome, obeyed, stopped, executes}

-- ---- reads

-- registers that a read neither tells nor changes
data Free : Register → Type 0 where
  enables : Free enable
  others : Free other
  sends : {n : ℕ} → Free (tx n)

free_read : {r : Register} → Free r → (v : ℕ) (e : controller.Device) → GivenBy r v e × (controller.after_read r e ≡ e)
unfolding GivenBy controller.after_read
free_read enables v e = (tt, refl)
free_read others v e = (tt, refl)
free_read sends v e = (tt, refl)

last_free : (t₁ t₂ t₃ t₄ : Bool) → Free (cond t₁ (tx 4) (cond t₂ (tx 1) (cond t₃ (tx 2) (cond t₄ (tx 3) other))))
last_free true t₂ t₃ t₄ = sends
last_free false true t₃ t₄ = sends
last_free false false true t₄ = sends
last_free false false false true = sends
last_free false false false false = others

-- a read of a register by which the simulated device goes on so
read_by : (e : controller.Device) (o v : ℕ) (s : Sim) (r : Register) → register_at o ≡ r → GivenBy r v e → Stands s (controller.after_read r e) → Leads e (access.Read o v ∷ []) s
unfolding Gives effect
read_by e o v s r h g st =
    let may : Gives e (access.Read o v) = rw h g in
    record { after = controller.after_read (register_at o) e; standing = rw h st; trace = step may still }

some_waits : (i j : ℕ) (l : List ℕ) → i ≤ j → j ≤ length l → is_set 4 (cond (ltb i j) 0x10 0) ≡ some_wait (slice i j l)
some_waits i j l p q = go (ltb i j) refl
  where
    go : (b : Bool) → ltb i j ≡ b → is_set 4 (cond b 0x10 0) ≡ some_wait (slice i j l)
    go true e = rw (slice-cons i j l 0 (ltb-true i j e) q)
    go false e =
        let k = ltb-false i j e in
        let h : i ≡ j = omega arith in
        rw (h, slice_empty j l)

-- the RX words that wait after one of them is read
taken_rest : (i j : ℕ) (l : List ℕ) → i < j → j ≤ length l
    → slice (cond (ltb (i + 1) j) (record { put = j; taken = i + 1 }) sim.nothing_received).taken (cond (ltb (i + 1) j) (record { put = j; taken = i + 1 }) sim.nothing_received).put l ≡ drop 1 (slice i j l)
taken_rest i j l p q = go (ltb (i + 1) j) refl
  where
    n : i + 1 ≡ suc i
    n = omega arith

    go : (b : Bool) → ltb (i + 1) j ≡ b
        → slice (cond b (record { put = j; taken = i + 1 }) sim.nothing_received).taken (cond b (record { put = j; taken = i + 1 }) sim.nothing_received).put l ≡ drop 1 (slice i j l)
    go true e = rw (slice-cons i j l 0 p q, n)
    go false e =
        let k = ltb-false (i + 1) j e in
        let h : suc i ≡ j = omega arith in
        rw (slice-cons i j l 0 p q, h) (sym (slice_empty j l))

after_take_fits : (i j n : ℕ) → i < j → j ≤ n
    → ((cond (ltb (i + 1) j) (record { put = j; taken = i + 1 }) sim.nothing_received).taken ≤ (cond (ltb (i + 1) j) (record { put = j; taken = i + 1 }) sim.nothing_received).put)
    × ((cond (ltb (i + 1) j) (record { put = j; taken = i + 1 }) sim.nothing_received).put ≤ n)
after_take_fits i j n p q = go (ltb (i + 1) j) refl
  where
    go : (b : Bool) → ltb (i + 1) j ≡ b
        → ((cond b (record { put = j; taken = i + 1 }) sim.nothing_received).taken ≤ (cond b (record { put = j; taken = i + 1 }) sim.nothing_received).put)
        × ((cond b (record { put = j; taken = i + 1 }) sim.nothing_received).put ≤ n)
    go true e = (let k = ltb-true (i + 1) j e in omega arith, q)
    go false e = (omega arith, omega arith)

-- the simulated device after a read that it answers so
abbrev answered_sim : Sim → ℕ → Sim
answered_sim s o = sim_of (answered s.device o s.received).device s.sent s.received s.array

-- RX data: the oldest word, if one waits
takes : (s : Sim) (ws t u : List (List ℕ)) (f : Flash) (o : ℕ) → register_at o ≡ rx → Fits s ws t u → Holds s.device.chip s.device.choices.base s.array f
    → Leads (controller.device s.device.config t u (join ws) (slice s.device.rx.taken s.device.rx.put s.received) f) (access.Read o (taken_from s.device s.received).value ∷ []) (sim_of (taken_from s.device s.received).device s.sent s.received s.array)
unfolding GivenBy controller.after_read
takes s ws t u f o r h k = go (ltb s.device.rx.taken s.device.rx.put) refl
  where
    go : (b : Bool) → ltb s.device.rx.taken s.device.rx.put ≡ b
        → Leads (controller.device s.device.config t u (join ws) (slice s.device.rx.taken s.device.rx.put s.received) f) (access.Read o (taken_from s.device s.received).value ∷ []) (sim_of (taken_from s.device s.received).device s.sent s.received s.array)
    go true e =
        let p : s.device.rx.taken < s.device.rx.put = ltb-true s.device.rx.taken s.device.rx.put e in
        let q : s.device.rx.taken < length s.received = omega (arith, h.held) in
        let oldest : Oldest (slice s.device.rx.taken s.device.rx.put s.received) (get_or s.received s.device.rx.taken 0) =
        rw (slice-cons s.device.rx.taken s.device.rx.put s.received 0 p h.held) refl in
        let n = after_take_fits s.device.rx.taken s.device.rx.put (length s.received) p h.held in
        let x : Sim = sim_of (sim.with_rx s.device (after_take s.device.rx)) s.sent s.received s.array in
        let fits : Fits x ws t u = record { outs = h.outs; freed = h.freed; all = h.all; bytes = h.bytes; room = h.room; order = n.0; held = n.1; rest = h.rest } in
        rw (e, lt-ltb s.device.rx.taken (length s.received) q)
        (read_by _ o (get_or s.received s.device.rx.taken 0) x rx r oldest (stands_as x fits k refl (taken_rest s.device.rx.taken s.device.rx.put s.received p h.held)))
    go false e =
        let p = ltb-false s.device.rx.taken s.device.rx.put e in
        let z : s.device.rx.taken ≡ s.device.rx.put = omega (arith, h.order) in
        let empty : slice s.device.rx.taken s.device.rx.put s.received ≡ [] = rw z (slice_empty s.device.rx.put s.received) in
        rw e (read_by _ o 0 s rx r (rw empty tt) (stands_as s h k refl (rw empty refl)))

answers : (s : Sim) (e : controller.Device) → Stands s e → (o : ℕ) → Leads e (access.Read o (answered s.device o s.received).value ∷ []) (answered_sim s o)
unfolding GivenBy controller.after_read register_at
answers s e (stands {ws} {t} {u} {f} h k) o = zero₁ (eqb o 0x00) refl
  where
    Goal : Type 0
    Goal = Leads (controller.device s.device.config t u (join ws) (slice s.device.rx.taken s.device.rx.put s.received) f) (access.Read o (answered s.device o s.received).value ∷ []) (answered_sim s o)

    free : eqb o 0x00 ≡ false → eqb o 0x04 ≡ false → eqb o 0x20 ≡ false → (r : Register) → register_at o ≡ r → Free r → Goal
    free e₀ e₄ e₂ r g fr =
        let x = free_read fr 0 (controller.device s.device.config t u (join ws) (slice s.device.rx.taken s.device.rx.put s.received) f) in
        rw (e₀, e₄, e₂) (read_by _ o 0 s r g x.0 (rw x.1 (stands h k)))

    received : (b : Bool) → eqb o 0x20 ≡ b → eqb o 0x00 ≡ false → eqb o 0x04 ≡ false → eqb o 0x14 ≡ false → Goal
    received true e₂ e₀ e₄ e₁ = rw (e₀, e₄, e₂) (takes s ws t u f o (rw (e₀, e₄, e₁, e₂)) h k)
    received false e₂ e₀ e₄ e₁ =
        free e₀ e₄ e₂ _ (rw (e₀, e₄, e₁, e₂)) (last_free (eqb o 0x1C) (eqb o 0x80) (eqb o 0x84) (eqb o 0x88))

    enabled : (b : Bool) → eqb o 0x14 ≡ b → eqb o 0x00 ≡ false → eqb o 0x04 ≡ false → Goal
    enabled true e₁ e₀ e₄ =
        let n : o ≡ 0x14 = eqb-true o 0x14 e₁ in
        free e₀ e₄ (ne_eqb o 0x20 (λ z. omega arith)) enable (rw (e₀, e₄, e₁)) enables
    enabled false e₁ e₀ e₄ = received (eqb o 0x20) refl e₀ e₄ e₁

    four : (b : Bool) → eqb o 0x04 ≡ b → eqb o 0x00 ≡ false → Goal
    four true e₄ e₀ =
        rw (e₀, e₄)
        (read_by _ o (interrupt_status s.device.rx) s status (rw (e₀, e₄)) (some_waits s.device.rx.taken s.device.rx.put s.received h.order h.held) (stands h k))
    four false e₄ e₀ = enabled (eqb o 0x14) refl e₀ e₄

    zero₁ : (b : Bool) → eqb o 0x00 ≡ b → Goal
    zero₁ true e₀ = rw e₀ (read_by _ o s.device.config s config (rw e₀) refl (stands h k))
    zero₁ false e₀ = four (eqb o 0x04) refl e₀

-- between two accesses neither the bytes sent nor the array change
passed_same : (s : Sim) → ((passed s).sent ≡ s.sent) × ((passed s).array ≡ s.array)
passed_same s = go (eqb s.device.tx.pause 0) (can_go_now s)
  where
    later : Sim
    later = sim_of (sim.with_tx s.device (sim.waited s.device.tx)) s.sent s.received s.array

    go : (p b : Bool) → ((cond p (cond b (word_out s) later) later).sent ≡ s.sent) × ((cond p (cond b (word_out s) later) later).array ≡ s.array)
    go true true = (refl, refl)
    go true false = (refl, refl)
    go false b = (refl, refl)

pub reads : (s : Sim) (e : controller.Device) → Stands s e → (o : ℕ) → Leads e (access.Read o (read_of s o).value ∷ []) (after_read s o)
reads s e h o =
    let x = passes s e h in
    let y = answers (passed s) x.after x.standing o in
    let same = passed_same s in
    let d = (read_of s o).device in
    let r = (passed s).received in
    let e₁ : answered_sim (passed s) o ≡ sim_of d s.sent r (passed s).array = ap (λ (z : List ℕ). sim_of d z r (passed s).array) same.0 in
    let e₂ : sim_of d s.sent r (passed s).array ≡ after_read s o = ap (λ (z : List ℕ). sim_of d s.sent r z) same.1 in
    subst (λ (z : Sim). Leads e (access.Read o (read_of s o).value ∷ []) z) (e₁ ∙ e₂) (on x y)

-- ---- writes

-- the access is made, or it is refused and nothing but silence lies before it
pub data Attempt (e : controller.Device) (a : Access) (y : After) : Type 0 where
  made : y.written.refused ≡ false → Leads e (a ∷ []) (after_write y) → Attempt e a y
  not_made : y.written.refused ≡ true → Leads e [] (after_write y) → Attempt e a y

-- a write by which the simulated device goes on so
written_by : (e : controller.Device) (o v : ℕ) (s : Sim) → Stands s (effect e (access.Write o v)) → Leads e (access.Write o v ∷ []) s
unfolding Gives
written_by e o v s st = record { after = effect e (access.Write o v); standing = st; trace = step tt still }

-- config, by its effect
to_config : (e : controller.Device) (v : ℕ) (s : Sim) → Stands s (controller.after_write config v e) → Leads e (access.Write 0x00 v ∷ []) s
unfolding effect register_at
to_config e v s st = written_by e 0x00 v s st

join_append : (t u : List (List ℕ)) → join (t ++ u) ≡ join t ++ join u
join_append [] u = refl
join_append (b ∷ t) u = ap (λ (z : List ℕ). b ++ z) (join_append t u) ∙ sym (append_assoc b (join t) (join u))

-- chip select is high: no word is there, and none is released
module _ (s : Sim) (v : ℕ) (up : high s.device.config ≡ true) where
  stays_up : (f : Flash) → Fits s [] [] [] → Holds s.device.chip s.device.choices.base s.array f
      → Attempt (controller.device s.device.config [] [] [] (slice s.device.rx.taken s.device.rx.put s.received) f) (access.Write 0x00 v)
      (sim.after_executed (sim.keeping s.array (sim.accepted (sim.with_config s.device v s.device.tx s.device.chip))) s)
  unfolding controller.after_write configured
  stays_up f h k = made refl (to_config _ v x (lands (high v) (is_set 16 v)))
    where
      x : Sim
      x = sim_of (sim.with_config s.device v s.device.tx s.device.chip) s.sent s.received s.array

      r : List ℕ
      r = slice s.device.rx.taken s.device.rx.put s.received

      fits : Fits x [] [] []
      fits = record { outs = h.outs; freed = h.freed; all = h.all; bytes = h.bytes; room = h.room; order = h.order; held = h.held; rest = λ z. h.rest up }

      lands : (b t : Bool) → Stands x (configured (high s.device.config) b t (clear 16 v) [] [] [] r f)
      lands true true = rw up (stands fits k)
      lands true false = rw up (stands fits k)
      lands false true = rw up (stands fits k)
      lands false false = rw up (stands fits k)

-- chip select stays low: start releases the words that wait for it
module _ (s : Sim) (v : ℕ) (down : high s.device.config ≡ false) (still-down : high v ≡ false) where
  stays_down : (ws t u : List (List ℕ)) (f : Flash) → Fits s ws t u → Holds s.device.chip s.device.choices.base s.array f
      → Attempt (controller.device s.device.config t u (join ws) (slice s.device.rx.taken s.device.rx.put s.received) f) (access.Write 0x00 v)
      (sim.after_executed (sim.keeping s.array (sim.accepted (sim.with_config s.device v (sim.started s.device.tx v) s.device.chip))) s)
  unfolding controller.after_write configured
  stays_down ws t u f h k = made refl (to_config _ v (x (is_set 16 v)) (lands (is_set 16 v)))
    where
      start : Bool → Tx
      start b = cond b (record { bytes = s.device.tx.bytes; written = s.device.tx.written; released = s.device.tx.written; out = s.device.tx.out; pause = s.device.tx.pause }) s.device.tx

      x : Bool → Sim
      x b = sim_of (sim.with_config s.device v (start b) s.device.chip) s.sent s.received s.array

      r : List ℕ
      r = slice s.device.rx.taken s.device.rx.put s.received

      low : high (clear 16 v) ≡ true → (s.device.tx.written ≡ 0) × (s.device.tx.bytes ≡ 0)
      low z = absurd (true≢false (sym z ∙ (high_stored v ∙ still-down)))

      freed : length (t ++ u) ≡ length t + length u
      freed = length-append t u

      lands : (b : Bool) → Stands (x b) (configured (high s.device.config) (high v) b (clear 16 v) t u (join ws) r f)
      lands true =
          rw (down, still-down)
          (stands {ws = ws} {t = t ++ u} {u = []}
          (record {
            outs = h.outs;
            freed = omega (arith, freed, h.all);
            all = omega (arith, freed, h.all);
            bytes = rw (append-nil (join (t ++ u)), join_append t u) h.bytes;
            room = h.room;
            order = h.order;
            held = h.held;
            rest = low;
          })
          k)
      lands false =
          rw (down, still-down)
          (stands {ws = ws} {t = t} {u = u}
          (record { outs = h.outs; freed = h.freed; all = h.all; bytes = h.bytes; room = h.room; order = h.order; held = h.held; rest = low })
          k)

-- chip select rises, with every word out
module _ (s : Sim) (v : ℕ) (down : high s.device.config ≡ false) (rises : high v ≡ true) where
  rise : (ws : List (List ℕ)) (f : Flash) → Fits s ws [] [] → Holds s.device.chip s.device.choices.base s.array f
      → Attempt (controller.device s.device.config [] [] (join ws) (slice s.device.rx.taken s.device.rx.put s.received) f) (access.Write 0x00 v)
      (sim.after_executed (sim.executed s.device v s.sent s.array) s)
  unfolding Gives effect register_at controller.after_write configured
  rise ws f h k = go (sim.executed s.device v s.sent s.array) (executes s.device v s.sent s.array f h.room k)
    where
      r : List ℕ
      r = slice s.device.rx.taken s.device.rx.put s.received

      bytes : join ws ≡ take s.device.tx.bytes s.sent
      bytes = sym (append-nil (join ws)) ∙ h.bytes

      -- the device after the write, before the flash goes on
      after : (t : Bool) → configured (high s.device.config) (high v) t (clear 16 v) [] [] (join ws) r f ≡ controller.device (clear 16 v) [] [] [] r (execute f (take s.device.tx.bytes s.sent))
      after true = rw (down, rises, bytes)
      after false = rw (down, rises, bytes)

      go : (y : sim.Executed) → Outcome s.device v s.array (execute f (take s.device.tx.bytes s.sent)) y
          → Attempt (controller.device s.device.config [] [] (join ws) r f) (access.Write 0x00 v) (sim.after_executed y s)
      go y (obeyed {k = c} {array₁} {g} holds trace) =
          let here = controller.device s.device.config [] [] (join ws) r f in
          let end = controller.device (clear 16 v) [] [] [] r g in
          let x : Sim = sim_of (sim.with_config s.device v no_words c) s.sent s.received array₁ in
          let fits : Fits x [] [] [] = record { outs = refl; freed = refl; all = refl; bytes = refl; room = omega arith; order = h.order; held = h.held; rest = λ z. (refl, refl) } in
          let goes : Trace (effect here (access.Write 0x00 v)) [] end = rw (after (is_set 16 v)) (trace (clear 16 v) [] [] [] r) in
          made refl (record { after = end; standing = stands fits holds; trace = step {d = here} {a = access.Write 0x00 v} tt goes })
      go y stopped = not_made refl (nowhere (stands h k))

-- every word is out where as many are out as are written
rises : (s : Sim) (v : ℕ) → high s.device.config ≡ false → high v ≡ true → (e : controller.Device) → Stands s e → Attempt e (access.Write 0x00 v) (sim.after_executed (sim.raised s.device v s.sent s.array) s)
rises s v down up e st = go (eqb s.device.tx.out s.device.tx.written) refl e st
  where
    all : s.device.tx.out ≡ s.device.tx.written → (ws t u : List (List ℕ)) (f : Flash) → Fits s ws t u → Holds s.device.chip s.device.choices.base s.array f
        → Attempt (controller.device s.device.config t u (join ws) (slice s.device.rx.taken s.device.rx.put s.received) f) (access.Write 0x00 v)
        (sim.after_executed (sim.executed s.device v s.sent s.array) s)
    all e ws [] [] f h k = rise s v down up ws f h k
    all e ws [] (c ∷ u) f h k = absurd (omega (arith, h.outs, h.all))
    all e ws (c ∷ t) u f h k = absurd (omega (arith, h.outs, h.all))

    go : (b : Bool) → eqb s.device.tx.out s.device.tx.written ≡ b → (e : controller.Device) → Stands s e
        → Attempt e (access.Write 0x00 v) (sim.after_executed (cond b (sim.executed s.device v s.sent s.array) (sim.keeping s.array (sim.refusal s.device))) s)
    go true q e (stands {ws} {t} {u} {f} h k) = all (eqb-true s.device.tx.out s.device.tx.written q) ws t u f h k
    go false q e st = not_made refl (nowhere st)

-- what is silent before an access lies before it
made_on : {e : controller.Device} {s : Sim} {a : Access} {y : After} → (x : Leads e [] s) → Attempt x.after a y → Attempt e a y
made_on x (made h l) = made h (on x l)
made_on x (not_made h l) = not_made h (on x l)

-- config is written
configures : (s : Sim) (v : ℕ) (e : controller.Device) → Stands s e → Attempt e (access.Write 0x00 v) (sim.after_executed (sim.configured s.device v s.sent s.array) s)
configures s v e st = go (high s.device.config) (high v) refl refl e st
  where
    up₁ : high s.device.config ≡ true → (ws t u : List (List ℕ)) (f : Flash) → Fits s ws t u → Holds s.device.chip s.device.choices.base s.array f
        → Attempt (controller.device s.device.config t u (join ws) (slice s.device.rx.taken s.device.rx.put s.received) f) (access.Write 0x00 v)
        (sim.after_executed (sim.keeping s.array (sim.accepted (sim.with_config s.device v s.device.tx s.device.chip))) s)
    up₁ q [] [] [] f h k = stays_up s v q f h k
    up₁ q (c ∷ ws) t u f h k = let n = (h.rest q).0 in absurd (omega (arith, h.all))
    up₁ q [] (c ∷ t) u f h k = let n = (h.rest q).0 in absurd (omega (arith, h.all))
    up₁ q [] [] (c ∷ u) f h k = let n = (h.rest q).0 in absurd (omega (arith, h.all))

    go : (a b : Bool) → high s.device.config ≡ a → high v ≡ b → (e : controller.Device) → Stands s e
        → Attempt e (access.Write 0x00 v)
        (sim.after_executed (cond a (sim.keeping s.array (sim.accepted (sim.with_config s.device v s.device.tx s.device.chip)))
        (cond b (sim.raised s.device v s.sent s.array) (sim.keeping s.array (sim.accepted (sim.with_config s.device v (sim.started s.device.tx v) s.device.chip))))) s)
    go true b p q e (stands {ws} {t} {u} {f} h k) = up₁ p ws t u f h k
    go false true p q e st = rises s v p q e st
    go false false p q e (stands {ws} {t} {u} {f} h k) = stays_down s v p q ws t u f h k

-- ---- TX words

-- registers that a write does not change
data Quiet : Register → Type 0 where
  is_status : Quiet status
  is_enable : Quiet enable
  is_rx : Quiet rx
  is_other : Quiet other

quiet_write : {r : Register} → Quiet r → (v : ℕ) (e : controller.Device) → controller.after_write r v e ≡ e
unfolding controller.after_write
quiet_write is_status v e = refl
quiet_write is_enable v e = refl
quiet_write is_rx v e = refl
quiet_write is_other v e = refl

-- the register at an offset other than config's, by the width of its words
data Wide (o : ℕ) (n : ℕ) : Type 0 where
  word : 0 < n → n ≤ 4 → register_at o ≡ tx n → Wide o n
  no_word : n ≡ 0 → Quiet (register_at o) → Wide o n

wide : (o : ℕ) → eqb o 0x00 ≡ false → Wide o (width_at o)
unfolding register_at
wide o e₀ = four (eqb o 0x04) refl
  where
    last : (t₁ t₂ t₃ t₄ : Bool) → eqb o 0x1C ≡ t₁ → eqb o 0x80 ≡ t₂ → eqb o 0x84 ≡ t₃ → eqb o 0x88 ≡ t₄ → eqb o 0x04 ≡ false → eqb o 0x14 ≡ false → eqb o 0x20 ≡ false → Wide o (width_at o)
    last true t₂ t₃ t₄ f₁ f₂ f₃ f₄ e₄ e₁ e₂ = rw f₁ (word (omega arith) (omega arith) (rw (e₀, e₄, e₁, e₂, f₁)))
    last false true t₃ t₄ f₁ f₂ f₃ f₄ e₄ e₁ e₂ = rw (f₁, f₂) (word (omega arith) (omega arith) (rw (e₀, e₄, e₁, e₂, f₁, f₂)))
    last false false true t₄ f₁ f₂ f₃ f₄ e₄ e₁ e₂ = rw (f₁, f₂, f₃) (word (omega arith) (omega arith) (rw (e₀, e₄, e₁, e₂, f₁, f₂, f₃)))
    last false false false true f₁ f₂ f₃ f₄ e₄ e₁ e₂ = rw (f₁, f₂, f₃, f₄) (word (omega arith) (omega arith) (rw (e₀, e₄, e₁, e₂, f₁, f₂, f₃, f₄)))
    last false false false false f₁ f₂ f₃ f₄ e₄ e₁ e₂ = rw (f₁, f₂, f₃, f₄) (no_word refl (rw (e₀, e₄, e₁, e₂, f₁, f₂, f₃, f₄) is_other))

    -- no TX register: the width is 0
    no-tx : (n : ℕ) → o ≡ n → (n ≡ 0x1C → ⊥) → (n ≡ 0x80 → ⊥) → (n ≡ 0x84 → ⊥) → (n ≡ 0x88 → ⊥) → width_at o ≡ 0
    no-tx n e a b c d =
        rw (ne_eqb o 0x1C (λ x. a (sym e ∙ x)), ne_eqb o 0x80 (λ x. b (sym e ∙ x)), ne_eqb o 0x84 (λ x. c (sym e ∙ x)), ne_eqb o 0x88 (λ x. d (sym e ∙ x)))

    rx₁ : (t : Bool) → eqb o 0x20 ≡ t → eqb o 0x04 ≡ false → eqb o 0x14 ≡ false → Wide o (width_at o)
    rx₁ true e₂ e₄ e₁ =
        no_word (no-tx 0x20 (eqb-true o 0x20 e₂) (λ x. omega arith) (λ x. omega arith) (λ x. omega arith) (λ x. omega arith)) (rw (e₀, e₄, e₁, e₂) is_rx)
    rx₁ false e₂ e₄ e₁ = last (eqb o 0x1C) (eqb o 0x80) (eqb o 0x84) (eqb o 0x88) refl refl refl refl e₄ e₁ e₂

    enable₁ : (t : Bool) → eqb o 0x14 ≡ t → eqb o 0x04 ≡ false → Wide o (width_at o)
    enable₁ true e₁ e₄ =
        no_word (no-tx 0x14 (eqb-true o 0x14 e₁) (λ x. omega arith) (λ x. omega arith) (λ x. omega arith) (λ x. omega arith)) (rw (e₀, e₄, e₁) is_enable)
    enable₁ false e₁ e₄ = rx₁ (eqb o 0x20) refl e₄ e₁

    four : (t : Bool) → eqb o 0x04 ≡ t → Wide o (width_at o)
    four true e₄ =
        no_word (no-tx 0x04 (eqb-true o 0x04 e₄) (λ x. omega arith) (λ x. omega arith) (λ x. omega arith) (λ x. omega arith)) (rw (e₀, e₄) is_status)
    four false e₄ = enable₁ (eqb o 0x14) refl e₄

-- ---- a TX word is written

length_bytes : (n v : ℕ) → n ≤ 4 → length (take n (bytes_of v)) ≡ n
length_bytes n v p = length-take-le n (bytes_of v) p

take_sets : (l vs : List ℕ) (i : ℕ) → i + length vs ≤ length l → take (i + length vs) (sets l i vs) ≡ take i l ++ vs
take_sets l vs i p =
    let n : length (take i l ++ vs) ≡ i + length vs = length-append (take i l) vs ∙ ap (λ (z : ℕ). z + length vs) (length-take-le i l (omega arith)) in
    ap (take (i + length vs)) (sets-eq vs l i p) ∙ take_at (take i l ++ vs) (drop (i + length vs) l) (i + length vs) n

module _ (s : Sim) (o v n : ℕ) (width : width_at o ≡ n) (small : n ≤ 4) (port : register_at o ≡ tx n) where
  sends_one : (ws t u : List (List ℕ)) (f : Flash) → Fits s ws t u → Holds s.device.chip s.device.choices.base s.array f
      → high s.device.config ≡ false → 4 ≤ length s.sent → s.device.tx.bytes ≤ length s.sent - 4
      → Leads (controller.device s.device.config t u (join ws) (slice s.device.rx.taken s.device.rx.put s.received) f) (access.Write o v ∷ [])
      (sim_of (sim.with_tx s.device (sim.one_more s.device.tx n)) (sets s.sent s.device.tx.bytes (take n (bytes_of v))) s.received s.array)
  unfolding effect controller.after_write bytes_out
  sends_one ws t u f h k low four room =
      let b = take n (bytes_of v) in
      let l : length (take n (bytes_of v)) ≡ n = length_bytes n v small in
      let x : Sim = sim_of (sim.with_tx s.device (sim.one_more s.device.tx n)) (sets s.sent s.device.tx.bytes b) s.received s.array in
      let e₁ : s.device.tx.bytes + n ≡ s.device.tx.bytes + length (take n (bytes_of v)) = rw l in
      let put : take (s.device.tx.bytes + n) (sets s.sent s.device.tx.bytes b) ≡ take s.device.tx.bytes s.sent ++ b =
      ap (λ (z : ℕ). take z (sets s.sent s.device.tx.bytes b)) e₁ ∙ take_sets s.sent b s.device.tx.bytes (omega (arith, l)) in
      let row : join ws ++ (join t ++ join (u ++ b ∷ [])) ≡ join ws ++ (join t ++ join u) ++ b =
      ap (λ (z : List ℕ). join ws ++ (join t ++ z)) (join_snoc u b) ∙ (ap (λ (z : List ℕ). join ws ++ z) (sym (append_assoc (join t) (join u) b)) ∙ sym (append_assoc (join ws) (join t ++ join u) b)) in
      let more : length (u ++ b ∷ []) ≡ length u + 1 = length-append u (b ∷ []) in
      let kept : length (sets s.sent s.device.tx.bytes b) ≡ length s.sent = length-sets s.sent s.device.tx.bytes b in
      let fits : Fits x ws t (u ++ b ∷ []) = record {
        outs = h.outs;
        freed = h.freed;
        all = omega (arith, more, h.all);
        bytes = row ∙ (ap (λ (z : List ℕ). z ++ b) h.bytes ∙ sym put);
        room = omega (arith, kept);
        order = h.order;
        held = h.held;
        rest = λ z. absurd (true≢false (sym z ∙ low));
      } in
      written_by _ o v x (rw port (stands fits k))

sending : (s : Sim) (o v : ℕ) (e : controller.Device) → Stands s e → eqb o 0x00 ≡ false → 0 < width_at o → Attempt e (access.Write o v) (sim.after_sent (sim.sending s.device o v s.sent) s)
sending s o v e st e₀ p = top (high s.device.config) refl
  where
    no : sim.After
    no = sim.after_sent (sim.not_sent s.device s.sent) s

    yes : After
    yes = sim.after_sent (sim.is_sent s.device o v s.sent) s

    refuse : Attempt e (access.Write o v) no
    refuse = not_made refl (nowhere st)

    goes : (w : Wide o (width_at o)) → high s.device.config ≡ false → 4 ≤ length s.sent → s.device.tx.bytes ≤ length s.sent - 4 → (e : controller.Device) → Stands s e → Attempt e (access.Write o v) yes
    goes (word q small port) low four room e (stands {ws} {t} {u} {f} h k) = made refl (sends_one s o v (width_at o) refl small port ws t u f h k low four room)
    goes (no_word z q) low four room e st = absurd (omega arith)

    words : (b : Bool) → ltb s.device.tx.bytes s.device.tx.written ≡ b → high s.device.config ≡ false → 4 ≤ length s.sent → s.device.tx.bytes ≤ length s.sent - 4
        → Attempt e (access.Write o v) (sim.after_sent (cond b (sim.not_sent s.device s.sent) (sim.is_sent s.device o v s.sent)) s)
    words true q low four room = refuse
    words false q low four room = goes (wide o e₀) low four room e st

    full : (b : Bool) → ltb (length s.sent - 4) s.device.tx.bytes ≡ b → high s.device.config ≡ false → 4 ≤ length s.sent
        → Attempt e (access.Write o v) (sim.after_sent (cond b (sim.not_sent s.device s.sent) (cond (ltb s.device.tx.bytes s.device.tx.written) (sim.not_sent s.device s.sent) (sim.is_sent s.device o v s.sent))) s)
    full true q low four = refuse
    full false q low four = words (ltb s.device.tx.bytes s.device.tx.written) refl low four (ltb-false (length s.sent - 4) s.device.tx.bytes q)

    small : (b : Bool) → ltb (length s.sent) 4 ≡ b → high s.device.config ≡ false
        → Attempt e (access.Write o v) (sim.after_sent (cond b (sim.not_sent s.device s.sent) (cond (ltb (length s.sent - 4) s.device.tx.bytes) (sim.not_sent s.device s.sent) (cond (ltb s.device.tx.bytes s.device.tx.written) (sim.not_sent s.device s.sent) (sim.is_sent s.device o v s.sent)))) s)
    small true q low = refuse
    small false q low = full (ltb (length s.sent - 4) s.device.tx.bytes) refl low (ltb-false (length s.sent) 4 q)

    top : (b : Bool) → high s.device.config ≡ b → Attempt e (access.Write o v) (sim.after_sent (sim.sending s.device o v s.sent) s)
    top true q = rw q refuse
    top false q = rw q (small (ltb (length s.sent) 4) refl q)

-- ---- any write

writes_one : (s : Sim) (o v : ℕ) (e : controller.Device) → Stands s e → Attempt e (access.Write o v) (wrote s o v)
unfolding effect
writes_one s o v e st = top (eqb o 0x00) refl
  where
    other₁ : Wide o (width_at o) → eqb (width_at o) 0 ≡ true → Attempt e (access.Write o v) (sim.after_of (sim.accepted s.device) s)
    other₁ (word p q r) z = let n = eqb-true (width_at o) 0 z in absurd (omega arith)
    other₁ (no_word p q) z =
        made refl (written_by e o v s (rw (quiet_write q v e) st))

    tx₁ : (b : Bool) → eqb (width_at o) 0 ≡ b → eqb o 0x00 ≡ false
        → Attempt e (access.Write o v) (cond b (sim.after_of (sim.accepted s.device) s) (sim.after_sent (sim.sending s.device o v s.sent) s))
    tx₁ true z e₀ = other₁ (wide o e₀) z
    tx₁ false z e₀ =
        let n = eqb-false (width_at o) 0 z in
        sending s o v e st e₀ (omega (arith, n))

    top : (b : Bool) → eqb o 0x00 ≡ b
        → Attempt e (access.Write o v) (cond b (sim.after_executed (sim.configured s.device v s.sent s.array) s) (cond (eqb (width_at o) 0) (sim.after_of (sim.accepted s.device) s) (sim.after_sent (sim.sending s.device o v s.sent) s)))
    top true z = let n = eqb-true o 0x00 z in rw n (configures s v e st)
    top false z = tx₁ (eqb (width_at o) 0) refl z

pub writes : (s : Sim) (e : controller.Device) → Stands s e → (o v : ℕ) → Attempt e (access.Write o v) (write_of s o v)
writes s e st o v =
    let x = passes s e st in
    made_on x (writes_one (passed s) o v x.after x.standing)
