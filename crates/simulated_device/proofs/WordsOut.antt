-- Words go out as the controller lets them: each with a reply that shows what it must, and the work is done after the last status read that
-- showed it. Assumes nothing.
use Prim.Native.Nat.{ℕ, suc, ◌+◌, ◌-◌, ◌≤◌, ◌<◌}
use mathlib.Core.Path.{◌≡◌, refl, sym, ap, ◌∙◌}
use mathlib.Core.Bool.{Bool, true, false, cond}
use mathlib.Core.List.{List, [], ◌∷◌, ◌++◌, append_assoc, append-nil}
use native.Mathlib.Omega.{arith}
use lib.Dec.{eqb, ltb}
use lib.ListN.{length, get_or, set, take, length-append, length-set, get_or-append}
use lib.Seq.{slice, take-suc-set, get_or-take, length-take-le, drop-append-le}
use borrow.Author.Tests.{lt-ltb, le-ltb, ltb-true, eqb-true, eqb-false, eq-eqb}
use Rattle.zedboard_bsp.specs.Words.{word_of}
use Rattle.qspi_operation.proofs.Verdicts.{no}
use Rattle.power_cut.specs.Flash.{Flash, busy, settles}
use Rattle.power_cut.specs.Controller.{is_status_read, shows_busy, shows_program_error, shows_erase_error, Shows, out, idle, Trace, still, quiet}
use Rattle.power_cut.specs.Controller as controller
use Rattle.power_cut.proofs.Control.{join}
use Rattle.simulated_device.specs.Replies.{status_of, reply_of}
use Rattle.simulated_device.specs.Simulated.{Sim, sim_of, shown, can_go_now, word_out, with_tx, waited, passed}
use Rattle.simulated_device.specs.declared.Chip.{Chip}
use Rattle.simulated_device.proofs.Steps.{released_not_out, has_room}
use Rattle.simulated_device.proofs.Standing.{Holds, resting, working, Fits, Stands, stands, stands_as, Leads, nowhere}

-- ---- lists

pub join_snoc : (ws : List (List ℕ)) (b : List ℕ) → join (ws ++ b ∷ []) ≡ join ws ++ b
join_snoc [] b = append-nil b
join_snoc (w ∷ ws) b = ap (λ (z : List ℕ). w ++ z) (join_snoc ws b) ∙ sym (append_assoc w (join ws) b)

-- the first byte of a part at the front
front : (xs ys : List ℕ) (n : ℕ) (l : List ℕ) → xs ++ ys ≡ take n l → 0 < length xs → n ≤ length l → get_or xs 0 0 ≡ get_or l 0 0
front xs ys n l e p k =
    let h : length xs + length ys ≡ n = sym (length-append xs ys) ∙ (ap (λ (z : List ℕ). length z) e ∙ length-take-le n l k) in
    sym (get_or-append xs ys 0 0 p) ∙ (ap (λ (z : List ℕ). get_or z 0 0) e ∙ get_or-take n l 0 0 (omega arith))

slice_snoc : (i j : ℕ) (l : List ℕ) (v : ℕ) → i ≤ j → j < length l → slice i (suc j) (set l j v) ≡ slice i j l ++ v ∷ []
slice_snoc i j l v p q =
    rw (take-suc-set l j v q)
    (drop-append-le i (take j l) (v ∷ []) (rw (length-take-le j l (omega arith)) p))

-- ---- replies

status_first : (bs : List ℕ) → is_status_read bs ≡ true → (0 < length bs) × (get_or bs 0 0 ≡ 0x05)
unfolding is_status_read
status_first [] h = no h
status_first (b ∷ []) h = no h
status_first (b ∷ c ∷ bs) h = (omega arith, eqb-true b 0x05 h)

record ShowsStatus (reply : ℕ) (b : Bool) : Type 0 where
  shown : shows_busy reply ≡ b
  program : shows_program_error reply ≡ false
  erase : shows_erase_error reply ≡ false

shows_status : (latch : Bool) (s : ℕ) (b : Bool) → s ≡ cond b 0x01 (cond latch 0x02 0x00) → ShowsStatus (word_of (s ∷ s ∷ s ∷ s ∷ [])) b
shows_status latch s true e = rw e (record { shown = refl; program = refl; erase = refl })
shows_status true s false e = rw e (record { shown = refl; program = refl; erase = refl })
shows_status false s false e = rw e (record { shown = refl; program = refl; erase = refl })

status_of_lem : (c : Chip) (base : ℕ) (array : List ℕ) (f : Flash) → Holds c base array f → ShowsStatus (word_of (status_of c ∷ status_of c ∷ status_of c ∷ status_of c ∷ [])) (busy f)
status_of_lem c base array f (resting z h) = shows_status c.latch (status_of c) false (rw (le-ltb 0 c.busy (omega arith)))
status_of_lem c base array f (working z h) = shows_status c.latch (status_of c) true (rw (lt-ltb 0 c.busy z))

reply_shows : (v : ℕ) (c : Chip) (base : ℕ) (sent array : List ℕ) (words : ℕ) (f : Flash) (bs : List ℕ) → Holds c base array f
    → (is_status_read bs ≡ true → get_or sent 0 0 ≡ 0x05) → Shows v f bs (reply_of c base sent array words)
reply_shows v c base sent array words f bs h first =
    let x = status_of_lem c base array f h in
    record {
      shown = λ d e. rw (eq-eqb (get_or sent 0 0) 0x05 (first e)) x.shown;
      no_error = λ d e. rw (eq-eqb (get_or sent 0 0) 0x05 (first e)) (x.program, x.erase);
    }

-- ---- the work is done

-- the flash after a status read, with nothing else changed
record Later (c : Chip) (base : ℕ) (array : List ℕ) (v : ℕ) (t u : List (List ℕ)) (w r : List ℕ) (f : Flash) : Type 0 where
  flash₁ : Flash
  holds : Holds c base array flash₁
  trace : Trace (controller.device v t u w r f) [] (controller.device v t u w r flash₁)

later : (c : Chip) (command base : ℕ) (array : List ℕ) (v : ℕ) (t u : List (List ℕ)) (w r : List ℕ) (f : Flash) → Holds c base array f
    → Later (shown c command) base array v t u w r f
later c command base array v t u w r f h = go (eqb command 0x05) refl f h
  where
    last : (b : Bool) → eqb (c.busy - 1) 0 ≡ b → (f : Flash) → 0 < c.busy → Holds c base array f
        → Later (record { latch = c.latch; busy = c.busy - 1 }) base array v t u w r f
    last b e f p (resting z k) = absurd (omega arith)
    last true e f p (working z k) = record { flash₁ = _; holds = resting (eqb-true (c.busy - 1) 0 e) k; trace = quiet (idle settles) still }
    last false e f p (working z k) = record { flash₁ = f; holds = working (let n = eqb-false (c.busy - 1) 0 e in omega (arith, n)) k; trace = still }

    status : (b : Bool) → ltb 0 c.busy ≡ b → (f : Flash) → Holds c base array f
        → Later (cond b (record { latch = c.latch; busy = c.busy - 1 }) c) base array v t u w r f
    status true e f h = last (eqb (c.busy - 1) 0) refl f (ltb-true 0 c.busy e) h
    status false e f h = record { flash₁ = f; holds = h; trace = still }

    go : (b : Bool) → eqb command 0x05 ≡ b → (f : Flash) → Holds c base array f → Later (shown c command) base array v t u w r f
    go true e f h = rw e (status (ltb 0 c.busy) refl f h)
    go false e f h = rw e (record { flash₁ = f; holds = h; trace = still })

-- ---- a word goes out

module _ (s : Sim) (can : can_go_now s ≡ true) where
  released : s.device.tx.out < s.device.tx.released
  released = released_not_out s.device.tx s.device.rx (length s.received) can

  space : s.device.rx.put < length s.received
  space = has_room s.device.tx s.device.rx (length s.received) can

  fits_on : (ws : List (List ℕ)) (b : List ℕ) (t u : List (List ℕ)) → Fits s ws (b ∷ t) u → Fits (word_out s) (ws ++ b ∷ []) t u
  fits_on ws b t u h =
      let n : length (ws ++ b ∷ []) ≡ length ws + 1 = length-append ws (b ∷ []) in
      record {
        outs = omega (arith, n, h.outs);
        freed = omega (arith, n, h.freed);
        all = omega (arith, n, h.all);
        bytes = rw (join_snoc ws b) (append_assoc (join ws) b (join t ++ join u) ∙ (ap (λ (z : List ℕ). join ws ++ z) (sym (append_assoc b (join t) (join u))) ∙ h.bytes));
        room = h.room;
        order = omega (arith, h.order);
        held = rw (length-set s.received s.device.rx.put (reply_of s.device.chip s.device.choices.base s.sent s.array s.device.tx.out)) (omega (arith, space));
        rest = h.rest;
      }

  goes : (ws t u : List (List ℕ)) (f : Flash) → Fits s ws t u → Holds s.device.chip s.device.choices.base s.array f
      → Leads (controller.device s.device.config t u (join ws) (slice s.device.rx.taken s.device.rx.put s.received) f) [] (word_out s)
  goes ws [] u f h k = absurd (omega (arith, released, h.outs, h.freed))
  goes ws (b ∷ t) u f h k =
      let reply = reply_of s.device.chip s.device.choices.base s.sent s.array s.device.tx.out in
      let r = slice s.device.rx.taken s.device.rx.put s.received in
      let prefix : (join ws ++ b) ++ (join t ++ join u) ≡ take s.device.tx.bytes s.sent =
      append_assoc (join ws) b (join t ++ join u) ∙ (ap (λ (z : List ℕ). join ws ++ z) (sym (append_assoc b (join t) (join u))) ∙ h.bytes) in
      let first : is_status_read (join ws ++ b) ≡ true → get_or s.sent 0 0 ≡ 0x05 =
      (λ e. let x = status_first (join ws ++ b) e in sym (front (join ws ++ b) (join t ++ join u) s.device.tx.bytes s.sent prefix x.0 h.room) ∙ x.1) in
      let shows = reply_shows s.device.config s.device.chip s.device.choices.base s.sent s.array s.device.tx.out f (join ws ++ b) k first in
      let l = later s.device.chip (get_or s.sent 0 0) s.device.choices.base s.array s.device.config t u (join ws ++ b) (r ++ reply ∷ []) f k in
      let n : s.device.rx.put + 1 ≡ suc s.device.rx.put = omega arith in
      let put : slice s.device.rx.taken (s.device.rx.put + 1) (set s.received s.device.rx.put reply) ≡ r ++ reply ∷ [] =
      rw n (slice_snoc s.device.rx.taken s.device.rx.put s.received reply h.order space) in
      record {
        after = controller.device s.device.config t u (join ws ++ b) (r ++ reply ∷ []) l.flash₁;
        standing = stands_as (word_out s) (fits_on ws b t u h) l.holds (join_snoc ws b) put;
        trace = quiet (out reply shows) l.trace;
      }

  pub word_out_lem : (e : controller.Device) → Stands s e → Leads e [] (word_out s)
  word_out_lem e (stands {ws} {t} {u} {f} h k) = goes ws t u f h k

-- ---- between two accesses

waits : (s : Sim) (e : controller.Device) → Stands s e → Stands (sim_of (with_tx s.device (waited s.device.tx)) s.sent s.received s.array) e
waits s e (stands {ws} {t} {u} {f} h k) =
    stands {ws = ws} {t = t} {u = u} {f = f} (record { outs = h.outs; freed = h.freed; all = h.all; bytes = h.bytes; room = h.room; order = h.order; held = h.held; rest = h.rest }) k

pub passes : (s : Sim) (e : controller.Device) → Stands s e → Leads e [] (passed s)
passes s e h = go (eqb s.device.tx.pause 0) (can_go_now s) refl
  where
    later₁ : Sim
    later₁ = sim_of (with_tx s.device (waited s.device.tx)) s.sent s.received s.array

    go : (p b : Bool) → can_go_now s ≡ b → Leads e [] (cond p (cond b (word_out s) later₁) later₁)
    go true true can = word_out_lem s can e h
    go true false can = nowhere (waits s e h)
    go false b can = nowhere (waits s e h)
