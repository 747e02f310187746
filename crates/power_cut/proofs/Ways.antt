-- Ways that the list machine and the device can go together, and the way through one transfer: from any device at rest to the end of the
-- transfer, with every word out at once and every reply 0. Assumes nothing.
use mathlib.Core.Path.{◌≡◌, refl, ap, ◌∙◌, sym}
use mathlib.Core.Bool.{Bool, true, false}
use mathlib.Core.List.{List, [], ◌∷◌, ◌++◌, map, reverse, append-nil, append_assoc}
use Prim.Native.Nat.{ℕ, zero, suc, ◌+◌}
use native.Mathlib.Omega.{arith}
use lib.ListN.{length, length-map}
use lib.Seq.{append_snoc}
use Rattle.zynq7000.specs.Access.{value_word}
use Rattle.zynq7000.specs.Bits.{clear}
use Rattle.zynq7000.specs.declared.qspi.Access.{Access}
use Rattle.zynq7000.specs.declared.qspi.Access.TheVariants as access
use Rattle.qspi_transfer.specs.LowLevel.{chip_select_high, chip_select_low, started}
use Rattle.qspi_operation.specs.Machine.{Want, Transfer, Script, State, begin, want, next, Matches, m_read, m_write}
use Rattle.qspi_calls.specs.Calls.{zeros}
use Rattle.qspi_calls.proofs.PromptLogs.{Plays, plays_none, plays_read, plays_write, plays_then}
use Rattle.power_cut.specs.Flash.{Flash, busy, execute}
use Rattle.power_cut.specs.Controller.{register_at, tx, bytes_out, Device, device, Shows, Silent, out, configured, after_read, after_write, effect, GivenBy, Gives, Trace, still, quiet, step}
use Rattle.qspi_calls.proofs.Phases.{words}
use Rattle.power_cut.proofs.Driver.{Phase, draining, dropping, opening, lowering, switching, sending, starting, releasing, waiting, again, taking, closing, raising, leaving, send_next, take_next, phase_after, in_transfer, transfer_next}
use Rattle.power_cut.proofs.Levels.{high_put, high_clear, high_start, starts_put, starts_high, starts_low}
use Rattle.power_cut.proofs.Watch.{flat}
use Rattle.power_cut.proofs.Control.{join, join_map, map_snoc, Up, Down, down_low, down_start, up_high}

-- ---- ways of machine and device together

-- the machine makes these accesses, and they are a trace of the device
pub record Way (s : State) (d : Device) (l : List Access) (t : State) (e : Device) : Type 0 where
  pub plays : Plays s l t
  pub trace : Trace d l e

pub trace_append : {d e g : Device} {l m : List Access} → Trace d l e → Trace e m g → Trace d (l ++ m) g
trace_append still u = u
trace_append (quiet s t) u = quiet s (trace_append t u)
trace_append (step i t) u = step i (trace_append t u)

then : {s t u : State} {d e g : Device} {l m : List Access} → Way s d l t e → Way t e m u g → Way s d (l ++ m) u g
then x y = record { plays = plays_then x.plays y.plays; trace = trace_append x.trace y.trace }

there : {s t : State} → s ≡ t → Plays s [] t
there e = rw e plays_none

-- one access that was due
plays_one : {s t : State} {w : Want} {a : Access} → want s ≡ w → Matches w a → next s (value_word a) ≡ t → Plays s (a ∷ []) t
plays_one e m_read f = plays_read e (there f)
plays_one e m_write f = plays_write e (there f)

one : {s t : State} {d : Device} (a : Access) → Matches (want s) a → Gives d a → next s (value_word a) ≡ t → Way s d (a ∷ []) t (effect d a)
one a m g e = record { plays = plays_one refl m e; trace = step g still }

-- somewhere from here, to a state and a device
pub record Leads (s : State) (d : Device) (t : State) (e : Device) : Type 0 where
  pub log : List Access
  pub way : Way s d log t e

pub on : {s t u : State} {d e g : Device} → Leads s d t e → Leads t e u g → Leads s d u g
on x y = record { log = x.log ++ y.log; way = then x.way y.way }

by : {s t : State} {d : Device} (a : Access) → Matches (want s) a → Gives d a → next s (value_word a) ≡ t → Leads s d t (effect d a)
by a m g e = record { log = a ∷ []; way = one a m g e }

pub silently : {s t : State} {d e g : Device} → Silent d e → Leads s e t g → Leads s d t g
silently z x = record { log = x.log; way = record { plays = x.way.plays; trace = quiet z x.way.trace } }

pub nowhere : {s : State} {d : Device} → Leads s d s d
nowhere = record { log = []; way = record { plays = plays_none; trace = still } }

-- ---- one transfer

zeros_snoc : (n : ℕ) → zeros n ++ 0 ∷ [] ≡ zeros (suc n)
zeros_snoc zero = refl
zeros_snoc (suc n) = ap (λ (z : List ℕ). 0 ∷ z) (zeros_snoc n)

-- a reply of 0 from an idle flash
quiet_reply : (c : ℕ) (f : Flash) (bs : List ℕ) → busy f ≡ false → Shows c f bs 0
quiet_reply c f bs h = record { shown = λ d e. sym h; no_error = λ d e. (refl, refl) }

module _ (width : ℕ) (x : Transfer) (k : List ℕ → Script) (n : ℕ) (f : Flash) (port : register_at x.port ≡ tx width) (rest : busy f ≡ false) where
  abbrev here : Phase → List ℕ → State
  here p taken = in_transfer x p taken k n

  drains : (c : ℕ) (w r : List ℕ) → Leads (here draining []) (device c [] [] w r f) (here opening []) (device c [] [] w [] f)
  unfolding effect after_read after_write register_at Gives GivenBy
  drains c w [] = by (access.Read 0x04 0) m_read refl refl
  drains c w (v ∷ r) =
      on {t = here dropping []} (by (access.Read 0x04 16) m_read refl refl)
      (on {t = here draining []} {e = device c [] [] w r f} (by (access.Read 0x20 v) m_read refl refl) (drains c w r))

  opens : (c : ℕ) (w : List ℕ) → Up c → Leads (here opening []) (device c [] [] w [] f) (here (sending [] x.command x.further) []) (device (clear 16 (chip_select_low c)) [] [] [] [] f)
  unfolding effect after_read after_write register_at configured Gives GivenBy
  opens c w u =
      let lowered : effect (device c [] [] w [] f) (access.Write 0x00 (chip_select_low c)) ≡ device (clear 16 (chip_select_low c)) [] [] [] [] f = rw (u.up, high_clear c, starts_low c, u.unstarted) in
      let lower : Leads (here (lowering c) []) (device c [] [] w [] f) (here switching []) (device (clear 16 (chip_select_low c)) [] [] [] [] f) =
      rw (← lowered) (by (access.Write 0x00 (chip_select_low c)) m_write tt refl) in
      on {t = here (lowering c) []} (by (access.Read 0x00 c) m_read refl refl)
      (on {t = here switching []} lower (by (access.Write 0x14 1) m_write tt refl))

  sent : (c : ℕ) (q : List ℕ) (w : ℕ) → effect (device c [] (map (bytes_out width) q) [] [] f) (access.Write x.port w) ≡ device c [] (map (bytes_out width) (q ++ w ∷ [])) [] [] f
  unfolding effect after_write
  sent c q w = rw (port, map_snoc width q w)

  send_one_lem : (c : ℕ) (q : List ℕ) (w : ℕ) (l : List ℕ) → Leads (here (sending q w l) []) (device c [] (map (bytes_out width) q) [] [] f) (here (send_next (q ++ w ∷ []) l) []) (device c [] (map (bytes_out width) (q ++ w ∷ [])) [] [] f)
  unfolding Gives phase_after
  send_one_lem c q w l = rw (← sent c q w) (by (access.Write x.port w) m_write tt (transfer_next x k n (sending q w l) [] w refl))

  sends : (c : ℕ) (q : List ℕ) (w : ℕ) (l : List ℕ) → q ++ w ∷ l ≡ words x
      → Leads (here (sending q w l) []) (device c [] (map (bytes_out width) q) [] [] f) (here starting []) (device c [] (map (bytes_out width) (words x)) [] [] f)
  sends c q w [] e = rw e at (send_one_lem c q w [])
  sends c q w (v ∷ l) e = on (send_one_lem c q w (v ∷ l)) (sends c (q ++ w ∷ []) v l (append_snoc q w (v ∷ l) ∙ e))

  starts : (c : ℕ) → Down c → Leads (here starting []) (device c [] (map (bytes_out width) (words x)) [] [] f) (here (take_next x.replies) []) (device (clear 16 (started c)) (map (bytes_out width) (words x)) [] [] [] f)
  unfolding effect after_read after_write register_at configured Gives GivenBy phase_after
  starts c d =
      let begun : effect (device c [] (map (bytes_out width) (words x)) [] [] f) (access.Write 0x00 (started c)) ≡ device (clear 16 (started c)) (map (bytes_out width) (words x)) [] [] [] f = rw (high_start c, d.down, starts_put c) in
      let begin-it : Leads (here (releasing c) []) (device c [] (map (bytes_out width) (words x)) [] [] f) (here (take_next x.replies) []) (device (clear 16 (started c)) (map (bytes_out width) (words x)) [] [] [] f) =
      rw (← begun) (by (access.Write 0x00 (started c)) m_write tt (transfer_next x k n (releasing c) [] (started c) refl)) in
      on {t = here (releasing c) []} (by (access.Read 0x00 c) m_read refl refl) begin-it

  goes_out : {s t : State} {g : Device} (c : ℕ) (ws : List (List ℕ)) (w : List ℕ) (m : ℕ) → Leads s (device c [] [] (w ++ join ws) (zeros (m + length ws)) f) t g → Leads s (device c ws [] w (zeros m) f) t g
  goes_out c [] w m y =
      let e : m + 0 ≡ m = omega arith in
      rw (append-nil w, e) at y
  goes_out {s} {t} {g} c (b ∷ ws) w m y =
      let e : m + suc (length ws) ≡ suc m + length ws = omega arith in
      let y' : Leads s (device c [] [] ((w ++ b) ++ join ws) (zeros (suc m + length ws)) f) t g = rw (append_assoc w b (join ws), ← e) y in
      let z : Leads s (device c ws [] (w ++ b) (zeros (suc m)) f) t g = goes_out c ws (w ++ b) (suc m) y' in
      silently (out 0 (quiet_reply c f (w ++ b) rest)) (rw (zeros_snoc m) z)

  polls : (c : ℕ) (w : List ℕ) (m j : ℕ) (taken : List ℕ) (tw : Bool) → x.twice ≡ tw → Leads (here (waiting j) taken) (device c [] [] w (zeros (suc m)) f) (here (taking j) taken) (device c [] [] w (zeros (suc m)) f)
  unfolding effect after_read register_at Gives GivenBy
  polls c w m j taken true e =
      let t₁ : next (here (waiting j) taken) 16 ≡ here (again j) taken = rw e in
      on {t = here (again j) taken} {e = device c [] [] w (zeros (suc m)) f} (by (access.Read 0x04 16) m_read refl t₁) (by (access.Read 0x04 16) m_read refl refl)
  polls c w m j taken false e =
      let t₁ : next (here (waiting j) taken) 16 ≡ here (taking j) taken = rw e in
      by (access.Read 0x04 16) m_read refl t₁

  take_one : (c : ℕ) (w : List ℕ) (m j : ℕ) (taken : List ℕ) → Leads (here (waiting j) taken) (device c [] [] w (zeros (suc m)) f) (here (take_next j) (0 ∷ taken)) (device c [] [] w (zeros m) f)
  unfolding effect after_read register_at Gives GivenBy phase_after
  take_one c w m j taken = on (polls c w m j taken x.twice refl) (by (access.Read 0x20 0) m_read refl (transfer_next x k n (taking j) taken 0 refl))

  takes : (c : ℕ) (w : List ℕ) (j m : ℕ) (taken : List ℕ) → Leads (here (take_next j) taken) (device c [] [] w (zeros (j + m)) f) (here closing (zeros j ++ taken)) (device c [] [] w (zeros m) f)
  takes c w zero m taken =
      let e : 0 + m ≡ m = omega arith in
      rw e nowhere
  takes c w (suc j) m taken =
      let e : zeros j ++ (0 ∷ taken) ≡ zeros (suc j) ++ taken = sym (append_snoc (zeros j) 0 taken) ∙ ap (λ (z : List ℕ). z ++ taken) (zeros_snoc j) in
      let y : suc j + m ≡ suc (j + m) = omega arith in
      let z : Leads (here (take_next j) (0 ∷ taken)) (device c [] [] w (zeros (j + m)) f) (here closing (zeros (suc j) ++ taken)) (device c [] [] w (zeros m) f) = rw (← e) (takes c w j m (0 ∷ taken)) in
      rw y (on (take_one c w (j + m) j taken) z)

  closes : (c : ℕ) (w : List ℕ) (r taken : List ℕ) → Down c → Leads (here closing taken) (device c [] [] w r f) (begin (k (reverse taken)) [] n) (device (clear 16 (chip_select_high c)) [] [] [] r (execute f w))
  unfolding effect after_read after_write register_at configured Gives GivenBy
  closes c w r taken d =
      let raised : effect (device c [] [] w r f) (access.Write 0x00 (chip_select_high c)) ≡ device (clear 16 (chip_select_high c)) [] [] [] r (execute f w) = rw (d.down, high_put c, starts_high c, d.unstarted) in
      let raise : Leads (here (raising c) taken) (device c [] [] w r f) (here leaving taken) (device (clear 16 (chip_select_high c)) [] [] [] r (execute f w)) =
      rw (← raised) (by (access.Write 0x00 (chip_select_high c)) m_write tt refl) in
      on {t = here (raising c) taken} (by (access.Read 0x00 c) m_read refl refl)
      (on {t = here leaving taken} raise (by (access.Write 0x14 0) m_write tt refl))

  -- where a transfer leads: to what comes then on replies of 0, with chip select high, nothing left in the controller, and the command
  -- carried out
  pub record Through (d : Device) : Type 0 where
    pub config : ℕ
    pub up : Up config
    pub leads : Leads (here draining []) d (begin (k (reverse (zeros x.replies))) [] n) (device config [] [] [] [] (execute f (flat width (words x))))

  pub through : (c : ℕ) (w r : List ℕ) → x.replies ≡ length (words x) → Up c → Through (device c [] [] w r f)
  through c w r each u =
      let c₁ = clear 16 (chip_select_low c) in
      let c₂ = clear 16 (started c₁) in
      let d₁ : Down c₁ = down_low c u in
      let d₂ : Down c₂ = down_start c₁ d₁ in
      let e : 0 + length (map (bytes_out width) (words x)) ≡ x.replies + 0 = omega (arith, length-map (words x) (bytes_out width), each) in
      let z : zeros x.replies ++ [] ≡ zeros x.replies = append-nil (zeros x.replies) in
      let y : Leads (here (take_next x.replies) []) (device c₂ [] [] (flat width (words x)) (zeros (x.replies + 0)) f) (begin (k (reverse (zeros x.replies))) [] n) (device (clear 16 (chip_select_high c₂)) [] [] [] [] (execute f (flat width (words x)))) =
      on (rw z at (takes c₂ (flat width (words x)) x.replies 0 [])) (closes c₂ (flat width (words x)) [] (zeros x.replies) d₂) in
      let y' : Leads (here (take_next x.replies) []) (device c₂ (map (bytes_out width) (words x)) [] [] [] f) (begin (k (reverse (zeros x.replies))) [] n) (device (clear 16 (chip_select_high c₂)) [] [] [] [] (execute f (flat width (words x)))) =
      goes_out c₂ (map (bytes_out width) (words x)) [] 0 (rw (e, join_map width (words x)) y) in
      record {
        config = clear 16 (chip_select_high c₂);
        up = up_high c₂ d₂;
        leads = on (drains c w r) (on (opens c w u) (on (sends c₁ [] x.command x.further refl) (on (starts c₁ d₁) y')));
      }
