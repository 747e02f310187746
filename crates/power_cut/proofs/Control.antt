-- One transfer against the controller, proved once for every transfer: what the controller holds at each phase, kept by each access of the
-- driver and by each word that goes out. Assumes nothing.
use mathlib.Core.Path.{◌≡◌, refl, ap, ◌∙◌, sym}
use mathlib.Core.Bool.{Bool, true, false, cond, not, ◌&&◌, true≢false}
use mathlib.Core.List.{List, [], ◌∷◌, ◌++◌, map, append_assoc, append-nil, cons≢nil}
use Prim.Native.Nat.{ℕ, zero, suc, ◌+◌, ◌≤◌, ◌<◌}
use native.Mathlib.Omega.{arith}
use lib.ListN.{length, length-append, length-map}
use lib.Seq.{append_snoc}
use Rattle.zynq7000.specs.Access.{value_word}
use Rattle.zynq7000.specs.Bits.{is_set, clear}
use Rattle.zynq7000.specs.declared.qspi.Access.{Access}
use Rattle.qspi_transfer.specs.LowLevel.{chip_select_high, chip_select_low, started}
use Rattle.qspi_transfer.specs.Wire.{waits}
use Rattle.qspi_operation.specs.Machine.{Transfer, want_at, Matches, m_read, m_write}
use Rattle.power_cut.specs.Flash.{Flash, execute}
use Rattle.power_cut.specs.Controller.{tx, register_at, bytes_out, high, manual, Device, device, Shows, configured, after_write, after_read, effect, some_wait, GivenBy, Gives, is_high, raises, words_left}
use Rattle.qspi_calls.proofs.Phases.{words}
use Rattle.power_cut.proofs.Driver.{Phase, draining, dropping, opening, lowering, switching, sending, starting, releasing, waiting, again, taking, closing, raising, leaving, midway, action, send_next, take_next, phase_after, taken_after}
use Rattle.power_cut.proofs.Levels.{high_put, high_clear, high_start, high_stored, starts_put, starts_stored, starts_high, starts_low, manual_high, manual_low, manual_start, manual_stored}
use Rattle.power_cut.proofs.Watch.{flat, newest}

-- ---- lists

-- words, each as its bytes, in one row
abbrev pub join : List (List ℕ) → List ℕ
join [] = []
join (b ∷ t) = b ++ join t

pub join_map : (width : ℕ) (l : List ℕ) → join (map (bytes_out width) l) ≡ flat width l
join_map width [] = refl
join_map width (w ∷ l) = ap (λ (z : List ℕ). bytes_out width w ++ z) (join_map width l)

pub map_snoc : (width : ℕ) (l : List ℕ) (w : ℕ) → map (bytes_out width) l ++ bytes_out width w ∷ [] ≡ map (bytes_out width) (l ++ w ∷ [])
map_snoc width [] w = refl
map_snoc width (v ∷ l) w = ap (λ (z : List (List ℕ)). bytes_out width v ∷ z) (map_snoc width l w)

abbrev pub Every : (ℕ → Type 0) → List ℕ → Type 0
Every P [] = Unit {0}
Every P (w ∷ r) = P w × Every P r

every_snoc : (P : ℕ → Type 0) (r : List ℕ) (v : ℕ) → Every P r → P v → Every P (r ++ v ∷ [])
every_snoc P [] v h q = (q, tt)
every_snoc P (w ∷ r) v h q = (h.0, every_snoc P r v h.1 q)

every_map : (P Q : ℕ → Type 0) (r : List ℕ) → ((w : ℕ) → P w → Q w) → Every P r → Every Q r
every_map P Q [] f h = tt
every_map P Q (w ∷ r) f h = (f w h.0, every_map P Q r f h.1)

-- ---- what the controller holds

-- config as it reads: chip select high or low, bit 16 zero, chip select and start the program's
pub record Up (c : ℕ) : Type 0 where
  pub up : high c ≡ true
  pub unstarted : is_set 16 c ≡ false
  pub by_hand : manual c ≡ true

pub record Down (c : ℕ) : Type 0 where
  pub down : high c ≡ false
  pub unstarted : is_set 16 c ≡ false
  pub by_hand : manual c ≡ true

-- after start: the bytes out and the words released make up the transfer; n replies are still to be taken, one from each word that is still to
-- go out or that waits; each reply that waits is a P
pub record Live (P : ℕ → Type 0) (width : ℕ) (x : Transfer) (n : ℕ) (t : List (List ℕ)) (w r : List ℕ) : Type 0 where
  pub all_bytes : w ++ join t ≡ flat width (words x)
  pub to_come : length t + length r ≡ n
  pub good : Every P r
  pub within : n ≤ x.replies

-- phase, replies taken; config, words released and waiting, bytes out, RX words
pub data Ctl (P : ℕ → Type 0) (width : ℕ) (x : Transfer) : Phase → List ℕ → ℕ → List (List ℕ) → List (List ℕ) → List ℕ → List ℕ → Type 0 where
  c_drain : {taken : List ℕ} {c : ℕ} {w r : List ℕ} → Up c → Ctl P width x draining taken c [] [] w r
  c_drop : {taken : List ℕ} {c v : ℕ} {w r : List ℕ} → Up c → Ctl P width x dropping taken c [] [] w (v ∷ r)
  c_open : {taken : List ℕ} {c : ℕ} {w : List ℕ} → Up c → Ctl P width x opening taken c [] [] w []
  c_lower : {taken : List ℕ} {c : ℕ} {w : List ℕ} → Up c → Ctl P width x (lowering c) taken c [] [] w []
  c_switch : {taken : List ℕ} {c : ℕ} → Down c → Ctl P width x switching taken c [] [] [] []
  c_send : {taken : List ℕ} {c v : ℕ} {q l : List ℕ} → Down c → q ++ v ∷ l ≡ words x → Ctl P width x (sending q v l) taken c [] (map (bytes_out width) q) [] []
  c_start : {taken : List ℕ} {c : ℕ} → Down c → Ctl P width x starting taken c [] (map (bytes_out width) (words x)) [] []
  c_release : {taken : List ℕ} {c : ℕ} → Down c → Ctl P width x (releasing c) taken c [] (map (bytes_out width) (words x)) [] []
  c_wait : {taken : List ℕ} {c n : ℕ} {t : List (List ℕ)} {w r : List ℕ} → Down c → Live P width x (suc n) t w r → Ctl P width x (waiting n) taken c t [] w r
  c_again : {taken : List ℕ} {c n v : ℕ} {t : List (List ℕ)} {w r : List ℕ} → Down c → Live P width x (suc n) t w (v ∷ r) → Ctl P width x (again n) taken c t [] w (v ∷ r)
  c_take : {taken : List ℕ} {c n v : ℕ} {t : List (List ℕ)} {w r : List ℕ} → Down c → Live P width x (suc n) t w (v ∷ r) → Ctl P width x (taking n) taken c t [] w (v ∷ r)
  c_close : {taken : List ℕ} {c : ℕ} {t : List (List ℕ)} {w r : List ℕ} → Down c → P (newest taken) → Live P width x 0 t w r → Ctl P width x closing taken c t [] w r
  c_raise : {taken : List ℕ} {c : ℕ} {t : List (List ℕ)} {w r : List ℕ} → Down c → P (newest taken) → Live P width x 0 t w r → Ctl P width x (raising c) taken c t [] w r
  c_leave : {taken : List ℕ} {c : ℕ} {r : List ℕ} → Up c → P (newest taken) → Ctl P width x leaving taken c [] [] [] r

-- the device, with its controller at a phase and its flash as given
pub data Held (P : ℕ → Type 0) (width : ℕ) (x : Transfer) (p : Phase) (taken : List ℕ) (f : Flash) : Device → Type 0 where
  held : {c : ℕ} {t u : List (List ℕ)} {w r : List ℕ} → Ctl P width x p taken c t u w r → Held P width x p taken f (device c t u w r f)

-- the flash after an access: it changes where chip select rises
abbrev pub flash_after : ℕ → Transfer → Phase → Flash → Flash
flash_after width x draining f = f
flash_after width x dropping f = f
flash_after width x opening f = f
flash_after width x (lowering v) f = f
flash_after width x switching f = f
flash_after width x (sending q v l) f = f
flash_after width x starting f = f
flash_after width x (releasing v) f = f
flash_after width x (waiting n) f = f
flash_after width x (again n) f = f
flash_after width x (taking n) f = f
flash_after width x closing f = f
flash_after width x (raising v) f = execute f (flat width (words x))
flash_after width x leaving f = f

pub down_low : (c : ℕ) → Up c → Down (clear 16 (chip_select_low c))
down_low c d = record { down = high_stored (chip_select_low c) ∙ high_clear c; unstarted = starts_stored (chip_select_low c); by_hand = manual_stored (chip_select_low c) ∙ manual_low c ∙ d.by_hand }

pub down_start : (c : ℕ) → Down c → Down (clear 16 (started c))
down_start c d = record { down = high_stored (started c) ∙ high_start c ∙ d.down; unstarted = starts_stored (started c); by_hand = manual_stored (started c) ∙ manual_start c ∙ d.by_hand }

pub up_high : (c : ℕ) → Down c → Up (clear 16 (chip_select_high c))
up_high c d = record { up = high_stored (chip_select_high c) ∙ high_put c; unstarted = starts_stored (chip_select_high c); by_hand = manual_stored (chip_select_high c) ∙ manual_high c ∙ d.by_hand }

-- ---- an access of the driver

pub clash : {A : Type 0} {b : Bool} → b ≡ true → b ≡ false → A
clash p q = absurd (true≢false (sym p ∙ q))

module _ (P : ℕ → Type 0) (width : ℕ) (x : Transfer) (f : Flash) where
  after_drain : {taken : List ℕ} {c : ℕ} {w : List ℕ} (r : List ℕ) (b : Bool) → Up c → b ≡ some_wait r → Held P width x (cond b dropping opening) taken f (device c [] [] w r f)
  after_drain [] b u e = rw e (held (c_open u))
  after_drain (v ∷ r) b u e = rw e (held (c_drop u))

  after_wait : {taken : List ℕ} {c n : ℕ} {t : List (List ℕ)} {w : List ℕ} (r : List ℕ) (b tw : Bool) → Down c → Live P width x (suc n) t w r → b ≡ some_wait r
      → Held P width x (cond b (cond tw (again n) (taking n)) (waiting n)) taken f (device c t [] w r f)
  after_wait [] b tw u l e = rw e (held (c_wait u l))
  after_wait (v ∷ r) b true u l e = rw e (held (c_again u l))
  after_wait (v ∷ r) b false u l e = rw e (held (c_take u l))

  after_again : {taken : List ℕ} {c n v : ℕ} {t : List (List ℕ)} {w r : List ℕ} (b : Bool) → Down c → Live P width x (suc n) t w (v ∷ r) → b ≡ true
      → Held P width x (cond b (taking n) (waiting n)) taken f (device c t [] w (v ∷ r) f)
  after_again b u l e = rw e (held (c_take u l))

  after_send : {taken : List ℕ} {c : ℕ} (v : ℕ) (q l : List ℕ) → Down c → q ++ v ∷ l ≡ words x
      → Held P width x (send_next (q ++ v ∷ []) l) taken f (device c [] (map (bytes_out width) q ++ bytes_out width v ∷ []) [] [] f)
  after_send v q [] u e = rw (map_snoc width q v, e) (held (c_start u))
  after_send v q (z ∷ l) u e = rw (map_snoc width q v) (held (c_send u (append_snoc q v (z ∷ l) ∙ e)))

  less : {n v : ℕ} {t : List (List ℕ)} {w r : List ℕ} → Live P width x (suc n) t w (v ∷ r) → Live P width x n t w r
  less l = record { all_bytes = l.all_bytes; to_come = omega (arith, l.to_come); good = l.good.1; within = omega (arith, l.within) }

  after_take_lem : {taken : List ℕ} {c v : ℕ} {t : List (List ℕ)} {w r : List ℕ} (n : ℕ) → Down c → Live P width x (suc n) t w (v ∷ r)
      → Held P width x (take_next n) (v ∷ taken) f (device c t [] w r f)
  after_take_lem zero u l = held (c_close u l.good.0 (less l))
  after_take_lem (suc n) u l = held (c_wait u (less l))

  -- every word is released, and none is out
  all_live : x.replies ≡ length (words x) → Live P width x x.replies (map (bytes_out width) (words x)) [] []
  all_live h = record { all_bytes = join_map width (words x); to_come = omega (arith, length-map (words x) (bytes_out width), h); good = tt; within = omega arith }

  after_start : {taken : List ℕ} {c : ℕ} (n : ℕ) → 0 < n → Down c → Live P width x n (map (bytes_out width) (words x)) [] []
      → Held P width x (take_next n) taken f (device c (map (bytes_out width) (words x)) [] [] [] f)
  after_start zero h u l = absurd (omega arith)
  after_start (suc n) h u l = held (c_wait u l)

  -- once every reply is taken no word is left
  none_left : (t : List (List ℕ)) {w r : List ℕ} → Live P width x 0 t w r → t ++ [] ≡ []
  none_left [] l = refl
  none_left (b ∷ t) l = absurd (omega (arith, l.to_come))

  after_raise : {taken : List ℕ} (c : ℕ) (t : List (List ℕ)) (w r : List ℕ) → Down c → P (newest taken) → Live P width x 0 t w r
      → Held P width x leaving taken (execute f (flat width (words x))) (device (clear 16 (chip_select_high c)) [] (t ++ []) [] r (execute f w))
  after_raise c [] w r u y l =
      let z : w ≡ flat width (words x) = sym (append-nil w) ∙ l.all_bytes in
      rw z (held (c_leave (up_high c u) y))
  after_raise c (b ∷ t) w r u y l = absurd (cons≢nil (none_left (b ∷ t) l))

  pub accessed : {p : Phase} {taken : List ℕ} {c : ℕ} {t u : List (List ℕ)} {w r : List ℕ} {a : Access} → register_at x.port ≡ tx width → x.replies ≡ length (words x)
      → Ctl P width x p taken c t u w r → Matches (want_at (midway p) (action x p)) a → Gives (device c t u w r f) a
      → Held P width x (phase_after x p (value_word a)) (taken_after p taken (value_word a)) (flash_after width x p f) (effect (device c t u w r f) a)
  unfolding phase_after Gives GivenBy effect after_read after_write configured register_at
  accessed {r = r} e i (c_drain u) (m_read {v = v}) g = after_drain r (waits v) u g
  accessed e i (c_drop u) m_read g = held (c_drain u)
  accessed e i (c_open u) m_read g = rw g (held (c_lower u))
  accessed e i (c_lower {c = c} u) m_write g = rw (u.up, high_clear c, starts_low c, u.unstarted) (held (c_switch (down_low c u)))
  accessed e i (c_switch u) m_write g = held (c_send u refl)
  accessed e i (c_send {v = v} {q = q} {l = l} u j) m_write g = rw e (after_send v q l u j)
  accessed e i (c_start u) m_read g = rw g (held (c_release u))
  accessed e i (c_release {c = c} u) m_write g = rw (high_start c, u.down, starts_put c) (after_start x.replies (omega (arith, i)) (down_start c u) (all_live i))
  accessed {r = r} e i (c_wait u l) (m_read {v = v}) g = after_wait r (waits v) x.twice u l g
  accessed e i (c_again u l) (m_read {v = v}) g = after_again (waits v) u l g
  accessed e i (c_take {n = n} u l) m_read g = rw g (after_take_lem n u l)
  accessed e i (c_close u y l) m_read g = rw g (held (c_raise u y l))
  accessed e i (c_raise {c = c} {t = t} {w = w} {r = r} u y l) m_write g = rw (u.down, high_put c, starts_high c, u.unstarted) (after_raise c t w r u y l)
  accessed e i (c_leave u y) m_write g = held (c_leave u y)

  -- ---- the rising chip select

  -- an access that finds chip select low and leaves it high finds no word left
  risen : {p : Phase} {taken : List ℕ} {c : ℕ} {t u : List (List ℕ)} {w r : List ℕ} {a : Access} → register_at x.port ≡ tx width → Ctl P width x p taken c t u w r → Matches (want_at (midway p) (action x p)) a
      → high c ≡ false → is_high (effect (device c t u w r f) a) ≡ true → t ++ u ≡ []
  unfolding effect after_read after_write configured register_at
  risen e (c_drain u) m_read d h = clash h d
  risen e (c_drop u) m_read d h = clash h d
  risen e (c_open u) m_read d h = clash h d
  risen e (c_lower u) m_write d h = clash u.up d
  risen e (c_switch u) m_write d h = clash h d
  risen e (c_send u j) m_write d h = clash (rw e at h) d
  risen e (c_start u) m_read d h = clash h d
  risen e (c_release {c = c} u) m_write d h = clash (rw (high_start c, u.down) at h) (down_start c u).down
  risen e (c_wait u l) m_read d h = clash h d
  risen e (c_again u l) m_read d h = clash h d
  risen e (c_take u l) m_read d h = clash h d
  risen e (c_close u y l) m_read d h = clash h d
  risen e (c_raise {t = t} u y l) m_write d h = none_left t l
  risen e (c_leave u y) m_write d h = clash u.up d

  both : (a b : Bool) → not a && b ≡ true → (a ≡ false) × (b ≡ true)
  both false true e = (refl, refl)
  both false false e = clash e refl
  both true b e = clash e refl

  pub none_at_rise : {p : Phase} {taken : List ℕ} {d : Device} {a : Access} → register_at x.port ≡ tx width → Held P width x p taken f d → Matches (want_at (midway p) (action x p)) a → raises d a ≡ true → words_left d ≡ []
  unfolding raises
  none_at_rise {a = a} e (held {c} {t} {u} {w} {r} k) m h = let y = both (high c) (is_high (effect (device c t u w r f) a)) h in risen e k m y.0 y.1

  -- ---- a word goes out

  live_out : {n v : ℕ} {b : List ℕ} {t : List (List ℕ)} {w r : List ℕ} → Live P width x n (b ∷ t) w r → P v → Live P width x n t (w ++ b) (r ++ v ∷ [])
  live_out {n} {v} {b} {t} {w} {r} l y =
      record { all_bytes = append_assoc w b (join t) ∙ l.all_bytes; to_come = omega (arith, l.to_come, length-append r (v ∷ [])); good = every_snoc P r v l.good y; within = l.within }

  -- what comes back with a word is a P
  abbrev pub Says : Type 0
  Says = (c n v : ℕ) (b : List ℕ) (t : List (List ℕ)) (w r : List ℕ) → high c ≡ false → Live P width x n (b ∷ t) w r → Shows c f (w ++ b) v → P v

  pub goes_out : {p : Phase} {taken : List ℕ} {c v : ℕ} {b : List ℕ} {t u : List (List ℕ)} {w r : List ℕ} → Says → Ctl P width x p taken c (b ∷ t) u w r → Shows c f (w ++ b) v → Ctl P width x p taken c t u (w ++ b) (r ++ v ∷ [])
  goes_out k (c_wait u l) y = c_wait u (live_out l (k _ _ _ _ _ _ _ u.down l y))
  goes_out k (c_again u l) y = c_again u (live_out l (k _ _ _ _ _ _ _ u.down l y))
  goes_out k (c_take u l) y = c_take u (live_out l (k _ _ _ _ _ _ _ u.down l y))
  goes_out k (c_close u z l) y = c_close u z (live_out l (k _ _ _ _ _ _ _ u.down l y))
  goes_out k (c_raise u z l) y = c_raise u z (live_out l (k _ _ _ _ _ _ _ u.down l y))

  -- no word is released unasked
  pub by_hand : {p : Phase} {taken : List ℕ} {c : ℕ} {t u : List (List ℕ)} {w r : List ℕ} → Ctl P width x p taken c t u w r → manual c ≡ true
  by_hand (c_drain u) = u.by_hand
  by_hand (c_drop u) = u.by_hand
  by_hand (c_open u) = u.by_hand
  by_hand (c_lower u) = u.by_hand
  by_hand (c_switch u) = u.by_hand
  by_hand (c_send u e) = u.by_hand
  by_hand (c_start u) = u.by_hand
  by_hand (c_release u) = u.by_hand
  by_hand (c_wait u l) = u.by_hand
  by_hand (c_again u l) = u.by_hand
  by_hand (c_take u l) = u.by_hand
  by_hand (c_close u z l) = u.by_hand
  by_hand (c_raise u z l) = u.by_hand
  by_hand (c_leave u z) = u.by_hand

-- ---- what is known of replies may change

module _ (P Q : ℕ → Type 0) (width : ℕ) (x : Transfer) (g : (w : ℕ) → P w → Q w) where
  live_map : {n : ℕ} {t : List (List ℕ)} {w r : List ℕ} → Live P width x n t w r → Live Q width x n t w r
  live_map {r = r} l = record { all_bytes = l.all_bytes; to_come = l.to_come; good = every_map P Q r g l.good; within = l.within }

  pub ctl_map : {p : Phase} {taken : List ℕ} {c : ℕ} {t u : List (List ℕ)} {w r : List ℕ} → Ctl P width x p taken c t u w r → Ctl Q width x p taken c t u w r
  ctl_map (c_drain u) = c_drain u
  ctl_map (c_drop u) = c_drop u
  ctl_map (c_open u) = c_open u
  ctl_map (c_lower u) = c_lower u
  ctl_map (c_switch u) = c_switch u
  ctl_map (c_send u e) = c_send u e
  ctl_map (c_start u) = c_start u
  ctl_map (c_release u) = c_release u
  ctl_map (c_wait u l) = c_wait u (live_map l)
  ctl_map (c_again u l) = c_again u (live_map l)
  ctl_map (c_take u l) = c_take u (live_map l)
  ctl_map (c_close {taken} u y l) = c_close u (g (newest taken) y) (live_map l)
  ctl_map (c_raise {taken} u y l) = c_raise u (g (newest taken) y) (live_map l)
  ctl_map (c_leave {taken} u y) = c_leave u (g (newest taken) y)
