-- The driver and the device together: at each stage of a chunk the flash is idle, has its latch set, or works on that chunk. Kept by every
-- access and by everything silent. Assumes nothing.
use mathlib.Core.Path.{◌≡◌, refl, ap, ◌∙◌, sym}
use mathlib.Core.Bool.{Bool, true, false, cond}
use mathlib.Core.Option.{none, some}
use mathlib.Core.List.{List, [], ◌∷◌, ◌++◌, append_assoc, append-nil}
use Prim.Native.Nat.{ℕ, zero, suc}
use native.Mathlib.Omega.{arith}
use lib.ListN.{length}
use Rattle.zynq7000.specs.Access.{value_word}
use Rattle.zynq7000.specs.declared.qspi.Access.{Access}
use Rattle.qspi_transfer.specs.Wire.{waits}
use Rattle.qspi_calls.specs.Chunks.{Chunk}
use Rattle.qspi_operation.specs.Machine.{Transfer, want, want_at, Matches, m_write}
use Rattle.qspi_calls.proofs.ProgramWords.{length_words}
use Rattle.power_cut.specs.Flash.{Array, programmed, programming, Flash, flash, busy, command_of, obey, execute, Settles, settles}
use Rattle.power_cut.specs.Controller.{register_at, bytes_out, shows_busy, shows_program_error, is_status_read, Device, device, Silent, out, unasked, idle, after_write, effect, Gives}
use Rattle.qspi_calls.proofs.Phases.{words}
use Rattle.power_cut.proofs.Driver.{Phase, draining, dropping, opening, lowering, switching, sending, starting, releasing, waiting, again, taking, closing, raising, leaving, midway, action, send_next, take_next, phase_after, taken_after, is_last, Stage, enables, programs, polls, clears, disables, transfer_of, Ending, succeeded, failed, refuses, Past, joined, Driver, at, over, state_of, Verdict, accepts, refuses_with, verdict_on, start_on, start_next, settled, stage_after, driver_after}
use Rattle.power_cut.proofs.Fits.{Fit, Going, Good}
use Rattle.power_cut.proofs.Watch.{width, port_is, asked, asks_program, newest, newest_one}
use Rattle.power_cut.proofs.Lands.{applied, applied_snoc}
use Rattle.power_cut.proofs.Control.{Up, Live, c_drain, c_leave, Held, held, flash_after, clash, accessed, Says, goes_out, by_hand, ctl_map}

-- ---- the flash at each stage

pub data Calm (m : Array) : Flash → Type 0 where
  calm : {latch : Bool} → Calm m (flash m latch none)

pub data Ready (m : Array) : Flash → Type 0 where
  ready : Ready m (flash m true none)

-- the chunk's program is under way, or over
pub data Works (m : Array) (c : Chunk) : Flash → Type 0 where
  under : Works m c (flash m false (some (programming c)))
  past : Works m c (flash (programmed c m) false none)

-- before and after the rising chip select of the stage's transfer
abbrev pub FlashAt : Stage → Bool → Array → Chunk → Flash → Type 0
FlashAt enables false m c f = Calm m f
FlashAt enables true m c f = Ready m f
FlashAt programs false m c f = Ready m f
FlashAt programs true m c f = Works m c f
FlashAt polls b m c f = Works m c f
FlashAt clears b m c f = ⊥
FlashAt disables b m c f = ⊥

-- what is known of a reply: a status that does not show busy was made by an idle flash
abbrev pub Known : Stage → Flash → ℕ → Type 0
Known enables f reply = Unit {0}
Known programs f reply = Unit {0}
Known polls f reply = (shows_program_error reply ≡ false) × (shows_busy reply ≡ false → busy f ≡ false)
Known clears f reply = Unit {0}
Known disables f reply = Unit {0}

abbrev pub NotFailed : Ending → Type 0
NotFailed succeeded = Unit {0}
NotFailed failed = ⊥
NotFailed (refuses a) = Unit {0}

-- after the chunks of earlier calls
pub data OnDevice (early : List Chunk) (old : Array) : Driver → Device → Type 0 where
  during : {s : Stage} {p : Phase} {taken : List ℕ} {c : Chunk} {l : List Chunk} {k : Past} {f : Flash} {d : Device}
      → FlashAt s (is_last p) (applied (early ++ k.chunks) old) c f → Held (Known s f) (width s) (transfer_of s c) p taken f d → OnDevice early old (at s p taken c l k) d
  ended : {a : Ending} {l : List Chunk} {k : Past} {c : ℕ} {w r : List ℕ} {f : Flash}
      → NotFailed a → Up c → Calm (applied (early ++ k.chunks) old) f → OnDevice early old (over a l k) (device c [] [] w r f)

-- ---- silent steps

calm_busy : {m : Array} {f : Flash} → Calm m f → busy f ≡ false
calm_busy calm = refl

ready_busy : {m : Array} {f : Flash} → Ready m f → busy f ≡ false
ready_busy ready = refl

settles_busy : {f g : Flash} → Settles f g → busy f ≡ true
settles_busy settles = refl

settles_idle : {f g : Flash} → Settles f g → busy g ≡ false
settles_idle settles = refl

works_settles : {m : Array} {c : Chunk} {f g : Flash} → Works m c f → Settles f g → Works m c g
works_settles under settles = past
works_settles {m = m} {c = c} {g = g} past x3 = elim x3 [ ]

settles_flash : (s : Stage) (b : Bool) (m : Array) (c : Chunk) {f g : Flash} → FlashAt s b m c f → Settles f g → FlashAt s b m c g
settles_flash enables false m c y h = clash (settles_busy h) (calm_busy y)
settles_flash enables true m c y h = clash (settles_busy h) (ready_busy y)
settles_flash programs false m c y h = clash (settles_busy h) (ready_busy y)
settles_flash programs true m c y h = works_settles y h
settles_flash polls b m c y h = works_settles y h
settles_flash clears b m c y h = y
settles_flash disables b m c y h = y

settles_known : (s : Stage) {f g : Flash} → Settles f g → (reply : ℕ) → Known s f reply → Known s g reply
settles_known enables h reply y = tt
settles_known programs h reply y = tt
settles_known polls h reply y = (y.0, λ e. settles_idle h)
settles_known clears h reply y = tt
settles_known disables h reply y = tt

-- a status transfer has one word
only_word : (c : Chunk) (f : Flash) (n : ℕ) (b : List ℕ) (t : List (List ℕ)) (w r : List ℕ) → Live (Known polls f) 2 (transfer_of polls c) n (b ∷ t) w r → w ++ b ≡ 5 ∷ 0 ∷ []
unfolding bytes_out
only_word c f n b [] w r l = ap (λ (z : List ℕ). w ++ z) (sym (append-nil b)) ∙ l.all_bytes
only_word c f n b (a ∷ t) w r l = absurd (omega (arith, l.to_come, l.within))

says : (s : Stage) (c : Chunk) (f : Flash) → Says (Known s f) (width s) (transfer_of s c) f
unfolding is_status_read
says enables c f v n reply b t w r d l y = tt
says programs c f v n reply b t w r d l y = tt
says polls c f v n reply b t w r d l y =
    let e : is_status_read (w ++ b) ≡ true = ap is_status_read (only_word c f n b t w r l) in
    ((y.no_error d e).0, λ h. sym (y.shown d e) ∙ h)
says clears c f v n reply b t w r d l y = tt
says disables c f v n reply b t w r d l y = tt

silent_held : (s : Stage) (p : Phase) (taken : List ℕ) (c : Chunk) (b : Bool) (m : Array) {f : Flash} {d e : Device} → FlashAt s b m c f → Held (Known s f) (width s) (transfer_of s c) p taken f d → Silent d e
    → (g : Flash) × FlashAt s b m c g × Held (Known s g) (width s) (transfer_of s c) p taken g e
silent_held s p taken c b m {f} y (held k) (out v h) = (f, y, held (goes_out (Known s f) (width s) (transfer_of s c) f (says s c f) k h))
silent_held s p taken c b m {f} y (held k) (unasked h) = clash (by_hand (Known s f) (width s) (transfer_of s c) f k) h
silent_held s p taken c b m {f} y (held k) (idle {g = g} h) = (g, settles_flash s b m c y h, held (ctl_map (Known s f) (Known s g) (width s) (transfer_of s c) (settles_known s h) k))

module _ (early : List Chunk) (old : Array) where
  silent_ended : (a : Ending) (l : List Chunk) (k : Past) {c : ℕ} {w r : List ℕ} {f : Flash} {e : Device} → NotFailed a → Up c → Calm (applied (early ++ k.chunks) old) f → Silent (device c [] [] w r f) e → OnDevice early old (over a l k) e
  silent_ended a l k nf u y (unasked h) = clash u.by_hand h
  silent_ended a l k nf u y (idle h) = clash (settles_busy h) (calm_busy y)

  pub silent : {s : Driver} {d e : Device} → OnDevice early old s d → Silent d e → OnDevice early old s e
  silent (during {s} {p} {taken} {c} {l} {k} {f} y h) z = let o = silent_held s p taken c (is_last p) (applied (early ++ k.chunks) old) y h z in during o.1 o.2
  silent (ended {a} {l} {k} nf u y) z = silent_ended a l k nf u y z

-- ---- the rising chip select

rise_enables : {m : Array} {f : Flash} (c : Chunk) → Calm m f → Ready m (execute f (asked enables c))
unfolding bytes_out execute obey command_of
rise_enables c calm = ready

rise_programs : {m : Array} (c : Chunk) {f : Flash} → Fit c → Ready m f → Works m c (execute f (asked programs c))
unfolding execute obey
rise_programs c h ready = rw (asks_program c h) under

rise_polls : {m : Array} {c : Chunk} {f : Flash} → Works m c f → execute f (asked polls c) ≡ f
unfolding bytes_out execute obey command_of
rise_polls under = refl
rise_polls past = refl

rise : (s : Stage) (m : Array) (c : Chunk) (f : Flash) → Fit c → FlashAt s false m c f → FlashAt s true m c (execute f (asked s c))
rise enables m c f h y = rise_enables c y
rise programs m c f h y = rise_programs c h y
rise polls m c f h y = rw (rise_polls y) y
rise clears m c f h y = y
rise disables m c f h y = y

rise_known : (s : Stage) (m : Array) (c : Chunk) (f : Flash) → FlashAt s false m c f → (reply : ℕ) → Known s f reply → Known s (execute f (asked s c)) reply
rise_known enables m c f y reply h = tt
rise_known programs m c f y reply h = tt
rise_known polls m c f y reply h = rw (rise_polls y) h
rise_known clears m c f y reply h = tt
rise_known disables m c f y reply h = tt

-- ---- accesses

-- each transfer takes a reply for each of its words
pub reply_each : (s : Stage) (c : Chunk) → Fit c → (transfer_of s c).replies ≡ length (words (transfer_of s c))
reply_each enables c h = refl
reply_each programs c h = omega (arith, length_words c.bytes h.fours)
reply_each polls c h = refl
reply_each clears c h = refl
reply_each disables c h = refl

pub last_or : (b : Bool) (p q : Phase) → is_last p ≡ false → is_last q ≡ false → is_last (cond b p q) ≡ false
last_or true p q e h = e
last_or false p q e h = h

pub last_sends : (q l : List ℕ) → is_last (send_next q l) ≡ false
last_sends q [] = refl
last_sends q (w ∷ l) = refl

pub last_take : (n : ℕ) → is_last (take_next n) ≡ false
last_take zero = refl
last_take (suc n) = refl

held_map : {P Q : ℕ → Type 0} {n : ℕ} {x : Transfer} {p : Phase} {taken : List ℕ} {f : Flash} {d : Device} → ((w : ℕ) → P w → Q w) → Held P n x p taken f d → Held Q n x p taken f d
held_map {P} {Q} {n} {x} g (held k) = held (ctl_map P Q n x g k)

module _ (early : List Chunk) (old : Array) where
  -- an access that is not the transfer's last
  module _ (s : Stage) (taken : List ℕ) (c : Chunk) (l : List Chunk) (k : Past) (f : Flash) where
    stays : (p : Phase) (taken' : List ℕ) {d : Device} → FlashAt s false (applied (early ++ k.chunks) old) c f → is_last p ≡ false → Held (Known s f) (width s) (transfer_of s c) p taken' f d → OnDevice early old (at s p taken' c l k) d
    stays p taken' y e h = let z : FlashAt s (is_last p) (applied (early ++ k.chunks) old) c f = rw e y in during z h

    inner : (p : Phase) (v : ℕ) {d : Device} → is_last p ≡ false → Fit c → FlashAt s false (applied (early ++ k.chunks) old) c f
        → Held (Known s f) (width s) (transfer_of s c) (phase_after (transfer_of s c) p v) (taken_after p taken v) (flash_after (width s) (transfer_of s c) p f) d
        → OnDevice early old (at s (phase_after (transfer_of s c) p v) (taken_after p taken v) c l k) d
    unfolding phase_after
    inner draining v e i y h = stays _ taken y (last_or (waits v) dropping opening refl refl) h
    inner dropping v e i y h = during y h
    inner opening v e i y h = during y h
    inner (lowering w) v e i y h = during y h
    inner switching v e i y h = during y h
    inner (sending q w t) v e i y h = stays _ taken y (last_sends (q ++ w ∷ []) t) h
    inner starting v e i y h = during y h
    inner (releasing w) v e i y h = stays _ taken y (last_take (transfer_of s c).replies) h
    inner (waiting n) v e i y h = stays _ taken y (last_or (waits v) (cond (transfer_of s c).twice (again n) (taking n)) (waiting n) (last_or (transfer_of s c).twice (again n) (taking n) refl refl) refl) h
    inner (again n) v e i y h = stays _ taken y (last_or (waits v) (taking n) (waiting n) refl refl) h
    inner (taking n) v e i y h = stays _ (v ∷ taken) y (last_take n) h
    inner closing v e i y h = during y h
    inner (raising w) v e i y h = during (rise s (applied (early ++ k.chunks) old) c f i y) (held_map (rise_known s (applied (early ++ k.chunks) old) c f y) h)
    inner leaving v e i y h = clash refl e

  -- the next chunk begins, or the call is over
  begins_on : (y : Verdict) (b : Chunk) (l : List Chunk) (k : Past) {c : ℕ} {w r : List ℕ} {f : Flash} → Up c → Calm (applied (early ++ k.chunks) old) f → OnDevice early old (start_on y b l k) (device c [] [] w r f)
  begins_on accepts b l k u y = during y (held (c_drain u))
  begins_on (refuses_with a) b l k u y = ended tt u y

  pub begins : (l : List Chunk) (k : Past) {c : ℕ} {w r : List ℕ} {f : Flash} → Up c → Calm (applied (early ++ k.chunks) old) f → OnDevice early old (start_next l k) (device c [] [] w r f)
  unfolding start_next
  begins [] k u y = ended tt u y
  begins (b ∷ l) k u y = begins_on (verdict_on b) b l k u y

  works_calm : {m : Array} {c : Chunk} {f : Flash} → Works m c f → busy f ≡ false → Calm (programmed c m) f
  works_calm under e = clash refl e
  works_calm past e = calm

  poll_ends : (e b : Bool) (c : Chunk) (l : List Chunk) (k : Past) {g : ℕ} {w r : List ℕ} {f : Flash} → Up g → Works (applied (early ++ k.chunks) old) c f → e ≡ false → (b ≡ false → busy f ≡ false)
      → OnDevice early old (settled e b c l k) (device g [] [] w r f)
  unfolding settled
  poll_ends true b c l k u y h i = clash refl h
  poll_ends false true c l k u y h i = during y (held (c_drain u))
  poll_ends false false c l k {f = f} u y h i =
      let e : early ++ (k.chunks ++ c ∷ []) ≡ (early ++ k.chunks) ++ c ∷ [] = sym (append_assoc early k.chunks (c ∷ [])) in
      let z : Calm (applied (early ++ (k.chunks ++ c ∷ [])) old) f = rw (e, applied_snoc (early ++ k.chunks) c old) (works_calm y (i refl)) in
      begins l (joined k c) u z

  stage_ends : (s : Stage) (taken : List ℕ) (c : Chunk) (l : List Chunk) (k : Past) {g : ℕ} {w r : List ℕ} (f : Flash) → length taken ≡ (transfer_of s c).replies → Up g → FlashAt s true (applied (early ++ k.chunks) old) c f → Known s f (newest taken)
      → OnDevice early old (stage_after s taken c l k) (device g [] [] w r f)
  unfolding stage_after
  stage_ends enables taken c l k f e u y h = during y (held (c_drain u))
  stage_ends programs taken c l k f e u y h = during y (held (c_drain u))
  stage_ends polls taken c l k f e u y h = rw (newest_one taken e) (poll_ends (shows_program_error (newest taken)) (shows_busy (newest taken)) c l k u y h.0 h.1)
  stage_ends clears taken c l k f e u y h = absurd y
  stage_ends disables taken c l k f e u y h = absurd y

  module _ (whole : List Chunk) (s : Stage) (taken : List ℕ) (c : Chunk) (l : List Chunk) (k : Past) (f : Flash) where
    going_last : {d : Device} {a : Access} → Going whole s leaving taken c l k → FlashAt s true (applied (early ++ k.chunks) old) c f → Held (Known s f) (width s) (transfer_of s c) leaving taken f d → Matches (want_at (midway leaving) (action (transfer_of s c) leaving)) a
        → OnDevice early old (stage_after s taken c l k) (effect d a)
    unfolding effect after_write register_at
    going_last g y (held (c_leave u h)) m_write = stage_ends s taken c l k f g.count u y h

    going_inner : (p : Phase) {d : Device} {a : Access} → is_last p ≡ false → Fit c → FlashAt s (is_last p) (applied (early ++ k.chunks) old) c f → Held (Known s f) (width s) (transfer_of s c) p taken f d
        → Matches (want_at (midway p) (action (transfer_of s c) p)) a → Gives d a
        → OnDevice early old (at s (phase_after (transfer_of s c) p (value_word a)) (taken_after p taken (value_word a)) c l k) (effect d a)
    going_inner p {a = a} e i y (held z) m g =
        inner s taken c l k f p (value_word a) e i (rw e at y) (accessed (Known s f) (width s) (transfer_of s c) f (port_is s c) (reply_each s c i) z m g)

    going_access : (p : Phase) {d : Device} {a : Access} → Going whole s p taken c l k → FlashAt s (is_last p) (applied (early ++ k.chunks) old) c f → Held (Known s f) (width s) (transfer_of s c) p taken f d
        → Matches (want_at (midway p) (action (transfer_of s c) p)) a → Gives d a
        → OnDevice early old (driver_after (at s p taken c l k) (value_word a)) (effect d a)
    unfolding driver_after
    going_access draining q y h m g = going_inner draining refl q.fits y h m g
    going_access dropping q y h m g = going_inner dropping refl q.fits y h m g
    going_access opening q y h m g = going_inner opening refl q.fits y h m g
    going_access (lowering e) q y h m g = going_inner (lowering e) refl q.fits y h m g
    going_access switching q y h m g = going_inner switching refl q.fits y h m g
    going_access (sending e w t) q y h m g = going_inner (sending e w t) refl q.fits y h m g
    going_access starting q y h m g = going_inner starting refl q.fits y h m g
    going_access (releasing e) q y h m g = going_inner (releasing e) refl q.fits y h m g
    going_access (waiting e) q y h m g = going_inner (waiting e) refl q.fits y h m g
    going_access (again e) q y h m g = going_inner (again e) refl q.fits y h m g
    going_access (taking e) q y h m g = going_inner (taking e) refl q.fits y h m g
    going_access closing q y h m g = going_inner closing refl q.fits y h m g
    going_access (raising e) q y h m g = going_inner (raising e) refl q.fits y h m g
    going_access leaving q y h m g = going_last q y h m

  pub advance : (whole : List Chunk) {s : Driver} {d : Device} {a : Access} → Good whole s → OnDevice early old s d → Matches (want (state_of s)) a → Gives d a → OnDevice early old (driver_after s (value_word a)) (effect d a)
  advance whole q (during {s} {p} {taken} {c} {l} {k} {f} y h) m g = going_access whole s taken c l k f p q y h m g
  advance whole q (ended {a = a} {l = l} {k = k} {c = c} {w = w} {r = r} {f = f} _ _ _) m g = elim m [ ]
