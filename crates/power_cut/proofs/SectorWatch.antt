-- What the observer of sectors has seen follows the driver, whatever the replies: at each state it is a function of the state. Assumes nothing.
use mathlib.Core.Path.{◌≡◌, refl, ap, ◌∙◌, sym}
use mathlib.Core.Bool.{Bool, true, false, not, ◌&&◌, cond, true≢false}
use mathlib.Core.List.{List, [], ◌∷◌, ◌++◌}
use Prim.Native.Nat.{ℕ, zero, suc, ◌≤◌}
use native.Mathlib.Omega.{arith}
use lib.ListN.{length}
use Rattle.zynq7000.specs.Access.{value_word}
use Rattle.zynq7000.specs.Bits.{is_set}
use Rattle.zynq7000.specs.declared.qspi.Access.{Access}
use Rattle.zynq7000.specs.declared.qspi.Access.TheVariants as access
use Rattle.zedboard_bsp.specs.Words.{top_byte, address_bytes}
use Rattle.zedboard_bsp.specs.declared.qspi_spansion.RegisterId.TheVariants as command
use Rattle.zedboard_bsp.proofs.WireBytes.{command_bytes}
use Rattle.qspi_transfer.specs.LowLevel.{started}
use Rattle.qspi_transfer.specs.Wire.{waits}
use Rattle.qspi_operation.specs.Machine as machine
use Rattle.qspi_operation.specs.Machine.{want_at, want, next, Matches, m_read, m_write}
use Rattle.qspi_calls.proofs.Phases.{words}
use Rattle.power_cut.specs.Flash.{sector_erase, command_of, erase_of}
use Rattle.power_cut.specs.Controller.{tx, register_at, bytes_out, high, is_status_read}
use Rattle.power_cut.specs.Observer.{Transfer, closed, opened}
use Rattle.power_cut.specs.SectorObserver.{SectorsSeen, commanded, raised, config_written, is_clean, enable_written, seen_write, seen_read, see}
use Rattle.power_cut.specs.SectorObserver as observer
use Rattle.power_cut.proofs.Driver.{Phase, draining, dropping, opening, lowering, switching, sending, starting, releasing, waiting, again, taking, closing, raising, leaving, midway, action, send_next, take_next, phase_after, taken_after, is_last, transfer_next}
use Rattle.power_cut.proofs.Fits.{Split, Taken}
use Rattle.power_cut.proofs.Levels.{high_put, high_clear}
use Rattle.power_cut.proofs.Watch.{flat, flat_snoc, address_back, newest, newest_one, up_at, risen_at}
use Rattle.power_cut.proofs.SectorDriver.{Next, the_last, goes_on, next_of, Stage, enables, erases, polls, clears, disables, transfer_of, then_of, Driver, at, succeeded, failed, state_of, start_next, settled, stage_after, next_stage, Going, Good, good_stage, good_phase}

abbrev pub showing : Transfer → Bool → List ℕ → List ℕ → SectorsSeen
showing t h q k = record { transfer = t; up = h; doubt = q; finished = k }

-- ---- one transfer: words of a width, and the sectors in doubt before and after its rising chip select

module _ (x : machine.Transfer) (width : ℕ) (q₀ q₁ k : List ℕ) where
  abbrev bytes : List ℕ
  bytes = flat width (words x)

  abbrev transfer_at : Phase → List ℕ → Transfer
  transfer_at draining taken = closed
  transfer_at dropping taken = closed
  transfer_at opening taken = closed
  transfer_at (lowering v) taken = closed
  transfer_at switching taken = closed
  transfer_at (sending q w l) taken = opened (flat width q) (newest taken)
  transfer_at starting taken = opened bytes (newest taken)
  transfer_at (releasing v) taken = opened bytes (newest taken)
  transfer_at (waiting n) taken = opened bytes (newest taken)
  transfer_at (again n) taken = opened bytes (newest taken)
  transfer_at (taking n) taken = opened bytes (newest taken)
  transfer_at closing taken = opened bytes (newest taken)
  transfer_at (raising v) taken = opened bytes (newest taken)
  transfer_at leaving taken = opened bytes (newest taken)

  -- where h says how the write that starts the transfer left chip select
  abbrev pub view_in : Phase → List ℕ → Bool → SectorsSeen
  view_in p taken h = showing (transfer_at p taken) (up_at p h) (cond (risen_at p h) q₁ q₀) k

  -- what is seen is that of a phase, with chip select at one level or the other
  pub record Within (p : Phase) (taken : List ℕ) (o : SectorsSeen) : Type 0 where
    pub level : Bool
    pub is : o ≡ view_in p taken level

  same : (p : Phase) (taken : List ℕ) (h : Bool) {o : SectorsSeen} → o ≡ view_in p taken h → Within p taken o
  same p taken h e = record { level = h; is = e }

  -- nothing is seen where a reply picks one of two phases that look the same
  either : (b : Bool) (p q : Phase) (taken : List ℕ) {o : SectorsSeen} → Within p taken o → Within q taken o → Within (cond b p q) taken o
  either true p q taken y z = y
  either false p q taken y z = z

  sent_view : (q : List ℕ) (w : ℕ) (t taken : List ℕ) (h : Bool) → q ++ w ∷ t ≡ words x → Within (send_next (q ++ w ∷ []) t) taken (showing (opened (flat width q ++ bytes_out width w) (newest taken)) false q₀ k)
  sent_view q w [] taken h e = same starting taken h (ap (λ (z : List ℕ). showing (opened z (newest taken)) false q₀ k) (sym (flat_snoc width q w) ∙ ap (flat width) e))
  sent_view q w (v ∷ t) taken h e = same (sending (q ++ w ∷ []) v t) taken h (ap (λ (z : List ℕ). showing (opened z (newest taken)) false q₀ k) (sym (flat_snoc width q w)))

  take_view : (n : ℕ) (taken : List ℕ) (h : Bool) → Within (take_next n) taken (showing (opened bytes (newest taken)) h (cond h q₁ q₀) k)
  take_view zero taken h = same closing taken h refl
  take_view (suc n) taken h = same (waiting n) taken h refl

  module _ (port : register_at x.port ≡ tx width) (names : (reply : ℕ) → commanded (opened bytes reply) q₀ ≡ q₁) where
    -- from low
    starts_with : (h : Bool) (reply : ℕ) → raised false h (opened bytes reply) q₀ ≡ cond h q₁ q₀
    unfolding raised
    starts_with true reply = names reply
    starts_with false reply = refl

    -- to high
    ends_with : (h : Bool) (reply : ℕ) → raised h true (opened bytes reply) (cond h q₁ q₀) ≡ q₁
    unfolding raised
    ends_with true reply = refl
    ends_with false reply = names reply

    -- THEOREM. Of an access of a transfer that is due, and not its last, the observer sees what the next phase shows.
    pub watch_in : (p : Phase) (taken : List ℕ) (h : Bool) (a : Access) → is_last p ≡ false → Split x p → Taken x p taken → Matches (want_at (midway p) (action x p)) a
        → Within (phase_after x p (value_word a)) (taken_after p taken (value_word a)) (see (view_in p taken h) a)
    unfolding see seen_read seen_write config_written enable_written register_at phase_after raised
    watch_in draining taken h (access.Read o v) e s t m_read = either (waits v) dropping opening taken (same dropping taken h refl) (same opening taken h refl)
    watch_in dropping taken h a e s t m_read = same draining taken h refl
    watch_in opening taken h (access.Read o v) e s t m_read = same (lowering v) taken h refl
    watch_in (lowering w) taken h a e s t m_write = same switching taken h (rw (high_clear w))
    watch_in switching taken h a e s t m_write = same (sending [] x.command x.further) taken h (rw t)
    watch_in (sending q w l) taken h a e s t m_write = rw port (sent_view q w l taken h s)
    watch_in starting taken h (access.Read o v) e s t m_read = same (releasing v) taken h refl
    watch_in (releasing w) taken h a e s t m_write = rw (starts_with (high (started w)) (newest taken)) (take_view x.replies taken (high (started w)))
    watch_in (waiting n) taken h (access.Read o v) e s t m_read =
        either (waits v) (cond x.twice (again n) (taking n)) (waiting n) taken (either x.twice (again n) (taking n) taken (same (again n) taken h refl) (same (taking n) taken h refl)) (same (waiting n) taken h refl)
    watch_in (again n) taken h (access.Read o v) e s t m_read = either (waits v) (taking n) (waiting n) taken (same (taking n) taken h refl) (same (waiting n) taken h refl)
    watch_in (taking n) taken h (access.Read o v) e s t m_read = take_view n (v ∷ taken) h
    watch_in closing taken h (access.Read o v) e s t m_read = same (raising v) taken h refl
    watch_in (raising w) taken h a e s t m_write = same leaving taken h (rw (high_put w, ends_with h (newest taken)))
    watch_in leaving taken h a e s t m = absurd (true≢false e)
    -- ---- a stage of a sector
    watch_in draining taken h (access.Write _ _) e s t m = elim m [ ]
    watch_in opening taken h (access.Write _ _) e s t m = elim m [ ]
    watch_in starting taken h (access.Write _ _) e s t m = elim m [ ]
    watch_in (waiting n) taken h (access.Write _ _) e s t m = elim m [ ]
    watch_in (again n) taken h (access.Write _ _) e s t m = elim m [ ]
    watch_in (taking n) taken h (access.Write _ _) e s t m = elim m [ ]
    watch_in closing taken h (access.Write _ _) e s t m = elim m [ ]

-- "One-byte commands use 80; status and config reads .. use 84", erases use 1C
abbrev pub width : Stage → ℕ
width enables = 1
width erases = 4
width polls = 2
width clears = 1
width disables = 1

port_is : (s : Stage) (a : ℕ) → register_at (transfer_of s a).port ≡ tx (width s)
unfolding register_at
port_is enables a = refl
port_is erases a = refl
port_is polls a = refl
port_is clears a = refl
port_is disables a = refl

-- the bytes of a stage's transfer
abbrev asked : Stage → ℕ → List ℕ
asked s a = flat (width s) (words (transfer_of s a))

erase_asked : (a : ℕ) → asked erases a ≡ 0xD8 ∷ address_bytes a
unfolding bytes_out
erase_asked a = command_bytes command.SectorErase a

asks_erase : (a : ℕ) → a ≤ 16777215 → command_of (asked erases a) ≡ sector_erase a
unfolding command_of erase_of
asks_erase a h = rw (erase_asked a) (ap sector_erase (address_back a h))

erase_unclean : (a reply : ℕ) → is_clean (opened (asked erases a) reply) ≡ false
unfolding is_clean is_status_read
erase_unclean a reply = rw (erase_asked a)

-- the sectors in doubt before and after the rising chip select of the stage's transfer
abbrev pub doubt_before : Stage → ℕ → List ℕ
doubt_before enables a = []
doubt_before erases a = []
doubt_before polls a = a ∷ []
doubt_before clears a = a ∷ []
doubt_before disables a = a ∷ []

abbrev pub doubt_after : Stage → ℕ → List ℕ
doubt_after enables a = []
doubt_after erases a = a ∷ []
doubt_after polls a = a ∷ []
doubt_after clears a = a ∷ []
doubt_after disables a = a ∷ []

rise_names : (s : Stage) (a reply : ℕ) → a ≤ 16777215 → commanded (opened (asked s a) reply) (doubt_before s a) ≡ doubt_after s a
unfolding command_of bytes_out
rise_names enables a reply h = refl
rise_names erases a reply h = rw (asks_erase a h)
rise_names polls a reply h = refl
rise_names clears a reply h = refl
rise_names disables a reply h = refl

-- ---- the view

abbrev pub view_at : Stage → ℕ → List ℕ → Phase → List ℕ → Bool → SectorsSeen
view_at s a k p taken h = view_in (transfer_of s a) (width s) (doubt_before s a) (doubt_after s a) k p taken h

abbrev pub view : Driver → Bool → SectorsSeen
view (at s p taken a l k) h = view_at s a k p taken h
view (succeeded k) h = showing closed true [] k
view (failed a l k) h = showing closed true (a ∷ []) k

pub view_start : (l k : List ℕ) (h : Bool) → view (start_next l k) h ≡ showing closed true [] k
view_start [] k h = refl
view_start (a ∷ l) k h = refl

-- a transfer closes
settled_view : (e b : Bool) (t : Transfer) (a : ℕ) (l k : List ℕ) (h : Bool) → observer.closing (not e && not b) (showing t true (a ∷ []) k) ≡ view (settled e b a l k) h
unfolding observer.closing
settled_view true b t a l k h = refl
settled_view false true t a l k h = refl
settled_view false false t a l k h = sym (view_start l (k ++ a ∷ []) h)

closing_view : (s : Stage) (taken : List ℕ) (a : ℕ) (l k : List ℕ) (h : Bool) → length taken ≡ (transfer_of s a).replies
    → observer.closing (is_clean (opened (asked s a) (newest taken))) (showing (opened (asked s a) (newest taken)) true (doubt_after s a) k) ≡ view (stage_after s taken a l k) h
unfolding observer.closing is_clean is_status_read bytes_out
closing_view enables taken a l k h e = refl
closing_view erases taken a l k h e = rw (erase_unclean a (newest taken))
closing_view polls taken a l k h e = rw (newest_one taken e) (settled_view (is_set 5 (top_byte (newest taken))) (is_set 0 (top_byte (newest taken))) (opened (5 ∷ 0 ∷ []) (newest taken)) a l k h)
closing_view clears taken a l k h e = refl
closing_view disables taken a l k h e = refl

-- ---- where a run stands, and what its log shows

pub record Watched (whole : List ℕ) (s : machine.State) (o : SectorsSeen) : Type 0 where
  pub driver : Driver
  pub level : Bool
  pub stands : s ≡ state_of driver
  pub shows : o ≡ view driver level
  pub good : Good whole driver

module _ (whole : List ℕ) where
  last_watched : (s : Stage) (taken : List ℕ) (a : ℕ) (l k : List ℕ) (h : Bool) (c : Access) → Going whole s leaving taken a l k → Matches (want (state_of (at s leaving taken a l k))) c
      → Watched whole (next (state_of (at s leaving taken a l k)) (value_word c)) (see (view_at s a k leaving taken h) c)
  unfolding see seen_write enable_written register_at
  last_watched s taken a l k h c g m_write = record {
    driver = stage_after s taken a l k;
    level = h;
    stands = next_stage s taken a l k 0;
    shows = closing_view s taken a l k h g.count;
    good = good_stage whole s taken a l k g.in_range g.parts;
  }

  at_watched : (s : Stage) (p : Phase) (taken : List ℕ) (a : ℕ) (l k : List ℕ) (h : Bool) (c : Access) → Next p → Going whole s p taken a l k → Matches (want (state_of (at s p taken a l k))) c
      → Watched whole (next (state_of (at s p taken a l k)) (value_word c)) (see (view_at s a k p taken h) c)
  at_watched s p taken a l k h c the_last g m = last_watched s taken a l k h c g m
  at_watched s p taken a l k h c (goes_on e) g m =
      let w = watch_in (transfer_of s a) (width s) (doubt_before s a) (doubt_after s a) k (port_is s a) (λ reply. rise_names s a reply g.in_range.0) p taken h c e g.split g.count m in
      record {
        driver = at s (phase_after (transfer_of s a) p (value_word c)) (taken_after p taken (value_word c)) a l k;
        level = w.level;
        stands = transfer_next (transfer_of s a) (then_of s a l) (length k) p taken (value_word c) e;
        shows = w.is;
        good = good_phase whole p (value_word c) g;
      }

  driver_watched : (d : Driver) (h : Bool) (c : Access) → Good whole d → Matches (want (state_of d)) c → Watched whole (next (state_of d) (value_word c)) (see (view d h) c)
  driver_watched (at s p taken a l k) h c g m = at_watched s p taken a l k h c (next_of p) g m
  driver_watched (succeeded _) h c g m = elim m [ ]
  driver_watched (failed _ _ _) h c g m = elim m [ ]

  -- THEOREM. It does so after each access that is due, whatever the reply.
  pub watch : {s : machine.State} {o : SectorsSeen} (c : Access) → Watched whole s o → Matches (want s) c → Watched whole (next s (value_word c)) (see o c)
  watch {s} {o} c w m = rw (w.stands, w.shows) (driver_watched w.driver w.level c w.good (rw w.stands at m))
