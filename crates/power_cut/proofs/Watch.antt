-- What the observer has seen follows the driver, whatever the replies: at each state it is a function of the state. Assumes nothing.
use mathlib.Core.Path.{◌≡◌, refl, ap, ◌∙◌, sym}
use mathlib.Core.Bool.{Bool, true, false, not, ◌&&◌, cond}
use mathlib.Core.List.{List, [], ◌∷◌, ◌++◌, append_assoc, append-nil, reverse}
use Prim.Native.Nat.{ℕ, zero, suc, ◌/◌, ◌%◌, ◌^◌, ◌≤◌, ◌<◌}
use native.Mathlib.Omega.{arith}
use lib.ListN.{length}
use Rattle.zynq7000.specs.Access.{value_word}
use Rattle.zynq7000.specs.Bits.{is_set}
use Rattle.zynq7000.specs.declared.qspi.Access.{Access}
use Rattle.zynq7000.specs.declared.qspi.Access.TheVariants as access
use Rattle.zedboard_bsp.specs.Words.{bytes_of, top_byte, address_bytes}
use Rattle.qspi_transfer.specs.Wire.{waits}
use Rattle.qspi_calls.specs.Chunks.{Chunk}
use Rattle.qspi_operation.specs.Machine.{want, Matches, m_read, m_write}
use Rattle.qspi_calls.specs.Calls.{bytes_of_all, top}
use Rattle.qspi_calls.proofs.WireOrder.{program_bytes}
use Rattle.power_cut.specs.Flash.{page_program, command_of, program_of, address_of}
use Rattle.qspi_transfer.specs.LowLevel.{started}
use Rattle.power_cut.specs.Controller.{tx, register_at, bytes_out, high, is_status_read}
use Rattle.power_cut.specs.Observer.{Transfer, closed, opened, unread, Observed, commanded, raised, config_written, is_clean, enable_written, seen_write, seen_read, see}
use Rattle.power_cut.specs.Observer as observer
use Rattle.qspi_calls.proofs.Phases.{words}
use Rattle.power_cut.proofs.Driver.{Phase, draining, dropping, opening, lowering, switching, sending, starting, releasing, waiting, again, taking, closing, raising, leaving, send_next, take_next, phase_after, Stage, enables, programs, polls, clears, disables, transfer_of, Ending, succeeded, failed, refuses, Past, joined, Driver, at, over, state_of, Verdict, accepts, refuses_with, verdict_on, start_on, start_next, settled, stage_after, driver_after}
use Rattle.power_cut.proofs.Fits.{Fit, Going, Good}
use Rattle.power_cut.proofs.Levels.{high_put, high_clear}

-- ---- words on the wire

-- the bytes of words of a width
abbrev pub flat : ℕ → List ℕ → List ℕ
flat width [] = []
flat width (w ∷ l) = bytes_out width w ++ flat width l

pub flat_snoc : (width : ℕ) (l : List ℕ) (w : ℕ) → flat width (l ++ w ∷ []) ≡ flat width l ++ bytes_out width w
flat_snoc width [] w = append-nil (bytes_out width w)
flat_snoc width (v ∷ l) w = ap (λ (z : List ℕ). bytes_out width v ++ z) (flat_snoc width l w) ∙ sym (append_assoc (bytes_out width v) (flat width l) (bytes_out width w))

flat_four : (l : List ℕ) → flat 4 l ≡ bytes_of_all l
unfolding bytes_out
flat_four [] = refl
flat_four (w ∷ l) = ap (λ (z : List ℕ). bytes_of w ++ z) (flat_four l)

-- "One-byte commands use 80; status and config reads .. use 84", programs use 1C
abbrev pub width : Stage → ℕ
width enables = 1
width programs = 4
width polls = 2
width clears = 1
width disables = 1

pub port_is : (s : Stage) (c : Chunk) → register_at (transfer_of s c).port ≡ tx (width s)
unfolding register_at
port_is enables c = refl
port_is programs c = refl
port_is polls c = refl
port_is clears c = refl
port_is disables c = refl

-- the bytes of a stage's transfer
abbrev pub asked : Stage → Chunk → List ℕ
asked s c = flat (width s) (words (transfer_of s c))

program_asked : (c : Chunk) → Fit c → asked programs c ≡ 0x02 ∷ address_bytes c.address ++ c.bytes
program_asked c f = flat_four (words (transfer_of programs c)) ∙ program_bytes c.address c.bytes f.sound.octets f.fours

pub address_back : (a : ℕ) → a ≤ 16777215 → address_of (a / 2 ^ 16 % 256) (a / 2 ^ 8 % 256) (a % 256) ≡ a
address_back a h = omega (arith, h)

program_named : (a : ℕ) (bs : List ℕ) → 0 < length bs → a ≤ 16777215 → program_of (address_bytes a ++ bs) ≡ page_program (record { address = a; bytes = bs })
unfolding program_of
program_named a [] h e = absurd (omega arith)
program_named a (b ∷ bs) h e = ap (λ (z : ℕ). page_program (record { address = z; bytes = b ∷ bs })) (address_back a e)

pub asks_program : (c : Chunk) → Fit c → command_of (asked programs c) ≡ page_program c
unfolding command_of
asks_program c f = rw (program_asked c f) (program_named c.address c.bytes f.sound.some_byte (omega (arith, f.in_range)))

pub program_unclean : (c : Chunk) (reply : ℕ) → Fit c → is_clean (opened (asked programs c) reply) ≡ false
unfolding is_clean is_status_read
program_unclean c reply f = rw (program_asked c f)

-- ---- what the observer has seen, at each state of the driver

abbrev pub newest : List ℕ → ℕ
newest [] = unread
newest (v ∷ taken) = v

pub newest_one : (taken : List ℕ) → length taken ≡ 1 → top (reverse taken) ≡ top_byte (newest taken)
newest_one [] h = absurd (omega (arith, h))
newest_one (v ∷ []) h = refl
newest_one (v ∷ w ∷ t) h = absurd (omega (arith, h))

abbrev pub transfer_at : Stage → Chunk → Phase → List ℕ → Transfer
transfer_at s c draining taken = closed
transfer_at s c dropping taken = closed
transfer_at s c opening taken = closed
transfer_at s c (lowering v) taken = closed
transfer_at s c switching taken = closed
transfer_at s c (sending q w l) taken = opened (flat (width s) q) (newest taken)
transfer_at s c starting taken = opened (asked s c) (newest taken)
transfer_at s c (releasing v) taken = opened (asked s c) (newest taken)
transfer_at s c (waiting n) taken = opened (asked s c) (newest taken)
transfer_at s c (again n) taken = opened (asked s c) (newest taken)
transfer_at s c (taking n) taken = opened (asked s c) (newest taken)
transfer_at s c closing taken = opened (asked s c) (newest taken)
transfer_at s c (raising v) taken = opened (asked s c) (newest taken)
transfer_at s c leaving taken = opened (asked s c) (newest taken)

-- chip select, where h says how the write that starts the transfer left it: a reply decides that, and of a device it is low
abbrev pub up_at : Phase → Bool → Bool
up_at draining h = true
up_at dropping h = true
up_at opening h = true
up_at (lowering v) h = true
up_at switching h = false
up_at (sending q w l) h = false
up_at starting h = false
up_at (releasing v) h = false
up_at (waiting n) h = h
up_at (again n) h = h
up_at (taking n) h = h
up_at closing h = h
up_at (raising v) h = h
up_at leaving h = true

-- whether it has risen since the words were sent
abbrev pub risen_at : Phase → Bool → Bool
risen_at draining h = false
risen_at dropping h = false
risen_at opening h = false
risen_at (lowering v) h = false
risen_at switching h = false
risen_at (sending q w l) h = false
risen_at starting h = false
risen_at (releasing v) h = false
risen_at (waiting n) h = h
risen_at (again n) h = h
risen_at (taking n) h = h
risen_at closing h = h
risen_at (raising v) h = h
risen_at leaving h = true

-- before and after the rising chip select of the stage's transfer
abbrev pub doubt_at : Stage → Bool → Chunk → List Chunk
doubt_at enables b c = []
doubt_at programs false c = []
doubt_at programs true c = c ∷ []
doubt_at polls b c = c ∷ []
doubt_at clears b c = c ∷ []
doubt_at disables b c = c ∷ []

abbrev pub first_of : List Chunk → List Chunk
first_of [] = []
first_of (c ∷ l) = c ∷ []

abbrev pub doubt_end : Ending → List Chunk → List Chunk
doubt_end succeeded l = []
doubt_end failed l = first_of l
doubt_end (refuses a) l = []

-- how an access of a value leaves chip select, where it starts the transfer
abbrev pub level_after : Driver → ℕ → Bool → Bool
level_after (at s draining taken c l k) v h = h
level_after (at s dropping taken c l k) v h = h
level_after (at s opening taken c l k) v h = h
level_after (at s (lowering w) taken c l k) v h = h
level_after (at s switching taken c l k) v h = h
level_after (at s (sending q w t) taken c l k) v h = h
level_after (at s starting taken c l k) v h = h
level_after (at s (releasing w) taken c l k) v h = high v
level_after (at s (waiting n) taken c l k) v h = h
level_after (at s (again n) taken c l k) v h = h
level_after (at s (taking n) taken c l k) v h = h
level_after (at s closing taken c l k) v h = h
level_after (at s (raising w) taken c l k) v h = h
level_after (at s leaving taken c l k) v h = h
level_after (over a l k) v h = h

-- ---- a rising chip select

rise_names : (s : Stage) (c : Chunk) (reply : ℕ) → Fit c → commanded (opened (asked s c) reply) (doubt_at s false c) ≡ doubt_at s true c
unfolding command_of bytes_out
rise_names enables c reply f = refl
rise_names programs c reply f = rw (asks_program c f)
rise_names polls c reply f = refl
rise_names clears c reply f = refl
rise_names disables c reply f = refl

-- from low
starts_with : (h : Bool) (s : Stage) (c : Chunk) (reply : ℕ) → Fit c → raised false h (opened (asked s c) reply) (doubt_at s false c) ≡ doubt_at s h c
unfolding raised
starts_with true s c reply f = rise_names s c reply f
starts_with false s c reply f = refl

-- to high
ends_with : (h : Bool) (s : Stage) (c : Chunk) (reply : ℕ) → Fit c → raised h true (opened (asked s c) reply) (doubt_at s h c) ≡ doubt_at s true c
unfolding raised
ends_with true s c reply f = refl
ends_with false s c reply f = rise_names s c reply f

-- ---- the view

-- after the chunks of earlier calls
module _ (early : List Chunk) where
  abbrev showing : Transfer → Bool → List Chunk → Past → Observed
  showing t h q k = record { transfer = t; up = h; doubt = q; finished = early ++ k.chunks }

  abbrev pub view : Driver → Bool → Observed
  view (at s p taken c l k) h = showing (transfer_at s c p taken) (up_at p h) (doubt_at s (risen_at p h) c) k
  view (over a l k) h = showing closed true (doubt_end a l) k

  view_on : (y : Verdict) (c : Chunk) (l : List Chunk) (k : Past) (h : Bool) → view (start_on y c l k) h ≡ showing closed true [] k
  view_on accepts c l k h = refl
  view_on (refuses_with a) c l k h = refl

  pub view_start : (l : List Chunk) (k : Past) (h : Bool) → view (start_next l k) h ≡ showing closed true [] k
  unfolding start_next
  view_start [] k h = refl
  view_start (c ∷ l) k h = view_on (verdict_on c) c l k h

  -- a transfer closes
  settled_view : (e b : Bool) (t : Transfer) (c : Chunk) (l : List Chunk) (k : Past) (h : Bool) → observer.closing (not e && not b) (showing t true (c ∷ []) k) ≡ view (settled e b c l k) h
  unfolding observer.closing settled
  settled_view true b t c l k h = refl
  settled_view false true t c l k h = refl
  settled_view false false t c l k h =
      ap (λ (z : List Chunk). record { transfer = closed; up = true; doubt = []; finished = z }) (append_assoc early k.chunks (c ∷ [])) ∙ sym (view_start l (joined k c) h)

  closing_view : (s : Stage) (taken : List ℕ) (c : Chunk) (l : List Chunk) (k : Past) (h : Bool) → Fit c → length taken ≡ (transfer_of s c).replies
      → observer.closing (is_clean (opened (asked s c) (newest taken))) (showing (opened (asked s c) (newest taken)) true (doubt_at s true c) k) ≡ view (stage_after s taken c l k) h
  unfolding observer.closing is_clean is_status_read bytes_out stage_after settled
  closing_view enables taken c l k h f e = refl
  closing_view programs taken c l k h f e = rw (program_unclean c (newest taken) f)
  closing_view polls taken c l k h f e = rw (newest_one taken e) (settled_view (is_set 6 (top_byte (newest taken))) (is_set 0 (top_byte (newest taken))) (opened (5 ∷ 0 ∷ []) (newest taken)) c l k h)
  closing_view clears taken c l k h f e = refl
  closing_view disables taken c l k h f e = refl

  module _ (s : Stage) (c : Chunk) (l : List Chunk) (k : Past) (h : Bool) where
    -- nothing is seen where a reply picks one of two phases that look the same
    either : (b : Bool) (p q : Phase) (taken : List ℕ) (o : Observed) → view (at s p taken c l k) h ≡ o → view (at s q taken c l k) h ≡ o → o ≡ view (at s (cond b p q) taken c l k) h
    either true p q taken o e i = sym e
    either false p q taken o e i = sym i

    sent_view : (q : List ℕ) (w : ℕ) (t taken : List ℕ) → q ++ w ∷ t ≡ words (transfer_of s c)
        → showing (opened (flat (width s) q ++ bytes_out (width s) w) (newest taken)) false (doubt_at s false c) k ≡ view (at s (send_next (q ++ w ∷ []) t) taken c l k) h
    sent_view q w [] taken e = ap (λ (z : List ℕ). showing (opened z (newest taken)) false (doubt_at s false c) k) (sym (flat_snoc (width s) q w) ∙ ap (flat (width s)) e)
    sent_view q w (v ∷ t) taken e = ap (λ (z : List ℕ). showing (opened z (newest taken)) false (doubt_at s false c) k) (sym (flat_snoc (width s) q w))

    take_view : (n : ℕ) (taken : List ℕ) → showing (opened (asked s c) (newest taken)) h (doubt_at s h c) k ≡ view (at s (take_next n) taken c l k) h
    take_view zero taken = refl
    take_view (suc n) taken = refl

  -- THEOREM. Of an access that is due the observer sees what the driver's next state shows.
  pub watch_at : (whole : List Chunk) (s : Stage) (p : Phase) (taken : List ℕ) (c : Chunk) (l : List Chunk) (k : Past) (h : Bool) (a : Access) → Going whole s p taken c l k → Matches (want (state_of (at s p taken c l k))) a
      → see (view (at s p taken c l k) h) a ≡ view (driver_after (at s p taken c l k) (value_word a)) (level_after (at s p taken c l k) (value_word a) h)
  unfolding see seen_read seen_write config_written enable_written register_at driver_after phase_after raised
  watch_at whole s draining taken c l k h (access.Read o v) g m_read = either s c l k h (waits v) dropping opening taken _ refl refl
  watch_at whole s dropping taken c l k h a g m_read = refl
  watch_at whole s opening taken c l k h a g m_read = refl
  watch_at whole s (lowering w) taken c l k h a g m_write = rw (high_clear w)
  watch_at whole s switching taken c l k h a g m_write = rw g.count
  watch_at whole s (sending q w t) taken c l k h a g m_write = rw (port_is s c) (sent_view s c l k h q w t taken g.split)
  watch_at whole s starting taken c l k h a g m_read = refl
  watch_at whole s (releasing w) taken c l k h a g m_write = rw (starts_with (high (started w)) s c (newest taken) g.fits) (take_view s c l k (high (started w)) (transfer_of s c).replies taken)
  watch_at whole s (waiting n) taken c l k h (access.Read o v) g m_read =
      either s c l k h (waits v) (cond (transfer_of s c).twice (again n) (taking n)) (waiting n) taken _ (sym (either s c l k h (transfer_of s c).twice (again n) (taking n) taken _ refl refl)) refl
  watch_at whole s (again n) taken c l k h (access.Read o v) g m_read = either s c l k h (waits v) (taking n) (waiting n) taken _ refl refl
  watch_at whole s (taking n) taken c l k h (access.Read o v) g m_read = take_view s c l k h n (v ∷ taken)
  watch_at whole s closing taken c l k h a g m_read = refl
  watch_at whole s (raising w) taken c l k h a g m_write = rw (high_put w, ends_with h s c (newest taken) g.fits)
  watch_at whole s leaving taken c l k h a g m_write = closing_view s taken c l k h g.fits g.count
  watch_at whole s draining taken c l k h (access.Write _ _) g x6 = elim x6 [ ]
  watch_at whole s (waiting n) taken c l k h (access.Write _ _) g x6 = elim x6 [ ]
  watch_at whole s (again n) taken c l k h (access.Write _ _) g x7 = elim x7 [ ]
  watch_at whole s (taking n) taken c l k h (access.Write _ _) g x8 = elim x8 [ ]

  pub watch : (whole : List Chunk) (d : Driver) (h : Bool) (a : Access) → Good whole d → Matches (want (state_of d)) a → see (view d h) a ≡ view (driver_after d (value_word a)) (level_after d (value_word a) h)
  watch whole (at s p taken c l k) h a g m = watch_at whole s p taken c l k h a g m
  watch whole (over _ _ _) h a g m = elim m [ ]
