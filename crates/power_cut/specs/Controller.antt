-- The controller with the flash behind it: document 01, "The flash, as defined here", with every choice that it leaves free. Quotations are
-- from that section unless another is named.
use Rattle.std.specs.Prelude.{ℕ, ◌≡◌, Bool, true, false, cond, not, ◌&&◌, List, [], ◌∷◌, ◌++◌, eqb, take, drop}
use Rattle.std.proofs.Math.Option.{none}
use Rattle.zynq7000.specs.Bits.{is_set, clear}
use Rattle.zynq7000.specs.declared.qspi.Access.{Access}
use Rattle.zynq7000.specs.declared.qspi.Access.TheVariants as access
use Rattle.zedboard_bsp.specs.Words.{bytes_of, top_byte}
use Rattle.power_cut.specs.Flash.{Array, Flash, flash, busy, execute, Settles}

-- ---- registers

pub data Register : Type 0 where
  config status enable rx other : Register
  tx : ℕ → Register  -- with the number of bytes of a word

-- "Offsets: config 00, interrupt status 04, SPI enable 14, TX data (four bytes) 1C, RX data 20, .. TX data of one, two, three bytes 80, 84,
-- 88" ("Modules of the flash path", 1)
unfoldable pub register_at : ℕ → Register
register_at o =
    cond (eqb o 0x00) config
    (cond (eqb o 0x04) status
    (cond (eqb o 0x14) enable
    (cond (eqb o 0x20) rx
    (cond (eqb o 0x1C) (tx 4)
    (cond (eqb o 0x80) (tx 1)
    (cond (eqb o 0x84) (tx 2)
    (cond (eqb o 0x88) (tx 3) other)))))))

-- "Words are written low byte first" ("One transfer, access by access")
unfoldable pub bytes_out : ℕ → ℕ → List ℕ
bytes_out width w = take width (bytes_of w)

-- "chip select is low while bit 10 is clear"
abbrev pub high : ℕ → Bool
high c = is_set 10 c

-- bits 14 and 15: chip select and start are the program's
abbrev pub manual : ℕ → Bool
manual c = is_set 14 c && is_set 15 c

-- "Status bit 0 shows busy", "the error bit (6 for program, 5 for erase)", of the byte on top of the reply
abbrev pub shows_busy : ℕ → Bool
shows_busy reply = is_set 0 (top_byte reply)

abbrev pub shows_program_error : ℕ → Bool
shows_program_error reply = is_set 6 (top_byte reply)

abbrev pub shows_erase_error : ℕ → Bool
shows_erase_error reply = is_set 5 (top_byte reply)

-- the byte on top of the reply is the status: 05 went out first, and a byte after it
unfoldable pub is_status_read : List ℕ → Bool
is_status_read [] = false
is_status_read (b ∷ []) = false
is_status_read (b ∷ c ∷ bs) = eqb b 0x05

-- ---- the device

pub data Device : Type 0 where
  -- config as it reads; the TX words that start released and those that wait for one, each as its bytes; the bytes out since chip select fell;
  -- the RX words that wait; the flash
  device : ℕ → List (List ℕ) → List (List ℕ) → List ℕ → List ℕ → Flash → Device

abbrev pub flash_of : Device → Flash
flash_of (device c t u w r f) = f

abbrev pub is_high : Device → Bool
is_high (device c t u w r f) = high c

-- the words that wait or are going out
abbrev pub words_left : Device → List (List ℕ)
words_left (device c t u w r f) = t ++ u

-- the reply to a word: what it shows after these bytes. All that is not said here is free: every bit of a reply to another command, and the
-- other bits of a status reply.
pub record Shows (c : ℕ) (f : Flash) (bs : List ℕ) (reply : ℕ) : Type 0 where
  pub shown : high c ≡ false → is_status_read bs ≡ true → shows_busy reply ≡ busy f
  -- demand 3: the flash "reports no error". `write_pages` looks at the program error alone: no proof of the statement uses the other half
  pub no_error : high c ≡ false → is_status_read bs ≡ true → (shows_program_error reply ≡ false) × (shows_erase_error reply ≡ false)

-- what happens between accesses, at the device's choice
pub data Silent : Device → Device → Type 0 where
  -- "A word goes out after start, between accesses of the controller's choice, in the order written." "After start the controller returns one
  -- RX word for each TX word, as soon as that is out and not later"
  out : {c : ℕ} {b : List ℕ} {t u : List (List ℕ)} {w r : List ℕ} {f : Flash} (reply : ℕ) → Shows c f (w ++ b) reply
      → Silent (device c (b ∷ t) u w r f) (device c t u (w ++ b) (r ++ reply ∷ []) f)
  -- where start is not the program's, the controller starts by itself
  unasked : {c : ℕ} {t u : List (List ℕ)} {w r : List ℕ} {f : Flash} → manual c ≡ false → Silent (device c t u w r f) (device c (t ++ u) [] w r f)
  -- the work is done: "the device picks the finite number of reads that show it", namely how many of them come before this
  idle : {c : ℕ} {t u : List (List ℕ)} {w r : List ℕ} {f g : Flash} → Settles f g → Silent (device c t u w r f) (device c t u w r g)

-- ---- what an access does

-- start releases the words that wait for it
abbrev pub released : Bool → List (List ℕ) → List (List ℕ) → List (List ℕ)
released true t u = t ++ u
released false t u = t

abbrev pub unreleased : Bool → List (List ℕ) → List (List ℕ)
unreleased true u = []
unreleased false u = u

-- config is written: chip select was and is high or low, the write starts or not, and config reads so from now on. Where chip select rises,
-- the command takes effect as far as it is out, and the words that are not out wait for another start.
unfoldable pub configured : Bool → Bool → Bool → ℕ → List (List ℕ) → List (List ℕ) → List ℕ → List ℕ → Flash → Device
unfolding execute
configured true true starts c t u w r f = device c (released starts t u) (unreleased starts u) w r f
configured true false starts c t u w r f = device c (released starts t u) (unreleased starts u) [] r f
configured false false starts c t u w r f = device c (released starts t u) (unreleased starts u) w r f
configured false true starts c t u w r f = device c (released starts [] (t ++ u)) (unreleased starts (t ++ u)) [] r (execute f w)

-- "Config reads as last written with bit 16 zero"
unfoldable pub after_write : Register → ℕ → Device → Device
unfolding configured bytes_out
after_write config v (device c t u w r f) = configured (high c) (high v) (is_set 16 v) (clear 16 v) t u w r f
after_write (tx width) v (device c t u w r f) = device c t (u ++ bytes_out width v ∷ []) w r f
after_write status v d = d
after_write enable v d = d
after_write rx v d = d
after_write other v d = d

-- "it stays until read"
unfoldable pub after_read : Register → Device → Device
after_read rx (device c t u w r f) = device c t u w (drop 1 r) f
after_read config d = d
after_read status d = d
after_read enable d = d
after_read (tx width) d = d
after_read other d = d

unfoldable pub effect : Device → Access → Device
unfolding after_read after_write register_at
effect d (access.Read o v) = after_read (register_at o) d
effect d (access.Write o v) = after_write (register_at o) v d

-- ---- what a read may give

abbrev pub some_wait : List ℕ → Bool
some_wait [] = false
some_wait (v ∷ r) = true

-- the word that waits longest; where none waits, anything
abbrev pub Oldest : List ℕ → ℕ → Type 0
Oldest [] v = Unit {0}
Oldest (w ∷ r) v = v ≡ w

-- "status bit 4 says that one waits"; its other bits are free
unfoldable pub GivenBy : Register → ℕ → Device → Type 0
GivenBy config v (device c t u w r f) = v ≡ c
GivenBy status v (device c t u w r f) = is_set 4 v ≡ some_wait r
GivenBy rx v (device c t u w r f) = Oldest r v
GivenBy enable v d = Unit {0}
GivenBy (tx width) v d = Unit {0}
GivenBy other v d = Unit {0}

unfoldable pub Gives : Device → Access → Type 0
unfolding GivenBy register_at
Gives d (access.Read o v) = GivenBy (register_at o) v d
Gives d (access.Write o v) = Unit {0}

-- ---- runs

-- from a device, by these accesses and no others ("nobody else drives them"), with anything silent between them, to a device
pub data Trace : Device → List Access → Device → Type 0 where
  still : {d : Device} → Trace d [] d
  quiet : {d e g : Device} {l : List Access} → Silent d e → Trace e l g → Trace d l g
  step : {d g : Device} {a : Access} {l : List Access} → Gives d a → Trace (effect d a) l g → Trace d (a ∷ l) g

-- chip select rises: it is low before the access and high after it
unfoldable pub raises : Device → Access → Bool
unfolding effect
raises d a = not (is_high d) && is_high (effect d a)

-- "all words have gone out before chip select rises" (demand 3): at each rise of the trace no word waits or is going out
unfoldable pub AllOut : {d g : Device} {l : List Access} → Trace d l g → Type 0
unfolding raises
AllOut still = Unit {0}
AllOut (quiet s t) = AllOut t
AllOut (step {d} {a = a} g t) = (raises d a ≡ true → words_left d ≡ []) × AllOut t

-- "At the start of a run bits 10, 14 and 15 are set, and no TX word waits or is going out"; bit 16 reads zero. The flash holds the array and
-- is idle (demand 3); no rule here protects a byte. RX words and latch are free.
pub data Rests (m : Array) : Device → Type 0 where
  rests : {c : ℕ} {w r : List ℕ} {latch : Bool} → is_set 10 c ≡ true → is_set 14 c ≡ true → is_set 15 c ≡ true → is_set 16 c ≡ false
      → Rests m (device c [] [] w r (flash m latch none))
