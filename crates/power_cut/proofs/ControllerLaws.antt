-- The definition of the controller read back, sentence by sentence of document 01, "The flash, as defined here": what each register does and may
-- give, what a reply shows by the bits of its top byte, and how much is left to the device's choice. Assumes nothing.
use Prim.Native.Nat.{ℕ, ◌/◌, ◌%◌, ◌^◌}
use mathlib.Core.Path.{◌≡◌, refl, sym, ◌∙◌}
use mathlib.Core.Bool.{Bool, true, false, ◌&&◌, true≢false}
use mathlib.Core.Option.{none}
use mathlib.Core.List.{List, [], ◌∷◌, ◌++◌, cons≢nil}
use mathlib.Core.Logic.{◌↔◌}
use native.Mathlib.Omega.{arith}
use lib.Dec.{eqb}
use lib.ListN.{take}
use borrow.Author.Tests.{eqb-true, eq-eqb}
use Rattle.zynq7000.specs.Bits.{is_set, clear}
use Rattle.zynq7000.specs.declared.qspi.Access.{Access}
use Rattle.zynq7000.specs.declared.qspi.Access.TheVariants as access
use Rattle.zedboard_bsp.specs.Words.{top_byte}
use Rattle.power_cut.specs.Flash.{Array, Flash, flash, busy, execute, Settles}
use Rattle.power_cut.specs.Controller.{register_at, bytes_out, high, shows_busy, shows_program_error, shows_erase_error, is_status_read, Device, device, is_high, words_left, raises, Shows, Silent, out, unasked, idle, configured, after_write, after_read, effect, GivenBy, Gives, Rests, rests}

-- ---- "TX data (four bytes) 1C, .. TX data of one, two, three bytes 80, 84, 88"

pub data Port : Type 0 where
  one two three four : Port

abbrev pub offset_of : Port → ℕ
offset_of one = 0x80
offset_of two = 0x84
offset_of three = 0x88
offset_of four = 0x1C

abbrev pub bytes_in : Port → ℕ
bytes_in one = 1
bytes_in two = 2
bytes_in three = 3
bytes_in four = 4

module _ (c : ℕ) (t u : List (List ℕ)) (w r : List ℕ) (f : Flash) where
  -- so many of its bytes, "low byte first", wait behind the words that wait
  pub port_sends : (p : Port) (v : ℕ)
      → effect (device c t u w r f) (access.Write (offset_of p) v) ≡ device c t (u ++ take (bytes_in p) (v % 256 ∷ v / 2 ^ 8 % 256 ∷ v / 2 ^ 16 % 256 ∷ v / 2 ^ 24 % 256 ∷ []) ∷ []) w r f
  unfolding effect after_write register_at bytes_out
  port_sends one v = refl
  port_sends two v = refl
  port_sends three v = refl
  port_sends four v = refl

  -- ---- RX data: "it stays until read", the oldest first

  -- where no word waits, a read gives anything and takes nothing
  pub rx_empty_gives_any : (v : ℕ) → Gives (device c t u w [] f) (access.Read 0x20 v)
  unfolding Gives GivenBy register_at
  rx_empty_gives_any v = tt

  pub rx_empty_stays : (v : ℕ) → effect (device c t u w [] f) (access.Read 0x20 v) ≡ device c t u w [] f
  unfolding effect after_read register_at
  rx_empty_stays v = refl

  pub rx_gives_oldest : (v x : ℕ) → Gives (device c t u w (x ∷ r) f) (access.Read 0x20 v) ↔ (v ≡ x)
  unfolding Gives GivenBy register_at
  rx_gives_oldest v x = (λ e. e, λ e. e)

  pub rx_read_takes : (v x : ℕ) → effect (device c t u w (x ∷ r) f) (access.Read 0x20 v) ≡ device c t u w r f
  unfolding effect after_read register_at
  rx_read_takes v x = refl

  -- ---- interrupt status: "status bit 4 says that one waits", its other bits are free

  pub status_one_waits : (v x : ℕ) → Gives (device c t u w (x ∷ r) f) (access.Read 0x04 v) ↔ (is_set 4 v ≡ true)
  unfolding Gives GivenBy register_at
  status_one_waits v x = (λ e. e, λ e. e)

  pub status_none_waits : (v : ℕ) → Gives (device c t u w [] f) (access.Read 0x04 v) ↔ (is_set 4 v ≡ false)
  unfolding Gives GivenBy register_at
  status_none_waits v = (λ e. e, λ e. e)

  pub status_read_keeps : (v : ℕ) → effect (device c t u w r f) (access.Read 0x04 v) ≡ device c t u w r f
  unfolding effect after_read register_at
  status_read_keeps v = refl

  -- ---- config: "Config reads as last written with bit 16 zero", "chip select is low while bit 10 is clear"

  pub config_gives : (v : ℕ) → Gives (device c t u w r f) (access.Read 0x00 v) ↔ (v ≡ c)
  unfolding Gives GivenBy register_at
  config_gives v = (λ e. e, λ e. e)

  -- chip select falls: the bytes out are counted anew
  pub falls : (v : ℕ) → is_set 10 c ≡ true → is_set 10 v ≡ false → is_set 16 v ≡ false → effect (device c t u w r f) (access.Write 0x00 v) ≡ device (clear 16 v) t u [] r f
  unfolding effect after_write configured register_at
  falls v e h s = rw (e, h, s)

  -- it stays low, and the write starts: the words that wait are released behind those that are
  pub starts : (v : ℕ) → is_set 10 c ≡ false → is_set 10 v ≡ false → is_set 16 v ≡ true → effect (device c t u w r f) (access.Write 0x00 v) ≡ device (clear 16 v) (t ++ u) [] w r f
  unfolding effect after_write configured register_at
  starts v e h s = rw (e, h, s)

  pub starts_not : (v : ℕ) → is_set 10 c ≡ false → is_set 10 v ≡ false → is_set 16 v ≡ false → effect (device c t u w r f) (access.Write 0x00 v) ≡ device (clear 16 v) t u w r f
  unfolding effect after_write configured register_at
  starts_not v e h s = rw (e, h, s)

  -- "A command takes effect when chip select rises", as far as it is out; the other words wait for a start
  pub rises : (v : ℕ) → is_set 10 c ≡ false → is_set 10 v ≡ true → is_set 16 v ≡ false → effect (device c t u w r f) (access.Write 0x00 v) ≡ device (clear 16 v) [] (t ++ u) [] r (execute f w)
  unfolding effect after_write configured register_at
  rises v e h s = rw (e, h, s)

  -- it stays high: no command
  pub stays_high : (v : ℕ) → is_set 10 c ≡ true → is_set 10 v ≡ true → is_set 16 v ≡ false → effect (device c t u w r f) (access.Write 0x00 v) ≡ device (clear 16 v) t u w r f
  unfolding effect after_write configured register_at
  stays_high v e h s = rw (e, h, s)

  -- ---- no other access does anything to words or flash, and a read of another register gives anything

  pub enable_keeps : (v : ℕ) → effect (device c t u w r f) (access.Write 0x14 v) ≡ device c t u w r f
  unfolding effect after_write register_at
  enable_keeps v = refl

  pub status_written_keeps : (v : ℕ) → effect (device c t u w r f) (access.Write 0x04 v) ≡ device c t u w r f
  unfolding effect after_write register_at
  status_written_keeps v = refl

  pub rx_written_keeps : (v : ℕ) → effect (device c t u w r f) (access.Write 0x20 v) ≡ device c t u w r f
  unfolding effect after_write register_at
  rx_written_keeps v = refl

  pub config_read_keeps : (v : ℕ) → effect (device c t u w r f) (access.Read 0x00 v) ≡ device c t u w r f
  unfolding effect after_read register_at
  config_read_keeps v = refl

  abbrev Free : ℕ → ℕ → Type 0
  Free o v = Gives (device c t u w r f) (access.Read o v) × (effect (device c t u w r f) (access.Read o v) ≡ device c t u w r f)

  pub enable_read_free : (v : ℕ) → Free 0x14 v
  unfolding effect after_read Gives GivenBy register_at
  enable_read_free v = (tt, refl)

  pub port_read_free : (p : Port) (v : ℕ) → Free (offset_of p) v
  unfolding effect after_read Gives GivenBy register_at
  port_read_free one v = (tt, refl)
  port_read_free two v = (tt, refl)
  port_read_free three v = (tt, refl)
  port_read_free four v = (tt, refl)

  pub elsewhere : (o v : ℕ) → eqb o 0x00 ≡ false → eqb o 0x04 ≡ false → eqb o 0x14 ≡ false → eqb o 0x20 ≡ false → eqb o 0x1C ≡ false → eqb o 0x80 ≡ false → eqb o 0x84 ≡ false → eqb o 0x88 ≡ false
      → Free o v × (effect (device c t u w r f) (access.Write o v) ≡ device c t u w r f)
  unfolding effect after_read after_write Gives GivenBy register_at
  elsewhere o v e₁ e₂ e₃ e₄ e₅ e₆ e₇ e₈ =
      let g : Gives (device c t u w r f) (access.Read o v) = rw (e₁, e₂, e₃, e₄, e₅, e₆, e₇, e₈) tt in
      let x : effect (device c t u w r f) (access.Read o v) ≡ device c t u w r f = rw (e₁, e₂, e₃, e₄, e₅, e₆, e₇, e₈) in
      let y : effect (device c t u w r f) (access.Write o v) ≡ device c t u w r f = rw (e₁, e₂, e₃, e₄, e₅, e₆, e₇, e₈) in
      ((g, x), y)

-- ---- the bits of a status reply: "Status bit 0 shows busy", "the error bit (6 for program, 5 for erase)", of the top byte

bit_of_top : (i v : ℕ) → is_set i (top_byte v) ≡ true → v / 2 ^ 24 % 256 / 2 ^ i % 2 ≡ 1
bit_of_top i v e = eqb-true (v / 2 ^ 24 % 256 / 2 ^ i % 2) 1 e

pub busy_is_bit_24 : (v : ℕ) → (shows_busy v ≡ true) ↔ (v / 2 ^ 24 % 2 ≡ 1)
busy_is_bit_24 v = (λ e. omega (arith, bit_of_top 0 v e), λ e. eq-eqb (v / 2 ^ 24 % 256 / 2 ^ 0 % 2) 1 (omega (arith, e)))

pub erase_error_is_bit_29 : (v : ℕ) → (shows_erase_error v ≡ true) ↔ (v / 2 ^ 29 % 2 ≡ 1)
erase_error_is_bit_29 v = (λ e. omega (arith, bit_of_top 5 v e), λ e. eq-eqb (v / 2 ^ 24 % 256 / 2 ^ 5 % 2) 1 (omega (arith, e)))

pub program_error_is_bit_30 : (v : ℕ) → (shows_program_error v ≡ true) ↔ (v / 2 ^ 30 % 2 ≡ 1)
program_error_is_bit_30 v = (λ e. omega (arith, bit_of_top 6 v e), λ e. eq-eqb (v / 2 ^ 24 % 256 / 2 ^ 6 % 2) 1 (omega (arith, e)))

-- the top byte is the status once 05 and one byte more are out
pub status_command : (b : ℕ) (bs : List ℕ) → is_status_read (0x05 ∷ b ∷ bs) ≡ true
unfolding is_status_read
status_command b bs = refl

pub status_needs_05 : (b : ℕ) (bs : List ℕ) → eqb b 0x05 ≡ false → is_status_read (b ∷ bs) ≡ false
unfolding is_status_read
status_needs_05 b [] e = refl
status_needs_05 b (c ∷ bs) e = e

pub status_needs_a_byte : (b : ℕ) → is_status_read (b ∷ []) ≡ false
unfolding is_status_read
status_needs_a_byte b = refl

module _ (c : ℕ) (f : Flash) (bs : List ℕ) (v : ℕ) where
  -- demand 3, "reports no error": of a status reply neither error bit is set. `write_pages` tests bit 6 alone, so that no proof of the statement uses bit 5
  pub no_error_shown : Shows c f bs v → high c ≡ false → is_status_read bs ≡ true → (shows_program_error v ≡ false) × (shows_erase_error v ≡ false)
  no_error_shown s d i = s.no_error d i

  -- "Status bit 0 shows busy"
  pub busy_shown : Shows c f bs v → high c ≡ false → is_status_read bs ≡ true → shows_busy v ≡ busy f
  busy_shown s d i = s.shown d i

  -- and no more is asked of it
  pub any_such_status : shows_busy v ≡ busy f → shows_program_error v ≡ false → shows_erase_error v ≡ false → Shows c f bs v
  any_such_status b p e = record { shown = λ d i. b; no_error = λ d i. (p, e) }

  -- nor of a reply to another command
  pub any_other_reply : is_status_read bs ≡ false → Shows c f bs v
  any_other_reply n = record { shown = λ d i. absurd (true≢false (sym i ∙ n)); no_error = λ d i. absurd (true≢false (sym i ∙ n)) }

-- ---- the device's choice: whenever, whatever else waits

module _ (c : ℕ) (t u : List (List ℕ)) (w r : List ℕ) (f : Flash) where
  -- "A word goes out after start, between accesses of the controller's choice, in the order written", with one RX word for it
  pub word_goes_out : (b : List ℕ) (reply : ℕ) → Shows c f (w ++ b) reply → Silent (device c (b ∷ t) u w r f) (device c t u (w ++ b) (r ++ reply ∷ []) f)
  word_goes_out b reply s = out reply s

  -- where bits 14 and 15 are not both set, words may go out unasked
  pub starts_unasked : (is_set 14 c && is_set 15 c) ≡ false → Silent (device c t u w r f) (device c (t ++ u) [] w r f)
  starts_unasked m = unasked m

  -- "the device picks the finite number of reads that show it"
  pub becomes_idle : {g : Flash} → Settles f g → Silent (device c t u w r f) (device c t u w r g)
  becomes_idle s = idle s

-- "At the start of a run bits 10, 14 and 15 are set, and no TX word waits or is going out": whatever waits in RX and whether or not the latch is set
pub rests_whatever : (m : Array) (c : ℕ) (w r : List ℕ) (latch : Bool) → is_set 10 c ≡ true → is_set 14 c ≡ true → is_set 15 c ≡ true → is_set 16 c ≡ false → Rests m (device c [] [] w r (flash m latch none))
rests_whatever m c w r latch u₁₀ u₁₄ u₁₅ u₁₆ = rests u₁₀ u₁₄ u₁₅ u₁₆

-- ---- "all words have gone out before chip select rises" (demand 3)

-- none waits and none is going out
pub none_left : (c : ℕ) (t u : List (List ℕ)) (w r : List ℕ) (f : Flash) → words_left (device c t u w r f) ≡ [] → (t ≡ []) × (u ≡ [])
none_left c [] u w r f e = (refl, e)
none_left c (b ∷ t) u w r f e = absurd (cons≢nil e)

-- it rises wherever it is low before the access and high after it
pub rises_there : (d : Device) (a : Access) → is_high d ≡ false → is_high (effect d a) ≡ true → raises d a ≡ true
unfolding raises
rises_there d a e h = rw (e, h)
