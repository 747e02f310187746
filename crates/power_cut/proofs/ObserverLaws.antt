-- The definition of the observer read back: when a chunk comes into doubt, when those in doubt are finished, and that a status that nobody read
-- finishes nothing. Assumes nothing.
use Prim.Native.Nat.{ℕ, suc, ◌/◌, ◌%◌, ◌^◌}
use mathlib.Core.Path.{◌≡◌, refl}
use mathlib.Core.Bool.{Bool, true, false, not}
use mathlib.Core.List.{List, [], ◌∷◌, ◌++◌}
use native.Mathlib.Omega.{arith}
use lib.Dec.{eqb}
use Rattle.std.proofs.Math.Bool.{and-false}
use borrow.Author.Tests.{eq-eqb, ne_eqb}
use Rattle.zynq7000.specs.Bits.{is_set}
use Rattle.zynq7000.specs.declared.qspi.Access.TheVariants.{Read, Write}
use Rattle.zedboard_bsp.specs.Words.{top_byte}
use Rattle.qspi_calls.specs.Chunks.{Chunk}
use Rattle.power_cut.specs.Flash.{Command, write_enable, write_disable, status_read, clear_status, nothing, page_program, sector_erase, command_of, program_of, erase_of}
use Rattle.power_cut.specs.Controller.{register_at, bytes_out, is_status_read}
use Rattle.power_cut.specs.Observer.{Transfer, closed, opened, unread, Observed, named, raised, config_written, is_clean, closing, enable_written, seen_write, seen_read, see, sees, observed}

-- ---- "error bit and bit 0 clear"

module _ (b : ℕ) (bs : List ℕ) (v : ℕ) where
  -- bits 0 and 6 of the top byte
  pub clean_status : v / 2 ^ 24 % 2 ≡ 0 → v / 2 ^ 30 % 2 ≡ 0 → is_clean (opened (0x05 ∷ b ∷ bs) v) ≡ true
  unfolding is_clean is_status_read
  clean_status z s =
      let e : is_set 0 (top_byte v) ≡ false = ne_eqb (v / 2 ^ 24 % 256 / 2 ^ 0 % 2) 1 (λ i. omega (arith, z, i)) in
      let f : is_set 6 (top_byte v) ≡ false = ne_eqb (v / 2 ^ 24 % 256 / 2 ^ 6 % 2) 1 (λ i. omega (arith, s, i)) in
      rw (e, f)

  pub busy_status : v / 2 ^ 24 % 2 ≡ 1 → is_clean (opened (0x05 ∷ b ∷ bs) v) ≡ false
  unfolding is_clean is_status_read
  busy_status z =
      let e : is_set 0 (top_byte v) ≡ true = eq-eqb (v / 2 ^ 24 % 256 / 2 ^ 0 % 2) 1 (omega (arith, z)) in
      rw e (and-false (not (is_set 6 (top_byte v))))

  pub error_status : v / 2 ^ 30 % 2 ≡ 1 → is_clean (opened (0x05 ∷ b ∷ bs) v) ≡ false
  unfolding is_clean is_status_read
  error_status z =
      let e : is_set 6 (top_byte v) ≡ true = eq-eqb (v / 2 ^ 24 % 256 / 2 ^ 6 % 2) 1 (omega (arith, z)) in
      rw e

-- ---- a status that nobody read

-- whatever was sent
pub unread_unclean : (sent : List ℕ) → is_clean (opened sent unread) ≡ false
unfolding is_clean is_status_read
unread_unclean [] = refl
unread_unclean (b ∷ []) = refl
unread_unclean (b ∷ c ∷ bs) = and-false (is_status_read (b ∷ c ∷ bs))

-- a status transfer without a reply leaves the chunks in doubt and the finished ones as they were
pub nobody_read : (o : Observed) (v : ℕ) → see (see (see o (Write 0x14 1)) (Write 0x84 v)) (Write 0x14 0) ≡ record { transfer = closed; up = o.up; doubt = o.doubt; finished = o.finished }
unfolding see seen_write enable_written closing register_at bytes_out
nobody_read o v = rw (unread_unclean (v % 256 ∷ v / 2 ^ 8 % 256 ∷ []))

-- such a log, from its beginning: a program, and a status that was never read
pub never_read : ((observed (Write 0x14 1 ∷ Write 0x1C 0x00010002 ∷ Write 0x1C 0xEFBEADDE ∷ Write 0x14 0 ∷ Write 0x14 1 ∷ Write 0x84 0x05 ∷ Write 0x14 0 ∷ [])).finished ≡ [])
unfolding observed sees see seen_write seen_read config_written enable_written closing is_clean is_status_read raised register_at bytes_out command_of program_of erase_of
never_read = refl

-- ---- a transfer goes on

module _ (sent : List ℕ) (reply : ℕ) (h : Bool) (q k : List Chunk) where
  -- an RX word is its reply, and finishes nothing before the closing
  pub reply_taken_lem : (v : ℕ) → see (record { transfer = opened sent reply; up = h; doubt = q; finished = k }) (Read 0x20 v) ≡ record { transfer = opened sent v; up = h; doubt = q; finished = k }
  unfolding see seen_read register_at
  reply_taken_lem v = refl

  -- a word joins what was sent, by the bytes of its port
  pub word_sent_lem : (v : ℕ) → see (record { transfer = opened sent reply; up = h; doubt = q; finished = k }) (Write 0x1C v)
      ≡ record { transfer = opened (sent ++ v % 256 ∷ v / 2 ^ 8 % 256 ∷ v / 2 ^ 16 % 256 ∷ v / 2 ^ 24 % 256 ∷ []) reply; up = h; doubt = q; finished = k }
  unfolding see seen_write register_at bytes_out
  word_sent_lem v = refl

-- outside a transfer neither belongs to one
pub outside : (h : Bool) (q k : List Chunk) (v : ℕ)
    → (see (record { transfer = closed; up = h; doubt = q; finished = k }) (Read 0x20 v) ≡ record { transfer = closed; up = h; doubt = q; finished = k })
    × (see (record { transfer = closed; up = h; doubt = q; finished = k }) (Write 0x1C v) ≡ record { transfer = closed; up = h; doubt = q; finished = k })
unfolding see seen_read seen_write register_at bytes_out
outside h q k v = (refl, refl)

-- other registers show nothing
pub not_looked_at : (o : Observed) (offset v : ℕ) → eqb offset 0x00 ≡ false → eqb offset 0x14 ≡ false → eqb offset 0x20 ≡ false → eqb offset 0x1C ≡ false → eqb offset 0x80 ≡ false → eqb offset 0x84 ≡ false
    → eqb offset 0x88 ≡ false
    → (see o (Read offset v) ≡ o) × (see o (Write offset v) ≡ o)
unfolding see seen_read seen_write register_at
not_looked_at o offset v e₁ e₂ e₃ e₄ e₅ e₆ e₇ = go (eqb offset 0x04) refl
  where
    go : (b : Bool) → eqb offset 0x04 ≡ b → (see o (Read offset v) ≡ o) × (see o (Write offset v) ≡ o)
    go true e = (rw (e₁, e), rw (e₁, e))
    go false e = (rw (e₁, e, e₂, e₃, e₄, e₅, e₆, e₇), rw (e₁, e, e₂, e₃, e₄, e₅, e₆, e₇))

-- nor does a read of config, of SPI enable or of a TX register, or a write of RX data
pub read_keeps : (o : Observed) (v : ℕ) → (see o (Read 0x00 v) ≡ o) × ((see o (Read 0x14 v) ≡ o) × (see o (Read 0x1C v) ≡ o))
unfolding see seen_read register_at
read_keeps o v = (refl, (refl, refl))

pub rx_written_keeps : (o : Observed) (v : ℕ) → see o (Write 0x20 v) ≡ o
unfolding see seen_write register_at
rx_written_keeps o v = refl

-- ---- a transfer closes

module _ (t : Transfer) (h : Bool) (q k : List Chunk) where
  abbrev shows : Observed
  shows = record { transfer = t; up = h; doubt = q; finished = k }

  -- "the closing of the last status transfer included": what was in doubt is finished
  pub clean_finishes : is_clean t ≡ true → see shows (Write 0x14 0) ≡ record { transfer = closed; up = h; doubt = []; finished = k ++ q }
  unfolding see seen_write enable_written closing register_at
  clean_finishes e = rw e

  pub unclean_keeps : is_clean t ≡ false → see shows (Write 0x14 0) ≡ record { transfer = closed; up = h; doubt = q; finished = k }
  unfolding see seen_write enable_written closing register_at
  unclean_keeps e = rw e

  -- where none is open nothing is finished
  pub none_open : see (record { transfer = closed; up = h; doubt = q; finished = k }) (Write 0x14 0) ≡ record { transfer = closed; up = h; doubt = q; finished = k }
  unfolding see seen_write enable_written closing is_clean register_at
  none_open = refl

  pub opens_unread : (v : ℕ) → see shows (Write 0x14 (suc v)) ≡ record { transfer = opened [] unread; up = h; doubt = q; finished = k }
  unfolding see seen_write enable_written register_at
  opens_unread v = refl

-- ---- chip select: "in doubt from the rising chip select of its page program command"

module _ (sent : List ℕ) (reply v : ℕ) (q k : List Chunk) where
  -- it joins those that are in doubt already
  pub rise_doubts : (c : Chunk) → is_set 10 v ≡ true → command_of sent ≡ page_program c
      → see (record { transfer = opened sent reply; up = false; doubt = q; finished = k }) (Write 0x00 v) ≡ record { transfer = opened sent reply; up = true; doubt = q ++ c ∷ []; finished = k }
  unfolding see seen_write config_written raised register_at
  rise_doubts c e n = rw (e, n)

  -- another command leaves those that are
  pub rise_of_another : is_set 10 v ≡ true → ((c : Chunk) → command_of sent ≡ page_program c → ⊥)
      → see (record { transfer = opened sent reply; up = false; doubt = q; finished = k }) (Write 0x00 v) ≡ record { transfer = opened sent reply; up = true; doubt = q; finished = k }
  unfolding see seen_write config_written raised register_at
  rise_of_another e n = rw (e, unnamed (command_of sent) n)
    where
      unnamed : (x : Command) → ((c : Chunk) → x ≡ page_program c → ⊥) → named x q ≡ q
      unnamed write_enable m = refl
      unnamed write_disable m = refl
      unnamed status_read m = refl
      unnamed clear_status m = refl
      unnamed nothing m = refl
      unnamed (page_program c) m = absurd (m c refl)
      unnamed (sector_erase a) m = refl

  -- and so does chip select outside a transfer
  pub rise_outside : is_set 10 v ≡ true → see (record { transfer = closed; up = false; doubt = q; finished = k }) (Write 0x00 v) ≡ record { transfer = closed; up = true; doubt = q; finished = k }
  unfolding see seen_write config_written raised register_at
  rise_outside e = rw e

  -- before it rises nothing is
  pub low_keeps : (h : Bool) → is_set 10 v ≡ false
      → see (record { transfer = opened sent reply; up = h; doubt = q; finished = k }) (Write 0x00 v) ≡ record { transfer = opened sent reply; up = false; doubt = q; finished = k }
  unfolding see seen_write config_written raised register_at
  low_keeps true e = rw e
  low_keeps false e = rw e

  pub high_keeps : is_set 10 v ≡ true
      → see (record { transfer = opened sent reply; up = true; doubt = q; finished = k }) (Write 0x00 v) ≡ record { transfer = opened sent reply; up = true; doubt = q; finished = k }
  unfolding see seen_write config_written raised register_at
  high_keeps e = rw e
