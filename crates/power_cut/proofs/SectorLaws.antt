-- The definition of the observer of sectors read back: when a sector comes into doubt, when those in doubt are finished, and that a status that nobody read finishes nothing; and what the
-- claim about a log fixes. Assumes nothing.
use Prim.Native.Nat.{ℕ, suc, ◌+◌, ◌*◌, ◌/◌, ◌%◌, ◌^◌, ◌≤◌, ◌<◌, min}
use mathlib.Core.Path.{◌≡◌, refl, ap, ◌∙◌, sym}
use mathlib.Core.Bool.{Bool, true, false, not}
use mathlib.Core.List.{List, [], ◌∷◌, ◌++◌, head-eq_of_cons-eq}
use native.Mathlib.Omega.{arith}
use lib.Dec.{eqb}
use lib.ListN.{length, get_or, length-take}
use Rattle.std.proofs.Math.Bool.{and-false}
use borrow.Author.Tests.{eq-eqb, ne_eqb}
use Rattle.zynq7000.specs.Bits.{is_set}
use Rattle.zynq7000.specs.declared.qspi.Access.{Access}
use Rattle.zynq7000.specs.declared.qspi.Access.TheVariants.{Read, Write}
use Rattle.zedboard_bsp.specs.Words.{top_byte}
use Rattle.qspi_calls.specs.Chunks.{Chunk}
use Rattle.power_cut.specs.Flash.{Command, write_enable, write_disable, status_read, clear_status, nothing, page_program, sector_erase, command_of, erase_of}
use Rattle.power_cut.specs.Controller.{register_at, bytes_out, is_status_read}
use Rattle.power_cut.specs.Observer.{Transfer, closed, opened, unread}
use Rattle.power_cut.specs.SectorObserver.{SectorsSeen, named, raised, config_written, is_clean, closing, enable_written, seen_write, seen_read, see, seen}
use Rattle.power_cut.specs.SectorPromise.{NextSector, no_doubt, the_next, ShowsSectors}

-- ---- "error bit and bit 0 clear": of erase, bit 5

module _ (b : ℕ) (bs : List ℕ) (v : ℕ) where
  -- bits 0 and 5 of the top byte, whatever bit 6 is
  pub clean_status : v / 2 ^ 24 % 2 ≡ 0 → v / 2 ^ 29 % 2 ≡ 0 → is_clean (opened (0x05 ∷ b ∷ bs) v) ≡ true
  unfolding is_clean is_status_read
  clean_status z s =
      let e : is_set 0 (top_byte v) ≡ false = ne_eqb (v / 2 ^ 24 % 256 / 2 ^ 0 % 2) 1 (λ i. omega (arith, z, i)) in
      let f : is_set 5 (top_byte v) ≡ false = ne_eqb (v / 2 ^ 24 % 256 / 2 ^ 5 % 2) 1 (λ i. omega (arith, s, i)) in
      rw (e, f)

  pub busy_status : v / 2 ^ 24 % 2 ≡ 1 → is_clean (opened (0x05 ∷ b ∷ bs) v) ≡ false
  unfolding is_clean is_status_read
  busy_status z =
      let e : is_set 0 (top_byte v) ≡ true = eq-eqb (v / 2 ^ 24 % 256 / 2 ^ 0 % 2) 1 (omega (arith, z)) in
      rw e (and-false (not (is_set 5 (top_byte v))))

  pub error_status : v / 2 ^ 29 % 2 ≡ 1 → is_clean (opened (0x05 ∷ b ∷ bs) v) ≡ false
  unfolding is_clean is_status_read
  error_status z =
      let e : is_set 5 (top_byte v) ≡ true = eq-eqb (v / 2 ^ 24 % 256 / 2 ^ 5 % 2) 1 (omega (arith, z)) in
      rw e

-- the program error stands at another bit
pub program_error_clean : is_clean (opened (0x05 ∷ 0x00 ∷ []) 0x40000000) ≡ true
unfolding is_clean is_status_read
program_error_clean = refl

-- no other transfer is a status
pub other_unclean : (b : ℕ) (bs : List ℕ) (v : ℕ) → eqb b 0x05 ≡ false → is_clean (opened (b ∷ bs) v) ≡ false
unfolding is_clean is_status_read
other_unclean b [] v e = refl
other_unclean b (c ∷ bs) v e = rw e

-- ---- a status that nobody read

-- whatever was sent
pub unread_unclean : (sent : List ℕ) → is_clean (opened sent unread) ≡ false
unfolding is_clean is_status_read
unread_unclean [] = refl
unread_unclean (b ∷ []) = refl
unread_unclean (b ∷ c ∷ bs) = and-false (is_status_read (b ∷ c ∷ bs))

-- a status transfer without a reply leaves the sectors in doubt and the finished ones as they were
pub nobody_read : (o : SectorsSeen) (v : ℕ) → see (see (see o (Write 0x14 1)) (Write 0x84 v)) (Write 0x14 0) ≡ record { transfer = closed; up = o.up; doubt = o.doubt; finished = o.finished }
unfolding see seen_write enable_written closing register_at bytes_out
nobody_read o v = rw (unread_unclean (v % 256 ∷ v / 2 ^ 8 % 256 ∷ []))

-- ---- a transfer goes on

module _ (sent : List ℕ) (reply : ℕ) (h : Bool) (q k : List ℕ) where
  -- an RX word is its reply, and finishes nothing before the closing
  pub reply_taken_lem : (v : ℕ) → see (record { transfer = opened sent reply; up = h; doubt = q; finished = k }) (Read 0x20 v) ≡ record { transfer = opened sent v; up = h; doubt = q; finished = k }
  unfolding see seen_read register_at
  reply_taken_lem v = refl

  -- a word joins what was sent, by the bytes of its port
  pub word_sent_lem : (v : ℕ) → see (record { transfer = opened sent reply; up = h; doubt = q; finished = k }) (Write 0x1C v)
      ≡ record { transfer = opened (sent ++ v % 256 ∷ v / 2 ^ 8 % 256 ∷ v / 2 ^ 16 % 256 ∷ v / 2 ^ 24 % 256 ∷ []) reply; up = h; doubt = q; finished = k }
  unfolding see seen_write register_at bytes_out
  word_sent_lem v = refl

-- outside a transfer neither belongs to one
pub outside : (h : Bool) (q k : List ℕ) (v : ℕ)
    → (see (record { transfer = closed; up = h; doubt = q; finished = k }) (Read 0x20 v) ≡ record { transfer = closed; up = h; doubt = q; finished = k })
    × (see (record { transfer = closed; up = h; doubt = q; finished = k }) (Write 0x1C v) ≡ record { transfer = closed; up = h; doubt = q; finished = k })
unfolding see seen_read seen_write register_at bytes_out
outside h q k v = (refl, refl)

-- other registers show nothing, nor does a read of config, of interrupt status or of SPI enable
pub not_looked_at : (o : SectorsSeen) (v : ℕ)
    → (see o (Write 0x04 v) ≡ o) × ((see o (Write 0x20 v) ≡ o) × ((see o (Read 0x00 v) ≡ o) × ((see o (Read 0x04 v) ≡ o) × ((see o (Read 0x14 v) ≡ o) × (see o (Read 0x1C v) ≡ o)))))
unfolding see seen_read seen_write register_at
not_looked_at o v = (refl, (refl, (refl, (refl, (refl, refl)))))

-- ---- a transfer closes

module _ (t : Transfer) (h : Bool) (q k : List ℕ) where
  abbrev shows : SectorsSeen
  shows = record { transfer = t; up = h; doubt = q; finished = k }

  -- "the closing of the last status transfer included": what was in doubt is finished, in the order sent
  pub clean_finishes : is_clean t ≡ true → see shows (Write 0x14 0) ≡ record { transfer = closed; up = h; doubt = []; finished = k ++ q }
  unfolding see seen_write enable_written closing register_at
  clean_finishes e = rw e

  pub unclean_keeps : is_clean t ≡ false → see shows (Write 0x14 0) ≡ record { transfer = closed; up = h; doubt = q; finished = k }
  unfolding see seen_write enable_written closing register_at
  unclean_keeps e = rw e

  pub opens_unread : (v : ℕ) → see shows (Write 0x14 (suc v)) ≡ record { transfer = opened [] unread; up = h; doubt = q; finished = k }
  unfolding see seen_write enable_written register_at
  opens_unread v = refl

-- where none is open nothing is finished
pub none_open : (h : Bool) (q k : List ℕ) → see (record { transfer = closed; up = h; doubt = q; finished = k }) (Write 0x14 0) ≡ record { transfer = closed; up = h; doubt = q; finished = k }
unfolding see seen_write enable_written closing is_clean register_at
none_open h q k = refl

-- ---- chip select: in doubt from the rising chip select of its erase command

module _ (sent : List ℕ) (reply v : ℕ) (q k : List ℕ) where
  -- it joins those that are in doubt already
  pub rise_doubts : (a : ℕ) → is_set 10 v ≡ true → command_of sent ≡ sector_erase a
      → see (record { transfer = opened sent reply; up = false; doubt = q; finished = k }) (Write 0x00 v) ≡ record { transfer = opened sent reply; up = true; doubt = q ++ a ∷ []; finished = k }
  unfolding see seen_write config_written raised register_at
  rise_doubts a e n = rw (e, n)

  -- another command leaves those that are
  pub rise_of_another : is_set 10 v ≡ true → ((a : ℕ) → command_of sent ≡ sector_erase a → ⊥)
      → see (record { transfer = opened sent reply; up = false; doubt = q; finished = k }) (Write 0x00 v) ≡ record { transfer = opened sent reply; up = true; doubt = q; finished = k }
  unfolding see seen_write config_written raised register_at
  rise_of_another e n = rw (e, unnamed (command_of sent) n)
    where
      unnamed : (x : Command) → ((a : ℕ) → x ≡ sector_erase a → ⊥) → named x q ≡ q
      unnamed write_enable m = refl
      unnamed write_disable m = refl
      unnamed status_read m = refl
      unnamed clear_status m = refl
      unnamed nothing m = refl
      unnamed (page_program c) m = refl
      unnamed (sector_erase a) m = absurd (m a refl)

  -- a page program among them
  pub program_names_none : (c : Chunk) → is_set 10 v ≡ true → command_of sent ≡ page_program c
      → see (record { transfer = opened sent reply; up = false; doubt = q; finished = k }) (Write 0x00 v) ≡ record { transfer = opened sent reply; up = true; doubt = q; finished = k }
  unfolding see seen_write config_written raised register_at
  program_names_none c e n = rw (e, n)

  -- and so does chip select outside a transfer
  pub rise_outside : is_set 10 v ≡ true → see (record { transfer = closed; up = false; doubt = q; finished = k }) (Write 0x00 v) ≡ record { transfer = closed; up = true; doubt = q; finished = k }
  unfolding see seen_write config_written raised register_at
  rise_outside e = rw e

  -- before it rises nothing is
  pub low_keeps : (h : Bool) → is_set 10 v ≡ false
      → see (record { transfer = opened sent reply; up = h; doubt = q; finished = k }) (Write 0x00 v) ≡ record { transfer = opened sent reply; up = false; doubt = q; finished = k }
  unfolding see seen_write config_written raised register_at
  low_keeps true e = rw e
  low_keeps false e = rw e

  pub high_keeps : is_set 10 v ≡ true
      → see (record { transfer = opened sent reply; up = true; doubt = q; finished = k }) (Write 0x00 v) ≡ record { transfer = opened sent reply; up = true; doubt = q; finished = k }
  unfolding see seen_write config_written raised register_at
  high_keeps e = rw e

-- the bytes D8 and an address, high byte first
pub erase_names : (a b c : ℕ) → command_of (0xD8 ∷ a ∷ b ∷ c ∷ []) ≡ sector_erase (a * 65536 + b * 256 + c)
unfolding command_of erase_of
erase_names a b c = refl

-- ---- the claim

-- "at most one"
pub at_most_one : {l q : List ℕ} {n : ℕ} → NextSector l n q → length q ≤ 1
at_most_one no_doubt = omega arith
at_most_one (the_next h) = omega arith

-- and it is the next: the entry at the place that the count names
pub doubt_is_next : {l q : List ℕ} {n a : ℕ} → NextSector l n q → q ≡ a ∷ [] → (a ≡ get_or l n 0) × (n < length l)
doubt_is_next no_doubt e = let z : ◌≡◌ {A = ℕ} 0 1 = ap length e in absurd (omega (arith, z))
doubt_is_next (the_next h) e = (sym (head-eq_of_cons-eq e), h)

module _ (l : List ℕ) (log : List Access) where
  -- no more are counted than there are
  pub counted_few : {n : ℕ} → ShowsSectors l log n → n ≤ length l
  counted_few {n} s =
      let m : length (seen log).finished ≡ min n (length l) = ap length s.finished ∙ length-take n l in
      omega (arith, s.counted, m)

  -- the log has one count
  pub one_count : {n m : ℕ} → ShowsSectors l log n → ShowsSectors l log m → n ≡ m
  one_count s t = s.counted ∙ sym t.counted
