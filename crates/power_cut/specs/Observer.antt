-- What a log shows by itself: document 01, "The flash, as defined here": "A chunk .. is finished once its status loop has ended clean in the
-- log (error bit and bit 0 clear), the closing of the last status transfer included; it is in doubt from the rising chip select of its page
-- program command until then."
use Rattle.std.specs.Prelude.{ℕ, zero, suc, Bool, true, false, not, ◌&&◌, List, [], ◌∷◌, ◌++◌}
use Rattle.zynq7000.specs.declared.qspi.Access.{Access}
use Rattle.zynq7000.specs.declared.qspi.Access.TheVariants as access
use Rattle.qspi_calls.specs.Chunks.{Chunk}
use Rattle.power_cut.specs.Flash.{Command, write_enable, write_disable, status_read, clear_status, nothing, page_program, sector_erase, command_of}
use Rattle.power_cut.specs.Controller.{Register, config, status, enable, rx, other, tx, register_at, bytes_out, high, shows_busy, shows_program_error, is_status_read}

-- A transfer is what lies between a write of 1 and a write of 0 to SPI enable: the bytes written to TX, and the RX word read last.
pub data Transfer : Type 0 where
  closed : Transfer
  opened : List ℕ → ℕ → Transfer

-- before the first is read it shows busy: no status counts as clean that nobody read
abbrev pub unread : ℕ
unread = 0x01000000

-- the transfer at hand; whether chip select is high; the chunks in doubt and the chunks finished, each in the order sent
pub record Observed : Type 0 where
  pub transfer : Transfer
  pub up : Bool
  pub doubt : List Chunk
  pub finished : List Chunk

-- before the first access: chip select is high
abbrev pub fresh : Observed
fresh = record { transfer = closed; up = true; doubt = []; finished = [] }

-- ---- TX and RX

abbrev pub sends : List ℕ → Transfer → Transfer
sends bs closed = closed
sends bs (opened sent reply) = opened (sent ++ bs) reply

abbrev pub takes : ℕ → Transfer → Transfer
takes v closed = closed
takes v (opened sent reply) = opened sent v

abbrev pub with_transfer : Transfer → Observed → Observed
with_transfer t o = record { transfer = t; up = o.up; doubt = o.doubt; finished = o.finished }

-- ---- config: "it is in doubt from the rising chip select of its page program command"

-- the chunks in doubt after a command
abbrev pub named : Command → List Chunk → List Chunk
named write_enable q = q
named write_disable q = q
named status_read q = q
named clear_status q = q
named nothing q = q
named (page_program c) q = q ++ c ∷ []
named (sector_erase a) q = q

abbrev pub commanded : Transfer → List Chunk → List Chunk
commanded closed q = q
commanded (opened sent reply) q = named (command_of sent) q

-- chip select was and is high or low
unfoldable pub raised : Bool → Bool → Transfer → List Chunk → List Chunk
unfolding command_of
raised true h t q = q
raised false false t q = q
raised false true t q = commanded t q

unfoldable pub config_written : ℕ → Observed → Observed
unfolding raised
config_written v o = record { transfer = o.transfer; up = high v; doubt = raised o.up (high v) o.transfer o.doubt; finished = o.finished }

-- ---- SPI enable: "finished once its status loop has ended clean in the log .., the closing of the last status transfer included"

-- a status transfer with "error bit and bit 0 clear"
unfoldable pub is_clean : Transfer → Bool
is_clean closed = false
is_clean (opened sent reply) = is_status_read sent && (not (shows_program_error reply) && not (shows_busy reply))

-- a transfer closes: after a clean status what was in doubt is finished
unfoldable pub closing : Bool → Observed → Observed
closing true o = record { transfer = closed; up = o.up; doubt = []; finished = o.finished ++ o.doubt }
closing false o = with_transfer closed o

unfoldable pub enable_written : ℕ → Observed → Observed
unfolding closing is_clean
enable_written zero o = closing (is_clean o.transfer) o
enable_written (suc v) o = with_transfer (opened [] unread) o

-- ---- an access

unfoldable pub seen_write : Register → ℕ → Observed → Observed
unfolding config_written enable_written bytes_out
seen_write config v o = config_written v o
seen_write enable v o = enable_written v o
seen_write (tx width) v o = with_transfer (sends (bytes_out width v) o.transfer) o
seen_write status v o = o
seen_write rx v o = o
seen_write other v o = o

unfoldable pub seen_read : Register → ℕ → Observed → Observed
seen_read rx v o = with_transfer (takes v o.transfer) o
seen_read config v o = o
seen_read status v o = o
seen_read enable v o = o
seen_read (tx width) v o = o
seen_read other v o = o

unfoldable pub see : Observed → Access → Observed
unfolding seen_read seen_write register_at
see o (access.Read off v) = seen_read (register_at off) v o
see o (access.Write off v) = seen_write (register_at off) v o

unfoldable pub sees : Observed → List Access → Observed
unfolding see
sees o [] = o
sees o (a ∷ l) = sees (see o a) l

-- what a log shows
unfoldable pub observed : List Access → Observed
unfolding sees
observed l = sees fresh l
