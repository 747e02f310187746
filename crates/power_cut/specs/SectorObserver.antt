-- What a log shows by itself of erasing: document 02, U1: "The answer counts sectors finished, one being so once its status loop has ended clean in the log, the closing of the last status
-- transfer included." It is in doubt as document 01 has it of a chunk ("The flash, as defined here"): from the rising chip select of its erase command until then.
use Rattle.std.specs.Prelude.{ℕ, zero, suc, Bool, true, false, not, ◌&&◌, List, [], ◌∷◌, ◌++◌}
use Rattle.zynq7000.specs.declared.qspi.Access.{Access}
use Rattle.zynq7000.specs.declared.qspi.Access.TheVariants as access
use Rattle.power_cut.specs.Flash.{Command, write_enable, write_disable, status_read, clear_status, nothing, page_program, sector_erase, command_of}
use Rattle.power_cut.specs.Controller.{Register, config, status, enable, rx, other, tx, register_at, bytes_out, high, shows_busy, shows_erase_error, is_status_read}
use Rattle.power_cut.specs.Observer.{Transfer, closed, opened, unread, sends, takes}

-- the transfer at hand; whether chip select is high; the sectors in doubt and the sectors finished, by the addresses sent, each in the order sent
pub record SectorsSeen : Type 0 where
  pub transfer : Transfer
  pub up : Bool
  pub doubt : List ℕ
  pub finished : List ℕ

-- before the first access: chip select is high
abbrev pub fresh : SectorsSeen
fresh = record { transfer = closed; up = true; doubt = []; finished = [] }

abbrev pub with_transfer : Transfer → SectorsSeen → SectorsSeen
with_transfer t o = record { transfer = t; up = o.up; doubt = o.doubt; finished = o.finished }

-- ---- config: a sector is in doubt from the rising chip select of its command, "sector erase (D8)"

-- the sectors in doubt after a command
abbrev pub named : Command → List ℕ → List ℕ
named write_enable q = q
named write_disable q = q
named status_read q = q
named clear_status q = q
named nothing q = q
named (page_program c) q = q
named (sector_erase a) q = q ++ a ∷ []

abbrev pub commanded : Transfer → List ℕ → List ℕ
commanded closed q = q
commanded (opened sent reply) q = named (command_of sent) q

-- chip select was and is high or low
unfoldable pub raised : Bool → Bool → Transfer → List ℕ → List ℕ
unfolding command_of
raised true h t q = q
raised false false t q = q
raised false true t q = commanded t q

unfoldable pub config_written : ℕ → SectorsSeen → SectorsSeen
unfolding raised
config_written v o = record { transfer = o.transfer; up = high v; doubt = raised o.up (high v) o.transfer o.doubt; finished = o.finished }

-- ---- SPI enable: "once its status loop has ended clean in the log, the closing of the last status transfer included"

-- a status transfer with "error bit and bit 0 clear", where "the error bit (6 for program, 5 for erase)" is that of erase
unfoldable pub is_clean : Transfer → Bool
is_clean closed = false
is_clean (opened sent reply) = is_status_read sent && (not (shows_erase_error reply) && not (shows_busy reply))

-- a transfer closes: after a clean status what was in doubt is finished
unfoldable pub closing : Bool → SectorsSeen → SectorsSeen
closing true o = record { transfer = closed; up = o.up; doubt = []; finished = o.finished ++ o.doubt }
closing false o = with_transfer closed o

unfoldable pub enable_written : ℕ → SectorsSeen → SectorsSeen
unfolding closing is_clean
enable_written zero o = closing (is_clean o.transfer) o
enable_written (suc v) o = with_transfer (opened [] unread) o

-- ---- an access

unfoldable pub seen_write : Register → ℕ → SectorsSeen → SectorsSeen
unfolding config_written enable_written bytes_out
seen_write config v o = config_written v o
seen_write enable v o = enable_written v o
seen_write (tx width) v o = with_transfer (sends (bytes_out width v) o.transfer) o
seen_write status v o = o
seen_write rx v o = o
seen_write other v o = o

unfoldable pub seen_read : Register → ℕ → SectorsSeen → SectorsSeen
seen_read rx v o = with_transfer (takes v o.transfer) o
seen_read config v o = o
seen_read status v o = o
seen_read enable v o = o
seen_read (tx width) v o = o
seen_read other v o = o

unfoldable pub see : SectorsSeen → Access → SectorsSeen
unfolding seen_read seen_write register_at
see o (access.Read off v) = seen_read (register_at off) v o
see o (access.Write off v) = seen_write (register_at off) v o

unfoldable pub sees : SectorsSeen → List Access → SectorsSeen
unfolding see
sees o [] = o
sees o (a ∷ l) = sees (see o a) l

-- what a log shows
unfoldable pub seen : List Access → SectorsSeen
unfolding sees
seen l = sees fresh l
