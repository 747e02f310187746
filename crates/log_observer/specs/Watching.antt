-- What a log shows by itself, with numbers for lists: document 01, "The flash, as defined here". specs/Observer of power_cut says it over the
-- bytes themselves, to be read beside that section, and proofs/Shows here shows that the two agree.
use Rattle.std.specs.Prelude.{Option, Some, None, Ok, Err}
use Rattle.std.specs.Prelude.{ℕ, zero, suc, ◌+◌, ◌-◌, ◌*◌, ◌/◌, ◌%◌, ◌^◌, Bool, true, false, cond, not, List, ◌==◌, nat_lt}
use Rattle.zynq7000.specs.Bits.{is_set}
use Rattle.zynq7000.specs.declared.qspi.Access.{Access}
use Rattle.zynq7000.specs.declared.qspi.Access.TheVariants as access
use Rattle.zedboard_bsp.specs.Words.{top_byte}
use Rattle.access_log.specs.Log.{Entry, entry_at}
use Rattle.log_observer.specs.declared.Doubt.{Doubt}
use Rattle.log_observer.specs.declared.Extent.{Extent}
use Rattle.log_observer.specs.declared.Transfer.{Transfer}
use Rattle.log_observer.specs.declared.Watch.{Watch}

-- ---- no chunk, nothing sent, nothing seen

abbrev pub no_doubt : Doubt
no_doubt = record { first = None; chunks = 0; bytes = 0 }

-- before the first RX word is read it shows busy
abbrev pub just_open : Transfer
just_open = record { sent = 0; head = 0; reply = 0x0100_0000 }

-- "At the start of a run bits 10, 14 and 15 are set": chip select is high
abbrev pub fresh : Watch
fresh = record { transfer = None; up = true; doubt = no_doubt; finished = 0; bytes = 0 }

-- ---- bytes sent: "Words are written low byte first" ("One transfer, access by access")

-- the first four bytes as a word, the first lowest, with byte b behind so many
abbrev pub head_with : ℕ → ℕ → ℕ → ℕ
head_with head sent b =
    cond (sent == 0) b
    (cond (sent == 1) ((head + b * 0x100) % 2 ^ 32)
    (cond (sent == 2) ((head + b * 0x1_0000) % 2 ^ 32)
    (cond (sent == 3) ((head + b * 0x100_0000) % 2 ^ 32) head)))

abbrev pub pushed : Transfer → ℕ → Transfer
pushed t b = record { sent = (t.sent + 1) % 2 ^ 32; head = head_with t.head t.sent b; reply = t.reply }

abbrev pub push : Option Transfer → ℕ → Option Transfer
push None b = None
push (Some t) b = Some (pushed t b)

-- "TX data (four bytes) 1C, .. TX data of one, two, three bytes 80, 84, 88" ("Modules of the flash path", 1)
abbrev pub send_one : Option Transfer → ℕ → Option Transfer
send_one t w = push t (w % 0x100)

abbrev pub send_two : Option Transfer → ℕ → Option Transfer
send_two t w = push (send_one t w) (w / 0x100 % 0x100)

abbrev pub send_three : Option Transfer → ℕ → Option Transfer
send_three t w = push (send_two t w) (w / 0x1_0000 % 0x100)

abbrev pub send_four : Option Transfer → ℕ → Option Transfer
send_four t w = push (send_three t w) (w / 0x100_0000 % 0x100)

abbrev pub taken : Transfer → ℕ → Transfer
taken t v = record { sent = t.sent; head = t.head; reply = v }

abbrev pub take_reply : Option Transfer → ℕ → Option Transfer
take_reply None v = None
take_reply (Some t) v = Some (taken t v)

-- ---- what a transfer is

-- "Page program (02)"; "A program command without data changes nothing"
abbrev pub is_program : Transfer → Bool
is_program t = cond (nat_lt 4 t.sent) (t.head % 0x100 == 0x02) false

-- "status read (05)"
abbrev pub is_status_read : Transfer → Bool
is_status_read t = cond (nat_lt 1 t.sent) (t.head % 0x100 == 0x05) false

-- "ended clean in the log (error bit and bit 0 clear)"
abbrev pub is_clean : Option Transfer → Bool
is_clean None = false
is_clean (Some t) = cond (is_status_read t) (cond (is_set 6 (top_byte t.reply)) false (not (is_set 0 (top_byte t.reply)))) false

-- the address behind the command, high byte first
abbrev pub address_in : ℕ → ℕ
address_in head = head / 0x100 % 0x100 * 0x1_0000 + head / 0x1_0000 % 0x100 * 0x100 + head / 0x100_0000 % 0x100

-- ---- chunks in doubt

-- the first of them by its place
abbrev pub placed : Option Extent → Doubt → ℕ → ℕ → Doubt
placed (Some e) d a n = d
placed None d a n = record { first = Some (record { address = a; length = n }); chunks = d.chunks; bytes = d.bytes }

abbrev pub with_one : Doubt → ℕ → Doubt
with_one d n = record { first = d.first; chunks = (d.chunks + 1) % 2 ^ 32; bytes = (d.bytes + n) % 2 ^ 32 }

-- one more, of so many bytes at an address
abbrev pub joined : Doubt → ℕ → ℕ → Doubt
joined d a n = placed d.first (with_one d n) a n

-- the chunk of a page program command; other commands leave those there were
abbrev pub commanded : Option Transfer → Doubt → Doubt
commanded None d = d
commanded (Some t) d = cond (is_program t) (joined d (address_in t.head) (t.sent - 4)) d

-- "it is in doubt from the rising chip select of its page program command"
abbrev pub raised : Bool → Bool → Option Transfer → Doubt → Doubt
raised was is t d = cond was d (cond is (commanded t d) d)

-- ---- what an access adds

abbrev pub with_transfer : Watch → Option Transfer → Watch
with_transfer w t = record { transfer = t; up = w.up; doubt = w.doubt; finished = w.finished; bytes = w.bytes }

-- "finished once its status loop has ended clean in the log .., the closing of the last status transfer included"
abbrev pub finish : Watch → Watch
finish w = record {
  transfer = None;
  up = w.up;
  doubt = no_doubt;
  finished = (w.finished + w.doubt.chunks) % 2 ^ 32;
  bytes = (w.bytes + w.doubt.bytes) % 2 ^ 32;
}

abbrev pub closed : Watch → Watch
closed w = cond (is_clean w.transfer) (finish w) (with_transfer w None)

abbrev pub enabled : Watch → ℕ → Watch
enabled w v = cond (v == 0) (closed w) (with_transfer w (Some just_open))

-- "chip select is low while bit 10 is clear"
abbrev pub configured : Watch → ℕ → Watch
configured w v = record {
  transfer = w.transfer;
  up = is_set 10 v;
  doubt = raised w.up (is_set 10 v) w.transfer w.doubt;
  finished = w.finished;
  bytes = w.bytes;
}

-- by the register's offset: "config 00, .. SPI enable 14, TX data (four bytes) 1C, .. one, two, three bytes 80, 84, 88"
abbrev pub wrote : Watch → ℕ → ℕ → Watch
wrote w o v =
    cond (o == 0x00) (configured w v)
    (cond (o == 0x14) (enabled w v)
    (cond (o == 0x1C) (with_transfer w (send_four w.transfer v))
    (cond (o == 0x80) (with_transfer w (send_one w.transfer v))
    (cond (o == 0x84) (with_transfer w (send_two w.transfer v))
    (cond (o == 0x88) (with_transfer w (send_three w.transfer v)) w)))))

-- "RX data 20"
abbrev pub has_read : Watch → ℕ → ℕ → Watch
has_read w o v = cond (o == 0x20) (with_transfer w (take_reply w.transfer v)) w

abbrev pub watched : Watch → Access → Watch
watched w (access.Read o v) = has_read w o v
watched w (access.Write o v) = wrote w o v

-- ---- a log

abbrev pub onward : Entry → Watch → (Watch → Watch) → Watch
onward (Some (Ok a)) w more = more (watched w a)
onward None w more = w
onward (Some (Err e)) w more = w

-- so many records from a place on, until the log ends or a record is no access
unfoldable pub watch_from : ℕ → List ℕ → ℕ → Watch → Watch
watch_from zero log at w = w
watch_from (suc n) log at w = onward (entry_at log at) w (λ (next : Watch). watch_from n log (suc at) next)

unfoldable pub watch_of : List ℕ → ℕ → Watch
unfolding watch_from
watch_of log n = watch_from n log 0 fresh
