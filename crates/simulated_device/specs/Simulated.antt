-- The simulated device: one of those that specs/Controller of power_cut allows (proofs/Instance). Quotations are from document 01, "The flash,
-- as defined here".
use Rattle.std.specs.Prelude.{ℕ, zero, suc, ◌+◌, ◌-◌, ◌*◌, ◌/◌, ◌%◌, Bool, true, false, cond, List, Option, Some, None, Result, Ok, Err, eqb, ltb, leb, length, get_or, set, take}
use Rattle.std.specs.Int.Bits.{bit_and}
use Rattle.std.proofs.lemmas.List.Edits.{sets}
use Rattle.zynq7000.specs.Bits.{is_set, clear}
use Rattle.zedboard_bsp.specs.Limits.{page_size, sector_size}
use Rattle.zedboard_bsp.specs.Words.{bytes_of}
use Rattle.power_cut.specs.Controller.{high}
use Rattle.simulated_device.specs.Replies.{address_in, reply_of}
use Rattle.simulated_device.specs.declared.Choices.{Choices}
use Rattle.simulated_device.specs.declared.Chip.{Chip}
use Rattle.simulated_device.specs.declared.Device.{Device}
use Rattle.simulated_device.specs.declared.Given.{Given}
use Rattle.simulated_device.specs.declared.Rx.{Rx}
use Rattle.simulated_device.specs.declared.Tx.{Tx}
use Rattle.simulated_device.specs.declared.Refused.{Refused}
use Rattle.simulated_device.specs.declared.work.Effect.{Effect}
use Rattle.simulated_device.specs.declared.work.Effect.TheVariants.{Erase, Program}
use Rattle.simulated_device.specs.declared.work.Work.{Work}

-- the device with the memory that it is lent
pub record Sim : Type 0 where
  pub device : Device
  pub sent : List ℕ
  pub received : List ℕ
  pub array : List ℕ

abbrev pub sim_of : Device → List ℕ → List ℕ → List ℕ → Sim
sim_of d sent received array = record { device = d; sent = sent; received = received; array = array }

-- ---- parts

abbrev pub no_words : Tx
no_words = record { bytes = 0; written = 0; released = 0; out = 0; pause = 0 }

abbrev pub nothing_received : Rx
nothing_received = record { put = 0; taken = 0 }

-- "At the start of a run bits 10, 14 and 15 are set, and no TX word waits or is going out"
abbrev pub at_rest : Choices → Device
at_rest ch = record { config = 0x8008_C4C1; tx = no_words; rx = nothing_received; chip = record { latch = false; busy = 0 }; choices = ch }

abbrev pub with_tx : Device → Tx → Device
with_tx d t = record { config = d.config; tx = t; rx = d.rx; chip = d.chip; choices = d.choices }

abbrev pub with_rx : Device → Rx → Device
with_rx d r = record { config = d.config; tx = d.tx; rx = r; chip = d.chip; choices = d.choices }

-- "Config reads as last written with bit 16 zero"
abbrev pub with_config : Device → ℕ → Tx → Chip → Device
with_config d c t k = record { config = clear 16 c; tx = t; rx = d.rx; chip = k; choices = d.choices }

-- ---- words go out

-- "the device picks the finite number of reads that show it"
abbrev pub shown : Chip → ℕ → Chip
shown c command = cond (eqb command 0x05) (cond (ltb 0 c.busy) (record { latch = c.latch; busy = c.busy - 1 }) c) c

-- a word is released and not out, and there is room for its reply
abbrev pub can_go : Tx → Rx → ℕ → Bool
can_go t r room = cond (ltb t.out t.released) (ltb r.put room) false

abbrev pub one_out : Tx → ℕ → Tx
one_out t gap = record { bytes = t.bytes; written = t.written; released = t.released; out = t.out + 1; pause = gap }

-- "the controller returns one RX word for each TX word, as soon as that is out and not later"
abbrev pub word_out : Sim → Sim
word_out s = record {
  device = record {
    config = s.device.config;
    tx = one_out s.device.tx s.device.choices.gap;
    rx = record { put = s.device.rx.put + 1; taken = s.device.rx.taken };
    chip = shown s.device.chip (get_or s.sent 0 0);
    choices = s.device.choices;
  };
  sent = s.sent;
  received = set s.received s.device.rx.put (reply_of s.device.chip s.device.choices.base s.sent s.array s.device.tx.out);
  array = s.array;
}

abbrev pub waited : Tx → Tx
waited t = record { bytes = t.bytes; written = t.written; released = t.released; out = t.out; pause = cond (ltb 0 t.pause) (t.pause - 1) 0 }

abbrev pub can_go_now : Sim → Bool
can_go_now s = can_go s.device.tx s.device.rx (length s.received)

-- between two accesses a word goes out, where it is time: "between accesses of the controller's choice"
abbrev pub passed : Sim → Sim
passed s =
    cond (eqb s.device.tx.pause 0)
    (cond (can_go_now s) (word_out s) (sim_of (with_tx s.device (waited s.device.tx)) s.sent s.received s.array))
    (sim_of (with_tx s.device (waited s.device.tx)) s.sent s.received s.array)

-- ---- reads

abbrev pub after_take : Rx → Rx
after_take r = cond (ltb (r.taken + 1) r.put) (record { put = r.put; taken = r.taken + 1 }) nothing_received

abbrev pub given : Device → ℕ → Given
given d v = record { device = d; value = v }

-- "it stays until read"
abbrev pub taken_from : Device → List ℕ → Given
taken_from d received =
    cond (ltb d.rx.taken d.rx.put)
    (cond (ltb d.rx.taken (length received)) (given (with_rx d (after_take d.rx)) (get_or received d.rx.taken 0)) (given d 0))
    (given d 0)

-- "status bit 4 says that one waits"
abbrev pub interrupt_status : Rx → ℕ
interrupt_status r = cond (ltb r.taken r.put) 0x10 0

-- config 00, interrupt status 04, RX data 20
abbrev pub answered : Device → ℕ → List ℕ → Given
answered d o received =
    cond (eqb o 0x00) (given d d.config)
    (cond (eqb o 0x04) (given d (interrupt_status d.rx))
    (cond (eqb o 0x20) (taken_from d received) (given d 0)))

abbrev pub read_of : Sim → ℕ → Given
read_of s o = answered (passed s).device o (passed s).received

-- ---- writes

-- the device after a write, and whether it cannot do this: then the access is not made
pub record Written : Type 0 where
  pub device : Device
  pub refused : Bool

-- as the code hands it on
abbrev pub outcome : Written → Result Device Refused
outcome w = cond w.refused (Err (record { device = w.device })) (Ok w.device)

abbrev pub accepted : Device → Written
accepted d = record { device = d; refused = false }

abbrev pub refusal : Device → Written
refusal d = record { device = d; refused = true }

-- the device after a write, or at a refusal, with its memory
pub record After : Type 0 where
  pub written : Written
  pub sent : List ℕ
  pub received : List ℕ
  pub array : List ℕ

abbrev pub after_of : Written → Sim → After
after_of w s = record { written = w; sent = s.sent; received = s.received; array = s.array }

-- "TX data (four bytes) 1C, .. TX data of one, two, three bytes 80, 84, 88" ("Modules of the flash path", 1)
abbrev pub width_at : ℕ → ℕ
width_at o = cond (eqb o 0x1C) 4 (cond (eqb o 0x80) 1 (cond (eqb o 0x84) 2 (cond (eqb o 0x88) 3 0)))

pub record Sent : Type 0 where
  pub written : Written
  pub sent : List ℕ

abbrev pub not_sent : Device → List ℕ → Sent
not_sent d sent = record { written = refusal d; sent = sent }

abbrev pub one_more : Tx → ℕ → Tx
one_more t width = record { bytes = t.bytes + width; written = t.written + 1; released = t.released; out = t.out; pause = t.pause }

abbrev pub is_sent : Device → ℕ → ℕ → List ℕ → Sent
is_sent d o v sent = record { written = accepted (with_tx d (one_more d.tx (width_at o))); sent = sets sent d.tx.bytes (take (width_at o) (bytes_of v)) }

-- "Words are written low byte first"; refused while chip select is high, and without room for four bytes
abbrev pub sending : Device → ℕ → ℕ → List ℕ → Sent
sending d o v sent =
    cond (high d.config) (not_sent d sent)
    (cond (ltb (length sent) 4) (not_sent d sent)
    (cond (ltb (length sent - 4) d.tx.bytes) (not_sent d sent)
    (cond (ltb d.tx.bytes d.tx.written) (not_sent d sent) (is_sent d o v sent))))

-- "A word goes out after start": start is bit 16
abbrev pub started : Tx → ℕ → Tx
started t v = cond (is_set 16 v) (record { bytes = t.bytes; written = t.written; released = t.written; out = t.out; pause = t.pause }) t

-- ---- work

-- a program stays in its page, as in specs/Flash of power_cut
abbrev pub programming : ℕ → Work
programming a = record { target = a / page_size * page_size; size = page_size; effect = Program (a % page_size) }

abbrev pub erasing : ℕ → Work
erasing a = record { target = a / sector_size * sector_size; size = sector_size; effect = Erase }

-- "Page program (02) and sector erase (D8) need the latch"; "A program command without data changes nothing"; "While busy only status read
-- (05) and clear status (30) are obeyed"
abbrev pub asked_for : Chip → ℕ → List ℕ → Option Work
asked_for c bytes sent =
    cond (eqb c.busy 0)
    (cond c.latch
    (cond (eqb (get_or sent 0 0) 0x02) (cond (ltb 4 bytes) (Some (programming (address_in sent))) None)
    (cond (eqb (get_or sent 0 0) 0xD8) (cond (ltb 3 bytes) (Some (erasing (address_in sent))) None) None))
    None)
    None

-- all of it in the part of the array that is lent
abbrev pub within : Work → ℕ → ℕ → Bool
within w base room = cond (ltb w.target base) false (cond (ltb room w.size) false (leb (w.target - base) (room - w.size)))

-- where among the bytes sent the one for byte i of a page stands, behind command and address: a program that reaches the end of its page goes on at the page's beginning
abbrev pub sent_for : ℕ → ℕ → ℕ
sent_for begun i = (i % page_size + page_size - begun % page_size) % page_size + 4

-- "each programmed byte is old AND new, each byte of an erased 64 KiB sector is FF": byte i of the target
abbrev pub done_byte : Effect → ℕ → ℕ → ℕ → List ℕ → ℕ
done_byte Erase old i bytes sent = 0xFF
done_byte (Program begun) old i bytes sent =
    cond (ltb (sent_for begun i) bytes) (bit_and old (get_or sent (sent_for begun i) 0)) old

-- n bytes of the target from its byte i on; it lies at a place of the lent part
unfoldable pub done_from : ℕ → ℕ → Effect → ℕ → ℕ → List ℕ → List ℕ → List ℕ
done_from zero i e at bytes sent array = array
done_from (suc n) i e at bytes sent array =
    done_from n (suc i) e at bytes sent (set array (at + i) (done_byte e (get_or array (at + i) 0) i bytes sent))

-- "Write enable (06) sets the latch, write disable (04) clears it"
abbrev pub latched : Chip → ℕ → List ℕ → Chip
latched c bytes sent =
    cond (eqb c.busy 0)
    (cond (ltb 0 bytes)
    (cond (eqb (get_or sent 0 0) 0x06) (record { latch = true; busy = 0 }) (cond (eqb (get_or sent 0 0) 0x04) (record { latch = false; busy = 0 }) c))
    c)
    c

pub record Executed : Type 0 where
  pub written : Written
  pub array : List ℕ

-- the array stays as it is
abbrev pub keeping : List ℕ → Written → Executed
keeping array w = record { written = w; array = array }

abbrev pub works : Device → ℕ → Work → List ℕ → List ℕ → Executed
works d v w sent array =
    cond (within w d.choices.base (length array))
    (record {
      written = accepted (with_config d v no_words (record { latch = false; busy = d.choices.busy_reads }));
      array = done_from w.size 0 w.effect (w.target - d.choices.base) d.tx.bytes sent array;
    })
    (keeping array (refusal d))

-- the work that is asked for, if any
abbrev pub worked_on : Device → ℕ → Option Work → List ℕ → List ℕ → Executed
worked_on d v (Some w) sent array = works d v w sent array
worked_on d v None sent array = keeping array (accepted (with_config d v no_words (latched d.chip d.tx.bytes sent)))

-- "A command takes effect when chip select rises"; work outside of the lent part is refused
abbrev pub executed : Device → ℕ → List ℕ → List ℕ → Executed
executed d v sent array = worked_on d v (asked_for d.chip d.tx.bytes sent) sent array

-- chip select rises; over a word that is not out it is refused
abbrev pub raised : Device → ℕ → List ℕ → List ℕ → Executed
raised d v sent array = cond (eqb d.tx.out d.tx.written) (executed d v sent array) (keeping array (refusal d))

-- "chip select is low while bit 10 is clear"
abbrev pub configured : Device → ℕ → List ℕ → List ℕ → Executed
configured d v sent array =
    cond (high d.config) (keeping array (accepted (with_config d v d.tx d.chip)))
    (cond (high v) (raised d v sent array) (keeping array (accepted (with_config d v (started d.tx v) d.chip))))

abbrev pub after_executed : Executed → Sim → After
after_executed e s = record { written = e.written; sent = s.sent; received = s.received; array = e.array }

abbrev pub after_sent : Sent → Sim → After
after_sent x s = record { written = x.written; sent = x.sent; received = s.received; array = s.array }

abbrev pub wrote : Sim → ℕ → ℕ → After
wrote s o v =
    cond (eqb o 0x00) (after_executed (configured s.device v s.sent s.array) s) (cond (eqb (width_at o) 0) (after_of (accepted s.device) s) (after_sent (sending s.device o v s.sent) s))

abbrev pub write_of : Sim → ℕ → ℕ → After
write_of s o v = wrote (passed s) o v
