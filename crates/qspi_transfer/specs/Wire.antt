-- One transfer by its counters: what comes after each access. Document 01, "One transfer, access by access". specs/Machine of
-- qspi_operation says it over lists of actions, to be read beside that section, and proofs/Phases of qspi_calls shows that the two agree.
use Rattle.std.specs.Prelude.{ℕ, ◌+◌, ◌%◌, ◌^◌, Bool, true, false, nat_lt, Option, Some, None}
use Rattle.zynq7000.specs.Bits.{is_set}
use Rattle.zynq7000.specs.Qspi.{rx_above_threshold}
use Rattle.qspi_transfer.specs.declared.Phase.{Phase}
use Rattle.qspi_transfer.specs.declared.Phase.TheVariants.{DrainStatus, DrainData, OpenRead, OpenWrite, Enable, Send, StartRead, StartWrite, Wait, WaitAgain, Take, CloseRead, CloseWrite, Disable, Registers}
use Rattle.qspi_transfer.specs.declared.Frame.{Frame}
use Rattle.qspi_transfer.specs.declared.Wire.{Wire}

abbrev pub choose : Bool → Phase → Phase → Phase
choose true a b = a
choose false a b = b

-- "bit 4 of a status read is set"
abbrev pub waits : ℕ → Bool
waits w = is_set rx_above_threshold w

abbrev pub fresh_wire : Phase → Wire
fresh_wire p = record { phase = p; config = 0; sent = 0; read_index = 0; older = 0; old = 0; last = 0 }

abbrev pub at_phase : Wire → Phase → Wire
at_phase w p = record { phase = p; config = w.config; sent = w.sent; read_index = w.read_index; older = w.older; old = w.old; last = w.last }

abbrev pub config_read : Wire → Phase → ℕ → Wire
config_read w p v = record { phase = p; config = v; sent = w.sent; read_index = w.read_index; older = w.older; old = w.old; last = w.last }

abbrev pub another_sent : Wire → Wire
another_sent w = record { phase = Send; config = w.config; sent = w.sent + 1; read_index = w.read_index; older = w.older; old = w.old; last = w.last }

abbrev pub pick_wire : Bool → Wire → Wire → Wire
pick_wire true a b = a
pick_wire false a b = b

-- a word was written: the next one, or the start
abbrev pub word_sent : Wire → Frame → Wire
word_sent w f = pick_wire (nat_lt w.sent f.words) (another_sent w) (at_phase w StartRead)

-- "Replies are counted in bytes, each adding 4 by a wrapping add"
abbrev pub four_more : ℕ → ℕ
four_more n = (n + 4) % 2 ^ 32

-- a reply was taken: the next one, or the closing
abbrev pub reply_taken : Wire → Frame → ℕ → Wire
reply_taken w f v = record {
  phase = choose (nat_lt (four_more w.read_index) f.bytes) Wait CloseRead;
  config = w.config;
  sent = w.sent;
  read_index = four_more w.read_index;
  older = w.old;
  old = w.last;
  last = v;
}

abbrev pub another_register : Wire → ℕ → Wire
another_register w v = record { phase = Registers; config = v; sent = w.sent + 1; read_index = w.read_index; older = w.older; old = w.old; last = w.last }

abbrev pub pick_moved : Bool → Option Wire → Option Wire → Option Wire
pick_moved true a b = a
pick_moved false a b = b

-- a register was accessed: the next one, or the end: nothing comes after it
abbrev pub register_done : Wire → Frame → ℕ → Option Wire
register_done w f v = pick_moved (nat_lt w.sent f.words) (Some (another_register w v)) None

abbrev pub next_at : Phase → Wire → Frame → ℕ → Option Wire
next_at DrainStatus w f v = Some (at_phase w (choose (waits v) DrainData OpenRead))
next_at DrainData w f v = Some (at_phase w DrainStatus)
next_at OpenRead w f v = Some (config_read w OpenWrite v)
next_at OpenWrite w f v = Some (at_phase w Enable)
next_at Enable w f v = Some (at_phase w Send)
next_at Send w f v = Some (word_sent w f)
next_at StartRead w f v = Some (config_read w StartWrite v)
next_at StartWrite w f v = Some (at_phase w (choose (nat_lt w.read_index f.bytes) Wait CloseRead))
next_at Wait w f v = Some (at_phase w (choose (waits v) (choose f.twice WaitAgain Take) Wait))
next_at WaitAgain w f v = Some (at_phase w (choose (waits v) Take Wait))
next_at Take w f v = Some (reply_taken w f v)
next_at CloseRead w f v = Some (config_read w CloseWrite v)
next_at CloseWrite w f v = Some (at_phase w Disable)
next_at Disable w f v = None
next_at Registers w f v = register_done w f v

-- the transfer after an access whose value is v
abbrev pub wire_next : Wire → Frame → ℕ → Option Wire
wire_next w f v = next_at w.phase w f v
