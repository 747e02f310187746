-- A call of the driver against the simulated device: each step is lent what the device gives. The log is the driver's own.
use Rattle.std.specs.Prelude.{ℕ, zero, suc, ◌-◌, Bool, true, false, cond, List, Option, Some, None, Result, Ok, Err, ltb, length}
use Rattle.qspi_script.specs.declared.Status.{Status}
use Rattle.qspi_operation.specs.declared.Op.{Op}
use Rattle.qspi_transfer.specs.declared.Due.TheVariants.{Read, Write}
use Rattle.qspi_operation.specs.Step.{Asked, is_going, due_of, step_of, log_of, buffer_of, same_lengths}
use Rattle.simulated_device.specs.Simulated.{Sim, sim_of, passed, read_of, After, write_of}
use Rattle.simulated_device.specs.declared.Device.{Device}
use Rattle.simulated_device.specs.declared.Refused.{Refused}
use Rattle.simulated_device.specs.declared.run.Met.{Met}
use Rattle.simulated_device.specs.declared.run.Ran.{Ran}

-- the memory that is lent to the driver, and the device with its own
pub record Turn : Type 0 where
  pub ran : Ran
  pub buffer : List ℕ
  pub log : List ℕ
  pub sent : List ℕ
  pub received : List ℕ
  pub array : List ℕ

-- without an answer where the device could not go on
abbrev pub ran_of : Op → Option Status → Device → Ran
ran_of o a d = record { op = o; answer = a; device = d }

abbrev pub turn_at : Ran → List ℕ → List ℕ → Sim → Turn
turn_at r buffer log s = record { ran = r; buffer = buffer; log = log; sent = s.sent; received = s.received; array = s.array }

abbrev pub sim_in : Turn → Sim
sim_in t = sim_of t.ran.device t.sent t.received t.array

-- the driver steps, while the device stands so
abbrev pub stepped : Op → List ℕ → List ℕ → List ℕ → Option ℕ → Sim → Turn
stepped o bytes buffer log r s =
    turn_at
    (ran_of (step_of o bytes (length buffer) (length log) r).op (Some (step_of o bytes (length buffer) (length log) r).answer) s.device)
    (buffer_of o bytes buffer (length log) r)
    (log_of o bytes (length buffer) log r)
    s

abbrev pub after_read : Sim → ℕ → Sim
after_read s o = sim_of (read_of s o).device s.sent (passed s).received s.array

abbrev pub after_write : After → Sim
after_write x = sim_of x.written.device x.sent x.received x.array

-- what the device has for the access that is due
pub record Meeting : Type 0 where
  pub reply : Option ℕ
  pub sim : Sim
  pub refused : Bool

-- as the code hands it on
abbrev pub met_of : Meeting → Result Met Refused
met_of m = cond m.refused (Err (record { device = m.sim.device })) (Ok (record { device = m.sim.device; reply = m.reply }))

abbrev pub nothing_for : Sim → Meeting
nothing_for s = record { reply = None; sim = s; refused = false }

-- a read gets a reply where one is left, and a write that the device refuses is not made
abbrev pub met_on : Asked → Bool → Sim → Meeting
met_on (Ok (Some (Read o))) true s = record { reply = Some (read_of s o).value; sim = after_read s o; refused = false }
met_on (Ok (Some (Read o))) false s = nothing_for s
met_on (Ok (Some (Write o v))) left s = record { reply = None; sim = after_write (write_of s o v); refused = (write_of s o v).written.refused }
met_on (Ok None) left s = nothing_for s
met_on (Err changed) left s = nothing_for s

-- where another length is lent than at the start the step is 25, and without room 24: the device sees nothing of it
abbrev pub due_in : Op → List ℕ → ℕ → ℕ → Asked
due_in o bytes buffer room =
    cond (same_lengths o.job (length bytes) buffer room) (cond (ltb (room - o.used) 2) (Ok None) (due_of o bytes)) (Ok None)

abbrev pub after_meeting : Meeting → Op → List ℕ → List ℕ → List ℕ → Turn
after_meeting m o bytes buffer log =
    cond m.refused (turn_at (ran_of o None m.sim.device) buffer log m.sim) (stepped o bytes buffer log m.reply m.sim)

-- one step; at most so many reads get a reply
abbrev pub turn_of : ℕ → List ℕ → Turn → Turn
turn_of replies bytes t =
    after_meeting (met_on (due_in t.ran.op bytes (length t.buffer) (length t.log)) (ltb t.ran.op.replies replies) (sim_in t)) t.ran.op bytes t.buffer t.log

abbrev pub going_on : Option Status → Bool
going_on None = false
going_on (Some a) = is_going a

abbrev pub goes_on : Ran → Bool
goes_on r = going_on r.answer

-- to the end, or until the power fails after n accesses: a step makes one, or is the last
unfoldable pub turns : ℕ → ℕ → List ℕ → Turn → Turn
turns zero replies bytes t = t
turns (suc n) replies bytes t = cond (goes_on t.ran) (turns n replies bytes (turn_of replies bytes t)) t

abbrev pub beginning : Op → Device → List ℕ → List ℕ → List ℕ → List ℕ → List ℕ → Turn
beginning o d buffer log sent received array =
    record { ran = ran_of o (Some o.status) d; buffer = buffer; log = log; sent = sent; received = received; array = array }
