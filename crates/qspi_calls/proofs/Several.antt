-- The calls of several transfers, each tied to its script stage by stage. Assumes nothing.
use mathlib.Core.Path.{◌≡◌, refl, ap, ◌∙◌, sym}
use mathlib.Core.Bool.{Bool, true, false, cond, not, ◌&&◌, ◌||◌}
use mathlib.Core.List.{List, [], ◌∷◌, reverse}
use Prim.Native.Nat.{ℕ, zero, suc, ◌+◌, ◌-◌, ◌%◌, ◌^◌, ◌≤◌, ◌<◌}
use native.Mathlib.Omega.{arith}
use lib.Dec.{ltb, eqb}
use lib.ListN.{length, get_or}
use borrow.Author.Tests.{ltb-false, eqb-true, ne_eqb}
use Rattle.zynq7000.specs.Bits.{is_set}
use Rattle.zedboard_bsp.specs.Registers.{protected, configured_cr, configured_sr, update_needed}
use Rattle.zedboard_bsp.specs.Words.{top_byte}
use Rattle.qspi_transfer.specs.declared.Phase.TheVariants as phase
use Rattle.qspi_transfer.specs.declared.Wire.{Wire}
use Rattle.qspi_transfer.specs.Wire.{fresh_wire, pick_wire}
use Rattle.qspi_script.specs.Stages.{frame_at, frame_of, due_word}
use Rattle.qspi_script.specs.Turns.{status_of, begin, finish, pick, settled, failed, turn_at, turn_of}
use Rattle.qspi_script.specs.declared.Stage.{Stage}
use Rattle.qspi_script.specs.declared.Stage.TheVariants as stage
use Rattle.qspi_script.specs.declared.Status.{Status}
use Rattle.qspi_script.specs.declared.Status.TheVariants.{Going, Done, OutOfRange, Alignment, DataTooLarge, NotAligned, CrossesPageBoundary, FieldTooWide, EraseErrorBitSet, ProgrammingErrorBitSet}
use Rattle.qspi_script.specs.declared.Sequel.{Sequel}
use Rattle.qspi_script.specs.declared.Sequel.TheVariants.{Once}
use Rattle.qspi_script.specs.declared.Job.{Job}
use Rattle.qspi_script.specs.declared.Place.{Place}
use Rattle.qspi_script.specs.declared.Turned.{Turned}
use Rattle.qspi_operation.specs.declared.Op.{Op}
use Rattle.qspi_operation.specs.Store.{is_reading}
use Rattle.qspi_operation.specs.Step.{is_going, counted_at}
use Rattle.qspi_operation.specs.Machine.{Transfer, Script, ends, exchange, onward}
use Rattle.qspi_calls.specs.Calls as call
use Rattle.qspi_calls.specs.Calls.{enabling, disabling, clearing, status_reading, config_reading, status_writing, registers_writing, top, done, refused}
use Rattle.qspi_calls.specs.Starts as start
use Rattle.qspi_calls.specs.declared.start.Config.{Config}
use Rattle.std.specs.Prelude.{Option, Some, None, is_some, unwrap_or}
use Rattle.qspi_calls.proofs.Phases.{wire, words, Same, p_drain}
use Rattle.qspi_calls.proofs.Scripted.{Turns, on, again, over, Scripted, Rel, rel_on, script_tie, turned, rel_bytes}
use Rattle.qspi_calls.proofs.Short.{of_one, same_short, word_short, ended_at_start}
use Rattle.qspi_calls.proofs.Tied.{Starts}
use Rattle.qspi_calls.proofs.ProgramWords.{length_words, data_word_lem, all_prefilled}

-- ---- starting

abbrev pub Stages : Type 1
Stages = Place → Transfer → (List ℕ → Script) → Type 0

-- a call that begins with a transfer of its script
begins : (job : Job) (bytes log : List ℕ) (At : Stages) → Scripted job bytes [] At → (p : Place) (x : Transfer) (k : List ℕ → Script) → At p x k
    → 0 ≡ counted_at job p → length bytes ≡ job.lent.«data» → length log ≡ job.lent.log → 0 ≡ job.lent.buffer → Starts (start.going job p) bytes log [] (exchange x k)
begins job bytes log At s p x k q n d l b = record {
  job = job;
  place = p;
  wire = _;
  status = Going;
  is = refl;
  Rel = Rel job bytes [] At;
  tie = script_tie job bytes [] At s;
  rel = rel_on n q p_drain;
  lent_data = d;
  lent_log = l;
  lent_buffer = b;
  unread = refl;
}

-- a call that begins where a turn leads
pub opens : (job : Job) (bytes log : List ℕ) (At : Stages) → Scripted job bytes [] At → (t : Turned) (z : Script) → Turns job bytes [] At t (fresh_wire phase.DrainStatus) 0 z
    → length bytes ≡ job.lent.«data» → length log ≡ job.lent.log → 0 ≡ job.lent.buffer → Starts (start.opened job t) bytes log [] z
opens job bytes log At s t z q d l b = record {
  job = job;
  place = t.place;
  wire = pick_wire (is_going t.status) (fresh_wire phase.DrainStatus) (fresh_wire phase.DrainStatus);
  status = t.status;
  is = ap (λ (w : Wire). record { job = job; place = t.place; wire = w; used = 0; replies = 0; status = t.status }) (sym (one-wire (is_going t.status) (fresh_wire phase.DrainStatus)));
  Rel = Rel job bytes [] At;
  tie = script_tie job bytes [] At s;
  rel = turned job bytes [] At s (fresh_wire phase.DrainStatus) t q;
  lent_data = d;
  lent_log = l;
  lent_buffer = b;
  unread = rel_bytes job bytes [] At s (turned job bytes [] At s (fresh_wire phase.DrainStatus) t q);
}
  where
    one-wire : (b : Bool) (w : Wire) → pick_wire b w w ≡ w
    one-wire true w = refl
    one-wire false w = refl

pub either : (bytes log : List ℕ) (b : Bool) {o₁ o₂ : Op} {c₁ c₂ : Script} → (b ≡ true → Starts o₁ bytes log [] c₁) → (b ≡ false → Starts o₂ bytes log [] c₂)
    → Starts (start.pick b o₁ o₂) bytes log [] (onward b c₁ c₂)
either bytes log true h₁ h₂ = h₁ refl
either bytes log false h₁ h₂ = h₂ refl

-- ---- turns

module _ (job : Job) (bytes : List ℕ) (At : Stages) where
  abbrev Turn : Turned → Wire → ℕ → Script → Type 0
  Turn t w n z = Turns job bytes [] At t w n z

  -- a transfer of one reply
  one_reply : (p : Place) (c i b : ℕ) (taken : List ℕ) (k : List ℕ → Script) → length taken ≡ 1 → ((r : ℕ) → Turn (turn_of job p r) (wire phase.Disable c i b (r ∷ [])) (counted_at job p) (k (r ∷ [])))
      → Turn (turn_of job p (get_or taken 0 0)) (wire phase.Disable c i b taken) (counted_at job p) (k (reverse taken))
  one_reply p c i b taken k e h = of_one taken (λ t. Turn (turn_of job p (get_or t 0 0)) (wire phase.Disable c i b t) (counted_at job p) (k (reverse t))) e h

  picked : (b : Bool) {t₁ t₂ : Turned} {w : Wire} {n : ℕ} {z₁ z₂ : Script} → Turn t₁ w n z₁ → Turn t₂ w n z₂ → Turn (pick b t₁ t₂) w n (onward b z₁ z₂)
  picked true h₁ h₂ = h₁
  picked false h₁ h₂ = h₂

-- ---- write enable, then one transfer

module _ (s : Stage) (x : Transfer) (sr cr : ℕ) (log : List ℕ) where
  abbrev enabled_job : Job
  enabled_job = start.command_job (start.enabled s) (length log)

  data Enabled : Place → Transfer → (List ℕ → Script) → Type 0 where
    first_enable : Enabled (start.place_at stage.Enable 0 sr cr) enabling (λ rs. exchange x done)
    first_then : Enabled (start.place_at s 0 sr cr) x done

  module _ (going : status_of s ≡ Going) (ends-here : (r : ℕ) → turn_at s enabled_job (start.place_at s 0 sr cr) r ≡ finish (start.place_at s 0 sr cr) Done) (same : Same (frame_at s enabled_job 0) x)
      (word : (i : ℕ) → i < length (words x) → due_word enabled_job (start.place_at s 0 sr cr) i [] ≡ get_or (words x) i 0) (one : x.replies ≡ 1) (unread : is_reading s ≡ false) where
    e_same : (p : Place) (y : Transfer) (k : List ℕ → Script) → Enabled p y k → Same (frame_of enabled_job p) y
    e_same p y k first_enable = same_short 0x80 _
    e_same p y k first_then = same

    e_word : (p : Place) (y : Transfer) (k : List ℕ → Script) → Enabled p y k → (i : ℕ) → i < length (words y) → due_word enabled_job p i [] ≡ get_or (words y) i 0
    e_word p y k first_enable = word_short enabled_job p [] 0x80 _ refl
    e_word p y k first_then = word

    e_turn : (p : Place) (y : Transfer) (k : List ℕ → Script) → Enabled p y k → (c i b : ℕ) (taken : List ℕ) → length taken ≡ y.replies
        → Turns enabled_job [] [] Enabled (turn_of enabled_job p (get_or taken 0 0)) (wire phase.Disable c i b taken) (counted_at enabled_job p) (k (reverse taken))
    e_turn p y k first_enable c i b taken e = one_reply enabled_job [] Enabled p c i b taken k e (λ r. on going refl first_then)
    e_turn p y k first_then c i b taken e = one_reply enabled_job [] Enabled p c i b taken k (e ∙ one) (λ r. rw (ends-here r) (over refl refl refl refl))

    e_unread : (p : Place) (y : Transfer) (k : List ℕ → Script) → Enabled p y k → is_reading p.stage ≡ false
    e_unread p y k first_enable = refl
    e_unread p y k first_then = unread

    pub enabled_then_lem : Starts (start.enabled_then s sr cr (length log)) [] log [] (call.enabled_then x)
    enabled_then_lem = begins enabled_job [] log Enabled (record { same = e_same; word = e_word; turn = e_turn; unread = e_unread }) _ _ _ first_enable refl refl refl refl

pub write_status_lem : (sr : ℕ) (log : List ℕ) → Starts (start.enabled_then stage.WriteStatus sr 0 (length log)) [] log [] (call.write_status sr)
write_status_lem sr log = enabled_then_lem stage.WriteStatus (status_writing sr) sr 0 log refl (λ r. refl) (same_short 0x84 _) (word_short (start.command_job (start.enabled stage.WriteStatus) (length log)) (start.place_at stage.WriteStatus 0 sr 0) [] 0x84 _ refl) refl refl

pub write_registers_lem : (sr cr : ℕ) (log : List ℕ) → Starts (start.enabled_then stage.WriteRegisters sr cr (length log)) [] log [] (call.write_registers sr cr)
write_registers_lem sr cr log = enabled_then_lem stage.WriteRegisters (registers_writing sr cr) sr cr log refl (λ r. refl) (same_short 0x88 _) (word_short (start.command_job (start.enabled stage.WriteRegisters) (length log)) (start.place_at stage.WriteRegisters 0 sr cr) [] 0x88 _ refl) refl refl

-- ---- new

module _ (quad : Bool) (asked : Option ℕ) (clear : Bool) (log : List ℕ) where
  abbrev setLatency : Bool
  setLatency = is_some asked

  abbrev latency : ℕ
  latency = unwrap_or asked 0

  abbrev new_job : Job
  new_job = start.configuring_job quad asked clear (length log)

  abbrev decided : ℕ → List ℕ → Script
  decided cr ss = onward (update_needed quad setLatency latency clear cr (top ss)) (call.write_registers (configured_sr clear (top ss)) (configured_cr quad setLatency latency cr)) (ends Done [])

  data New : Place → Transfer → (List ℕ → Script) → Type 0 where
    new_clear : New (start.place_at stage.Clear 0 0 0) clearing (λ rs. onward (quad || (setLatency || clear)) (call.configuring quad setLatency latency clear) (ends Done []))
    new_config : New (start.place_at stage.ReadConfig 0 0 0) config_reading (λ cs. exchange status_reading (decided (top cs)))
    new_status : {cr : ℕ} → New (start.place_at stage.ReadStatus 0 0 cr) status_reading (decided cr)
    new_enable : {sr cr : ℕ} → New (start.place_at stage.Enable 0 sr cr) enabling (λ rs. exchange (registers_writing sr cr) done)
    new_write : {sr cr : ℕ} → New (start.place_at stage.WriteRegisters 0 sr cr) (registers_writing sr cr) done

  n_same : (p : Place) (y : Transfer) (k : List ℕ → Script) → New p y k → Same (frame_of new_job p) y
  n_same p y k new_clear = same_short 0x80 _
  n_same p y k new_config = same_short 0x84 _
  n_same p y k new_status = same_short 0x84 _
  n_same p y k new_enable = same_short 0x80 _
  n_same p y k new_write = same_short 0x88 _

  n_word : (p : Place) (y : Transfer) (k : List ℕ → Script) → New p y k → (i : ℕ) → i < length (words y) → due_word new_job p i [] ≡ get_or (words y) i 0
  n_word p y k new_clear = word_short new_job p [] 0x80 _ refl
  n_word p y k new_config = word_short new_job p [] 0x84 _ refl
  n_word p y k new_status = word_short new_job p [] 0x84 _ refl
  n_word p y k new_enable = word_short new_job p [] 0x80 _ refl
  n_word p y k new_write = word_short new_job p [] 0x88 _ refl

  may_update_lem : (q l c : Bool) {w : Wire} → Turns new_job [] [] New (begin (start.place_at stage.Clear 0 0 0) (start.may_update q l c)) w 0 (onward (q || (l || c)) (call.configuring quad setLatency latency clear) (ends Done []))
  may_update_lem true l c = on refl refl new_config
  may_update_lem false true c = on refl refl new_config
  may_update_lem false false true = on refl refl new_config
  may_update_lem false false false = over refl refl refl refl

  n_turn : (p : Place) (y : Transfer) (k : List ℕ → Script) → New p y k → (c i b : ℕ) (taken : List ℕ) → length taken ≡ y.replies
      → Turns new_job [] [] New (turn_of new_job p (get_or taken 0 0)) (wire phase.Disable c i b taken) (counted_at new_job p) (k (reverse taken))
  n_turn p y k new_clear c i b taken e = one_reply new_job [] New p c i b taken k e (λ r. may_update_lem quad setLatency clear)
  n_turn p y k new_config c i b taken e = one_reply new_job [] New p c i b taken k e (λ r. on refl refl new_status)
  n_turn p y k (new_status {cr}) c i b taken e =
      one_reply new_job [] New p c i b taken k e
      (λ r. picked new_job [] New (update_needed quad setLatency latency clear cr (top_byte r)) (on refl refl new_enable) (over refl refl refl refl))
  n_turn p y k new_enable c i b taken e = one_reply new_job [] New p c i b taken k e (λ r. on refl refl new_write)
  n_turn p y k new_write c i b taken e = one_reply new_job [] New p c i b taken k e (λ r. over refl refl refl refl)

  n_unread : (p : Place) (y : Transfer) (k : List ℕ → Script) → New p y k → is_reading p.stage ≡ false
  n_unread p y k new_clear = refl
  n_unread p y k new_config = refl
  n_unread p y k new_status = refl
  n_unread p y k new_enable = refl
  n_unread p y k new_write = refl

  new_scripted : Scripted new_job [] [] New
  new_scripted = record { same = n_same; word = n_word; turn = n_turn; unread = n_unread }

  pub new_with_lem : Starts (start.new_with quad asked clear (length log)) [] log [] (call.new_with quad setLatency latency clear)
  new_with_lem =
      either [] log (ltb 3 latency) (λ e. ended_at_start new_job [] log [] FieldTooWide refl (λ w. refl) refl refl refl)
      (λ e. begins new_job [] log New new_scripted _ _ _ new_clear refl refl refl refl)

-- ---- set_write_protection

module _ (protection : ℕ) (log : List ℕ) where
  abbrev protecting_job_lem : Job
  protecting_job_lem = start.protecting_job protection (length log)

  data Protect : Place → Transfer → (List ℕ → Script) → Type 0 where
    protect_status : Protect (start.place_at stage.ReadStatus 0 0 0) status_reading (λ ss. exchange config_reading (λ cs. call.write_registers (protected (top ss) protection) (top cs)))
    protect_config : {sr : ℕ} → Protect (start.place_at stage.ReadConfig 0 sr 0) config_reading (λ cs. call.write_registers sr (top cs))
    protect_enable : {sr cr : ℕ} → Protect (start.place_at stage.Enable 0 sr cr) enabling (λ rs. exchange (registers_writing sr cr) done)
    protect_write : {sr cr : ℕ} → Protect (start.place_at stage.WriteRegisters 0 sr cr) (registers_writing sr cr) done

  t_same : (p : Place) (y : Transfer) (k : List ℕ → Script) → Protect p y k → Same (frame_of protecting_job_lem p) y
  t_same p y k protect_status = same_short 0x84 _
  t_same p y k protect_config = same_short 0x84 _
  t_same p y k protect_enable = same_short 0x80 _
  t_same p y k protect_write = same_short 0x88 _

  t_word : (p : Place) (y : Transfer) (k : List ℕ → Script) → Protect p y k → (i : ℕ) → i < length (words y) → due_word protecting_job_lem p i [] ≡ get_or (words y) i 0
  t_word p y k protect_status = word_short protecting_job_lem p [] 0x84 _ refl
  t_word p y k protect_config = word_short protecting_job_lem p [] 0x84 _ refl
  t_word p y k protect_enable = word_short protecting_job_lem p [] 0x80 _ refl
  t_word p y k protect_write = word_short protecting_job_lem p [] 0x88 _ refl

  t_turn : (p : Place) (y : Transfer) (k : List ℕ → Script) → Protect p y k → (c i b : ℕ) (taken : List ℕ) → length taken ≡ y.replies
      → Turns protecting_job_lem [] [] Protect (turn_of protecting_job_lem p (get_or taken 0 0)) (wire phase.Disable c i b taken) (counted_at protecting_job_lem p) (k (reverse taken))
  t_turn p y k protect_status c i b taken e = one_reply protecting_job_lem [] Protect p c i b taken k e (λ r. on refl refl protect_config)
  t_turn p y k protect_config c i b taken e = one_reply protecting_job_lem [] Protect p c i b taken k e (λ r. on refl refl protect_enable)
  t_turn p y k protect_enable c i b taken e = one_reply protecting_job_lem [] Protect p c i b taken k e (λ r. on refl refl protect_write)
  t_turn p y k protect_write c i b taken e = one_reply protecting_job_lem [] Protect p c i b taken k e (λ r. over refl refl refl refl)

  t_unread : (p : Place) (y : Transfer) (k : List ℕ → Script) → Protect p y k → is_reading p.stage ≡ false
  t_unread p y k protect_status = refl
  t_unread p y k protect_config = refl
  t_unread p y k protect_enable = refl
  t_unread p y k protect_write = refl

  protect_scripted : Scripted protecting_job_lem [] [] Protect
  protect_scripted = record { same = t_same; word = t_word; turn = t_turn; unread = t_unread }

  pub set_write_protection_lem : Starts (start.set_write_protection protection (length log)) [] log [] (call.set_write_protection protection)
  set_write_protection_lem =
      either [] log (ltb 7 protection) (λ e. ended_at_start protecting_job_lem [] log [] FieldTooWide refl (λ w. refl) refl refl refl)
      (λ e. begins protecting_job_lem [] log Protect protect_scripted _ _ _ protect_status refl refl refl refl)

-- ---- erase and program: the work, then the status until it is settled

-- `Ready d n x then`: after d bytes programmed the work at hand is the transfer x, of n bytes, and `then` comes once its status is clean
module _ (work : Stage) (erases : Bool) (next : Sequel) (failure : Status) (bit a : ℕ) (bytes log : List ℕ) (Ready : ℕ → ℕ → Transfer → Script → Type 0) where
  abbrev pub work_job : Job
  work_job = start.working_job work erases next failure a (length bytes) (length log)

  abbrev pub work_at : Stage → ℕ → ℕ → Place
  work_at s d n = record { stage = s; done = d; chunk = n; sr = 0; cr = 0 }

  abbrev unsettled : List ℕ → Bool
  unsettled rs = not (is_set bit (top rs)) && is_set 0 (top rs)

  pub data Working : Place → Transfer → (List ℕ → Script) → Type 0 where
    settle_enable : {d n : ℕ} {x : Transfer} {then : Script} → Ready d n x then → Working (work_at stage.Enable d n) enabling (λ rs. exchange x (λ rs. call.settling bit failure then))
    settle_work : {d n : ℕ} {x : Transfer} {then : Script} → Ready d n x then → Working (work_at work d n) x (λ rs. call.settling bit failure then)
    settle_poll : {d n : ℕ} {x : Transfer} {then : Script} → Ready d n x then
        → Working (work_at stage.Poll d n) status_reading (λ rs. onward (unsettled rs) (call.settling bit failure then) (onward (is_set bit (top rs)) (call.failing failure) then))
    settle_clear : {d n : ℕ} → Working (work_at stage.Clear d n) clearing (λ rs. exchange disabling (λ rs. refused failure))
    settle_disable : {d n : ℕ} → Working (work_at stage.Disable d n) disabling (λ rs. refused failure)

  module _ (going : status_of work ≡ Going) (polls : (d n r : ℕ) → turn_at work work_job (work_at work d n) r ≡ begin (work_at work d n) stage.Poll)
      (same : (d n : ℕ) (x : Transfer) (then : Script) → Ready d n x then → Same (frame_at work work_job n) x)
      (word : (d n : ℕ) (x : Transfer) (then : Script) → Ready d n x then → (i : ℕ) → i < length (words x) → due_word work_job (work_at work d n) i bytes ≡ get_or (words x) i 0)
      (clean : (d n : ℕ) (x : Transfer) (then : Script) (w : Wire) → Ready d n x then → Turns work_job bytes [] Working (settled work_job (work_at stage.Poll d n)) w (counted_at work_job (work_at stage.Poll d n)) then)
      (unread : is_reading work ≡ false) (fails : is_going failure ≡ false) (error : (st : ℕ) → failed work_job.script st ≡ is_set bit st) where
    w_same : (p : Place) (y : Transfer) (k : List ℕ → Script) → Working p y k → Same (frame_of work_job p) y
    w_same p y k (settle_enable q) = same_short 0x80 _
    w_same p y k (settle_work {d} {n} {x} {then} q) = same d n x then q
    w_same p y k (settle_poll q) = same_short 0x84 _
    w_same p y k settle_clear = same_short 0x80 _
    w_same p y k settle_disable = same_short 0x80 _

    w_word : (p : Place) (y : Transfer) (k : List ℕ → Script) → Working p y k → (i : ℕ) → i < length (words y) → due_word work_job p i bytes ≡ get_or (words y) i 0
    w_word p y k (settle_enable q) = word_short work_job p bytes 0x80 _ refl
    w_word p y k (settle_work {d} {n} {x} {then} q) = word d n x then q
    w_word p y k (settle_poll q) = word_short work_job p bytes 0x84 _ refl
    w_word p y k settle_clear = word_short work_job p bytes 0x80 _ refl
    w_word p y k settle_disable = word_short work_job p bytes 0x80 _ refl

    polled : (d n : ℕ) (x : Transfer) (then : Script) (e b : Bool) (w : Wire) → Ready d n x then
        → Turns work_job bytes [] Working (pick e (begin (work_at stage.Poll d n) stage.Clear) (pick b (begin (work_at stage.Poll d n) stage.Poll) (settled work_job (work_at stage.Poll d n)))) w (counted_at work_job (work_at stage.Poll d n))
        (onward (not e && b) (call.settling bit failure then) (onward e (call.failing failure) then))
    polled d n x then true b w q = on refl refl settle_clear
    polled d n x then false true w q = again refl refl (settle_poll q)
    polled d n x then false false w q = clean d n x then w q

    w_turn : (p : Place) (y : Transfer) (k : List ℕ → Script) → Working p y k → (c i b : ℕ) (taken : List ℕ) → length taken ≡ y.replies
        → Turns work_job bytes [] Working (turn_of work_job p (get_or taken 0 0)) (wire phase.Disable c i b taken) (counted_at work_job p) (k (reverse taken))
    w_turn p y k (settle_enable q) c i b taken e = one_reply work_job bytes Working p c i b taken k e (λ r. on going refl (settle_work q))
    w_turn p y k (settle_work {d} {n} q) c i b taken e = rw (polls d n (get_or taken 0 0)) (again refl refl (settle_poll q))
    w_turn p y k (settle_poll {d} {n} {x} {then} q) c i b taken e =
        one_reply work_job bytes Working p c i b taken k e (λ r. rw (error (top_byte r)) (polled d n x then (is_set bit (top_byte r)) (is_set 0 (top_byte r)) (wire phase.Disable c i b (r ∷ [])) q))
    w_turn p y k settle_clear c i b taken e = one_reply work_job bytes Working p c i b taken k e (λ r. on refl refl settle_disable)
    w_turn p y k settle_disable c i b taken e = one_reply work_job bytes Working p c i b taken k e (λ r. over fails refl refl refl)

    w_unread : (p : Place) (y : Transfer) (k : List ℕ → Script) → Working p y k → is_reading p.stage ≡ false
    w_unread p y k (settle_enable q) = refl
    w_unread p y k (settle_work q) = unread
    w_unread p y k (settle_poll q) = refl
    w_unread p y k settle_clear = refl
    w_unread p y k settle_disable = refl

    pub working_scripted : Scripted work_job bytes [] Working
    working_scripted = record { same = w_same; word = w_word; turn = w_turn; unread = w_unread }

-- one work, and the call is done
data Alone (n₀ : ℕ) (x₀ : Transfer) : ℕ → ℕ → Transfer → Script → Type 0 where
  alone : Alone n₀ x₀ 0 n₀ x₀ (ends Done [])

module _ (work : Stage) (erases : Bool) (failure : Status) (bit a : ℕ) (bytes log : List ℕ) (n : ℕ) (x : Transfer) where
  abbrev lone_job : Job
  lone_job = start.working_job work erases Once failure a (length bytes) (length log)

  abbrev Lone : Stages
  Lone = Working work erases Once failure bit a bytes log (Alone n x)

  module _ (going : status_of work ≡ Going) (polls : (d m r : ℕ) → turn_at work lone_job (record { stage = work; done = d; chunk = m; sr = 0; cr = 0 }) r ≡ begin (record { stage = work; done = d; chunk = m; sr = 0; cr = 0 }) stage.Poll)
      (same : Same (frame_at work lone_job n) x) (word : (i : ℕ) → i < length (words x) → due_word lone_job (start.place_at work n 0 0) i bytes ≡ get_or (words x) i 0)
      (unread : is_reading work ≡ false) (fails : is_going failure ≡ false) (error : (st : ℕ) → failed lone_job.script st ≡ is_set bit st) where
    lone_same : (d m : ℕ) (y : Transfer) (then : Script) → Alone n x d m y then → Same (frame_at work lone_job m) y
    lone_same d m y then alone = same

    lone_word : (d m : ℕ) (y : Transfer) (then : Script) → Alone n x d m y then → (i : ℕ) → i < length (words y)
        → due_word lone_job (record { stage = work; done = d; chunk = m; sr = 0; cr = 0 }) i bytes ≡ get_or (words y) i 0
    lone_word d m y then alone = word

    lone_clean : (d m : ℕ) (y : Transfer) (then : Script) (w : Wire) → Alone n x d m y then
        → Turns lone_job bytes [] Lone (settled lone_job (record { stage = stage.Poll; done = d; chunk = m; sr = 0; cr = 0 })) w 0 then
    lone_clean d m y then w alone = over refl refl refl refl

    pub working : Starts (start.going lone_job (start.place_at stage.Enable n 0 0)) bytes log [] (call.working bit failure x (ends Done []))
    working =
        begins lone_job bytes log Lone (working_scripted work erases Once failure bit a bytes log (Alone n x) going polls lone_same lone_word lone_clean unread fails error) _ _ _ (settle_enable alone) refl refl refl refl

pub erase_sector_lem : (a : ℕ) (log : List ℕ) → Starts (start.erase_sector a (length log)) [] log [] (call.erase_sector a)
erase_sector_lem a log = go (ltb 16777215 (a + 65536)) (eqb (a % 65536) 0)
  where
    job : Job
    job = start.erasing_job a (length log)

    status : Bool → Bool → Status
    status b c = cond b OutOfRange (cond c Going Alignment)

    go : (b c : Bool) → Starts (start.pick (is_going (status b c)) (start.going job (start.place_at stage.Enable 0 0 0)) (start.over job (status b c))) [] log []
        (onward b (refused OutOfRange) (onward c (call.working 5 EraseErrorBitSet (call.erasing a) (ends Done [])) (refused Alignment)))
    go true c = ended_at_start job [] log [] OutOfRange refl (λ w. refl) refl refl refl
    go false true = working stage.Erase true EraseErrorBitSet 5 a [] log 0 (call.erasing a) refl (λ d m r. refl) (same_short 0x1C _) (word_short job (start.place_at stage.Erase 0 0 0) [] 0x1C _ refl) refl refl (λ st. refl)
    go false false = ended_at_start job [] log [] Alignment refl (λ w. refl) refl refl refl

-- the words of `program`'s transfer
program_word : (a n : ℕ) (bytes log : List ℕ) → a + length bytes ≤ 16777215 → length bytes ≤ 240 → length bytes % 4 ≡ 0
    → (i : ℕ) → i < length (words (call.programming a bytes)) → due_word (start.programming_job a (length bytes) (length log)) (start.place_at stage.Program n 0 0) i bytes ≡ get_or (words (call.programming a bytes)) i 0
program_word a n bytes log r few fours zero l =
    let e : (a + 0 % 2 ^ 32) % 2 ^ 32 ≡ a = omega arith in
    rw e
program_word a n bytes log r few fours (suc j) l =
    let f : suc j - 1 ≡ j = omega arith in
    let g : eqb (suc j) 0 ≡ false = ne_eqb (suc j) 0 (λ z. omega arith) in
    rw (g, f) (data_word_lem bytes bytes 0 j (omega arith) (omega arith) (λ i h. ap (λ (z : ℕ). get_or bytes z 0) (let y : i ≡ 0 + i = omega arith in y)) fours (omega arith))

program_same : (a : ℕ) (bytes log : List ℕ) → length bytes ≤ 240 → length bytes % 4 ≡ 0 → Same (frame_at stage.Program (start.programming_job a (length bytes) (length log)) (length bytes)) (call.programming a bytes)
program_same a bytes log few fours =
    record { port = refl; further = all_prefilled (length bytes) few ∙ omega (arith, length_words bytes fours); bytes = omega arith; few = omega arith; twice = refl }

pub program : (a : ℕ) (bytes log : List ℕ) → Starts (start.program_of a (length bytes) (length log)) bytes log [] (call.program a bytes)
program a bytes log =
    either bytes log (ltb 16777215 (a + length bytes)) (λ e. ended_at_start _ bytes log [] OutOfRange refl (λ w. refl) refl refl refl)
    (λ e. either bytes log (ltb 240 (length bytes)) (λ f. ended_at_start _ bytes log [] DataTooLarge refl (λ w. refl) refl refl refl)
    (λ f. either bytes log (eqb (length bytes % 4) 0)
    (λ g. either bytes log (ltb 256 (a % 256 + length bytes)) (λ h. ended_at_start _ bytes log [] CrossesPageBoundary refl (λ w. refl) refl refl refl)
    (λ h. working stage.Program false ProgrammingErrorBitSet 6 a bytes log (length bytes) (call.programming a bytes) refl (λ d m r. refl)
    (program_same a bytes log (ltb-false 240 (length bytes) f) (eqb-true (length bytes % 4) 0 g))
    (program_word a (length bytes) bytes log (ltb-false 16777215 (a + length bytes) e) (ltb-false 240 (length bytes) f) (eqb-true (length bytes % 4) 0 g)) refl refl (λ st. refl)))
    (λ g. ended_at_start _ bytes log [] NotAligned refl (λ w. refl) refl refl refl)))

pub new_call_lem : (config : Config) (log : List ℕ) → Starts (start.new_of config (length log)) [] log [] (call.new_call config)
new_call_lem config log = go config.latency_config
  where
    go : (l : Option ℕ) → Starts (start.new_with config.set_quad_bit_if_necessary l config.clear_write_protection (length log)) [] log [] (call.new_latency l config.set_quad_bit_if_necessary config.clear_write_protection)
    go None = new_with_lem config.set_quad_bit_if_necessary None config.clear_write_protection log
    go (Some c) = new_with_lem config.set_quad_bit_if_necessary (Some c) config.clear_write_protection log
