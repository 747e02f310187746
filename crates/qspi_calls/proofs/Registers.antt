-- Every access of every call goes to a register of the controller, so a log can hold it: a run reads only 00, 04 and 20, and the script of
-- each call writes only to registers. Assumes nothing.
use mathlib.Core.Path.{◌≡◌, refl, sym, subst}
use mathlib.Core.Bool.{Bool, true, false, ◌||◌}
use mathlib.Core.List.{List, [], ◌∷◌, ◌++◌, map, reverse}
use Prim.Native.Nat.{ℕ, zero, suc, ◌+◌, ◌%◌, min}
use lib.Dec.{ltb, eqb}
use lib.ListN.{length}
use Rattle.zynq7000.specs.Access.{Aligned, Loggable}
use Rattle.zynq7000.specs.Bits.{is_set}
use Rattle.zynq7000.specs.Qspi.{offset_of}
use Rattle.zynq7000.specs.declared.qspi.Register.{Register}
use Rattle.zynq7000.specs.declared.qspi.Register.TheVariants as register
use Rattle.zynq7000.proofs.AccessLaws.{register_aligned}
use Rattle.zynq7000_hal.specs.Initialize.{loopback_words}
use Rattle.zynq7000_hal.specs.declared.qspi.ClockConfig.{ClockConfig}
use Rattle.qspi_transfer.specs.LowLevel.{chip_select_low}
use Rattle.zedboard_bsp.specs.Registers.{update_needed}
use Rattle.zedboard_bsp.specs.Limits.{largest_chunk}
use Rattle.qspi_script.specs.declared.Status.{Status}
use Rattle.qspi_calls.specs.declared.start.Config.{Config}
use Rattle.std.specs.Prelude.{Option, Some, None}
use Rattle.qspi_calls.specs.Chunks.{Chunk, chunks}
use Rattle.qspi_operation.specs.Machine.{Action, write, modify, drain, reply, Midway, first, full, changed, again, ready, Want, reads, writes, nothing, want_at, Progress, stays, over, takes, progress, Transfer, replicate, replying, opening, Script, ends, perform, repeats, counts, exchange, State, going, ended, onward, begin, proceed, moves, want, next, Result, no_room, made, runs, called}
use Rattle.qspi_calls.specs.Calls as call

-- ---- scripts whose writes go to registers

-- an action whose accesses go to registers: of any kind but `write` they always do
pub data ToRegister : Action → Type 0 where
  to_write : {v : ℕ} (r : Register) → ToRegister (write (offset_of r) v)
  to_modify : {f : ℕ → ℕ} → ToRegister (modify f)
  to_drain : ToRegister drain
  to_reply : {twice : Bool} → ToRegister (reply twice)

pub data ToRegisters : List Action → Type 0 where
  to_none : ToRegisters []
  to_more : {a : Action} {l : List Action} → ToRegister a → ToRegisters l → ToRegisters (a ∷ l)

-- whatever the replies decide
pub data OnRegisters : Script → Type 0 where
  on_end : {a : Status} {vs : List ℕ} → OnRegisters (ends a vs)
  on_perform : {a : Action} {l : List Action} {brings : List ℕ → List ℕ} {k : List ℕ → Script} → ToRegister a → ToRegisters l → ((rs : List ℕ) → OnRegisters (k rs)) → OnRegisters (perform a l brings k)
  on_repeat : {a : Action} {l : List Action} {still : List ℕ → Bool} {k : List ℕ → Script} → ToRegister a → ToRegisters l → ((rs : List ℕ) → OnRegisters (k rs)) → OnRegisters (repeats a l still k)
  on_count : {j : ℕ} {s : Script} → OnRegisters s → OnRegisters (counts j s)

pub either : {s t : Script} (b : Bool) → OnRegisters s → OnRegisters t → OnRegisters (onward b s t)
either true p q = p
either false p q = q

-- ---- their runs

-- a state that such a script leads to
data Stands : State → Type 0 where
  at_action : {m : Midway} {a : Action} {l : List Action} {taken : List ℕ} {brings : List ℕ → List ℕ} {k : List ℕ → Script} {bs : List ℕ} {n : ℕ} → ToRegister a → ToRegisters l → ((rs : List ℕ) → OnRegisters (k rs))
      → Stands (going m a l taken brings k bs n)
  at_end : {a : Status} {vs bs : List ℕ} {n : ℕ} → Stands (ended a vs bs n)

begins : {s : Script} → OnRegisters s → (bs : List ℕ) (n : ℕ) → Stands (begin s bs n)
begins on_end bs n = at_end
begins (on_perform p q h) bs n = at_action p q h
begins (on_repeat {still = still} p q h) bs n = at_action p q (λ rs. either (still rs) (on_repeat p q h) (h rs))
begins (on_count {j = j} h) bs n = begins h bs (n + j)

module _ {k : List ℕ → Script} (h : (rs : List ℕ) → OnRegisters (k rs)) (brings : List ℕ → List ℕ) (bs : List ℕ) (n : ℕ) where
  proceeds : {l : List Action} → ToRegisters l → (taken : List ℕ) → Stands (proceed l taken brings k bs n)
  proceeds to_none taken = begins (h (reverse taken)) (bs ++ brings (reverse taken)) n
  proceeds (to_more p q) taken = at_action p q h

  moved : (g : Progress) {a : Action} {l : List Action} → ToRegister a → ToRegisters l → (taken : List ℕ) → Stands (moves g a l taken brings k bs n)
  moved (stays m) p q taken = at_action p q h
  moved over p q taken = proceeds q taken
  moved (takes v) p q taken = proceeds q (v ∷ taken)

moves_on : {s : State} (v : ℕ) → Stands s → Stands (next s v)
moves_on v (at_action {m} {a} {taken = taken} {brings = brings} {bs = bs} {n = n} p q h) = moved h brings bs n (progress m a v) p q taken
moves_on v at_end = at_end

-- what is due is an access that a log can hold
abbrev Due : Want → Type 0
Due (reads o) = Aligned o
Due (writes o v) = Aligned o
Due nothing = Unit {0}

due_at : (m : Midway) {a : Action} → ToRegister a → Due (want_at m a)
due_at first (to_write r) = register_aligned r
due_at first to_modify = register_aligned register.Config
due_at first to_drain = register_aligned register.InterruptStatus
due_at first to_reply = register_aligned register.InterruptStatus
due_at full p = register_aligned register.RxData
due_at (changed w) p = register_aligned register.Config
due_at again p = register_aligned register.InterruptStatus
due_at ready p = register_aligned register.RxData

due : {s : State} → Stands s → Due (want s)
due (at_action {m} p q h) = due_at m p
due at_end = tt

no_room_lem : (w : Want) (s : State) (rs : List ℕ) → Loggable (no_room w s rs).log
no_room_lem nothing s rs = tt
no_room_lem (reads o) s rs = tt
no_room_lem (writes o v) s rs = tt

one_more : (w : Want) {s : State} (n : ℕ) (rs : List ℕ) (run : State → List ℕ → Result) → Due w → Stands s → ((t : State) (vs : List ℕ) → Stands t → Loggable (run t vs).log) → Loggable (made w s n rs run).log
one_more nothing n rs run d p h = tt
one_more (reads o) n [] run d p h = tt
one_more (reads o) {s} n (v ∷ vs) run d p h = (d, h (next s v) vs (moves_on v p))
one_more (writes o v) {s} n rs run d p h = (d, h (next s v) rs (moves_on v p))

logs : (n : ℕ) (s : State) (rs : List ℕ) → Stands s → Loggable (runs n s rs).log
unfolding runs
logs zero s rs p = no_room_lem (want s) s rs
logs (suc n) s rs p = one_more (want s) n rs (runs n) (due p) p (logs n)

-- THEOREM. Where the writes of a script go to registers, each access of its run goes to an offset that a log can hold.
pub runs_on_registers : {s : Script} → OnRegisters s → (room : ℕ) (replies : List ℕ) → Loggable (called s room replies).log
runs_on_registers {s} p room replies = logs room (begin s [] 0) replies (begins p [] 0)

-- ---- transfers, over the register that they send through

joined : {l m : List Action} → ToRegisters l → ToRegisters m → ToRegisters (l ++ m)
joined to_none q = q
joined (to_more a p) q = to_more a (joined p q)

sends : (r : Register) (ws : List ℕ) → ToRegisters (map (write (offset_of r)) ws)
sends r [] = to_none
sends r (w ∷ ws) = to_more (to_write r) (sends r ws)

takes_replies : (n : ℕ) (twice : Bool) → ToRegisters (replicate n (reply twice))
takes_replies zero twice = to_none
takes_replies (suc n) twice = to_more to_reply (takes_replies n twice)

opens : (r : Register) (x : Transfer) → x.port ≡ offset_of r → ToRegisters (opening x)
opens r x e =
    let closes = to_more to_modify (to_more (to_write register.SpiEnable) to_none) in
    let starts = to_more to_modify (joined (takes_replies x.replies x.twice) closes) in
    let P : ℕ → Type 0 = λ p. ToRegisters (modify chip_select_low ∷ write 0x14 1 ∷ map (write p) (x.command ∷ x.further) ++ replying x) in
    subst P (sym e) (to_more to_modify (to_more (to_write register.SpiEnable) (joined (sends r (x.command ∷ x.further)) starts)))

exchanges : (r : Register) (x : Transfer) → x.port ≡ offset_of r → {k : List ℕ → Script} → ((rs : List ℕ) → OnRegisters (k rs)) → OnRegisters (exchange x k)
exchanges r x e h = on_perform to_drain (opens r x e) h

-- ---- the calls' parts

enabled_then_lem : (r : Register) (x : Transfer) → x.port ≡ offset_of r → OnRegisters (call.enabled_then x)
enabled_then_lem r x e = exchanges register.TxData01 call.enabling refl (λ rs. exchanges r x e (λ rs. on_end))

writes_both : (sr cr : ℕ) → OnRegisters (call.write_registers sr cr)
writes_both sr cr = enabled_then_lem register.TxData11 (call.registers_writing sr cr) refl

configures : (quad setLatency : Bool) (latency : ℕ) (clear : Bool) → OnRegisters (call.configuring quad setLatency latency clear)
configures quad setLatency latency clear =
    exchanges register.TxData10 call.config_reading refl
    (λ cs. exchanges register.TxData10 call.status_reading refl
    (λ ss. either (update_needed quad setLatency latency clear (call.top cs) (call.top ss)) (writes_both _ _) on_end))

new_with_lem : (quad setLatency : Bool) (latency : ℕ) (clear : Bool) → OnRegisters (call.new_with quad setLatency latency clear)
new_with_lem quad setLatency latency clear =
    either (ltb 3 latency) on_end
    (exchanges register.TxData01 call.clearing refl (λ rs. either (quad || (setLatency || clear)) (configures quad setLatency latency clear) on_end))

new_latency_lem : (l : Option ℕ) (quad clear : Bool) → OnRegisters (call.new_latency l quad clear)
new_latency_lem None quad clear = new_with_lem quad false 0 clear
new_latency_lem (Some c) quad clear = new_with_lem quad true c clear

pub works : (bit : ℕ) (failure : Status) (x : Transfer) → x.port ≡ offset_of register.TxData00 → {then : Script} → OnRegisters then → OnRegisters (call.working bit failure x then)
works bit failure x e h =
    exchanges register.TxData01 call.enabling refl
    (λ rs. exchanges register.TxData00 x e
    (λ rs. on_repeat to_drain (opens register.TxData10 call.status_reading refl)
    (λ rs. either (is_set bit (call.top rs)) (exchanges register.TxData01 call.clearing refl (λ rs. exchanges register.TxData01 call.disabling refl (λ rs. on_end))) h)))

programs : (a : ℕ) (bs : List ℕ) {then : Script} → OnRegisters then → OnRegisters (call.program_then a bs then)
programs a bs h =
    either (ltb 16777215 (a + length bs)) on_end
    (either (ltb 240 (length bs)) on_end
    (either (eqb (length bs % 4) 0) (either (ltb 256 (a % 256 + length bs)) on_end (works 6 _ (call.programming a bs) refl h)) on_end))

pages : (l : List Chunk) → OnRegisters (call.pages l)
pages [] = on_end
pages (c ∷ l) = programs c.address c.bytes (on_count (pages l))

reads_from : (n : ℕ) (fast dummy : Bool) (a left : ℕ) → OnRegisters (call.read_from n fast dummy a left)
reads_from zero fast dummy a left = on_end
reads_from (suc n) fast dummy a zero = on_end
reads_from (suc n) fast dummy a (suc left) =
    on_perform to_drain (opens register.TxData00 (call.reading fast dummy a (min (suc left) (largest_chunk dummy))) refl) (λ rs. reads_from n fast dummy _ _)

-- ---- the calls

-- the calls of specs/Calls, in its order
pub data Call : Script → Type 0 where
  write_enable : Call call.write_enable
  write_disable : Call call.write_disable
  clear_status : Call call.clear_status
  read_status : Call call.read_status
  read_config : Call call.read_config
  read_id : Call call.read_id
  read_long_id : Call call.read_long_id
  write_status : (sr : ℕ) → Call (call.write_status sr)
  write_registers : (sr cr : ℕ) → Call (call.write_registers sr cr)
  new : (c : Config) → Call (call.new_call c)
  set_write_protection : (p : ℕ) → Call (call.set_write_protection p)
  erase_sector : (a : ℕ) → Call (call.erase_sector a)
  program : (a : ℕ) (bs : List ℕ) → Call (call.program a bs)
  write_pages_call : (a : ℕ) (bs : List ℕ) → Call (call.write_pages a bs)
  read : (fast dummy : Bool) (a n : ℕ) → Call (call.read fast dummy a n)
  initialize : (c : ClockConfig) (phase polarity : Bool) → Call (call.initialize c phase polarity)
  enable_linear_addressing : (word : ℕ) → Call (call.enable_linear_addressing word)
  enable_io_mode : (dual : Bool) → Call (call.enable_io_mode dual)
  disable : Call call.disable

-- THEOREM. The writes of every call go to registers.
pub calls_on_registers : {s : Script} → Call s → OnRegisters s
calls_on_registers write_enable = exchanges register.TxData01 call.enabling refl (λ rs. on_end)
calls_on_registers write_disable = exchanges register.TxData01 call.disabling refl (λ rs. on_end)
calls_on_registers clear_status = exchanges register.TxData01 call.clearing refl (λ rs. on_end)
calls_on_registers read_status = exchanges register.TxData10 call.status_reading refl (λ rs. on_end)
calls_on_registers read_config = exchanges register.TxData10 call.config_reading refl (λ rs. on_end)
calls_on_registers read_id = exchanges register.TxData00 call.id_reading refl (λ rs. on_end)
calls_on_registers read_long_id = exchanges register.TxData00 call.long_id_reading refl (λ rs. on_end)
calls_on_registers (write_status sr) = enabled_then_lem register.TxData10 (call.status_writing sr) refl
calls_on_registers (write_registers sr cr) = writes_both sr cr
calls_on_registers (new c) = new_latency_lem c.latency_config c.set_quad_bit_if_necessary c.clear_write_protection
calls_on_registers (set_write_protection p) =
    either (ltb 7 p) on_end (exchanges register.TxData10 call.status_reading refl (λ ss. exchanges register.TxData10 call.config_reading refl (λ cs. writes_both _ _)))
calls_on_registers (erase_sector a) =
    either (ltb 16777215 (a + 65536)) on_end (either (eqb (a % 65536) 0) (works 5 _ (call.erasing a) refl on_end) on_end)
calls_on_registers (program a bs) = programs a bs on_end
calls_on_registers (write_pages_call a bs) = either (ltb 16777215 (a + length bs)) on_end (pages (chunks a bs))
calls_on_registers (read fast dummy a n) = either (ltb 4294967296 (a + n)) on_end (reads_from n fast dummy a n)
calls_on_registers (initialize c phase polarity) =
    either (ltb 63 c.ref_clk_div) on_end (on_perform (to_write register.Config) (sends register.LoopbackMasterClockDelay (loopback_words c.baud_rate_config)) (λ rs. on_end))
calls_on_registers (enable_linear_addressing word) = on_perform (to_write register.SpiEnable) (to_more to_modify (to_more (to_write register.LinearQspiConfig) to_none)) (λ rs. on_end)
calls_on_registers (enable_io_mode dual) =
    on_perform to_modify (to_more (to_write register.RxFifoThreshold) (to_more (to_write register.TxFifoThreshold) (to_more (to_write register.LinearQspiConfig) to_none))) (λ rs. on_end)
calls_on_registers disable = on_perform (to_write register.SpiEnable) (to_more to_modify to_none) (λ rs. on_end)

-- so a log can hold the accesses of every run of every call
pub run_loggable : {s : Script} → Call s → (room : ℕ) (replies : List ℕ) → Loggable (called s room replies).log
run_loggable c = runs_on_registers (calls_on_registers c)
