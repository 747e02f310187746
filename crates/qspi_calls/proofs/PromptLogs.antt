-- On prompt replies the log of a call is a plain list: its transfers one after the other. Assumes nothing.
use mathlib.Core.Path.{◌≡◌, refl, ap, ◌∙◌}
use mathlib.Core.Bool.{Bool, true, false, cond, not, ◌&&◌, ◌||◌}
use mathlib.Core.List.{List, [], ◌∷◌, ◌++◌, map, reverse, reverse_aux, reverse-reverse, append-nil}
use Prim.Native.Nat.{ℕ, zero, suc, ◌+◌, ◌-◌, ◌/◌, ◌%◌, min}
use native.Mathlib.Omega.{arith}
use lib.Dec.{ltb, eqb}
use lib.ListN.{length}
use Rattle.zynq7000.specs.Bits.{is_set}
use Rattle.zynq7000.specs.Qspi.{linear_word, config_word}
use Rattle.zynq7000.specs.Slcr.{source_code, clock_control_word}
use Rattle.zynq7000.specs.declared.qspi.Access.{Access}
use Rattle.zynq7000.specs.declared.qspi.Access.TheVariants.{Read, Write}
use Rattle.zynq7000_hal.specs.Clocks.{baud_of}
use Rattle.zynq7000_hal.specs.Initialize.{initial_config, loopback_words}
use Rattle.zynq7000_hal.specs.Presets.{io_mode_config}
use Rattle.zynq7000_hal.specs.declared.qspi.ClockConfig.{ClockConfig}
use Rattle.zedboard_bsp.specs.Registers.{protected, configured_cr, configured_sr, update_needed}
use Rattle.zedboard_bsp.specs.Words.{top_byte}
use Rattle.qspi_transfer.specs.LowLevel.{automatic, manual, chip_select_high, started}
use Rattle.qspi_transfer.specs.Wire.{waits}
use Rattle.zedboard_bsp.specs.Limits.{largest_chunk}
use Rattle.qspi_script.specs.declared.Status.{Status}
use Rattle.qspi_script.specs.declared.Status.TheVariants.{Done, ProgrammingErrorBitSet}
use Rattle.qspi_operation.specs.Machine.{Action, write, drain, reply, first, again, ready, proceed, reads, writes, Transfer, replicate, Script, ends, exchange, State, going, ended, begin, want, next, runs, called}
use Rattle.qspi_calls.specs.Chunks.{Chunk, chunks}
use Rattle.qspi_operation.specs.Machine as machine
use Rattle.qspi_calls.specs.Calls as call
use Rattle.qspi_calls.specs.Calls.{enabling, status_reading, top, done}
use Rattle.qspi_calls.specs.Prompt.{Prompt, taking, closing, replying, promptly}
use Rattle.qspi_operation.specs.Machine.{replies_of}

-- a call makes these accesses and stands there afterwards
pub data Plays : State → List Access → State → Type 0 where
  plays_none : {s : State} → Plays s [] s
  plays_read : {s t : State} {o v : ℕ} {l : List Access} → want s ≡ reads o → Plays (next s v) l t → Plays s (Read o v ∷ l) t
  plays_write : {s t : State} {o v : ℕ} {l : List Access} → want s ≡ writes o v → Plays (next s v) l t → Plays s (Write o v ∷ l) t

pub plays_then : {s t u : State} {l m : List Access} → Plays s l t → Plays t m u → Plays s (l ++ m) u
plays_then plays_none q = q
plays_then (plays_read e p) q = plays_read e (plays_then p q)
plays_then (plays_write e p) q = plays_write e (plays_then p q)

-- the run over these replies makes them
plays_run : {s t : State} (l : List Access) (m : ℕ) (rest : List ℕ) → Plays s l t → ((runs (length l + m) s (replies_of l ++ rest)).log ≡ l ++ (runs m t rest).log) × ((runs (length l + m) s (replies_of l ++ rest)).answer ≡ (runs m t rest).answer)
unfolding runs
plays_run [] m rest plays_none = let e : 0 + m ≡ m = omega arith in rw e (refl, refl)
plays_run {s = s} (Read o v ∷ l) m rest (plays_read e p) =
    let n : suc (length l) + m ≡ suc (length l + m) = omega arith in
    let h = plays_run {s = next s v} l m rest p in
    rw (n, e) (ap (λ (z : List Access). Read o v ∷ z) h.0, h.1)
plays_run {s = s} (Write o v ∷ l) m rest (plays_write e p) =
    let n : suc (length l) + m ≡ suc (length l + m) = omega arith in
    let h = plays_run {s = next s v} l m rest p in
    rw (n, e) (ap (λ (z : List Access). Write o v ∷ z) h.0, h.1)

module _ (a : Prompt) (brings : List ℕ → List ℕ) (k : List ℕ → Script) (bs : List ℕ) (n : ℕ) where
  sends : (port : ℕ) (w : ℕ) (ws : List ℕ) (c : Action) (l : List Action) → Plays (going first (write port w) (map (write port) ws ++ c ∷ l) [] brings k bs n) (map (Write port) (w ∷ ws)) (going first c l [] brings k bs n)
  sends port w [] c l = plays_write refl plays_none
  sends port w (v ∷ ws) c l = plays_write refl (sends port v ws c l)

  closes : (taken : List ℕ) → Plays (going first (machine.modify chip_select_high) (write 0x14 0 ∷ []) taken brings k bs n) (closing a) (begin (k (reverse taken)) (bs ++ brings (reverse taken)) n)
  closes taken = plays_read refl (plays_write refl (plays_write refl plays_none))

  -- a status read with bit 4 set
  read_first : (twice : Bool) (v : ℕ) (l : List Action) (taken : List ℕ) {m : List Access} {t : State} → waits v ≡ true → Plays (going (cond twice again ready) (reply twice) l taken brings k bs n) m t → Plays (next (going first (reply twice) l taken brings k bs n) v) m t
  read_first twice v l taken e p = rw e p

  read_again : (twice : Bool) (v : ℕ) (l : List Action) (taken : List ℕ) {m : List Access} {t : State} → waits v ≡ true → Plays (going ready (reply twice) l taken brings k bs n) m t → Plays (next (going again (reply twice) l taken brings k bs n) v) m t
  read_again twice v l taken e p = rw e p

  -- each reply is ready at once
  takes : (twice : Bool) (r : ℕ) (rs taken : List ℕ) → Plays (going first (reply twice) (replicate (length rs) (reply twice) ++ machine.closing) taken brings k bs n) (taking twice a.ready (r ∷ rs) ++ closing a) (begin (k (reverse (reverse_aux (r ∷ rs) taken))) (bs ++ brings (reverse (reverse_aux (r ∷ rs) taken))) n)
  takes true r [] taken = plays_read refl (read_first true a.ready machine.closing taken a.is_ready (plays_read refl (read_again true a.ready machine.closing taken a.is_ready (plays_read refl (closes (r ∷ taken))))))
  takes false r [] taken = plays_read refl (read_first false a.ready machine.closing taken a.is_ready (plays_read refl (closes (r ∷ taken))))
  takes true r (s ∷ rs) taken =
      plays_read refl (read_first true a.ready (replicate (suc (length rs)) (reply true) ++ machine.closing) taken a.is_ready
      (plays_read refl (read_again true a.ready (replicate (suc (length rs)) (reply true) ++ machine.closing) taken a.is_ready (plays_read refl (takes true s rs (r ∷ taken))))))
  takes false r (s ∷ rs) taken =
      plays_read refl (read_first false a.ready (replicate (suc (length rs)) (reply false) ++ machine.closing) taken a.is_ready (plays_read refl (takes false s rs (r ∷ taken))))

  takes_all : (twice : Bool) (rs : List ℕ) → Plays (proceed (replicate (length rs) (reply twice) ++ machine.closing) [] brings k bs n) (taking twice a.ready rs ++ closing a) (begin (k rs) (bs ++ brings rs) n)
  takes_all twice [] = closes []
  takes_all twice (r ∷ rs) =
      let e : reverse (reverse (r ∷ rs)) ≡ r ∷ rs = reverse-reverse (r ∷ rs) in
      rw e at (takes twice r rs [])

  not_drained : (v : ℕ) (c : Action) (l : List Action) {m : List Access} {t : State} → waits v ≡ false → Plays (going first c l [] brings k bs n) m t → Plays (next (going first drain (c ∷ l) [] brings k bs n) v) m t
  not_drained v c l e p = rw e p

  started_at : (x : Transfer) (rs : List ℕ) → length rs ≡ x.replies → Plays (going first (machine.modify started) (replicate x.replies (reply x.twice) ++ machine.closing) [] brings k bs n) (replying x a rs) (begin (k rs) (bs ++ brings rs) n)
  started_at x rs e = rw (← e) (plays_read refl (plays_write refl (takes_all x.twice rs)))

  -- a transfer makes the accesses of its plain list, and then stands where its replies lead
  transfer : (x : Transfer) (rs : List ℕ) → length rs ≡ x.replies → Plays (going first drain (machine.opening x) [] brings k bs n) (promptly x a rs) (begin (k rs) (bs ++ brings rs) n)
  transfer x rs e =
      plays_read refl (not_drained a.idle _ _ a.is_idle (plays_read refl (plays_write refl (plays_write refl
      (plays_then (sends x.port x.command x.further (machine.modify started) (replicate x.replies (reply x.twice) ++ machine.closing)) (started_at x rs e))))))

-- ---- calls

-- the log, the answer, and how many replies are used, where there is room and replies enough
abbrev pub Logs : Script → List Access → Status → Type 0
Logs c l s = (m : ℕ) (rest : List ℕ) → ((called c (length l + m) (replies_of l ++ rest)).log ≡ l) × ((called c (length l + m) (replies_of l ++ rest)).answer ≡ s)

over_runs : (m : ℕ) (s : Status) (vs bs : List ℕ) (n : ℕ) (rest : List ℕ) → ((runs m (ended s vs bs n) rest).log ≡ []) × ((runs m (ended s vs bs n) rest).answer ≡ s)
unfolding runs
over_runs zero s vs bs n rest = (refl, refl)
over_runs (suc m) s vs bs n rest = (refl, refl)

pub counting_logs : (c : Script) (l : List Access) (s : Status) (vs bs : List ℕ) (n : ℕ) → Plays (begin c [] 0) l (ended s vs bs n) → Logs c l s
counting_logs c l s vs bs n p m rest =
    let h = plays_run l m rest p in
    let g = over_runs m s vs bs n rest in
    (h.0 ∙ ap (λ (z : List Access). l ++ z) g.0 ∙ append-nil l, h.1 ∙ g.1)

logs : (c : Script) (l : List Access) (s : Status) (vs bs : List ℕ) → Plays (begin c [] 0) l (ended s vs bs 0) → Logs c l s
logs c l s vs bs p = counting_logs c l s vs bs 0 p

-- a call of one transfer: write enable, write disable, clear status, the register reads, both ids
pub one_transfer_lem : (x : Transfer) (f : List ℕ → List ℕ) (a : Prompt) (rs : List ℕ) → length rs ≡ x.replies → Logs (exchange x (λ q. ends Done (f q))) (promptly x a rs) Done
one_transfer_lem x f a rs e = logs (exchange x (λ q. ends Done (f q))) (promptly x a rs) Done (f rs) [] (transfer a machine.none (λ q. ends Done (f q)) [] 0 x rs e)

-- write enable, then one transfer: both register writes
pub enabled_then_lem : (x : Transfer) (a b : Prompt) (r : ℕ) (rs : List ℕ) → length rs ≡ x.replies → Logs (call.enabled_then x) (promptly enabling a (r ∷ []) ++ promptly x b rs) Done
enabled_then_lem x a b r rs e =
    logs (call.enabled_then x) (promptly enabling a (r ∷ []) ++ promptly x b rs) Done [] []
    (plays_then (transfer a machine.none (λ q. exchange x done) [] 0 enabling (r ∷ []) refl) (transfer b machine.none done [] 0 x rs e))

-- the log of program and erase: write enable, the work, one status that is clean
abbrev working : Transfer → Prompt → Prompt → Prompt → ℕ → List ℕ → ℕ → List Access
working x a b c r rs s = promptly enabling a (r ∷ []) ++ (promptly x b rs ++ promptly status_reading c (s ∷ []))

module _ (bit : ℕ) (failure : Status) (x : Transfer) (then : Script) (n : ℕ) (a b c : Prompt) (r s : ℕ) (rs : List ℕ) where
  abbrev settled : List ℕ → Script
  settled q = machine.onward (not (is_set bit (top q)) && is_set 0 (top q)) (call.settling bit failure then) (machine.onward (is_set bit (top q)) (call.failing failure) then)

  pub works : length rs ≡ x.replies → is_set bit (top (s ∷ [])) ≡ false → is_set 0 (top (s ∷ [])) ≡ false → Plays (begin (call.working bit failure x then) [] n) (working x a b c r rs s) (begin then [] n)
  works e f g =
      let p : Plays (begin (call.settling bit failure then) [] n) (promptly status_reading c (s ∷ [])) (begin (settled (s ∷ [])) [] n) = transfer c machine.none settled [] n status_reading (s ∷ []) refl in
      let q : Plays (begin (call.settling bit failure then) [] n) (promptly status_reading c (s ∷ [])) (begin then [] n) = rw (f, g) at p in
      plays_then (transfer a machine.none (λ q. exchange x (λ q. call.settling bit failure then)) [] n enabling (r ∷ []) refl)
      (plays_then (transfer b machine.none (λ q. call.settling bit failure then) [] n x rs e) q)

pub worked : (bit : ℕ) (failure : Status) (x : Transfer) (a b c : Prompt) (r s : ℕ) (rs : List ℕ) → length rs ≡ x.replies → is_set bit (top (s ∷ [])) ≡ false → is_set 0 (top (s ∷ [])) ≡ false
    → Logs (call.working bit failure x (ends Done [])) (promptly enabling a (r ∷ []) ++ (promptly x b rs ++ promptly status_reading c (s ∷ []))) Done
worked bit failure x a b c r s rs e f g = logs (call.working bit failure x (ends Done [])) _ Done [] [] (works bit failure x (ends Done []) 0 a b c r s rs e f g)

-- write_pages: the log of each chunk, one after the other, where `program` accepts each
pub data PagesLog : List Chunk → List Access → Type 0 where
  pages_none : PagesLog [] []
  pages_more : {c : Chunk} {l : List Chunk} {rest : List Access} (a b d : Prompt) (r s : ℕ) (rs : List ℕ) → ltb 16777215 (c.address + length c.bytes) ≡ false → ltb 240 (length c.bytes) ≡ false
      → eqb (length c.bytes % 4) 0 ≡ true → ltb 256 (c.address % 256 + length c.bytes) ≡ false → length rs ≡ suc (length c.bytes / 4) → is_set 6 (top (s ∷ [])) ≡ false → is_set 0 (top (s ∷ [])) ≡ false
      → PagesLog l rest → PagesLog (c ∷ l) (working (call.programming c.address c.bytes) a b d r rs s ++ rest)

record Counts (l : List Chunk) (n : ℕ) (log : List Access) : Type 0 where
  count : ℕ
  plays : Plays (begin (call.pages l) [] n) log (ended Done [] [] count)

pages_play : {l : List Chunk} {log : List Access} (n : ℕ) → PagesLog l log → Counts l n log
pages_play n pages_none = record { count = n; plays = plays_none }
pages_play n (pages_more {c} {l} {rest} a b d r s rs e₁ e₃ e₄ e₅ f g h more) =
    let y = pages_play (n + length c.bytes) more in
    let x = call.programming c.address c.bytes in
    let z : Plays (begin (call.pages (c ∷ l)) [] n) (working x a b d r rs s ++ rest) (ended Done [] [] y.count) =
    rw (e₁, e₃, e₄, e₅) (plays_then (works 6 ProgrammingErrorBitSet x (machine.counts (length c.bytes) (call.pages l)) n a b d r s rs f g h) y.plays) in
    record { count = y.count; plays = z }

pub pages_logs : (a : ℕ) (bs : List ℕ) (log : List Access) → ltb 16777215 (a + length bs) ≡ false → PagesLog (chunks a bs) log → Logs (call.write_pages a bs) log Done
pages_logs a bs log e p = let y = pages_play 0 p in counting_logs (call.write_pages a bs) log Done [] [] y.count (rw e y.plays)

-- set_write_protection: status, config, write enable, both registers
pub protected_logs : (p : ℕ) (a b c d : Prompt) (s t r u : ℕ) → ltb 7 p ≡ false
    → Logs (call.set_write_protection p) (promptly status_reading a (s ∷ []) ++ (promptly call.config_reading b (t ∷ []) ++ (promptly enabling c (r ∷ []) ++ promptly (call.registers_writing (protected (top_byte s) p) (top_byte t)) d (u ∷ [])))) Done
protected_logs p a b c d s t r u e =
    logs (call.set_write_protection p) _ Done [] []
    (rw e
    (plays_then (transfer a machine.none (λ ss. exchange call.config_reading (λ cs. call.write_registers (protected (top ss) p) (top cs))) [] 0 status_reading (s ∷ []) refl)
    (plays_then (transfer b machine.none (λ cs. call.write_registers (protected (top_byte s) p) (top cs)) [] 0 call.config_reading (t ∷ []) refl)
    (plays_then (transfer c machine.none (λ q. exchange (call.registers_writing (protected (top_byte s) p) (top_byte t)) done) [] 0 enabling (r ∷ []) refl)
    (transfer d machine.none done [] 0 (call.registers_writing (protected (top_byte s) p) (top_byte t)) (u ∷ []) refl)))))

-- `new`: clear status alone where nothing is asked for; else config and status; and both registers where they are to change
module _ (quad setLatency : Bool) (latency : ℕ) (clear : Bool) (narrow : ltb 3 latency ≡ false) (a b c : Prompt) (r t s : ℕ) where
  pub new_logs : (quad || (setLatency || clear)) ≡ false → Logs (call.new_with quad setLatency latency clear) (promptly call.clearing a (r ∷ [])) Done
  new_logs e =
      logs (call.new_with quad setLatency latency clear) _ Done [] []
      (rw (narrow, e)
      (rw e at (transfer a machine.none (λ q. machine.onward (quad || (setLatency || clear)) (call.configuring quad setLatency latency clear) (ends Done [])) [] 0 call.clearing (r ∷ []) refl)))

-- ---- the register sequences

pub linear_logs : (word config : ℕ) → Logs (call.enable_linear_addressing word) (Write 0x14 0 ∷ Read 0x00 config ∷ Write 0x00 (automatic config) ∷ Write 0xA0 word ∷ []) Done
linear_logs word config = logs (call.enable_linear_addressing word) _ Done [] [] (plays_write refl (plays_read refl (plays_write refl (plays_write refl plays_none))))

pub io_mode_logs : (dual : Bool) (config : ℕ)
    → Logs (call.enable_io_mode dual) (Read 0x00 config ∷ Write 0x00 (manual config) ∷ Write 0x2C 1 ∷ Write 0x28 1 ∷ Write 0xA0 (linear_word (io_mode_config dual)) ∷ []) Done
io_mode_logs dual config = logs (call.enable_io_mode dual) _ Done [] [] (plays_read refl (plays_write refl (plays_write refl (plays_write refl (plays_write refl plays_none)))))

pub disable_logs : (config : ℕ) → Logs call.disable (Write 0x14 0 ∷ Read 0x00 config ∷ Write 0x00 (chip_select_high config) ∷ []) Done
disable_logs config = logs call.disable _ Done [] [] (plays_write refl (plays_read refl (plays_write refl plays_none)))

-- ---- reads: the log of a chunk, then the log of the rest

pub data ReadLog (fast dummy : Bool) : ℕ → ℕ → ℕ → List Access → Type 0 where
  read_none : {f a : ℕ} → ReadLog fast dummy f a 0 []
  read_chunk : {f a left : ℕ} {l : List Access} (p : Prompt) (rs : List ℕ) → length rs ≡ suc (call.zero_words dummy (min (suc left) (largest_chunk dummy)))
      → ReadLog fast dummy f (a + min (suc left) (largest_chunk dummy)) (suc left - min (suc left) (largest_chunk dummy)) l
      → ReadLog fast dummy (suc f) a (suc left) (promptly (call.reading fast dummy a (min (suc left) (largest_chunk dummy))) p rs ++ l)

-- where a read ends: with some bytes
record ReadEnds (s : State) (l : List Access) : Type 0 where
  bytes : List ℕ
  plays : Plays s l (ended Done [] bytes 0)

read_plays : (fast dummy : Bool) {f a left : ℕ} {l : List Access} (bs : List ℕ) → ReadLog fast dummy f a left l → ReadEnds (begin (call.read_from f fast dummy a left) bs 0) l
read_plays fast dummy {f = zero} bs read_none = record { bytes = bs; plays = plays_none }
read_plays fast dummy {f = suc f} bs read_none = record { bytes = bs; plays = plays_none }
read_plays fast dummy bs (read_chunk {f} {a} {left} p rs e q) =
    let n = min (suc left) (largest_chunk dummy) in
    let h = read_plays fast dummy (bs ++ call.bytes_read dummy n rs) q in
    record { bytes = h.bytes; plays = plays_then (transfer p (call.bytes_read dummy n) (λ r. call.read_from f fast dummy (a + n) (suc left - n)) bs 0 (call.reading fast dummy a n) rs e) h.plays }

pub read_logs : (fast dummy : Bool) (a n : ℕ) (l : List Access) → ltb 4294967296 (a + n) ≡ false → ReadLog fast dummy n a n l → Logs (call.read fast dummy a n) l Done
read_logs fast dummy a n l e q =
    let h = read_plays fast dummy [] q in
    logs (call.read fast dummy a n) l Done [] h.bytes (rw e h.plays)

-- ---- `new` where something is asked for

module _ (quad setLatency : Bool) (latency : ℕ) (clear : Bool) (narrow : ltb 3 latency ≡ false) (asked : (quad || (setLatency || clear)) ≡ true) (a b c : Prompt) (r t s : ℕ) where
  abbrev decided : ℕ → List ℕ → Script
  decided cr ss = machine.onward (update_needed quad setLatency latency clear cr (top ss)) (call.write_registers (configured_sr clear (top ss)) (configured_cr quad setLatency latency cr)) (ends Done [])

  -- clear status, config, status, and what they decide
  reads_both : {l : List Access} {z : State} → Plays (begin (decided (top_byte t) (s ∷ [])) [] 0) l z
      → Plays (begin (call.new_with quad setLatency latency clear) [] 0) (promptly call.clearing a (r ∷ []) ++ (promptly call.config_reading b (t ∷ []) ++ (promptly status_reading c (s ∷ []) ++ l))) z
  reads_both p =
      rw (narrow, asked)
      (plays_then (rw asked at (transfer a machine.none (λ q. machine.onward (quad || (setLatency || clear)) (call.configuring quad setLatency latency clear) (ends Done [])) [] 0 call.clearing (r ∷ []) refl))
      (plays_then (transfer b machine.none (λ cs. exchange status_reading (decided (top cs))) [] 0 call.config_reading (t ∷ []) refl)
      (plays_then (transfer c machine.none (decided (top_byte t)) [] 0 status_reading (s ∷ []) refl) p)))

  pub new_reads : update_needed quad setLatency latency clear (top_byte t) (top_byte s) ≡ false
      → Logs (call.new_with quad setLatency latency clear) (promptly call.clearing a (r ∷ []) ++ (promptly call.config_reading b (t ∷ []) ++ (promptly status_reading c (s ∷ []) ++ []))) Done
  new_reads e = logs (call.new_with quad setLatency latency clear) _ Done [] [] (reads_both (rw e plays_none))

  pub new_writes : (d f : Prompt) (u v : ℕ) → update_needed quad setLatency latency clear (top_byte t) (top_byte s) ≡ true
      → Logs (call.new_with quad setLatency latency clear)
      (promptly call.clearing a (r ∷ []) ++ (promptly call.config_reading b (t ∷ []) ++ (promptly status_reading c (s ∷ [])
      ++ (promptly enabling d (u ∷ []) ++ promptly (call.registers_writing (configured_sr clear (top_byte s)) (configured_cr quad setLatency latency (top_byte t))) f (v ∷ [])))))
      Done
  new_writes d f u v e =
      let x = call.registers_writing (configured_sr clear (top_byte s)) (configured_cr quad setLatency latency (top_byte t)) in
      logs (call.new_with quad setLatency latency clear) _ Done [] []
      (reads_both (rw e (plays_then (transfer d machine.none (λ q. exchange x done) [] 0 enabling (u ∷ []) refl) (transfer f machine.none done [] 0 x (v ∷ []) refl))))

-- ---- initialize

writes_all : (k : List ℕ → Script) (o p w : ℕ) (ws : List ℕ) → Plays (going first (write o w) (map (write p) ws) [] machine.none k [] 0) (Write o w ∷ map (Write p) ws) (begin (k []) [] 0)
writes_all k o p w [] = plays_write refl plays_none
writes_all k o p w (v ∷ ws) = plays_write refl (writes_all k p p v ws)

pub initialize_logs : (c : ClockConfig) (phase polarity : Bool) → ltb 63 c.ref_clk_div ≡ false
    → Logs (call.initialize c phase polarity) (Write 0x00 (config_word (initial_config (baud_of c.baud_rate_config) phase polarity)) ∷ map (Write 0x38) (loopback_words c.baud_rate_config)) Done
initialize_logs c phase polarity e =
    logs (call.initialize c phase polarity) _ Done (clock_control_word c.ref_clk_div (source_code c.src_sel) 1 ∷ []) []
    (rw e
    (writes_all (λ rs. ends Done (clock_control_word c.ref_clk_div (source_code c.src_sel) 1 ∷ [])) 0x00 0x38 (config_word (initial_config (baud_of c.baud_rate_config) phase polarity)) (loopback_words c.baud_rate_config)))
