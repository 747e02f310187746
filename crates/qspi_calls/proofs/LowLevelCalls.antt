-- The calls that send nothing, each tied to its list of register accesses. Assumes nothing.
use mathlib.Core.Path.{◌≡◌, refl, ap, ◌∙◌, sym}
use mathlib.Core.Bool.{Bool, true, false}
use mathlib.Core.List.{List, [], ◌∷◌, map}
use Prim.Native.Nat.{ℕ}
use native.Mathlib.Omega.{arith}
use lib.Dec.{ltb}
use lib.ListN.{length}
use Rattle.zynq7000.specs.Qspi.{linear_word, config_word, loopback_word}
use Rattle.zynq7000.specs.Slcr.{source_code, clock_control_word}
use Rattle.zynq7000_hal.specs.Clocks.{baud_of}
use Rattle.zynq7000_hal.specs.Initialize.{initial_config, loopback_words}
use Rattle.zynq7000_hal.specs.Presets.{io_mode_config}
use Rattle.zynq7000_hal.specs.declared.qspi.BaudRateConfig.{BaudRateConfig}
use Rattle.zynq7000_hal.specs.declared.qspi.BaudRateConfig.TheVariants.{WithLoopback, WithoutLoopback}
use Rattle.zynq7000_hal.specs.declared.qspi.ClockConfig.{ClockConfig}
use Rattle.qspi_transfer.specs.LowLevel.{automatic, manual, chip_select_high}
use Rattle.qspi_transfer.specs.declared.Phase.TheVariants as phase
use Rattle.qspi_transfer.specs.declared.Wire.{Wire}
use Rattle.qspi_transfer.specs.declared.low_level.Sequence.{Sequence}
use Rattle.qspi_transfer.specs.declared.low_level.Sequence.TheVariants.{Initialize, InitializeWithLoopback, EnableLinearAddressing, EnableIoMode, Disable}
use Rattle.qspi_script.specs.declared.Stage.TheVariants as stage
use Rattle.qspi_script.specs.declared.Status.{Status}
use Rattle.qspi_script.specs.declared.Status.TheVariants.{Going, Done, FieldTooWide}
use Rattle.qspi_script.specs.Answer.{said_by}
use Rattle.qspi_script.specs.declared.Gives.{Gives}
use Rattle.qspi_script.specs.declared.Gives.TheVariants as gives
use Rattle.qspi_script.specs.declared.Job.{Job}
use Rattle.qspi_script.specs.declared.Place.{Place}
use Rattle.qspi_operation.specs.Store.{stored}
use Rattle.qspi_operation.specs.Step.{is_going, access_of}
use Rattle.qspi_operation.proofs.Verdicts.{no}
use Rattle.qspi_operation.specs.Machine.{Action, write, modify, Midway, first, changed, nothing, want_at, ends, perform, none, State, going, ended, onward, want, next, status_in, values_in, bytes_in, count_in, overlaid}
use Rattle.qspi_calls.specs.Calls as call
use Rattle.qspi_calls.specs.Calls.{refused}
use Rattle.qspi_calls.specs.Starts as start
use Rattle.qspi_calls.proofs.Tied.{asked, after, given, Tie, Starts}
use Rattle.qspi_calls.proofs.Short.{ended_at_start}

abbrev registers : ℕ → ℕ → Wire
registers c i = record { phase = phase.Registers; config = c; sent = i; read_index = 0; older = 0; old = 0; last = 0 }

abbrev here : Place
here = start.place_at stage.Registers 0 0 0

-- which access of which call is due
data LowAt (word : ℕ) : Sequence → Wire → Midway → Action → List Action → Type 0 where
  i_0 : {c : ℕ} → LowAt word Initialize (registers c 0) first (write 0x00 word) []
  l_0 : {c : ℕ} → LowAt word InitializeWithLoopback (registers c 0) first (write 0x00 word) (write 0x38 (loopback_word 1 0 0) ∷ [])
  l_1 : {c : ℕ} → LowAt word InitializeWithLoopback (registers c 1) first (write 0x38 (loopback_word 1 0 0)) []
  a_0 : {c : ℕ} → LowAt word EnableLinearAddressing (registers c 0) first (write 0x14 0) (modify automatic ∷ write 0xA0 word ∷ [])
  a_1 : {c : ℕ} → LowAt word EnableLinearAddressing (registers c 1) first (modify automatic) (write 0xA0 word ∷ [])
  a_2 : {v : ℕ} → LowAt word EnableLinearAddressing (registers v 2) (changed (automatic v)) (modify automatic) (write 0xA0 word ∷ [])
  a_3 : {c : ℕ} → LowAt word EnableLinearAddressing (registers c 3) first (write 0xA0 word) []
  o_0 : {c : ℕ} → LowAt word EnableIoMode (registers c 0) first (modify manual) (write 0x2C 1 ∷ write 0x28 1 ∷ write 0xA0 word ∷ [])
  o_1 : {v : ℕ} → LowAt word EnableIoMode (registers v 1) (changed (manual v)) (modify manual) (write 0x2C 1 ∷ write 0x28 1 ∷ write 0xA0 word ∷ [])
  o_2 : {c : ℕ} → LowAt word EnableIoMode (registers c 2) first (write 0x2C 1) (write 0x28 1 ∷ write 0xA0 word ∷ [])
  o_3 : {c : ℕ} → LowAt word EnableIoMode (registers c 3) first (write 0x28 1) (write 0xA0 word ∷ [])
  o_4 : {c : ℕ} → LowAt word EnableIoMode (registers c 4) first (write 0xA0 word) []
  d_0 : {c : ℕ} → LowAt word Disable (registers c 0) first (write 0x14 0) (modify chip_select_high ∷ [])
  d_1 : {c : ℕ} → LowAt word Disable (registers c 1) first (modify chip_select_high) []
  d_2 : {v : ℕ} → LowAt word Disable (registers v 2) (changed (chip_select_high v)) (modify chip_select_high) []

module _ (s : Sequence) (word : ℕ) (k : Gives) (t : ℕ) (log : List ℕ) (vs : List ℕ) (value : (w : Wire) → said_by Done (given (start.registers_job s word k t (length log)) w) ≡ said_by Done vs) where
  data Rel : Place → Wire → Status → State → Type 0 where
    low_on : {w : Wire} {m : Midway} {a : Action} {l : List Action} → LowAt word s w m a l → Rel here w Going (going m a l [] none (λ rs. ends Done vs) [] 0)
    low_over : {p : Place} {w : Wire} {a : Status} {us : List ℕ} → is_going a ≡ false → ((v : Wire) → said_by a (given (start.registers_job s word k t (length log)) v) ≡ said_by a us) → Rel p w a (ended a us [] 0)

due_at : (s : Sequence) (word : ℕ) (k : Gives) (t : ℕ) (n : ℕ) {w : Wire} {m : Midway} {a : Action} {l : List Action} → LowAt word s w m a l → access_of (start.registers_job s word k t n) here w [] ≡ asked (want_at m a)
due_at s word k t n i_0 = refl
due_at s word k t n l_0 = refl
due_at s word k t n l_1 = refl
due_at s word k t n a_0 = refl
due_at s word k t n a_1 = refl
due_at s word k t n a_2 = refl
due_at s word k t n a_3 = refl
due_at s word k t n o_0 = refl
due_at s word k t n o_1 = refl
due_at s word k t n o_2 = refl
due_at s word k t n o_3 = refl
due_at s word k t n o_4 = refl
due_at s word k t n d_0 = refl
due_at s word k t n d_1 = refl
due_at s word k t n d_2 = refl

some_at : {s : Sequence} {word : ℕ} {w : Wire} {m : Midway} {a : Action} {l : List Action} → LowAt word s w m a l → want_at m a ≡ nothing → ⊥
some_at i_0 e = let z : ◌≡◌ {A = ℕ} 0 1 = cc in omega arith
some_at l_0 e = let z : ◌≡◌ {A = ℕ} 0 1 = cc in omega arith
some_at l_1 e = let z : ◌≡◌ {A = ℕ} 0 1 = cc in omega arith
some_at a_0 e = let z : ◌≡◌ {A = ℕ} 0 1 = cc in omega arith
some_at a_1 e = let z : ◌≡◌ {A = ℕ} 0 1 = cc in omega arith
some_at a_2 e = let z : ◌≡◌ {A = ℕ} 0 1 = cc in omega arith
some_at a_3 e = let z : ◌≡◌ {A = ℕ} 0 1 = cc in omega arith
some_at o_0 e = let z : ◌≡◌ {A = ℕ} 0 1 = cc in omega arith
some_at o_1 e = let z : ◌≡◌ {A = ℕ} 0 1 = cc in omega arith
some_at o_2 e = let z : ◌≡◌ {A = ℕ} 0 1 = cc in omega arith
some_at o_3 e = let z : ◌≡◌ {A = ℕ} 0 1 = cc in omega arith
some_at o_4 e = let z : ◌≡◌ {A = ℕ} 0 1 = cc in omega arith
some_at d_0 e = let z : ◌≡◌ {A = ℕ} 0 1 = cc in omega arith
some_at d_1 e = let z : ◌≡◌ {A = ℕ} 0 1 = cc in omega arith
some_at d_2 e = let z : ◌≡◌ {A = ℕ} 0 1 = cc in omega arith

step_at_lem : (s : Sequence) (word : ℕ) (k : Gives) (t : ℕ) (log vs : List ℕ) (value : (w : Wire) → said_by Done (given (start.registers_job s word k t (length log)) w) ≡ said_by Done vs)
    {w : Wire} {m : Midway} {a : Action} {l : List Action} (v : ℕ) → LowAt word s w m a l
    → Rel s word k t log vs value (after (start.registers_job s word k t (length log)) here w v).place (after (start.registers_job s word k t (length log)) here w v).wire (after (start.registers_job s word k t (length log)) here w v).status (next (going m a l [] none (λ rs. ends Done vs) [] 0) v)
step_at_lem s word k t log vs value v i_0 = low_over refl value
step_at_lem s word k t log vs value v l_0 = low_on l_1
step_at_lem s word k t log vs value v l_1 = low_over refl value
step_at_lem s word k t log vs value v a_0 = low_on a_1
step_at_lem s word k t log vs value v a_1 = low_on a_2
step_at_lem s word k t log vs value v a_2 = low_on a_3
step_at_lem s word k t log vs value v a_3 = low_over refl value
step_at_lem s word k t log vs value v o_0 = low_on o_1
step_at_lem s word k t log vs value v o_1 = low_on o_2
step_at_lem s word k t log vs value v o_2 = low_on o_3
step_at_lem s word k t log vs value v o_3 = low_on o_4
step_at_lem s word k t log vs value v o_4 = low_over refl value
step_at_lem s word k t log vs value v d_0 = low_on d_1
step_at_lem s word k t log vs value v d_1 = low_on d_2
step_at_lem s word k t log vs value v d_2 = low_over refl value

kept_at : (s : Sequence) (word : ℕ) (k : Gives) (t : ℕ) (n v : ℕ) (buffer : List ℕ) {w : Wire} {m : Midway} {a : Action} {l : List Action} → LowAt word s w m a l → stored (start.registers_job s word k t n) here w v buffer ≡ buffer
kept_at s word k t n v buffer i_0 = refl
kept_at s word k t n v buffer l_0 = refl
kept_at s word k t n v buffer l_1 = refl
kept_at s word k t n v buffer a_0 = refl
kept_at s word k t n v buffer a_1 = refl
kept_at s word k t n v buffer a_2 = refl
kept_at s word k t n v buffer a_3 = refl
kept_at s word k t n v buffer o_0 = refl
kept_at s word k t n v buffer o_1 = refl
kept_at s word k t n v buffer o_2 = refl
kept_at s word k t n v buffer o_3 = refl
kept_at s word k t n v buffer o_4 = refl
kept_at s word k t n v buffer d_0 = refl
kept_at s word k t n v buffer d_1 = refl
kept_at s word k t n v buffer d_2 = refl

module _ (s : Sequence) (word : ℕ) (k : Gives) (t : ℕ) (log : List ℕ) (vs : List ℕ) (value : (w : Wire) → said_by Done (given (start.registers_job s word k t (length log)) w) ≡ said_by Done vs) where
  abbrev R : Place → Wire → Status → State → Type 0
  R = Rel s word k t log vs value

  abbrev job₁ : Job
  job₁ = start.registers_job s word k t (length log)

  r_due : (p : Place) (w : Wire) (z : State) → R p w Going z → access_of job₁ p w [] ≡ asked (want z)
  r_due p w z (low_on q) = due_at s word k t (length log) q
  r_due p w z (low_over g f) = no (sym g)

  r_some : (p : Place) (w : Wire) (z : State) → R p w Going z → want z ≡ nothing → ⊥
  r_some p w z (low_on q) e = some_at q e
  r_some p w z (low_over g f) e = no (sym g)

  r_ends : (p : Place) (w : Wire) (a : Status) (z : State) → R p w a z → is_going a ≡ false → (want z ≡ nothing) × (a ≡ status_in z)
  r_ends p w a z (low_on q) e = no (sym e)
  r_ends p w a z (low_over g f) e = (refl, refl)

  r_values : (p : Place) (w : Wire) (a : Status) (z : State) → R p w a z → is_going a ≡ false → said_by a (given job₁ w) ≡ said_by a (values_in z)
  r_values p w a z (low_on q) e = no (sym e)
  r_values p w a z (low_over g f) e = f w

  r_counts : (p : Place) (w : Wire) (a : Status) (z : State) → R p w a z → count_in z ≡ 0
  r_counts p w a z (low_on q) = refl
  r_counts p w a z (low_over g f) = refl

  r_steps : (p : Place) (w : Wire) (z : State) (v : ℕ) → R p w Going z → R (after job₁ p w v).place (after job₁ p w v).wire (after job₁ p w v).status (next z v)
  r_steps p w z v (low_on q) = step_at_lem s word k t log vs value v q
  r_steps p w z v (low_over g f) = no (sym g)

  r_bytes : {p : Place} {w : Wire} {a : Status} {z : State} → R p w a z → bytes_in z ≡ []
  r_bytes (low_on q) = refl
  r_bytes (low_over g f) = refl

  r_kept : (p : Place) (w : Wire) (z : State) (v : ℕ) (buffer : List ℕ) → R p w Going z → stored job₁ p w v buffer ≡ buffer
  r_kept p w z v buffer (low_on q) = kept_at s word k t (length log) v buffer q
  r_kept p w z v buffer (low_over g f) = no (sym g)

  r_keeps : (p : Place) (w : Wire) (z : State) (v : ℕ) → R p w Going z → stored job₁ p w v (overlaid (bytes_in z) []) ≡ overlaid (bytes_in (next z v)) []
  r_keeps p w z v q = r_kept p w z v (overlaid (bytes_in z) []) q ∙ ap (λ (b : List ℕ). overlaid b []) (r_bytes q ∙ sym (r_bytes (r_steps p w z v q)))

  r_tie : Tie job₁ [] [] R
  r_tie = record { due = r_due; some = r_some; steps = r_steps; over = r_ends; values = r_values; counts = r_counts; keeps = r_keeps }

  low_starts : (a : Action) (l : List Action) → LowAt word s (registers 0 0) first a l → Starts (start.registers_of s word k t (length log)) [] log [] (perform a l none (λ rs. ends Done vs))
  low_starts a l q = record {
    job = job₁;
    place = here;
    wire = registers 0 0;
    status = Going;
    is = refl;
    Rel = R;
    tie = r_tie;
    rel = low_on q;
    lent_data = refl;
    lent_log = refl;
    lent_buffer = refl;
    unread = refl;
  }

pub enable_linear_addressing_lem : (word : ℕ) (log : List ℕ) → Starts (start.registers_of EnableLinearAddressing word gives.Nothing 0 (length log)) [] log [] (call.enable_linear_addressing word)
enable_linear_addressing_lem word log = low_starts EnableLinearAddressing word gives.Nothing 0 log [] (λ w. refl) _ _ a_0

pub enable_io_mode_lem : (dual : Bool) (log : List ℕ) → Starts (start.enable_io_mode dual (length log)) [] log [] (call.enable_io_mode dual)
enable_io_mode_lem dual log = low_starts EnableIoMode (linear_word (io_mode_config dual)) gives.Nothing 0 log [] (λ w. refl) _ _ o_0

pub disable : (log : List ℕ) → Starts (start.registers_of Disable 0 gives.Nothing 0 (length log)) [] log [] call.disable
disable log = low_starts Disable 0 gives.Nothing 0 log [] (λ w. refl) _ _ d_0

module _ (c : ClockConfig) (phase polarity : Bool) (log : List ℕ) where
  abbrev word : ℕ
  word = config_word (initial_config (baud_of c.baud_rate_config) phase polarity)

  -- the clock word that is returned
  abbrev clock : ℕ
  clock = clock_control_word c.ref_clk_div (source_code c.src_sel) 1

  with_loopback : (b : BaudRateConfig) → Starts (start.registers_of (start.initializing b) word gives.Clock clock (length log)) [] log [] (perform (write 0x00 word) (map (write 0x38) (loopback_words b)) none (λ rs. ends Done (clock ∷ [])))
  with_loopback WithLoopback = low_starts InitializeWithLoopback word gives.Clock clock log (clock ∷ []) (λ w. refl) _ _ l_0
  with_loopback (WithoutLoopback d) = low_starts Initialize word gives.Clock clock log (clock ∷ []) (λ w. refl) _ _ i_0

  pub initialize : Starts (start.initialize_of c phase polarity (length log)) [] log [] (call.initialize c phase polarity)
  initialize = go (ltb 63 c.ref_clk_div)
    where
      go : (b : Bool) → Starts (start.pick b (start.over (start.registers_job Initialize 0 gives.Nothing 0 (length log)) FieldTooWide) (start.registers_of (start.initializing c.baud_rate_config) word gives.Clock clock (length log))) [] log []
          (onward b (refused FieldTooWide) (perform (write 0x00 word) (map (write 0x38) (loopback_words c.baud_rate_config)) none (λ rs. ends Done (clock ∷ []))))
      go true = ended_at_start (start.registers_job Initialize 0 gives.Nothing 0 (length log)) [] log [] FieldTooWide refl (λ w. refl) refl refl refl
      go false = with_loopback c.baud_rate_config
