-- `read_index` of `program`, `write_pages` and the reads, over every run of theirs: "Replies are counted in bytes, each adding 4 by a wrapping add", which never wraps. Assumes nothing.
use mathlib.Core.Path.{◌≡◌, refl, ap, ◌∙◌, sym}
use mathlib.Core.Bool.{Bool, true, false}
use mathlib.Core.List.{List}
use Prim.Native.Nat.{ℕ, ◌+◌, ◌-◌, ◌%◌, ◌^◌, ◌≤◌, ◌<◌, min}
use native.Mathlib.Omega.{arith}
use lib.Dec.{ltb, leb, eqb}
use lib.ListN.{length}
use borrow.Author.Tests.{ltb-true, ltb-false, le-leb, eqb-true}
use Rattle.zynq7000.specs.Bits.{is_set, flag_value}
use Rattle.zedboard_bsp.specs.Words.{top_byte}
use Rattle.qspi_transfer.specs.Wire.{choose, waits, fresh_wire, at_phase, config_read, pick_wire, another_sent, four_more, reply_taken, another_register, pick_moved, next_at, wire_next}
use Rattle.qspi_transfer.proofs.ReadIndex.{never_wraps}
use Rattle.qspi_transfer.specs.declared.Due.{Due}
use Rattle.qspi_transfer.specs.declared.Due.TheVariants as due
use Rattle.qspi_transfer.specs.declared.Frame.{Frame}
use Rattle.qspi_transfer.specs.declared.Phase.{Phase}
use Rattle.qspi_transfer.specs.declared.Phase.TheVariants.{DrainStatus, DrainData, OpenRead, OpenWrite, Enable, Send, StartRead, StartWrite, Wait, WaitAgain, Take, CloseRead, CloseWrite, Disable, Registers}
use Rattle.qspi_transfer.specs.declared.Wire.{Wire}
use Rattle.qspi_script.specs.Stages.{frame_of, chunk_address}
use Rattle.zedboard_bsp.specs.Limits.{largest_chunk}
use Rattle.qspi_script.specs.Turns.{turn_of, pick, begin, finish, settled, settled_by, page_at, next_page, next_chunk}
use Rattle.qspi_script.specs.declared.Stage.{Stage}
use Rattle.qspi_script.specs.declared.Stage.TheVariants as stage
use Rattle.qspi_script.specs.declared.Status.{Status}
use Rattle.qspi_script.specs.declared.Status.TheVariants.{Done, OutOfRange, DataTooLarge, NotAligned, CrossesPageBoundary, AddressSpan}
use Rattle.qspi_script.specs.declared.Sequel.{Sequel}
use Rattle.qspi_script.specs.declared.Sequel.TheVariants.{Once, Pages, Sectors}
use Rattle.qspi_script.specs.declared.Job.{Job}
use Rattle.qspi_script.specs.declared.Place.{Place}
use Rattle.qspi_script.specs.declared.Turned.{Turned}
use Rattle.qspi_operation.specs.declared.Op.{Op}
use Rattle.std.specs.Prelude.{Option, Some, None}
use Rattle.qspi_operation.specs.Step.{Ended, Changed, Full}
use Rattle.qspi_operation.specs.Step.{is_going, access_of, answered, same_lengths, act, moved, moved_by, counted, step_of}
use Rattle.qspi_operation.specs.Step as step
use Rattle.qspi_operation.proofs.Verdicts.{no}
use Rattle.qspi_calls.specs.Starts as start

-- an operation after any number of steps, whatever each of them is lent and handed
pub data Later (o : Op) : Op → Type 0 where
  now : Later o o
  then : {p : Op} → Later o p → (bytes : List ℕ) (buffer room : ℕ) (r : Option ℕ) → Later o (step_of p bytes buffer room r).op

-- a reply is to come
abbrev awaits : Phase → Bool
awaits DrainStatus = false
awaits DrainData = false
awaits OpenRead = false
awaits OpenWrite = false
awaits Enable = false
awaits Send = false
awaits StartRead = false
awaits StartWrite = false
awaits Wait = true
awaits WaitAgain = true
awaits Take = true
awaits CloseRead = false
awaits CloseWrite = false
awaits Disable = false
awaits Registers = false

-- ---- one transfer

-- whole words, no more than the frame has bytes, and fewer where a reply is to come
record Sound (f : Frame) (w : Wire) : Type 0 where
  pub fours : w.read_index % 4 ≡ 0
  pub within : w.read_index ≤ f.bytes
  pub more : awaits w.phase ≡ true → w.read_index < f.bytes

abbrev SoundMoved : Frame → Option Wire → Type 0
SoundMoved f (Some w) = Sound f w
SoundMoved f None = Unit {0}

module _ (f : Frame) (w : Wire) (v : ℕ) (s : Sound f w) where
  -- a phase in which no reply is to come
  rests : (p : Phase) → awaits p ≡ false → Sound f (at_phase w p)
  rests p e = record { fours = s.fours; within = s.within; more = λ h. no (sym e ∙ h) }

  reads_config : (p : Phase) → awaits p ≡ false → Sound f (config_read w p v)
  reads_config p e = record { fours = s.fours; within = s.within; more = λ h. no (sym e ∙ h) }

  -- one in which one is
  stays : awaits w.phase ≡ true → (p : Phase) → Sound f (at_phase w p)
  stays e p = record { fours = s.fours; within = s.within; more = λ h. s.more e }

  drained : (b : Bool) → Sound f (at_phase w (choose b DrainData OpenRead))
  drained true = rests DrainData refl
  drained false = rests OpenRead refl

  sent : (b : Bool) → Sound f (pick_wire b (another_sent w) (at_phase w StartRead))
  sent true = record { fours = s.fours; within = s.within; more = λ h. no h }
  sent false = rests StartRead refl

  started : (b : Bool) → ltb w.read_index f.bytes ≡ b → Sound f (at_phase w (choose b Wait CloseRead))
  started true e = record { fours = s.fours; within = s.within; more = λ h. ltb-true w.read_index f.bytes e }
  started false e = rests CloseRead refl

  registered : (b : Bool) → SoundMoved f (pick_moved b (Some (another_register w v)) None)
  registered true = record { fours = s.fours; within = s.within; more = λ h. no h }
  registered false = tt

  module _ (words : f.bytes % 4 ≡ 0) (few : f.bytes < 2 ^ 32) where
    -- 4 more, and no wrap
    four_exact : awaits w.phase ≡ true → four_more w.read_index ≡ w.read_index + 4
    four_exact e = never_wraps w.read_index (omega (arith, s.more e, few, s.fours, words))

    took : awaits w.phase ≡ true → Sound f (reply_taken w f v)
    took e = go (ltb (four_more w.read_index) f.bytes) refl
      where
        go : (b : Bool) → ltb (four_more w.read_index) f.bytes ≡ b → Sound f (record { phase = choose b Wait CloseRead; config = w.config; sent = w.sent; read_index = four_more w.read_index; older = w.old; old = w.last; last = v })
        go b e₁ = record {
          fours = rw (four_exact e) (omega (arith, s.fours));
          within = rw (four_exact e) (omega (arith, s.fours, words, s.more e));
          more = λ h. before b e₁ h;
        }
          where
            before : (b : Bool) → ltb (four_more w.read_index) f.bytes ≡ b → awaits (choose b Wait CloseRead) ≡ true → four_more w.read_index < f.bytes
            before true k h = ltb-true (four_more w.read_index) f.bytes k
            before false k h = no h

    sound_next : SoundMoved f (wire_next w f v)
    sound_next = go w.phase refl
      where
        go : (p : Phase) → w.phase ≡ p → SoundMoved f (next_at p w f v)
        go DrainStatus e = drained (waits v)
        go DrainData e = rests DrainStatus refl
        go OpenRead e = reads_config OpenWrite refl
        go OpenWrite e = rests Enable refl
        go Enable e = rests Send refl
        go Send e = sent (ltb w.sent f.words)
        go StartRead e = reads_config StartWrite refl
        go StartWrite e = started (ltb w.read_index f.bytes) refl
        go Wait e = stays (ap awaits e) (choose (waits v) (choose f.twice WaitAgain Take) Wait)
        go WaitAgain e = stays (ap awaits e) (choose (waits v) Take Wait)
        go Take e = took (ap awaits e)
        go CloseRead e = reads_config CloseWrite refl
        go CloseWrite e = rests Disable refl
        go Disable e = tt
        go Registers e = registered (ltb w.sent f.words)

-- ---- a call

-- at most so many, and 4 fewer where a reply is to come
pub record Bound (limit : ℕ) (w : Wire) : Type 0 where
  pub most : w.read_index ≤ limit
  pub before : w.phase ≡ Take → w.read_index + 4 ≤ limit
  pub exact : w.phase ≡ Take → four_more w.read_index ≡ w.read_index + 4

fresh_sound : (f : Frame) → Sound f (fresh_wire DrainStatus)
fresh_sound f = record { fours = refl; within = omega arith; more = λ h. no h }

sound_bound : (limit : ℕ) (f : Frame) (w : Wire) → limit < 2 ^ 32 → f.bytes ≤ limit → f.bytes % 4 ≡ 0 → Sound f w → Bound limit w
sound_bound limit f w small h e s = record {
  most = omega (arith, h, s.within);
  before = λ t. omega (arith, h, e, s.fours, s.more (ap awaits t));
  exact = λ t. four_exact f w 0 s e (omega (arith, h, small)) (ap awaits t);
}

fresh_bound : (limit : ℕ) → Bound limit (fresh_wire DrainStatus)
fresh_bound limit = record { most = omega arith; before = λ t. no (ap awaits t); exact = λ t. no (ap awaits t) }

-- the places that a call comes to, each with a transfer of whole words within the limit
record Frames (job : Job) (limit : ℕ) (At : Place → Type 0) : Type 0 where
  pub most : (p : Place) → At p → (frame_of job p).bytes ≤ limit
  pub fours : (p : Place) → At p → (frame_of job p).bytes % 4 ≡ 0
  pub turn : (p : Place) → At p → (r : ℕ) → At (turn_of job p r).place

module _ (job : Job) (limit : ℕ) (small : limit < 2 ^ 32) (At : Place → Type 0) (h : Frames job limit At) where
  abbrev op : Place → Wire → ℕ → ℕ → Status → Op
  op p w u i a = record { job = job; place = p; wire = w; used = u; replies = i; status = a }

  data Held : Op → Type 0 where
    goes : {p : Place} {w : Wire} {u i : ℕ} {a : Status} → At p → Sound (frame_of job p) w → Held (op p w u i a)
    over : {p : Place} {w : Wire} {u i : ℕ} {a : Status} → is_going a ≡ false → Bound limit w → Held (op p w u i a)

  bound_of : (p : Place) (w : Wire) → At p → Sound (frame_of job p) w → Bound limit w
  bound_of p w q s = sound_bound limit (frame_of job p) w small (h.most p q) (h.fours p q) s

  held_bound : {o : Op} → Held o → Bound limit o.wire
  held_bound (goes {p} {w} q s) = bound_of p w q s
  held_bound (over e b) = b

  module _ (p : Place) (w : Wire) (u i : ℕ) (a : Status) (q : At p) (s : Sound (frame_of job p) w) where
    turned : (t : Turned) → At t.place → (u' i' : ℕ) → Held (step.turned_to (op p w u i a) t u' i').op
    turned t k u' i' = go (is_going t.status) refl
      where
        go : (b : Bool) → is_going t.status ≡ b → Held (op t.place (pick_wire b (fresh_wire DrainStatus) w) u' i' t.status)
        go true e = goes k (fresh_sound (frame_of job t.place))
        go false e = over e (bound_of p w q s)

    moves : (u' i' v : ℕ) → Held (moved (op p w u i a) u' i' v).op
    moves u' i' v = go (wire_next w (frame_of job p) v) (sound_next (frame_of job p) w v s (h.fours p q) (omega (arith, h.most p q, small)))
      where
        go : (m : Option Wire) → SoundMoved (frame_of job p) m → Held (moved_by m (op p w u i a) u' i').op
        go (Some x) k = goes q k
        go None k = turned (turn_of job p w.last) (h.turn p q w.last) u' i'

    stepped : (bytes : List ℕ) (buffer room : ℕ) (r : Option ℕ) → Held (step_of (op p w u i a) bytes buffer room r).op
    stepped bytes buffer room r = go (is_going a) (same_lengths job (length bytes) buffer room) (leb (u + 2) room) (access_of job p w bytes) r
      where
        go : (g l f : Bool) (x : Due) (r : Option ℕ) → Held (act (step.choose g (step.choose l (step.choose f (answered x r) Full) Changed) Ended) (op p w u i a)).op
        go false l f x r = goes q s
        go true false f x r = goes q s
        go true true false x r = over refl (bound_of p w q s)
        go true true true (due.Read k) (Some v) = moves (u + 2) (counted true i) v
        go true true true (due.Read k) None = over refl (bound_of p w q s)
        go true true true (due.Write k v) r = moves (u + 2) (counted false i) v

  held_step : {o : Op} (bytes : List ℕ) (buffer room : ℕ) (r : Option ℕ) → Held o → Held (step_of o bytes buffer room r).op
  held_step bytes buffer room r (goes {p} {w} {u} {i} {a} q s) = stepped p w u i a q s bytes buffer room r
  held_step bytes buffer room r (over {p} {w} {u} {i} {a} e b) = rw e (over e b)

  held_later : {o p : Op} → Held o → Later o p → Held p
  held_later k now = k
  held_later k (then l bytes buffer room r) = held_step bytes buffer room r (held_later k l)

-- a step that takes a reply: 4 more
takes_four : (o : Op) (bytes : List ℕ) (buffer room v limit : ℕ) → Bound limit o.wire → o.wire.phase ≡ Take → is_going o.status ≡ true → same_lengths o.job (length bytes) buffer room ≡ true → o.used + 2 ≤ room
    → (step_of o bytes buffer room (Some v)).op.wire.read_index ≡ o.wire.read_index + 4
takes_four o bytes buffer room v limit b t g l f =
    let k : leb (o.used + 2) room ≡ true = le-leb (o.used + 2) room f in
    rw (g, l, k, t) (b.exact t)

-- what holds of `read_index` after every number of steps: its largest value, where a reply is about to be taken 4 less, and a step that takes it adds 4
pub record Never (limit : ℕ) (o : Op) : Type 0 where
  pub most : o.wire.read_index ≤ limit
  pub before : o.wire.phase ≡ Take → o.wire.read_index + 4 ≤ limit
  pub four : (bytes : List ℕ) (buffer room v : ℕ) → o.wire.phase ≡ Take → is_going o.status ≡ true → same_lengths o.job (length bytes) buffer room ≡ true → o.used + 2 ≤ room
      → (step_of o bytes buffer room (Some v)).op.wire.read_index ≡ o.wire.read_index + 4

never_of : (limit : ℕ) (o : Op) → Bound limit o.wire → Never limit o
never_of limit o b = record { most = b.most; before = b.before; four = λ bytes buffer room v t g l f. takes_four o bytes buffer room v limit b t g l f }

-- ---- program and write_pages

data WorkStage : Stage → Type 0 where
  is_enable : WorkStage stage.Enable
  is_program : WorkStage stage.Program
  is_poll : WorkStage stage.Poll
  is_clear : WorkStage stage.Clear
  is_disable : WorkStage stage.Disable

-- a chunk of whole words, no longer than the largest, or the end
data WorkAt (largest : ℕ) : Place → Type 0 where
  work_at : {s : Stage} {d c sr cr : ℕ} → WorkStage s → c ≤ largest → c % 4 ≡ 0 → WorkAt largest (record { stage = s; done = d; chunk = c; sr = sr; cr = cr })
  work_end : {d c sr cr : ℕ} → WorkAt largest (record { stage = stage.End; done = d; chunk = c; sr = sr; cr = cr })

module _ (sequel : Sequel) (a n log largest : ℕ) (least : 128 ≤ largest) where
  abbrev work_job : Job
  work_job = start.programs_job sequel a n log

  -- "n + 1 replies": 4 more than the chunk has bytes
  work_most : (p : Place) → WorkAt largest p → (frame_of work_job p).bytes ≤ largest + 4
  work_most p (work_at is_enable h e) = omega arith
  work_most p (work_at is_program h e) = omega (arith, h)
  work_most p (work_at is_poll h e) = omega arith
  work_most p (work_at is_clear h e) = omega arith
  work_most p (work_at is_disable h e) = omega arith
  work_most p work_end = omega arith

  work_fours : (p : Place) → WorkAt largest p → (frame_of work_job p).bytes % 4 ≡ 0
  work_fours p (work_at is_enable h e) = refl
  work_fours p (work_at is_program h e) = omega (arith, e)
  work_fours p (work_at is_poll h e) = refl
  work_fours p (work_at is_clear h e) = refl
  work_fours p (work_at is_disable h e) = refl
  work_fours p work_end = refl

  -- the chunk after the bytes done
  next_page_lem : (s : Stage) (d c sr cr : ℕ) → WorkAt largest (next_page work_job (record { stage = s; done = d; chunk = c; sr = sr; cr = cr })).place
  next_page_lem s d c sr cr = go (eqb (min (n - d) 128) 0) (eqb (min (n - d) 128 % 4) 0) refl (ltb 256 (chunk_address work_job (page_at work_job (record { stage = s; done = d; chunk = c; sr = sr; cr = cr })) % 256 + min (n - d) 128))
    where
      at : Place
      at = page_at work_job (record { stage = s; done = d; chunk = c; sr = sr; cr = cr })

      go : (x y : Bool) → eqb (min (n - d) 128 % 4) 0 ≡ y → (z : Bool) → WorkAt largest (pick x (finish at Done) (pick y (pick z (finish at CrossesPageBoundary) (begin at stage.Enable)) (finish at NotAligned))).place
      go true y e z = work_end
      go false false e z = work_end
      go false true e true = work_end
      go false true e false = let k : min (n - d) 128 ≤ largest = omega (arith, least) in work_at is_enable k (eqb-true (min (n - d) 128 % 4) 0 e)

  work_settled : (q : Sequel) (d c sr cr : ℕ) → c ≤ largest → c % 4 ≡ 0 → WorkAt largest (settled_by q work_job (record { stage = stage.Poll; done = d; chunk = c; sr = sr; cr = cr })).place
  work_settled Once d c sr cr h e = work_end
  work_settled Pages d c sr cr h e = next_page_lem stage.Poll ((d + c) % 2 ^ 64) c sr cr
  work_settled Sectors d c sr cr h e = go (ltb ((d + 1) % 2 ^ 64) n)
    where
      at : Place
      at = record { stage = stage.Poll; done = (d + 1) % 2 ^ 64; chunk = c; sr = sr; cr = cr }

      go : (x : Bool) → WorkAt largest (pick x (begin at stage.Enable) (finish at Done)).place
      go true = work_at is_enable h e
      go false = work_end

  work_turn : (p : Place) → WorkAt largest p → (r : ℕ) → WorkAt largest (turn_of work_job p r).place
  work_turn p (work_at is_enable h e) r = work_at is_program h e
  work_turn p (work_at is_program h e) r = work_at is_poll h e
  work_turn p (work_at {d = d} {c = c} {sr = sr} {cr = cr} is_poll h e) r = go (is_set 6 (top_byte r)) (is_set 0 (top_byte r))
    where
      at : Place
      at = record { stage = stage.Poll; done = d; chunk = c; sr = sr; cr = cr }

      go : (x y : Bool) → WorkAt largest (pick x (begin at stage.Clear) (pick y (begin at stage.Poll) (settled work_job at))).place
      go true y = work_at is_clear h e
      go false true = work_at is_poll h e
      go false false = work_settled sequel d c sr cr h e
  work_turn p (work_at is_clear h e) r = work_at is_disable h e
  work_turn p (work_at is_disable h e) r = work_end
  work_turn p work_end r = work_end

  work_frames : Frames work_job (largest + 4) (WorkAt largest)
  work_frames = record { most = work_most; fours = work_fours; turn = work_turn }

  module _ (small : largest + 4 < 2 ^ 32) where
    abbrev WorkHeld : Op → Type 0
    WorkHeld o = Held work_job (largest + 4) small (WorkAt largest) work_frames o

    work_never : (o₀ o : Op) → WorkHeld o₀ → Later o₀ o → Never (largest + 4) o
    work_never o₀ o k l = never_of (largest + 4) o (held_bound work_job (largest + 4) small (WorkAt largest) work_frames (held_later work_job (largest + 4) small (WorkAt largest) work_frames k l))

    -- refused at the start
    work_over : (s : Status) → is_going s ≡ false → WorkHeld (start.over work_job s)
    work_over s e = over e (fresh_bound (largest + 4))

program_starts : (a n log : ℕ) (small : 244 < 2 ^ 32) (least : 128 ≤ 240) → WorkHeld Once a n log 240 least small (start.program_of a n log)
program_starts a n log small least = go (ltb 16777215 (a + n)) (ltb 240 n) refl (eqb (n % 4) 0) refl (ltb 256 (a % 256 + n))
  where
    go : (x₁ x₂ : Bool) → ltb 240 n ≡ x₂ → (x₃ : Bool) → eqb (n % 4) 0 ≡ x₃ → (x₄ : Bool)
        → WorkHeld Once a n log 240 least small
        (start.pick x₁ (start.over (start.programming_job a n log) OutOfRange)
        (start.pick x₂ (start.over (start.programming_job a n log) DataTooLarge)
        (start.pick x₃ (start.pick x₄ (start.over (start.programming_job a n log) CrossesPageBoundary) (start.going (start.programming_job a n log) (start.place_at stage.Enable n 0 0))) (start.over (start.programming_job a n log) NotAligned))))
    go true x₂ e₂ x₃ e₃ x₄ = work_over Once a n log 240 least small OutOfRange refl
    go false true e₂ x₃ e₃ x₄ = work_over Once a n log 240 least small DataTooLarge refl
    go false false e₂ false e₃ x₄ = work_over Once a n log 240 least small NotAligned refl
    go false false e₂ true e₃ true = work_over Once a n log 240 least small CrossesPageBoundary refl
    go false false e₂ true e₃ false = goes (work_at is_enable (ltb-false 240 n e₂) (eqb-true (n % 4) 0 e₃)) (fresh_sound _)

-- THEOREM. Of `program`, whatever its address and length, after every number of steps, whatever each is lent and handed: `read_index` is at most 244, at most 240 where a reply is about to be
-- taken, and taking it adds 4, so that it never wraps.
pub program_never_wraps : (a n log : ℕ) (o : Op) → Later (start.program_of a n log) o → Never 244 o
program_never_wraps a n log o l =
    let small : 244 < 2 ^ 32 = omega arith in
    let least : 128 ≤ 240 = omega arith in
    work_never Once a n log 240 least small (start.program_of a n log) o (program_starts a n log small least) l

pages_starts : (a n log : ℕ) (small : 132 < 2 ^ 32) (least : 128 ≤ 128) → WorkHeld Pages a n log 128 least small (start.write_pages_of a n log)
pages_starts a n log small least = go (ltb 16777215 (a + n))
  where
    go : (x : Bool) → WorkHeld Pages a n log 128 least small (start.pick x (start.over (start.paging_job a n log) OutOfRange) (start.opened (start.paging_job a n log) (next_page (start.paging_job a n log) (start.place_at stage.Enable 0 0 0))))
    go true = work_over Pages a n log 128 least small OutOfRange refl
    go false = goes (next_page_lem Pages a n log 128 least stage.Enable 0 0 0 0) (fresh_sound _)

-- of `write_pages` it is at most 132: a chunk's bytes, and 4 for the reply to the command word
pub pages_never_wraps : (a n log : ℕ) (o : Op) → Later (start.write_pages_of a n log) o → Never 132 o
pages_never_wraps a n log o l =
    let small : 132 < 2 ^ 32 = omega arith in
    let least : 128 ≤ 128 = omega arith in
    work_never Pages a n log 128 least small (start.write_pages_of a n log) o (pages_starts a n log small least) l

-- ---- the reads

data ReadAt (dummy : Bool) : Place → Type 0 where
  read_at : {d c sr cr : ℕ} → c + flag_value dummy ≤ 248 → ReadAt dummy (record { stage = stage.Read; done = d; chunk = c; sr = sr; cr = cr })
  read_end : {d c sr cr : ℕ} → ReadAt dummy (record { stage = stage.End; done = d; chunk = c; sr = sr; cr = cr })

chunk_fits : (dummy : Bool) (left : ℕ) → min left (largest_chunk dummy) + flag_value dummy ≤ 248
chunk_fits true left = omega arith
chunk_fits false left = omega arith

module _ (a : ℕ) (fast dummy : Bool) (n log : ℕ) where
  abbrev read_job : Job
  read_job = start.reading_job a fast dummy n log

  read_most : (p : Place) → ReadAt dummy p → (frame_of read_job p).bytes ≤ 252
  read_most p (read_at h) = omega (arith, h)
  read_most p read_end = omega arith

  read_fours : (p : Place) → ReadAt dummy p → (frame_of read_job p).bytes % 4 ≡ 0
  read_fours p (read_at h) = omega arith
  read_fours p read_end = refl

  read_turn : (p : Place) → ReadAt dummy p → (r : ℕ) → ReadAt dummy (turn_of read_job p r).place
  read_turn p (read_at {d} {c} {sr} {cr} h) r = go (eqb (min (n - (d + c) % 2 ^ 64) (largest_chunk dummy)) 0)
    where
      at : Place
      at = record { stage = stage.Read; done = (d + c) % 2 ^ 64; chunk = min (n - (d + c) % 2 ^ 64) (largest_chunk dummy); sr = sr; cr = cr }

      go : (x : Bool) → ReadAt dummy (pick x (finish at Done) (begin at stage.Read)).place
      go true = read_end
      go false = read_at (chunk_fits dummy (n - (d + c) % 2 ^ 64))
  read_turn p read_end r = read_end

  read_frames : Frames read_job 252 (ReadAt dummy)
  read_frames = record { most = read_most; fours = read_fours; turn = read_turn }

  read_starts : (small : 252 < 2 ^ 32) → Held read_job 252 small (ReadAt dummy) read_frames (start.read_of a fast dummy n log)
  read_starts small = go (ltb 4294967296 (a + n)) (eqb n 0)
    where
      go : (x y : Bool) → Held read_job 252 small (ReadAt dummy) read_frames
          (start.pick x (start.over read_job AddressSpan) (start.pick y (start.over read_job Done) (start.going read_job (start.place_at stage.Read (next_chunk n 0 dummy) 0 0))))
      go true y = over refl (fresh_bound 252)
      go false true = over refl (fresh_bound 252)
      go false false = goes (read_at (chunk_fits dummy (n - 0))) (fresh_sound _)

  -- of a read it is at most 252: 63 words, the reply to the command among them
  pub read_never_wraps : (o : Op) → Later (start.read_of a fast dummy n log) o → Never 252 o
  read_never_wraps o l =
      let small : 252 < 2 ^ 32 = omega arith in
      never_of 252 o (held_bound read_job 252 small (ReadAt dummy) read_frames (held_later read_job 252 small (ReadAt dummy) read_frames (read_starts small) l))
