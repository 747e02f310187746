-- What holds of every state that a run of `write_pages` reaches, whatever the replies: the chunk at hand is one that `program` accepts, and
-- the chunks done, at hand and left make up the data. Assumes nothing.
use mathlib.Core.Path.{◌≡◌, refl, ◌∙◌}
use mathlib.Core.Bool.{Bool, true, false, cond, true≢false}
use mathlib.Core.List.{List, [], ◌∷◌, ◌++◌, reverse}
use Prim.Native.Nat.{ℕ, zero, suc, ◌+◌, ◌%◌, ◌≤◌, ◌<◌}
use native.Mathlib.Omega.{arith}
use lib.Dec.{ltb, eqb}
use lib.ListN.{length, take, drop, length-take}
use lib.Seq.{append_snoc}
use borrow.Author.Tests.{ltb-false, eqb-true}
use Rattle.zynq7000.specs.Bits.{is_set}
use Rattle.qspi_transfer.specs.Wire.{waits}
use Rattle.qspi_script.specs.declared.Status.{Status}
use Rattle.qspi_script.specs.declared.Status.TheVariants.{Done, OutOfRange}
use Rattle.qspi_calls.specs.Chunks.{Chunk, chunks_in, chunks}
use Rattle.qspi_operation.specs.Machine.{Transfer}
use Rattle.qspi_calls.specs.Calls.{top}
use Rattle.qspi_calls.proofs.WireOrder.{AllBytes}
use Rattle.qspi_calls.proofs.Phases.{words}
use Rattle.power_cut.proofs.Driver.{Phase, draining, dropping, opening, lowering, switching, sending, starting, releasing, waiting, again, taking, closing, raising, leaving, send_next, take_next, phase_after, taken_after, is_last, Stage, enables, programs, polls, clears, disables, transfer_of, Ending, succeeded, failed, refuses, Past, outset, joined, Driver, at, over, Verdict, accepts, refuses_with, judge, verdict_on, start_on, start_next, settled, stage_after, driver_after, driver_start}

-- ---- chunks

-- a chunk as `write_pages` cuts it
pub record Sound (c : Chunk) : Type 0 where
  pub octets : AllBytes c.bytes
  pub some_byte : 0 < length c.bytes
  pub small : length c.bytes ≤ 128

-- one that `program` accepts
pub record Fit (c : Chunk) : Type 0 where
  pub sound : Sound c
  pub fours : length c.bytes % 4 ≡ 0
  pub in_page : c.address % 256 + length c.bytes ≤ 256
  pub in_range : c.address + length c.bytes ≤ 16777215

abbrev pub AllSound : List Chunk → Type 0
AllSound [] = Unit {0}
AllSound (c ∷ l) = Sound c × AllSound l

abbrev pub AllFit : List Chunk → Type 0
AllFit [] = Unit {0}
AllFit (c ∷ l) = Fit c × AllFit l

pub bytes_take : (n : ℕ) (l : List ℕ) → AllBytes l → AllBytes (take n l)
bytes_take zero l h = tt
bytes_take (suc n) [] h = tt
bytes_take (suc n) (x ∷ l) h = (h.0, bytes_take n l h.1)

bytes_drop : (n : ℕ) (l : List ℕ) → AllBytes l → AllBytes (drop n l)
bytes_drop zero l h = h
bytes_drop (suc n) [] h = tt
bytes_drop (suc n) (x ∷ l) h = bytes_drop n l h.1

sound_in : (n a : ℕ) (bs : List ℕ) → AllBytes bs → AllSound (chunks_in n a bs)
unfolding chunks_in
sound_in zero a bs h = tt
sound_in (suc n) a [] h = tt
sound_in (suc n) a (b ∷ bs) h = (
  record { octets = bytes_take 128 (b ∷ bs) h; some_byte = omega (arith, length-take 128 (b ∷ bs)); small = omega (arith, length-take 128 (b ∷ bs)) },
  sound_in n (a + 128) (drop 128 (b ∷ bs)) (bytes_drop 128 (b ∷ bs) h),
)

pub chunks_sound : (a : ℕ) (bs : List ℕ) → AllBytes bs → AllSound (chunks a bs)
unfolding chunks
chunks_sound a bs h = sound_in (length bs) a bs h

pub record Passed (b₁ b₃ b₄ b₅ : Bool) : Type 0 where
  pub range : b₁ ≡ false
  pub small : b₃ ≡ false
  pub fours : b₄ ≡ true
  pub page : b₅ ≡ false

passed : (b₁ b₃ b₄ b₅ : Bool) → judge b₁ b₃ b₄ b₅ ≡ accepts → Passed b₁ b₃ b₄ b₅
passed true b₃ b₄ b₅ e = let z : ◌≡◌ {A = Bool} true false = cc in absurd (true≢false z)
passed false true b₄ b₅ e = let z : ◌≡◌ {A = Bool} true false = cc in absurd (true≢false z)
passed false false false b₅ e = let z : ◌≡◌ {A = Bool} true false = cc in absurd (true≢false z)
passed false false true true e = let z : ◌≡◌ {A = Bool} true false = cc in absurd (true≢false z)
passed false false true false e = record { range = refl; small = refl; fours = refl; page = refl }

pub fit : (c : Chunk) → Sound c → verdict_on c ≡ accepts → Fit c
unfolding verdict_on
fit c s e =
    let t = passed (ltb 16777215 (c.address + length c.bytes)) (ltb 240 (length c.bytes)) (eqb (length c.bytes % 4) 0) (ltb 256 (c.address % 256 + length c.bytes)) e in
    record { sound = s; fours = eqb-true _ _ t.fours; in_page = ltb-false _ _ t.page; in_range = ltb-false _ _ t.range }

pub fit_snoc : (k : List Chunk) (c : Chunk) → AllFit k → Fit c → AllFit (k ++ c ∷ [])
fit_snoc [] c h f = (f, tt)
fit_snoc (b ∷ k) c h f = (h.0, fit_snoc k c h.1 f)

-- ---- a transfer

-- the words sent, due and left make up the transfer
abbrev pub Split : Transfer → Phase → Type 0
Split x draining = Unit {0}
Split x dropping = Unit {0}
Split x opening = Unit {0}
Split x (lowering c) = Unit {0}
Split x switching = Unit {0}
Split x (sending q w l) = q ++ w ∷ l ≡ words x
Split x starting = Unit {0}
Split x (releasing c) = Unit {0}
Split x (waiting n) = Unit {0}
Split x (again n) = Unit {0}
Split x (taking n) = Unit {0}
Split x closing = Unit {0}
Split x (raising c) = Unit {0}
Split x leaving = Unit {0}

-- so many replies are taken
abbrev pub Taken : Transfer → Phase → List ℕ → Type 0
Taken x draining taken = taken ≡ []
Taken x dropping taken = taken ≡ []
Taken x opening taken = taken ≡ []
Taken x (lowering c) taken = taken ≡ []
Taken x switching taken = taken ≡ []
Taken x (sending q w l) taken = taken ≡ []
Taken x starting taken = taken ≡ []
Taken x (releasing c) taken = taken ≡ []
Taken x (waiting n) taken = length taken + suc n ≡ x.replies
Taken x (again n) taken = length taken + suc n ≡ x.replies
Taken x (taking n) taken = length taken + suc n ≡ x.replies
Taken x closing taken = length taken ≡ x.replies
Taken x (raising c) taken = length taken ≡ x.replies
Taken x leaving taken = length taken ≡ x.replies

module _ (x : Transfer) where
  split_or : (b : Bool) (p q : Phase) → Split x p → Split x q → Split x (cond b p q)
  split_or true p q g h = g
  split_or false p q g h = h

  taken_or : (b : Bool) (p q : Phase) (taken : List ℕ) → Taken x p taken → Taken x q taken → Taken x (cond b p q) taken
  taken_or true p q taken g h = g
  taken_or false p q taken g h = h

  split_sends : (q : List ℕ) (w : ℕ) (t : List ℕ) → q ++ w ∷ t ≡ words x → Split x (send_next (q ++ w ∷ []) t)
  split_sends q w [] h = tt
  split_sends q w (v ∷ t) h = append_snoc q w (v ∷ t) ∙ h

  taken_sends : (q t taken : List ℕ) → taken ≡ [] → Taken x (send_next q t) taken
  taken_sends q [] taken h = h
  taken_sends q (v ∷ t) taken h = h

  split_take : (n : ℕ) → Split x (take_next n)
  split_take zero = tt
  split_take (suc n) = tt

  taken_take : (n : ℕ) (taken : List ℕ) → length taken + n ≡ x.replies → Taken x (take_next n) taken
  taken_take zero taken h = omega (arith, h)
  taken_take (suc n) taken h = h

  none_taken : (taken : List ℕ) → taken ≡ [] → length taken + x.replies ≡ x.replies
  none_taken taken h = rw h (omega arith)

  pub split_next : (p : Phase) (v : ℕ) → Split x p → Split x (phase_after x p v)
  unfolding phase_after
  split_next draining v h = split_or (waits v) dropping opening tt tt
  split_next dropping v h = tt
  split_next opening v h = tt
  split_next (lowering w) v h = tt
  split_next switching v h = refl
  split_next (sending q w t) v h = split_sends q w t h
  split_next starting v h = tt
  split_next (releasing w) v h = split_take x.replies
  split_next (waiting n) v h = split_or (waits v) (cond x.twice (again n) (taking n)) (waiting n) (split_or x.twice (again n) (taking n) tt tt) tt
  split_next (again n) v h = split_or (waits v) (taking n) (waiting n) tt tt
  split_next (taking n) v h = split_take n
  split_next closing v h = tt
  split_next (raising w) v h = tt
  split_next leaving v h = tt

  pub taken_next : (p : Phase) (v : ℕ) (taken : List ℕ) → Taken x p taken → Taken x (phase_after x p v) (taken_after p taken v)
  unfolding phase_after
  taken_next draining v taken h = taken_or (waits v) dropping opening taken h h
  taken_next dropping v taken h = h
  taken_next opening v taken h = h
  taken_next (lowering w) v taken h = h
  taken_next switching v taken h = h
  taken_next (sending q w t) v taken h = taken_sends (q ++ w ∷ []) t taken h
  taken_next starting v taken h = h
  taken_next (releasing w) v taken h = taken_take x.replies taken (none_taken taken h)
  taken_next (waiting n) v taken h = taken_or (waits v) (cond x.twice (again n) (taking n)) (waiting n) taken (taken_or x.twice (again n) (taking n) taken h h) h
  taken_next (again n) v taken h = taken_or (waits v) (taking n) (waiting n) taken h h
  taken_next (taking n) v taken h = taken_take n (v ∷ taken) (omega (arith, h))
  taken_next closing v taken h = h
  taken_next (raising w) v taken h = h
  taken_next leaving v taken h = h

-- ---- a call

module _ (whole : List Chunk) where
  pub record Going (s : Stage) (p : Phase) (taken : List ℕ) (c : Chunk) (l : List Chunk) (k : Past) : Type 0 where
    pub fits : Fit c
    pub others : AllSound l
    pub split : Split (transfer_of s c) p
    pub count : Taken (transfer_of s c) p taken
    pub parts : k.chunks ++ c ∷ l ≡ whole
    pub past : AllFit k.chunks

  pub record Over (a : Ending) (l : List Chunk) (k : Past) : Type 0 where
    pub parts : k.chunks ++ l ≡ whole
    pub past : AllFit k.chunks

  abbrev pub Good : Driver → Type 0
  Good (at s p taken c l k) = Going s p taken c l k
  Good (over succeeded l k) = Over succeeded l k × (l ≡ [])
  Good (over failed l k) = Over failed l k
  Good (over (refuses a) l k) = Over (refuses a) l k × (a ≡ Done → ⊥)

  first_of : {s : Stage} {c : Chunk} {l : List Chunk} {k : Past} → Fit c → AllSound l → k.chunks ++ c ∷ l ≡ whole → AllFit k.chunks → Good (at s draining [] c l k)
  first_of f o e d = record { fits = f; others = o; split = tt; count = refl; parts = e; past = d }

  judged : (b₁ b₃ b₄ b₅ : Bool) (a : Status) → judge b₁ b₃ b₄ b₅ ≡ refuses_with a → a ≡ Done → ⊥
  judged true b₃ b₄ b₅ a e f = let z : ◌≡◌ {A = Bool} true false = cc in absurd (true≢false z)
  judged false true b₄ b₅ a e f = let z : ◌≡◌ {A = Bool} true false = cc in absurd (true≢false z)
  judged false false false b₅ a e f = let z : ◌≡◌ {A = Bool} true false = cc in absurd (true≢false z)
  judged false false true true a e f = let z : ◌≡◌ {A = Bool} true false = cc in absurd (true≢false z)
  judged false false true false a e f = let z : ◌≡◌ {A = Bool} true false = cc in absurd (true≢false z)

  good_on : (y : Verdict) (c : Chunk) (l : List Chunk) (k : Past) → verdict_on c ≡ y → Sound c → AllSound l → k.chunks ++ c ∷ l ≡ whole → AllFit k.chunks → Good (start_on y c l k)
  unfolding verdict_on
  good_on accepts c l k e s o h d = first_of (fit c s e) o h d
  good_on (refuses_with a) c l k e s o h d =
      (record { parts = h; past = d }, judged (ltb 16777215 (c.address + length c.bytes)) (ltb 240 (length c.bytes)) (eqb (length c.bytes % 4) 0) (ltb 256 (c.address % 256 + length c.bytes)) a e)

  pub good_start : (l : List Chunk) (k : Past) → AllSound l → k.chunks ++ l ≡ whole → AllFit k.chunks → Good (start_next l k)
  unfolding start_next
  good_start [] k o h d = (record { parts = h; past = d }, refl)
  good_start (c ∷ l) k o h d = good_on (verdict_on c) c l k refl o.0 o.1 h d

  good_settled : (e b : Bool) (c : Chunk) (l : List Chunk) (k : Past) → Fit c → AllSound l → k.chunks ++ c ∷ l ≡ whole → AllFit k.chunks → Good (settled e b c l k)
  unfolding settled
  good_settled true b c l k f o h d = first_of f o h d
  good_settled false true c l k f o h d = first_of f o h d
  good_settled false false c l k f o h d = good_start l (joined k c) o (append_snoc k.chunks c l ∙ h) (fit_snoc k.chunks c d f)

  good_stage : (s : Stage) (taken : List ℕ) (c : Chunk) (l : List Chunk) (k : Past) → Fit c → AllSound l → k.chunks ++ c ∷ l ≡ whole → AllFit k.chunks → Good (stage_after s taken c l k)
  unfolding stage_after
  good_stage enables taken c l k f o h d = first_of f o h d
  good_stage programs taken c l k f o h d = first_of f o h d
  good_stage polls taken c l k f o h d = good_settled (is_set 6 (top (reverse taken))) (is_set 0 (top (reverse taken))) c l k f o h d
  good_stage clears taken c l k f o h d = first_of f o h d
  good_stage disables taken c l k f o h d = record { parts = h; past = d }

  good_by : (b : Bool) (s : Stage) (p : Phase) (taken : List ℕ) (c : Chunk) (l : List Chunk) (k : Past) (v : ℕ) → Going s p taken c l k
      → Good (cond b (stage_after s taken c l k) (at s (phase_after (transfer_of s c) p v) (taken_after p taken v) c l k))
  good_by true s p taken c l k v g = good_stage s taken c l k g.fits g.others g.parts g.past
  good_by false s p taken c l k v g =
      record { fits = g.fits; others = g.others; split = split_next (transfer_of s c) p v g.split; count = taken_next (transfer_of s c) p v taken g.count; parts = g.parts; past = g.past }

  pub good_next : (d : Driver) (v : ℕ) → Good d → Good (driver_after d v)
  unfolding driver_after
  good_next (at s p taken c l k) v g = good_by (is_last p) s p taken c l k v g
  good_next (over a l k) v g = g

pub good_driver : (a : ℕ) (bs : List ℕ) → AllBytes bs → Good (chunks a bs) (driver_start a bs)
unfolding driver_start
good_driver a bs h = go (ltb 16777215 (a + length bs))
  where
    go : (b : Bool) → Good (chunks a bs) (cond b (over (refuses OutOfRange) (chunks a bs) outset) (start_next (chunks a bs) outset))
    go true = (record { parts = refl; past = tt }, λ e. let z : ◌≡◌ {A = Bool} true false = cc in absurd (true≢false z))
    go false = good_start (chunks a bs) (chunks a bs) outset (chunks_sound a bs h) refl tt
