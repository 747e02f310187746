-- The states of a run of `erase_sectors` over lists, by name: the stage of a sector, the phase of its transfer, the sectors left and done. The phases are those of `write_pages`
-- (proofs/Driver), of whatever transfer. Assumes nothing.
use mathlib.Core.Path.{◌≡◌, refl, ap, ◌∙◌, sym}
use mathlib.Core.Bool.{Bool, true, false, not, ◌&&◌}
use mathlib.Core.List.{List, [], ◌∷◌, ◌++◌, append-nil, reverse}
use Prim.Native.Nat.{ℕ, ◌≤◌}
use lib.ListN.{length, length-append}
use lib.Seq.{append_snoc}
use Rattle.zynq7000.specs.Bits.{is_set}
use Rattle.qspi_script.specs.declared.Status.TheVariants.{Done, EraseErrorBitSet}
use Rattle.qspi_operation.specs.Machine.{Transfer, Script, counts, exchange, State, ended, onward, begin, next}
use Rattle.qspi_calls.specs.Calls.{enabling, disabling, clearing, status_reading, erasing, top, refused, failing, settling, sectors}
use Rattle.power_cut.proofs.Driver.{Phase, draining, dropping, opening, lowering, switching, sending, starting, releasing, waiting, again, taking, closing, raising, leaving, phase_after, taken_after, is_last, in_transfer}
use Rattle.power_cut.proofs.Fits.{Split, Taken, split_next, taken_next}

-- ---- a phase is its transfer's last, or another comes

pub data Next : Phase → Type 0 where
  the_last : Next leaving
  goes_on : {p : Phase} → is_last p ≡ false → Next p

pub next_of : (p : Phase) → Next p
next_of draining = goes_on refl
next_of dropping = goes_on refl
next_of opening = goes_on refl
next_of (lowering c) = goes_on refl
next_of switching = goes_on refl
next_of (sending q w l) = goes_on refl
next_of starting = goes_on refl
next_of (releasing c) = goes_on refl
next_of (waiting n) = goes_on refl
next_of (again n) = goes_on refl
next_of (taking n) = goes_on refl
next_of closing = goes_on refl
next_of (raising c) = goes_on refl
next_of leaving = the_last

-- ---- a sector

pub data Stage : Type 0 where
  enables erases polls clears disables : Stage

abbrev pub transfer_of : Stage → ℕ → Transfer
transfer_of enables a = enabling
transfer_of erases a = erasing a
transfer_of polls a = status_reading
transfer_of clears a = clearing
transfer_of disables a = disabling

-- what comes once a sector is erased
abbrev pub rest : List ℕ → Script
rest l = counts 1 (sectors l)

abbrev pub settle : List ℕ → Script
settle l = settling 5 EraseErrorBitSet (rest l)

abbrev pub then_of : Stage → ℕ → List ℕ → List ℕ → Script
then_of enables a l rs = exchange (erasing a) (λ rs. settle l)
then_of erases a l rs = settle l
then_of polls a l rs = onward (not (is_set 5 (top rs)) && is_set 0 (top rs)) (settle l) (onward (is_set 5 (top rs)) (failing EraseErrorBitSet) (rest l))
then_of clears a l rs = exchange disabling (λ rs. refused EraseErrorBitSet)
then_of disables a l rs = refused EraseErrorBitSet

-- ---- a call

pub data Driver : Type 0 where
  -- stage, phase, replies taken of the transfer (the newest first), sector at hand, sectors left, sectors done
  at : Stage → Phase → List ℕ → ℕ → List ℕ → List ℕ → Driver
  succeeded : List ℕ → Driver  -- sectors done
  failed : ℕ → List ℕ → List ℕ → Driver  -- the sector that failed, sectors left, sectors done

abbrev pub done_by : Driver → List ℕ
done_by (at s p taken a l k) = k
done_by (succeeded k) = k
done_by (failed a l k) = k

abbrev pub state_of : Driver → State
state_of (at s p taken a l k) = in_transfer (transfer_of s a) p taken (then_of s a l) (length k)
state_of (succeeded k) = ended Done [] [] (length k)
state_of (failed a l k) = ended EraseErrorBitSet [] [] (length k)

abbrev pub start_next : List ℕ → List ℕ → Driver
start_next [] k = succeeded k
start_next (a ∷ l) k = at enables draining [] a l k

abbrev pub settled : Bool → Bool → ℕ → List ℕ → List ℕ → Driver
settled true b a l k = at clears draining [] a l k
settled false true a l k = at polls draining [] a l k
settled false false a l k = start_next l (k ++ a ∷ [])

abbrev pub stage_after : Stage → List ℕ → ℕ → List ℕ → List ℕ → Driver
stage_after enables taken a l k = at erases draining [] a l k
stage_after erases taken a l k = at polls draining [] a l k
stage_after polls taken a l k = settled (is_set 5 (top (reverse taken))) (is_set 0 (top (reverse taken))) a l k
stage_after clears taken a l k = at disables draining [] a l k
stage_after disables taken a l k = failed a l k

-- ---- they are the states of the list machine

pub begin_next : (l k : List ℕ) → begin (sectors l) [] (length k) ≡ state_of (start_next l k)
begin_next [] k = refl
begin_next (a ∷ l) k = refl

begin_settled : (e b : Bool) (a : ℕ) (l k : List ℕ) → begin (onward (not e && b) (settle l) (onward e (failing EraseErrorBitSet) (rest l))) [] (length k) ≡ state_of (settled e b a l k)
begin_settled true b a l k = refl
begin_settled false true a l k = refl
begin_settled false false a l k = ap (begin (sectors l) []) (sym (length-append k (a ∷ []))) ∙ begin_next l (k ++ a ∷ [])

pub next_stage : (s : Stage) (taken : List ℕ) (a : ℕ) (l k : List ℕ) (v : ℕ) → next (state_of (at s leaving taken a l k)) v ≡ state_of (stage_after s taken a l k)
next_stage enables taken a l k v = refl
next_stage erases taken a l k v = refl
next_stage polls taken a l k v = begin_settled (is_set 5 (top (reverse taken))) (is_set 0 (top (reverse taken))) a l k
next_stage clears taken a l k v = refl
next_stage disables taken a l k v = refl

-- ---- what holds of every state that a run reaches, whatever the replies: sectors done, at hand and left make up the list

abbrev pub InRange : List ℕ → Type 0
InRange [] = Unit {0}
InRange (a ∷ l) = (a ≤ 16777215) × InRange l

module _ (whole : List ℕ) where
  pub record Going (s : Stage) (p : Phase) (taken : List ℕ) (a : ℕ) (l k : List ℕ) : Type 0 where
    pub in_range : InRange (a ∷ l)
    pub split : Split (transfer_of s a) p
    pub count : Taken (transfer_of s a) p taken
    pub parts : k ++ a ∷ l ≡ whole

  abbrev pub Good : Driver → Type 0
  Good (at s p taken a l k) = Going s p taken a l k
  Good (succeeded k) = k ≡ whole
  Good (failed a l k) = k ++ a ∷ l ≡ whole

  first_of : {s : Stage} {a : ℕ} {l k : List ℕ} → InRange (a ∷ l) → k ++ a ∷ l ≡ whole → Good (at s draining [] a l k)
  first_of i e = record { in_range = i; split = tt; count = refl; parts = e }

  pub good_start : (l k : List ℕ) → InRange l → k ++ l ≡ whole → Good (start_next l k)
  good_start [] k i e = sym (append-nil k) ∙ e
  good_start (a ∷ l) k i e = first_of i e

  good_settled : (e b : Bool) (a : ℕ) (l k : List ℕ) → InRange (a ∷ l) → k ++ a ∷ l ≡ whole → Good (settled e b a l k)
  good_settled true b a l k i h = first_of i h
  good_settled false true a l k i h = first_of i h
  good_settled false false a l k i h = good_start l (k ++ a ∷ []) i.1 (append_snoc k a l ∙ h)

  pub good_stage : (s : Stage) (taken : List ℕ) (a : ℕ) (l k : List ℕ) → InRange (a ∷ l) → k ++ a ∷ l ≡ whole → Good (stage_after s taken a l k)
  good_stage enables taken a l k i h = first_of i h
  good_stage erases taken a l k i h = first_of i h
  good_stage polls taken a l k i h = good_settled (is_set 5 (top (reverse taken))) (is_set 0 (top (reverse taken))) a l k i h
  good_stage clears taken a l k i h = first_of i h
  good_stage disables taken a l k i h = h

  pub good_phase : {s : Stage} (p : Phase) {taken : List ℕ} {a : ℕ} {l k : List ℕ} (v : ℕ) → Going s p taken a l k → Going s (phase_after (transfer_of s a) p v) (taken_after p taken v) a l k
  good_phase {s} p {taken} {a} v g = record { in_range = g.in_range; split = split_next (transfer_of s a) p v g.split; count = taken_next (transfer_of s a) p v taken g.count; parts = g.parts }
