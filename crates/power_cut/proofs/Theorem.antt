-- One save over lists: along its log, on a device and whatever the replies; the array that a cut leaves; and its count. Assumes nothing.
use mathlib.Core.Path.{◌≡◌, refl, ap, ◌∙◌, sym}
use mathlib.Core.Bool.{Bool, true, false, cond}
use mathlib.Core.Option.{none}
use mathlib.Core.List.{List, [], ◌∷◌, ◌++◌, append-nil}
use Prim.Native.Nat.{ℕ, zero, suc, ◌+◌}
use native.Mathlib.Omega.{arith}
use lib.Dec.{ltb}
use lib.ListN.{length, take}
use Rattle.zynq7000.specs.Access.{value_word}
use Rattle.zynq7000.specs.declared.qspi.Access.{Access}
use Rattle.qspi_script.specs.declared.Status.TheVariants.{Going, Done, OutOfRange, RepliesEnded, LogFull}
use Rattle.qspi_calls.specs.Chunks.{Chunk, chunks, Among, here}
use Rattle.qspi_operation.specs.Machine.{Transfer, State, nothing, want, want_at, next, status_in, count_in, begin, Matches, m_write, Makes, after}
use Rattle.qspi_calls.specs.Calls.{write_pages}
use Rattle.qspi_calls.proofs.WireOrder.{AllBytes}
use Rattle.power_cut.specs.Flash.{Array, lands, Flash, AfterCut}
use Rattle.power_cut.specs.Controller.{Device, flash_of, Trace, still, quiet, step}
use Rattle.power_cut.specs.Observer.{closed, Observed, see, sees, observed}
use Rattle.power_cut.specs.Statement.{In, total, NextOnly, no_doubt, the_next, Save}
use Rattle.power_cut.proofs.Driver.{Phase, draining, dropping, opening, lowering, switching, sending, starting, releasing, waiting, again, taking, closing, raising, leaving, midway, action, is_last, Stage, enables, programs, polls, clears, disables, succeeded, failed, refuses, Past, outset, Driver, at, over, state_of, start_next, driver_after, driver_start, next_is, start_is}
use Rattle.power_cut.proofs.Fits.{Fit, Good, good_next, good_driver}
use Rattle.power_cut.proofs.Levels.{high_start}
use Rattle.power_cut.proofs.Watch.{risen_at, doubt_at, view, view_start, level_after, watch}
use Rattle.power_cut.proofs.Lands.{applied, lands_out, spared, beside, chunks_total}
use Rattle.power_cut.proofs.Control.{Held, held, c_release}
use Rattle.power_cut.proofs.OnDevice.{Calm, calm, Ready, ready, Works, under, past, FlashAt, OnDevice, during, silent, advance}
use Rattle.power_cut.proofs.OnDevice as on

-- ---- the logs that a machine makes

pub follows_take : (k : ℕ) (s : State) (l : List Access) → Makes s l → Makes s (take k l)
follows_take zero s l h = tt
follows_take (suc k) s [] h = tt
follows_take (suc k) s (a ∷ l) h = (h.0, follows_take k (next s (value_word a)) l h.1)

-- ---- the driver along such a log

abbrev pub driven : Driver → List Access → Driver
driven d [] = d
driven d (a ∷ l) = driven (driver_after d (value_word a)) l

pub driven_is : (d : Driver) (l : List Access) → after (state_of d) l ≡ state_of (driven d l)
driven_is d [] = refl
driven_is d (a ∷ l) = rw (next_is d (value_word a)) (driven_is (driver_after d (value_word a)) l)

pub follows_on : (d : Driver) (a : Access) (l : List Access) → Makes (state_of d) (a ∷ l) → Makes (state_of (driver_after d (value_word a))) l
follows_on d a l f = (rw (next_is d (value_word a)) at f).1

pub good_driven : (whole : List Chunk) (d : Driver) (l : List Access) → Good whole d → Good whole (driven d l)
good_driven whole d [] g = g
good_driven whole d (a ∷ l) g = good_driven whole (driver_after d (value_word a)) l (good_next whole d (value_word a) g)

-- ---- what the log shows of finished chunks, whatever the replies

abbrev pub finished_by : Driver → List Chunk
finished_by (at s p taken c l k) = k.chunks
finished_by (over a l k) = k.chunks

pub finished_by_lem : (early : List Chunk) (d : Driver) (h : Bool) → (view early d h).finished ≡ early ++ finished_by d
finished_by_lem early (at s p taken c l k) h = refl
finished_by_lem early (over a l k) h = refl

-- what is seen is what the driver shows, where chip select is at one level or the other
pub record Viewed (early : List Chunk) (d : Driver) (o : Observed) : Type 0 where
  pub level : Bool
  pub is : o ≡ view early d level

pub sees_all : (early whole : List Chunk) (d : Driver) (h : Bool) (l : List Access) → Good whole d → Makes (state_of d) l → Viewed early (driven d l) (sees (view early d h) l)
unfolding sees
sees_all early whole d h [] g f = record { level = h; is = refl }
sees_all early whole d h (a ∷ l) g f =
    let r = sees_all early whole (driver_after d (value_word a)) (level_after d (value_word a) h) l (good_next whole d (value_word a) g) (follows_on d a l f) in
    record { level = r.level; is = ap (λ (o : Observed). sees o l) (watch early whole d h a g f.0) ∙ r.is }

-- ---- the whole run against the device

-- on a device chip select stays low from the fall to the rise
stays_low : {P : ℕ → Type 0} {n : ℕ} {x : Transfer} {p : Phase} {taken : List ℕ} {f : Flash} {d : Device} (s : Stage) (c : Chunk) (l : List Chunk) (k : Past) {a : Access}
    → Held P n x p taken f d → Matches (want_at (midway p) (action x p)) a → level_after (at s p taken c l k) (value_word a) false ≡ false
stays_low {p = draining} s c l k h m = refl
stays_low {p = dropping} s c l k h m = refl
stays_low {p = opening} s c l k h m = refl
stays_low {p = lowering w} s c l k h m = refl
stays_low {p = switching} s c l k h m = refl
stays_low {p = sending q w t} s c l k h m = refl
stays_low {p = starting} s c l k h m = refl
stays_low {p = releasing w} s c l k (held (c_release u)) m_write = high_start w ∙ u.down
stays_low {p = waiting n} s c l k h m = refl
stays_low {p = again n} s c l k h m = refl
stays_low {p = taking n} s c l k h m = refl
stays_low {p = closing} s c l k h m = refl
stays_low {p = raising w} s c l k h m = refl
stays_low {p = leaving} s c l k h m = refl

module _ (early : List Chunk) (old : Array) where
  step_shows : (whole : List Chunk) {s : Driver} {d : Device} {a : Access} → Good whole s → OnDevice early old s d → Matches (want (state_of s)) a → see (view early s false) a ≡ view early (driver_after s (value_word a)) false
  step_shows whole {a = a} g (during {s} {p} {taken} {c} {l} {k} {f} y z) m =
      watch early whole (at s p taken c l k) false a g m ∙ ap (view early (driver_after (at s p taken c l k) (value_word a))) (stays_low s c l k z m)
  step_shows whole {a = a} g (on.ended {l = l} {k = k} {c = c} {w = w} {r = r} {f = f} _ _ _) m = elim m [ ]

  pub along : (whole : List Chunk) {d e : Device} {l : List Access} (s : Driver) → Good whole s → OnDevice early old s d → Makes (state_of s) l → Trace d l e
      → OnDevice early old (driven s l) e × (sees (view early s false) l ≡ view early (driven s l) false)
  unfolding sees
  along whole s g y f still = (y, refl)
  along whole s g y f (quiet z t) = along whole s g (silent early old y z) f t
  along whole s g y f (step {a = a} {l = l} i t) =
      let r = along whole (driver_after s (value_word a)) (good_next whole s (value_word a) g) (advance early old whole g y f.0 i) (follows_on s a l f) t in
      (r.0, ap (λ (x : Observed). sees x l) (step_shows whole g y f.0) ∙ r.1)

-- ---- the claim at a state

calm_cut : {m : Array} (new : Array) {f : Flash} → Calm m f → AfterCut f new → (x : ℕ) → new x ≡ m x
unfolding AfterCut
calm_cut new calm h x = h x

ready_cut : {m : Array} (new : Array) {f : Flash} → Ready m f → AfterCut f new → (x : ℕ) → new x ≡ m x
unfolding AfterCut
ready_cut new ready h x = h x

works_cut : {m : Array} (new : Array) {c : Chunk} {f : Flash} → Works m c f → AfterCut f new → (x : ℕ) → lands c x ≡ none → new x ≡ m x
unfolding AfterCut
works_cut new under h x e = h x e
works_cut {m} new {c} past h x e = h x ∙ spared c m x e

-- x is no byte of a chunk in doubt
abbrev Clear : List Chunk → ℕ → Type 0
Clear [] x = Unit {0}
Clear (c ∷ q) x = lands c x ≡ none

stage_cut : (s : Stage) (b : Bool) (m new : Array) (c : Chunk) (f : Flash) → FlashAt s b m c f → AfterCut f new → (x : ℕ) → Clear (doubt_at s b c) x → new x ≡ m x
stage_cut enables false m new c f y h x e = calm_cut new y h x
stage_cut enables true m new c f y h x e = ready_cut new y h x
stage_cut programs false m new c f y h x e = ready_cut new y h x
stage_cut programs true m new c f y h x e = works_cut new y h x e
stage_cut polls b m new c f y h x e = works_cut new y h x e
stage_cut clears b m new c f y h x e = absurd y
stage_cut disables b m new c f y h x e = absurd y

the_one : {c : Chunk} {l : List Chunk} → Fit c → NextOnly (c ∷ []) (c ∷ l)
the_one f = the_next f.sound.small f.in_page

next_only : (s : Stage) (b : Bool) (c : Chunk) (l : List Chunk) → Fit c → NextOnly (doubt_at s b c) (c ∷ l)
next_only enables b c l f = no_doubt
next_only programs false c l f = no_doubt
next_only programs true c l f = the_one f
next_only polls b c l f = the_one f
next_only clears b c l f = the_one f
next_only disables b c l f = the_one f

-- the chunk in doubt is the next: it holds no byte outside it
clear_out : (q : List Chunk) (c : Chunk) (l : List Chunk) (x : ℕ) → Fit c → NextOnly q (c ∷ l) → ((d : Chunk) → Among d q → In x d → ⊥) → Clear q x
clear_out [] c l x f n h = tt
clear_out (d ∷ q) c l x f (the_next y z) h = lands_out c x f (beside x c.address (length c.bytes) (h c here))

-- of a device chip select has risen precisely at the transfer's last access
risen_last : (p : Phase) → risen_at p false ≡ is_last p
risen_last draining = refl
risen_last dropping = refl
risen_last opening = refl
risen_last (lowering w) = refl
risen_last switching = refl
risen_last (sending q w t) = refl
risen_last starting = refl
risen_last (releasing w) = refl
risen_last (waiting n) = refl
risen_last (again n) = refl
risen_last (taking n) = refl
risen_last closing = refl
risen_last (raising w) = refl
risen_last leaving = refl

-- a byte that is not in doubt is what the finished chunks left
pub bytes_at : (early whole : List Chunk) (old new : Array) {s : Driver} {e : Device} (x : ℕ) → Good whole s → OnDevice early old s e → AfterCut (flash_of e) new → ((c : Chunk) → Among c (view early s false).doubt → In x c → ⊥)
    → new x ≡ applied (early ++ finished_by s) old x
bytes_at early whole old new x g (during {s} {p} {taken} {c} {l} {k} {f} y (held w)) z h =
    let b = risen_at p false in
    let y' : FlashAt s b (applied (early ++ k.chunks) old) c f = rw (risen_last p) y in
    stage_cut s b (applied (early ++ k.chunks) old) new c f y' z x (clear_out (doubt_at s b c) c l x g.fits (next_only s b c l g.fits) h)
bytes_at early whole old new x g (on.ended nf u y) z h = calm_cut new y z x

-- the chunks finished are the first, and the one in doubt is the next
pub record Parted (early whole : List Chunk) (s : Driver) : Type 0 where
  pub left : List Chunk
  pub parts : finished_by s ++ left ≡ whole
  pub next : NextOnly (view early s false).doubt left

pub parted : (early whole : List Chunk) (old : Array) {s : Driver} {e : Device} → Good whole s → OnDevice early old s e → Parted early whole s
parted early whole old g (during {s} {p} {taken} {c} {l} {k} y w) = record { left = c ∷ l; parts = g.parts; next = next_only s (risen_at p false) c l g.fits }
parted early whole old g (on.ended {a = succeeded} {l} nf u y) = record { left = l; parts = g.0.parts; next = no_doubt }
parted early whole old g (on.ended {a = failed} nf u y) = absurd nf
parted early whole old g (on.ended {a = refuses b} {l} nf u y) = record { left = l; parts = g.0.parts; next = no_doubt }

-- ---- its count, whatever the replies

pub done_of_lem : (d : Driver) → count_in (state_of d) ≡ total (finished_by d)
done_of_lem (at s p taken c l k) = refl
done_of_lem (over a l k) = refl

whole_done : (whole : List Chunk) (d : Driver) → Good whole d → status_in (state_of d) ≡ Done → count_in (state_of d) ≡ total whole
whole_done whole (at s p taken c l k) g e = let y : ◌≡◌ {A = ℕ} 0 1 = cc in absurd (omega (arith, y))
whole_done whole (over succeeded l k) g e = ap total (sym (append-nil k.chunks) ∙ ap (λ (z : List Chunk). k.chunks ++ z) (sym g.1) ∙ g.0.parts)
whole_done whole (over failed l k) g e = let y : ◌≡◌ {A = ℕ} 0 1 = cc in absurd (omega (arith, y))
whole_done whole (over (refuses b) l k) g e = absurd (g.1 e)

-- what is seen before the first access of a save, after these chunks
abbrev pub between : List Chunk → Observed
between early = record { transfer = closed; up = true; doubt = []; finished = early }

pub start_shows : (early : List Chunk) (a : ℕ) (bs : List ℕ) → view early (driver_start a bs) false ≡ between early
unfolding driver_start
start_shows early a bs = go (ltb 16777215 (a + length bs))
  where
    go : (b : Bool) → view early (cond b (over (refuses OutOfRange) (chunks a bs) outset) (start_next (chunks a bs) outset)) false ≡ between early
    go true = ap between (append-nil early)
    go false = view_start early (chunks a bs) outset false ∙ ap between (append-nil early)

-- of every log that the call makes, whatever the replies
pub viewed : (a : ℕ) (bs : List ℕ) → AllBytes bs → (l : List Access) → Makes (begin (write_pages a bs) [] 0) l → Viewed [] (driven (driver_start a bs) l) (observed l)
unfolding observed
viewed a bs h l f =
    let f' : Makes (state_of (driver_start a bs)) l = rw (start_is a bs) at f in
    let v = sees_all [] (chunks a bs) (driver_start a bs) false l (good_driver a bs h) f' in
    record { level = v.level; is = ap (λ (o : Observed). sees o l) (sym (start_shows [] a bs)) ∙ v.is }

-- a save whose accesses are those that `write_pages` makes, each the one that was due; it answers Done only where its script does, and has come to its end unless it goes on or 23 or 24 ended it
pub record Goes (c : Save) : Type 0 where
  pub octets : AllBytes c.bytes
  pub makes : Makes (begin (write_pages c.address c.bytes) [] 0) c.accesses
  pub counts : c.count ≡ count_in (after (begin (write_pages c.address c.bytes) [] 0) c.accesses)
  pub done : c.answer ≡ Done → status_in (after (begin (write_pages c.address c.bytes) [] 0) c.accesses) ≡ Done
  pub stops : (c.answer ≡ Going → ⊥) → (c.answer ≡ RepliesEnded → ⊥) → (c.answer ≡ LogFull → ⊥) → want (after (begin (write_pages c.address c.bytes) [] 0) c.accesses) ≡ nothing

module _ (c : Save) where
  -- where it starts, and where it stands after these accesses
  abbrev pub starts : Driver
  starts = driver_start c.address c.bytes

  abbrev pub stands : List Access → Driver
  stands l = driven starts l

  pub good_stands : (l : List Access) → Goes c → Good (chunks c.address c.bytes) (stands l)
  good_stands l g = good_driven (chunks c.address c.bytes) starts l (good_driver c.address c.bytes g.octets)

  pub makes_from : Goes c → Makes (state_of starts) c.accesses
  makes_from g = rw (start_is c.address c.bytes) at g.makes

  pub ends_in : after (begin (write_pages c.address c.bytes) [] 0) c.accesses ≡ state_of (stands c.accesses)
  ends_in = ap (λ (z : State). after z c.accesses) (start_is c.address c.bytes) ∙ driven_is starts c.accesses

  pub count_is : Goes c → c.count ≡ total (finished_by (stands c.accesses))
  count_is g = g.counts ∙ ap count_in ends_in ∙ done_of_lem (stands c.accesses)

  pub counted_by_lem : Goes c → c.count ≡ total (observed c.accesses).finished
  counted_by_lem g =
      let v = viewed c.address c.bytes g.octets c.accesses g.makes in
      count_is g ∙ ap total (sym (ap (λ (o : Observed). o.finished) v.is ∙ finished_by_lem [] (stands c.accesses) v.level))

  pub whole_by : Goes c → c.answer ≡ Done → c.count ≡ length c.bytes
  whole_by g e =
      g.counts ∙ ap count_in ends_in
      ∙ whole_done (chunks c.address c.bytes) (stands c.accesses) (good_stands c.accesses g) (ap status_in (sym ends_in) ∙ g.done e)
      ∙ chunks_total c.address c.bytes
