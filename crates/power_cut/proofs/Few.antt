-- What a log of `write_pages` shows, whatever the replies and wherever it ends: no more bytes finished and in doubt than there are data, and no
-- more chunks than bytes. Assumes nothing.
use mathlib.Core.Path.{◌≡◌, ap}
use mathlib.Core.Bool.{Bool, true, false}
use mathlib.Core.List.{List, [], ◌∷◌, ◌++◌}
use Prim.Native.Nat.{ℕ, ◌+◌, ◌≤◌}
use native.Mathlib.Omega.{arith}
use lib.ListN.{length}
use Rattle.zynq7000.specs.declared.qspi.Access.{Access}
use Rattle.qspi_operation.specs.Machine.{begin, Makes}
use Rattle.qspi_calls.specs.Chunks.{Chunk, chunks}
use Rattle.qspi_calls.specs.Calls.{write_pages}
use Rattle.qspi_calls.proofs.WireOrder.{AllBytes}
use Rattle.power_cut.specs.Observer.{Observed, observed}
use Rattle.power_cut.specs.Statement.{total}
use Rattle.power_cut.proofs.Driver.{Stage, enables, programs, polls, clears, disables, Ending, succeeded, failed, refuses, Past, Driver, at, over, driver_start, total_append}
use Rattle.power_cut.proofs.Fits.{AllFit, Over, Good, good_driver}
use Rattle.power_cut.proofs.Watch.{risen_at, doubt_at, first_of, doubt_end, view}
use Rattle.power_cut.proofs.Lands.{chunks_total}
use Rattle.power_cut.proofs.Theorem.{driven, good_driven, viewed}

abbrev shown_bytes : Observed → ℕ
shown_bytes o = total o.finished + total o.doubt

doubt_most : (s : Stage) (b : Bool) (c : Chunk) → total (doubt_at s b c) ≤ length c.bytes
unfolding total
doubt_most enables b c = omega arith
doubt_most programs false c = omega arith
doubt_most programs true c = omega arith
doubt_most polls b c = omega arith
doubt_most clears b c = omega arith
doubt_most disables b c = omega arith

first_most : (l : List Chunk) → total (first_of l) ≤ total l
unfolding total
first_most [] = omega arith
first_most (c ∷ l) = omega arith

end_most : (a : Ending) (l : List Chunk) → total (doubt_end a l) ≤ total l
unfolding total
end_most succeeded l = omega arith
end_most failed l = first_most l
end_most (refuses a) l = omega arith

over_good : (whole : List Chunk) (a : Ending) (l : List Chunk) (k : Past) → Good whole (over a l k) → Over whole a l k
over_good whole succeeded l k g = g.0
over_good whole failed l k g = g
over_good whole (refuses a) l k g = g.0

view_most : (whole : List Chunk) (d : Driver) (h : Bool) → Good whole d → shown_bytes (view [] d h) ≤ total whole
unfolding total
view_most whole (at s p taken c l k) h g =
    let e : total (k.chunks ++ c ∷ l) ≡ total whole = ap total g.parts in
    omega (arith, e, total_append k.chunks (c ∷ l), doubt_most s (risen_at p h) c)
view_most whole (over a l k) h g =
    let e : total (k.chunks ++ l) ≡ total whole = ap total (over_good whole a l k g).parts in
    omega (arith, e, total_append k.chunks l, end_most a l)

-- THEOREM. At every cut point.
pub shown_few : (a : ℕ) (bs : List ℕ) → AllBytes bs → (l : List Access) → Makes (begin (write_pages a bs) [] 0) l → total (observed l).finished + total (observed l).doubt ≤ length bs
shown_few a bs h l f =
    let v = viewed a bs h l f in
    let g = good_driven (chunks a bs) (driver_start a bs) l (good_driver a bs h) in
    rw v.is (omega (arith, view_most (chunks a bs) (driven (driver_start a bs) l) v.level g, chunks_total a bs))

-- each chunk has a byte
fit_count : (k : List Chunk) → AllFit k → length k ≤ total k
unfolding total
fit_count [] h = omega arith
fit_count (c ∷ k) h = omega (arith, fit_count k h.1, h.0.sound.some_byte)

past_of : (whole : List Chunk) (d : Driver) (h : Bool) → Good whole d → length (view [] d h).finished ≤ total (view [] d h).finished
past_of whole (at s p taken c l k) h g = fit_count k.chunks g.past
past_of whole (over a l k) h g = fit_count k.chunks (over_good whole a l k g).past

pub finished_few : (a : ℕ) (bs : List ℕ) → AllBytes bs → (l : List Access) → Makes (begin (write_pages a bs) [] 0) l → length (observed l).finished ≤ total (observed l).finished
finished_few a bs h l f =
    let v = viewed a bs h l f in
    rw v.is (past_of (chunks a bs) (driven (driver_start a bs) l) v.level (good_driven (chunks a bs) (driver_start a bs) l (good_driver a bs h)))

-- "at most one chunk", whatever the replies
one_at : (s : Stage) (b : Bool) (c : Chunk) → length (doubt_at s b c) ≤ 1
one_at enables b c = omega arith
one_at programs false c = omega arith
one_at programs true c = omega arith
one_at polls b c = omega arith
one_at clears b c = omega arith
one_at disables b c = omega arith

first_one : (l : List Chunk) → length (first_of l) ≤ 1
first_one [] = omega arith
first_one (c ∷ l) = omega arith

one_of : (d : Driver) (h : Bool) → length (view [] d h).doubt ≤ 1
one_of (at s p taken c l k) h = one_at s (risen_at p h) c
one_of (over succeeded l k) h = omega arith
one_of (over failed l k) h = first_one l
one_of (over (refuses a) l k) h = omega arith

pub one_in_doubt : (a : ℕ) (bs : List ℕ) → AllBytes bs → (l : List Access) → Makes (begin (write_pages a bs) [] 0) l → length (observed l).doubt ≤ 1
one_in_doubt a bs h l f =
    let v = viewed a bs h l f in
    rw v.is (one_of (driven (driver_start a bs) l) v.level)
