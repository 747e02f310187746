-- What stands at a place, in document 01's numbers. Assumes nothing.
use Rattle.std.specs.Prelude.{None}
use Rattle.std.proofs.Common.{◌≡◌, ℕ, ◌+◌, ◌-◌, ◌*◌, ◌%◌, ◌≤◌, Bool, true, false, cond, eqb, ltb, leb, List, [], ◌∷◌, length, get_or, refl, ap, ◌∙◌, arith, ltb-false}
use Rattle.zynq7000.specs.Access.{record_of_words}
use Rattle.zynq7000.specs.Number.{Refusal, accepted, refused_with}
use Rattle.access_log.specs.Log.{Entry, bad_at, answer_of, entry_of, placed, entry_at, record_answer, placed_answer, answer_at}

-- an access that is read has the record's two words as its own
module _ (first v at : ℕ) where
  by_tests : (above : Bool) → ltb 0x1FC first ≡ above → (multiple : Bool) → eqb (first % 4) 0 ≡ multiple → (write : Bool)
      → ltb first 0x100 ≡ write → answer_of (entry_of (record_of_words first v) at) ≡ record_answer first v at
  by_tests true e multiple f write g = simp e
  by_tests false e false f write g = simp (e, f)
  by_tests false e true f true g = simp (e, f, g)
  by_tests false e true f false g =
      let low : 0x100 ≤ first = ltb-false first 0x100 g in
      let back : 0x100 + (first - 0x100) ≡ first = omega arith in
      simp (e, f, g, back)

  record_answer_lem : answer_of (entry_of (record_of_words first v) at) ≡ record_answer first v at
  record_answer_lem = by_tests (ltb 0x1FC first) refl (eqb (first % 4) 0) refl (ltb first 0x100) refl

by_place : (whole begun : Bool) (e : Entry) (at : ℕ)
    → answer_of (cond whole e (cond begun (bad_at at) None)) ≡ cond whole (answer_of e) (cond begun (refused_with Refusal.BadLog (at ∷ [])) (accepted []))
by_place true begun e at = refl
by_place false true e at = refl
by_place false false e at = refl

placed_answer_lem : (size len at first v : ℕ)
    → answer_of (placed size len at (record_of_words first v)) ≡ placed_answer size len at (record_answer first v at)
placed_answer_lem size len at first v =
    by_place (leb (at * size + size) len) (ltb (at * size) len) (entry_of (record_of_words first v) at) at
    ∙ ap (placed_answer size len at) (record_answer_lem first v at)

pub answer_at_lem : (log : List ℕ) (at : ℕ) (r : Entry) → r ≡ entry_at log at → answer_of r ≡ answer_at log at
unfolding entry_at answer_at
answer_at_lem log at r e = ap answer_of e ∙ placed_answer_lem 2 (length log) at (get_or log (at * 2) 0) (get_or log (at * 2 + 1) 0)

-- both promises from the first
pub both_at : (log : List ℕ) (at : ℕ) (r : Entry) → r ≡ entry_at log at → (r ≡ entry_at log at) × (answer_of r ≡ answer_at log at)
both_at log at r e = (e, answer_at_lem log at r e)
