-- The power-cut statement of one save in the words of demand 3, out of what it says of the row of one. Assumes nothing.
use mathlib.Core.Path.{◌≡◌, ◌∙◌}
use mathlib.Core.List.{List, [], ◌∷◌, ◌++◌, append-nil}
use Prim.Native.Nat.{ℕ, ◌+◌, ◌≤◌, ◌<◌}
use native.Mathlib.Omega.{arith}
use lib.ListN.{length, take}
use Rattle.qspi_calls.specs.Chunks.{Chunk, chunks, Among, here, there}
use Rattle.power_cut.specs.Flash.{Array}
use Rattle.power_cut.specs.Observer.{Observed, observed}
use Rattle.power_cut.specs.Statement.{In, NextOnly, no_doubt, the_next, Save, row_log, CallByCall, at_hand, past, Kept, PowerCut}
use Rattle.power_cut.specs.OneCall.{KeptBy, OneCut}
use Rattle.power_cut.proofs.Lands.{Ordered, anding_in, anding_out, chunks_ordered, ordered_front, ordered_seam}

-- the chunk in doubt holds no byte of a finished one
apart : {q : List Chunk} (k l : List Chunk) → NextOnly q l → Ordered (k ++ l) → {b : Chunk} → Among b k → (i : ℕ) → i < length b.bytes → (d : Chunk) → Among d q → In (b.address + i) d → ⊥
apart k l (the_next {c} {left} y z) o m i h d here n = omega (arith, ordered_seam k c left o m, n.0)
apart k l no_doubt o {b = b} m i h d x16 n = elim x16 [ ]
apart k _ (the_next {c = c} {left = left} y z) o {b = b} m i h d (there x24) n = elim x24 [ ]

record Alone (c : Save) (k d : List Chunk) : Type 0 where
  left : List Chunk
  parts : k ++ left ≡ chunks c.address c.bytes
  next : NextOnly d left

alone : {c : Save} {n : ℕ} {k d : List Chunk} → n ≤ length c.accesses → CallByCall (c ∷ []) n k d → Alone c k d
alone i (at_hand left j e x h) = record { left = left; parts = e; next = x }
alone i (past first left j e h r) = absurd (omega (arith, i, j))

kept_one : (c : Save) (k : ℕ) (old new : Array) (o : Observed) → k ≤ length c.accesses → Kept (c ∷ []) k old o new → KeptBy c old o new
kept_one c k old new o i h =
    let x = alone i h.chunks_are in
    let y : Ordered (o.finished ++ x.left) = rw x.parts (chunks_ordered c.address c.bytes) in
    record {
      left = x.left;
      first = x.parts;
      next = x.next;
      written = λ b m j e. h.bytes_are (b.address + j) (apart o.finished x.left x.next y m j e) ∙ anding_in o.finished j (old (b.address + j)) (ordered_front o.finished x.left y) m e;
      same = λ z m d. h.bytes_are z d ∙ anding_out o.finished z (old z) m;
    }

-- THEOREM. One save is the row of one.
pub one_call : (c : Save) → PowerCut (c ∷ []) → OneCut c
unfolding row_log
one_call c p =
    let e : c.accesses ++ [] ≡ c.accesses = append-nil c.accesses in
    record {
      cut = λ k i before after old new y t z. kept_one c k old new (observed (take k c.accesses)) i (rw e at (p.cut k (rw e i) before after old new y (rw e t) z));
      counted = p.counted.0;
      whole = p.whole.0;
    }
