-- Texts written into a buffer one after the other: the buffer is the text so far, and what it held behind it. Assumes nothing.
use Rattle.std.proofs.Common.{◌≡◌, ℕ, ◌+◌, ◌≤◌, List, [], ◌++◌, length, take, drop, sym, refl, ap, ◌∙◌, append_assoc, append-nil, arith, length-append, length-drop, take-append-drop, length-take-le, drop-drop, take_at, drop_at}
use lib.Seq.{paste, take-length}
use Rattle.io.specs.Counts.{IsPrefixLen}
use Rattle.access_log.specs.Text.{written, over}

-- a copy of all of a text
pub copied : (out : List ℕ) (at : ℕ) (text : List ℕ) → paste out at text (length text) ≡ written out at text
unfolding written
copied out at text = rw (take-length text)

module _ (out : List ℕ) (at : ℕ) (text : List ℕ) (fits : at + length text ≤ length out) where
  front : length (take at out ++ text) ≡ at + length text
  front = length-append (take at out) text ∙ ap (λ (n : ℕ). n + length text) (length-take-le at out (omega arith))

  pub take_written : take (at + length text) (written out at text) ≡ take at out ++ text
  unfolding written
  take_written = take_at (take at out ++ text) (drop (at + length text) out) (at + length text) front

  pub drop_written : drop (at + length text) (written out at text) ≡ drop (at + length text) out
  unfolding written
  drop_written = drop_at (take at out ++ text) (drop (at + length text) out) (at + length text) front

  pub length_written : length (written out at text) ≡ length out
  unfolding written
  length_written =
      omega (arith, length-append (take at out ++ text) (drop (at + length text) out), front, length-drop (at + length text) out)

joined : (out : List ℕ) (at : ℕ) (a b : List ℕ) (mid : ℕ) → take mid (written out at a) ≡ take at out ++ a
    → drop (mid + length b) (written out at a) ≡ drop (at + length (a ++ b)) out
    → written (written out at a) mid b ≡ written out at (a ++ b)
unfolding written
joined out at a b mid t d = rw (t, d, append_assoc (take at out) a b)

-- a text written behind another is the two written as one
pub written_on : (out : List ℕ) (at : ℕ) (a b : List ℕ) → at + length a + length b ≤ length out
    → written (written out at a) (at + length a) b ≡ written out at (a ++ b)
written_on out at a b fits =
    let fits-a : at + length a ≤ length out = omega arith in
    let mid : ℕ = at + length a in
    let whole : mid + length b ≡ at + length (a ++ b) = omega (arith, length-append a b) in
    let behind : drop (mid + length b) (written out at a) ≡ drop (at + length (a ++ b)) out =
    sym (drop-drop (length b) mid (written out at a))
    ∙ (ap (λ (l : List ℕ). drop (length b) l) (drop_written out at a fits-a)
    ∙ (drop-drop (length b) mid out
    ∙ ap (λ (n : ℕ). drop n out) whole)) in
    joined out at a b mid (take_written out at a fits-a) behind

-- ---- a text that grows from the front of a buffer

-- `n` bytes of the whole text stand in the buffer, `rest` is to come, and what lies behind is as it was
pub record Grown (before out : List ℕ) (n : ℕ) (whole rest : List ℕ) : Type 0 where
  pub so_far : whole ≡ take n out ++ rest
  pub kept : drop n out ≡ drop n before
  pub within : n ≤ length out
  pub same_length : length out ≡ length before

pub grown_none : (out whole : List ℕ) → Grown out out 0 whole whole
grown_none out whole = record { so_far = refl; kept = refl; within = omega arith; same_length = refl }

pub grown_more : (before out : List ℕ) (n : ℕ) (whole t rest : List ℕ) → n + length t ≤ length out
    → Grown before out n whole (t ++ rest) → Grown before (written out n t) (n + length t) whole rest
grown_more before out n whole t rest fits g =
    let same : length (written out n t) ≡ length out = length_written out n t fits in
    record {
      so_far = g.so_far ∙ (sym (append_assoc (take n out) t rest) ∙ ap (λ (l : List ℕ). l ++ rest) (sym (take_written out n t fits)));
      kept = drop_written out n t fits ∙ (sym (drop-drop (length t) n out) ∙ (ap (λ (l : List ℕ). drop (length t) l) g.kept ∙ drop-drop (length t) n before));
      within = omega arith;
      same_length = same ∙ g.same_length;
    }

-- once nothing is to come, the text lies over the front of the buffer, and `n` is its length
pub grown_length : (before out : List ℕ) (n : ℕ) (whole : List ℕ) → Grown before out n whole [] → n ≡ length whole
grown_length before out n whole g = sym (ap length (g.so_far ∙ append-nil (take n out)) ∙ length-take-le n out g.within)

pub grown_all : (before out : List ℕ) (n : ℕ) (whole : List ℕ) → Grown before out n whole [] → out ≡ over whole before
grown_all before out n whole g =
    sym (take-append-drop n out)
    ∙ (ap (λ (l : List ℕ). l ++ drop n out) (sym (g.so_far ∙ append-nil (take n out)))
    ∙ ap (λ (l : List ℕ). whole ++ l) (g.kept ∙ ap (λ (k : ℕ). drop k before) (grown_length before out n whole g)))

-- the text's length counts bytes at the start of the buffer
pub text_counts : (text before out : List ℕ) (n : ℕ) → out ≡ over text before → n ≡ length text → IsPrefixLen n out
text_counts text before out n e l =
    let within : n ≤ length out = omega (arith, ap length e, length-append text (drop (length text) before)) in
    (within, sym (length-take-le n out within))
