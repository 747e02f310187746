use Rattle.std.proofs.Common.{◌≡◌, ℕ, ◌+◌, ◌≤◌, List, ◌++◌, length, take, drop, sym, ◌∙◌, ap, append_assoc, arith}
use Rattle.std.proofs.lemmas.List.{length-take-le}
use Rattle.std.proofs.lemmas.List.Edits.{sets, sets-eq, paste_all}
use Rattle.std.proofs.lemmas.Slice.{put_mid-paste}
use borrow.Rule.Slice.PartMut.{put_mid}
use Rattle.zedboard_bsp.specs.Words.{bytes_of}
use Rattle.simulated_device.proofs.words.put_word.Goals as goal

-- a part that is written is as many places that are set one by one
are_set : (i n k : ℕ) (l vs ys : List ℕ) → ys ≡ take n vs → n ≤ length vs → i + n ≤ length l → n ≡ k → put_mid i k l ys ≡ sets l i (take n vs)
are_set i n k l vs ys e h room same =
    let long : length (take n vs) ≡ n = length-take-le n vs h in
    let set_in : sets l i (take n vs) ≡ take i l ++ take n vs ++ drop (i + n) l =
    sets-eq (take n vs) l i (omega (arith, long)) ∙ ap (λ (m : ℕ). take i l ++ take n vs ++ drop (i + m) l) long in
    put_mid-paste i k l ys (take n vs) n e same (sym long)
    ∙ (paste_all l i (take n vs) n (sym long) ∙ (sym (append_assoc (take i l) (take n vs) (drop (i + n) l)) ∙ sym set_in))

pub returns : goal.returns
returns c =
    let x = c.args in
    let e : c.copy_from_slice.new.self ≡ take x.width (bytes_of x.word) = c.copy_from_slice.ensures.after ∙ ap (λ (l : List ℕ). take x.width l) c.bytes_of.ensures.bytes in
    record { bytes = are_set x.at x.width _ x.sent.now (bytes_of x.word) _ e c.requires.narrow (omega (arith, c.requires.room, c.requires.narrow)) (omega arith) }
