use Rattle.std.proofs.Common.{◌≡◌, ℕ, ◌+◌, ◌-◌, ◌<◌, List, ◌++◌, length, take, drop, refl, sym, ap, ◌∙◌, subst, arith, length-take}
use Rattle.std.specs.Io.KnownBytes.{Consumes}
use Rattle.std.proofs.KnownBytes.{Consumes-trans, Consumes-kept}
use lib.Seq.{take-add}
use Rattle.log_printer.proofs.fill.Goals as goal

-- what a read put behind the bytes before it
joined : (done count : ℕ) (old new : List ℕ) → take done new ≡ take done old → take done old ++ take count (drop done new) ≡ take (done + count) new
joined done count old new same = ap (λ (l : List ℕ). l ++ take count (drop done new)) (sym same) ∙ sym (take-add done count new)

-- the bytes that are kept of those that were read, and the others
apart : (kept done : ℕ) (old new : List ℕ) → kept + (done - kept) ≡ done → take done new ≡ take done old
    → take done old ≡ take kept new ++ take (done - kept) (drop kept new)
apart kept done old new all same = sym same ∙ (ap (λ (n : ℕ). take n new) (sym all) ∙ take-add kept (done - kept) new)

-- src/lib.rt:77:5
pub loop-done-preserved : goal.loop-done-preserved
loop-done-preserved g c = record {
  within = c.in-Ok.ensures.within;
  bytes =
      subst (Consumes _ _) (joined c.loop-done.done c.in-Ok.count c.loop-done.buf c.read_from.new.buf c.in-Ok.ensures.before)
      (Consumes-trans _ _ _ _ _ c.loop-done.invariant.bytes c.in-Ok.ensures.bytes.0);
}

-- src/lib.rt:87:17
pub returns-in-Err-clause-cut : goal.returns-in-Err-clause-cut
returns-in-Err-clause-cut g c =
    let done = c.loop-done.done in
    let kept = c.kept-in-Err.result in
    let new = c.read_from.new.buf in
    let few : done < kept + 8 = (c.kept-in-Err.ensures.whole refl).1 in
    let all : kept + (done - kept) ≡ done = omega (arith, c.kept-in-Err.ensures.most) in
    let short : length (take (done - kept) (drop kept new)) < 8 = omega (arith, length-take (done - kept) (drop kept new)) in (
      take (done - kept) (drop kept new),
      short,
      subst (Consumes _ _) (apart kept done c.loop-done.buf new all c.in-Err.ensures.before)
          (Consumes-kept _ _ _ _ c.loop-done.invariant.bytes c.in-Err.ensures.bytes),
    )
