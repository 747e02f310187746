use Rattle.std.proofs.Common.{◌≡◌, ◌+◌, ◌≤◌, length, take, ℕ, ◌<◌, List, ap, ◌∙◌, arith, rules}
use Rattle.access_log.specs.Log.{entry_at, entry_in}
use Rattle.access_log.specs.Text.{over}
use Rattle.access_log.proofs.Stream.{text_same, all_same}
use Rattle.access_log.proofs.printer.render.Goals as goal

-- src/printer.rt:36:1
pub returns : goal.returns
returns c =
    let a = c.args in
    let d = entry_at (take c.words_in-len.result c.words_in-len.new.words) in
    let e = entry_in a.bytes.now in
    let same : (i : ℕ) → 0 ≤ i → i < 0 + 512 → d i ≡ e i = λ i low high. c.words_in-len.ensures.same i (omega arith) in
    let text = text_same 512 d e a.first 0 same in
    record {
      text = c.render_words.ensures.text ∙ ap (λ (l : List ℕ). over l a.out.now) text;
      len = c.render_words.ensures.len ∙ ap length text;
      more = c.render_words.ensures.more ∙ all_same 512 d e 0 same;
      counts = search rules;
    }
