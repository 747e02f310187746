use Rattle.std.proofs.Common.{◌≡◌, ◌≤◌, length, take, sym, ◌∙◌, arith}
use Rattle.std.proofs.lemmas.Result.{IfOk-at_ok}
use Rattle.log_printer.proofs.Printing.{writes_text, prints_end, prints_bad, prints_part}
use Rattle.log_printer.proofs.print_buffer.Goals as goal

-- src/lib.rt:48:1
pub returns-then-more-clause-all : goal.returns-then-more-clause-all
returns-then-more-clause-all g c = λ bad.
    let filled = c.fill-filled in
    let rendered = c.render-rendered in
    let bytes = take filled.result.len filled.new.buf in
    let full = IfOk-at_ok _ c.in_ok-more.was filled.ensures.full c.if-more.true in
    let long : length bytes ≡ 4096 = omega (arith, filled.ensures.counts.1, filled.auto.buf, full) in
    let short : length bytes ≤ 4096 = omega arith in
    let read = IfOk-at_ok _ c.in_ok-more.was filled.ensures.bytes in
    let written = writes_text bytes _ _ _ c.args.number short rendered.ensures.text rendered.ensures.len _ _ c.in_ok-write_all.ensures.bytes in
    prints_bad _ _ _ _ bytes c.args.number read written long (sym rendered.ensures.more ∙ bad)

-- src/lib.rt:48:1
pub returns-then-more-clause-part : goal.returns-then-more-clause-part
returns-then-more-clause-part g c = λ all.
    let filled = c.fill-filled in
    let rendered = c.render-rendered in
    let bytes = take filled.result.len filled.new.buf in
    let full = IfOk-at_ok _ c.in_ok-more.was filled.ensures.full c.if-more.true in
    let long : length bytes ≡ 4096 = omega (arith, filled.ensures.counts.1, filled.auto.buf, full) in
    let short : length bytes ≤ 4096 = omega arith in
    let read = IfOk-at_ok _ c.in_ok-more.was filled.ensures.bytes in
    let written = writes_text bytes _ _ _ c.args.number short rendered.ensures.text rendered.ensures.len _ _ c.in_ok-write_all.ensures.bytes in
    prints_part _ _ _ _ bytes c.args.number read written long (sym rendered.ensures.more ∙ all)

-- src/lib.rt:48:1
pub returns-else-more-clause-all : goal.returns-else-more-clause-all
returns-else-more-clause-all g c = λ over.
    let filled = c.fill-filled in
    let rendered = c.render-rendered in
    let bytes = take filled.result.len filled.new.buf in
    let short : length bytes ≤ 4096 = omega (arith, filled.ensures.counts.1, filled.auto.buf) in
    let read = IfOk-at_ok _ c.in_ok-more.was filled.ensures.bytes in
    let end = IfOk-at_ok _ c.in_ok-more.was filled.ensures.end over in
    let written = writes_text bytes _ _ _ c.args.number short rendered.ensures.text rendered.ensures.len _ _ c.in_ok-write_all.ensures.bytes in
    prints_end _ _ _ _ bytes c.args.number read written end.1
