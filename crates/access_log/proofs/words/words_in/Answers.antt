use Rattle.std.proofs.Common.{◌≤◌, length, arith}
use Rattle.access_log.proofs.Packing.{same_place, same_entry}
use Rattle.access_log.proofs.words.words_in.Goals as goal

-- src/words.rt:12:1
pub returns-clause-same : goal.returns-clause-same
returns-clause-same c =
    let held : c.word_count-count.result ≤ length c.put_words.new.words = omega (arith, c.put_words.auto.words) in
    λ at h. same_entry c.args.bytes.now c.put_words.new.words c.word_count-count.result at held c.put_words.ensures.words (same_place c.word_count-count.result (length c.args.bytes.now) at c.word_count-count.ensures.full c.word_count-count.ensures.part h)
