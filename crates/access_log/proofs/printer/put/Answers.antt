use Rattle.std.proofs.Common.{◌≡◌, ◌+◌, ◌-◌, length, refl, ◌∙◌, arith}
use Rattle.std.proofs.lemmas.Slice.{put_mid-paste}
use Rattle.access_log.proofs.Buffer.{copied}
use Rattle.access_log.proofs.printer.put.Goals as goal

pub returns : goal.returns
returns c =
    let a = c.args in
    let room : length a.text.now ≡ a.at + length a.text.now - a.at = omega arith in
    record {
      written =
          put_mid-paste a.at (a.at + length a.text.now - a.at) a.out.now c.copy_from_slice.new.self a.text.now (length a.text.now) c.copy_from_slice.ensures.after room refl
          ∙ copied a.out.now a.at a.text.now;
    }
