-- `codewords::writer::put_four` meets its contract.
use mathlib.Core.Path.{refl, sym, ◌∙◌}
use Rattle.std.proofs.Common.{◌+◌, ◌-◌, arith}
use Rattle.std.proofs.lemmas.Slice.{put_mid-paste}
use Rattle.laws.specs.Laws.Laid.{laid_is}
use Rattle.codewords.specs.Laws.Byte.{bytes_four}
use Rattle.codewords.proofs.writer.put_four.Goals as goal

pub returns : goal.returns
returns c =
    let o = c.args.out.now in
    let at = c.args.at in
    let e = c.copy_from_slice.ensures.after ∙ c.to_be_bytes.ensures in
    rw (bytes_four c.args.x)
    (put_mid-paste at (at + 4 - at) o _ _ 4 e (omega arith) refl ∙ sym (laid_is o at _ c.requires))
