-- `picture::front::header::put_extension` meets its contract.
use native.Mathlib.Omega.{arith}
use mathlib.Core.Path.{ap}
use lib.ListN.{length, length-append}
use Rattle.codewords.specs.Laws.Writer.{wrote_none, wrote_then}
use Rattle.picture.specs.Laws.Head.{extension_none, extension_some}
use Rattle.picture.proofs.front.header.put_extension.Goals as goal

pub put_flagged-requires : goal.put_flagged-requires
put_flagged-requires c =
    let e = ap length (extension_some c.args.s (omega (arith, c.if-major_version-ge3.true, c.major_version.ensures))) in
    omega (arith, simp length-append at e)

pub put_flagged-requires-then-major_version-ge3 : goal.put_flagged-requires-then-major_version-ge3
put_flagged-requires-then-major_version-ge3 c =
    let e = ap length (extension_some c.args.s (omega (arith, c.if-major_version-ge3.true, c.major_version.ensures))) in
    omega (arith, simp length-append at e)

pub returns-then-major_version-ge3 : goal.returns-then-major_version-ge3
returns-then-major_version-ge3 c =
    let e = extension_some c.args.s (omega (arith, c.if-major_version-ge3.true, c.major_version.ensures)) in
    rw e (wrote_then c.requires.sound c.put_flagged.ensures c.put_flagged-then-major_version-ge3.ensures)

pub returns-else-major_version-ge3 : goal.returns-else-major_version-ge3
returns-else-major_version-ge3 c =
    rw (extension_none c.args.s (omega (arith, c.if-major_version-ge3.false, c.major_version.ensures))) (wrote_none c.requires)
