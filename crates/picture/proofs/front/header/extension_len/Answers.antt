-- `picture::front::header::extension_len` meets its contract.
use native.Mathlib.Omega.{arith}
use mathlib.Core.Path.{ap}
use lib.ListN.{length, length-append}
use Rattle.picture.specs.Laws.Head.{extension_none, extension_some}
use Rattle.picture.proofs.front.header.extension_len.Goals as goal

pub returns-then-major_version-lt3 : goal.returns-then-major_version-lt3
returns-then-major_version-lt3 c =
    let e = ap length (extension_none c.args.s (omega (arith, c.if-major_version-lt3.true, c.major_version.ensures))) in
    (omega (arith, e), omega arith)

pub returns : goal.returns
returns c =
    let e = ap length (extension_some c.args.s (omega (arith, c.if-major_version-lt3.false, c.major_version.ensures))) in
    let f = c.flagged_len.ensures in
    let g = c.flagged_len-2.ensures in
    (omega (arith, simp length-append at e, f.0, g.0), omega (arith, f.1, g.1))
