-- `picture::front::header::shape_len` meets its contract.
use native.Mathlib.Omega.{arith}
use Rattle.picture.specs.Laws.Head.{front_length}
use Rattle.picture.proofs.front.header.shape_len.Goals as goal

pub returns : goal.returns
returns c =
    let x = c.uint_len.ensures in
    let y = c.uint_len-2.ensures in
    let e = c.extension_len-extension.ensures in
    let u = c.uint_len-3.ensures in
    let v = c.uint_len-4.ensures in
    (omega (arith, front_length c.args.s, x.0, y.0, e.0, u.0, v.0), omega (arith, x.1, y.1, e.1, u.1, v.1))
