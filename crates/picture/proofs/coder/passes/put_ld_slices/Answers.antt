use Prim.Native.Nat.{◌<◌}
use Rattle.picture.specs.Code.Picture.{slices_in}
use Rattle.picture.specs.Laws.LowSlice.{coded_none, coded_in, coded_room, coded-more}
use native.Mathlib.Omega.{arith}
use Rattle.picture.proofs.coder.passes.put_ld_slices.Goals as goal

pub loop-k-init : goal.loop-k-init
loop-k-init c =
    let a = c.args in
    coded_none a.p a.n a.work.now a.out.now a.at c.new-c.result c.requires.0 c.new-c.ensures.0 c.new-c.ensures.1.0

pub code_ld_slice-c-requires : goal.code_ld_slice-c-requires
code_ld_slice-c-requires c =
    let h = c.loop-k.invariant in
    let l : c.loop-k.k < slices_in c.args.p = omega (arith, c.loop-k-test.true, c.slice_count-k-end.ensures.0) in
    (coded_in c.requires.0 h l, (l, (h.few, coded_room c.requires.0 h l c.requires.1)))

pub loop-k-preserved : goal.loop-k-preserved
loop-k-preserved c =
    let e = c.code_ld_slice-c.ensures in
    let l : c.loop-k.k < slices_in c.args.p = omega (arith, c.loop-k-test.true, c.slice_count-k-end.ensures.0) in
    coded-more c.requires.0 c.loop-k.invariant l e.0 e.1.0 e.1.1.0 e.1.1.1.0
