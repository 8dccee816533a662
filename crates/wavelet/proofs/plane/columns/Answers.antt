use Rattle.std.proofs.Common.{◌≡◌, ℕ, drop, ap, ◌∙◌, arith}
use Rattle.laws.specs.Wrap.{wrap}
use Rattle.laws.specs.Plane.{as_plane, as_list}
use Rattle.wavelet.specs.Lifting.{analysis}
use Rattle.wavelet.specs.Filters.{filter_of}
use Rattle.wavelet.specs.Planes.{columns_by}
use Rattle.wavelet.specs.Laws.Table.{in_table}
use Rattle.wavelet.specs.Laws.Columns.{columns-first, columns-turn}
use Rattle.wavelet.proofs.plane.columns.Goals as goal

pub loop-k-init : goal.loop-k-init
loop-k-init c = let a = c.args in rw c.stage_count-k.ensures (columns-first a.index a.h a.w a.plane.now c.requires.0.long)

pub overflow_add-index : goal.overflow_add-index
overflow_add-index c = omega (arith, (in_table c.args.index c.requires.1).room)

pub stage-requires : goal.stage-requires
stage-requires c = omega (arith, (in_table c.args.index c.requires.1).room)

pub loop-k-preserved : goal.loop-k-preserved
loop-k-preserved c =
    let a = c.args in
    let l = c.loop-k in
    let s = c.stage in
    let z = c.lift_columns in
    columns-turn a.index l.k s.result a.h a.w a.plane.now l.plane z.new.plane c.requires.1 c.loop-k-test.true (omega arith) s.ensures l.invariant z.ensures

pub returns : goal.returns
returns c =
    let l = c.loop-k in
    let a = c.args in
    let e : l.k ≡ 0 = omega arith in
    l.invariant ∙ ap (λ (k : ℕ). as_list a.h a.w (columns_by (analysis wrap (drop k (filter_of a.index).stages)) a.h a.w (as_plane a.w a.plane.now))) e
