-- `coder::analysis::picture_of` meets its contract.
use Rattle.unit.specs.Sizes.{luma_size, colour_size}
use Rattle.unit.proofs.Laws.Valid.{levels_few}
use Rattle.picture.specs.Code.Matrix.{lent_in}
use Rattle.picture.specs.Laws.Analysis.{padded_asks, Measures, measures_of, picture_is}
use Rattle.picture.proofs.coder.analysis.picture_of.Goals as goal
use Rattle.picture.proofs.coder.analysis.picture_of.Goals.{After-area-n}

known : (c : After-area-n) → Measures c.args.call.settings c.padded_size-z.result c.padded_size-c.result c.area-k.result c.area-n.result
known c =
    let l = c.luma_size in
    let z = c.padded_size-z in
    let k = c.colour_size in
    let d = c.padded_size-c in
    let m = c.area-k in
    let n = c.area-n in
    measures_of c.args.call.settings (lent_in c.args.call.matrix) c.requires l.result k.result z.result d.result m.result n.result
    l.ensures z.ensures k.ensures d.ensures m.ensures n.ensures

pub padded_size-z-requires : goal.padded_size-z-requires
padded_size-z-requires c =
    padded_asks c.args.call.settings c.luma_size.result (luma_size c.args.call.settings) (levels_few c.args.call.settings c.requires.shape) c.requires.luma c.luma_size.ensures

pub padded_size-c-requires : goal.padded_size-c-requires
padded_size-c-requires c =
    padded_asks c.args.call.settings c.colour_size.result (colour_size c.args.call.settings) (levels_few c.args.call.settings c.requires.shape) c.requires.colour c.colour_size.ensures

pub returns : goal.returns
returns c =
    let l = c.layout_of-layout in
    let y = c.component_at-y in
    let c1 = c.component_at-c1 in
    let c2 = c.component_at-c2 in
    picture_is c.args.call.settings (lent_in c.args.call.matrix) c.padded_size-z.result c.padded_size-c.result c.area-k.result c.area-n.result (known (goal.at.returns c).After-area-n)
    l.result y.result c1.result c2.result l.ensures y.ensures c1.ensures c2.ensures
