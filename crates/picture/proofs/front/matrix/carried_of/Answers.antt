-- `front::matrix::carried_of` meets its contract.
use mathlib.Core.Path.{sym, ◌∙◌}
use Rattle.picture.specs.Laws.Sides.{custom_few, custom_carried, default_carried, default_found, default_values}
use Rattle.picture.proofs.front.matrix.carried_of.Goals as goal

pub returns-then-s : goal.returns-then-s
returns-then-s c =
    let s = c.args.s in
    let m = c.args.matrix.now in
    custom_carried s m c.in_places-values.result c.if-s.true (custom_few s m c.if-s.true c.requires.1 c.requires.0) c.requires.0 c.in_places-values.ensures

pub unwrap-values-requires : goal.unwrap-values-requires
unwrap-values-requires c = rw c.default_quant_matrix.ensures (default_found c.args.s c.args.matrix.now c.if-s.false c.requires.0)

pub returns : goal.returns
returns c =
    let s = c.args.s in
    let d = sym c.default_quant_matrix.ensures ∙ c.unwrap-values.ensures in
    default_carried s c.args.matrix.now c.unwrap-values.result c.if-s.false c.requires.0
    (default_values s.wavelet_index s.wavelet_index_ho s.dwt_depth s.dwt_depth_ho _ d)
