-- `front::refusal::padded_area` meets its contract.
use mathlib.Core.Path.{◌≡◌, ap, ◌∙◌}
use native.Mathlib.Omega.{arith}
use Rattle.unit.specs.Sizes.{Size, area}
use Rattle.unit.specs.Subbands.{padded_area}
use Rattle.unit.proofs.Laws.Valid.{levels_few}
use Rattle.picture.specs.Code.Sides.{size_in}
use Rattle.picture.specs.Laws.Sides.{padded-area_few}
use Rattle.picture.proofs.front.refusal.padded_area.Goals as goal

pub padded_size-requires : goal.padded_size-requires
padded_size-requires c =
    let m = c.requires.0 in
    let w = c.requires.1 in
    (levels_few c.args.s m.shape, (omega (arith, m.frame.width.few, w.width), omega (arith, m.frame.height.few, w.height)))

pub returns : goal.returns
returns c =
    let e : c.area.result ≡ padded_area c.args.s (size_in c.args.z) = c.area.ensures ∙ ap (λ (x : Size). area x) c.padded_size.ensures in
    (e, rw e (padded-area_few c.args.s (size_in c.args.z) c.requires.0 c.requires.1))
