-- `front::refusal::short_work` meets its contract.
use mathlib.Core.Path.{◌≡◌, refl, ap, ◌∙◌}
use Rattle.unit.specs.Sizes.{Size, luma_size, colour_size}
use Rattle.unit.specs.Subbands.{padded_area, work_needed}
use Rattle.picture.specs.Code.Sides.{size_in}
use Rattle.picture.specs.Laws.Sides.{luma-within, colour-within}
use Rattle.picture.proofs.front.refusal.short_work.Goals as goal

pub padded_area-luma-requires : goal.padded_area-luma-requires
padded_area-luma-requires c = (c.requires, luma-within c.args.s (size_in c.luma_size.result) c.luma_size.ensures)

pub padded_area-colour-requires : goal.padded_area-colour-requires
padded_area-colour-requires c =
    (c.requires, colour-within c.args.s (size_in c.colour_size.result) c.colour_size.ensures)

pub returns : goal.returns
unfolding work_needed
returns c =
    let s = c.args.s in
    let l : c.padded_area-luma.result ≡ padded_area s (luma_size s) = c.padded_area-luma.ensures.0 ∙ ap (λ (z : Size). padded_area s z) c.luma_size.ensures in
    let k : c.padded_area-colour.result ≡ padded_area s (colour_size s) = c.padded_area-colour.ensures.0 ∙ ap (λ (z : Size). padded_area s z) c.colour_size.ensures in
    rw (l, k) refl
