-- `front::refusal::bad_area` meets its contract.
use Rattle.picture.specs.Code.Sides.{size_in}
use Rattle.picture.specs.Laws.Sides.{luma-within}
use Rattle.picture.proofs.front.refusal.bad_area.Goals as goal

pub padded_area-requires : goal.padded_area-requires
padded_area-requires c = (c.requires, luma-within c.args.s (size_in c.luma_size.result) c.luma_size.ensures)
