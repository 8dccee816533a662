-- `front::sizes::colour_size` meets its contract.
use mathlib.Core.Path.{refl}
use Rattle.unit.specs.Sizes.{colour_size}
use Rattle.picture.proofs.front.sizes.colour_size.Goals as goal

pub returns : goal.returns
unfolding colour_size
returns c = rw (c.halved_if-2.ensures, c.halved_if.ensures, c.halved_if-height.ensures) refl
