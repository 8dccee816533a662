-- `front::sizes::luma_size` meets its contract.
use mathlib.Core.Path.{refl}
use Rattle.unit.specs.Sizes.{luma_size}
use Rattle.picture.proofs.front.sizes.luma_size.Goals as goal

pub returns : goal.returns
unfolding luma_size
returns c = rw c.halved_if.ensures refl
