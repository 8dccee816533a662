-- `front::sizes::padded_size` meets its contract.
use mathlib.Core.Path.{refl}
use Rattle.unit.specs.Subbands.{padded_size}
use Rattle.picture.proofs.front.sizes.padded_size.Goals as goal

pub returns : goal.returns
unfolding padded_size
returns c = rw (c.padded_side-2.ensures, c.padded_side.ensures) refl
