-- `slices::layout::band_size` meets its contract.
use native.Mathlib.Omega.{arith}
use mathlib.Core.Path.{refl}
use Rattle.picture.specs.Laws.Layout.{level_most_lem}
use Rattle.picture.specs.Code.Layout.{band_size}
use Rattle.picture.proofs.slices.layout.band_size.Goals as goal

pub subband_width-requires : goal.subband_width-requires
subband_width-requires c = let a = c.args in omega (arith, level_most_lem a.l.depth_ho a.l.depth a.n c.requires.1)

pub subband_height-requires : goal.subband_height-requires
subband_height-requires c = let a = c.args in omega (arith, level_most_lem a.l.depth_ho a.l.depth a.n c.requires.1)

pub returns : goal.returns
unfolding band_size
returns c = rw (c.subband_height.ensures, c.subband_width.ensures, c.level_of-level.ensures) refl
