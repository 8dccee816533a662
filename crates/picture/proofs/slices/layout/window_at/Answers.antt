-- `slices::layout::window_at` meets its contract.
use native.Mathlib.Omega.{arith}
use Rattle.picture.specs.Laws.Layout.{window_small}
use Rattle.picture.proofs.slices.layout.window_at.Goals as goal

pub bound-requires : goal.bound-requires
bound-requires c = omega (arith, window_small c.requires c.band_size-z.ensures)

pub bound-requires-2 : goal.bound-requires-2
bound-requires-2 c = omega (arith, window_small c.requires c.band_size-z.ensures)

pub bound-requires-3 : goal.bound-requires-3
bound-requires-3 c = omega (arith, window_small c.requires c.band_size-z.ensures)

pub bound-requires-4 : goal.bound-requires-4
bound-requires-4 c = omega (arith, window_small c.requires c.band_size-z.ensures)
