-- `replay::transform::full_sides` is safe.
use mathlib.Core.Path.{refl}
use Rattle.replay.specs.Laws.Planes.{full}
use Rattle.replay.proofs.transform.full_sides.Goals as goal

pub returns : goal.returns
returns c = full c.args.c _ c.args.t c.requires refl refl c.padded_side.ensures c.padded_side-2.ensures
