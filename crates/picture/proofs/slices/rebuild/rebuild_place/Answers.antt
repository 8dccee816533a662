-- `picture::slices::rebuild::rebuild_place` meets its contract.
use mir.Facts.{to_z-of_z}
use Rattle.laws.specs.Laws.Window.{set-lent}
use Rattle.picture.specs.Laws.Strip.{place-lt}
use native.Mathlib.Omega.{arith}
use Rattle.picture.proofs.slices.rebuild.rebuild_place.Goals as goal

pub returns : goal.returns
returns c =
    let h = c.requires in
    let b = place-lt h.0.holds.0 h.0.holds.1 h.1 in
    grind (arith, to_z-of_z, set-lent)
