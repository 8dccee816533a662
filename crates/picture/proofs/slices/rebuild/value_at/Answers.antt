-- `picture::slices::rebuild::value_at` meets its contract.
use mir.Facts.{to_z-of_z}
use Rattle.quantiser.specs.Laws.Quant.{quant_offset-lt}
use Rattle.picture.specs.Laws.Strip.{numbered, value-reach}
use native.Mathlib.Omega.{arith}
use Rattle.picture.proofs.slices.rebuild.value_at.Goals as goal

pub forward_by-q-requires : goal.forward_by-q-requires
forward_by-q-requires c = let h = c.requires in (numbered h.0.holds.0 h.0.holds.1 h.1).factor

pub inverse_by-requires : goal.inverse_by-requires
inverse_by-requires c =
    let h = c.requires in
    ((numbered h.0.holds.0 h.0.holds.1 h.1).factor.0, rw h.0.holds.1.offset (quant_offset-lt c.args.s.index))

pub overflow_add-result : goal.overflow_add-result
overflow_add-result c =
    let h = c.requires in
    let r = value-reach h.0.holds.0 h.0.holds.1 h.1 in
    grind (arith, to_z-of_z)

pub returns : goal.returns
returns c =
    let h = c.requires in
    let r = value-reach h.0.holds.0 h.0.holds.1 h.1 in
    grind (arith, to_z-of_z)
