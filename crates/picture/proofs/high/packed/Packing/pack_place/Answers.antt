-- `high::packed::Packing::pack_place` meets its contract.
use mathlib.Core.Path.{◌≡◌, ap, ◌∙◌}
use mathlib.Core.List.{[], ◌∷◌}
use native.Mathlib.Omega.{arith}
use lib.IntN.{ℤ}
use mir.Syntax.{w64}
use mir.Facts.{to_z-of_z}
use borrow.Author.Rules.{sfits_of}
use Rattle.quantiser.specs.Quant.{forward_by}
use Rattle.picture.specs.Code.Strip.{plane_from}
use Rattle.picture.specs.Laws.Strip.{numbered}
use Rattle.picture.specs.Laws.Packed.{packs_same, packs_zero, zero_bits_lem, place_is}
use Rattle.picture.proofs.high.packed.Packing.pack_place.Goals as goal
use Rattle.picture.proofs.high.packed.Packing.pack_place.Goals.{After-forward_small-z}

pub forward_small-z-requires : goal.forward_small-z-requires
forward_small-z-requires c =
    let h = c.requires in
    let d = c.coefficient-c in
    ((numbered h.0.holds.0.plain.small h.0.holds.0.plain.within h.1).factor, rw (to_z-of_z {w = w64} (sfits_of d.type_inv)) (omega (arith, d.ensures.1)))

-- what is packed
number : (c : After-forward_small-z) → let a = c.args in
    c.forward_small-z.result ≡ forward_by a.s.factor (plane_from a.work.now a.s.coefs a.s.width a.y a.x)
number c =
    let a = c.args in
    let d = c.coefficient-c in
    c.forward_small-z.ensures ∙ ap (forward_by a.s.factor) (to_z-of_z {w = w64} (sfits_of d.type_inv) ∙ d.ensures.0)

pub returns-then-z-eq0 : goal.returns-then-z-eq0
returns-then-z-eq0 c =
    let a = c.args in
    let h = c.requires in
    let f = c.forward_small-z in
    packs_same (place_is h.0.holds.0 a.y a.x f.result (number (goal.at.returns-then-z-eq0 c).After-forward_small-z)) (packs_zero a.work.now a.self.now f.result (zero_bits_lem f.result (sfits_of f.type_inv) c.if-z-eq0.true))

pub returns-else-z-eq0 : goal.returns-else-z-eq0
returns-else-z-eq0 c =
    let a = c.args in
    let h = c.requires in
    let f = c.forward_small-z in
    let e = ap (λ (z : ℤ). z ∷ []) (to_z-of_z {w = w64} (sfits_of f.type_inv)) in
    packs_same (e ∙ place_is h.0.holds.0 a.y a.x f.result (number (goal.at.returns-else-z-eq0 c).After-forward_small-z)) c.pack_number.ensures
