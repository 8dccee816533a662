-- `slices::counter::add_place` meets its contract.
use mathlib.Core.Path.{refl}
use native.Mathlib.Omega.{arith}
use Rattle.picture.specs.Code.Strip.{number_in}
use Rattle.picture.specs.Laws.Strip.{numbered, number_size}
use Rattle.picture.specs.Laws.Added.{place-added}
use Rattle.picture.specs.Laws.Counter.{counted_fewer, counted_one}
use Rattle.picture.proofs.slices.counter.add_place.Goals as goal

pub add_number-d-requires : goal.add_number-d-requires
add_number-d-requires g c =
    let h = c.requires in
    (numbered h.0.holds.0 h.0.holds.1 h.1.1.0, (h.1.0, counted_fewer h.1.1.1 (omega arith)))

pub add_second-requires : goal.add_second-requires
add_second-requires g c =
    let h = c.requires in
    let a = c.args in
    let d = c.add_number-d in
    (h.0, (h.1.0, (h.1.1.0, counted_one g.C.Counter.laws a.c d.result (number_in a.work.now a.s a.s.coefs a.s.rebuilt a.y a.x) h.1.1.1 (number_size a.work.now a.s a.s.coefs a.s.rebuilt a.y a.x) d.ensures)))

pub returns : goal.returns
returns g c =
    let a = c.args in
    place-added g.C.Counter.step a.work.now a.s a.y a.x a.c _ _ _ refl c.add_number-d.ensures c.add_second.ensures
