-- `slices::counter::add_second` meets its contract.
use mathlib.Core.Path.{refl}
use Rattle.picture.specs.Laws.Strip.{numbered_second}
use Rattle.picture.specs.Laws.Added.{second_yes, second_no}
use Rattle.picture.proofs.slices.counter.add_second.Goals as goal

pub add_number-requires : goal.add_number-requires
add_number-requires g c =
    let h = c.requires in
    (numbered_second h.0.holds.0 h.0.holds.1 h.1.1.0 c.in-Some.o c.in-Some.is, (h.1.0, h.1.1.1))

pub returns-in-Some : goal.returns-in-Some
returns-in-Some g c =
    let a = c.args in
    second_yes g.C.Counter.step a.work.now a.s a.y a.x a.c c.in-Some.o _ c.in-Some.is refl c.add_number.ensures

pub returns-in-None : goal.returns-in-None
returns-in-None g c = let a = c.args in second_no g.C.Counter.step a.work.now a.s a.y a.x a.c c.in-None.is
