-- `encoder::code_picture` meets its contract.
use mathlib.Core.Path.{◌∙◌}
use Rattle.unit.specs.Three.{planes}
use Rattle.unit.proofs.Laws.Valid.{levels_few}
use Rattle.picture.specs.Code.Matrix.{lent_in}
use Rattle.picture.specs.Code.Analysed.{Called}
use Rattle.picture.specs.Laws.Analysed.{called, ready, codes-lent}
use Rattle.picture.proofs.encoder.code_picture.Goals as goal
use Rattle.picture.proofs.encoder.code_picture.Goals.{After-carried_of}

-- the call with the matrix that is made of the lent one
called_of : (c : After-carried_of) → Called c.args.s (lent_in c.carried_of.result)
called_of c = called c.requires c.carried_of.ensures

pub analyse-requires : goal.analyse-requires
analyse-requires c =
    ready c.requires

pub carried_of-requires : goal.carried_of-requires
carried_of-requires c =
    let v = c.requires in
    let s = c.args.s in
    (v.matrix, levels_few s v.shape)

pub picture_of-p-requires : goal.picture_of-p-requires
picture_of-p-requires c = called_of (goal.at.picture_of-p-requires c).After-carried_of

pub code_low-requires : goal.code_low-requires
code_low-requires c = record {
  called = called_of (goal.at.code_low-requires c).After-carried_of;
  same = c.in-LowDelay.is;
  picture = c.picture_of-p.ensures;
  small = c.analyse.ensures.0.small;
}

pub code_high-requires : goal.code_high-requires
code_high-requires c = record {
  called = called_of (goal.at.code_high-requires c).After-carried_of;
  same = c.in-HighQuality.is;
  picture = c.picture_of-p.ensures;
  small = c.analyse.ensures.0.small;
}

pub returns-in-LowDelay : goal.returns-in-LowDelay
returns-in-LowDelay c =
    let a = c.args in
    let p = planes a.y.now a.c1.now a.c2.now in
    let w = c.analyse.ensures in
    let r = c.code_low.ensures in
    (codes-lent p c.carried_of.ensures (r.0.codes p w.0), r.1 ∙ w.1)

pub returns-in-HighQuality : goal.returns-in-HighQuality
returns-in-HighQuality c =
    let a = c.args in
    let p = planes a.y.now a.c1.now a.c2.now in
    let w = c.analyse.ensures in
    let r = c.code_high.ensures in
    (codes-lent p c.carried_of.ensures (r.0.codes p w.0), r.1 ∙ w.1)
