-- `vc2_encode_picture` meets its contract.
use mathlib.Core.Path.{◌≡◌, sym, ◌∙◌}
use mathlib.Core.Bool.{true}
use Rattle.unit.specs.Words.{known}
use Rattle.unit.specs.Three.{planes}
use Rattle.exports.specs.Laws.Calls.{picture_unknown, picture_accepted, picture_kept}
use Rattle.exports.proofs.vc2_encode_picture.Goals as goal
use Rattle.exports.proofs.vc2_encode_picture.Goals.{Else-not-known, in-Ok, in_default}

pub returns-then-not-known : goal.returns-then-not-known
returns-then-not-known c =
    let a = c.args in
    picture_unknown a.settings.now a.matrix.now (planes a.y.now a.c1.now a.c2.now) a.out.now a.work.now _
    (sym c.known.ensures ∙ c.if-not-known.true)

-- the words are settings
are-known : (c : Else-not-known) → known c.args.settings.now ≡ true
are-known c = sym c.known.ensures ∙ c.if-not-known.false

pub settings_of-s-requires : goal.settings_of-s-requires
settings_of-s-requires c = are-known c

pub returns : goal.returns
returns c =
    let a = c.args in
    let k = c.settings_of-s in
    let e = c.encode_picture-r in
    let f = are-known (goal.at.returns c).Else-not-known in
    elim c.match-r.branch [
      | in-Ok w ↦
          rw (c.number_of.ensures, w.r-is, w.written-is, w.cut_slices-is, w.slice_size_scaler-is)
          (picture_accepted a.settings.now a.matrix.now (planes a.y.now a.c1.now a.c2.now) a.out.now a.work.now _ k.result
          e.new.out e.new.work e.result f k.ensures e.ensures _ w.in-Ok.is)
      | in_default w ↦
          rw (c.number_of.ensures, w.r-is, w.written-is, w.cut_slices-is, w.slice_size_scaler-is)
          (picture_kept a.settings.now a.matrix.now (planes a.y.now a.c1.now a.c2.now) a.out.now a.work.now _ k.result
          e.new.out e.new.work e.result f k.ensures e.ensures w.in_default.not-Ok)
    ]
