-- `picture::slices::strip::dc_predict` meets its contract.
use mathlib.Core.Path.{◌∙◌}
use Prim.Native.Nat.{ℕ, ◌+◌, ◌*◌, ◌-◌}
use lib.IntN.{pos}
use mir.Syntax.{w64}
use mir.Facts.{to_z-of_z}
use borrow.Author.Rules.{sfits_of}
use Rattle.picture.specs.Laws.Strip.{row_up, read, predict_corner, predict-top, predict_side, predict-mean, is_predict}
use native.Mathlib.Omega.{arith}
use Rattle.picture.proofs.slices.strip.dc_predict.Goals as goal

pub returns-in-0-eq0 : goal.returns-in-0-eq0
returns-in-0-eq0 c =
    let a = c.args in
    let z = c.in-0-eq0 in
    is_predict a.work.now a.base a.w a.y a.x c.requires.0 (pos 0) (predict_corner a.work.now a.base a.w a.y a.x z.is-0 z.is-1)

pub returns-in-0-default : goal.returns-in-0-default
returns-in-0-default c =
    let a = c.args in
    let z = c.in-0-default in
    is_predict a.work.now a.base a.w a.y a.x c.requires.0 _
    (read c.requires.0 (a.base + (a.x - 1)) (omega arith) ∙ predict-top a.work.now a.base a.w a.y a.x z.is-0 z.is-1.1)

pub returns-in_default-eq0 : goal.returns-in_default-eq0
returns-in_default-eq0 c =
    let a = c.args in
    let z = c.in_default-eq0 in
    let u = row_up a.w a.y z.is-0.1 in
    is_predict a.work.now a.base a.w a.y a.x c.requires.0 _
    (read c.requires.0 (a.base + (a.y - 1) * a.w) (omega arith) ∙ predict_side a.work.now a.base a.w a.y a.x z.is-0.1 z.is-1)

pub returns-in_default : goal.returns-in_default
returns-in_default c =
    let a = c.args in
    let z = c.in_default in
    let r = c.requires.0 in
    let u = row_up a.w a.y z.is-0.1 in
    let i : ℕ = a.base + (a.y - 1) * a.w + a.x in
    is_predict a.work.now a.base a.w a.y a.x r _
    (to_z-of_z {w = w64} (sfits_of c.mean3.type_inv)
    ∙ rw (read r (i - 1 + a.w) (omega arith), read r (i - 1) (omega arith), read r i (omega arith)) at c.mean3.ensures
    ∙ predict-mean a.work.now a.base a.w a.y a.x z.is-0.1 z.is-1.1)
