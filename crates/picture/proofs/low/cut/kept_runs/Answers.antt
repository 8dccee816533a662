-- `low::cut::kept_runs` meets its contract.
use mathlib.Core.Path.{◌∙◌}
use Rattle.picture.specs.Code.Low.{luma_in, colour_in}
use Rattle.picture.specs.Laws.LowRest.{joins_both, joined_few, luma-whole, colour-whole}
use Rattle.picture.specs.Laws.LowSlice.{kept_whole, not-whole}
use native.Mathlib.Omega.{arith}
use Rattle.picture.proofs.low.cut.kept_runs.Goals as goal

pub joined-y-requires : goal.joined-y-requires
joined-y-requires c = let h = c.requires in (joins_both c.first_tallies-f.ensures h.1.0 h.0.arranged).0

pub joined-c-requires : goal.joined-c-requires
joined-c-requires c = let h = c.requires in (joins_both c.first_tallies-f.ensures h.1.0 h.0.arranged).1

pub overflow_add-y : goal.overflow_add-y
overflow_add-y c =
    let f = c.first_tallies-f in
    let y = c.joined-y in
    let d = c.joined-c in
    let j = joins_both f.ensures c.requires.1.0 c.requires.0.arranged in
    omega (arith, joined_few f.result.luma c.args.r.luma y.result j.0 y.ensures, joined_few f.result.colour c.args.r.colour d.result j.1 d.ensures)

pub returns-then-y-c : goal.returns-then-y-c
returns-then-y-c c =
    let a = c.args in
    let ys = luma_in a.work.now a.s.picture a.s.k a.q in
    let cs = colour_in a.work.now a.s.picture a.s.k a.q in
    let f = c.first_tallies-f.ensures in
    let y = c.joined-y in
    let d = c.joined-c in
    let e = y.ensures ∙ luma-whole f c.requires.1.0 c.requires.1.1 in
    let g = d.ensures ∙ colour-whole f c.requires.1.0 c.requires.1.1 in
    kept_whole a.room ys cs y.result d.result e g c.if-y-c.true

pub cut-requires : goal.cut-requires
cut-requires c =
    let a = c.args in
    let ys = luma_in a.work.now a.s.picture a.s.k a.q in
    let cs = colour_in a.work.now a.s.picture a.s.k a.q in
    let f = c.first_tallies-f.ensures in
    let y = c.joined-y in
    let d = c.joined-c in
    let e = y.ensures ∙ luma-whole f c.requires.1.0 c.requires.1.1 in
    let g = d.ensures ∙ colour-whole f c.requires.1.0 c.requires.1.1 in
    (c.requires.0, not-whole a.room ys cs y.result d.result e g c.if-y-c.false)
