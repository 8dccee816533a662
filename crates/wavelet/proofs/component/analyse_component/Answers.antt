-- `component::analyse_component` meets its contract.
use Rattle.std.proofs.Common.{ℕ, ◌*◌, ◌/◌, arith, ◌∙◌}
use Rattle.wavelet.specs.Pad.{padded}
use Rattle.wavelet.specs.Laws.Level.{h_level, vh_level}
use Rattle.wavelet.specs.Laws.Walk.{deep_both, deep_across, place_down, quarter_area, half_area, walk_both, walk_across}
use Rattle.wavelet.specs.Laws.Component.{padded-none}
use Rattle.wavelet.proofs.component.analyse_component.Goals as goal

pub vh_bands-requires : goal.vh_bands-requires
vh_bands-requires c =
    let a = c.args in
    let m : ℕ = a.c.ph * a.c.pw in (
      (deep_both a.t.k a.t.d a.c.ph a.c.pw a.t.ih a.t.iv c.if-t-gt0.true c.requires.deep).0,
      (place_down a.n a.off m m a.work.now c.pad_rows.new.work c.requires.place (omega arith) c.pad_rows.auto.work, c.requires.deep.iv_le),
    )

pub dwt-requires : goal.dwt-requires
dwt-requires c =
    let a = c.args in
    let b = c.vh_bands in (
      (deep_both a.t.k a.t.d a.c.ph a.c.pw a.t.ih a.t.iv c.if-t-gt0.true c.requires.deep).1,
      place_down a.n a.off (a.c.ph * a.c.pw) (a.c.ph / 2 * (a.c.pw / 2)) a.work.now b.new.work c.requires.place (quarter_area a.c.ph a.c.pw) (b.auto.work ∙ c.pad_rows.auto.work),
    )

pub h_bands-requires : goal.h_bands-requires
h_bands-requires c =
    let a = c.args in
    let r = c.pad_rows-then-t-gt0-2 in
    let m : ℕ = a.c.ph * a.c.pw in (
      (deep_across a.t.k a.t.d a.c.ph a.c.pw a.t.ih a.t.iv c.if-t-gt0.false c.if-t-gt0-2.true c.requires.deep).0,
      place_down a.n a.off m m a.work.now r.new.work c.requires.place (omega arith) r.auto.work,
    )

pub dwt-requires-then-t-gt0-2 : goal.dwt-requires-then-t-gt0-2
dwt-requires-then-t-gt0-2 c =
    let a = c.args in
    let r = c.pad_rows-then-t-gt0-2 in
    let b = c.h_bands in (
      (deep_across a.t.k a.t.d a.c.ph a.c.pw a.t.ih a.t.iv c.if-t-gt0.false c.if-t-gt0-2.true c.requires.deep).1,
      place_down a.n a.off (a.c.ph * a.c.pw) (a.c.ph * (a.c.pw / 2)) a.work.now b.new.work c.requires.place (half_area a.c.ph a.c.pw) (b.auto.work ∙ r.auto.work),
    )

pub returns-then-t-gt0 : goal.returns-then-t-gt0
returns-then-t-gt0 c =
    let a = c.args in
    let r = c.pad_rows in
    let b = c.vh_bands in
    let f = padded a.samples.now a.c.offset a.c.w a.c.h in
    let p = c.requires.place in
    let some = c.if-t-gt0.true in
    c.dwt.ensures
    ∙ walk_both a.t.ih a.t.iv a.t.k a.t.d a.c.ph a.c.pw a.n a.off f a.work.now b.new.work some
    (deep_both a.t.k a.t.d a.c.ph a.c.pw a.t.ih a.t.iv some c.requires.deep).0 p
    (vh_level a.n a.off a.c.ph a.c.pw a.work.now p a.t.ih a.t.iv f r.new.work b.new.work r.ensures b.ensures)

pub returns-then-t-gt0-2 : goal.returns-then-t-gt0-2
returns-then-t-gt0-2 c =
    let a = c.args in
    let r = c.pad_rows-then-t-gt0-2 in
    let b = c.h_bands in
    let f = padded a.samples.now a.c.offset a.c.w a.c.h in
    let p = c.requires.place in
    let flat = c.if-t-gt0.false in
    let some = c.if-t-gt0-2.true in
    let e = (deep_across a.t.k a.t.d a.c.ph a.c.pw a.t.ih a.t.iv flat some c.requires.deep).0 in
    c.dwt-then-t-gt0-2.ensures
    ∙ walk_across a.t.ih a.t.iv a.t.k a.t.d a.c.ph a.c.pw a.n a.off f a.work.now b.new.work flat some e p
    (h_level a.n a.off a.c.ph a.c.pw a.work.now p a.t.ih f r.new.work b.new.work e r.ensures b.ensures)

pub returns-else-t-gt0-2 : goal.returns-else-t-gt0-2
returns-else-t-gt0-2 c =
    let a = c.args in
    let p = c.pad_component in
    padded-none a.t.ih a.t.iv a.t.k a.t.d a.samples.now a.c.offset a.c.w a.c.h a.c.pw a.c.ph a.n a.off a.work.now p.new.plane
    c.if-t-gt0.false c.if-t-gt0-2.false c.requires.place p.ensures
