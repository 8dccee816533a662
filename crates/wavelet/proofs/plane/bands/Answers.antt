use Rattle.std.proofs.Common.{◌*◌, ◌/◌, arith}
use Rattle.laws.specs.Laws.Window.{length-lent, parts_first}
use Rattle.wavelet.specs.Laws.PlaneLists.{parts_to}
use Rattle.wavelet.specs.Laws.Copy.{bands_in, bands_room, bands-turn, bands_all}
use Rattle.wavelet.proofs.plane.bands.Goals as goal

pub loop-n-init : goal.loop-n-init
loop-n-init c = parts_to (omega arith) (parts_first _ _ _ _ _)

pub slice_bounds-band-end : goal.slice_bounds-band-end
slice_bounds-band-end c =
    let a = c.args in
    let s = c.split_at_mut-front in
    let l = c.loop-n in
    bands_room a.work.now a.to a.v a.a a.w c.requires s.result.0.now s.result.1.now s.ensures.value s.ensures.front_len l.behind l.n (l.n * (a.a * (a.w / 2))) l.invariant c.loop-n-test.true

pub band-requires : goal.band-requires
band-requires c =
    let a = c.args in
    let s = c.split_at_mut-front in
    let l = c.loop-n in
    let p = l.n * (a.a * (a.w / 2)) in (
      bands_in a.work.now a.to a.v a.a a.w c.requires s.result.0.now s.result.1.now s.ensures.value s.ensures.front_len l.n c.loop-n-test.true,
      length-lent p (a.a * (a.w / 2)) l.behind
          (bands_room a.work.now a.to a.v a.a a.w c.requires s.result.0.now s.result.1.now s.ensures.value s.ensures.front_len l.behind l.n p l.invariant c.loop-n-test.true),
    )

pub loop-n-preserved : goal.loop-n-preserved
loop-n-preserved c =
    let a = c.args in
    let s = c.split_at_mut-front in
    let l = c.loop-n in
    parts_to (omega arith)
    (bands-turn a.work.now a.to a.v a.a a.w c.requires s.result.0.now s.result.1.now s.ensures.value s.ensures.front_len l.behind l.n (l.n * (a.a * (a.w / 2))) l.invariant
    c.loop-n-test.true c.band.new.dst c.band.ensures)

pub returns : goal.returns
returns c =
    let a = c.args in
    let s = c.split_at_mut-front in
    let l = c.loop-n in
    bands_all a.work.now a.to a.v a.a a.w c.requires s.result.0.now s.result.1.now s.ensures.value s.ensures.front_len l.behind l.n (l.n * (a.a * (a.w / 2))) l.invariant (omega arith)
