use Rattle.picture.specs.Laws.Layout.{strip_in, strip_from, start-turn, start_small, window-turn, window-area, window_few, rest-added-none, rest-added-turn, rest_ready}
use native.Mathlib.Omega.{arith}
use Rattle.picture.specs.Code.Layout.{second_of, pair_of}
use Rattle.picture.proofs.slices.run.add_rest.Goals as goal

pub overflow_mul-start : goal.overflow_mul-start
overflow_mul-start g c = omega (arith, window_few c.requires.0.holds c.args.first c.requires.1.1)

pub loop-n-init : goal.loop-n-init
loop-n-init g c =
    let a = c.args in
    (window-area a.r.now.layout a.r.now.first a.r.now.slice a.first c.requires.1.1, (window-turn _ _ 0 _ _ c.requires.1.1, rest-added-none a.work.now a.r.now.layout a.r.now.first (second_of a.r.now) (pair_of a.r.now) a.r.now.slice a.r.now.index g.C.Counter.step a.t))

pub strip_in-s-requires : goal.strip_in-s-requires
strip_in-s-requires g c =
    let v = c.loop-n in
    (strip_in c.requires.0.holds v.n v.start (rw c.band_count-n-end.ensures at c.loop-n-test.true) v.invariant.0, c.next_window-v.ensures)

pub add_strip-sum-requires : goal.add_strip-sum-requires
add_strip-sum-requires g c =
    let a = c.args in
    let v = c.loop-n in
    let s = c.strip_in-s in
    let i = rw (window-area a.r.now.layout a.r.now.first a.r.now.slice a.first c.requires.1.1) at c.requires.1.0 in
    let f = strip_from _ _ _ _ _ _ s.result v.n v.start s.ensures v.invariant.0 in
    let h = rest_ready _ _ _ _ _ _ _ c.requires.0.holds s.result v.n (rw c.band_count-n-end.ensures at c.loop-n-test.true) g.C.Counter.laws a.t v.sum v.auto.n f v.invariant.1.1 i in
    (h.0, (rw h.1.0 g.C.Counter.plain, h.1.1))

pub overflow_mul-start-in-loop-n : goal.overflow_mul-start-in-loop-n
overflow_mul-start-in-loop-n g c =
    let a = c.args in
    let v = c.loop-n in
    let s = c.strip_in-s in
    omega (arith, start_small _ _ _ _ _ _ _ c.requires.0.holds s.result v.n (rw c.band_count-n-end.ensures at c.loop-n-test.true) v.start s.ensures v.invariant.0)

pub overflow_add-start : goal.overflow_add-start
overflow_add-start g c =
    let a = c.args in
    let v = c.loop-n in
    let s = c.strip_in-s in
    omega (arith, start_small _ _ _ _ _ _ _ c.requires.0.holds s.result v.n (rw c.band_count-n-end.ensures at c.loop-n-test.true) v.start s.ensures v.invariant.0)

pub loop-n-preserved : goal.loop-n-preserved
loop-n-preserved g c =
    let a = c.args in
    let v = c.loop-n in
    let s = c.strip_in-s in
    let f = strip_from _ _ _ _ _ _ s.result v.n v.start s.ensures v.invariant.0 in
    (start-turn _ _ _ _ _ _ s.result v.n v.start s.ensures v.invariant.0, (window-turn _ _ v.n _ _ c.next_window-v.ensures, rest-added-turn a.work.now a.r.now.layout a.r.now.first (second_of a.r.now) (pair_of a.r.now) a.r.now.slice a.r.now.index g.C.Counter.step a.t v.sum _ s.result v.n v.auto.n f v.invariant.1.1 c.add_strip-sum.ensures))
