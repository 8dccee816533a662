-- `low::put::Put::run` meets its contract.
use mathlib.Core.Path.{sym}
use Rattle.picture.specs.Laws.Layout.{start_first, strip_in, strip_from, start-turn, start_small, window-first, window-turn, put-none, put-turn, put_ready}
use native.Mathlib.Omega.{arith}
use Rattle.picture.specs.Code.Layout.{second_of, pair_of}
use Rattle.picture.proofs.low.put.Put.run.Goals as goal

pub loop-n-init : goal.loop-n-init
loop-n-init c =
    let a = c.args in
    (sym (start_first a.r.now.layout a.r.now.first), (window-first _ _ _ _ c.first_window-v.ensures, put-none a.work.now a.r.now.layout a.r.now.first (second_of a.r.now) (pair_of a.r.now) a.r.now.slice a.r.now.index c.requires.1))

pub strip_in-s-requires : goal.strip_in-s-requires
strip_in-s-requires c =
    let v = c.loop-n in
    (strip_in c.requires.0.holds v.n v.start (rw c.band_count-n-end.ensures at c.loop-n-test.true) v.invariant.0, c.next_window-v.ensures)

pub strip-requires : goal.strip-requires
strip-requires c =
    let a = c.args in
    let v = c.loop-n in
    let s = c.strip_in-s in
    put_ready _ _ _ _ _ _ _ c.requires.0.holds s.result v.n (rw c.band_count-n-end.ensures at c.loop-n-test.true) (strip_from _ _ _ _ _ _ s.result v.n v.start s.ensures v.invariant.0) c.requires.1 v.invariant.1.1

pub overflow_mul-start : goal.overflow_mul-start
overflow_mul-start c =
    let a = c.args in
    let v = c.loop-n in
    let s = c.strip_in-s in
    omega (arith, start_small _ _ _ _ _ _ _ c.requires.0.holds s.result v.n (rw c.band_count-n-end.ensures at c.loop-n-test.true) v.start s.ensures v.invariant.0)

pub overflow_add-start : goal.overflow_add-start
overflow_add-start c =
    let a = c.args in
    let v = c.loop-n in
    let s = c.strip_in-s in
    omega (arith, start_small _ _ _ _ _ _ _ c.requires.0.holds s.result v.n (rw c.band_count-n-end.ensures at c.loop-n-test.true) v.start s.ensures v.invariant.0)

pub loop-n-preserved : goal.loop-n-preserved
loop-n-preserved c =
    let a = c.args in
    let v = c.loop-n in
    let s = c.strip_in-s in
    (start-turn _ _ _ _ _ _ s.result v.n v.start s.ensures v.invariant.0, (window-turn _ _ v.n _ _ c.next_window-v.ensures, put-turn a.work.now a.r.now.layout a.r.now.first (second_of a.r.now) (pair_of a.r.now) a.r.now.slice a.r.now.index s.result v.n (strip_from _ _ _ _ _ _ s.result v.n v.start s.ensures v.invariant.0) c.requires.1.sound v.invariant.1.1 c.strip.ensures))
