use mathlib.Core.Path.{◌≡◌, sym, ap}
use mathlib.Core.Bool.{false}
use native.Mathlib.Omega.{arith}
use Rattle.picture.specs.Code.Layout.{band_count, run_numbers}
use Rattle.picture.specs.Laws.Layout.{start_first, strip_in, strip_from, start-turn, start_small, run-window, window-first, window-turn}
use Rattle.picture.specs.Laws.Packed.{packs_same, packs_run-none, run_packable, band_ready, band-turn}
use Rattle.picture.proofs.high.packed.pack_run.Goals as goal

pub first_window-v-requires : goal.first_window-v-requires
first_window-v-requires c = run-window c.requires.1.holds.0 0 (omega arith)

pub loop-n-init : goal.loop-n-init
loop-n-init c =
    let a = c.args in
    (sym (start_first a.r.now.layout a.r.now.first), (window-first _ _ _ _ c.first_window-v.ensures, packs_run-none a.work.now a.r.now.layout a.r.now.first a.r.now.slice a.r.now.index _))

pub next_window-v-requires : goal.next_window-v-requires
next_window-v-requires c =
    let v = c.loop-n in
    (run-window c.requires.1.holds.0 v.n (rw c.band_count-n-end.ensures at c.loop-n-test.true), v.invariant.1.0)

pub strip_in-s-requires : goal.strip_in-s-requires
strip_in-s-requires c =
    let v = c.loop-n in
    rw c.requires.0 (strip_in c.requires.1.holds.0 v.n v.start (rw c.band_count-n-end.ensures at c.loop-n-test.true) v.invariant.0, c.next_window-v.ensures)

pub pack_strip-requires : goal.pack_strip-requires
pack_strip-requires c =
    let a = c.args in
    let h = c.requires.1.holds in
    let v = c.loop-n in
    let s = c.strip_in-s in
    let e = rw c.requires.0 at s.ensures in
    let f = strip_from _ _ _ _ _ _ s.result v.n v.start e v.invariant.0 in
    band_ready a.work.now _ _ _ _ h.0 h.1.0 s.result v.n (rw c.band_count-n-end.ensures at c.loop-n-test.true) f
    (run_packable a.at _ h.0.small h.1.1) v.invariant.1.1

pub overflow_mul-start : goal.overflow_mul-start
overflow_mul-start c =
    let a = c.args in
    let v = c.loop-n in
    let s = c.strip_in-s in
    omega (arith, start_small _ _ _ _ _ _ _ c.requires.1.holds.0 s.result v.n (rw c.band_count-n-end.ensures at c.loop-n-test.true) v.start (rw c.requires.0 at s.ensures) v.invariant.0)

pub overflow_add-start : goal.overflow_add-start
overflow_add-start c =
    let a = c.args in
    let v = c.loop-n in
    let s = c.strip_in-s in
    omega (arith, start_small _ _ _ _ _ _ _ c.requires.1.holds.0 s.result v.n (rw c.band_count-n-end.ensures at c.loop-n-test.true) v.start (rw c.requires.0 at s.ensures) v.invariant.0)

pub loop-n-preserved : goal.loop-n-preserved
loop-n-preserved c =
    let a = c.args in
    let h = c.requires.1.holds in
    let v = c.loop-n in
    let s = c.strip_in-s in
    let e = rw c.requires.0 at s.ensures in
    let f = strip_from _ _ _ _ _ _ s.result v.n v.start e v.invariant.0 in
    let p = run_packable a.at _ h.0.small h.1.1 in (
      start-turn _ _ _ _ _ _ s.result v.n v.start e v.invariant.0,
      (
        window-turn _ _ v.n _ _ c.next_window-v.ensures,
        band-turn a.work.now _ _ _ _ h.0 h.1.0 s.result v.n (rw c.band_count-n-end.ensures at c.loop-n-test.true) f p v.invariant.1.1 c.pack_strip.ensures,
      ),
    )

pub returns : goal.returns
returns c =
    let a = c.args in
    let v = c.loop-n in
    let e : v.n ≡ band_count a.r.now.layout = omega (arith, v.auto.n-end, c.loop-n-test.false, c.band_count-n-end.ensures) in
    rw c.requires.0 (packs_same (ap (run_numbers a.work.now a.r.now.layout a.r.now.first a.r.now.first false a.r.now.slice a.r.now.index) e) v.invariant.1.1)
