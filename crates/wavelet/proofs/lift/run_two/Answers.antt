use Rattle.std.proofs.Common.{rules, ◌≡◌, ◌+◌, ◌*◌, ◌<◌, length, set, ℤ, ◌*ℤ◌, ap, ◌∙◌, arith, to_z-of_z, w64, SFits, to_z, of_z}
use borrow.Author.Rules.{sfits_of}
use Rattle.laws.specs.Wrap.{wrap}
use Rattle.laws.specs.Laws.Wrap.{add-bits}
use Rattle.laws.specs.Rows.{at}
use Rattle.wavelet.specs.Lifting.{scaled, change}
use Rattle.wavelet.specs.Code.Run.{taps_to, value_of, two_taps, two_places}
use Rattle.wavelet.specs.Laws.Run.{ran-none, ran-turn, two-sum}
use Rattle.wavelet.proofs.lift.run_two.Goals as goal
use Rattle.wavelet.proofs.lift.run_two.Goals.{In-loop-n}

reads-j : (c : In-loop-n) → c.args.j + c.args.step * c.loop-n.n < length c.loop-n.a
reads-j c = rw c.loop-n.auto.a (c.requires.0.inside c.loop-n.n 1 c.loop-n-test.true (omega arith))

pub loop-n-init : goal.loop-n-init
loop-n-init c =
    let a = c.args in
    simp (to_z-of_z, c.ranges.t) (ran-none (two_taps a.t a.shift) a.plus (two_places a.i a.j) a.p a.step a.a.now)

pub slice_copy_out-u : goal.slice_copy_out-u
slice_copy_out-u c = rw c.loop-n.auto.a (c.requires.0.inside c.loop-n.n 0 c.loop-n-test.true (omega arith))

pub overflow_add-v : goal.overflow_add-v
overflow_add-v c = omega (arith, reads-j (goal.at.overflow_add-v c).In-loop-n)

pub offset_bounds-a-j : goal.offset_bounds-a-j
offset_bounds-a-j c = omega (arith, reads-j (goal.at.offset_bounds-a-j c).In-loop-n)

pub slice_copy_out-v : goal.slice_copy_out-v
slice_copy_out-v c = reads-j (goal.at.slice_copy_out-v c).In-loop-n

pub loop-n-preserved : goal.loop-n-preserved
loop-n-preserved c =
    let l = c.loop-n in
    let a = c.args in
    let s = two_taps a.t a.shift in
    let o = two_places a.i a.j in
    let x = a.step * l.n in
    let m = c.wrapping_mul_i64 in
    let d = c.scaled-d in
    let y = c.change in
    let fu : SFits w64 (at l.a (a.i + x)) = search rules in
    let fv : SFits w64 (at l.a (a.j + x)) = search rules in
    let fw : SFits w64 (at l.a (a.p + x)) = search rules in
    let fm : SFits w64 m.result = sfits_of m.type_inv in
    let fd : SFits w64 d.result = sfits_of d.type_inv in
    let e1 = add-bits (at l.a (a.i + x)) (at l.a (a.j + x)) fu fv in
    let e2 = simp (to_z-of_z, c.ranges.t) at m.ensures in
    let e3 = simp (to_z-of_z, fm) at d.ensures in
    let e4 = simp (to_z-of_z, fw, fd) at y.ensures in
    let sum : m.result ≡ taps_to s.taps o x l.a (length s.taps) =
    e2 ∙ ap (λ (z : ℤ). wrap (a.t *ℤ z)) e1 ∙ two-sum a.t a.shift a.i a.j x l.a in
    let v : to_z w64 (of_z w64 y.result) ≡ value_of s a.plus o a.p x l.a =
    to_z-of_z {w = w64} (sfits_of y.type_inv) ∙ e4 ∙ ap (change wrap a.plus (at l.a (a.p + x))) (e3 ∙ ap (scaled wrap s) sum) in
    let now = simp (to_z-of_z, c.ranges.t) at l.invariant in
    simp (to_z-of_z, c.ranges.t) (ap (set l.a (a.p + x)) v ∙ ran-turn s a.plus o a.p a.count a.step l.n a.a.now l.a c.requires.0 c.loop-n-test.true now)
