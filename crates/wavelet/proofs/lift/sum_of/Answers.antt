use Rattle.std.proofs.Common.{rules, ◌≡◌, ℕ, ◌+◌, ◌%◌, ◌^◌, get_or, ℤ, ◌+ℤ◌, sym, ap, ap₂, ◌∙◌, to_z-of_z, w64, SFits, to_z, of_z}
use Rattle.std.proofs.lemmas.Int.{of_z-to_z}
use borrow.Author.Rules.{sfits_of}
use Rattle.laws.specs.Wrap.{wrap}
use Rattle.laws.specs.Rows.{at}
use Rattle.laws.specs.Laws.Wrap.{to_z_wraps, add-bits}
use Rattle.wavelet.specs.Laws.Lifting.{dot-zero, dot-next}
use Rattle.wavelet.proofs.lift.sum_of.Goals as goal

pub loop-k-init : goal.loop-k-init
loop-k-init g c = sym (dot-zero wrap (at c.args.s.taps) (λ j. at c.args.a.now (get_or c.args.o j 0 + c.args.x)))

pub loop-k-preserved : goal.loop-k-preserved
loop-k-preserved g c =
    let a = c.args in
    let l = c.loop-k in
    let m = c.wrapping_mul_i64-sum in
    let fy : SFits w64 (at a.a.now (get_or a.o l.k 0 + a.x)) = search rules in
    let ft : SFits w64 (at a.s.taps l.k) = search rules in
    let e1 = simp (to_z-of_z, ft, fy) at m.ensures in
    let e = ap₂ (λ (y z : ℤ). wrap (y +ℤ z)) l.invariant e1 ∙ dot-next wrap (at a.s.taps) (λ j. at a.a.now (get_or a.o j 0 + a.x)) l.k in
    let fs : SFits w64 (to_z w64 l.sum-bits) = record { sfits = (to_z_wraps l.sum-bits l.auto.sum-fits.fits).fits } in
    let back : of_z w64 (to_z w64 l.sum-bits) ≡ l.sum-bits = of_z-to_z w64 l.sum-bits l.auto.sum-fits.fits in
    ap (λ (n : ℕ). to_z w64 ((n + of_z w64 m.result) % 2 ^ 64)) (sym back) ∙ add-bits (to_z w64 l.sum-bits) m.result fs (sfits_of m.type_inv) ∙ e
