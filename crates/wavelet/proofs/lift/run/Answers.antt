-- `lift::run` meets its contract.
use Rattle.std.proofs.Common.{rules, ◌≡◌, ℕ, ℤ, pos, sym, refl, ap, ◌∙◌, to_z-of_z, w64, SFits, to_z, of_z}
use Rattle.laws.specs.Rows.{at}
use Rattle.wavelet.specs.Laws.Run.{two-ran}
use Rattle.wavelet.proofs.lift.run.Goals as goal

-- a number by its bits
by_bits : (z : ℤ) (n : ℕ) → SFits w64 z → of_z w64 z ≡ n → z ≡ to_z w64 n
by_bits z n f e = sym (to_z-of_z {w = w64} f) ∙ ap (to_z w64) e

pub returns-then-t-eq1 : goal.returns-then-t-eq1
returns-then-t-eq1 c =
    let a = c.args in
    let s = a.s in
    let f0 : SFits w64 (at s.taps 0) = search rules in
    let f1 : SFits w64 (at s.taps 1) = search rules in
    let one = c.if-t-eq1.true in
    c.run_two.ensures ∙ two-ran s (pos 1) a.o c.if-s-eq2.true (by_bits (at s.taps 0) 1 f0 one) (by_bits (at s.taps 1) 1 f1 (sym c.if-t-s.true ∙ one)) a.plus a.p a.step a.count a.a.now

pub returns-else-t-eq1 : goal.returns-else-t-eq1
returns-else-t-eq1 c =
    let a = c.args in
    let s = a.s in
    let n = of_z w64 (at s.taps 0) in
    let f0 : SFits w64 (at s.taps 0) = search rules in
    let f1 : SFits w64 (at s.taps 1) = search rules in
    c.run_two-else-t-eq1.ensures ∙ two-ran s (to_z w64 n) a.o c.if-s-eq2.true (by_bits (at s.taps 0) n f0 refl) (by_bits (at s.taps 1) n f1 (sym c.if-t-s.true)) a.plus a.p a.step a.count a.a.now
