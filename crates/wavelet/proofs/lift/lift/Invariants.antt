-- `lift::lift` meets its contract. The loop's invariant: the row is what the first n updates leave.
use Rattle.std.proofs.Common.{◌≡◌, ℕ, ◌-◌, ◌/◌, ◌≤◌, Bool, not, List, length, ℤ}
use Rattle.laws.specs.Wrap.{wrap}
use Rattle.wavelet.specs.Lifting.{Stage, lifted}
use Rattle.wavelet.specs.Code.Table.{stage_of}
use Rattle.wavelet.proofs.lift.lift.Given as goal

pub record I (a₀ : List ℤ) (st : Stage) (plus : Bool) (a : List ℤ) (n : ℕ) : Type 0 where
  pub n-le : n ≤ length a₀ / 2
  pub long : length a ≡ length a₀
  pub now_is : a ≡ lifted wrap st plus n a₀

abbrev pub invariant-loop-n : goal.invariant-loop-n
invariant-loop-n l = I l.initial.a (stage_of l.s) (not l.s.adds) l.a l.n

abbrev pub decreases-loop-n : goal.decreases-loop-n
decreases-loop-n l = length l.initial.a / 2 - l.n
