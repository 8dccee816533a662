-- `front::header::major_version` meets its contract.
use Rattle.std.proofs.Common.{ℕ, ◌≡◌, true, false, not, eqb, ap, inl, inr}
use Rattle.std.proofs.lemmas.Bool.{ne_eqb}
use Rattle.std.proofs.lemmas.Bool.{eq-eqb}
use Rattle.unit.specs.declared.PictureKind.TheVariants.{LowDelay, HighQuality}
use Rattle.picture.specs.Laws.Head.{major_three, major_plain}
use Rattle.picture.proofs.front.header.major_version.Goals as goal
use Rattle.picture.proofs.front.header.major_version.Goals.{then-s-via-then-s, then-s-via-else-s+then-s-2, then-s-via-else-s+else-s-2+then-s-ne0}

equal : (a b : ℕ) → a ≡ b → not (eqb a b) ≡ false
equal a b e = ap not (eq-eqb a b e)

unequal : (a b : ℕ) → (a ≡ b → ⊥) → not (eqb a b) ≡ true
unequal a b e = ap not (ne_eqb a b e)

pub returns-then-s : goal.returns-then-s
returns-then-s c =
    let s = c.args.s in
    major_three s (elim c.then-s.branch [
      | then-s-via-then-s w ↦ inl w.if-s.true
      | then-s-via-else-s+then-s-2 w ↦ inr (inl (unequal s.wavelet_index s.wavelet_index_ho w.if-s-2.true))
      | then-s-via-else-s+else-s-2+then-s-ne0 w ↦ inr (inr (unequal s.dwt_depth_ho 0 w.if-s-ne0.true))
    ])

pub returns-in-LowDelay : goal.returns-in-LowDelay
returns-in-LowDelay c =
    let s = c.args.s in
    major_plain s LowDelay c.if-s.false (equal s.wavelet_index s.wavelet_index_ho c.if-s-2.false) (equal s.dwt_depth_ho 0 c.if-s-ne0.false) c.in-LowDelay.is

pub returns-in-HighQuality : goal.returns-in-HighQuality
returns-in-HighQuality c =
    let s = c.args.s in
    major_plain s HighQuality c.if-s.false (equal s.wavelet_index s.wavelet_index_ho c.if-s-2.false) (equal s.dwt_depth_ho 0 c.if-s-ne0.false) c.in-HighQuality.is
