-- `high::notes::noted_choice` meets its contract.
use mathlib.Core.Path.{◌≡◌, refl, ap, ◌∙◌}
use Prim.Native.Nat.{ℕ, ◌+◌, ◌*◌, ◌≤◌, ◌<◌}
use lib.IntN.{pos}
use lib.ListN.{length}
use mir.Syntax.{w64}
use mir.Val.{to_z, of_z}
use mir.Facts.{to_z-of_z}
use native.Mathlib.Omega.{arith}
use Rattle.laws.specs.Rows.{at}
use Rattle.laws.specs.Laws.Machine.{fit}
use Rattle.picture.specs.Code.Packed.{words_at}
use Rattle.picture.specs.Code.Picture.{slices_in}
use Rattle.picture.specs.Code.Choice.{index_in, choice_in, words_in, FewBits}
use Rattle.picture.specs.Code.Notes.{ChoiceAt}
use Rattle.picture.specs.Laws.HighIndex.{index-most, own_few}
use Rattle.picture.specs.Laws.Noted.{words_room, words_end, laid_again, words_stand, noted_y, noted_c1, noted_c2, noted_is}
use Rattle.picture.proofs.high.notes.noted_choice.Goals as goal
use Rattle.picture.proofs.high.notes.noted_choice.Goals.{Start}

-- where the work slice reaches so far the choice stands there, and it has few bits
stands : (c : Start) → let a = c.args in a.d.picture.end + 7 * a.k + 6 < length a.work.now → ChoiceAt a.work.now (a.d.picture.end + 7 * a.k) (choice_in a.work.now a.d.picture a.d.terms a.k)
stands c h = c.requires.1.1.0.choice c.args.k c.requires.1.0 h

few : (c : Start) → let a = c.args in FewBits (choice_in a.work.now a.d.picture a.d.terms a.k)
few c =
    let a = c.args in
    own_few a.work.now a.d.picture a.d.terms a.k _ c.args.d.arranged (index-most a.work.now a.d.picture a.d.terms a.k c.args.d.fits) refl

-- its words stand
stood : (c : Start) → let a = c.args in words_at a.work.now a.from (length (words_in a.work.now a.d.picture a.d.terms a.k)) ≡ words_in a.work.now a.d.picture a.d.terms a.k
stood c =
    let a = c.args in
    ap (λ (i : ℕ). words_at a.work.now i (length (words_in a.work.now a.d.picture a.d.terms a.k))) c.requires.1.1.1
    ∙ words_stand a.work.now a.work.now a.d.picture a.d.terms (slices_in a.d.picture) a.k c.requires.1.0 c.requires.1.1.0.words

-- the index that is read
index_is : (c : Start) → let a = c.args in a.d.picture.end + 7 * a.k + 6 < length a.work.now
    → (to_z w64 (of_z w64 (at a.work.now (a.d.picture.end + 7 * a.k))) ≡ pos (index_in a.work.now a.d.picture a.d.terms a.k)) × (index_in a.work.now a.d.picture a.d.terms a.k ≤ 255)
index_is c h =
    let q : ℕ = index_in c.args.work.now c.args.d.picture c.args.d.terms c.args.k in
    let m : q ≤ 255 = (few c).index in
    (rw (stands c h).index (to_z-of_z {w = w64} {z = pos q} (fit (pos q) (omega arith))), m)

pub overflow_cast-result : goal.overflow_cast-result
overflow_cast-result c =
    let n = index_is (goal.at.overflow_cast-result c).Start c.if-i-work.true in rw n.0 (tt, omega (arith, n.1))

pub noted_run-requires : goal.noted_run-requires
noted_run-requires c =
    let h = c.if-i-work.true in noted_y (stands (goal.at.noted_run-requires c).Start h) (few (goal.at.noted_run-requires c).Start) h

pub noted_run-requires-then-i-work : goal.noted_run-requires-then-i-work
noted_run-requires-then-i-work c = let h = c.if-i-work.true in noted_c1 (stands (goal.at.noted_run-requires-then-i-work c).Start h) (few (goal.at.noted_run-requires-then-i-work c).Start) h

pub noted_run-requires-then-i-work-2 : goal.noted_run-requires-then-i-work-2
noted_run-requires-then-i-work-2 c = let h = c.if-i-work.true in noted_c2 (stands (goal.at.noted_run-requires-then-i-work-2 c).Start h) (few (goal.at.noted_run-requires-then-i-work-2 c).Start) h

pub returns-then-i-work : goal.returns-then-i-work
returns-then-i-work c =
    let h = c.if-i-work.true in
    (rw (index_is (goal.at.returns-then-i-work c).Start h).0 (noted_is (stands (goal.at.returns-then-i-work c).Start h) _ _ _ _ refl c.noted_run.ensures c.noted_run-then-i-work.ensures c.noted_run-then-i-work-2.ensures), refl)

pub choice_of-requires : goal.choice_of-requires
choice_of-requires c =
    let a = c.args in
    (c.requires.0, (c.requires.1.0, omega (arith, c.requires.1.1.1, words_room a.work.now a.d.picture a.d.terms a.k c.args.d.arranged c.requires.1.0)))

pub returns : goal.returns
returns c =
    let a = c.args in
    let r = c.choice_of.ensures in (
      r.0,
      r.1.0 ∙ laid_again a.work.now a.from (words_in a.work.now a.d.picture a.d.terms a.k)
          (omega (arith, c.requires.1.1.1, words_end a.work.now a.d.picture a.d.terms a.k c.args.d.arranged c.requires.1.0, c.requires.0.order, c.requires.0.long)) (stood (goal.at.returns c).Start),
    )
