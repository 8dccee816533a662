-- `SliceCoder::code_hq_slice` meets its contract.
use mathlib.Core.Path.{refl, sym, ap, ◌∙◌, subst}
use mathlib.Core.List.{List}
use Prim.Native.Nat.{ℕ, ◌+◌, ◌≤◌}
use native.Mathlib.Omega.{arith}
use lib.IntN.{ℤ}
use lib.ListN.{length}
use Rattle.laws.specs.Code.Laid.{Lays}
use Rattle.codewords.specs.Bytes.{to_bytes}
use Rattle.unit.specs.HighQuality.{high_bits}
use Rattle.picture.specs.Code.Notes.{numbers_at, HeldSlice}
use Rattle.picture.specs.Code.Choice.{FewBits}
use Rattle.picture.specs.Laws.HighIndex.{plan_ready, index-most, own_few}
use Rattle.picture.specs.Laws.HighSlice.{choice_held, plan_room, plan-laid, plan_words}
use Rattle.picture.specs.Laws.Noted.{words_room}
use Rattle.picture.proofs.coder.slice_coder.SliceCoder.code_hq_slice.Goals as goal
use Rattle.picture.proofs.coder.slice_coder.SliceCoder.code_hq_slice.Goals.{After-noted_choice-c}

-- the choice has few bits
few : (c : After-noted_choice-c) → FewBits c.noted_choice-c.result
few c =
    let a = c.args in
    own_few a.work.now a.d.picture a.d.terms a.k _ c.args.d.arranged (index-most a.work.now a.d.picture a.d.terms a.k c.args.d.fits) c.noted_choice-c.ensures.0

pub put_hq_slice-requires : goal.put_hq_slice-requires
put_hq_slice-requires c =
    let a = c.args in
    let p = c.requires in
    let h = plan_ready a.d p.0 in
    let q = c.noted_choice-c in
    let i = a.self.words in
    subst (λ (v : List ℤ). HeldSlice v i q.result × (a.self.at + length (to_bytes (high_bits a.d.terms.prefix a.d.terms.scaler q.result.index (numbers_at v i q.result))) ≤ length a.out.now))
    (sym q.ensures.1) (
      choice_held a.k i q.result h p.1.0 p.1.1.0 p.1.1.1.0 q.ensures.0,
      plan_room a.k i q.result h p.1.0 p.1.1.0 p.1.1.1.0 q.ensures.0 a.self.at (length a.out.now) p.1.1.1.1,
    )

pub words_of-requires : goal.words_of-requires
words_of-requires c = few (goal.at.words_of-requires c).After-noted_choice-c

pub overflow_add-result : goal.overflow_add-result
overflow_add-result c =
    let a = c.args in
    omega (arith, c.words_of.ensures.1, c.requires.1.1.1.0, words_room a.work.now a.d.picture a.d.terms a.k c.args.d.arranged c.requires.1.0, c.requires.0.few, c.requires.0.order)

pub returns : goal.returns
returns c =
    let a = c.args in
    let p = c.requires in
    let h = plan_ready a.d p.0 in
    let q = c.noted_choice-c in
    let i = a.self.words in
    let z = c.put_hq_slice in
    let n = c.words_of.ensures.0 ∙ plan_words a.k i q.result h p.1.0 p.1.1.0 p.1.1.1.0 q.ensures.0 in (
      plan-laid a.k i q.result h p.1.0 p.1.1.0 p.1.1.1.0 q.ensures.0
          (subst (λ (v : List ℤ). Lays a.out.now a.self.at (to_bytes (high_bits a.d.terms.prefix a.d.terms.scaler q.result.index (numbers_at v i q.result))) z.new.out z.result) q.ensures.1 z.ensures),
      (refl, (refl, (ap (λ (n : ℕ). i + n) n, q.ensures.1))),
    )
