use mathlib.Core.Path.{◌≡◌, refl, sym, ap, ◌∙◌, subst}
use mathlib.Core.List.{List}
use Prim.Native.Nat.{◌+◌, ◌≤◌, ◌<◌}
use native.Mathlib.Omega.{arith}
use lib.IntN.{ℤ}
use lib.ListN.{length, length-append}
use Rattle.laws.specs.Laws.Chunks.{chunks-none, chunks-more}
use Rattle.laws.specs.Code.Laid.{Lays}
use Rattle.codewords.specs.Bytes.{to_bytes}
use Rattle.picture.specs.Code.Strip.{Small}
use Rattle.picture.specs.Code.Picture.{slices_in}
use Rattle.picture.specs.Code.Choice.{plan_in, words_in, words_to}
use Rattle.picture.specs.Code.Notes.{Notes}
use Rattle.picture.specs.Laws.HighSlice.{slices-none, slices_room, slices-next}
use Rattle.picture.proofs.coder.passes.put_hq_slices.Goals as goal

pub loop-k-init : goal.loop-k-init
loop-k-init c =
    let a = c.args in
    let n = c.new-c.ensures in (
      slices-none a.work.now a.p a.t a.out.now a.at c.new-c.result.at n.0,
      (n.1.0, (rw (chunks-none (words_in a.work.now a.p a.t)) n.1.1.1.0, refl)),
    )

pub code_hq_slice-c-requires : goal.code_hq_slice-c-requires
code_hq_slice-c-requires c =
    let a = c.args in
    let v = c.loop-k in
    let l : v.k < slices_in a.p = omega (arith, c.loop-k-test.true, c.slice_count-k-end.ensures.0) in
    subst (λ (w : List ℤ). Small a.p.front a.p.end w × ((v.k < slices_in a.p) × (Notes w a.p a.t (slices_in a.p) w
    × ((v.c.words ≡ length (words_to w a.p a.t v.k)) × (v.c.at + length (to_bytes (plan_in w a.p a.t v.k).bits) ≤ length v.out))))) (sym v.invariant.1.1.1)
    (c.requires.0.small, (l, (c.requires.1.0, (v.invariant.1.1.0, slices_room a.work.now a.p a.t v.k v.invariant.0 (slices_in a.p) l c.requires.1.1))))

pub loop-k-preserved : goal.loop-k-preserved
loop-k-preserved c =
    let a = c.args in
    let v = c.loop-k in
    let e = v.invariant.1.1.1 in
    let s = c.code_hq_slice-c in
    let o = subst (λ (w : List ℤ). Lays v.out v.c.at (to_bytes (plan_in w a.p a.t v.k).bits) s.new.out s.result.at) e s.ensures.0 in
    let F = words_in a.work.now a.p a.t in
    let n = s.ensures.1.1.1.0 ∙ ap (λ (w : List ℤ). v.c.words + length (words_in w a.p a.t v.k)) e in (
      slices-next a.work.now a.p a.t v.k v.invariant.0 o,
      (
        s.ensures.1.0 ∙ v.invariant.1.0,
        (
          omega (arith, n, v.invariant.1.1.0, ap length (chunks-more F v.k), length-append (words_to a.work.now a.p a.t v.k) (F v.k)),
          s.ensures.1.1.1.1 ∙ e,
        ),
      ),
    )
