-- `front::refusal::refusal` meets its contract: each group comes after those before it.
use mathlib.Core.Path.{◌≡◌, sym, ap, ◌∙◌}
use Prim.Native.Nat.{ℕ, zero, suc, ◌≤◌}
use native.Mathlib.Omega.{arith}
use Rattle.std.proofs.lemmas.Result.{err_from_is_err_and}
use Rattle.refusals.specs.Number.{number, number_of}
use Rattle.refusals.specs.Laws.Number.{number_some}
use Rattle.unit.specs.Three.{planes}
use Rattle.unit.specs.Rules.{or_else}
use Rattle.picture.specs.Laws.Refusal.{measured, by_groups}
use Rattle.picture.proofs.front.refusal.refusal.Goals as goal

-- a group's number n, the number m of the groups behind it, and that of all
refuses : {x all : ℕ} (n m : ℕ) → 1 ≤ x → x ≡ n → or_else n m ≡ all → x ≡ all
refuses zero m h e w = absurd (omega (arith, h, e))
refuses (suc n) m h e w = e ∙ w

passes : {all : ℕ} (n m : ℕ) → 0 ≡ n → or_else n m ≡ all → m ≡ all
passes zero m e w = w
passes (suc n) m e w = absurd (omega (arith, e))

pub returns-in_err-shape_refusal : goal.returns-in_err-shape_refusal
returns-in_err-shape_refusal c =
    let a = c.args in
    let all = by_groups a.s a.matrix.now (planes a.y.now a.c1.now a.c2.now) a.work.now in
    let p = err_from_is_err_and c.from_residual.result c.from_residual.ensures.1 in
    ap number_of p.1 ∙ ap number p.2 ∙ refuses _ _ (number_some _) c.in_err-shape_refusal.ensures all

pub returns-in_err-rate_refusal : goal.returns-in_err-rate_refusal
returns-in_err-rate_refusal c =
    let a = c.args in
    let all = by_groups a.s a.matrix.now (planes a.y.now a.c1.now a.c2.now) a.work.now in
    let all = passes _ _ c.in_ok-shape_refusal.ensures all in
    let p = err_from_is_err_and c.from_residual-in_err-rate_refusal.result c.from_residual-in_err-rate_refusal.ensures.1 in
    ap number_of p.1 ∙ ap number p.2 ∙ refuses _ _ (number_some _) c.in_err-rate_refusal.ensures all

pub returns-in_err-frame_refusal : goal.returns-in_err-frame_refusal
returns-in_err-frame_refusal c =
    let a = c.args in
    let all = by_groups a.s a.matrix.now (planes a.y.now a.c1.now a.c2.now) a.work.now in
    let all = passes _ _ c.in_ok-shape_refusal.ensures all in
    let all = passes _ _ c.in_ok-rate_refusal.ensures all in
    let p = err_from_is_err_and c.from_residual-in_err-frame_refusal.result c.from_residual-in_err-frame_refusal.ensures.1 in
    ap number_of p.1 ∙ ap number p.2 ∙ refuses _ _ (number_some _) c.in_err-frame_refusal.ensures all

pub returns-in_err-matrix_refusal : goal.returns-in_err-matrix_refusal
returns-in_err-matrix_refusal c =
    let a = c.args in
    let all = by_groups a.s a.matrix.now (planes a.y.now a.c1.now a.c2.now) a.work.now in
    let all = passes _ _ c.in_ok-shape_refusal.ensures all in
    let all = passes _ _ c.in_ok-rate_refusal.ensures all in
    let all = passes _ _ c.in_ok-frame_refusal.ensures all in
    let p = err_from_is_err_and c.from_residual-in_err-matrix_refusal.result c.from_residual-in_err-matrix_refusal.ensures.1 in
    ap number_of p.1 ∙ ap number p.2 ∙ refuses _ _ (number_some _) c.in_err-matrix_refusal.ensures all

pub memory_refusal-requires : goal.memory_refusal-requires
memory_refusal-requires c = measured c.args.s (sym c.in_ok-shape_refusal.ensures) (sym c.in_ok-frame_refusal.ensures)

pub returns : goal.returns
returns c =
    let a = c.args in
    let all = by_groups a.s a.matrix.now (planes a.y.now a.c1.now a.c2.now) a.work.now in
    let all = passes _ _ c.in_ok-shape_refusal.ensures all in
    let all = passes _ _ c.in_ok-rate_refusal.ensures all in
    let all = passes _ _ c.in_ok-frame_refusal.ensures all in
    let all = passes _ _ c.in_ok-matrix_refusal.ensures all in
    c.memory_refusal.ensures ∙ all
