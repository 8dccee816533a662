-- `encoder::encode_picture` meets its contract.
use mathlib.Core.Path.{ap, ◌≡◌, sym, ◌∙◌}
use native.Mathlib.Omega.{arith}
use Rattle.std.proofs.lemmas.Result.{err_from_is_err_and}
use Rattle.refusals.specs.Number.{number}
use borrow.Author.Rules.{rules}
use lib.IntN.{pos}
use lib.ListN.{length, replicate}
use Rattle.unit.proofs.Laws.Valid.{valid}
use Rattle.unit.specs.Three.{planes}
use Rattle.picture.specs.Laws.Encoded.{typed_by, encodes_refused, encodes_coded}
use Rattle.picture.proofs.encoder.encode_picture.Goals as goal

pub returns-in_err-refusal : goal.returns-in_err-refusal
returns-in_err-refusal c =
    let a = c.args in
    let t =
    typed_by a.s (planes a.y.now a.c1.now a.c2.now) (omega (arith, c.well_formed)) (omega (arith, c.well_formed))
    (λ n. omega (arith, c.type_inv.y n)) (λ n. omega (arith, c.type_inv.c1 n)) (λ n. omega (arith, c.type_inv.c2 n)) in
    let p = err_from_is_err_and c.from_residual.result c.from_residual.ensures.1 in
    let n = ap number p.2 ∙ c.in_err-refusal.ensures in
    rw p.1 (encodes_refused a.s a.matrix.now (planes a.y.now a.c1.now a.c2.now) a.out.now a.work.now _ t n)

pub code_picture-r-requires : goal.code_picture-r-requires
code_picture-r-requires c =
    let a = c.args in
    let p = planes a.y.now a.c1.now a.c2.now in
    valid a.s a.matrix.now p a.work.now (sym c.in_ok-refusal.ensures)

pub returns : goal.returns
returns c =
    let a = c.args in
    let t =
    typed_by a.s (planes a.y.now a.c1.now a.c2.now) (omega (arith, c.well_formed)) (omega (arith, c.well_formed))
    (λ n. omega (arith, c.type_inv.y n)) (λ n. omega (arith, c.type_inv.c1 n)) (λ n. omega (arith, c.type_inv.c2 n)) in
    let p = planes a.y.now a.c1.now a.c2.now in
    let r = c.code_picture-r in
    let w = c.fill.new.self in
    let z : w ≡ replicate (length r.new.work) (pos 0) = search rules in
    encodes_coded a.s a.matrix.now p a.out.now a.work.now r.new.out c.clear_refused.new.out
    r.new.work w r.result t (sym c.in_ok-refusal.ensures) r.ensures.0 r.ensures.1
    z c.clear_refused.ensures
