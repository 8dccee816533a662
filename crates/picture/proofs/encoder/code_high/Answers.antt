-- `encoder::code_high` meets its contract.
use mathlib.Core.Path.{◌≡◌, refl, sym, ap, ◌∙◌}
use native.Mathlib.Omega.{arith}
use lib.ListN.{length}
use Rattle.std.proofs.lemmas.Result.{err_from_is_err_and}
use Rattle.refusals.specs.Number.{number}
use Rattle.unit.specs.Outcome.{coding_refusal}
use Rattle.picture.specs.Laws.HighLink.{high_in, end_fits, slices_noted, noted_laid, high_refused, high_written}
use Rattle.picture.proofs.encoder.code_high.Goals as goal
use Rattle.picture.proofs.encoder.code_high.Goals.{In_ok-coding_refusal}

-- the unit is not too long
fits : (c : In_ok-coding_refusal) → coding_refusal (length c.args.out.now) c.settle-z.result.end ≡ 0
fits c = sym c.in_ok-coding_refusal.ensures

pub settle-z-requires : goal.settle-z-requires
settle-z-requires c = high_in c.requires

pub returns-in_err-coding_refusal : goal.returns-in_err-coding_refusal
returns-in_err-coding_refusal c =
    let z = c.settle-z in
    let p = err_from_is_err_and c.from_residual.result c.from_residual.ensures.1 in
    let n = ap number p.2 ∙ c.in_err-coding_refusal.ensures in
    (rw p.1 (high_refused c.requires z.ensures.0 c.args.out.now _ n), z.ensures.1.size)

pub overflow_cast-n : goal.overflow_cast-n
overflow_cast-n c =
    omega (arith, (end_fits c.requires c.settle-z.ensures.0 c.args.out.now (sym c.in_ok-coding_refusal.ensures)).1)

pub put_hq_slices-c-requires : goal.put_hq_slices-c-requires
put_hq_slices-c-requires c =
    let z = c.settle-z in
    let h = c.put_header-at in
    let t = c.terms_of-terms in
    slices_noted c.requires z.ensures.0 c.args.out.now (fits (goal.at.put_hq_slices-c-requires c).In_ok-coding_refusal) z.ensures.1
    t.result z.result.end h.result h.new.out t.ensures refl h.ensures.0 h.ensures.1

pub overflow_cast-result : goal.overflow_cast-result
overflow_cast-result c =
    omega (arith, (end_fits c.requires c.settle-z.ensures.0 c.args.out.now (sym c.in_ok-coding_refusal.ensures)).1)

pub returns : goal.returns
returns c =
    let z = c.settle-z in
    let h = c.put_header-at in
    let t = c.terms_of-terms in
    let w = c.put_hq_slices-c in (
      high_written c.requires z.ensures.0 c.args.out.now (fits (goal.at.returns c).In_ok-coding_refusal)
          t.result z.result.end h.result w.result.at w.result.cut_slices h.new.out w.new.out
          t.ensures refl h.ensures.0 h.ensures.1 (noted_laid c.requires t.result z.ensures.1 w.ensures.0) w.ensures.1.0,
      ap length w.ensures.1.1 ∙ z.ensures.1.size,
    )
