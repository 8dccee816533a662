-- `picture::encoder::code_low` meets its contract.
use mathlib.Core.Path.{◌≡◌, refl, sym, ap, ◌∙◌}
use Prim.Native.Nat.{ℕ, ◌+◌, ◌≤◌}
use native.Mathlib.Omega.{arith}
use lib.ListN.{length}
use Rattle.std.proofs.lemmas.Result.{err_from_is_err_and}
use Rattle.refusals.specs.Number.{number}
use Rattle.unit.specs.Limits.{unit_limit}
use Rattle.unit.specs.Outcome.{coding_refusal}
use Rattle.unit.proofs.Laws.Demand.{not-long}
use Rattle.picture.specs.Code.Matrix.{lent_in}
use Rattle.picture.specs.Laws.Analysed.{called_arranged}
use Rattle.picture.specs.Laws.LowLink.{Worked, low_refused, low_ready, low_written}
use Rattle.picture.proofs.encoder.code_low.Goals as goal
use Rattle.picture.proofs.encoder.code_low.Goals.{After-coding_refusal}

-- the unit's length, as it is worked out
abbrev long : After-coding_refusal → ℕ
long c = c.overhead.result + c.numerator-n.result

worked : (c : After-coding_refusal) → let a = c.args in
    Worked a.call.settings (lent_in a.call.matrix) a.p a.work.now c.numerator-n.result c.slice_count.result (long c)
worked c =
    let n = c.numerator-n in
    record {
      coding = c.requires;
      numerator = n.ensures;
      slices = c.slice_count.ensures.0;
      long = ap (λ (k : ℕ). k + n.result) c.overhead.ensures.0;
    }

-- it fits the output, and 32 bits
fits : (c : After-coding_refusal) → 0 ≡ coding_refusal (length c.args.out.now) (long c) → (long c ≤ length c.args.out.now) × (long c ≤ unit_limit)
fits c e = not-long (length c.args.out.now) (long c) (sym e)

pub slice_count-requires : goal.slice_count-requires
slice_count-requires c = let h = c.requires in rw h.picture (called_arranged h.called)

pub returns-in_err-coding_refusal : goal.returns-in_err-coding_refusal
returns-in_err-coding_refusal c =
    let p = err_from_is_err_and c.from_residual.result c.from_residual.ensures.1 in
    let n = ap number p.2 ∙ c.in_err-coding_refusal.ensures in
    (rw p.1 (low_refused (worked (goal.at.returns-in_err-coding_refusal c).After-coding_refusal) c.args.out.now _ n), refl)

pub overflow_cast-length-2 : goal.overflow_cast-length-2
overflow_cast-length-2 c = let f = fits (goal.at.overflow_cast-length-2 c).After-coding_refusal c.in_ok-coding_refusal.ensures in omega arith

pub put_ld_slices-c-requires : goal.put_ld_slices-c-requires
put_ld_slices-c-requires c =
    let f = fits (goal.at.put_ld_slices-c-requires c).After-coding_refusal c.in_ok-coding_refusal.ensures in
    (low_ready (worked (goal.at.put_ld_slices-c-requires c).After-coding_refusal), omega (arith, c.overhead.ensures.0, c.put_header-at.ensures.0, f.0, c.out-1.given))

pub overflow_cast-result : goal.overflow_cast-result
overflow_cast-result c =
    let f = fits (goal.at.overflow_cast-result c).After-coding_refusal c.in_ok-coding_refusal.ensures in
    omega arith

pub returns : goal.returns
returns c =
    let h = c.put_header-at in
    let r = c.put_ld_slices-c in (
      low_written (worked (goal.at.returns c).After-coding_refusal) c.args.out.now h.new.out r.new.out h.result r.result.at r.result.cut_slices
          (sym c.in_ok-coding_refusal.ensures) h.ensures.0 h.ensures.1 r.ensures.0 r.ensures.1.0,
      c.work-1.given,
    )
