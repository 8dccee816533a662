-- `front::refusal::no_matrix` meets its contract.
use mathlib.Core.Path.{◌≡◌, sym, ap, ◌∙◌}
use mathlib.Core.Bool.{not}
use Rattle.std.specs.Prelude.{Bool, true, false, List, ℕ, Option, is_some}
use Rattle.picture.specs.Laws.Sides.{default_missing}
use Rattle.picture.proofs.front.refusal.no_matrix.Goals as goal

other : {a : Bool} (b : Bool) → a ≡ not b → b ≡ not a
other true e = ap not (sym e)
other false e = ap not (sym e)

pub returns : goal.returns
returns c =
    let s = c.args.s in
    let d = default_missing s.wavelet_index s.wavelet_index_ho s.dwt_depth s.dwt_depth_ho in
    rw c.if-s.false (other _ c.is_none.ensures ∙ ap (λ (o : Option (List ℕ)). not (is_some o)) c.default_quant_matrix.ensures ∙ d)
