-- `quantiser::factors::offset_by` meets its contract.
use mathlib.Core.Path.{◌≡◌, sym, ap}
use Prim.Native.Nat.{◌/◌}
use native.Mathlib.Omega.{arith}
use Rattle.quantiser.specs.Quant.{quant_offset}
use Rattle.quantiser.specs.Laws.Cap.{quant_offset_half}
use Rattle.quantiser.proofs.factors.offset_by.Goals as goal

pub returns-in-0 : goal.returns-in-0
unfolding quant_offset
returns-in-0 c = (sym (ap quant_offset c.in-0.is), omega arith)

pub returns-in-1 : goal.returns-in-1
unfolding quant_offset
returns-in-1 c = (sym (ap quant_offset c.in-1.is), omega arith)

pub returns-in_default : goal.returns-in_default
returns-in_default c =
    let h = c.in_default in
    let i = c.args.index in
    let e : c.cap.result / 2 ≡ quant_offset i = rw (quant_offset_half i (omega arith), ← c.requires.0, c.cap.ensures.0) in
    (e, omega arith)
