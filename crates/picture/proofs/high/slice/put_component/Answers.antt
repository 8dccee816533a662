-- `high::slice::put_component` meets its contract.
use mathlib.Core.Path.{ap, ◌∙◌}
use Prim.Native.Nat.{ℕ}
use native.Mathlib.Omega.{arith}
use Rattle.laws.specs.Ceiling.{ceiling}
use Rattle.picture.specs.Code.Notes.{run_at}
use Rattle.picture.specs.Laws.HighSlice.{Counted, byte_room, kept_room, ones_room, component_wrote}
use Rattle.picture.proofs.high.slice.put_component.Goals as goal
use Rattle.picture.proofs.high.slice.put_component.Goals.{After-scalers-n}

-- the run, and its scalers
counted : (c : After-scalers-n) → let a = c.args in Counted a.scaler (run_at a.work.now a.from a.t) a.t.bits c.scalers-n.result
counted c =
    record {
      some = c.requires.1.0.0;
      trim = c.requires.0.trim;
      bits = c.requires.0.bits;
      scalers = c.scalers-n.ensures.0 ∙ ap (λ (n : ℕ). ceiling n c.args.scaler) c.need.ensures.0;
    }

pub put_nbits-requires : goal.put_nbits-requires
put_nbits-requires c = (byte_room (counted (goal.at.put_nbits-requires c).After-scalers-n) c.requires.1.1, omega arith)

pub put_words-requires : goal.put_words-requires
put_words-requires c =
    (c.requires.0.reach, kept_room (counted (goal.at.put_words-requires c).After-scalers-n) c.requires.1.1 c.put_nbits.ensures)

pub put_ones-requires : goal.put_ones-requires
put_ones-requires c =
    ones_room (counted (goal.at.put_ones-requires c).After-scalers-n) c.requires.1.1 c.put_nbits.ensures c.put_words.ensures

pub returns : goal.returns
returns c =
    component_wrote (counted (goal.at.returns c).After-scalers-n) c.requires.1.1 c.put_nbits.ensures c.put_words.ensures c.put_ones.ensures
