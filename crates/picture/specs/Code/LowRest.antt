-- A low-delay slice's numbers as those of level 0, which are predicted, and those of the other subbands, which are not.
use Rattle.std.specs.Prelude.{◌≡◌, true, false, cond, List, ℕ, ◌+◌, ◌-◌, ◌^◌, ◌≤◌, eqb, ℤ}
use Rattle.picture.specs.declared.slices.layout.Picture.{Picture}
use Rattle.picture.specs.declared.slices.tally.Tally.{Tally}
use Rattle.picture.specs.declared.slices.tally.Trimmed.{Trimmed}
use Rattle.picture.specs.declared.low.trial.Windows.{Windows}
use Rattle.picture.specs.declared.low.trial.First.{First}
use Rattle.picture.specs.declared.low.trial.Rest.{Rest}
use Rattle.picture.specs.Code.Strip.{strip_numbers}
use Rattle.picture.specs.Code.Tally.{tally_all, no_tally, trimmed_of, trimmed_by}
use Rattle.picture.specs.Code.Layout.{band_count, window_of, strip_of, rest_numbers}
use Rattle.picture.specs.Code.Low.{strip0}

-- what slice k has of level 0; the two colours are alike
abbrev pub windows_of : Picture → ℕ → Windows
windows_of p k = record { luma = window_of p.layout p.y 0 k; colour = window_of p.layout p.c1 0 k }

-- a slice's numbers of level 0, of luma and of the two colours
abbrev pub luma_first : List ℤ → Picture → ℕ → ℕ → List ℤ
luma_first w p k q = strip_numbers w (strip0 p p.y k q)

abbrev pub colour_first : List ℤ → Picture → ℕ → ℕ → List ℤ
colour_first w p k q = strip_numbers w (strip_of p.layout p.c1 p.c2 true 0 0 k q)

-- a slice's numbers of the other subbands
abbrev pub luma_rest : List ℤ → Picture → ℕ → ℕ → List ℤ
luma_rest w p k q = rest_numbers w p.layout p.y p.y false k q (band_count p.layout - 1)

abbrev pub colour_rest : List ℤ → Picture → ℕ → ℕ → List ℤ
colour_rest w p k q = rest_numbers w p.layout p.c1 p.c2 true k q (band_count p.layout - 1)

-- the run of numbers tallied in t and of a run r behind them, without trailing zeros
abbrev pub joined_of : Tally → Trimmed → Trimmed
joined_of t r = cond (eqb r.count 0)
    (trimmed_by t)
    (record { count = t.count + r.count; bits = t.bits + r.bits })

-- the bits of a slice whose level-0 numbers are tallied in f, with the runs r behind them
abbrev pub bits_with : First → Rest → ℕ
bits_with f r = (joined_of f.luma r.luma).bits + (joined_of f.colour r.colour).bits

-- ---- conditions
-- the tallies of slice k's level-0 numbers at index q
pub record FirstOf (w : List ℤ) (p : Picture) (k q : ℕ) (f : First) : Type 0 where
  pub luma : f.luma ≡ tally_all no_tally (luma_first w p k q)
  pub colour : f.colour ≡ tally_all no_tally (colour_first w p k q)

-- r has slice k's runs behind level 0 at its index
pub record Known (w : List ℤ) (p : Picture) (k : ℕ) (r : Rest) : Type 0 where
  pub index : r.index ≤ 255
  pub luma : r.luma ≡ trimmed_of (luma_rest w p k r.index)
  pub colour : r.colour ≡ trimmed_of (colour_rest w p k r.index)

-- a tally and a run can be joined
pub record Joins (t : Tally) (r : Trimmed) : Type 0 where
  pub keep : t.keep ≤ t.count
  pub trailing : t.count - t.keep ≤ t.bits
  pub few : (t.count ≤ 2 ^ 40) × (t.bits ≤ 2 ^ 47)
  pub few_behind : (r.count ≤ 2 ^ 40) × (r.bits ≤ 2 ^ 47)
