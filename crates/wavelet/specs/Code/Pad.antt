-- A component's rows padded.
use Rattle.std.specs.Prelude.{ℕ, ◌+◌, ◌-◌, ◌*◌, ◌≤◌, min, List, length, ℤ, slice_index}
use Rattle.laws.specs.Wrap.{wrap}
use Rattle.wavelet.specs.Planes.{raise}
use Rattle.wavelet.specs.Pad.{centred, padded}
use Rattle.wavelet.specs.declared.shape.Component.{Component}

-- place x of row y of a component's padded plane, with b accuracy bits added
abbrev pub padded_row : ℕ → List ℕ → Component → ℕ → ℕ → ℤ
padded_row b s c y x = raise wrap b (padded s c.offset c.w c.h y x)

-- place x of a padded row of w samples that stand from `from` on, with offset o and b accuracy bits added
abbrev pub padded_from : ℕ → List ℕ → ℕ → ℕ → ℕ → ℕ → ℤ
padded_from b s o w from x = raise wrap b (centred o (slice_index s (from + min x (w - 1))))

-- all samples of a component, which has some
pub record SamplesOf (c : Component) (s : List ℕ) : Type 0 where
  pub some : (1 ≤ c.w) × (1 ≤ c.h)
  pub whole : c.h * c.w ≤ length s
