-- What the analysis of a component, and of three one after the other, gives and asks.
use Rattle.std.specs.Prelude.{ℕ, ◌+◌, ◌*◌, ◌≤◌, List, length, ℤ}
use Rattle.laws.specs.Wrap.{wrap}
use Rattle.wavelet.specs.Planes.{coefficients, dwt}
use Rattle.wavelet.specs.Pad.{padded}
use Rattle.wavelet.specs.Code.Pad.{SamplesOf}
use Rattle.wavelet.specs.Code.Level.{Place}
use Rattle.wavelet.specs.Code.Walk.{Deep}
use Rattle.wavelet.specs.declared.shape.Component as Sides
use Rattle.wavelet.specs.declared.shape.Transform as Levels
use Rattle.wavelet.specs.RowCall.{row_limit}

-- the coefficients of a component, in the stream's order, with sums that wrap: rows by filter i, columns by filter j, k
-- horizontal-only levels and d both ways, from ph rows of pw
abbrev pub component_of : ℕ → ℕ → ℕ → ℕ → List ℕ → ℕ → ℕ → ℕ → ℕ → ℕ → List ℤ
component_of i j k d s o w h pw ph = coefficients (dwt wrap i j k d ph pw (padded s o w h))

-- what the rows of a component ask: samples, and room for its padded plane
pub record SamplesIn (c : Sides.Component) (s : List ℕ) (l : List ℤ) : Type 0 where
  pub samples : SamplesOf c s
  pub room : c.ph * c.pw ≤ length l
  pub short : c.pw ≤ row_limit

-- what a component asks
pub record ComponentIn (c : Sides.Component) (t : Levels.Transform) (s : List ℕ) (n off : ℕ) (l : List ℤ) : Type 0 where
  pub deep : Deep t.k t.d c.ph c.pw t.ih t.iv
  pub place : Place n off (c.ph * c.pw) l
  pub some : (1 ≤ c.w) × (1 ≤ c.h)
  pub whole : c.h * c.w ≤ length s

-- what three components ask: the colours are alike
pub record ComponentsIn (luma colour : Sides.Component) (t : Levels.Transform) (y u v : List ℕ) (n : ℕ) (l : List ℤ) : Type 0 where
  pub deep : Deep t.k t.d luma.ph luma.pw t.ih t.iv
  pub colours : Deep t.k t.d colour.ph colour.pw t.ih t.iv
  pub some : (1 ≤ luma.w) × (1 ≤ luma.h)
  pub some_colours : (1 ≤ colour.w) × (1 ≤ colour.h)
  pub whole_y : luma.h * luma.w ≤ length y
  pub whole_u : colour.h * colour.w ≤ length u
  pub whole_v : colour.h * colour.w ≤ length v
  pub room : (luma.ph * luma.pw ≤ n) × (colour.ph * colour.pw ≤ n)
  pub fits : n + (luma.ph * luma.pw + colour.ph * colour.pw + colour.ph * colour.pw) ≤ length l
