-- The layer's theorems, for the layer above: the standard's synthesis gives the plane back, and from samples to
-- coefficients nothing wraps and every coefficient is below 2 ^ 51.
use Rattle.std.specs.Prelude.{◌≡◌, ℕ, ◌+◌, ◌-◌, ◌*◌, ◌^◌, ◌<◌, ◌≤◌, min, ◌&&◌, List, [], ◌∷◌, ℤ, pos, ◌-ℤ◌, slice_index, slice_index_or, unsigned_abs}
use Rattle.std.proofs.Common.{arith, lt_of_le_of_lt, le_of_lt}
use Rattle.laws.specs.Laws.Integer.{var, ◌⊟◌, parts}
use Rattle.laws.specs.Wrap.{wrap}
use Rattle.laws.specs.Laws.Wrap.{wrap-fits}
use Rattle.laws.specs.Rows.{at}
use Rattle.laws.specs.Plane.{Plane}
use Rattle.laws.specs.Laws.Plane.{Agree}
use Rattle.wavelet.specs.Lifting.{Keeps, exact}
use Rattle.wavelet.specs.Planes.{Band, dwt, idwt, Padded}
use Rattle.wavelet.specs.Depth.{deep_filter, limit_by, depth_limit}
use Rattle.wavelet.specs.Pad.{padded}
use Rattle.wavelet.specs.Code.Component.{component_of}
use Rattle.wavelet.specs.Laws.Plane as laws
use Rattle.wavelet.specs.Laws.PlaneBound as bound
use Rattle.wavelet.specs.Laws.PlaneBound.{Small, AllSmall, Unwrapped, dwt_grown, Factor, times, dwt-times, level_most, level_factor, levels_below, coefficients_small}

-- 15.4.1 undoes the analysis, for every pair of filters, all depths and all padded sides: rows by filter i, columns by
-- filter j
pub idwt_undoes_dwt : (i j k d h w : ℕ) (f : Plane) → i ≤ 6 → j ≤ 6 → Padded k d h w → Agree h w (idwt i j (dwt exact i j k d h w f) k d) f
idwt_undoes_dwt i j k d h w f hi hj p = laws.idwt_undoes_dwt i j hi hj k d h w f p

-- numbers of at most M: while the bound that the growth of the filters gives stays within 2 ^ 51, nothing wraps, and no
-- coefficient is above it. Nothing wraps: whatever wr gives for numbers that do not fit in 64 bits, the bands are those
-- of the standard's integers
pub dwt_wraps_nowhere : (wr : ℤ → ℤ) → Keeps wr → (i j k d M h w : ℕ) (f : Plane) → i ≤ 6 → j ≤ 6 → 2 ^ 16 ≤ M → dwt_grown i j k d M ≤ 2 ^ 51 → Padded k d h w → Small M h w f
    → Unwrapped (dwt_grown i j k d M) (dwt wr i j k d h w f) (dwt exact i j k d h w f)
dwt_wraps_nowhere = bound.dwt_wraps_nowhere

-- ---- components
-- every number of every band is below N in size
abbrev pub AllBelow : ℕ → List Band → Type 0
AllBelow N [] = Unit {0}
AllBelow N (b ∷ bs) = ((y x : ℕ) → y < b.high → x < b.wide → unsigned_abs (b.plane y x) < N) × AllBelow N bs

all_below : (M N : ℕ) (bs : List Band) → M < N → AllSmall M bs → AllBelow N bs
all_below M N [] h s = tt
all_below M N (b ∷ bs) h s = ((λ y x hy hx. lt_of_le_of_lt (s.0 y x hy hx) h), all_below M N bs h s.1)

-- what is known of a component: rows by filter i, columns by filter j
pub record Exact (i j k d : ℕ) (s : List ℕ) (o w h pw ph : ℕ) : Type 0 where
  -- nothing wraps: whatever wr gives for numbers that do not fit in 64 bits, the bands are those of the standard's
  -- integers
  pub nowhere : (wr : ℤ → ℤ) → Keeps wr → dwt wr i j k d ph pw (padded s o w h) ≡ dwt exact i j k d ph pw (padded s o w h)
  -- with the wrap at 64 bits the bands are the same
  pub same : dwt wrap i j k d ph pw (padded s o w h) ≡ dwt exact i j k d ph pw (padded s o w h)
  -- every coefficient is below 2 ^ 51, by band and place, and in the list of all
  pub below : AllBelow (2 ^ 51) (dwt exact i j k d ph pw (padded s o w h))
  pub list_below : (n : ℕ) → unsigned_abs (at (component_of i j k d s o w h pw ph) n) < 2 ^ 51
  -- the standard's synthesis of the bands is the padded plane
  pub back : Agree ph pw (idwt i j (dwt wrap i j k d ph pw (padded s o w h)) k d) (padded s o w h)

-- a sample of 16 bits less an offset of at most 2 ^ 15
padded_small : (s : List ℕ) (o w h pw ph : ℕ) → ((n : ℕ) → slice_index s n < 2 ^ 16) → o ≤ 2 ^ 15 → Small (2 ^ 16) ph pw (padded s o w h)
padded_small s o w h pw ph hs ho y x hy hx =
    let z = slice_index_or s (min y (h - 1) * w + min x (w - 1)) 0 in
    let b = hs (min y (h - 1) * w + min x (w - 1)) in
    let v = var (pos z) ⊟ var (pos o) in
    omega (arith, parts (pos z -ℤ pos o))

-- filters that make numbers at most g times as large with each level, and n levels of them that stay below 2 ^ 51
pub component_within : (i j k d g n : ℕ) (s : List ℕ) (o w h pw ph : ℕ) → i ≤ 6 → j ≤ 6 → Factor i j g → k + d ≤ n → times g n (2 ^ 16) < 2 ^ 51
    → Padded k d ph pw → ((n : ℕ) → slice_index s n < 2 ^ 16) → o ≤ 2 ^ 15 → Exact i j k d s o w h pw ph
component_within i j k d g n s o w h pw ph hi hj f few low p hs ho =
    let P = padded s o w h in
    let N : ℕ = dwt_grown i j k d (2 ^ 16) in
    let b : N < 2 ^ 51 = lt_of_le_of_lt (dwt-times i j g k d n (2 ^ 16) f few) low in
    let small = padded_small s o w h pw ph hs ho in
    let r = bound.dwt_wraps_nowhere wrap wrap-fits i j k d (2 ^ 16) ph pw P hi hj (omega arith) (le_of_lt b) p small in
    record {
      nowhere = λ wr keeps. (bound.dwt_wraps_nowhere wr keeps i j k d (2 ^ 16) ph pw P hi hj (omega arith) (le_of_lt b) p small).same;
      same = r.same;
      below = all_below N (2 ^ 51) (dwt exact i j k d ph pw P) b r.small;
      list_below = λ m. rw r.same (lt_of_le_of_lt (coefficients_small N (dwt exact i j k d ph pw P) r.small m) b);
      back = rw r.same (laws.idwt_undoes_dwt i j hi hj k d ph pw P p);
    }

-- every pair of the seven filters, and depths that sum to at most their limit
pub component_exact : (i j k d : ℕ) (s : List ℕ) (o w h pw ph : ℕ) → i ≤ 6 → j ≤ 6 → k + d ≤ depth_limit i j → Padded k d ph pw → ((n : ℕ) → slice_index s n < 2 ^ 16) → o ≤ 2 ^ 15
    → Exact i j k d s o w h pw ph
unfolding depth_limit
component_exact i j k d s o w h pw ph hi hj few p hs ho =
    let b = deep_filter i && deep_filter j in
    component_within i j k d (level_most b) (limit_by b) s o w h pw ph hi hj (level_factor i j hi hj) few (levels_below b) p hs ho
