-- Laws of how deep a transform may be.
use Rattle.std.specs.Prelude.{◌≡◌, ℕ, ◌≤◌, Bool, true, false, ◌&&◌}
use Rattle.std.proofs.Common.{ap₂, arith}
use Rattle.wavelet.specs.Depth.{deep_filter, limit_by, depth_limit, deepest}

-- levels within a limit are within the largest one
pub few_levels : (i j : ℕ) {n : ℕ} → n ≤ depth_limit i j → n ≤ deepest
unfolding depth_limit
few_levels i j {n} = by (deep_filter i && deep_filter j)
  where
    by : (b : Bool) → n ≤ limit_by b → n ≤ deepest
    by true h = h
    by false h = omega arith

-- 5 levels are within every limit
pub five_levels : (i j : ℕ) {n : ℕ} → n ≤ 5 → n ≤ depth_limit i j
unfolding depth_limit
five_levels i j {n} h = by (deep_filter i && deep_filter j)
  where
    by : (b : Bool) → n ≤ limit_by b
    by true = omega arith
    by false = h

-- ---- further laws
-- the limit, by what the code finds of the two filters
pub limit_is : (i j : ℕ) {a b : Bool} → a ≡ deep_filter i → b ≡ deep_filter j → limit_by (a && b) ≡ depth_limit i j
unfolding depth_limit
limit_is i j e f = ap₂ (λ (a b : Bool). limit_by (a && b)) e f
