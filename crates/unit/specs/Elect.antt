-- The election of an index, elect_qindex: document 01, "Slices and unit".
use Rattle.std.specs.Prelude.{Bool, true, false, ℕ, zero, suc, ◌+◌, ◌-◌, ◌/◌, ltb}

-- halving between lo and hi: the middle is rounded down, and a fit sends the search to it and below; n bounds the turns
unfoldable pub halve : (ℕ → Bool) → ℕ → ℕ → ℕ → ℕ
halve fits zero lo hi = lo
halve fits (suc n) lo hi =
    let mid = (lo + hi) / 2 in
    elim (ltb lo hi) [
      | true ↦ elim (fits mid) [ true ↦ halve fits n lo mid | false ↦ halve fits n (mid + 1) hi ]
      | false ↦ lo
    ]

-- upward from q until a fit or the end, which is n steps above q
unfoldable pub upward : (ℕ → Bool) → ℕ → ℕ → ℕ
upward fits zero q = q
upward fits (suc n) q = elim (fits q) [ true ↦ q | false ↦ upward fits n (q + 1) ]

-- from lo to hi: halving, then upward
unfoldable pub elect : ℕ → ℕ → (ℕ → Bool) → ℕ
elect lo hi fits = let q = halve fits (hi - lo) lo hi in upward fits (hi - q) q
