-- Laws of the search for the least index that fits: what it keeps, its start, a turn, and its end.
use Rattle.std.specs.Prelude.{◌≡◌, Bool, true, false, ℕ, ◌+◌, ◌-◌, ◌≤◌, ◌<◌}
use Rattle.std.proofs.Common.{sym, ap, ◌∙◌, arith, le_antisymm}
use Rattle.unit.specs.Elect.{elect}
use Rattle.unit.proofs.Laws.Elect.{elect-least}
use Rattle.picture.specs.declared.slices.search.Range.{Range}
use Rattle.picture.specs.Code.Search.{half_of}

-- the least index from first to last that fits lies in the range r, whose high end was tried and fits if it is below
-- last
pub record Searches (f : ℕ → Bool) (first last : ℕ) (r : Range) : Type 0 where
  pub least : first ≤ r.lo
  pub order : r.lo ≤ r.hi
  pub most : r.hi ≤ last
  pub below : first < r.lo → f (r.lo - 1) ≡ false
  pub fit : r.hi < last → f r.hi ≡ true

pub search_end : (f : ℕ → Bool) (first last : ℕ) (r : Range) → Searches f first last r → r.hi ≤ r.lo → ((i j : ℕ) → i ≤ j → j ≤ last → f i ≡ true → f j ≡ true) → r.hi ≡ elect first last f
search_end f first last r v h rises =
    let e : r.lo ≡ r.hi = le_antisymm v.order h in
    sym (elect-least f first last r.hi rises (omega (arith, v.least, e)) v.most (λ l. ap (λ (n : ℕ). f (n - 1)) (sym e) ∙ v.below (omega (arith, e, l))) v.fit)

-- ---- further laws
module _ (f : ℕ → Bool) (first last : ℕ) where
  pub search_start : first ≤ last → Searches f first last (record { lo = first; hi = last })
  search_start h = record { least = omega arith; order = h; most = omega arith; below = λ h. absurd (omega arith); fit = λ h. absurd (omega arith) }

  -- a turn at index q
  module _ (r : Range) (v : Searches f first last r) (q : ℕ) (low : r.lo ≤ q) (high : q < r.hi) where
    turn : (d : Bool) → d ≡ f q → Searches f first last (half_of r q d) × ((half_of r q d).hi - (half_of r q d).lo < r.hi - r.lo)
    turn true e = (
      record { least = v.least; order = low; most = omega (arith, high, v.most); below = v.below; fit = λ l. sym e },
      omega (arith, low, high),
    )
    turn false e =
        let i : q + 1 - 1 ≡ q = omega arith in (
          record { least = omega (arith, v.least, low); order = omega (arith, high); most = v.most; below = λ l. ap f i ∙ sym e; fit = v.fit },
          omega (arith, low, high),
        )

    module _ (d : Bool) (n : Range) (e : d ≡ f q) (h : n ≡ half_of r q d) where
      pub search_turn : Searches f first last n
      search_turn = rw h (turn d e).0

      pub search_less : n.hi - n.lo < r.hi - r.lo
      search_less = rw h (turn d e).1
