-- Laws of numbers added up one by one: runs one after the other, the numbers of a place, and parts.
use Rattle.std.specs.Prelude.{◌≡◌, Some, None, ℤ}
use Rattle.std.proofs.Math.Path.{refl, sym, ap}
use Rattle.std.proofs.Common.{◌∙◌}
use mathlib.Core.List.{List, [], ◌∷◌, ◌++◌}
use Prim.Native.Nat.{ℕ, suc, ◌+◌, ◌-◌, ◌≤◌}
use native.Mathlib.Omega.{arith}
use Rattle.laws.specs.Code.Chunks.{chunks}
use Rattle.picture.specs.declared.slices.strip.Origin.{Origin}
use Rattle.picture.specs.declared.slices.strip.Strip.{Strip}
use Rattle.picture.specs.Code.Strip.{number_in, second_number, place_numbers, row_numbers, rows_numbers}
use Rattle.picture.specs.Laws.Strip.{second_one, second_none, place_is}
use Rattle.picture.specs.Code.Cost.{added}

module _ {A : Type 0} (step : A → ℤ → A) where
  -- ---- one after the other
  pub added-append : (c : A) (xs ys : List ℤ) → added step c (xs ++ ys) ≡ added step (added step c xs) ys
  unfolding added
  added-append c [] ys = refl
  added-append c (z ∷ xs) ys = added-append (step c z) xs ys

  pub added_none : (c : A) → added step c [] ≡ c
  unfolding added
  added_none c = refl

  pub added-one : (c : A) (z : ℤ) → added step c (z ∷ []) ≡ step c z
  unfolding added
  added-one c z = refl

  -- ---- the numbers of a place
  module _ (l : List ℤ) (s : Strip) (y x : ℕ) (c : A) where
    pub second_yes : {r : A} (o : Origin) (z : ℤ) → s.second ≡ Some o → z ≡ number_in l s o.coefs o.rebuilt y x → r ≡ step c z → r ≡ added step c (second_number l s y x)
    second_yes o z t e h = h ∙ sym (added-one c z) ∙ ap (added step c) (sym (second_one l s o y x z t e))

    pub second_no : s.second ≡ None → c ≡ added step c (second_number l s y x)
    second_no t = sym (added_none c) ∙ ap (added step c) (sym (second_none l s y x t))

    pub place-added : (d r : A) (z : ℤ) → z ≡ number_in l s s.coefs s.rebuilt y x → d ≡ step c z → r ≡ added step d (second_number l s y x) → r ≡ added step c (place_numbers l s y x)
    place-added d r z e h f =
        f ∙ ap (λ (d : A). added step d (second_number l s y x)) (h ∙ sym (added-one c z))
        ∙ sym (added-append c (z ∷ []) (second_number l s y x)) ∙ ap (added step c) (sym (place_is l s y x z e))

  -- ---- part after part
  pub added-start : (c : A) (G : ℕ → List ℤ) (from : ℕ) → G 0 ≡ [] → c ≡ added step c (G (from - from))
  added-start c G from e = let d : from - from ≡ 0 = omega arith in sym (ap (λ (n : ℕ). added step c (G n)) d ∙ ap (added step c) e ∙ added_none c)

  pub added-turn : (c t u : A) (G F : ℕ → List ℤ) (from x : ℕ) → from ≤ x → ((k : ℕ) → G (suc k) ≡ G k ++ F (from + k)) → t ≡ added step c (G (x - from)) → u ≡ added step t (F x)
      → u ≡ added step c (G (x + 1 - from))
  added-turn c t u G F from x h next e f =
      let k : ℕ = x - from in
      let d : x + 1 - from ≡ suc k = omega arith in
      let i : from + k ≡ x = omega arith in
      f ∙ ap (λ (t : A). added step t (F x)) e ∙ sym (added-append c (G k) (F x)) ∙ ap (λ (x : ℕ). added step c (G k ++ F x)) (sym i)
      ∙ ap (added step c) (sym (next k)) ∙ ap (λ (n : ℕ). added step c (G n)) (sym d)

  pub added-chunks-turn : (F : ℕ → List ℤ) (c t u : A) (from x : ℕ) → from ≤ x → t ≡ added step c (chunks F (x - from)) → u ≡ added step t (F (x - from))
      → u ≡ added step c (chunks F (x + 1 - from))
  unfolding chunks
  added-chunks-turn F c t u from x h e f =
      let k : ℕ = x - from in
      let d : x + 1 - from ≡ suc k = omega arith in
      f ∙ ap (λ (t : A). added step t (F k)) e ∙ sym (added-append c (chunks F k) (F k)) ∙ ap (λ (n : ℕ). added step c (chunks F n)) (sym d)

  pub added-chunks-none : (F : ℕ → List ℤ) (c : A) (x : ℕ) → c ≡ added step c (chunks F (x - x))
  unfolding added chunks
  added-chunks-none F c x = let e : x - x ≡ 0 = omega arith in ap (λ (n : ℕ). added step c (chunks F n)) (sym e)

  pub added_all : (F : ℕ → List ℤ) (c t : A) (xs : List ℤ) (from x to : ℕ) → x ≡ to → t ≡ added step c (chunks F (x - from)) → xs ≡ chunks F (to - from) → t ≡ added step c xs
  added_all F c t xs from x to e h f = h ∙ ap (λ (k : ℕ). added step c (chunks F (k - from))) e ∙ ap (added step c) (sym f)

  module _ (l : List ℤ) (s : Strip) (c : A) where
    pub row-start : (y from : ℕ) → c ≡ added step c (row_numbers l s y from (from - from))
    unfolding row_numbers
    row-start y from = added-start c (row_numbers l s y from) from refl

    pub row-added-turn : (y from x : ℕ) (t u : A) → from ≤ x → t ≡ added step c (row_numbers l s y from (x - from)) → u ≡ added step t (place_numbers l s y x)
        → u ≡ added step c (row_numbers l s y from (x + 1 - from))
    unfolding row_numbers
    row-added-turn y from x t u h = added-turn c t u (row_numbers l s y from) (place_numbers l s y) from x h (λ k. refl)

    pub rows-start : (from : ℕ) → c ≡ added step c (rows_numbers l s from (from - from))
    unfolding rows_numbers
    rows-start from = added-start c (rows_numbers l s from) from refl

    pub rows-added-turn : (from y : ℕ) (t u : A) → from ≤ y → t ≡ added step c (rows_numbers l s from (y - from)) → u ≡ added step t (row_numbers l s y s.left (s.right - s.left))
        → u ≡ added step c (rows_numbers l s from (y + 1 - from))
    unfolding rows_numbers
    rows-added-turn from y t u h = added-turn c t u (rows_numbers l s from) (λ y. row_numbers l s y s.left (s.right - s.left)) from y h (λ k. refl)
