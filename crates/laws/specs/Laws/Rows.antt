-- Laws of a function's values as a list; a region of a function of two numbers, row by row.
use Rattle.std.specs.Prelude.{◌≡◌, ℕ, zero, suc, ◌+◌, ◌*◌, ◌<◌, ◌≤◌, List, [], ◌∷◌, ◌++◌, map, length, ℤ, pos, slice_index_or, refl}
use Rattle.std.proofs.Math.Path.{sym}
use Rattle.std.proofs.Common.{ap, ap₂, ◌∙◌, zero-add, zero-mul, le_of_suc-le-suc, not-suc-le-zero, arith, add-one, length-append, ext_get_or}
use Rattle.laws.specs.Rows.{at, total, span, row}

module _ {A : Type 0} where
  pub length-span : (f : ℕ → A) (i n : ℕ) → length (span f i n) ≡ n
  length-span f i zero = refl
  length-span f i (suc n) = ap suc (length-span f (suc i) n)

  pub get_or-span : (f : ℕ → A) (i n k : ℕ) (d : A) → k < n → slice_index_or (span f i n) k d ≡ f (i + k)
  get_or-span f i zero k d h = absurd (not-suc-le-zero h)
  get_or-span f i (suc n) zero d h = ap f (omega arith)
  get_or-span f i (suc n) (suc k) d h = get_or-span f (suc i) n k d (le_of_suc-le-suc h) ∙ ap f (omega arith)

  -- a table's rule: a list that the checker computes to a function's first values has its value at each place
  pub table : (f : ℕ → A) (n i : ℕ) (d : A) → i < n → slice_index_or (span f 0 n) i d ≡ f i
  table f n i d h = get_or-span f 0 n i d h ∙ ap f (zero-add i)

  pub span_ext : (f g : ℕ → A) (i n : ℕ) → ((k : ℕ) → i ≤ k → k < i + n → f k ≡ g k) → span f i n ≡ span g i n
  span_ext f g i zero e = refl
  span_ext f g i (suc n) e = ap₂ ◌∷◌ (e i (omega arith) (omega arith)) (span_ext f g (suc i) n (λ k a b. e k (omega arith) (omega arith)))

  pub span-suc : (f : ℕ → A) (i n : ℕ) → span f i (suc n) ≡ span f i n ++ (f (i + n) ∷ [])
  span-suc f i zero = ap (λ (k : ℕ). f k ∷ []) (omega arith)
  span-suc f i (suc n) =
      ap (λ (r : List A). f i ∷ r) (span-suc f (suc i) n ∙ ap (λ (k : ℕ). span f (suc i) n ++ (f k ∷ [])) (omega arith))

  pub span_more : (f : ℕ → A) (i n : ℕ) → span f i (n + 1) ≡ span f i n ++ (f (i + n) ∷ [])
  span_more f i n = rw (add-one n) (span-suc f i n)

  pub span-append : (f : ℕ → A) (i m n : ℕ) → span f i (m + n) ≡ span f i m ++ span f (i + m) n
  span-append f i zero n =
      let e : zero + n ≡ n = omega arith in
      let g : i ≡ i + zero = omega arith in
      ap (span f i) e ∙ ap (λ (k : ℕ). span f k n) g
  span-append f i (suc m) n =
      let e : suc m + n ≡ suc (m + n) = omega arith in
      let g : suc i + m ≡ i + suc m = omega arith in
      ap (span f i) e ∙ ap (λ (r : List A). f i ∷ r) (span-append f (suc i) m n ∙ ap (λ (k : ℕ). span f (suc i) m ++ span f k n) g)

  -- m rows of n from (y, x) on, row by row
  unfoldable pub area : (ℕ → ℕ → A) → ℕ → ℕ → ℕ → ℕ → List A
  area p y x zero n = []
  area p y x (suc m) n = area p y x m n ++ span (p (y + m)) x n

  pub length-area : (p : ℕ → ℕ → A) (y x m n : ℕ) → length (area p y x m n) ≡ m * n
  unfolding area
  length-area p y x zero n = sym (zero-mul n)
  length-area p y x (suc m) n = rw (length-append, length-area p y x m n, length-span) (omega arith)

pub map-span : {A B : Type 0} (g : A → B) (f : ℕ → A) (i n : ℕ) → map g (span f i n) ≡ span (λ k. g (f k)) i n
map-span g f i zero = refl
map-span {B = B} g f i (suc n) = ap (λ (r : List B). g (f i) ∷ r) (map-span g f (suc i) n)

pub total-more : (f : ℕ → ℕ) (i n : ℕ) → total (span f i (suc n)) ≡ total (span f i n) + f (i + n)
total-more f i zero = let e : i + 0 ≡ i = omega arith in rw e (omega arith)
total-more f i (suc n) = let e : i + suc n ≡ suc i + n = omega arith in rw e (omega (arith, total-more f (suc i) n))

pub at_row : (n : ℕ) (f : ℕ → ℤ) (k : ℕ) → k < n → at (row n f) k ≡ f k
at_row n f k h = get_or-span f 0 n k (pos 0) h ∙ ap f (zero-add k)

pub row_at : (n : ℕ) (xs : List ℤ) → length xs ≡ n → row n (at xs) ≡ xs
row_at n xs e =
    ext_get_or (pos 0) (row n (at xs)) xs (length-span (at xs) 0 n ∙ sym e)
    (λ i h. at_row n (at xs) i (rw (length-span (at xs) 0 n) at h))

pub row_ext : (n : ℕ) (f g : ℕ → ℤ) → ((k : ℕ) → k < n → f k ≡ g k) → row n f ≡ row n g
row_ext n f g e = span_ext f g 0 n (λ k a b. e k (omega arith))

pub row_more : (f : ℕ → ℤ) (n : ℕ) → row (n + 1) f ≡ row n f ++ (f n ∷ [])
row_more f n = span_more f 0 n ∙ ap (λ (k : ℕ). row n f ++ (f k ∷ [])) (zero-add n)
