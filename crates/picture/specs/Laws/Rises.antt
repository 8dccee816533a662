-- A high-quality slice that fits its share at an index fits at every larger one: its numbers are as many and none is
-- larger. So it is with the numbers of low delay behind level 0.
use Rattle.std.specs.Prelude.{◌≡◌, Some, None, Bool, cond, List, [], ◌∷◌, ◌++◌, ℤ, pos, negsuc, length, get_or}
use Rattle.std.proofs.Math.Bool.{true, false}
use Prim.Native.Nat.{ℕ, zero, suc, ◌+◌, ◌*◌, ◌-◌, ◌≤◌, ◌<◌}
use Rattle.std.proofs.Common.{le_trans, le-div_iff_mul-le, div-mul-le_self, mul-le-mul_right, arith, leb-true, le-leb}
use Rattle.std.proofs.Math.IntN.{nat_abs}
use Rattle.laws.specs.Ceiling.{ceiling}
use Rattle.laws.specs.Code.Chunks.{chunks}
use Rattle.codewords.specs.CodeWord.{code_s}
use Rattle.codewords.specs.Laws.Code.{code_s-pos}
use Rattle.quantiser.specs.Quant.{quant_factor, band_index}
use Rattle.quantiser.specs.Laws.Quant.{quant_factor-least}
use Rattle.quantiser.specs.Laws.Rises.{factor_rises, forward_falls, code_falls}
use Rattle.unit.specs.Three.{Three}
use Rattle.unit.specs.Trim.{trim_cons, trimmed, bits_of, trimmed_cost}
use Rattle.unit.specs.HighQuality.{need_of, scalers_of, slice_size, fits_by}
use Rattle.picture.specs.declared.slices.layout.Component.{Component}
use Rattle.picture.specs.declared.slices.layout.Layout.{Layout}
use Rattle.picture.specs.declared.slices.layout.Picture.{Picture}
use Rattle.picture.specs.Code.Strip.{residual_in, number_in, second_number, place_numbers, row_numbers}
use Rattle.picture.specs.Laws.Strip.{places, rows, row-chunks, rows-chunks}
use Rattle.picture.specs.Laws.Tally.{bits-more, bits_none}
use Rattle.picture.specs.Code.Layout.{band_count, start_of, origin_of, strip_of, run_numbers, rest_numbers}
use Rattle.picture.specs.Laws.Layout.{band_strip, band_numbers, run-chunks}
use Rattle.picture.specs.Code.Picture.{numbers_in}

-- ---- as many numbers, and none larger in magnitude
abbrev Falls : List ℤ → List ℤ → Type 0
Falls [] [] = Unit {0}
Falls [] (y ∷ ys) = ⊥
Falls (x ∷ xs) [] = ⊥
Falls (x ∷ xs) (y ∷ ys) = (nat_abs x ≤ nat_abs y) × Falls xs ys

falls_append : (xs ys us vs : List ℤ) → Falls xs ys → Falls us vs → Falls (xs ++ us) (ys ++ vs)
falls_append [] [] us vs a b = b
falls_append [] (y ∷ ys) us vs a b = absurd a
falls_append (x ∷ xs) [] us vs a b = absurd a
falls_append (x ∷ xs) (y ∷ ys) us vs a b = (a.0, falls_append xs ys us vs a.1 b)

falls_chunks : (F G : ℕ → List ℤ) (n : ℕ) → ((k : ℕ) → Falls (F k) (G k)) → Falls (chunks F n) (chunks G n)
unfolding chunks
falls_chunks F G zero h = tt
falls_chunks F G (suc n) h = falls_append (chunks F n) (chunks G n) (F n) (G n) (falls_chunks F G n h) (h n)

-- ---- what they cost
-- a number alone, which is dropped if it is 0
alone_most : (x : ℤ) → bits_of (trim_cons x []) ≤ length (code_s x)
alone_most (pos zero) = omega (arith, bits_none)
alone_most (pos (suc n)) = omega (arith, bits_none, bits-more (pos (suc n)) [])
alone_most (negsuc n) = omega (arith, bits_none, bits-more (negsuc n) [])

alone_is : (x : ℤ) → 0 < nat_abs x → bits_of (trim_cons x []) ≡ length (code_s x)
alone_is (pos zero) h = absurd (omega arith)
alone_is (pos (suc n)) h = omega (arith, bits_none, bits-more (pos (suc n)) [])
alone_is (negsuc n) h = omega (arith, bits_none, bits-more (negsuc n) [])

alone_falls : (x y : ℤ) → nat_abs x ≤ nat_abs y → bits_of (trim_cons x []) ≤ bits_of (trim_cons y [])
alone_falls (pos zero) y h = omega (arith, bits_none)
alone_falls (pos (suc n)) y h = omega (arith, alone_most (pos (suc n)), alone_is y (omega arith), code_falls (pos (suc n)) y h)
alone_falls (negsuc n) y h = omega (arith, alone_most (negsuc n), alone_is y (omega arith), code_falls (negsuc n) y h)

trim_falls : (x y : ℤ) (xs ys : List ℤ) → nat_abs x ≤ nat_abs y → bits_of xs ≤ bits_of ys → bits_of (trim_cons x xs) ≤ bits_of (trim_cons y ys)
trim_falls x y [] [] h l = alone_falls x y h
trim_falls x y [] (v ∷ vs) h l = omega (arith, alone_most x, code_falls x y h, bits-more y (v ∷ vs))
trim_falls x y (u ∷ us) [] h l = absurd (omega (arith, bits_none, bits-more u us, code_s-pos u))
trim_falls x y (u ∷ us) (v ∷ vs) h l = omega (arith, code_falls x y h, bits-more x (u ∷ us), bits-more y (v ∷ vs))

cost_falls : (xs ys : List ℤ) → Falls xs ys → trimmed_cost xs ≤ trimmed_cost ys
unfolding trimmed_cost trimmed
cost_falls [] [] a = omega arith
cost_falls [] (y ∷ ys) a = absurd a
cost_falls (x ∷ xs) [] a = absurd a
cost_falls (x ∷ xs) (y ∷ ys) a = trim_falls x y (trimmed xs) (trimmed ys) a.0 (cost_falls xs ys a.1)

-- costs behind other numbers
pub cost-behind : (xs ys zs : List ℤ) → trimmed_cost ys ≤ trimmed_cost zs → trimmed_cost (xs ++ ys) ≤ trimmed_cost (xs ++ zs)
unfolding trimmed_cost trimmed
cost-behind [] ys zs h = h
cost-behind (x ∷ xs) ys zs h = trim_falls x x (trimmed (xs ++ ys)) (trimmed (xs ++ zs)) (omega arith) (cost-behind xs ys zs h)

ceiling_rises : (m n c : ℕ) → 1 ≤ c → m ≤ n → ceiling m c ≤ ceiling n c
ceiling_rises m n c p h = (le-div_iff_mul-le p).1 (omega (arith, div-mul-le_self (m + (c - 1)) c))

-- costs in whole scalers
whole_falls : (c : ℕ) (xs ys : List ℤ) → 1 ≤ c → Falls xs ys → scalers_of c xs * c ≤ scalers_of c ys * c
whole_falls c xs ys p a =
    mul-le-mul_right c (ceiling_rises (need_of xs) (need_of ys) c p
    (ceiling_rises (trimmed_cost xs) (trimmed_cost ys) 8 (omega arith) (cost_falls xs ys a)))

record Falls3 (u v : Three (List ℤ)) : Type 0 where
  y : Falls u.y v.y
  c1 : Falls u.c1 v.c1
  c2 : Falls u.c2 v.c2

size_falls : (prefix c : ℕ) (u v : Three (List ℤ)) → 1 ≤ c → Falls3 u v → slice_size prefix c u ≤ slice_size prefix c v
unfolding slice_size
size_falls prefix c u v p a =
    omega (arith, whole_falls c u.y v.y p a.y, whole_falls c u.c1 v.c1 p a.c1, whole_falls c u.c2 v.c2 p a.c2)

-- ---- a slice's numbers at two indices: of equal residuals, by factors of which that at j is not the smaller
module _ (w : List ℤ) (l : Layout) (c second : Component) (pair : Bool) (k i j : ℕ) (h : i ≤ j) where
  number_falls : (n coefs base y x : ℕ) → nat_abs (number_in w (band_strip l c second pair k j n) coefs base y x) ≤ nat_abs (number_in w (band_strip l c second pair k i n) coefs base y x)
  unfolding strip_of
  number_falls n coefs base y x =
      let a : ℕ = band_index i (get_or l.values n 0) in
      let b : ℕ = band_index j (get_or l.values n 0) in
      let p : 0 < quant_factor a = omega (arith, quant_factor-least a) in
      forward_falls (quant_factor a) (quant_factor b) (residual_in w (band_strip l c second pair k i n) coefs base y x) p (factor_rises a b (omega arith))

  second_falls : (n y x : ℕ) → Falls (second_number w (band_strip l c second pair k j n) y x) (second_number w (band_strip l c second pair k i n) y x)
  unfolding strip_of
  second_falls n y x = by pair
    where
      of : Bool → ℕ → List ℤ
      of t i = elim (cond t (Some (origin_of second (start_of l c n))) None) [ Some o ↦ number_in w (band_strip l c second pair k i n) o.coefs o.rebuilt y x ∷ [] | None ↦ [] ]

      by : (t : Bool) → Falls (of t j) (of t i)
      by true = (number_falls n (second.coefs + start_of l c n) second.rebuilt y x, tt)
      by false = tt

  place_falls : (n y x : ℕ) → Falls (place_numbers w (band_strip l c second pair k j n) y x) (place_numbers w (band_strip l c second pair k i n) y x)
  unfolding place_numbers strip_of
  place_falls n y x = (number_falls n (c.coefs + start_of l c n) c.rebuilt y x, second_falls n y x)

  row_falls : (n y x m : ℕ) → Falls (row_numbers w (band_strip l c second pair k j n) y x m) (row_numbers w (band_strip l c second pair k i n) y x m)
  row_falls n y x m =
      let s = band_strip l c second pair k i n in
      let t = band_strip l c second pair k j n in
      rw (row-chunks w s y x m, row-chunks w t y x m) (falls_chunks (places w t y x) (places w s y x) m (λ z. place_falls n y (x + z)))

  strip_falls : (n : ℕ) → Falls (band_numbers w l c second pair k j n) (band_numbers w l c second pair k i n)
  unfolding strip_of
  strip_falls n =
      let s = band_strip l c second pair k i n in
      let t = band_strip l c second pair k j n in
      let m : ℕ = s.bottom - s.top in
      rw (rows-chunks w s s.top m, rows-chunks w t s.top m)
      (falls_chunks (rows w t s.top) (rows w s s.top) m (λ z. row_falls n (s.top + z) s.left (s.right - s.left)))

  run_falls : (n : ℕ) → Falls (run_numbers w l c second pair k j n) (run_numbers w l c second pair k i n)
  run_falls n =
      rw (run-chunks w l c second pair k i n, run-chunks w l c second pair k j n)
      (falls_chunks (band_numbers w l c second pair k j) (band_numbers w l c second pair k i) n strip_falls)

  -- the numbers behind the first subband
  rest_falls : (n : ℕ) → Falls (rest_numbers w l c second pair k j n) (rest_numbers w l c second pair k i n)
  unfolding rest_numbers
  rest_falls zero = tt
  rest_falls (suc n) =
      falls_append (rest_numbers w l c second pair k j n) (rest_numbers w l c second pair k i n) (band_numbers w l c second pair k j (suc n))
      (band_numbers w l c second pair k i (suc n)) (rest_falls n) (strip_falls (suc n))

  pub rest_cost_falls : (n : ℕ) → trimmed_cost (rest_numbers w l c second pair k j n) ≤ trimmed_cost (rest_numbers w l c second pair k i n)
  rest_cost_falls n = cost_falls (rest_numbers w l c second pair k j n) (rest_numbers w l c second pair k i n) (rest_falls n)

numbers_fall : (w : List ℤ) (p : Picture) (k i j : ℕ) → i ≤ j → Falls3 (numbers_in w p k j) (numbers_in w p k i)
unfolding numbers_in
numbers_fall w p k i j h =
    let l = p.layout in
    record {
      y = run_falls w l p.y p.y false k i j h (band_count l);
      c1 = run_falls w l p.c1 p.c1 false k i j h (band_count l);
      c2 = run_falls w l p.c2 p.c2 false k i j h (band_count l);
    }

-- indices end at 255, which the law itself does not need
pub fits_rises : (w : List ℤ) (p : Picture) (prefix c share k i j : ℕ) → 1 ≤ c → i ≤ j → j ≤ 255
    → fits_by prefix c share (numbers_in w p k) i ≡ true → fits_by prefix c share (numbers_in w p k) j ≡ true
fits_rises w p prefix c share k i j a h b e =
    let u = numbers_in w p k j in
    let v = numbers_in w p k i in
    le-leb (slice_size prefix c u) share
    (le_trans (size_falls prefix c u v a (numbers_fall w p k i j h)) (leb-true (slice_size prefix c v) share e))
