-- A slice that keeps all of its numbers is not cut, and a low-delay slice is cut just where it does not fit.
use Rattle.std.specs.Prelude.{◌≡◌, Bool, ◌&&◌, ◌||◌, List, [], ◌∷◌, ℕ, zero, suc, ◌+◌, ◌-◌, ◌≤◌, ◌<◌, ℤ, pos, negsuc, length}
use Rattle.std.proofs.Math.Path.{refl, ap}
use Rattle.std.proofs.Common.{sym, ◌∙◌, arith, leb-true, leb-false, length-append}
use Rattle.std.proofs.Math.Bool.{true, false, not, or-true, not-and_self}
use Rattle.std.proofs.Math.Decide.{dec_le}
use Rattle.std.proofs.Math.Dec.{leb}
use Rattle.codewords.specs.CodeWord.{code_s, codes, zero_filled}
use Rattle.wavelet.specs.Planes.{Band}
use Rattle.unit.specs.Three.{Three}
use Rattle.unit.specs.Slices.{Grid}
use Rattle.unit.specs.Trim.{is_zero, trim_cons, trimmed, bits_of, trimmed_cost, fit_prefix}
use Rattle.unit.specs.Plan.{SlicePlan}
use Rattle.unit.specs.LowDelay.{room_of, alternated, evens, odds, kept_runs, low_plan_of}
use Rattle.unit.specs.Cut.{any_lost, is_cut}
use Rattle.unit.proofs.Laws.Trim.{fit_all}
use Rattle.unit.proofs.Laws.LowDelay.{low-whole}
use Rattle.unit.proofs.Laws.Slice.{length-alternated}
use Rattle.unit.proofs.Laws.Test.{no_truth}

-- ---- all kept
none_lost : (xs : List ℤ) → any_lost xs xs ≡ false
unfolding any_lost
none_lost [] = refl
none_lost (x ∷ xs) = rw (not-and_self (is_zero x)) (none_lost xs)

pub whole_uncut : (a : SlicePlan) → a.kept ≡ a.numbers → is_cut a ≡ false
unfolding is_cut
whole_uncut a e = let z = a.numbers in rw (e, none_lost z.y, none_lost z.c1, none_lost z.c2)

-- ---- a run that is cut loses its last number, which is not 0
or_left : (a b : Bool) → a ≡ true → (a || b) ≡ true
or_left a b e = rw e refl

or_right : (a b : Bool) → b ≡ true → (a || b) ≡ true
or_right a b e = rw e (or-true a)

-- a run of which no number is kept, and which has one that is not 0
zeros_lost : (xs : List ℤ) → 0 < length (trimmed xs) → any_lost xs (zero_filled (length xs) []) ≡ true
unfolding any_lost trimmed zero_filled
zeros_lost [] h = absurd (omega arith)
zeros_lost (x ∷ xs) h = by x (trimmed xs) h (zeros_lost xs)
  where
    by : (x : ℤ) (t : List ℤ) → 0 < length (trim_cons x t) → (0 < length t → any_lost xs (zero_filled (length xs) []) ≡ true)
        → (not (is_zero x) && true || any_lost xs (zero_filled (length xs) [])) ≡ true
    by (pos zero) [] h r = absurd (omega arith)
    by (pos zero) (y ∷ t) h r = r (omega arith)
    by (pos (suc n)) t h r = refl
    by (negsuc n) t h r = refl

-- a run that n bits do not hold
cut_lost : (xs : List ℤ) (n : ℕ) → n < trimmed_cost xs → any_lost xs (zero_filled (length xs) (fit_prefix (trimmed xs) n)) ≡ true
unfolding any_lost trimmed zero_filled fit_prefix codes trimmed_cost
cut_lost [] n h = absurd (omega arith)
cut_lost (x ∷ xs) n h = by x (trimmed xs) h (zeros_lost xs) (cut_lost xs)
  where
    -- x is the last number
    alone : (x : ℤ) → is_zero x ≡ false → n < length (code_s x) → (b : Bool) → leb (length (code_s x)) n ≡ b
        → any_lost (x ∷ xs) (zero_filled (suc (length xs)) (elim b [ true ↦ x ∷ [] | false ↦ [] ])) ≡ true
    alone x z h true e = absurd (omega (arith, leb-true (length (code_s x)) n e))
    alone x z h false e = rw z refl

    by : (x : ℤ) (t : List ℤ) → n < bits_of (trim_cons x t) → (0 < length t → any_lost xs (zero_filled (length xs) []) ≡ true)
        → ((m : ℕ) → m < bits_of t → any_lost xs (zero_filled (length xs) (fit_prefix t m)) ≡ true)
        → any_lost (x ∷ xs) (zero_filled (suc (length xs)) (fit_prefix (trim_cons x t) n)) ≡ true
    by x (y ∷ t) h z r = fit (leb (length (code_s x)) n) refl
      where
        fit : (b : Bool) → leb (length (code_s x)) n ≡ b
            → any_lost (x ∷ xs) (zero_filled (suc (length xs)) (elim b [ true ↦ x ∷ fit_prefix (y ∷ t) (n - length (code_s x)) | false ↦ [] ])) ≡ true
        fit true e =
            or_right (not (is_zero x) && is_zero x) (any_lost xs (zero_filled (length xs) (fit_prefix (y ∷ t) (n - length (code_s x)))))
            (r (n - length (code_s x)) (omega (arith, h, length-append (code_s x) (codes (y ∷ t)), leb-true (length (code_s x)) n e)))
        fit false e = or_right (not (is_zero x) && true) (any_lost xs (zero_filled (length xs) [])) (z (omega arith))
    by (pos zero) [] h z r = absurd (omega arith)
    by (pos (suc k)) [] h z r = let x = pos (suc k) in alone x refl (omega (arith, h, length-append (code_s x) [])) (leb (length (code_s x)) n) refl
    by (negsuc k) [] h z r = let x = negsuc k in alone x refl (omega (arith, h, length-append (code_s x) [])) (leb (length (code_s x)) n) refl

-- ---- the colours alternate
four_way : (a b p q r : Bool) → (r ≡ true → (p || q) ≡ true) → (a || (b || r)) ≡ true → (a || p || (b || q)) ≡ true
four_way true b p q r f e = refl
four_way false true true q r f e = refl
four_way false true false q r f e = refl
four_way false false p q r f e = f e

colours_lost : (us vs c : List ℤ) → length us ≡ length vs → any_lost (alternated us vs) c ≡ true → (any_lost us (evens c) || any_lost vs (odds c)) ≡ true
unfolding any_lost alternated evens odds
colours_lost [] vs c l e = no_truth (sym e)
colours_lost (u ∷ us) [] c l e = absurd (omega arith)
colours_lost (u ∷ us) (v ∷ vs) [] l e =
    four_way (not (is_zero u)) (not (is_zero v)) (any_lost us []) (any_lost vs []) (any_lost (alternated us vs) []) (colours_lost us vs [] (omega arith)) e
colours_lost (u ∷ us) (v ∷ vs) (a ∷ []) l e =
    four_way (not (is_zero u) && is_zero a) (not (is_zero v)) (any_lost us []) (any_lost vs []) (any_lost (alternated us vs) []) (colours_lost us vs [] (omega arith)) e
colours_lost (u ∷ us) (v ∷ vs) (a ∷ b ∷ c) l e =
    four_way (not (is_zero u) && is_zero a) (not (is_zero v) && is_zero b) (any_lost us (evens c)) (any_lost vs (odds c)) (any_lost (alternated us vs) c)
    (colours_lost us vs c (omega arith)) e

-- ---- a low-delay slice of n bytes with the numbers z, as many of one colour as of the other
module _ (g : Grid) (m : List ℕ) (b : Three (List Band)) (n q : ℕ) (z : Three (List ℤ)) (l : length z.c1 ≡ length z.c2) where
  abbrev cs : List ℤ
  cs = alternated z.c1 z.c2

  abbrev cost : ℕ
  cost = trimmed_cost z.y + trimmed_cost cs

  abbrev luma : List ℤ
  luma = fit_prefix (trimmed z.y) (room_of n)

  -- the colours with zeros for what a cut drops
  abbrev colour : List ℤ
  colour = zero_filled (length z.c1 + length z.c2) (fit_prefix (trimmed cs) (room_of n - bits_of luma))

  abbrev luma_lost : Bool
  luma_lost = any_lost z.y (zero_filled (length z.y) luma)

  abbrev colour_lost : Bool
  colour_lost = any_lost z.c1 (evens colour) || any_lost z.c2 (odds colour)

  over_colour : room_of n - bits_of luma < trimmed_cost cs → colour_lost ≡ true
  over_colour h =
      colours_lost z.c1 z.c2 colour l
      (ap (λ (k : ℕ). any_lost cs (zero_filled k (fit_prefix (trimmed cs) (room_of n - bits_of luma)))) (sym (length-alternated z.c1 z.c2 l))
      ∙ cut_lost cs (room_of n - bits_of luma) h)

  over : room_of n < cost → (luma_lost || colour_lost) ≡ true
  unfolding trimmed_cost
  over h = by (dec_le (trimmed_cost z.y) (room_of n))
    where
      by : Dec (trimmed_cost z.y ≤ room_of n) → (luma_lost || colour_lost) ≡ true
      by (yes f) = or_right luma_lost colour_lost (over_colour (omega (arith, ap bits_of (fit_all (trimmed z.y) (room_of n) f))))
      by (no f) = or_left luma_lost colour_lost (cut_lost z.y (room_of n) (omega arith))

  pub low-cut : is_cut (low_plan_of g m b n q z) ≡ not (leb cost (room_of n))
  unfolding kept_runs is_cut
  low-cut = by (leb cost (room_of n)) refl
    where
      by : (t : Bool) → leb cost (room_of n) ≡ t → is_cut (low_plan_of g m b n q z) ≡ not t
      by true e = whole_uncut (low_plan_of g m b n q z) (low-whole g m b n q z l (leb-true cost (room_of n) e))
      by false e = rw (e, kept_runs) (over (leb-false cost (room_of n) e))
