-- Laws of runs in short form: their words say the numbers without trailing zeros, how many bits and words these take,
-- and the numbers of a slice are their own words.
use Rattle.std.specs.Prelude.{◌≡◌, refl, Bool, false, cond, ◌&&◌, List, [], ◌∷◌, ◌++◌, ℕ, zero, suc, ◌+◌, ◌*◌, ◌-◌, ◌≤◌, ◌<◌, leb, eqb, ℤ, pos, negsuc, nat_abs, length, replicate}
use Rattle.std.proofs.Common.{sym, ap, ap₂, ◌∙◌, append_assoc, append-nil, arith, le-leb, length-append}
use Rattle.std.proofs.lemmas.Bool.{lt-leb}
use Rattle.laws.specs.Code.Chunks.{chunks}
use Rattle.laws.specs.Laws.Integer.{up}
use Rattle.codewords.specs.CodeWord.{code_s}
use Rattle.codewords.specs.Laws.Code.{length-code_s-zero}
use Rattle.quantiser.specs.Quant.{quant_factor, forward_by, forward_quant}
use Rattle.quantiser.specs.Laws.Quant.{number_size}
use Rattle.unit.specs.Trim.{trim_cons, trimmed, bits_of, trimmed_cost}
use Rattle.unit.specs.HighQuality.{component_bits}
use Rattle.picture.specs.declared.slices.strip.Strip.{Strip}
use Rattle.picture.specs.declared.slices.layout.Component.{Component}
use Rattle.picture.specs.declared.slices.layout.Layout.{Layout}
use Rattle.picture.specs.Code.Strip.{plane_from, place_numbers, row_numbers, strip_numbers, most, Small, Inside}
use Rattle.picture.specs.Laws.Strip.{places, rows, row-chunks, rows-chunks, second_none, place-lt}
use Rattle.picture.specs.Laws.Tally.{bits-more, bits_none, place_plain}
use Rattle.picture.specs.Code.Layout.{band_count, strip_of, run_numbers, RunIn}
use Rattle.picture.specs.Laws.Layout.{band_strip, band_numbers, run-chunks, strip_within}
use Rattle.picture.specs.Code.Packed.{mark, zeros_word, packed, packed_bits, waiting, word_numbers, unpacked, due, Single}

-- numbers that are their own words
unfoldable pub Below : List ℤ → Type 0
Below [] = Unit {0}
Below (x ∷ xs) = (nat_abs x < mark) × Below xs

-- ---- the numbers of words
pub unpacked-append : (xs ys : List ℤ) → unpacked (xs ++ ys) ≡ unpacked xs ++ unpacked ys
unfolding unpacked
unpacked-append [] ys = refl
unpacked-append (x ∷ xs) ys =
    ap (λ (r : List ℤ). word_numbers x ++ r) (unpacked-append xs ys) ∙ sym (append_assoc (word_numbers x) (unpacked xs) (unpacked ys))

-- a word of a number of at least m, and of a smaller one: by any mark m, so that 2^52 is not computed with
pub word_more : (m n k : ℕ) → m ≤ n → n - m ≡ k → cond (leb m n) (replicate (n - m) (pos 0)) (pos n ∷ []) ≡ replicate k (pos 0)
word_more m n k h e = rw (le-leb m n h, e)

word_less : (m n : ℕ) → n < m → cond (leb m n) (replicate (n - m) (pos 0)) (pos n ∷ []) ≡ pos n ∷ []
word_less m n h = rw (lt-leb m n h)

abbrev zeros : ℕ → List ℤ
zeros n = replicate n (pos 0)

zeros_numbers : (n : ℕ) → unpacked (zeros_word n) ≡ zeros n
unfolding zeros_word unpacked word_numbers
zeros_numbers zero = refl
zeros_numbers (suc n) = append-nil (word_numbers (pos (mark + suc n))) ∙ word_more mark (mark + suc n) (suc n) (omega arith) (omega arith)

pub own_word : (x : ℤ) → up x < mark → word_numbers x ≡ x ∷ []
unfolding word_numbers
own_word (pos n) h = word_less mark n h
own_word (negsuc n) h = refl

-- ---- zeros in front of a run
zero_more : (n : ℕ) (xs : List ℤ) → zeros n ++ (pos 0 ∷ xs) ≡ zeros (suc n) ++ xs
zero_more zero xs = refl
zero_more (suc n) xs = ap (λ (r : List ℤ). pos 0 ∷ r) (zero_more n xs)

zeros_only : (n : ℕ) → trimmed (zeros n ++ []) ≡ []
unfolding trimmed
zeros_only zero = refl
zeros_only (suc n) = ap (trim_cons (pos 0)) (zeros_only n)

-- zeros stay before a number that is not 0
zeros_stay : (n : ℕ) (x : ℤ) (xs : List ℤ) → trimmed (x ∷ xs) ≡ x ∷ trimmed xs → trimmed (zeros n ++ (x ∷ xs)) ≡ zeros n ++ (x ∷ trimmed xs)
unfolding trimmed
zeros_stay zero x xs e = e
zeros_stay (suc n) x xs e = ap (trim_cons (pos 0)) (zeros_stay n x xs e) ∙ by n
  where
    by : (n : ℕ) → trim_cons (pos 0) (zeros n ++ (x ∷ trimmed xs)) ≡ pos 0 ∷ (zeros n ++ (x ∷ trimmed xs))
    by zero = refl
    by (suc n) = refl

more_stays : (m : ℕ) (xs : List ℤ) → trimmed (pos (suc m) ∷ xs) ≡ pos (suc m) ∷ trimmed xs
unfolding trimmed
more_stays m xs = by (trimmed xs)
  where
    by : (ts : List ℤ) → trim_cons (pos (suc m)) ts ≡ pos (suc m) ∷ ts
    by [] = refl
    by (t ∷ ts) = refl

less_stays : (m : ℕ) (xs : List ℤ) → trimmed (negsuc m ∷ xs) ≡ negsuc m ∷ trimmed xs
unfolding trimmed
less_stays m xs = by (trimmed xs)
  where
    by : (ts : List ℤ) → trim_cons (negsuc m) ts ≡ negsuc m ∷ ts
    by [] = refl
    by (t ∷ ts) = refl

-- ---- the words of a run say its numbers without trailing zeros
-- a number that is not 0 behind n zeros
ends : (n : ℕ) (x : ℤ) (xs ps : List ℤ) → up x < mark → trimmed (x ∷ xs) ≡ x ∷ trimmed xs → unpacked ps ≡ trimmed xs
    → unpacked (zeros_word n ++ (x ∷ ps)) ≡ trimmed (zeros n ++ (x ∷ xs))
unfolding unpacked
ends n x xs ps h e d =
    unpacked-append (zeros_word n) (x ∷ ps) ∙ ap₂ ◌++◌ (zeros_numbers n) (ap₂ ◌++◌ (own_word x h) d) ∙ sym (zeros_stay n x xs e)

behind : (n : ℕ) (xs : List ℤ) → Below xs → unpacked (packed n xs) ≡ trimmed (zeros n ++ xs)
unfolding packed unpacked Below
behind n [] b = sym (zeros_only n)
behind n (pos zero ∷ xs) b = behind (suc n) xs b.1 ∙ ap trimmed (sym (zero_more n xs))
behind n (pos (suc m) ∷ xs) b = ends n (pos (suc m)) xs (packed 0 xs) b.0 (more_stays m xs) (behind 0 xs b.1)
behind n (negsuc m ∷ xs) b = ends n (negsuc m) xs (packed 0 xs) (omega arith) (less_stays m xs) (behind 0 xs b.1)

pub unpacked-run : (xs : List ℤ) → Below xs → unpacked (packed 0 xs) ≡ trimmed xs
unpacked-run xs b = behind 0 xs b

-- ---- bits
zeros-bits : (n : ℕ) (ys : List ℤ) → bits_of (zeros n ++ ys) ≡ n + bits_of ys
zeros-bits zero ys = omega arith
zeros-bits (suc n) ys = omega (arith, bits-more (pos 0) (zeros n ++ ys), length-code_s-zero (pos 0) refl, zeros-bits n ys)

ends_bits : (n : ℕ) (x : ℤ) (xs : List ℤ) (b : ℕ) → trimmed (x ∷ xs) ≡ x ∷ trimmed xs → b ≡ bits_of (trimmed xs)
    → n + length (code_s x) + b ≡ bits_of (trimmed (zeros n ++ (x ∷ xs)))
ends_bits n x xs b e d =
    omega (arith, d, ap bits_of (zeros_stay n x xs e), zeros-bits n (x ∷ trimmed xs), bits-more x (trimmed xs))

behind-bits : (n : ℕ) (xs : List ℤ) → packed_bits n xs ≡ bits_of (trimmed (zeros n ++ xs))
unfolding packed_bits
behind-bits n [] = sym (ap bits_of (zeros_only n) ∙ bits_none)
behind-bits n (pos zero ∷ xs) = behind-bits (suc n) xs ∙ ap (λ (r : List ℤ). bits_of (trimmed r)) (sym (zero_more n xs))
behind-bits n (pos (suc m) ∷ xs) = ends_bits n (pos (suc m)) xs (packed_bits 0 xs) (more_stays m xs) (behind-bits 0 xs)
behind-bits n (negsuc m ∷ xs) = ends_bits n (negsuc m) xs (packed_bits 0 xs) (less_stays m xs) (behind-bits 0 xs)

pub packed-cost : (xs : List ℤ) → packed_bits 0 xs ≡ trimmed_cost xs
unfolding trimmed_cost
packed-cost xs = behind-bits 0 xs

-- ---- words
pub zeros-due : (n : ℕ) → length (zeros_word n) ≡ due n
unfolding zeros_word
zeros-due zero = refl
zeros-due (suc n) = refl

-- no more words than numbers, with those that are due
pub packed-most : (n : ℕ) (xs : List ℤ) → length (packed n xs) + due (waiting n xs) ≤ due n + length xs
unfolding packed waiting
packed-most n [] = omega arith
packed-most n (pos zero ∷ xs) = omega (arith, packed-most (suc n) xs)
packed-most n (pos (suc m) ∷ xs) =
    omega (arith, packed-most 0 xs, length-append (zeros_word n) (pos (suc m) ∷ packed 0 xs), zeros-due n)
packed-most n (negsuc m ∷ xs) =
    omega (arith, packed-most 0 xs, length-append (zeros_word n) (negsuc m ∷ packed 0 xs), zeros-due n)

pub packed_few : (xs : List ℤ) → length (packed 0 xs) ≤ length xs
packed_few xs = omega (arith, packed-most 0 xs)

-- ---- a run without trailing zeros
pub trimmed_again : (xs : List ℤ) → trimmed (trimmed xs) ≡ trimmed xs
unfolding trimmed
trimmed_again [] = refl
trimmed_again (x ∷ xs) = by x (trimmed xs) (trimmed_again xs)
  where
    by : (x : ℤ) (ts : List ℤ) → trimmed ts ≡ ts → trimmed (trim_cons x ts) ≡ trim_cons x ts
    by x (t ∷ ts) e = ap (trim_cons x) e
    by (pos zero) [] e = refl
    by (pos (suc n)) [] e = refl
    by (negsuc n) [] e = refl

pub component_trimmed : (c : ℕ) (xs : List ℤ) → component_bits c (trimmed xs) ≡ component_bits c xs
unfolding component_bits trimmed_cost
component_trimmed c xs = rw (trimmed_again xs)

-- ---- runs of numbers that are their own words
pub below_append : (xs ys : List ℤ) → Below xs → Below ys → Below (xs ++ ys)
unfolding Below
below_append [] ys a b = b
below_append (x ∷ xs) ys a b = (a.0, below_append xs ys a.1 b)

pub below_chunks : (F : ℕ → List ℤ) (n : ℕ) → ((k : ℕ) → k < n → Below (F k)) → Below (chunks F n)
unfolding chunks Below
below_chunks F zero h = tt
below_chunks F (suc n) h = below_append (chunks F n) (F n) (below_chunks F n (λ k o. h k (omega arith))) (h n (omega arith))

number_below : (i : ℕ) (c : ℤ) → nat_abs c ≤ most → nat_abs (forward_by (quant_factor i) c) < mark
unfolding forward_quant
number_below i c h = omega (arith, number_size c i)

-- the words of a strip of one component that is not predicted
module _ {a e : ℕ} {w : List ℤ} {s : Strip} (h : Single a e w s) where
  pub place_below : (y x : ℕ) → Inside s y x → Below (place_numbers w s y x)
  unfolding Below
  place_below y x i =
      let p = h.plain in
      let n = p.within in
      let o = place-lt p.small n i in
      let m = p.small.coefficients (s.coefs + (y * s.width + x)) (omega (arith, n.behind)) (omega (arith, n.coefs)) in
      rw (place_plain w s y x p.plain, second_none w s y x h.single, n.factor) (number_below s.index (plane_from w s.coefs s.width y x) m, tt)

  pub row_below : (y : ℕ) → s.top ≤ y → y < s.bottom → Below (row_numbers w s y s.left (s.right - s.left))
  row_below y t b =
      rw (row-chunks w s y s.left (s.right - s.left)) (below_chunks (places w s y s.left) (s.right - s.left)
      (λ k o. place_below y (s.left + k) (record { below = t; above = b; right_of = omega arith; left-of = omega arith })))

  strip_below : Below (strip_numbers w s)
  strip_below =
      rw (rows-chunks w s s.top (s.bottom - s.top)) (below_chunks (rows w s s.top) (s.bottom - s.top)
      (λ k o. row_below (s.top + k) (omega arith) (omega arith)))

-- a slice's strip of a subband of one component
pub band_single : {l : Layout} {c : Component} {a e k q : ℕ} {w v : List ℤ} → RunIn l c c a e k q w → l.predicted ≡ false → (n : ℕ) → n < band_count l → Small a e v
    → Single a e v (band_strip l c c false k q n)
unfolding strip_of
band_single h d n o m = record {
  plain = record { small = m; within = strip_within h false n o; plain = ap (λ (b : Bool). b && eqb n 0) d };
  single = refl;
}

-- the words of the first n subbands of a slice's run of one component
pub run_below : (l : Layout) (c : Component) (a e k q : ℕ) (w : List ℤ) → RunIn l c c a e k q w → l.predicted ≡ false → (n : ℕ) → n ≤ band_count l
    → Below (run_numbers w l c c false k q n)
run_below l c a e k q w h d n m =
    rw (run-chunks w l c c false k q n) (below_chunks (band_numbers w l c c false k q) n (λ i o. strip_below (band_single h d i (omega (arith, o, m)) h.small)))
