-- Laws of packed runs: runs one after the other, how much they take, what stands behind the words and stays, and the
-- numbers of lists that agree where the coefficients stand.
use Rattle.std.specs.Prelude.{◌≡◌, Some, None, Option, refl, Bool, true, ◌&&◌, ℤ, pos, negsuc, nat_abs, ◌+ℤ◌, length, set}
use Rattle.std.proofs.Math.Path.{sym, ap, ap₂}
use Rattle.std.proofs.Common.{◌∙◌, suc-mul, mul-le-mul_right, length-append, length-set, get_or-set_other, SFits, to_z, of_z, to_z-of_z}
use Rattle.std.proofs.Math.Bool.{false}
use mathlib.Core.List.{List, [], ◌∷◌, ◌++◌, append_assoc}
use Prim.Native.Nat.{ℕ, zero, suc, ◌+◌, ◌*◌, ◌-◌, ◌^◌, ◌≤◌, ◌<◌}
use native.Mathlib.Omega.{arith}
use Rattle.std.proofs.Math.Arith.{digits_lt}
use Rattle.std.proofs.Math.Dec.{eqb}
use Rattle.std.specs.Int.{w64}
use Rattle.std.proofs.Math.Facts.{to_z_pos}
use Rattle.laws.specs.Rows.{at}
use Rattle.laws.specs.Code.Chunks.{chunks}
use Rattle.laws.specs.Laws.Chunks.{chunks_ext}
use Rattle.laws.specs.Code.Laid.{laid, Lays}
use Rattle.laws.specs.Laws.Laid.{laid_nil, laid_then, length-laid, lays_start}
use Rattle.codewords.specs.CodeWord.{code_s}
use Rattle.codewords.specs.Laws.Code.{length-code_s-zero}
use Rattle.quantiser.specs.Quant.{forward_by}
use Rattle.unit.specs.Slices.{part_size}
use Rattle.unit.proofs.Laws.Test.{no_truth}
use Rattle.unit.specs.Trim.{is_zero, bits_of}
use Rattle.unit.proofs.Laws.Trim.{bits_most}
use Rattle.unit.proofs.Laws.Trim as trim
use Rattle.picture.specs.declared.slices.strip.Origin.{Origin}
use Rattle.picture.specs.declared.slices.strip.Strip.{Strip}
use Rattle.picture.specs.declared.slices.layout.Component.{Component}
use Rattle.picture.specs.declared.slices.layout.Layout.{Layout}
use Rattle.picture.specs.declared.high.packed.Packing.{Packing}
use Rattle.picture.specs.Code.Strip.{plane_from, number_in, place_numbers, row_numbers, strip_numbers, reach, Small, Within, Inside}
use Rattle.picture.specs.Laws.Strip.{places, row_at, rows, row-chunks, rows-chunks, second_none, chunks-length, chunks_small, place_small, row_small, small_set}
use Rattle.picture.specs.Laws.Tally.{plain_number, place_plain, bits-more, bits_none}
use Rattle.picture.specs.Code.Layout.{band_count, grid_in, band_size, strip_of, run_numbers, RunIn}
use Rattle.picture.specs.Laws.Layout.{band_strip, band_numbers, run-chunks, run_none, run-next, run-turn, run_small, strip_within}
use Rattle.picture.specs.Code.Counts.{count_of}
use Rattle.picture.specs.Laws.HighIndex.{band_many}
use Rattle.picture.specs.Laws.Counts.{run_count}
use Rattle.picture.specs.Laws.Unpacked.{Below, packed-most, below_chunks, place_below, row_below, band_single, run_below}
use Rattle.picture.specs.Code.Packed.{mark, zeros_word, packed, packed_bits, waiting, due, Single, Packable, PackIn, Packs}

-- ---- runs one after the other
pub packed-append : (n : ℕ) (xs ys : List ℤ) → packed n (xs ++ ys) ≡ packed n xs ++ packed (waiting n xs) ys
unfolding packed waiting
packed-append n [] ys = refl
packed-append n (pos zero ∷ xs) ys = packed-append (suc n) xs ys
packed-append n (pos (suc m) ∷ xs) ys =
    ap (λ (r : List ℤ). zeros_word n ++ (pos (suc m) ∷ r)) (packed-append 0 xs ys)
    ∙ sym (append_assoc (zeros_word n) (pos (suc m) ∷ packed 0 xs) (packed (waiting 0 xs) ys))
packed-append n (negsuc m ∷ xs) ys =
    ap (λ (r : List ℤ). zeros_word n ++ (negsuc m ∷ r)) (packed-append 0 xs ys)
    ∙ sym (append_assoc (zeros_word n) (negsuc m ∷ packed 0 xs) (packed (waiting 0 xs) ys))

pub bits-append : (n : ℕ) (xs ys : List ℤ) → packed_bits n (xs ++ ys) ≡ packed_bits n xs + packed_bits (waiting n xs) ys
unfolding packed_bits waiting
bits-append n [] ys = omega arith
bits-append n (pos zero ∷ xs) ys = bits-append (suc n) xs ys
bits-append n (pos (suc m) ∷ xs) ys = omega (arith, bits-append 0 xs ys)
bits-append n (negsuc m ∷ xs) ys = omega (arith, bits-append 0 xs ys)

pub waiting-append : (n : ℕ) (xs ys : List ℤ) → waiting n (xs ++ ys) ≡ waiting (waiting n xs) ys
unfolding waiting
waiting-append n [] ys = refl
waiting-append n (pos zero ∷ xs) ys = waiting-append (suc n) xs ys
waiting-append n (pos (suc m) ∷ xs) ys = waiting-append 0 xs ys
waiting-append n (negsuc m ∷ xs) ys = waiting-append 0 xs ys

-- ---- the word of zeros
pub zeros-none : (w : List ℤ) (at n : ℕ) → n ≡ 0 → Lays w at (zeros_word n) w at
unfolding zeros_word
zeros-none w at n e = rw e (lays_start w at)

pub zeros-some : (w v : List ℤ) (at n : ℕ) → (n ≡ 0 → ⊥) → v ≡ set w at (pos (mark + n)) → Lays w at (zeros_word n) v (at + 1)
unfolding zeros_word laid
zeros-some w v at zero h e = absurd (h refl)
zeros-some w v at (suc n) h e = record { is = e; next = omega arith; size = ap length e ∙ length-set w at (pos (mark + suc n)) }

-- the word of n zeros as the machine adds it up
pub word_is : (n : ℕ) → n ≤ 2 ^ 30 → to_z w64 mark +ℤ to_z w64 n ≡ pos (mark + n)
word_is n h = ap₂ ◌+ℤ◌ (to_z_pos w64 {n = mark} (omega arith)) (to_z_pos w64 {n = n} (omega (arith, h)))

-- ---- how much they take
pub some-due : (n : ℕ) → (n ≡ 0 → ⊥) → length (zeros_word n) ≡ 1
unfolding zeros_word
some-due zero h = absurd (h refl)
some-due (suc n) h = refl

pub waiting-most : (n : ℕ) (xs : List ℤ) → waiting n xs ≤ n + length xs
unfolding waiting
waiting-most n [] = omega arith
waiting-most n (pos zero ∷ xs) = omega (arith, waiting-most (suc n) xs)
waiting-most n (pos (suc m) ∷ xs) = omega (arith, waiting-most 0 xs)
waiting-most n (negsuc m ∷ xs) = omega (arith, waiting-most 0 xs)

-- with a bit for each zero they have the bits of the run
pub packed-bits : (n : ℕ) (xs : List ℤ) → packed_bits n xs + waiting n xs ≡ n + bits_of xs
unfolding packed_bits waiting
packed-bits n [] = omega (arith, bits_none)
packed-bits n (pos zero ∷ xs) = omega (arith, packed-bits (suc n) xs, bits-more (pos zero) xs, length-code_s-zero (pos zero) refl)
packed-bits n (pos (suc m) ∷ xs) = omega (arith, packed-bits 0 xs, bits-more (pos (suc m)) xs)
packed-bits n (negsuc m ∷ xs) = omega (arith, packed-bits 0 xs, bits-more (negsuc m) xs)

-- ---- what has been packed
pub packs_same : {w v : List ℤ} {t r : Packing} {xs ys : List ℤ} → xs ≡ ys → Packs w t xs v r → Packs w t ys v r
packs_same e p = rw e at p

pub packs_none : (w : List ℤ) (t : Packing) → Packs w t [] w t
unfolding packed packed_bits waiting
packs_none w t = record { work = sym (laid_nil w t.at); at = omega arith; zeros = refl; bits = omega arith }

pub packs_zero : (w : List ℤ) (t : Packing) (z : ℤ) → is_zero z ≡ true → Packs w t (z ∷ []) w (record { at = t.at; zeros = t.zeros + 1; bits = t.bits })
unfolding packed packed_bits waiting
packs_zero w t (pos zero) e = record { work = sym (laid_nil w t.at); at = omega arith; zeros = omega arith; bits = omega arith }
packs_zero w t (pos (suc n)) e = no_truth (sym e)
packs_zero w t (negsuc n) e = no_truth (sym e)

pub packs_one : (w v : List ℤ) (t r : Packing) (z : ℤ) → is_zero z ≡ false
    → v ≡ laid w t.at (zeros_word t.zeros ++ (z ∷ [])) → r.at ≡ t.at + length (zeros_word t.zeros) + 1 → r.zeros ≡ 0
    → r.bits ≡ t.bits + t.zeros + length (code_s z) → Packs w t (z ∷ []) v r
unfolding packed packed_bits waiting
packs_one w v t r (pos zero) e f a z b = no_truth e
packs_one w v t r (pos (suc n)) e f a z b = record {
  work = f;
  at = omega (arith, a, length-append (zeros_word t.zeros) (pos (suc n) ∷ []));
  zeros = z;
  bits = omega (arith, b);
}
packs_one w v t r (negsuc n) e f a z b = record {
  work = f;
  at = omega (arith, a, length-append (zeros_word t.zeros) (negsuc n ∷ []));
  zeros = z;
  bits = omega (arith, b);
}

pub packs_then : {w v u : List ℤ} {t r q : Packing} {xs ys : List ℤ} → Packs w t xs v r → Packs v r ys u q → Packs w t (xs ++ ys) u q
packs_then {w} {v} {u} {t} {r} {q} {xs} {ys} a b =
    let n : ℕ = waiting t.zeros xs in
    let c = packed-append t.zeros xs ys in
    let d : length (packed r.zeros ys) ≡ length (packed n ys) = ap (λ (n : ℕ). length (packed n ys)) a.zeros in
    record {
      work =
          b.work
          ∙ ap₂ (λ (v : List ℤ) (n : ℕ). laid v r.at (packed n ys)) a.work a.zeros
          ∙ laid_then w t.at r.at (packed t.zeros xs) (packed n ys) a.at
          ∙ ap (laid w t.at) (sym c);
      at = omega (arith, b.at, a.at, d, ap length c, length-append (packed t.zeros xs) (packed n ys));
      zeros = b.zeros ∙ ap (λ (n : ℕ). waiting n ys) a.zeros ∙ sym (waiting-append t.zeros xs ys);
      bits = omega (arith, b.bits, a.bits, ap (λ (n : ℕ). packed_bits n ys) a.zeros, bits-append t.zeros xs ys);
    }

-- part after part
module _ (F : ℕ → List ℤ) where
  pub packs_start : (w : List ℤ) (t : Packing) (x : ℕ) → Packs w t (chunks F (x - x)) w t
  unfolding chunks
  packs_start w t x = let e : x - x ≡ 0 = omega arith in rw e (packs_none w t)

  pub packs_turn : {w v u : List ℤ} {t r q : Packing} (from x : ℕ) → from ≤ x → Packs w t (chunks F (x - from)) v r → Packs v r (F (x - from)) u q
      → Packs w t (chunks F (x + 1 - from)) u q
  unfolding chunks
  packs_turn from x h a b = let e : x + 1 - from ≡ suc (x - from) = omega arith in rw e (packs_then a b)

-- ---- what stands from a place on
pub laid-behind : (w : List ℤ) (i : ℕ) (vs : List ℤ) (k : ℕ) → i + length vs ≤ k → at (laid w i vs) k ≡ at w k
unfolding laid
laid-behind w i [] k h = refl
laid-behind w i (v ∷ vs) k h = laid-behind (set w i v) (suc i) vs k (omega arith) ∙ get_or-set_other w i k v (pos 0) (λ e. omega arith)

module _ {a k : ℕ} {w v : List ℤ} {t r : Packing} {xs : List ℤ} (h : Packable a t k) (p : Packs w t xs v r) where
  -- there is room for m numbers behind xs
  pub packable_after : (m : ℕ) → trim.Small xs → length xs + m ≤ k → Packable a r m
  packable_after m s l =
      let d : due r.zeros ≡ due (waiting t.zeros xs) = ap due p.zeros in
      record {
        room = omega (arith, h.room, packed-most t.zeros xs, p.at, d);
        zeros = omega (arith, h.zeros, waiting-most t.zeros xs, p.zeros);
        bits = omega (arith, h.bits, packed-bits t.zeros xs, bits_most xs s, p.bits, p.zeros);
      }

  pub packs_before : length xs ≤ k → r.at ≤ a
  packs_before l = omega (arith, h.room, packed-most t.zeros xs, p.at)

  pub packs_behind : length xs ≤ k → (i : ℕ) → a ≤ i → at v i ≡ at w i
  packs_behind l i b =
      ap (λ (v : List ℤ). at v i) p.work ∙ laid-behind w t.at (packed t.zeros xs) i (omega (arith, packs_before l, p.at))

-- ---- words are small
abbrev Near : List ℤ → Type 0
Near [] = Unit {0}
Near (x ∷ xs) = (nat_abs x ≤ reach) × Near xs

laid_small : {a n : ℕ} {w : List ℤ} (i : ℕ) (vs : List ℤ) → Small a n w → Near vs → i + length vs ≤ a → Small a n (laid w i vs)
unfolding laid
laid_small i [] m b h = m
laid_small i (v ∷ vs) m b h = laid_small (suc i) vs (small_set i v m (omega arith) b.0) b.1 (omega arith)

word_near : (n : ℕ) (z : ℤ) (zs : List ℤ) → n ≤ 2 ^ 30 → nat_abs z ≤ reach → Near zs → Near (zeros_word n ++ (z ∷ zs))
unfolding zeros_word
word_near zero z zs h b r = (b, r)
word_near (suc n) z zs h b r = (omega arith, (b, r))

packed_near : (n : ℕ) (xs : List ℤ) → n + length xs ≤ 2 ^ 30 → Below xs → Near (packed n xs)
unfolding packed Below
packed_near n [] h b = tt
packed_near n (pos zero ∷ xs) h b = packed_near (suc n) xs (omega arith) b.1
packed_near n (pos (suc m) ∷ xs) h b = word_near n (pos (suc m)) (packed 0 xs) (omega arith) (omega (arith, b.0)) (packed_near 0 xs (omega arith) b.1)
packed_near n (negsuc m ∷ xs) h b = word_near n (negsuc m) (packed 0 xs) (omega arith) (omega (arith, b.0)) (packed_near 0 xs (omega arith) b.1)

-- packing leaves the work slice small
pub packs_small : {a n k : ℕ} {w v : List ℤ} {t r : Packing} {xs : List ℤ} → Below xs → length xs ≤ k → Packable a t k → Small a n w → Packs w t xs v r → Small a n v
packs_small {t = t} {xs = xs} b l h m p =
    rw p.work (laid_small t.at (packed t.zeros xs) m (packed_near t.zeros xs (omega (arith, h.zeros)) b) (omega (arith, packs_before h p l, p.at)))

-- ---- numbers of lists that agree from a to n
-- a strip that is not predicted and whose coefficients lie there
pub record Between (a n : ℕ) (s : Strip) : Type 0 where
  pub wide : s.right ≤ s.width
  pub high : s.bottom ≤ s.height
  pub behind : a ≤ s.coefs
  pub behind2 : (o : Origin) → s.second ≡ Some o → a ≤ o.coefs
  pub coefs : s.coefs + s.height * s.width ≤ n
  pub coefs2 : (o : Origin) → s.second ≡ Some o → o.coefs + s.height * s.width ≤ n
  pub plain : s.predicted ≡ false

pub between : {a n : ℕ} {s : Strip} → Within a n s → s.predicted ≡ false → Between a n s
between h e = record { wide = h.wide; high = h.high; behind = h.behind; behind2 = h.behind2; coefs = h.coefs; coefs2 = h.coefs2; plain = e }

module _ (a n : ℕ) (w v : List ℤ) (same : (i : ℕ) → a ≤ i → i < n → at v i ≡ at w i) where
  number_alike : (s : Strip) (coefs base y x : ℕ) → a ≤ coefs → coefs + s.height * s.width ≤ n → s.predicted ≡ false → y < s.height → x < s.width
      → number_in v s coefs base y x ≡ number_in w s coefs base y x
  number_alike s coefs base y x b h e hy hx =
      let i : ℕ = coefs + (y * s.width + x) in
      sym (plain_number v s coefs base y x e)
      ∙ ap (forward_by s.factor) (same i (omega arith) (omega (arith, digits_lt {q = y} {m = s.height} {r = x} {c = s.width} hy hx)))
      ∙ plain_number w s coefs base y x e

  pub place_alike : (s : Strip) (y x : ℕ) → Between a n s → y < s.height → x < s.width → place_numbers v s y x ≡ place_numbers w s y x
  unfolding place_numbers
  place_alike s y x b hy hx =
      ap₂ (λ (z : ℤ) (r : List ℤ). z ∷ r)
      (number_alike s s.coefs s.rebuilt y x b.behind b.coefs b.plain hy hx)
      (by s.second refl)
    where
      of : (w : List ℤ) → Option Origin → List ℤ
      of w t = elim t [ Some o ↦ number_in w s o.coefs o.rebuilt y x ∷ [] | None ↦ [] ]

      by : (t : Option Origin) → s.second ≡ t → of v t ≡ of w t
      by (Some o) e = ap (λ (z : ℤ). z ∷ []) (number_alike s o.coefs o.rebuilt y x (b.behind2 o e) (b.coefs2 o e) b.plain hy hx)
      by None e = refl

  pub row_alike : (s : Strip) (y : ℕ) → Between a n s → y < s.height
      → row_numbers v s y s.left (s.right - s.left) ≡ row_numbers w s y s.left (s.right - s.left)
  row_alike s y b hy =
      let m : ℕ = s.right - s.left in
      row-chunks v s y s.left m
      ∙ chunks_ext (places v s y s.left) (places w s y s.left) m (λ k l. place_alike s y (s.left + k) b hy (omega (arith, b.wide)))
      ∙ sym (row-chunks w s y s.left m)

  pub strip_alike : (s : Strip) → Between a n s → strip_numbers v s ≡ strip_numbers w s
  strip_alike s b =
      let m : ℕ = s.bottom - s.top in
      rows-chunks v s s.top m
      ∙ chunks_ext (rows v s s.top) (rows w s s.top) m (λ k l. row_alike s (s.top + k) b (omega (arith, b.high)))
      ∙ sym (rows-chunks w s s.top m)

  pub run_alike : (l : Layout) (c second : Component) (pair : Bool) (k q i : ℕ) (u : List ℤ) → RunIn l c second a n k i u → l.predicted ≡ false
      → run_numbers v l c second pair k q (band_count l) ≡ run_numbers w l c second pair k q (band_count l)
  unfolding strip_of
  run_alike l c second pair k q i u h e =
      run-chunks v l c second pair k q (band_count l)
      ∙ chunks_ext (band_numbers v l c second pair k q) (band_numbers w l c second pair k q) (band_count l) (λ m o. strip_alike (band_strip l c second pair k q m) (lies m o))
      ∙ sym (run-chunks w l c second pair k q (band_count l))
    where
      -- at index q, which h does not speak of
      lies : (m : ℕ) → m < band_count l → Between a n (band_strip l c second pair k q m)
      lies m o =
          let j = strip_within h pair m o in
          record {
            wide = j.wide;
            high = j.high;
            behind = j.behind;
            behind2 = j.behind2;
            coefs = j.coefs;
            coefs2 = j.coefs2;
            plain = ap (λ (b : Bool). b && eqb m 0) e;
          }

-- ---- a place
-- a number by the bits that the machine tests
pub zero_bits_lem : (z : ℤ) → SFits w64 z → of_z w64 z ≡ 0 → is_zero z ≡ true
zero_bits_lem z f e = ap is_zero (sym (to_z-of_z {w = w64} {z = z} f) ∙ ap (to_z w64) e)

module _ {a n : ℕ} {w : List ℤ} {s : Strip} (h : Single a n w s) (y x : ℕ) where
  -- the one number of a place
  abbrev pub number_of : ℤ
  number_of = forward_by s.factor (plane_from w s.coefs s.width y x)

  pub place_single : place_numbers w s y x ≡ number_of ∷ []
  place_single = place_plain w s y x h.plain.plain ∙ ap (λ (r : List ℤ). number_of ∷ r) (second_none w s y x h.single)

  pub place_is : (z : ℤ) → z ≡ number_of → z ∷ [] ≡ place_numbers w s y x
  place_is z e = ap (λ (z : ℤ). z ∷ []) e ∙ sym place_single

-- ---- rows and strips
module _ {a n : ℕ} {w : List ℤ} {s : Strip} (h : Single a n w s) where
  -- the strip in another list
  single_in : {v : List ℤ} → Small a n v → Single a n v s
  single_in m = record { plain = record { small = m; within = h.plain.within; plain = h.plain.plain }; single = h.single }

  lies : Between a n s
  lies = between h.plain.within h.plain.plain

  -- how many numbers places, rows and a strip have at most
  places-most : (y x k : ℕ) → length (chunks (places w s y x) k) ≤ k
  places-most y x k = omega (arith, chunks-length (places w s y x) 1 k (λ j. omega (arith, ap length (place_single h y (x + j)))))

  rows-most : (y k : ℕ) → length (chunks (rows w s y) k) ≤ k * (s.right - s.left)
  rows-most y k =
      let m : ℕ = s.right - s.left in
      chunks-length (rows w s y) m k (λ j. omega (arith, ap length (row-chunks w s (y + j) s.left m), places-most (y + j) s.left m))

  module _ {t : Packing} where
    -- the next place of a row
    module _ {v : List ℤ} {r : Packing} (y x : ℕ) (i : Inside s y x) (p : Packable a t (s.right - s.left)) (b : Packs w t (chunks (places w s y s.left) (x - s.left)) v r) where
      pub row_ready : PackIn v s r 1
      row_ready =
          let k : ℕ = x - s.left in
          let F = places w s y s.left in
          let l : length (chunks F k) + 1 ≤ s.right - s.left = omega (arith, places-most y s.left k, i.right_of, i.left-of) in
          let d = below_chunks F k (λ j o. place_below h y (s.left + j) (record { below = i.below; above = i.above; right_of = omega arith; left-of = omega (arith, i.left-of) })) in
          record {
            front = a;
            end = n;
            holds = (single_in (packs_small d (omega arith) p h.plain.small b), packable_after p b 1 (chunks_small F k (λ j. place_small w s y (s.left + j))) l);
          }

      pub row-turn : {u : List ℤ} {q : Packing} → Packs v r (place_numbers v s y x) u q → Packs w t (chunks (places w s y s.left) (x + 1 - s.left)) u q
      row-turn d =
          let k : ℕ = x - s.left in
          let e : x ≡ s.left + k = omega (arith, i.right_of) in
          let m = packs_behind p b (omega (arith, places-most y s.left k, i.right_of, i.left-of)) in
          packs_turn (places w s y s.left) s.left x i.right_of b
          (packs_same
          (place_alike a n w v (λ j l o. m j l) s y x lies (omega (arith, i.above, lies.high)) (omega (arith, i.left-of, lies.wide)) ∙ ap (place_numbers w s y) e)
          d)

    -- the next row of a strip
    module _ {v : List ℤ} {r : Packing} (y : ℕ) (top : s.top ≤ y) (bottom : y < s.bottom) (p : Packable a t ((s.bottom - s.top) * (s.right - s.left)))
        (b : Packs w t (chunks (rows w s s.top) (y - s.top)) v r) where
      strip_room : length (chunks (rows w s s.top) (y - s.top)) + (s.right - s.left) ≤ (s.bottom - s.top) * (s.right - s.left)
      strip_room =
          let k : ℕ = y - s.top in
          let m : ℕ = s.right - s.left in
          let l : suc k ≤ s.bottom - s.top = omega arith in
          omega (arith, rows-most s.top k, mul-le-mul_right m l, suc-mul k m)

      pub strip_ready : PackIn v s r (s.right - s.left)
      strip_ready =
          let k : ℕ = y - s.top in
          let F = rows w s s.top in
          let d = below_chunks F k (λ j o. row_below h (s.top + j) (omega arith) (omega arith)) in
          record {
            front = a;
            end = n;
            holds = (
              single_in (packs_small d (omega (arith, strip_room)) p h.plain.small b),
              packable_after p b (s.right - s.left) (chunks_small F k (λ j. row_small w s (s.top + j) s.left (s.right - s.left))) strip_room,
            );
          }

      pub strip_turn : {u : List ℤ} {q : Packing} → Packs v r (row_numbers v s y s.left (s.right - s.left)) u q
          → Packs w t (chunks (rows w s s.top) (y + 1 - s.top)) u q
      strip_turn d =
          let k : ℕ = y - s.top in
          let e : y ≡ s.top + k = omega (arith, top) in
          let m = packs_behind p b (omega (arith, strip_room)) in
          packs_turn (rows w s s.top) s.top y top b
          (packs_same (row_alike a n w v (λ j l o. m j l) s y lies (omega (arith, bottom, lies.high)) ∙ ap (row_at w s) e) d)

-- ---- runs
-- a run begins at place i
abbrev pub packing_at : ℕ → Packing
packing_at i = record { at = i; zeros = 0; bits = 0 }

-- a run that ends before a can be packed
pub run_packable : {a e : ℕ} {w : List ℤ} (at k : ℕ) → Small a e w → at + k ≤ a → Packable a (packing_at at) k
run_packable {a} at k m h =
    let f : a < 2 ^ 30 = omega (arith, m.order, m.few) in
    record { room = omega (arith, h); zeros = omega (arith, h, f); bits = omega (arith, h, f) }

module _ (w : List ℤ) (l : Layout) (c : Component) (k q : ℕ) where
  run_rises : (m n : ℕ) → length (run_numbers w l c c false k q n) ≤ length (run_numbers w l c c false k q (m + n))
  run_rises zero n = let e : 0 + n ≡ n = omega arith in omega (arith, ap (λ (n : ℕ). length (run_numbers w l c c false k q n)) e)
  run_rises (suc m) n =
      let e : suc m + n ≡ suc (m + n) = omega arith in
      omega (arith, run_rises m n, ap (λ (n : ℕ). length (run_numbers w l c c false k q n)) e, ap length (run-next w l c c false k q (m + n)), length-append (run_numbers w l c c false k q (m + n)) (band_numbers w l c c false k q (m + n)))

  band_room : (n : ℕ) → n < band_count l → length (run_numbers w l c c false k q n) + part_size (grid_in l) (band_size l c n) k ≤ count_of l c k
  band_room n b =
      let m : ℕ = band_count l - suc n in
      let e : m + suc n ≡ band_count l = omega arith in
      omega (arith, run_rises m (suc n), ap (λ (n : ℕ). length (run_numbers w l c c false k q n)) e, ap length (run-next w l c c false k q n), length-append (run_numbers w l c c false k q n) (band_numbers w l c c false k q n), band_many w l c k q n, run_count w l c k q)

  pub packs_run-none : (t : Packing) → Packs w t (run_numbers w l c c false k q 0) w t
  packs_run-none t = packs_same (sym (run_none w l c c false k q)) (packs_none w t)

  module _ {a e : ℕ} (h : RunIn l c c a e k q w) (plain : l.predicted ≡ false) where
    module _ {t r : Packing} {v : List ℤ} (s : Strip) (n : ℕ) (b : n < band_count l) (d : s ≡ band_strip l c c false k q n) (p : Packable a t (count_of l c k))
        (f : Packs w t (run_numbers w l c c false k q n) v r) where
      -- what the next band asks
      pub band_ready : PackIn v s r ((s.bottom - s.top) * (s.right - s.left))
      unfolding strip_of
      band_ready =
          let m = packs_small (run_below l c a e k q w h plain n (omega (arith, b))) (omega (arith, band_room n b)) p h.small f in
          rw d (record {
            front = a;
            end = e;
            holds = (band_single h plain n b m, packable_after p f _ (run_small w l c c false k q n) (band_room n b));
          })

      pub band-turn : {u : List ℤ} {g : Packing} → Packs v r (strip_numbers v s) u g → Packs w t (run_numbers w l c c false k q (n + 1)) u g
      band-turn x =
          let i = band_single h plain n b h.small in
          let m = packs_behind p f (omega (arith, band_room n b)) in
          packs_same (run-turn w l c c false k q n)
          (packs_then f (packs_same (ap (strip_numbers v) d ∙ strip_alike a e w v (λ j o z. m j o) (band_strip l c c false k q n) (between i.plain.within i.plain.plain)) x))

-- ---- further laws
-- where k numbers can be packed, fewer can
pub packable_less : {a b k m : ℕ} {t : Packing} → a ≤ b → m ≤ k → Packable a t k → Packable b t m
packable_less h l p = record { room = omega (arith, p.room); zeros = omega (arith, p.zeros); bits = omega (arith, p.bits) }

pub packs_length : {w v : List ℤ} {t r : Packing} {xs : List ℤ} → Packs w t xs v r → length v ≡ length w
packs_length {w} {v} {t} {r} {xs} p = ap length p.work ∙ length-laid w t.at (packed t.zeros xs)

-- a number whose bits are not 0
pub some_bits : (z : ℤ) → (of_z w64 z ≡ 0 → ⊥) → is_zero z ≡ false
some_bits (pos zero) h = absurd (h refl)
some_bits (pos (suc n)) h = refl
some_bits (negsuc n) h = refl
