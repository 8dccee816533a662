-- High quality: what is read of a slice, a slice's size, the scaler that the needs end at, and the shares of a target.
use Rattle.std.specs.Prelude.{◌≡◌, Bool, List, ◌∷◌, ◌++◌, map, leb, ℤ, length}
use Rattle.std.proofs.Math.Path.{refl, ap, subst}
use Rattle.std.proofs.Common.{◌∙◌, div-lt_iff_lt-mul, mul_comm, mod-lt}
use Rattle.std.proofs.Math.Bool.{true, false, cond}
use Prim.Native.Nat.{ℕ, zero, suc, ◌+◌, ◌*◌, ◌-◌, ◌/◌, ◌%◌, ◌≤◌, ◌<◌, min}
use native.Mathlib.Omega.{arith}
use Rattle.std.proofs.Math.Nat.{lt-div-mul-add, suc-mul, zero-mul, div-add-mod}
use borrow.Author.Tests.{leb-true, leb-false, ltb-true, ltb-false}
use Rattle.std.proofs.Math.Dec.{ltb}
use Rattle.std.proofs.Math.ListN.{length-append, length-replicate}
use Rattle.laws.specs.Ceiling.{ceiling}
use Rattle.laws.specs.Rows.{span, total}
use Rattle.laws.specs.Laws.Rows.{length-span, map-span, span_ext}
use Rattle.codewords.specs.Bit.{Bits, lit, one_bits, zero_bits}
use Rattle.codewords.specs.Laws.Bit.{length-lit}
use Rattle.codewords.specs.CodeWord.{codes}
use Rattle.codewords.specs.Read.{sintsb}
use Rattle.codewords.specs.Laws.Read.{Reads, reads_give, reads_then, reads_last, reads_nbits, reads_bits, block-codes}
use Rattle.codewords.specs.Laws.Byte.{Full, full_length}
use Rattle.wavelet.specs.Planes.{Band}
use Rattle.unit.specs.declared.PictureKind.TheVariants.{HighQuality}
use Rattle.unit.specs.declared.RateControl.{RateControl}
use Rattle.unit.specs.declared.RateControl.TheVariants.{Lossless, FixedQuantIndex, PictureBytes}
use Rattle.unit.specs.Limits.{last_index, lowest_index}
use Rattle.unit.specs.Three.{Three, map3}
use Rattle.unit.specs.Slices.{Grid, slice_count}
use Rattle.unit.specs.Trim.{trimmed, trimmed_cost}
use Rattle.unit.specs.Plan.{SlicePlan}
use Rattle.unit.specs.Quantised.{size_of, numbers_hq}
use Rattle.unit.specs.HighQuality.{need_of, scalers_of, component_bits, high_bits, slice_size, share_of, fits_by, index_by, high_numbers, high_index, high_plan, high_slices, largest_need, scaler_from}
use Rattle.unit.specs.Reader.{read_component, read_high}
use Rattle.unit.specs.Demand.{bytes_of}
use Rattle.unit.specs.Code.Valid.{RateFits}
use Rattle.unit.proofs.Laws.Elect.{elected}
use Rattle.unit.proofs.Laws.Subband.{areas}
use Rattle.unit.proofs.Laws.Trim.{cost-most, filled-trimmed}
use Rattle.unit.proofs.Laws.Slice.{count_most, counted_from}

-- ---- whole scalers
module _ (n m : ℕ) (some : 1 ≤ m) where
  ceiling_holds : n ≤ ceiling n m * m
  ceiling_holds = let a : ℕ = n + (m - 1) in omega (arith, lt-div-mul-add {a = a} {b = m} some)

  ceiling-most : (k : ℕ) → n ≤ k * m → ceiling n m < suc k
  ceiling-most k h = (div-lt_iff_lt-mul some).1 (omega (arith, suc-mul k m))

-- a component behind its length
unfoldable block : ℕ → List ℤ → Bits
block c xs = codes (trimmed xs) ++ one_bits (8 * (scalers_of c xs * c) - trimmed_cost xs)

module _ (c : ℕ) (xs : List ℤ) (some : 1 ≤ c) where
  -- the scalers hold the numbers
  pub cost_held : trimmed_cost xs ≤ 8 * (scalers_of c xs * c)
  cost_held = omega (arith, ceiling_holds (need_of xs) c some)

  -- a need of at most 255 scalers is said by a byte
  pub scalers_few : need_of xs ≤ 255 * c → scalers_of c xs < 256
  scalers_few h = ceiling-most (need_of xs) c some 255 h

  length-block : length (block c xs) ≡ 8 * (scalers_of c xs * c)
  unfolding block trimmed_cost
  length-block =
      let r : ℕ = 8 * (scalers_of c xs * c) - trimmed_cost xs in
      length-append (codes (trimmed xs)) (one_bits r) ∙ rw (length-replicate r true) (omega (arith, cost_held))

  pub length_component : length (component_bits c xs) ≡ 8 + 8 * (scalers_of c xs * c)
  unfolding component_bits block
  length_component = length-append (lit 8 (scalers_of c xs)) (block c xs) ∙ rw (length-lit 8 (scalers_of c xs), length-block)

  pub reads_component : scalers_of c xs < 256 → Reads (read_component c (length xs)) (component_bits c xs) xs
  unfolding read_component component_bits block
  reads_component h =
      let e : sintsb (length xs) (block c xs) ≡ xs =
      block-codes (length xs) (trimmed xs) (8 * (scalers_of c xs * c) - trimmed_cost xs) ∙ filled-trimmed xs in
      subst (Reads (read_component c (length xs)) (component_bits c xs)) e
      (reads_then _ (reads_nbits 8 (scalers_of c xs) h) (reads_last _ (reads_bits _ (block c xs) length-block) (reads_give _)))

-- ---- slices
-- every component's need is at most n bytes
pub record Needs (n : ℕ) (z : Three (List ℤ)) : Type 0 where
  pub y : need_of z.y ≤ n
  pub c1 : need_of z.c1 ≤ n
  pub c2 : need_of z.c2 ≤ n

-- p prefix bytes, scaler c, index q and numbers z
module _ (p c q : ℕ) (z : Three (List ℤ)) (some : 1 ≤ c) where
  pub length_high : length (high_bits p c q z) ≡ 8 * slice_size p c z
  unfolding high_bits slice_size
  length_high =
      simp (length-append, length-lit, length-replicate, length_component c z.y some, length_component c z.c1 some, length_component c z.c2 some)
      (omega arith)

  pub full_high : Full (high_bits p c q z)
  full_high = full_length (high_bits p c q z) (slice_size p c z) (length_high ∙ mul_comm 8 (slice_size p c z))

  pub reads_high : q < 256 → Needs (255 * c) z → Reads (read_high p c (map3 length z)) (high_bits p c q z) (record { index = q; numbers = z })
  unfolding read_high high_bits
  reads_high h f =
      reads_then _ (reads_bits (8 * p) (zero_bits (8 * p)) (length-replicate (8 * p) false)) (reads_then _ (reads_nbits 8 q h)
      (reads_then _ (reads_component c z.y some (scalers_few c z.y some f.y))
      (reads_then _ (reads_component c z.c1 some (scalers_few c z.c1 some f.c1))
      (reads_last _ (reads_component c z.c2 some (scalers_few c z.c2 some f.c2)) (reads_give _)))))

-- ---- the largest need
pub needs_split : (s : SlicePlan) (ss : List SlicePlan) (n : ℕ) → largest_need (s ∷ ss) ≤ n → Needs n s.numbers × (largest_need ss ≤ n)
unfolding largest_need
needs_split s ss n h = (record { y = omega arith; c1 = omega arith; c2 = omega arith }, omega arith)

needs_span : (f : ℕ → SlicePlan) (i j n : ℕ) → ((k : ℕ) → Needs n (f k).numbers) → largest_need (span f i j) ≤ n
unfolding largest_need
needs_span f i zero n h = omega arith
needs_span f i (suc j) n h =
    let a = h i in
    omega (arith, a.y, a.c1, a.c2, needs_span f (suc i) j n h)

-- the subbands of each component have at most n numbers
pub record Within (n : ℕ) (b : Three (List Band)) : Type 0 where
  pub y : areas (map size_of b.y) ≤ n
  pub c1 : areas (map size_of b.c1) ≤ n
  pub c2 : areas (map size_of b.c2) ≤ n

-- a number takes at most 16 bytes
module _ (g : Grid) (m : List ℕ) where
  need-most : (bs : List Band) (q k n : ℕ) → areas (map size_of bs) ≤ n → need_of (numbers_hq g m bs q k) ≤ 16 * n
  need-most bs q k n h =
      let c = counted_from g m 0 bs q k in
      omega (arith, cost-most (numbers_hq g m bs q k) c.small, c.many, count_most g (map size_of bs) k)

  pub needs_most : (b : Three (List Band)) (p : ℕ) (r : RateControl) (c n most : ℕ) → Within most b → largest_need (high_slices g m b p r c n) ≤ 16 * most
  unfolding high_plan high_numbers
  needs_most b p r c n most w =
      needs_span _ 0 (slice_count g) (16 * most)
      (λ k. record { y = need-most b.y _ k most w.y; c1 = need-most b.c1 _ k most w.c1; c2 = need-most b.c2 _ k most w.c2 })

-- ---- the scaler
-- the scaler rises with each turn
pub next_rises : (n c : ℕ) → 255 * c < n → c < ceiling n 255
next_rises n c h = omega arith

-- slices gives the slices by their scaler
module _ (slices : ℕ → List SlicePlan) where
  pub scaler_rises : (f c : ℕ) → c ≤ scaler_from slices f c
  unfolding scaler_from
  scaler_rises zero c = omega arith
  scaler_rises (suc f) c = by (leb (largest_need (slices c)) (255 * c)) refl (scaler_rises f (ceiling (largest_need (slices c)) 255))
    where
      next : ℕ
      next = ceiling (largest_need (slices c)) 255

      by : (b : Bool) → leb (largest_need (slices c)) (255 * c) ≡ b → next ≤ scaler_from slices f next
          → let r : ℕ = elim b [ true ↦ c | false ↦ scaler_from slices f next ] in c ≤ r
      by true e h = omega arith
      by false e h = omega (arith, next_rises (largest_need (slices c)) c (leb-false (largest_need (slices c)) (255 * c) e))

  -- where needs are at most so many bytes, and there are enough turns, every need is at most 255 scalers in the end
  pub scaler_ends : (most : ℕ) → ((c : ℕ) → largest_need (slices c) ≤ most) → (f c : ℕ) → most ≤ 255 * (c + f)
      → largest_need (slices (scaler_from slices f c)) ≤ 255 * scaler_from slices f c
  unfolding scaler_from
  scaler_ends most bounded zero c h = omega (arith, bounded c)
  scaler_ends most bounded (suc f) c h =
      by (leb (largest_need (slices c)) (255 * c)) refl
      (λ l. scaler_ends most bounded f (ceiling (largest_need (slices c)) 255) (omega (arith, next_rises (largest_need (slices c)) c l)))
    where
      next : ℕ
      next = ceiling (largest_need (slices c)) 255

      by : (b : Bool) → leb (largest_need (slices c)) (255 * c) ≡ b
          → (255 * c < largest_need (slices c) → largest_need (slices (scaler_from slices f next)) ≤ 255 * scaler_from slices f next)
          → let r : ℕ = elim b [ true ↦ c | false ↦ scaler_from slices f next ] in largest_need (slices r) ≤ 255 * r
      by true e t = leb-true (largest_need (slices c)) (255 * c) e
      by false e t = t (leb-false (largest_need (slices c)) (255 * c) e)

-- ---- shares
module _ (n d : ℕ) where
  -- an earlier share is not smaller, and larger by at most one byte
  pub share_falls : (i j : ℕ) → i ≤ j → (share_of n d j ≤ share_of n d i) × (share_of n d i ≤ suc (share_of n d j))
  unfolding share_of
  share_falls i j h = by (ltb i (n % d)) (ltb j (n % d)) refl refl
    where
      by : (a b : Bool) → ltb i (n % d) ≡ a → ltb j (n % d) ≡ b
          → (n / d + cond b 1 0 ≤ n / d + cond a 1 0) × (n / d + cond a 1 0 ≤ suc (n / d + cond b 1 0))
      by true true e f = (omega arith, omega arith)
      by true false e f = (omega arith, omega arith)
      by false true e f = absurd (omega (arith, ltb-false i (n % d) e, ltb-true j (n % d) f))
      by false false e f = (omega arith, omega arith)

  -- the shares of j slices from slice k on
  shares_sum : (k j : ℕ) → total (span (share_of n d) k j) + min k (n % d) ≡ j * (n / d) + min (k + j) (n % d)
  unfolding share_of
  shares_sum k zero = let e : k + 0 ≡ k = omega arith in rw (e, zero-mul (n / d)) (omega arith)
  shares_sum k (suc j) = by (ltb k (n % d)) refl (shares_sum (suc k) j)
    where
      by : (a : Bool) → ltb k (n % d) ≡ a → total (span (share_of n d) (suc k) j) + min (suc k) (n % d) ≡ j * (n / d) + min (suc k + j) (n % d)
          → n / d + cond a 1 0 + total (span (share_of n d) (suc k) j) + min k (n % d) ≡ suc j * (n / d) + min (k + suc j) (n % d)
      by true e h = omega (arith, suc-mul j (n / d), ltb-true k (n % d) e)
      by false e h = omega (arith, suc-mul j (n / d), ltb-false k (n % d) e)

  pub shares_all : 1 ≤ d → total (span (share_of n d) 0 d) ≡ n
  shares_all h = omega (arith, shares_sum 0 d, mod-lt n h, div-add-mod n d)

sum-most : (f g : ℕ → ℕ) (i n : ℕ) → ((k : ℕ) → i ≤ k → k < i + n → f k ≤ g k) → total (span f i n) ≤ total (span g i n)
sum-most f g i zero h = omega arith
sum-most f g i (suc n) h = omega (arith, h i (omega arith) (omega arith), sum-most f g (suc i) n (λ k a b. h k (omega arith) (omega arith)))

-- slices that fit their shares take no more than n bytes
pub shares_kept : (f : ℕ → ℕ) (n d : ℕ) → 1 ≤ d → ((k : ℕ) → k < d → f k ≤ share_of n d k) → total (span f 0 d) ≤ n
shares_kept f n d h e = omega (arith, sum-most f (share_of n d) 0 d (λ k a b. e k (omega arith)), shares_all n d h)

-- ---- slices as planned
module _ (g : Grid) (m : List ℕ) (b : Three (List Band)) (p : ℕ) (r : RateControl) (c n : ℕ) where
  -- what slice k takes
  abbrev pub takes : ℕ → ℕ
  takes k = slice_size p c (high_numbers g m b p k (high_index g m b p r c n k))

  pub high_many : length (high_slices g m b p r c n) ≡ slice_count g
  high_many = length-span _ 0 (slice_count g)

  -- each slice takes its size
  pub high_bytes_lem : 1 ≤ c → map bytes_of (high_slices g m b p r c n) ≡ span takes 0 (slice_count g)
  unfolding high_plan
  high_bytes_lem h =
      map-span bytes_of _ 0 (slice_count g)
      ∙ span_ext _ takes 0 (slice_count g)
      (λ k a e. ap (λ (x : ℕ). x / 8) (length_high p c (high_index g m b p r c n k) (high_numbers g m b p k (high_index g m b p r c n k)) h) ∙ omega arith)

-- a slice's index is a byte
pub high-index : (g : Grid) (m : List ℕ) (b : Three (List Band)) (p : ℕ) (r : RateControl) → RateFits HighQuality r
    → (c n k : ℕ) → high_index g m b p r c n k < 256
unfolding high_index index_by
high-index g m b p Lossless f c n k = omega arith
high-index g m b p (FixedQuantIndex q) f c n k = omega arith
high-index g m b p (PictureBytes t) f c n k = omega (arith, (elected (fits_by p c (share_of n (slice_count g) k) (high_numbers g m b p k)) lowest_index (last_index HighQuality) (omega arith)).high)
