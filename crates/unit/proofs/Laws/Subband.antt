-- The bands of the analysis have the standard's sizes, and together no more numbers than the padded component.
use Rattle.std.specs.Prelude.{◌≡◌, refl, cond, List, [], ◌∷◌, ◌++◌, map, ℕ, zero, suc, ◌+◌, ◌*◌, ◌-◌, ◌/◌, ◌≤◌, ◌<◌, eqb, leb, ℤ}
use Rattle.std.proofs.Common.{sym, ap, ap₂, ◌∙◌, append_assoc, append-nil, arith, mul-le-mul, mul-le-mul_right, mul_right_comm, ne_eqb, le-leb}
use Rattle.std.proofs.lemmas.List.{map-append}
use Rattle.std.proofs.Math.Nat.{div-one, mul-mul-mul_comm}
use Rattle.std.proofs.lemmas.Bool.{lt-leb}
use Rattle.laws.specs.Rows.{total, span}
use Rattle.laws.specs.Laws.Rows.{span_ext, span-suc}
use Rattle.laws.specs.Plane.{Plane}
use Rattle.codewords.specs.Laws.Bit.{half_power}
use Rattle.wavelet.specs.Lifting.{exact}
use Rattle.wavelet.specs.Planes.{dwt_h, dwt, h_pass, vh_pass, part_h, part}
use Rattle.unit.specs.declared.Settings.{Settings}
use Rattle.unit.specs.Sizes.{Size, area}
use Rattle.unit.specs.Subbands.{padded_size, level_size, subband_size, triples, subband_sizes}
use Rattle.unit.specs.Coefficients.{bands_of}
use Rattle.unit.specs.Quantised.{size_of}

-- ---- triples
triples_ext : {A : Type 0} (f g : ℕ → A) (n m : ℕ) → ((k : ℕ) → n ≤ k → k < n + m → f k ≡ g k) → triples f n m ≡ triples g n m
triples_ext f g n zero e = refl
triples_ext {A} f g n (suc m) e =
    ap₂ (λ (x : A) (r : List A). x ∷ x ∷ x ∷ r) (e n (omega arith) (omega arith))
    (triples_ext f g (suc n) m (λ k a b. e k (omega arith) (omega arith)))

triples-suc : {A : Type 0} (f : ℕ → A) (n m : ℕ) → triples f n (suc m) ≡ triples f n m ++ (f (n + m) ∷ f (n + m) ∷ f (n + m) ∷ [])
triples-suc {A} f n zero = ap (λ (k : ℕ). f k ∷ f k ∷ f k ∷ []) (omega arith)
triples-suc {A} f n (suc m) =
    ap (λ (r : List A). f n ∷ f n ∷ f n ∷ r)
    (triples-suc f (suc n) m ∙ ap (λ (k : ℕ). triples f (suc n) m ++ (f k ∷ f k ∷ f k ∷ [])) (omega arith))

-- ---- sizes by level
-- the size of a level's subbands, by the padded sides h and w
unfoldable size_by : ℕ → ℕ → ℕ → ℕ → ℕ → Size
size_by k d h w level = level_size k d (record { width = w; height = h }) level

abbrev sizes_by : ℕ → ℕ → ℕ → ℕ → List Size
sizes_by k d h w = size_by k d h w 0 ∷ (span (size_by k d h w) 1 k ++ triples (size_by k d h w) (suc k) d)

size_path : {a b : Size} → a.width ≡ b.width → a.height ≡ b.height → a ≡ b
size_path p q = λ i. record { width = p i; height = q i }

-- one more level both ways leaves the sizes of the levels below
deeper : (k d h w level : ℕ) → level ≤ k + d → size_by k (suc d) h w level ≡ size_by k d (h / 2) (w / 2) level
unfolding size_by
deeper k d h w level l =
    let a : k + suc d ≡ suc (k + d) = omega arith in
    let b : k + suc d - level + 1 ≡ suc (k + d - level + 1) = omega arith in
    size_path (rw (b, a) (ap₂ (cond (eqb level 0)) (half_power w (k + d)) (half_power w (k + d - level + 1))))
    (rw b (ap₂ (cond (leb level k)) (half_power h d) (half_power h (k + d - level + 1))))

deeper_last : (k d h w : ℕ) → size_by k (suc d) h w (suc k + d) ≡ record { width = w / 2; height = h / 2 }
unfolding size_by
deeper_last k d h w =
    let b : k + suc d - (suc k + d) + 1 ≡ 1 = omega arith in
    size_path (rw (ne_eqb (suc k + d) 0 (omega arith), b)) (rw (lt-leb (suc k + d) k (omega arith), b))

-- one more horizontal-only level
wider : (k h w level : ℕ) → level ≤ k → size_by (suc k) 0 h w level ≡ size_by k 0 h (w / 2) level
unfolding size_by
wider k h w level l =
    let a : suc k + 0 ≡ suc (k + 0) = omega arith in
    let b : suc k + 0 - level + 1 ≡ suc (k + 0 - level + 1) = omega arith in
    size_path (rw (b, a) (ap₂ (cond (eqb level 0)) (half_power w (k + 0)) (half_power w (k + 0 - level + 1))))
    (rw (le-leb level k l, le-leb level (suc k) (omega arith)))

wider_last : (k h w : ℕ) → size_by (suc k) 0 h w (1 + k) ≡ record { width = w / 2; height = h }
unfolding size_by
wider_last k h w =
    let b : suc k + 0 - (1 + k) + 1 ≡ 1 = omega arith in
    size_path (rw (ne_eqb (1 + k) 0 (omega arith), b)) (rw (le-leb (1 + k) (suc k) (omega arith)) (div-one h))

-- the lists of sizes
grow_wide : (k h w : ℕ) → sizes_by k 0 h (w / 2) ++ (record { width = w / 2; height = h } ∷ []) ≡ sizes_by (suc k) 0 h w
grow_wide k h w =
    let f = size_by (suc k) 0 h w in
    ap₂ ◌∷◌ (sym (wider k h w 0 (omega arith)))
    (ap₂ ◌++◌ (append-nil (span (size_by k 0 h (w / 2)) 1 k) ∙ sym (span_ext f (size_by k 0 h (w / 2)) 1 k (λ n a b. wider k h w n (omega arith))))
    (ap (λ (z : Size). z ∷ []) (sym (wider_last k h w)))
    ∙ sym (append-nil (span f 1 (suc k)) ∙ span-suc f 1 k))

grow_deep : (k d h w : ℕ)
    → let z : Size = record { width = w / 2; height = h / 2 } in sizes_by k d (h / 2) (w / 2) ++ (z ∷ z ∷ z ∷ []) ≡ sizes_by k (suc d) h w
grow_deep k d h w =
    let f = size_by k (suc d) h w in
    let g = size_by k d (h / 2) (w / 2) in
    let s = span g 1 k in
    let z : Size = record { width = w / 2; height = h / 2 } in
    ap₂ ◌∷◌ (sym (deeper k d h w 0 (omega arith)))
    (append_assoc s (triples g (suc k) d) (z ∷ z ∷ z ∷ [])
    ∙ ap₂ ◌++◌ (sym (span_ext f g 1 k (λ n a b. deeper k d h w n (omega arith))))
    (ap₂ (λ (r : List Size) (x : Size). r ++ (x ∷ x ∷ x ∷ [])) (sym (triples_ext f g (suc k) d (λ n a b. deeper k d h w n (omega arith))))
    (sym (deeper_last k d h w))
    ∙ sym (triples-suc f (suc k) d)))

-- ---- the bands
sizes-wide : (wr : ℤ → ℤ) (i k h w : ℕ) (f : Plane) → map size_of (dwt_h wr i k h w f) ≡ sizes_by k 0 h w
unfolding dwt_h size_by
sizes-wide wr i zero h w f = ap₂ (λ (a b : ℕ). record { width = a; height = b } ∷ []) (sym (div-one w)) (sym (div-one h))
sizes-wide wr i (suc k) h w f =
    let g = part_h 0 (h_pass wr i h w f) in
    map-append size_of (dwt_h wr i k h (w / 2) g) _
    ∙ ap (λ (r : List Size). r ++ (record { width = w / 2; height = h } ∷ [])) (sizes-wide wr i k h (w / 2) g) ∙ grow_wide k h w

sizes_deep : (wr : ℤ → ℤ) (i j k d h w : ℕ) (f : Plane) → map size_of (dwt wr i j k d h w f) ≡ sizes_by k d h w
unfolding dwt
sizes_deep wr i j k zero h w f = sizes-wide wr i k h w f
sizes_deep wr i j k (suc d) h w f =
    let z : Size = record { width = w / 2; height = h / 2 } in
    let g = part 0 0 (vh_pass wr i j h w f) in
    map-append size_of (dwt wr i j k d (h / 2) (w / 2) g) _
    ∙ ap (λ (r : List Size). r ++ (z ∷ z ∷ z ∷ [])) (sizes_deep wr i j k d (h / 2) (w / 2) g) ∙ grow_deep k d h w

by_sides : (k d : ℕ) (z : Size) → subband_sizes k d z ≡ sizes_by k d (padded_size k d z).height (padded_size k d z).width
unfolding subband_sizes subband_size size_by
by_sides k d z = refl

pub sizes-same : (k d : ℕ) (z : Size) (i j : ℕ) (f : Plane)
    → map size_of (dwt exact i j k d (padded_size k d z).height (padded_size k d z).width f) ≡ subband_sizes k d z
sizes-same k d z i j f = sizes_deep exact i j k d (padded_size k d z).height (padded_size k d z).width f ∙ sym (by_sides k d z)

pub sizes-of : (s : Settings) (z : Size) (d : ℕ) (samples : List ℕ)
    → map size_of (bands_of s z d samples) ≡ subband_sizes s.dwt_depth_ho s.dwt_depth z
unfolding bands_of
sizes-of s z d samples = sizes-same s.dwt_depth_ho s.dwt_depth z s.wavelet_index_ho s.wavelet_index _

-- ---- how many numbers
-- the numbers of subbands of these sizes
abbrev pub areas : List Size → ℕ
areas zs = total (map area zs)

areas-append : (xs ys : List Size) → areas (xs ++ ys) ≡ areas xs + areas ys
areas-append [] ys = omega arith
areas-append (x ∷ xs) ys = omega (arith, areas-append xs ys)

pub quarter : (h w : ℕ) → 4 * (w / 2 * (h / 2)) ≤ w * h
quarter h w =
    let a : w / 2 * 2 ≤ w = omega arith in
    let b : h / 2 * 2 ≤ h = omega arith in
    omega (arith, mul-le-mul a b, mul-mul-mul_comm (w / 2) 2 (h / 2) 2)

pub half : (h w : ℕ) → 2 * (w / 2 * h) ≤ w * h
half h w =
    let a : w / 2 * 2 ≤ w = omega arith in
    omega (arith, mul-le-mul_right h a, mul_right_comm (w / 2) 2 h)

-- a list that grows at its end
more : (xs ys zs : List Size) (m n : ℕ) → xs ++ ys ≡ zs → areas xs ≤ m → m + areas ys ≤ n → areas zs ≤ n
more xs ys zs m n e a b = omega (arith, areas-append xs ys, ap areas e)

wide-most : (k h w : ℕ) → areas (sizes_by k 0 h w) ≤ w * h
wide-most zero h w = unfold size_by in rw (div-one w, div-one h) (omega arith)
wide-most (suc k) h w =
    let z : Size = record { width = w / 2; height = h } in
    more (sizes_by k 0 h (w / 2)) (z ∷ []) (sizes_by (suc k) 0 h w) (w / 2 * h) (w * h) (grow_wide k h w) (wide-most k h (w / 2)) (omega (arith, half h w))

deep_most : (k d h w : ℕ) → areas (sizes_by k d h w) ≤ w * h
deep_most k zero h w = wide-most k h w
deep_most k (suc d) h w =
    let z : Size = record { width = w / 2; height = h / 2 } in
    more (sizes_by k d (h / 2) (w / 2)) (z ∷ z ∷ z ∷ []) (sizes_by k (suc d) h w) (w / 2 * (h / 2)) (w * h) (grow_deep k d h w)
    (deep_most k d (h / 2) (w / 2)) (omega (arith, quarter h w))

pub areas-most : (k d : ℕ) (z : Size) → areas (subband_sizes k d z) ≤ area (padded_size k d z)
areas-most k d z = rw (by_sides k d z) (deep_most k d (padded_size k d z).height (padded_size k d z).width)
