-- Laws of a low-delay slice's numbers of level 0 and of the others: what the two cost together, that at a larger index
-- the others cost no more, and that they do not depend on the rebuilt planes.
use Rattle.std.specs.Prelude.{◌≡◌, Bool, true, false, cond, ◌&&◌, ◌||◌, ltb, eqb, ℤ, length}
use Rattle.std.proofs.Math.Path.{refl, ap, ap₂}
use Rattle.std.proofs.Common.{sym, ◌∙◌, arith, leb-true, ltb-true, le-leb, eq-eqb, ne_eqb, length-append}
use Rattle.std.proofs.Math.Bool.{and-false}
use mathlib.Core.List.{List, [], ◌∷◌, ◌++◌}
use Prim.Native.Nat.{ℕ, zero, suc, ◌+◌, ◌*◌, ◌-◌, ◌^◌, ◌≤◌, ◌<◌}
use Rattle.std.proofs.lemmas.Bool.{lt-leb}
use Rattle.std.proofs.Math.Dec.{leb, eqb-suc-zero}
use Rattle.laws.specs.Rows.{at}
use Rattle.codewords.specs.CodeWord.{codes}
use Rattle.codewords.specs.Laws.Code.{codes-append}
use Rattle.unit.specs.Limits.{area_limit}
use Rattle.unit.specs.Trim.{trim_cons, trimmed, bits_of, trimmed_cost}
use Rattle.unit.proofs.Laws.Trim.{length-trimmed, bits_most, cost-most}
use Rattle.unit.proofs.Laws.Trim as trim
use Rattle.picture.specs.declared.slices.tally.Tally.{Tally}
use Rattle.picture.specs.declared.slices.layout.Component.{Component}
use Rattle.picture.specs.declared.slices.layout.Layout.{Layout}
use Rattle.picture.specs.declared.slices.layout.Picture.{Picture}
use Rattle.picture.specs.declared.slices.layout.Window.{Window}
use Rattle.picture.specs.declared.slices.tally.Trimmed.{Trimmed}
use Rattle.picture.specs.declared.low.trial.First.{First}
use Rattle.picture.specs.declared.low.trial.Rest.{Rest}
use Rattle.picture.specs.Code.Strip.{strip_numbers, Small}
use Rattle.picture.specs.Laws.Strip.{rows_small}
use Rattle.picture.specs.Code.Tally.{trimmed_of, trimmed_by}
use Rattle.picture.specs.Laws.Tally.{TallyOf, tally_of_lem, tally_keeps, tally_kept}
use Rattle.picture.specs.Code.Layout.{band_count, band_size, start_of, window_of, strip_of, rest_numbers, RunIn}
use Rattle.picture.specs.Laws.Layout.{rest_small, first_strip, band_strip, band_numbers, run_length, run_rest, start-next, band-fits, strip_within}
use Rattle.picture.specs.Laws.Packed.{between, strip_alike}
use Rattle.picture.specs.Code.Picture.{Arranged, SliceIn}
use Rattle.picture.specs.Laws.Picture.{run_y, run_pair}
use Rattle.picture.specs.Code.Low.{rebuilt_in, luma_in, colour_in, low_fits_in}
use Rattle.picture.specs.Code.LowRest.{luma_first, colour_first, luma_rest, colour_rest, joined_of, bits_with, FirstOf, Known, Joins}
use Rattle.picture.specs.Laws.Rises.{cost-behind, rest_cost_falls}
use Rattle.picture.specs.Laws.Again.{rebuilt-behind}

-- ---- numbers behind others
trim_some : (x : ℤ) (ys : List ℤ) → 0 < length ys → trim_cons x ys ≡ x ∷ ys
trim_some x [] h = absurd (omega arith)
trim_some x (y ∷ ys) h = refl

trimmed-none : (xs ys : List ℤ) → trimmed ys ≡ [] → trimmed (xs ++ ys) ≡ trimmed xs
unfolding trimmed
trimmed-none [] ys e = e
trimmed-none (x ∷ xs) ys e = ap (trim_cons x) (trimmed-none xs ys e)

trimmed-behind : (xs ys : List ℤ) → 0 < length (trimmed ys) → trimmed (xs ++ ys) ≡ xs ++ trimmed ys
unfolding trimmed
trimmed-behind [] ys h = refl
trimmed-behind (x ∷ xs) ys h =
    ap (trim_cons x) (trimmed-behind xs ys h) ∙ trim_some x (xs ++ trimmed ys) (omega (arith, length-append xs (trimmed ys)))

bits-append : (xs ys : List ℤ) → bits_of (xs ++ ys) ≡ bits_of xs + bits_of ys
bits-append xs ys = ap length (codes-append xs ys) ∙ length-append (codes xs) (codes ys)

-- a tally of xs and a run of ys make the run of both
pub joined_is : (xs ys : List ℤ) (t : Tally) (r : Trimmed) → TallyOf xs t → r ≡ trimmed_of ys → joined_of t r ≡ trimmed_of (xs ++ ys)
unfolding trimmed_cost
joined_is xs ys t r h e = rw e (by (trimmed ys) refl)
  where
    by : (zs : List ℤ) → trimmed ys ≡ zs → joined_of t (record { count = length zs; bits = bits_of zs }) ≡ trimmed_of (xs ++ ys)
    by [] d = ap₂ (λ (m n : ℕ). record { count = m; bits = n }) h.keep (tally_kept h) ∙ ap (λ (zs : List ℤ). record { count = length zs; bits = bits_of zs }) (sym (trimmed-none xs ys d))
    by (z ∷ zs) d =
        let l : 0 < length (trimmed ys) = omega (arith, ap length d) in
        let f : trimmed (xs ++ ys) ≡ xs ++ (z ∷ zs) = trimmed-behind xs ys l ∙ ap (λ (zs : List ℤ). xs ++ zs) d in
        ap (λ (b : Bool). cond b (record { count = t.keep; bits = t.bits - (t.count - t.keep) }) (record { count = t.count + length (z ∷ zs); bits = t.bits + bits_of (z ∷ zs) })) (eqb-suc-zero (length zs))
        ∙ ap₂ (λ (m n : ℕ). record { count = m + length (z ∷ zs); bits = n + bits_of (z ∷ zs) }) h.count h.bits
        ∙ ap₂ (λ (m n : ℕ). record { count = m; bits = n }) (sym (length-append xs (z ∷ zs))) (sym (bits-append xs (z ∷ zs)))
        ∙ ap (λ (zs : List ℤ). record { count = length zs; bits = bits_of zs }) (sym f)

-- its bits
pub joined_few : (t : Tally) (r z : Trimmed) → Joins t r → z ≡ joined_of t r → z.bits ≤ 2 ^ 48
joined_few t r z h e = rw e (by (eqb r.count 0))
  where
    by : (b : Bool) → let z : Trimmed = cond b (record { count = t.keep; bits = t.bits - (t.count - t.keep) }) (record { count = t.count + r.count; bits = t.bits + r.bits }) in z.bits ≤ 2 ^ 48
    by true = omega (arith, h.few)
    by false = omega (arith, h.few, h.few_behind)

-- ---- tests of two parts
pub over_no : (a b : ℕ) (t : Bool) → b < a → false ≡ (leb a b && t)
over_no a b t h = rw (lt-leb a b h)

pub within_is : (a b : ℕ) (s t : Bool) → a ≤ b → s ≡ t → s ≡ (leb a b && t)
within_is a b s t h e = rw (le-leb a b h, e)

-- ---- a slice's numbers in two parts
module _ (w : List ℤ) (l : Layout) (c second : Component) (pair : Bool) (k q : ℕ) where
  -- the numbers of the first subband and of the others are few
  parts_few : c.width * c.height ≤ area_limit
      → length (strip_numbers w (first_strip w l c second pair k q)) + length (rest_numbers w l c second pair k q (band_count l - 1)) ≤ 2 ^ 27
  parts_few h =
      let n : ℕ = band_count l - 1 in
      let e : suc n ≡ band_count l = omega arith in
      let xs = strip_numbers w (first_strip w l c second pair k q) in
      let ys = rest_numbers w l c second pair k q n in
      omega (arith, run_length w l c second pair k q (band_count l), ap length (run_rest w l c second pair k q), length-append xs ys, ap (start_of l c) e, start-next l c n, band-fits l c n (omega arith))

-- a tally and a run of few numbers can be joined
joins_by : (xs ys : List ℤ) (t : Tally) (r : Trimmed) → TallyOf xs t → r ≡ trimmed_of ys → trim.Small xs → trim.Small ys → length xs ≤ 2 ^ 27 → length ys ≤ 2 ^ 27 → Joins t r
joins_by xs ys t r h e a b l m = rw e (record {
  keep = (tally_keeps h).0;
  trailing = (tally_keeps h).1;
  few = (omega (arith, h.count), omega (arith, h.bits, bits_most xs a));
  few_behind = (omega (arith, length-trimmed ys), omega (arith, cost-most ys b));
})

-- ---- numbers that are not predicted do not depend on the rebuilt planes
module _ (a n : ℕ) (w v : List ℤ) (same : (i : ℕ) → a ≤ i → i < n → at v i ≡ at w i) {l : Layout} {c second : Component} {k q : ℕ} {u : List ℤ}
    (h : RunIn l c second a n k q u) (pair : Bool) where
  band-behind : (m : ℕ) → suc m < band_count l → band_numbers v l c second pair k q (suc m) ≡ band_numbers w l c second pair k q (suc m)
  unfolding strip_of
  band-behind m o =
      strip_alike a n w v same (band_strip l c second pair k q (suc m))
      (between (strip_within h pair (suc m) o) (ap (λ (b : Bool). l.predicted && b) (eqb-suc-zero m) ∙ and-false l.predicted))

  rest_behind : (m : ℕ) → m < band_count l → rest_numbers v l c second pair k q m ≡ rest_numbers w l c second pair k q m
  unfolding rest_numbers
  rest_behind zero o = refl
  rest_behind (suc m) o = ap₂ ◌++◌ (rest_behind m (omega arith)) (band-behind m o)

-- ---- slices of the same picture
-- what one has of level 0 is the same for both colours
pub window_c2 : (p : Picture) (k : ℕ) → Arranged p → window_of p.layout p.c1 0 k ≡ window_of p.layout p.c2 0 k
unfolding window_of band_size
window_c2 p k a =
    let by : ℕ → ℕ → Window = λ x y. window_of p.layout (record { width = x; height = y; coefs = p.c1.coefs; rebuilt = p.c1.rebuilt }) 0 k in
    ap₂ by (sym a.wide) (sym a.high)

-- another index, where the planes are rebuilt
pub slice_at : {p : Picture} {w : List ℤ} {k q : ℕ} (v : List ℤ) (i : ℕ) → SliceIn p w k q → Small p.front p.end v → i ≤ 255 → SliceIn p v k i
slice_at v i s m h = record { arranged = s.arranged; small = m; slice = s.slice; index = h }

pub known_is : {v : List ℤ} {p : Picture} {k : ℕ} {r s : Rest} → s ≡ r → Known v p k r → Known v p k s
known_is e h = rw e h

-- what is known stays known where an index is rebuilt
pub known-rebuilt : {w : List ℤ} {p : Picture} {k i : ℕ} {r : Rest} (v : List ℤ) (q : ℕ) → SliceIn p w k i → v ≡ rebuilt_in w p k q → Known w p k r → Known v p k r
known-rebuilt {w} {p} {k} {i} {r} v q s e h =
    let o : SliceIn p w k 0 = slice_at w 0 s s.small (omega arith) in
    let t : SliceIn p w k r.index = slice_at w r.index s s.small h.index in
    let same : (i : ℕ) → p.front ≤ i → i < p.end → at v i ≡ at w i = λ i f d. ap (λ (u : List ℤ). at u i) e ∙ rebuilt-behind o q i f in
    let n : ℕ = band_count p.layout - 1 in
    record {
      index = h.index;
      luma = h.luma ∙ ap trimmed_of (sym (rest_behind p.front p.end w v same (run_y t) false n (omega arith)));
      colour = h.colour ∙ ap trimmed_of (sym (rest_behind p.front p.end w v same (run_pair t) true n (omega arith)));
    }

-- ---- what a slice takes, by the tallies of level 0 at index q and the runs r of another index
module _ {v : List ℤ} {p : Picture} {k q : ℕ} {f : First} {r : Rest} (h : FirstOf v p k q f) (u : Known v p k r) where
  pub joins_both : Arranged p → Joins f.luma r.luma × Joins f.colour r.colour
  joins_both a =
      let l = p.layout in
      let few = parts_few v l in (
        joins_by (luma_first v p k q) (luma_rest v p k r.index) f.luma r.luma (tally_of_lem _ _ h.luma) u.luma
            (rows_small v (strip_of l p.y p.y false 0 0 k q) _ _) (rest_small v l p.y p.y false k r.index (band_count l - 1))
            (omega (arith, few p.y p.y false k q a.y.area)) (omega (arith, few p.y p.y false k r.index a.y.area)),
        joins_by (colour_first v p k q) (colour_rest v p k r.index) f.colour r.colour (tally_of_lem _ _ h.colour) u.colour
            (rows_small v (strip_of l p.c1 p.c2 true 0 0 k q) _ _) (rest_small v l p.c1 p.c2 true k r.index (band_count l - 1))
            (omega (arith, few p.c1 p.c2 true k q a.c1.area)) (omega (arith, few p.c1 p.c2 true k r.index a.c1.area)),
      )

  luma-joined : joined_of f.luma r.luma ≡ trimmed_of (luma_first v p k q ++ luma_rest v p k r.index)
  luma-joined = joined_is (luma_first v p k q) (luma_rest v p k r.index) f.luma r.luma (tally_of_lem _ _ h.luma) u.luma

  colour-joined : joined_of f.colour r.colour ≡ trimmed_of (colour_first v p k q ++ colour_rest v p k r.index)
  colour-joined = joined_is (colour_first v p k q) (colour_rest v p k r.index) f.colour r.colour (tally_of_lem _ _ h.colour) u.colour

  -- where the runs known are of this index
  pub luma-whole : r.index ≡ q → joined_of f.luma r.luma ≡ trimmed_of (luma_in v p k q)
  luma-whole e =
      luma-joined ∙ ap (λ (i : ℕ). trimmed_of (luma_first v p k q ++ luma_rest v p k i)) e
      ∙ ap trimmed_of (sym (run_rest v p.layout p.y p.y false k q))

  pub colour-whole : r.index ≡ q → joined_of f.colour r.colour ≡ trimmed_of (colour_in v p k q)
  colour-whole e =
      colour-joined ∙ ap (λ (i : ℕ). trimmed_of (colour_first v p k q ++ colour_rest v p k i)) e
      ∙ ap trimmed_of (sym (run_rest v p.layout p.c1 p.c2 true k q))

  -- the bits of the slice
  abbrev slice_bits : ℕ
  slice_bits = trimmed_cost (luma_in v p k q) + trimmed_cost (colour_in v p k q)

  bits-low : r.index ≤ q → slice_bits ≤ bits_with f r
  bits-low o =
      let l = p.layout in
      let n : ℕ = band_count l - 1 in
      omega (
        arith,
        ap trimmed_cost (run_rest v l p.y p.y false k q),
        ap trimmed_cost (run_rest v l p.c1 p.c2 true k q),
        ap (λ (t : Trimmed). t.bits) luma-joined,
        ap (λ (t : Trimmed). t.bits) colour-joined,
        cost-behind (luma_first v p k q) (luma_rest v p k q) (luma_rest v p k r.index) (rest_cost_falls v l p.y p.y false k r.index q o n),
        cost-behind (colour_first v p k q) (colour_rest v p k q) (colour_rest v p k r.index) (rest_cost_falls v l p.c1 p.c2 true k r.index q o n),
      )

  bits-high : q ≤ r.index → bits_with f r ≤ slice_bits
  bits-high o =
      let l = p.layout in
      let n : ℕ = band_count l - 1 in
      omega (
        arith,
        ap trimmed_cost (run_rest v l p.y p.y false k q),
        ap trimmed_cost (run_rest v l p.c1 p.c2 true k q),
        ap (λ (t : Trimmed). t.bits) luma-joined,
        ap (λ (t : Trimmed). t.bits) colour-joined,
        cost-behind (luma_first v p k q) (luma_rest v p k r.index) (luma_rest v p k q) (rest_cost_falls v l p.y p.y false k q r.index o n),
        cost-behind (colour_first v p k q) (colour_rest v p k r.index) (colour_rest v p k q) (rest_cost_falls v l p.c1 p.c2 true k q r.index o n),
      )

  -- ---- whether it fits
  module _ (w : List ℤ) (e : v ≡ rebuilt_in w p k q) (room : ℕ) where
    fits_by_lem : leb slice_bits room ≡ low_fits_in w p room k q
    unfolding low_fits_in
    fits_by_lem = ap (λ (v : List ℤ). leb (trimmed_cost (luma_in v p k q) + trimmed_cost (colour_in v p k q)) room) e

    pub fits_low : r.index ≤ q → bits_with f r ≤ room → true ≡ low_fits_in w p room k q
    fits_low o l = sym (le-leb slice_bits room (omega (arith, bits-low o))) ∙ fits_by_lem

    pub fits-high : q ≤ r.index → room < bits_with f r → false ≡ low_fits_in w p room k q
    fits-high o l = sym (lt-leb slice_bits room (omega (arith, bits-high o))) ∙ fits_by_lem

    pub surely : (leb r.index q && leb (bits_with f r) room) ≡ true → true ≡ low_fits_in w p room k q
    surely = by (leb r.index q) refl
      where
        by : (b : Bool) → leb r.index q ≡ b → (b && leb (bits_with f r) room) ≡ true → true ≡ low_fits_in w p room k q
        by true o d = fits_low (leb-true r.index q o) (leb-true (bits_with f r) room d)
        by false o d = absurd (let z : ◌≡◌ {A = ℕ} 0 1 = cc in omega arith)

    pub never : (leb q r.index && ltb room (bits_with f r)) ≡ true → false ≡ low_fits_in w p room k q
    never = by (leb q r.index) refl
      where
        by : (b : Bool) → leb q r.index ≡ b → (b && ltb room (bits_with f r)) ≡ true → false ≡ low_fits_in w p room k q
        by true o d = fits-high (leb-true q r.index o) (ltb-true room (bits_with f r) d)
        by false o d = absurd (let z : ◌≡◌ {A = ℕ} 0 1 = cc in omega arith)

-- where the runs of two indices are known
module _ {v : List ℤ} {p : Picture} {k q : ℕ} {f : First} {low high : Rest} (h : FirstOf v p k q f) (a : Known v p k low) (b : Known v p k high)
    (w : List ℤ) (e : v ≡ rebuilt_in w p k q) (room : ℕ) where
  pub surely_either : (s t : Bool) → s ≡ (leb low.index q && leb (bits_with f low) room) → t ≡ (leb high.index q && leb (bits_with f high) room)
      → (s || t) ≡ true → true ≡ low_fits_in w p room k q
  surely_either true t d g o = surely h a w e room (sym d)
  surely_either false t d g o = surely h b w e room (sym g ∙ o)

  pub never_either : (s t : Bool) → s ≡ (leb q low.index && ltb room (bits_with f low)) → t ≡ (leb q high.index && ltb room (bits_with f high))
      → (s || t) ≡ true → false ≡ low_fits_in w p room k q
  never_either true t d g o = never h a w e room (sym d)
  never_either false t d g o = never h b w e room (sym g ∙ o)

-- ---- further laws
-- the joined run, by whether the run behind has numbers
pub joined-none : (t : Tally) (r : Trimmed) → r.count ≡ 0 → trimmed_by t ≡ joined_of t r
joined-none t r h = rw (eq-eqb r.count 0 h)

pub joined-some : (t : Tally) (r : Trimmed) → (r.count ≡ 0 → ⊥) → record { count = t.count + r.count; bits = t.bits + r.bits } ≡ joined_of t r
joined-some t r h = rw (ne_eqb r.count 0 h)
