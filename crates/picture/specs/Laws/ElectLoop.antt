-- The election of low delay as a loop halves a range of indices: the range at the start, after a turn, and at the end.
use Rattle.std.specs.Prelude.{◌≡◌, Bool, ltb}
use Rattle.std.proofs.Math.Path.{refl, ap}
use Rattle.std.proofs.Common.{sym, ◌∙◌, arith, lt-ltb, le-ltb, ltb-true, ltb-false}
use Rattle.std.proofs.Math.Bool.{true, false}
use Prim.Native.Nat.{ℕ, zero, suc, ◌+◌, ◌-◌, ◌/◌, ◌≤◌, ◌<◌}
use Rattle.unit.specs.Elect.{halve, elect}
use Rattle.unit.proofs.Laws.Elect.{elect-halves}
use Rattle.picture.specs.declared.slices.search.Range.{Range}
use Rattle.picture.specs.Code.Search.{half_of}

-- ---- halving
module _ (f : ℕ → Bool) where
  -- what a turn goes on with
  abbrev onward : ℕ → ℕ → ℕ → Bool → ℕ
  onward n lo hi d = let mid = (lo + hi) / 2 in elim d [ true ↦ halve f n lo mid | false ↦ halve f n (mid + 1) hi ]

  halve_done : (n lo hi : ℕ) → hi ≤ lo → halve f n lo hi ≡ lo
  unfolding halve
  halve_done zero lo hi h = refl
  halve_done (suc n) lo hi h = ap (λ (c : Bool). elim c [ true ↦ onward n lo hi (f ((lo + hi) / 2)) | false ↦ lo ]) (le-ltb lo hi h)

  halve-turn : (n lo hi : ℕ) → lo < hi → halve f (suc n) lo hi ≡ onward n lo hi (f ((lo + hi) / 2))
  unfolding halve
  halve-turn n lo hi h = ap (λ (c : Bool). elim c [ true ↦ onward n lo hi (f ((lo + hi) / 2)) | false ↦ lo ]) (lt-ltb lo hi h)

  fuel_turn : (m n lo hi : ℕ) → let mid = (lo + hi) / 2 in
      (lo < hi → halve f m lo mid ≡ halve f n lo mid) → (lo < hi → halve f m (mid + 1) hi ≡ halve f n (mid + 1) hi)
      → halve f (suc m) lo hi ≡ halve f (suc n) lo hi
  fuel_turn m n lo hi low high = by (ltb lo hi) refl
    where
      same : (d : Bool) → lo < hi → onward m lo hi d ≡ onward n lo hi d
      same true h = low h
      same false h = high h

      by : (c : Bool) → ltb lo hi ≡ c → halve f (suc m) lo hi ≡ halve f (suc n) lo hi
      by true e =
          let h = ltb-true lo hi e in
          halve-turn m lo hi h ∙ same (f ((lo + hi) / 2)) h ∙ sym (halve-turn n lo hi h)
      by false e =
          let h = ltb-false lo hi e in
          halve_done (suc m) lo hi h ∙ sym (halve_done (suc n) lo hi h)

  -- more turns than the range is wide change nothing
  pub halve_fuel : (m n lo hi : ℕ) → hi - lo ≤ m → hi - lo ≤ n → halve f m lo hi ≡ halve f n lo hi
  halve_fuel zero n lo hi a b = let h : hi ≤ lo = omega arith in halve_done 0 lo hi h ∙ sym (halve_done n lo hi h)
  halve_fuel (suc m) zero lo hi a b = let h : hi ≤ lo = omega arith in halve_done (suc m) lo hi h ∙ sym (halve_done 0 lo hi h)
  halve_fuel (suc m) (suc n) lo hi a b =
      let mid : ℕ = (lo + hi) / 2 in
      fuel_turn m n lo hi
      (λ h. halve_fuel m n lo mid (omega arith) (omega arith))
      (λ h. halve_fuel m n (mid + 1) hi (omega arith) (omega arith))

-- ---- the loop
-- the search in the range r ends where that from first to last does
pub record Halving (f : ℕ → Bool) (first last : ℕ) (r : Range) : Type 0 where
  pub same : halve f (r.hi - r.lo) r.lo r.hi ≡ halve f (last - first) first last
  pub order : r.lo ≤ r.hi
  pub most : r.hi ≤ last

-- a turn, where d says whether the middle fits
module _ (r : Range) (mid : ℕ) (h : r.lo < r.hi) (m : mid ≡ (r.lo + r.hi) / 2) where
  module _ {f : ℕ → Bool} {first last : ℕ} (v : Halving f first last r) where
    half_same : (d : Bool) → f mid ≡ d → halve f ((half_of r mid d).hi - (half_of r mid d).lo) (half_of r mid d).lo (half_of r mid d).hi ≡ halve f (r.hi - r.lo) r.lo r.hi
    half_same d g =
        let n : ℕ = r.hi - r.lo - 1 in
        let e : r.hi - r.lo ≡ suc n = omega arith in
        sym (
        ap (λ (n : ℕ). halve f n r.lo r.hi) e ∙ halve-turn f n r.lo r.hi h
        ∙ ap (onward f n r.lo r.hi) (ap f (sym m) ∙ g) ∙ by d n (omega arith)
        )
      where
        by : (d : Bool) (n : ℕ) → r.hi - r.lo ≤ suc n
            → onward f n r.lo r.hi d ≡ halve f ((half_of r mid d).hi - (half_of r mid d).lo) (half_of r mid d).lo (half_of r mid d).hi
        by true n l =
            ap (halve f n r.lo) (sym m) ∙ halve_fuel f n (mid - r.lo) r.lo mid (omega arith) (omega arith)
        by false n l =
            ap (λ (x : ℕ). halve f n (x + 1) r.hi) (sym m) ∙ halve_fuel f n (r.hi - (mid + 1)) (mid + 1) r.hi (omega arith) (omega arith)

    half_halving : (d : Bool) → f mid ≡ d → Halving f first last (half_of r mid d)
    half_halving true g = record { same = half_same true g ∙ v.same; order = omega arith; most = omega (arith, v.most) }
    half_halving false g = record { same = half_same false g ∙ v.same; order = omega arith; most = v.most }

    pub halving_turn : (d : Bool) (n : Range) → d ≡ f mid → n ≡ half_of r mid d → Halving f first last n
    halving_turn d n g e = rw e (half_halving d (sym g))

-- the range at the end
module _ {f : ℕ → Bool} {first last : ℕ} {r : Range} (v : Halving f first last r) where
  pub halving_end : first ≤ last → r.hi ≤ r.lo → r.lo ≡ elect first last f
  halving_end o h = sym (halve_done f (r.hi - r.lo) r.lo r.hi h) ∙ v.same ∙ sym (elect-halves f first last o)

  pub halving_low : r.lo ≤ last
  halving_low = omega (arith, v.order, v.most)

-- ---- further laws
-- the range at the start
pub halving_start : (f : ℕ → Bool) (first last : ℕ) → first ≤ last → Halving f first last (record { lo = first; hi = last })
halving_start f first last h = record { same = refl; order = h; most = omega arith }

-- the middle is an index
pub halving_middle : {f : ℕ → Bool} {first last : ℕ} {r : Range} → Halving f first last r → (mid : ℕ) → mid ≡ (r.lo + r.hi) / 2 → mid ≤ last
halving_middle v mid m = omega (arith, v.order, v.most)

module _ (r : Range) (mid : ℕ) (h : r.lo < r.hi) (m : mid ≡ (r.lo + r.hi) / 2) where
  half_less : (d : Bool) → (half_of r mid d).hi - (half_of r mid d).lo < r.hi - r.lo
  half_less true = omega arith
  half_less false = omega arith

  -- the range becomes narrower
  pub halving_less : (d : Bool) (n : Range) → n ≡ half_of r mid d → n.hi - n.lo < r.hi - r.lo
  halving_less d n e = rw e (half_less d)
