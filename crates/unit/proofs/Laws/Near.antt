-- What the reader rebuilds of the slices' numbers is near the encoder's coefficients, and equal to them where every
-- index is 0.
use Rattle.std.specs.Prelude.{◌≡◌, refl, ℤ, pos, nat_abs, ◌+ℤ◌, ◌-ℤ◌, get_or}
use Rattle.std.proofs.Common.{sym, ap₂, ◌∙◌, arith}
use Rattle.std.proofs.Math.Path.{ap}
use mathlib.Core.List.{List, [], ◌∷◌, map}
use Prim.Native.Nat.{ℕ, suc, ◌*◌, ◌^◌, ◌≤◌, ◌<◌}
use Rattle.std.proofs.Math.IntN.{+ℤ_idl, +ℤ_idr}
use Rattle.std.proofs.Math.ListN.{drop}
use Rattle.laws.specs.Plane.{Plane}
use Rattle.laws.specs.Laws.Plane.{Agree}
use Rattle.laws.specs.Laws.Integer.{var, ◌⊞◌, ◌⊟◌, by_parts}
use Rattle.quantiser.specs.Standard.{inverse}
use Rattle.quantiser.specs.Quant.{quant_factor, forward_quant, inverse_quant, band_index}
use Rattle.wavelet.specs.Planes.{Band}
use Rattle.unit.specs.declared.PictureKind.{PictureKind}
use Rattle.unit.specs.declared.PictureKind.TheVariants.{LowDelay, HighQuality}
use Rattle.unit.specs.Slices.{Grid, slice_count, part_size, slice_of}
use Rattle.unit.specs.Predict.{predict}
use Rattle.unit.specs.Quantised.{size_of, numbers_from, numbers_hq, number_at, rebuilt_at, rebuilt, numbers_ld}
use Rattle.unit.specs.Reader.{index_at, plain_bands, predicted_band, read_bands_by}
use Rattle.unit.specs.Demand.{NearBands}
use Rattle.unit.proofs.Laws.Place.{slice_lt, number_back, drop-part}
use Rattle.unit.proofs.Laws.Rebuilt.{state_at, state_cong, whole, whole_recurs, whole_room, read_whole}
use Rattle.quantiser.specs.Laws.Quant.{near, exact, standard_same}
use Rattle.wavelet.specs.Laws.PlaneBound.{Small, AllSmall}

-- slice k's numbers of a component, where the slices have the indices q
abbrev pub numbers_by : PictureKind → Grid → List ℕ → List Band → (ℕ → ℕ) → ℕ → List ℤ
numbers_by HighQuality g m bs q k = numbers_hq g m bs (q k) k
numbers_by LowDelay g m bs q k = numbers_ld g m bs (state_at g m bs q k) (q k) k

pub numbers_by_cong : (kind : PictureKind) (g : Grid) (m : List ℕ) (bs : List Band) (q r : ℕ → ℕ) (k : ℕ) → ((j : ℕ) → j ≤ k → q j ≡ r j)
    → numbers_by kind g m bs q k ≡ numbers_by kind g m bs r k
numbers_by_cong HighQuality g m bs q r k e = ap (λ (i : ℕ). numbers_hq g m bs i k) (e k (omega arith))
numbers_by_cong LowDelay g m bs q r k e =
    ap₂ (λ (p : Plane) (i : ℕ). numbers_ld g m bs p i k) (state_cong g m bs q r k (λ j h. e j (omega arith))) (e k (omega arith))

-- ---- one coefficient
-- what is read of a coefficient c at its band's index i: a prediction, and what is rebuilt of c less the prediction
pub record ReadOf (i : ℕ) (c r : ℤ) : Type 0 where
  pub prediction : ℤ
  pub room : nat_abs (c -ℤ prediction) < 2 ^ 53
  pub is : r ≡ rebuilt_at i c prediction

pub read_near : {i : ℕ} {c r : ℤ} → ReadOf i c r → 4 * nat_abs (c -ℤ r) < quant_factor i
read_near {i} {c} {r} o =
    let p = o.prediction in
    let v = inverse_quant (forward_quant (c -ℤ p) i) i in
    let e : c -ℤ (p +ℤ v) ≡ c -ℤ p -ℤ v = by_parts (var c ⊟ (var p ⊞ var v)) (var c ⊟ var p ⊟ var v) (omega arith) in
    rw (o.is, e) (near (c -ℤ p) i o.room)

pub read-exact : {c r : ℤ} → ReadOf 0 c r → c ≡ r
read-exact {c} {r} o =
    let p = o.prediction in
    sym (o.is ∙ ap (λ (v : ℤ). p +ℤ v) (exact (c -ℤ p) o.room) ∙ by_parts (var p ⊞ (var c ⊟ var p)) (var c) (omega arith))

-- a value rebuilt by the standard's formula, with no prediction
read_plain : (i : ℕ) (c : ℤ) → nat_abs c < 2 ^ 53 → ReadOf i c (inverse (forward_quant c i) i)
read_plain i c fits =
    let e : c -ℤ pos 0 ≡ c = +ℤ_idr c in
    record {
      prediction = pos 0;
      room = rw e fits;
      is = standard_same c i fits ∙ sym (+ℤ_idl (inverse_quant (forward_quant (c -ℤ pos 0) i) i) ∙ ap (λ (v : ℤ). inverse_quant (forward_quant v i) i) e);
    }

-- ---- bands
-- a band b and what is read of it, r; n counts the bands, m are the matrix values, q the slices' indices
pub record ReadBand (g : Grid) (m : List ℕ) (q : ℕ → ℕ) (n : ℕ) (b r : Band) : Type 0 where
  pub high : b.high ≡ r.high
  pub wide : b.wide ≡ r.wide
  pub read : (y x : ℕ) → y < b.high → x < b.wide → ReadOf (index_at g m q n (size_of b) y x) (b.plane y x) (r.plane y x)

abbrev pub ReadBands : Grid → List ℕ → (ℕ → ℕ) → ℕ → List Band → List Band → Type 0
ReadBands g m q n [] [] = Unit {0}
ReadBands g m q n [] (r ∷ rs) = ⊥
ReadBands g m q n (b ∷ bs) [] = ⊥
ReadBands g m q n (b ∷ bs) (r ∷ rs) = ReadBand g m q n b r × ReadBands g m q (suc n) bs rs

-- bands of the same sizes with the same coefficients
pub record EqualBand (b r : Band) : Type 0 where
  pub high : b.high ≡ r.high
  pub wide : b.wide ≡ r.wide
  pub plane : Agree b.high b.wide b.plane r.plane

abbrev pub EqualBands : List Band → List Band → Type 0
EqualBands [] [] = Unit {0}
EqualBands [] (r ∷ rs) = ⊥
EqualBands (b ∷ bs) [] = ⊥
EqualBands (b ∷ bs) (r ∷ rs) = EqualBand b r × EqualBands bs rs

pub near_bands : (g : Grid) (m : List ℕ) (q : ℕ → ℕ) (n : ℕ) (bs rs : List Band) → ReadBands g m q n bs rs → NearBands g m q n bs rs
near_bands g m q n [] [] o = tt
near_bands g m q n [] (r ∷ rs) o = absurd o
near_bands g m q n (b ∷ bs) [] o = absurd o
near_bands g m q n (b ∷ bs) (r ∷ rs) o = (
  record { high = o.0.high; wide = o.0.wide; near = λ y x hy hx. read_near (o.0.read y x hy hx) },
  near_bands g m q (suc n) bs rs o.1,
)

module _ (g : Grid) (hm : 0 < g.down) (hn : 0 < g.across) (m : List ℕ) (q : ℕ → ℕ) where
  -- where every slice has index 0, what is read is the coefficients
  pub equal_bands : ((k : ℕ) → k < slice_count g → q k ≡ 0) → (n : ℕ) (bs rs : List Band) → ReadBands g m q n bs rs → EqualBands bs rs
  equal_bands zeros n [] [] o = tt
  equal_bands zeros n [] (r ∷ rs) o = absurd o
  equal_bands zeros n (b ∷ bs) [] o = absurd o
  equal_bands zeros n (b ∷ bs) (r ∷ rs) o = (
    record {
      high = o.0.high;
      wide = o.0.wide;
      plane = record {
        same = λ y x hy hx.
            let e : index_at g m q n (size_of b) y x ≡ 0 = omega (arith, zeros (slice_of g (size_of b) y x) (slice_lt g (size_of b) hm hn y x hy hx)) in
            read-exact (rw e at (o.0.read y x hy hx));
      };
    },
    equal_bands zeros (suc n) bs rs o.1,
  )

  -- ---- what is read of slices
  module _ (n : ℕ) (room : n < 2 ^ 51) where
    plain_read : (bs : List Band) (j : ℕ) (s : ℕ → List ℤ) → AllSmall n bs → ((k : ℕ) → k < slice_count g → s k ≡ numbers_from g m j bs (q k) k)
        → ReadBands g m q j bs (plain_bands g m q j (map size_of bs) s)
    unfolding numbers_from plain_bands
    plain_read [] j s small e = tt
    plain_read (b ∷ bs) j s small e = (
      record {
        high = refl;
        wide = refl;
        read = λ y x hy hx.
            let i : ℕ = index_at g m q j (size_of b) y x in
            let k : ℕ = slice_of g (size_of b) y x in
            rw (number_back g (size_of b) hm hn y x hy hx s (λ y x. forward_quant (b.plane y x) i) (numbers_from g m (suc j) bs (q k) k)
            (e k (slice_lt g (size_of b) hm hn y x hy hx)))
            (read_plain i (b.plane y x) (omega (arith, small.0 y x hy hx)));
      },
      plain_read bs (suc j) (λ k. drop (part_size g (size_of b) k) (s k)) small.1
          (λ k hk.
          ap (drop (part_size g (size_of b) k)) (e k hk)
          ∙ drop-part g (size_of b) k (λ y x. forward_quant (b.plane y x) (band_index (q k) (get_or m j 0))) (numbers_from g m (suc j) bs (q k) k)),
    )

    predicted_read : (b : Band) (bs : List Band) (s : ℕ → List ℤ) → Small n b.high b.wide b.plane
        → ((k : ℕ) → k < slice_count g → s k ≡ numbers_by LowDelay g m (b ∷ bs) q k) → ReadBand g m q 0 b (predicted_band g m q (size_of b) s)
    predicted_read b bs s small e =
        record {
          high = refl;
          wide = refl;
          read = λ y x hy hx.
              record {
                prediction = predict (whole g m q b) y x;
                room = whole_room n room g m q b small y x hy hx;
                is = sym ((read_whole n room g m q b small bs s hm hn e).same y x hy hx) ∙ (whole_recurs g m q b).recurs y x hy hx;
              };
        }

    -- every coefficient that is read of a component's slices
    pub bands-read : (kind : PictureKind) (bs : List Band) (s : ℕ → List ℤ) → AllSmall n bs
        → ((k : ℕ) → k < slice_count g → s k ≡ numbers_by kind g m bs q k) → ReadBands g m q 0 bs (read_bands_by g m q kind (map size_of bs) s)
    unfolding numbers_ld
    bands-read kind [] s small e = tt
    bands-read HighQuality (b ∷ bs) s small e = plain_read (b ∷ bs) 0 s small e
    bands-read LowDelay (b ∷ bs) s small e = (
      predicted_read b bs s small.0 e,
      plain_read bs 1 (λ k. drop (part_size g (size_of b) k) (s k)) small.1
          (λ k hk.
          let i : ℕ = band_index (q k) (get_or m 0 0) in
          ap (drop (part_size g (size_of b) k)) (e k hk)
          ∙ drop-part g (size_of b) k (λ y x. number_at i (b.plane y x) (predict (rebuilt g b i k (state_at g m (b ∷ bs) q k)) y x)) (numbers_from g m 1 bs (q k) k)),
    )
