-- A call is valid just where none of refusals 1 to 13 turns it away; and what follows for sizes, depths, matrix, slices
-- and version.
use Rattle.std.specs.Prelude.{◌≡◌, refl, ◌↔◌, Bool, not, ◌&&◌, ◌||◌, List, ℕ, zero, suc, ◌+◌, ◌*◌, ◌^◌, ◌≤◌, ◌<◌, eqb, ltb, ℤ, length, drop}
use Rattle.std.proofs.Common.{sym, mul-zero, mul-pos, mul_comm, le_trans, arith}
use Rattle.std.proofs.Math.Bool.{true, false}
use Rattle.std.proofs.Math.Option.{Option, none, some}
use Rattle.wavelet.specs.Laws.Depth.{few_levels}
use Rattle.unit.specs.declared.Settings.{Settings}
use Rattle.unit.specs.declared.PictureKind.{PictureKind}
use Rattle.unit.specs.declared.PictureKind.TheVariants.{LowDelay, HighQuality}
use Rattle.unit.specs.declared.RateControl.{RateControl}
use Rattle.unit.specs.declared.RateControl.TheVariants.{Lossless, FixedQuantIndex, PictureBytes}
use Rattle.refusals.specs.Laws.Number.{Named}
use Rattle.unit.specs.Limits.{depth_limit, deepest, last_wavelet, side_limit, slice_limit, prefix_limit, target_limit, last_format, last_mode, area_limit}
use Rattle.unit.specs.Three.{Three}
use Rattle.unit.specs.Sizes.{Size, area, halved_if, fields, luma_size, colour_size, depths_of}
use Rattle.unit.specs.Subbands.{padded_size, subband_count, padded_area, work_needed}
use Rattle.unit.specs.Slices.{slice_count}
use Rattle.unit.specs.Matrix.{default_of, carried_matrix}
use Rattle.unit.specs.Refusal.{shape_rules, frame_rules, no_target, bad_index, bad_target, any_above, is_none, rules, refusal_of}
use Rattle.unit.specs.Code.Valid.{Shaped, Framed, Between, RateFits, MatrixFits, Valid, Sized}
use Rattle.unit.specs.Parameters.{SliceParameters}
use Rattle.unit.specs.Unit.{version_by, major_version, grid_of, parameters_by, target_of}
use Rattle.unit.proofs.Laws.Sound.{SliceFits, CarriedFits, Legal}
use Rattle.unit.proofs.Laws.Intlog2.{depth_range}
use Rattle.unit.proofs.Laws.Padded.{padded-wide, padded-high, wide_few, high_few, padded_mono}
use Rattle.unit.proofs.Laws.Rules.{Numbered, first_named, NoneOf, none_of}
use Rattle.unit.proofs.Laws.Test.{no_truth, or-none, both, at_most, same, some_of, between, all_most}

-- rules 5 to 7 are not broken
record RateKept (k : PictureKind) (r : RateControl) : Type 0 where
  target : no_target k r ≡ false
  index : bad_index r ≡ false
  bytes : bad_target r ≡ false

rate_fits : (k : PictureKind) (r : RateControl) → RateKept k r ↔ RateFits k r
rate_fits LowDelay Lossless = (λ h. no_truth h.target, absurd)
rate_fits LowDelay (FixedQuantIndex q) = (λ h. no_truth h.target, absurd)
rate_fits LowDelay (PictureBytes n) = (λ h. (at_most target_limit n).0 h.bytes, λ h. record { target = refl; index = refl; bytes = (at_most target_limit n).1 h })
rate_fits HighQuality Lossless = (λ h. tt, λ h. record { target = refl; index = refl; bytes = refl })
rate_fits HighQuality (FixedQuantIndex q) = (λ h. (at_most 255 q).0 h.index, λ h. record { target = refl; index = (at_most 255 q).1 h; bytes = refl })
rate_fits HighQuality (PictureBytes n) = (λ h. (at_most target_limit n).0 h.bytes, λ h. record { target = refl; index = refl; bytes = (at_most target_limit n).1 h })

-- a target is at most 2^30 bytes
pub target_few : (k : PictureKind) (r : RateControl) → RateFits k r → target_of r ≤ 2 ^ 30
target_few LowDelay Lossless h = absurd h
target_few LowDelay (FixedQuantIndex q) h = absurd h
target_few LowDelay (PictureBytes n) h = omega arith
target_few HighQuality Lossless h = omega arith
target_few HighQuality (FixedQuantIndex q) h = omega arith
target_few HighQuality (PictureBytes n) h = omega arith

-- rules 9 and 10 are not broken
record MatrixKept (n : ℕ) (m : List ℕ) (custom : Bool) (d : Option (List ℕ)) : Type 0 where
  own : (custom && (not (eqb (length m) n) || any_above 255 m)) ≡ false
  default : (not custom && is_none d) ≡ false

matrix-fits : (s : Settings) (m : List ℕ) (b : Bool) (d : Option (List ℕ)) → MatrixKept (subband_count s.dwt_depth_ho s.dwt_depth) m b d ↔ MatrixFits s m b d
matrix-fits s m true d =
    let n = subband_count s.dwt_depth_ho s.dwt_depth in
    let o = both (same (length m) n) (all_most 255 m) in
    (λ h. o.0 h.own, λ h. record { own = o.1 h; default = refl })
matrix-fits s m false none = (λ h. no_truth h.default, absurd)
matrix-fits s m false (some vs) = (λ h. tt, λ h. record { own = refl; default = refl })

-- ---- rules 1 to 4, and rule 8
module _ (s : Settings) where
  pub shape-kept : NoneOf (shape_rules s) ↔ Shaped s
  shape-kept =
      let r1 = both (at_most last_wavelet s.wavelet_index) (at_most last_wavelet s.wavelet_index_ho) in
      let r2 = at_most (depth_limit s.wavelet_index_ho s.wavelet_index) (s.dwt_depth + s.dwt_depth_ho) in
      let r3 = both (between side_limit s.slices_x) (both (between side_limit s.slices_y) (at_most slice_limit (s.slices_x * s.slices_y))) in
      let r4 = both (between side_limit s.slice_size_scaler) (at_most prefix_limit s.slice_prefix_bytes) in (
        λ (b1, (b2, (b3, (b4, done)))).
            let (wavelet, wavelet-ho) = r1.0 b1 in
            let (across, (down, slices)) = r3.0 b3 in
            let (scaler, prefix) = r4.0 b4 in
            record {
              wavelet = wavelet;
              wavelet-ho = wavelet-ho;
              depths = r2.0 b2;
              across = across;
              down = down;
              slices = slices;
              scaler = scaler;
              prefix = prefix;
            },
        λ v.
            let k3 = r3.1 (v.across, (v.down, v.slices)) in
            (r1.1 (v.wavelet, v.wavelet-ho), (r2.1 v.depths, (k3, (r4.1 (v.scaler, v.prefix), tt)))),
      )

  pub frame-kept : NoneOf (frame_rules s) ↔ Framed s
  frame-kept =
      let r8 = both (at_most last_format s.color_diff_format) (both (at_most last_mode s.picture_coding_mode)
      (both (between side_limit s.frame_width) (both (between side_limit s.frame_height)
      (both (between side_limit s.luma_excursion) (both (between side_limit s.color_diff_excursion)
      (both (some_of (area (luma_size s))) (some_of (area (colour_size s))))))))) in (
        λ (b8, done).
            let (format, (mode, (width, (height, (luma, (colour, (luma-some, colour-some))))))) = r8.0 b8 in
            record {
              format = format;
              mode = mode;
              width = width;
              height = height;
              luma = luma;
              colour = colour;
              luma-some = luma-some;
              colour-some = colour-some;
            },
        λ v. (r8.1 (v.format, (v.mode, (v.width, (v.height, (v.luma, (v.colour, (v.luma-some, v.colour-some))))))), tt),
      )

  -- the depths are few, whatever the wavelets
  pub levels_few : Shaped s → s.dwt_depth + s.dwt_depth_ho ≤ deepest
  levels_few h = few_levels s.wavelet_index_ho s.wavelet_index h.depths

-- ---- all rules
module _ (s : Settings) (m : List ℕ) (p : Three (List ℕ)) (work : List ℤ) where
  pub numbered : Numbered (rules s m p work)
  numbered = (tt, (tt, (tt, (tt, (tt, (tt, (tt, (tt, (tt, (tt, (tt, (tt, (tt, tt)))))))))))))

  -- the first broken rule has the number of a refusal
  pub refusal_named : Named (refusal_of s m p work)
  unfolding refusal_of
  refusal_named =
      first_named (rules s m p work) (refl, (refl, (refl, (refl, (refl, (refl, (refl, (refl, (refl, (refl, (refl, (refl, (refl, tt)))))))))))))

  kept : NoneOf (rules s m p work) ↔ Valid s m p work
  kept =
      let z = area (luma_size s) in
      let c = area (colour_size s) in
      let shape = shape-kept s in
      let r7 = rate_fits s.kind s.rate in
      let frame = frame-kept s in
      let r10 = matrix-fits s m s.custom_matrix (default_of s) in
      let r11 = at_most area_limit (padded_area s (luma_size s)) in
      let r12 = both (same (length p.y) z) (both (same (length p.c1) c) (same (length p.c2) c)) in
      let r13 = at_most (length work) (work_needed s) in (
        λ (b1, (b2, (b3, (b4, (b5, (b6, (b7, (b8, (b9, (b10, (b11, (b12, (b13, done))))))))))))).
            let (long-y, (long-c1, long-c2)) = r12.0 b12 in
            record {
              shape = shape.0 (b1, (b2, (b3, (b4, tt))));
              rate = r7.0 (record { target = b5; index = b6; bytes = b7 });
              frame = frame.0 (b8, tt);
              matrix = r10.0 (record { own = b9; default = b10 });
              padded = r11.0 b11;
              lent = record { long_y = long-y; long_c1 = long-c1; long_c2 = long-c2; work_room = r13.0 b13 };
            },
        λ v.
            let (b1, (b2, (b3, (b4, done)))) = shape.1 v.shape in
            let k7 = r7.1 v.rate in
            let k8 = (frame.1 v.frame).0 in
            let k10 = r10.1 v.matrix in
            let l = v.lent in
            let k12 = r12.1 (l.long_y, (l.long_c1, l.long_c2)) in
            let from9 : NoneOf (drop 8 (rules s m p work)) = (k10.own, (k10.default, (r11.1 v.padded, (k12, (r13.1 l.work_room, tt))))) in
            let from5 : NoneOf (drop 4 (rules s m p work)) = (k7.target, (k7.index, (k7.bytes, (k8, from9)))) in
            (b1, (b2, (b3, (b4, from5)))),
      )

  pub valid : refusal_of s m p work ≡ 0 → Valid s m p work
  unfolding refusal_of
  valid e = kept.0 ((none_of (rules s m p work) numbered).0 e)

-- ---- sizes
halved_le : (b : Bool) (n : ℕ) → halved_if b n ≤ n
halved_le true n = omega arith
halved_le false n = omega arith

halved_mono : (b : Bool) {m n : ℕ} → m ≤ n → halved_if b m ≤ halved_if b n
halved_mono true h = omega arith
halved_mono false h = h

some_sides : (a b : ℕ) → 1 ≤ a * b → (1 ≤ a) × (1 ≤ b)
some_sides zero b h = absurd (omega arith)
some_sides (suc a) zero h = absurd (omega (arith, mul-zero (suc a)))
some_sides (suc a) (suc b) h = omega arith

sides : (s : Settings) (z : Size) → s.dwt_depth + s.dwt_depth_ho ≤ deepest → z.width ≤ side_limit → z.height ≤ side_limit → 1 ≤ area z
    → padded_area s z ≤ area_limit → Sized s z
sides s z d w h a r =
    let k = s.dwt_depth_ho in
    let n = s.dwt_depth in
    let e = some_sides z.width z.height a in
    let p = padded-wide k n z in
    let q = padded-high k n z in
    record {
      width = record { some = e.0; few = w };
      height = record { some = e.1; few = h };
      padded_width = record { some = omega arith; few = wide_few k n z (omega arith) w };
      padded_height = record { some = omega arith; few = high_few k n z (omega arith) h };
      padded-area = record { some = mul-pos {m = (padded_size k n z).width} {n = (padded_size k n z).height} (omega arith) (omega arith); few = r };
    }

pub luma-fits : (s : Settings) → ((luma_size s).width ≤ s.frame_width) × ((luma_size s).height ≤ s.frame_height)
unfolding luma_size
luma-fits s = (omega arith, halved_le (fields s) s.frame_height)

-- a colour component is no larger than luma
pub colour-fits : (s : Settings) → ((colour_size s).width ≤ (luma_size s).width) × ((colour_size s).height ≤ (luma_size s).height)
unfolding luma_size colour_size
colour-fits s = (
  halved_le (ltb 0 s.color_diff_format) s.frame_width,
  halved_mono (fields s) (halved_le (eqb s.color_diff_format 2) s.frame_height),
)

pub colour-most : (s : Settings) → padded_area s (colour_size s) ≤ padded_area s (luma_size s)
colour-most s = let c = colour-fits s in padded_mono s.dwt_depth_ho s.dwt_depth (colour_size s) (luma_size s) c.0 c.1

-- ---- the version
-- below 3 the wavelets are one and the same, and there is no horizontal-only level
pub plain : (s : Settings) → major_version s < 3 → (s.wavelet_index_ho ≡ s.wavelet_index) × (s.dwt_depth_ho ≡ 0)
unfolding major_version
plain s h =
    let asymmetric = both (same s.wavelet_index s.wavelet_index_ho) (same s.dwt_depth_ho 0) in
    let e = asymmetric.0 ((or-none s.extended _).0 (by _ s.kind h)).1 in
    (sym e.0, e.1)
  where
    by : (b : Bool) (k : PictureKind) → version_by b k < 3 → b ≡ false
    by true k g = absurd (omega arith)
    by false LowDelay g = refl
    by false HighQuality g = refl

-- ---- what follows for a valid call
-- depths of samples, from which offset_range gives the offsets
pub record DepthsFit (d : Three ℕ) : Type 0 where
  pub y : Between 16 d.y
  pub c1 : Between 16 d.c1
  pub c2 : Between 16 d.c2

module _ {s : Settings} {m : List ℕ} {p : Three (List ℕ)} {work : List ℤ} (v : Valid s m p work) where
  pub luma_sides : Sized s (luma_size s)
  luma_sides = let f = luma-fits s in sides s (luma_size s) (levels_few s v.shape) (omega (arith, v.frame.width)) (omega (arith, v.frame.height)) v.frame.luma-some v.padded

  pub colour_sides : Sized s (colour_size s)
  colour_sides =
      let f = luma-fits s in
      let c = colour-fits s in
      sides s (colour_size s) (levels_few s v.shape) (omega (arith, v.frame.width)) (omega (arith, v.frame.height)) v.frame.colour-some
      (le_trans (colour-most s) v.padded)

  -- ---- sample depths
  pub sample_depths : DepthsFit (depths_of s)
  unfolding depths_of
  sample_depths =
      let l = depth_range s.luma_excursion v.frame.luma in
      let c = depth_range s.color_diff_excursion v.frame.colour in
      record { y = l; c1 = c; c2 = c }

  -- ---- slices
  pub slice_count_lem : Between slice_limit (slice_count (grid_of s))
  slice_count_lem = record {
    some = mul-pos {m = s.slices_y} {n = s.slices_x} v.shape.down.some v.shape.across.some;
    few = omega (arith, v.shape.slices, mul_comm s.slices_x s.slices_y);
  }

  -- ---- the matrix
  carried_fits : CarriedFits (subband_count s.dwt_depth_ho s.dwt_depth) (carried_matrix s m) (default_of s)
  unfolding carried_matrix
  carried_fits = by s.custom_matrix (default_of s) v.matrix
    where
      by : (c : Bool) (d : Option (List ℕ)) → MatrixFits s m c d
          → CarriedFits (subband_count s.dwt_depth_ho s.dwt_depth) (elim c [ true ↦ some m | false ↦ none ]) d
      by true d h = h.0
      by false none h = h
      by false (some vs) h = h

  -- ---- the parameters, with slice parameters q of a kind
  pub legal : (kind : PictureKind) (q : SliceParameters) → SliceFits kind q → Legal (major_version s) kind (parameters_by s m q)
  legal kind q f = record {
    wavelet = v.shape.wavelet;
    wavelet-ho = v.shape.wavelet-ho;
    plain = plain s;
    across = v.shape.across.some;
    down = v.shape.down.some;
    slice_parameters = f;
    matrix = carried_fits;
  }
