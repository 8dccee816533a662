-- What coding needs of an accepted call, for both kinds of picture: its conditions, where its bands stand, and how a
-- unit is put together.
use Rattle.std.specs.Prelude.{◌≡◌, Bool, true, false, ℕ, zero, suc, ◌+◌, ◌*◌, ◌-◌, ◌^◌, ◌≤◌, ◌<◌, ℤ, drop, take, get_or, replicate, Ok, Err}
use Rattle.std.proofs.Math.Path.{refl}
use Rattle.std.proofs.Common.{sym, ap, ap₂, ◌∙◌, subst, mul_comm, length-append, length-drop, take_at, drop_at, drop-drop}
use mathlib.Core.List.{List, [], ◌∷◌, ◌++◌, append_assoc, append-nil, flatten}
use Rattle.std.proofs.Math.Option
use Rattle.std.proofs.Math.Option.{Option, none, some}
use native.Mathlib.Omega.{arith}
use Rattle.std.proofs.Math.ListN.{length, get_or-append}
use Rattle.std.proofs.lemmas.List.{length-replicate}
use Rattle.laws.specs.Rows.{span}
use Rattle.laws.specs.Laws.Rows.{span-suc}
use Rattle.laws.specs.Code.Chunks.{chunks}
use Rattle.laws.specs.Code.Laid.{Lays}
use Rattle.laws.specs.Laws.Laid.{laid_is}
use Rattle.codewords.specs.Bytes.{to_bytes}
use Rattle.quantiser.specs.Code.Default.{matrix_places, places}
use Rattle.wavelet.specs.Lifting.{exact}
use Rattle.wavelet.specs.Pad.{padded}
use Rattle.unit.specs.declared.Settings.{Settings}
use Rattle.unit.specs.declared.Coded.{Coded}
use Rattle.refusals.specs.declared.Refusal.{Refusal}
use Rattle.refusals.specs.Number.{number, refusal_by}
use Rattle.refusals.specs.Laws.Number.{by_number, number_some}
use Rattle.unit.specs.Limits.{slice_limit}
use Rattle.unit.specs.Three.{Three}
use Rattle.unit.specs.Sizes.{Size, luma_size, colour_size, depths_of, offset_of}
use Rattle.unit.specs.Slices.{slice_count}
use Rattle.unit.specs.Subbands.{subband_count}
use Rattle.unit.specs.Matrix.{default_of, matrix_values}
use Rattle.unit.proofs.Laws.Matrix.{MatrixIf, default_matrix_lem, plan-same}
use Rattle.unit.specs.Parameters.{overhead}
use Rattle.unit.specs.Coefficients.{bands_of, coefficients_of}
use Rattle.unit.specs.Plan.{SlicePlan, Plan}
use Rattle.unit.specs.Unit.{major_version, grid_of, plan_of, slice_runs, head_bits, length_of, unit_of}
use Rattle.unit.proofs.Laws.Unit.{length-unit}
use Rattle.unit.specs.Outcome.{Answer, coded_of, coding_refusal}
use Rattle.unit.proofs.Laws.Demand.{not-long}
use Rattle.unit.specs.Code.Valid.{MatrixFits, Valid, Sized}
use Rattle.unit.proofs.Laws.Valid.{levels_few, luma_sides, colour_sides}
use Rattle.picture.specs.declared.front.matrix.Carried.{Carried}
use Rattle.picture.specs.Code.Matrix.{lent_in, Carries, CarriedOf}
use Rattle.picture.specs.Code.Head.{CanCarry}
use Rattle.picture.specs.Code.Strip.{Small}
use Rattle.picture.specs.Code.Layout.{band_count, grid_in, LayoutIn, ComponentIn}
use Rattle.picture.specs.Laws.Number.{Bands, bands_are}
use Rattle.picture.specs.Code.Analysed.{Holds, luma_area, colour_area, front_of, component_at, layout_of, picture_of, Called, Ready, Analysed}
use Rattle.picture.specs.Code.Picture.{slices_in, Placed, Arranged}
use Rattle.picture.specs.Code.Coded.{answer_by, output_by, Codes}

-- ---- an accepted call
module _ {s : Settings} {m : List ℕ} {p : Three (List ℕ)} {w : List ℤ} (v : Valid s m p w) where
  -- with the matrix that is made of the lent one
  pub called : {c : Carried} → CarriedOf s m c → Called s (lent_in c)
  called o = record { shape = v.shape; rate = v.rate; matrix = o.fits; luma = luma_sides v; colour = colour_sides v }

  pub ready : Ready s p w
  ready = record { shape = v.shape; frame = v.frame; lent = v.lent; luma = luma_sides v; colour = colour_sides v }

-- ---- the matrix
values_by_lem : (s : Settings) (m : List ℕ) (n : ℕ) (c : Bool) (d : Option (List ℕ)) → n ≡ subband_count s.dwt_depth_ho s.dwt_depth → MatrixFits s m c d
    → MatrixIf s.dwt_depth_ho s.dwt_depth d
    → length {A = ℕ} (elim c [ true ↦ m | false ↦ Option.get_or d [] ]) ≡ n
values_by_lem s m n true d e h g = h.0 ∙ sym e
values_by_lem s m n false none e h g = absurd h
values_by_lem s m n false (some vs) e h g = g.many ∙ sym e

pub called_carry : {s : Settings} {k : Carried} → Carries s k → Called s (lent_in k) → CanCarry s k
called_carry h c = record { carries = h; shape = c.shape }

module _ {s : Settings} {m : List ℕ} (c : Called s m) where
  -- as many values as there are subbands
  pub values_many : length (matrix_values s m) ≡ subband_count s.dwt_depth_ho s.dwt_depth
  unfolding matrix_values
  values_many =
      values_by_lem s m (subband_count s.dwt_depth_ho s.dwt_depth) s.custom_matrix (default_of s) refl c.matrix
      (default_matrix_lem s.dwt_depth s.dwt_depth_ho s.wavelet_index s.wavelet_index_ho)

  places_many : length (places (matrix_values s m)) ≡ matrix_places
  places_many =
      let vs = matrix_values s m in
      let n : ℕ = matrix_places - length vs in
      omega (arith, length-append vs (replicate n 0), length-replicate {A = ℕ} n 0, values_many, levels_few s c.shape)

  pub values_are : (n : ℕ) → n < band_count (layout_of s m) → get_or (layout_of s m).values n 0 ≡ get_or (matrix_values s m) n 0
  unfolding layout_of
  values_are n h =
      let vs = matrix_values s m in
      get_or-append vs (replicate (matrix_places - length vs) 0) 0 n (omega (arith, values_many))

  -- ---- the picture
  pub front_few : front_of s + front_of s < 2 ^ 30
  front_few = omega (arith, c.luma.padded-area.few, c.colour.padded-area.few)

  component_in : (z : Size) → Sized s z → (coefs rebuilt : ℕ) → coefs < 2 ^ 30 → rebuilt < 2 ^ 30 → ComponentIn (component_at s z coefs rebuilt)
  component_in z f coefs rebuilt a b = record {
    width = f.padded_width.few;
    height = f.padded_height.few;
    coefs = a;
    rebuilt = b;
  }

  layout_in : LayoutIn (layout_of s m)
  unfolding layout_of
  layout_in = record {
    depths = levels_few s c.shape;
    across = (c.shape.across.some, c.shape.across.few);
    down = (c.shape.down.some, c.shape.down.few);
    values = places_many;
  }

  pub count_few : slice_count (grid_of s) ≤ slice_limit
  count_few = omega (arith, c.shape.slices, mul_comm s.slices_x s.slices_y)

  slices_few : slices_in (picture_of s m) ≤ slice_limit
  unfolding picture_of layout_of
  slices_few = count_few

  placed_y : Placed (picture_of s m) (picture_of s m).y
  unfolding picture_of
  placed_y = record {
    fits = component_in (luma_size s) c.luma (front_of s) 0 (omega (arith, front_few)) (omega arith);
    area = c.luma.padded-area.few;
    coefs = (omega arith, omega arith);
    rebuilt = omega arith;
  }

  placed_c1 : Placed (picture_of s m) (picture_of s m).c1
  unfolding picture_of
  placed_c1 = record {
    fits = component_in (colour_size s) c.colour (front_of s + luma_area s) (luma_area s) (omega (arith, front_few)) (omega (arith, front_few));
    area = c.colour.padded-area.few;
    coefs = (omega arith, omega arith);
    rebuilt = omega arith;
  }

  placed_c2 : Placed (picture_of s m) (picture_of s m).c2
  unfolding picture_of
  placed_c2 = record {
    fits = component_in (colour_size s) c.colour (front_of s + (luma_area s + colour_area s)) (luma_area s + colour_area s) (omega (arith, front_few)) (omega (arith, front_few));
    area = c.colour.padded-area.few;
    coefs = (omega arith, omega arith);
    rebuilt = omega arith;
  }

  behind : ((picture_of s m).y.rebuilt + (picture_of s m).y.width * (picture_of s m).y.height ≤ (picture_of s m).c1.rebuilt)
      × ((picture_of s m).c1.rebuilt + (picture_of s m).c1.width * (picture_of s m).c1.height ≤ (picture_of s m).c2.rebuilt)
  unfolding picture_of
  behind = (omega arith, omega arith)

  colours_alike : ((picture_of s m).c2.width ≡ (picture_of s m).c1.width) × ((picture_of s m).c2.height ≡ (picture_of s m).c1.height)
  unfolding picture_of
  colours_alike = (refl, refl)

  layout_of_lem : LayoutIn (picture_of s m).layout
  unfolding picture_of
  layout_of_lem = layout_in

  pub called_arranged : Arranged (picture_of s m)
  called_arranged = record {
    layout = layout_of_lem;
    slices = slices_few;
    y = placed_y;
    c1 = placed_c1;
    c2 = placed_c2;
    wide = colours_alike.0;
    high = colours_alike.1;
    behind_y = behind.0;
    behind_c1 = behind.1;
  }

-- ---- slices, bands and coefficients of the call's picture
module _ (s : Settings) (m : List ℕ) where
  pub grid_is : grid_in (picture_of s m).layout ≡ grid_of s
  unfolding picture_of layout_of
  grid_is = refl

  pub slices_are : slices_in (picture_of s m) ≡ slice_count (grid_of s)
  slices_are = ap slice_count grid_is

  -- the matrix's values, of the picture's layout
  pub values_in_lem : Called s m → (n : ℕ) → n < band_count (picture_of s m).layout → get_or (picture_of s m).layout.values n 0 ≡ get_or (matrix_values s m) n 0
  unfolding picture_of
  values_in_lem c n h = values_are c n h

  pub bands_y : (p : Three (List ℕ)) → Bands (picture_of s m).layout (picture_of s m).y (coefficients_of s p).y
  unfolding picture_of layout_of coefficients_of bands_of
  bands_y p =
      let z = luma_size s in
      bands_are exact s.wavelet_index_ho s.wavelet_index (layout_of s m) (component_at s z (front_of s) 0)
      (padded p.y (offset_of (depths_of s).y) z.width z.height)

  pub bands_c1 : (p : Three (List ℕ)) → Bands (picture_of s m).layout (picture_of s m).c1 (coefficients_of s p).c1
  unfolding picture_of layout_of coefficients_of bands_of
  bands_c1 p =
      let z = colour_size s in
      bands_are exact s.wavelet_index_ho s.wavelet_index (layout_of s m) (component_at s z (front_of s + luma_area s) (luma_area s))
      (padded p.c1 (offset_of (depths_of s).c1) z.width z.height)

  pub bands_c2 : (p : Three (List ℕ)) → Bands (picture_of s m).layout (picture_of s m).c2 (coefficients_of s p).c2
  unfolding picture_of layout_of coefficients_of bands_of
  bands_c2 p =
      let z = colour_size s in
      bands_are exact s.wavelet_index_ho s.wavelet_index (layout_of s m) (component_at s z (front_of s + (luma_area s + colour_area s)) (luma_area s + colour_area s))
      (padded p.c2 (offset_of (depths_of s).c2) z.width z.height)

  pub small_by : {w : List ℤ} → Small (front_of s) (front_of s + front_of s) w → Small (picture_of s m).front (picture_of s m).end w
  unfolding picture_of
  small_by h = h

  module _ {p : Three (List ℕ)} {w : List ℤ} (a : Analysed s p w) where
    pub holds_y : Holds w (picture_of s m).y.coefs (coefficients_of s p).y
    unfolding picture_of
    holds_y = a.y

    pub holds_c1 : Holds w (picture_of s m).c1.coefs (coefficients_of s p).c1
    unfolding picture_of
    holds_c1 = a.c1

    pub holds_c2 : Holds w (picture_of s m).c2.coefs (coefficients_of s p).c2
    unfolding picture_of
    holds_c2 = a.c2

-- ---- the matrix that is made of the lent one gives the call's plan
pub codes-lent : {s : Settings} {m : List ℕ} {c : Carried} {out out' : List ℕ} {r : Answer} (p : Three (List ℕ)) → CarriedOf s m c
    → Codes s (plan_of s (lent_in c) p) out out' r → Codes s (plan_of s m p) out out' r
codes-lent {s} {m} {c} {out} {out'} {r} p o h =
    subst (λ (a : Plan). Codes s a out out' r) (plan-same s (lent_in c) m p o.matrix o.values) h

-- ---- the slices' bytes
pub flatten_snoc : (ss : List SlicePlan) (a : SlicePlan) → flatten (slice_runs (ss ++ (a ∷ []))) ≡ flatten (slice_runs ss) ++ to_bytes a.bits
unfolding flatten
flatten_snoc [] a = append-nil (to_bytes a.bits)
flatten_snoc (b ∷ ss) a =
    ap (λ (r : List ℕ). to_bytes b.bits ++ r) (flatten_snoc ss a)
    ∙ sym (append_assoc (to_bytes b.bits) (flatten (slice_runs ss)) (to_bytes a.bits))

pub flatten-span : (f : ℕ → SlicePlan) (n : ℕ) → flatten (slice_runs (span f 0 n)) ≡ chunks (λ k. to_bytes (f k).bits) n
unfolding flatten chunks
flatten-span f zero = refl
flatten-span f (suc n) =
    let e : 0 + n ≡ n = omega arith in
    ap (λ (ss : List SlicePlan). flatten (slice_runs ss)) (span-suc f 0 n)
    ∙ flatten_snoc (span f 0 n) (f (0 + n))
    ∙ ap₂ ◌++◌ (flatten-span f n) (ap (λ (k : ℕ). to_bytes (f k).bits) e)

-- ---- a unit in the output
module _ (s : Settings) (a : Plan) where
  abbrev runs : List ℕ
  runs = flatten (slice_runs a.slices)

  abbrev head : List ℕ
  head = to_bytes (head_bits s (length_of s a) a.parameters)

  pub unit_parts : unit_of s a ≡ to_bytes (head_bits s (length_of s a) a.parameters) ++ flatten (slice_runs a.slices)
  unfolding unit_of
  unit_parts = refl

  pub length_parts : length_of s a ≡ overhead (major_version s) a.parameters + length (flatten (slice_runs a.slices))
  unfolding length_of
  length_parts = refl

  head-long : length head ≡ overhead (major_version s) a.parameters
  head-long = omega (arith, ap length unit_parts, length-unit s a, length-append head runs, length_parts)

  module _ (out : List ℕ) where
    -- the head at the output's start
    module _ (n at : ℕ) (o : List ℕ) (fits : length_of s a ≤ length out) (en : n ≡ length_of s a) (ea : at ≡ overhead (major_version s) a.parameters)
        (eo : o ≡ to_bytes (head_bits s n a.parameters) ++ drop at out) where
      head_at : length head ≡ at
      head_at = head-long ∙ sym ea

      headed : o ≡ head ++ drop at out
      headed = eo ∙ ap (λ (n : ℕ). to_bytes (head_bits s n a.parameters) ++ drop at out) en

      slices_end : at + length runs ≡ length_of s a
      slices_end = omega (arith, length_parts)

      pub head_size : length o ≡ length out
      head_size = ap length headed ∙ omega (arith, length-append head (drop at out), length-drop at out, head_at, slices_end)

      -- there is room for the slices behind it
      pub slices_room : at + length (flatten (slice_runs a.slices)) ≤ length o
      slices_room = omega (arith, head_size, slices_end)

      -- with them it is the unit; the rest stays
      pub unit-laid : (r : ℕ) (o' : List ℕ) → Lays o at (flatten (slice_runs a.slices)) o' r → o' ≡ unit_of s a ++ drop (length_of s a) out
      unit-laid r o' l =
          let t : take at o ≡ head = ap (take at) headed ∙ take_at head (drop at out) at head_at in
          let d : drop at o ≡ drop at out = ap (drop at) headed ∙ drop_at head (drop at out) at head_at in
          let b : drop (at + length runs) o ≡ drop (length_of s a) out =
          sym (drop-drop (length runs) at o) ∙ ap (drop (length runs)) d ∙ drop-drop (length runs) at out ∙ ap (λ (k : ℕ). drop k out) slices_end in
          l.is ∙ laid_is o at runs slices_room ∙ ap₂ (λ (u v : List ℕ). (u ++ runs) ++ v) t b
          ∙ ap (λ (u : List ℕ). u ++ drop (length_of s a) out) (sym unit_parts)

    -- answer and output where coding refuses the unit, and where it is written
    pub codes_refused : (r : Refusal) → number r ≡ coding_refusal (length out) (length_of s a) → Codes s a out out (Err r)
    codes_refused r e = record {
      answer = by (coding_refusal (length out) (length_of s a)) e;
      output = left (coding_refusal (length out) (length_of s a)) e;
    }
      where
        by : (n : ℕ) → number r ≡ n → Err r ≡ answer_by s a n
        by zero q = absurd (omega (arith, q, number_some r))
        by (suc n) q = ap Err (sym (ap refusal_by (sym q) ∙ by_number r))

        left : (n : ℕ) → number r ≡ n → out ≡ output_by s a out n
        left zero q = absurd (omega (arith, q, number_some r))
        left (suc n) q = refl

    pub codes_written : (n at r : ℕ) (o o' : List ℕ) (c : Coded) → coding_refusal (length out) (length_of s a) ≡ 0 → n ≡ length_of s a
        → at ≡ overhead (major_version s) a.parameters → o ≡ to_bytes (head_bits s n a.parameters) ++ drop at out
        → Lays o at (flatten (slice_runs a.slices)) o' r → c ≡ coded_of s a → Codes s a out o' (Ok c)
    codes_written n at r o o' c e en ea eo l ec = record {
      answer = ap Ok ec ∙ ap (answer_by s a) (sym e);
      output = unit-laid n at o (not-long (length out) (length_of s a) e).0 en ea eo r o' l ∙ ap (output_by s a out) (sym e);
    }
