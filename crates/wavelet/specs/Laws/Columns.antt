-- A lifting stage of every column of a plane, row by row, and all stages of a filter.
use Rattle.std.specs.Prelude.{◌≡◌, ℕ, ◌+◌, ◌-◌, ◌*◌, ◌/◌, ◌%◌, ◌<◌, ◌≤◌, Bool, not, ◌≢◌, List, length, drop, ℤ, pos, slice_index, refl}
use Rattle.std.proofs.Math.Path.{sym, ap, ap₂}
use Rattle.std.proofs.Common.{◌∙◌, arith, one-mul, get_or-set_other}
use Rattle.std.proofs.Math.Decide.{ℕ_discrete}
use Rattle.std.proofs.Math.Arith.{digits_lt, digits_div, digits_mod}
use Rattle.laws.specs.Wrap.{wrap}
use Rattle.laws.specs.Rows.{at, row}
use Rattle.laws.specs.Laws.Rows.{at_row, span_ext, length-span}
use Rattle.laws.specs.Plane.{Plane, turned, as_plane, as_list}
use Rattle.laws.specs.Laws.Plane.{as_list_cong, Agree}
use Rattle.wavelet.specs.Lifting.{Stage, place, dot, scaled, delta, change, lifted, analysis}
use Rattle.wavelet.specs.Laws.Lifting.{place_law, dot_ext, lifted-zero, lifted-next, hit, here_old, reads_old, length-analysis, analysis-none}
use Rattle.wavelet.specs.Filters.{filter_of}
use Rattle.wavelet.specs.Planes.{of_rows, rows_by, columns_by}
use Rattle.wavelet.specs.Laws.Plane.{rows_at, columns_cong, columns_again}
use Rattle.wavelet.specs.Laws.PlaneLists.{list_is, plane_is}
use Rattle.wavelet.specs.Code.Table.{stage_of, stage_at}
use Rattle.wavelet.specs.Code.Run.{Placed, taps_to, value_of, ran, RunIn}
use Rattle.wavelet.specs.Laws.Table.{count_le, taps_long}
use Rattle.wavelet.specs.Laws.Run.{ran_other, ran-at, length-ran, analysis-turn}
use Rattle.wavelet.specs.declared.stage.LiftStage.{LiftStage}

-- ---- columns
column-at : (A : List ℤ → List ℤ) (h w : ℕ) (f : Plane) (y x : ℕ) → x < w → columns_by A h w f y x ≡ at (A (row h (λ y. f y x))) y
column-at A h w f y x l = rows_at A w h (turned f) x y l

-- passes that agree on columns of h
columns_ext : (A B : List ℤ → List ℤ) (h w : ℕ) (f : Plane) → ((xs : List ℤ) → length xs ≡ h → A xs ≡ B xs) → columns_by A h w f ≡ columns_by B h w f
unfolding rows_by
columns_ext A B h w f e =
    ap (λ (ls : List (List ℤ)). turned (of_rows ls))
    (span_ext (λ x. A (row h (λ y. f y x))) (λ x. B (row h (λ y. f y x))) 0 w (λ x p q. e (row h (λ y. f y x)) (length-span (λ y. f y x) 0 h)))

-- a pass that changes nothing
columns-none : (A : List ℤ → List ℤ) (h w : ℕ) (f : Plane) → ((xs : List ℤ) → A xs ≡ xs) → Agree h w (columns_by A h w f) f
columns-none A h w f e = record {
  same = λ y x hy hx. column-at A h w f y x hx ∙ ap (λ (z : List ℤ). at z y) (e (row h (λ y. f y x))) ∙ at_row h (λ y. f y x) y hy;
}

-- ---- the columns' stage st after n of its updates
abbrev pub columns_after : Stage → Bool → ℕ → ℕ → ℕ → List ℤ → Plane
columns_after st plus n h w l = columns_by (lifted wrap st plus n) h w (as_plane w l)

pub record ColumnsLifted (st : Stage) (plus : Bool) (h w : ℕ) (l now : List ℤ) (n : ℕ) : Type 0 where
  pub n-le : n ≤ h / 2
  pub long : length now ≡ h * w
  pub now_is : Agree h w (as_plane w now) (columns_after st plus n h w l)

pub stage-none : (st : Stage) (plus : Bool) (h w : ℕ) (l : List ℤ) → length l ≡ h * w → ColumnsLifted st plus h w l l 0
stage-none st plus h w l e = record {
  n-le = omega arith;
  long = e;
  now_is = record { same = λ y x hy hx. sym ((columns-none (lifted wrap st plus 0) h w (as_plane w l) (λ xs. sym (lifted-zero wrap st plus xs))).same y x hy hx) };
}

module _ (s : LiftStage) (plus : Bool) (h w : ℕ) (l now : List ℤ) (n : ℕ) (o : List ℕ) (inv : ColumnsLifted (stage_of s) plus h w l now n) (more : n < h / 2)
    (placed : Placed (stage_of s) h n w o) where
  side : (stage_of s).to ≤ 1
  unfolding stage_of
  side = s.side

  abbrev to : ℕ
  to = (stage_of s).to

  place-lt : (j : ℕ) → place (stage_of s) h n j < h
  place-lt j = (place_law (stage_of s) h n j side more).inside

  read_is : (j x : ℕ) → j < s.count → slice_index o j + 1 * x ≡ place (stage_of s) h n j * w + x
  read_is j x hj = ap₂ ◌+◌ (placed.is j (omega (arith, count_le s))) (one-mul x)

  pub column-runs : RunIn now s.count o ((2 * n + to) * w) w 1
  column-runs = record {
    long = placed.long;
    steps = omega arith;
    inside = λ x j hx hj. rw (read_is j x hj, inv.long) (digits_lt (place-lt j) hx);
    writes = λ x hx. rw (one-mul x, inv.long) (digits_lt (omega (arith, side)) hx);
    later = λ y x j hy hx hj e.
        let f : place (stage_of s) h n j * w + x ≡ (2 * n + to) * w + y = sym (read_is j x hj) ∙ e ∙ ap (λ (z : ℕ). (2 * n + to) * w + z) (one-mul y) in
        let g : x ≡ y = sym (digits_mod (place (stage_of s) h n j) hx) ∙ ap (λ (z : ℕ). z % w) f ∙ digits_mod (2 * n + to) (omega arith) in
        omega arith;
  }

  module _ (x : ℕ) (hx : x < w) where
    abbrev column : List ℤ
    column = row h (λ y. as_plane w l y x)

    column-long : length column ≡ h
    column-long = length-span (λ y. as_plane w l y x) 0 h

    more_here : n < length column / 2
    more_here = rw column-long more

    now_at : (y : ℕ) → y < h → at now (y * w + x) ≡ at (lifted wrap (stage_of s) plus n column) y
    now_at y hy = inv.now_is.same y x hy hx ∙ column-at (lifted wrap (stage_of s) plus n) h w (as_plane w l) y x hx

    -- the number that is updated
    value_is : value_of (stage_of s) plus o ((2 * n + to) * w) (1 * x) now ≡ at (lifted wrap (stage_of s) plus (n + 1) column) (2 * n + to)
    unfolding delta
    value_is =
        let st = stage_of s in
        let here : at now ((2 * n + to) * w + 1 * x) ≡ at column (2 * n + to) =
        ap (λ (z : ℕ). at now ((2 * n + to) * w + z)) (one-mul x) ∙ now_at (2 * n + to) (omega (arith, side)) ∙ here_old wrap st plus column n n side (omega arith) more_here in
        let sums : taps_to st.taps o (1 * x) now (length st.taps) ≡ dot wrap (at st.taps) (λ j. at column (place st (length column) n j)) (length st.taps) =
        dot_ext wrap (at st.taps) (at st.taps) (λ j. at now (slice_index o j + 1 * x)) (λ j. at column (place st (length column) n j)) (length st.taps) (λ j hj. refl)
        (λ j hj. ap (at now) (read_is j x (rw (taps_long s) at hj)) ∙ now_at (place st h n j) (place-lt j)
        ∙ ap (λ (z : ℕ). at (lifted wrap st plus n column) (place st z n j)) (sym column-long) ∙ reads_old wrap st plus n n column side (omega arith) more_here j) in
        ap₂ (change wrap plus) here (ap (scaled wrap st) sums) ∙ sym (hit wrap st plus (n + 1) n column side (omega arith) (rw column-long (omega (arith, side))))

    -- a number that is not updated
    same_is : (y : ℕ) → y ≢ 2 * n + to → at (lifted wrap (stage_of s) plus n column) y ≡ at (lifted wrap (stage_of s) plus (n + 1) column) y
    same_is y d =
        let st = stage_of s in
        let v = change wrap plus (at column (2 * n + to)) (delta wrap st column n) in
        sym (ap (λ (z : List ℤ). at z y) (sym (lifted-next wrap st plus column n side more_here)) ∙ get_or-set_other (lifted wrap st plus n column) (2 * n + to) y v (pos 0) d)

  pub column-turn : (new : List ℤ) → new ≡ ran (stage_of s) plus o ((2 * n + to) * w) 1 w now → ColumnsLifted (stage_of s) plus h w l new (n + 1)
  column-turn new e = record {
    n-le = omega arith;
    long = ap length e ∙ length-ran (stage_of s) plus o ((2 * n + to) * w) 1 w now ∙ inv.long;
    now_is = record { same = λ y x hy hx. by y x hy hx (ℕ_discrete y (2 * n + to)) };
  }
    where
      by : (y x : ℕ) → y < h → x < w → Dec (y ≡ 2 * n + to) → at new (y * w + x) ≡ columns_after (stage_of s) plus (n + 1) h w l y x
      by y x hy hx (yes d) =
          let st = stage_of s in
          let p : ℕ = (2 * n + to) * w in
          ap (λ (z : List ℤ). at z (y * w + x)) e ∙ ap (λ (z : ℕ). at (ran st plus o p 1 w now) (z * w + x)) d
          ∙ ap (λ (z : ℕ). at (ran st plus o p 1 w now) (p + z)) (sym (one-mul x))
          ∙ ran-at st plus o p 1 w x now (omega arith) hx (column-runs.writes x hx)
          ∙ value_is x hx ∙ ap (at (lifted wrap st plus (n + 1) (column x hx))) (sym d)
          ∙ sym (column-at (lifted wrap st plus (n + 1)) h w (as_plane w l) y x hx)
      by y x hy hx (no d) =
          let st = stage_of s in
          let p : ℕ = (2 * n + to) * w in
          ap (λ (z : List ℤ). at z (y * w + x)) e
          ∙ ran_other st plus o p 1 w (y * w + x) now
          (λ k hk f. d (sym (digits_div y hx) ∙ ap (λ (z : ℕ). z / w) (f ∙ ap (λ (z : ℕ). p + z) (one-mul k)) ∙ digits_div (2 * n + to) hk))
          ∙ now_at x hx y hy ∙ same_is x hx y d
          ∙ sym (column-at (lifted wrap st plus (n + 1)) h w (as_plane w l) y x hx)

pub stage_all : (st : Stage) (plus : Bool) (h w : ℕ) (l now : List ℤ) (n : ℕ) → ColumnsLifted st plus h w l now n → h / 2 ≤ n
    → now ≡ as_list h w (columns_by (lifted wrap st plus (h / 2)) h w (as_plane w l))
stage_all st plus h w l now n inv e =
    let f : n ≡ h / 2 = omega (arith, inv.n-le) in
    list_is h w now (columns_after st plus (h / 2) h w l) inv.long (rw f at inv.now_is)

-- ---- all stages of filter i, from stage k on
pub columns-first : (i h w : ℕ) (l : List ℤ) → length l ≡ h * w → l ≡ as_list h w (columns_by (analysis wrap (drop (length (filter_of i).stages) (filter_of i).stages)) h w (as_plane w l))
columns-first i h w l e =
    let ss = (filter_of i).stages in
    list_is h w l (columns_by (analysis wrap (drop (length ss) ss)) h w (as_plane w l)) e
    (record { same = λ y x hy hx. sym ((columns-none (analysis wrap (drop (length ss) ss)) h w (as_plane w l) (λ xs. analysis-none wrap ss xs)).same y x hy hx) })

pub columns-turn : (i k : ℕ) (s : LiftStage) (h w : ℕ) (l now new : List ℤ) → i ≤ 6 → 0 < k → k ≤ length (filter_of i).stages → stage_of s ≡ stage_at (2 * i + (k - 1))
    → now ≡ as_list h w (columns_by (analysis wrap (drop k (filter_of i).stages)) h w (as_plane w l))
    → new ≡ as_list h w (columns_by (lifted wrap (stage_of s) (not s.adds) (h / 2)) h w (as_plane w now))
    → new ≡ as_list h w (columns_by (analysis wrap (drop (k - 1) (filter_of i).stages)) h w (as_plane w l))
columns-turn i k s h w l now new hi hk hl es en ew =
    let ss = (filter_of i).stages in
    let f : Plane = as_plane w l in
    let A : List ℤ → List ℤ = analysis wrap (drop k ss) in
    let B : List ℤ → List ℤ = lifted wrap (stage_of s) (not s.adds) (h / 2) in
    let C : List ℤ → List ℤ = analysis wrap (drop (k - 1) ss) in
    let seen : Agree h w (as_plane w now) (columns_by A h w f) = rw (← en) at (plane_is h w (columns_by A h w f)) in
    let one : (xs : List ℤ) → length xs ≡ h → B (A xs) ≡ C xs = λ xs e.
    analysis-turn i k s xs (A xs) (B (A xs)) hi hk hl es refl (ap (λ (m : ℕ). lifted wrap (stage_of s) (not s.adds) (m / 2) (A xs)) (sym (length-analysis wrap (drop k ss) xs ∙ e))) in
    ew ∙ ap (as_list h w) (columns_cong B h w (as_plane w now) (columns_by A h w f) seen)
    ∙ as_list_cong h w (columns_by B h w (columns_by A h w f)) (columns_by (λ xs. B (A xs)) h w f) (columns_again A B h w f (length-analysis wrap (drop k ss)))
    ∙ ap (as_list h w) (columns_ext (λ xs. B (A xs)) C h w f one)
