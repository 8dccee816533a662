-- Level after level: what the walk leaves are the definition's bands.
use Rattle.std.specs.Prelude.{◌≡◌, ℕ, zero, suc, ◌+◌, ◌-◌, ◌*◌, ◌/◌, ◌%◌, ◌<◌, ◌≤◌, List, [], ◌∷◌, ◌++◌, length, take, drop, ℤ, refl}
use Rattle.std.proofs.Common.{subst₂, sym, ap, ap₂, ◌∙◌, arith, mul-le-mul, append-nil, length-append, length-drop, take_at, drop_at}
use Rattle.laws.specs.Wrap.{wrap}
use Rattle.laws.specs.Code.Window.{piece, put}
use Rattle.laws.specs.Laws.Window.{length-piece, put_self, put_inner, piece_inner}
use Rattle.laws.specs.Plane.{Plane, as_plane, as_list}
use Rattle.laws.specs.Laws.Plane.{length-as_list, as_list_back}
use Rattle.wavelet.specs.Planes.{coefficients, h_pass, vh_pass, part, part_h, dwt_h, dwt}
use Rattle.wavelet.specs.Laws.Plane.{coefficients-append, dwt_cong, quarters_size, halves_size, padded-both, padded-across}
use Rattle.wavelet.specs.Laws.PlaneLists.{plane_is}
use Rattle.wavelet.specs.Code.Level.{Place, EvenSides, EvenWidth, halves, quarters}
use Rattle.wavelet.specs.Code.Walk.{Deep}
use Rattle.wavelet.specs.declared.shape.Transform as Levels
use Rattle.wavelet.specs.declared.plane.Spot.{Spot}

-- the coefficients of the plane of h rows of w that a list is
abbrev pub coefficients_of : ℕ → ℕ → ℕ → ℕ → ℕ → ℕ → List ℤ → List ℤ
coefficients_of ih iv k d h w l = coefficients (dwt wrap ih iv k d h w (as_plane w l))

pub deep_both : (k d h w ih iv : ℕ) → 0 < d → Deep k d h w ih iv → EvenSides h w × Deep k (d - 1) (h / 2) (w / 2) ih iv
deep_both k zero h w ih iv z p = absurd (omega arith)
deep_both k (suc d) h w ih iv z p =
    let s = padded-both k d h w p.sides in
    let e : suc d - 1 ≡ d = omega arith in (
      record { high = s.0; wide = s.1.0; h_le = p.h_le; w_le = p.w_le },
      record { sides = rw e s.1.1; h_le = omega (arith, p.h_le); w_le = omega (arith, p.w_le); ih_le = p.ih_le; iv_le = p.iv_le },
    )

pub deep_across : (k d h w ih iv : ℕ) → d ≤ 0 → 0 < k → Deep k d h w ih iv → EvenWidth h w × Deep (k - 1) 0 h (w / 2) ih iv
deep_across zero d h w ih iv y z p = absurd (omega arith)
deep_across (suc k) (suc d) h w ih iv y z p = absurd (omega arith)
deep_across (suc k) zero h w ih iv y z p =
    let s = padded-across k h w p.sides in
    let e : suc k - 1 ≡ k = omega arith in (
      record { wide = s.0; h_le = p.h_le; w_le = p.w_le },
      record { sides = rw e s.1; h_le = p.h_le; w_le = omega (arith, p.w_le); ih_le = p.ih_le; iv_le = p.iv_le },
    )

pub quarter_area : (h w : ℕ) → h / 2 * (w / 2) ≤ h * w
quarter_area h w = mul-le-mul (omega arith) (omega arith)

pub half_area : (h w : ℕ) → h * (w / 2) ≤ h * w
half_area h w = mul-le-mul {n₁ = h} {m₁ = w / 2} {n₂ = h} {m₂ = w} (omega arith) (omega arith)

pub place_down : (n off m q : ℕ) (l new : List ℤ) → Place n off m l → q ≤ m → length new ≡ length l → Place n off q new
place_down n off m q l new p h e = record { room = omega (arith, p.room); fits = omega (arith, p.fits) }

-- ---- on the list of a plane
-- what is left of a level after its first band, and the deeper levels on that band
first_deeper : (ih iv k d a b : ℕ) (g : Plane) (rest m : List ℤ) → m ≡ as_list a b g ++ rest
    → (coefficients_of ih iv k d a b (take (a * b) m) ≡ coefficients (dwt wrap ih iv k d a b g)) × (drop (a * b) m ≡ rest)
first_deeper ih iv k d a b g rest m e =
    let long = length-as_list a b g in
    let t : take (a * b) m ≡ as_list a b g = ap (take (a * b)) e ∙ take_at (as_list a b g) rest (a * b) long in (
      ap (coefficients_of ih iv k d a b) t ∙ dwt_cong wrap ih iv k d a b (as_plane b (as_list a b g)) g (plane_is a b g),
      ap (drop (a * b)) e ∙ drop_at (as_list a b g) rest (a * b) long,
    )

both_list : (ih iv k d h w : ℕ) (f : Plane) → 0 < d
    → coefficients_of ih iv k (d - 1) (h / 2) (w / 2) (take (h / 2 * (w / 2)) (quarters h w (vh_pass wrap ih iv h w f)))
    ++ drop (h / 2 * (w / 2)) (quarters h w (vh_pass wrap ih iv h w f)) ≡ coefficients (dwt wrap ih iv k d h w f)
unfolding dwt
both_list ih iv k zero h w f z = absurd (omega arith)
both_list ih iv k (suc d) h w f z =
    let g = vh_pass wrap ih iv h w f in
    let a : ℕ = h / 2 in
    let b : ℕ = w / 2 in
    let rest = as_list a b (part 0 1 g) ++ (as_list a b (part 1 0 g) ++ as_list a b (part 1 1 g)) in
    let r = first_deeper ih iv k d a b (part 0 0 g) rest (quarters h w g) refl in
    let e : suc d - 1 ≡ d = omega arith in
    let tail : rest ≡ as_list a b (part 0 1 g) ++ (as_list a b (part 1 0 g) ++ (as_list a b (part 1 1 g) ++ [])) =
    ap (λ (z : List ℤ). as_list a b (part 0 1 g) ++ (as_list a b (part 1 0 g) ++ z)) (sym (append-nil (as_list a b (part 1 1 g)))) in
    rw e (ap₂ ◌++◌ r.0 (r.1 ∙ tail)
    ∙ sym (coefficients-append (dwt wrap ih iv k d a b (part 0 0 g))
    (record { high = a; wide = b; plane = part 0 1 g } ∷ record { high = a; wide = b; plane = part 1 0 g } ∷ record { high = a; wide = b; plane = part 1 1 g } ∷ [])))

across_list : (ih iv k d h w : ℕ) (f : Plane) → d ≤ 0 → 0 < k
    → coefficients_of ih iv (k - 1) 0 h (w / 2) (take (h * (w / 2)) (halves h w (h_pass wrap ih h w f)))
    ++ drop (h * (w / 2)) (halves h w (h_pass wrap ih h w f)) ≡ coefficients (dwt wrap ih iv k d h w f)
unfolding dwt dwt_h
across_list ih iv zero d h w f y z = absurd (omega arith)
across_list ih iv (suc k) (suc d) h w f y z = absurd (omega arith)
across_list ih iv (suc k) zero h w f y z =
    let g = h_pass wrap ih h w f in
    let b : ℕ = w / 2 in
    let r = first_deeper ih iv k 0 h b (part_h 0 g) (as_list h b (part_h 1 g)) (halves h w g) refl in
    let e : suc k - 1 ≡ k = omega arith in
    rw e (ap₂ ◌++◌ r.0 (r.1 ∙ sym (append-nil (as_list h b (part_h 1 g))))
    ∙ sym (coefficients-append (dwt_h wrap ih k h b (part_h 0 g)) (record { high = h; wide = b; plane = part_h 1 g } ∷ [])))

-- ---- on what lies behind the scratch
-- what lies behind the scratch, with D of the q numbers at off in their place
abbrev pub after : ℕ → ℕ → ℕ → (List ℤ → List ℤ) → List ℤ → List ℤ
after n off q D l = put off q (D (piece off q (drop n l))) (drop n l)

-- a level leaves the m numbers L, and the levels below take the first q of them
module _ (n off m q : ℕ) (l l1 L B : List ℤ) (p : Place n off m l) (small : q ≤ m) (long : length L ≡ m)
    (e1 : drop n l1 ≡ put off m L (drop n l)) (D : List ℤ → List ℤ) (all : D (take q L) ++ drop q L ≡ B) where
  step : after n off q D l1 ≡ put off m B (drop n l)
  step =
      let u = drop n l in
      let fit : off + m ≤ length u = rw (length-drop n l) (omega (arith, p.fits)) in
      let first : piece off q (drop n l1) ≡ take q L = ap (piece off q) e1 ∙ piece_inner off m L u fit long q small in
      ap₂ (λ (x y : List ℤ). put off q (D x) y) first e1 ∙ put_inner off m L u fit long q (D (take q L)) small ∙ ap (λ (x : List ℤ). put off m x u) all

length-quarters : (h w : ℕ) (g : Plane) → h % 2 ≡ 0 → w % 2 ≡ 0 → length (quarters h w g) ≡ h * w
length-quarters h w g eh ew = simp (length-append, length-as_list) (quarters_size h w eh ew)

length-halves : (h w : ℕ) (g : Plane) → w % 2 ≡ 0 → length (halves h w g) ≡ h * w
length-halves h w g ew = simp (length-append, length-as_list) (halves_size h w ew)

-- one level of the plane f both ways, and the walk on its first quarter
pub walk_both : (ih iv k d h w n off : ℕ) (f : Plane) (l l1 : List ℤ) → 0 < d → EvenSides h w → Place n off (h * w) l
    → drop n l1 ≡ put off (h * w) (quarters h w (vh_pass wrap ih iv h w f)) (drop n l)
    → after n off (h / 2 * (w / 2)) (coefficients_of ih iv k (d - 1) (h / 2) (w / 2)) l1 ≡ put off (h * w) (coefficients (dwt wrap ih iv k d h w f)) (drop n l)
walk_both ih iv k d h w n off f l l1 z e p e1 =
    let g = vh_pass wrap ih iv h w f in
    step n off (h * w) (h / 2 * (w / 2)) l l1 (quarters h w g) (coefficients (dwt wrap ih iv k d h w f)) p (quarter_area h w) (length-quarters h w g e.high e.wide) e1
    (coefficients_of ih iv k (d - 1) (h / 2) (w / 2)) (both_list ih iv k d h w f z)

-- one horizontal-only level, and the walk on its first half
pub walk_across : (ih iv k d h w n off : ℕ) (f : Plane) (l l1 : List ℤ) → d ≤ 0 → 0 < k → EvenWidth h w → Place n off (h * w) l
    → drop n l1 ≡ put off (h * w) (halves h w (h_pass wrap ih h w f)) (drop n l)
    → after n off (h * (w / 2)) (coefficients_of ih iv (k - 1) 0 h (w / 2)) l1 ≡ put off (h * w) (coefficients (dwt wrap ih iv k d h w f)) (drop n l)
walk_across ih iv k d h w n off f l l1 y z e p e1 =
    let g = h_pass wrap ih h w f in
    step n off (h * w) (h * (w / 2)) l l1 (halves h w g) (coefficients (dwt wrap ih iv k d h w f)) p (half_area h w) (length-halves h w g e.wide) e1
    (coefficients_of ih iv (k - 1) 0 h (w / 2)) (across_list ih iv k d h w f y z)

-- no level is left
pub no_level : (ih iv k d h w : ℕ) (f : Plane) → d ≤ 0 → k ≤ 0 → as_list h w f ≡ coefficients (dwt wrap ih iv k d h w f)
unfolding dwt dwt_h
no_level ih iv zero zero h w f y z = sym (append-nil (as_list h w f))
no_level ih iv (suc k) zero h w f y z = absurd (omega arith)
no_level ih iv k (suc d) h w f y z = absurd (omega arith)

-- ---- the loops
-- The plane of h rows of w in now, which has m numbers, has d levels both ways and k horizontal-only ones left, and
-- what these leave behind the scratch is end.
pub record Walks (n off ih iv m : ℕ) (end : List ℤ) (k d h w : ℕ) (now : List ℤ) : Type 0 where
  pub deep : Deep k d h w ih iv
  pub place : Place n off (h * w) now
  pub long : length now ≡ m
  pub same : after n off (h * w) (coefficients_of ih iv k d h w) now ≡ end

-- The levels of t of the plane that stood at s in l: its first band is the plane at p in now, and has d levels both ways
-- and k horizontal-only ones left.
abbrev pub WalksAt : Spot → Levels.Transform → List ℤ → ℕ → ℕ → Spot → List ℤ → Type 0
WalksAt s t l k d p now = Walks p.n p.off t.ih t.iv (length l) (after s.n s.off (s.h * s.w) (coefficients_of t.ih t.iv t.k t.d s.h s.w) l) k d p.h p.w now × (p.n ≡ s.n)

-- a turn with a level both ways
pub turn-both : (n off ih iv m : ℕ) (end : List ℤ) (k d h w : ℕ) (now new : List ℤ) → Walks n off ih iv m end k d h w now → length new ≡ length now → 0 < d
    → drop n new ≡ put off (h * w) (quarters h w (vh_pass wrap ih iv h w (as_plane w (piece off (h * w) (drop n now))))) (drop n now)
    → Walks n off ih iv m end k (d - 1) (h / 2) (w / 2) new
turn-both n off ih iv m end k d h w now new v long z e =
    let t = deep_both k d h w ih iv z v.deep in
    record {
      deep = t.1;
      place = place_down n off (h * w) (h / 2 * (w / 2)) now new v.place (quarter_area h w) long;
      long = long ∙ v.long;
      same = walk_both ih iv k d h w n off (as_plane w (piece off (h * w) (drop n now))) now new z t.0 v.place e ∙ v.same;
    }

-- a turn with a horizontal-only level
pub turn-across : (n off ih iv m : ℕ) (end : List ℤ) (k h w : ℕ) (now new : List ℤ) → Walks n off ih iv m end k 0 h w now → length new ≡ length now → 0 < k
    → drop n new ≡ put off (h * w) (halves h w (h_pass wrap ih h w (as_plane w (piece off (h * w) (drop n now))))) (drop n now)
    → Walks n off ih iv m end (k - 1) 0 h (w / 2) new
turn-across n off ih iv m end k h w now new v long z e =
    let t = deep_across k 0 h w ih iv (omega arith) z v.deep in
    record {
      deep = t.1;
      place = place_down n off (h * w) (h * (w / 2)) now new v.place (half_area h w) long;
      long = long ∙ v.long;
      same = walk_across ih iv k 0 h w n off (as_plane w (piece off (h * w) (drop n now))) now new (omega arith) z t.0 v.place e ∙ v.same;
    }

-- between the loops: no level both ways is left, and all k others are
pub walk_flat : (n off ih iv m : ℕ) (end : List ℤ) (k d h w : ℕ) (now : List ℤ) → d ≤ 0 → Walks n off ih iv m end k d h w now → Walks n off ih iv m end (k - 0) 0 h w now
walk_flat n off ih iv m end k d h w now z v =
    let e : k ≡ k - 0 = omega arith in
    let f : d ≡ 0 = omega arith in
    subst₂ (λ (a b : ℕ). Walks n off ih iv m end a b h w now) e f v

-- the same where level is k
pub walk_flat_at : (n off ih iv m : ℕ) (end : List ℤ) (k level h w : ℕ) (now : List ℤ) → k ≤ level → level ≤ k → Walks n off ih iv m end k (level - k) h w now → Walks n off ih iv m end level 0 h w now
walk_flat_at n off ih iv m end k level h w now x y v =
    let e : k - 0 ≡ level = omega arith in
    rw e at (walk_flat n off ih iv m end k (level - k) h w now (omega arith) v)

-- after the last turn
pub walk_end : (n off ih iv m : ℕ) (end : List ℤ) (k h w : ℕ) (now : List ℤ) → Walks n off ih iv m end k 0 h w now → k ≤ 0 → drop n now ≡ end
walk_end n off ih iv m end k h w now v z =
    let u = drop n now in
    let o = piece off (h * w) u in
    let fit : off + h * w ≤ length u = rw (length-drop n now) (omega (arith, v.place.fits)) in
    put_self off (h * w) u ∙ ap (λ (x : List ℤ). put off (h * w) x u) (sym (as_list_back h w o (length-piece off (h * w) u fit)) ∙ no_level ih iv k 0 h w (as_plane w o) (omega arith) z) ∙ v.same

-- ---- further laws
-- before the first turn
pub walk_start : (n off ih iv k d h w : ℕ) (l : List ℤ) → Deep k d h w ih iv → Place n off (h * w) l → Walks n off ih iv (length l) (after n off (h * w) (coefficients_of ih iv k d h w) l) k d h w l
walk_start n off ih iv k d h w l deep place = record { deep = deep; place = place; long = refl; same = refl }
