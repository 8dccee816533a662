-- One level on a list with scratch in front: rows into the scratch, columns there, bands back to the plane's place.
use Rattle.std.specs.Prelude.{◌≡◌, ℕ, ◌+◌, ◌-◌, ◌*◌, ◌/◌, ◌%◌, ◌<◌, ◌≤◌, List, ◌++◌, length, take, drop, ℤ, pos, refl}
use Rattle.std.proofs.Common.{sym, ap, ap₂, ◌∙◌, arith, zero-add, one-mul, append_assoc, length-drop, length-append, get_or-drop, get_or-take, length-take-le}
use Rattle.std.proofs.Math.Nat.{add-sub_cancel_left}
use Rattle.std.proofs.Math.Arith.{digits_lt}
use Rattle.laws.specs.Wrap.{wrap}
use Rattle.laws.specs.Rows.{at, row}
use Rattle.laws.specs.Laws.Rows.{row_ext, length-span}
use Rattle.laws.specs.Code.Chunks.{chunks}
use Rattle.laws.specs.Laws.Chunks.{length-chunks, at-chunks}
use Rattle.laws.specs.Code.Window.{piece, put}
use Rattle.laws.specs.Laws.Window.{length-put, put_in, put_again, put-lent, piece-put, drop-put, drop-put-front, at_piece, piece-drop, Parts, parts_room, parts_next, parts_same, parts_all, length-lent, lent-next}
use Rattle.laws.specs.Plane.{Plane, as_plane, as_list}
use Rattle.laws.specs.Laws.Plane.{length-as_list, at-as_list, as_list_cong, Agree}
use Rattle.wavelet.specs.Filters.{filter_of, analysis_by}
use Rattle.wavelet.specs.Laws.Lifting.{length-analysis}
use Rattle.wavelet.specs.Planes.{raise, columns_by, h_pass, vh_pass, part, part_h}
use Rattle.wavelet.specs.Laws.Plane.{rows_at, columns_cong, h_cong}
use Rattle.wavelet.specs.Laws.PlaneLists.{list_is}
use Rattle.wavelet.specs.Laws.Copy.{put_left, CopiesWithin}
use Rattle.wavelet.specs.Code.Columns.{PlaneIn}
use Rattle.wavelet.specs.Code.Copy.{copied, Copies, part_v, band_of, BandsIn}
use Rattle.wavelet.specs.Code.Level.{RowsIn, Place, EvenWidth, EvenSides, halves, quarters}

-- ---- the rows
-- row y of the scratch, from the plane f
abbrev pub row_of : ℕ → Plane → ℕ → ℕ → List ℤ
row_of i f w y = analysis_by wrap i (row w (λ x. raise wrap (filter_of i).bits (f y x)))

length-row_of : (i : ℕ) (f : Plane) (w y : ℕ) → length (row_of i f w y) ≡ w
length-row_of i f w y = length-analysis wrap (filter_of i).stages _ ∙ length-span _ 0 w

module _ (i : ℕ) (f : Plane) (l : List ℤ) (h w : ℕ) (fits : h * w ≤ length l) (now : List ℤ) (n p : ℕ) (inv : Parts (row_of i f w) l 0 h w now n p) (hn : n < h) where
  front_fits : 0 + h * w ≤ length l
  front_fits = omega arith

  pub rows_room : p + w ≤ h * w
  rows_room = rw (zero-add (h * w)) at (parts_room (row_of i f w) l 0 h w now n p inv front_fits hn)

  -- a row that was written, lent and analysed
  pub rows_next : (c w1 ys : List ℤ) → c ≡ row w (λ x. raise wrap (filter_of i).bits (f n x)) → w1 ≡ put p w c now
      → ys ≡ analysis_by wrap i (piece p (p + w - p) w1) → Parts (row_of i f w) l 0 h w (take p w1 ++ (ys ++ drop (p + w - p) (drop p w1))) (n + 1) (p + w)
  rows_next c w1 ys ec e1 ey =
      let F = row_of i f w in
      let long : length c ≡ w = ap length ec ∙ length-span _ 0 w in
      let room : p + w ≤ length now = omega (arith, rows_room, inv.long) in
      let same : piece p (p + w - p) w1 ≡ c = ap (λ (m : ℕ). piece p m w1) (add-sub_cancel_left p w) ∙ ap (piece p w) e1 ∙ piece-put p w c now room long in
      let done : ys ≡ F n = ey ∙ ap (analysis_by wrap i) (same ∙ ec) in
      parts_next F l 0 h w now n p (length-row_of i f w) inv front_fits hn ys _ done (put-lent p w ys w1 ∙ ap (put p w ys) e1 ∙ put_again p w c now room long ys)

pub rows_all : (i : ℕ) (f : Plane) (l : List ℤ) (h w : ℕ) (now : List ℤ) (n p : ℕ) → Parts (row_of i f w) l 0 h w now n p → h ≤ n → now ≡ put 0 (h * w) (as_list h w (h_pass wrap i h w f)) l
rows_all i f l h w now n p inv hn =
    let F = row_of i f w in
    let same : Agree h w (as_plane w (chunks F h)) (h_pass wrap i h w f) = record {
      same = λ y x hy hx. at-chunks F w (length-row_of i f w) h y x hy hx ∙ sym (rows_at (analysis_by wrap i) h w (λ y x. raise wrap (filter_of i).bits (f y x)) y x hy);
    } in
    parts_all F l 0 h w now n p inv hn ∙ ap (λ (z : List ℤ). put 0 (h * w) z l) (list_is h w (chunks F h) (h_pass wrap i h w f) (length-chunks F w (length-row_of i f w) h) same)

-- the rows of the plane that g begins with
module _ (i : ℕ) (g l : List ℤ) (h w : ℕ) (fits : h * w ≤ length l) (there : h * w ≤ length g) (now : List ℤ) (n p : ℕ) (inv : Parts (row_of i (as_plane w g) w) l 0 h w now n p) (hn : n < h) where
  row_fits : p + w ≤ length now
  row_fits = omega (arith, rows_room i (as_plane w g) l h w fits now n p inv hn, inv.long)

  pub rows_copies : Copies g (length (piece p (p + w - p) now)) p 1
  rows_copies = rw (length-lent p w now row_fits) (record { inside = λ k hk. omega (arith, rows_room i (as_plane w g) l h w fits now n p inv hn) })

  -- a row that was lent, written and analysed
  pub rows-turn : (b : ℕ) → b ≡ (filter_of i).bits → (c ys : List ℤ) → c ≡ copied b g p 1 (length (piece p (p + w - p) now))
      → ys ≡ analysis_by wrap i c → Parts (row_of i (as_plane w g) w) l 0 h w (take p now ++ (ys ++ drop (p + w - p) (drop p now))) (n + 1) (p + w)
  rows-turn b eb c ys ec ey =
      let f : Plane = as_plane w g in
      let row_is : c ≡ row w (λ x. raise wrap (filter_of i).bits (f n x)) =
      ec ∙ ap (copied b g p 1) (length-lent p w now row_fits)
      ∙ row_ext w (λ k. raise wrap b (at g (p + 1 * k))) (λ x. raise wrap (filter_of i).bits (f n x)) (λ k hk. ap₂ (raise wrap) eb (ap (at g) (omega (arith, inv.place_is)))) in
      lent-next (row_of i f w) l 0 h w now n p (length-row_of i f w) inv (omega arith) hn ys (ey ∙ ap (analysis_by wrap i) row_is)

-- work was lent as scratch s, in which all rows are now, and the planes g behind it
pub rows_joined : (i : ℕ) (work s g : List ℤ) (from h w : ℕ) (now : List ℤ) (n p : ℕ) → Parts (row_of i (as_plane w g) w) s 0 h w now n p → h ≤ n → h * w ≤ length s → work ≡ s ++ g → g ≡ drop from work
    → now ++ g ≡ put 0 (h * w) (as_list h w (h_pass wrap i h w (as_plane w (drop from work)))) work
rows_joined i work s g from h w now n p inv hn fits cut back =
    let R : List ℤ → List ℤ = λ (z : List ℤ). as_list h w (h_pass wrap i h w (as_plane w z)) in
    ap (λ (z : List ℤ). z ++ g) (rows_all i (as_plane w g) s h w now n p inv hn) ∙ put_left 0 (h * w) (R g) s g (omega arith)
    ∙ ap₂ (λ (y z : List ℤ). put 0 (h * w) (R y) z) back (sym cut)

-- ---- what lies in front and behind
four : (G : ℕ → List ℤ) → chunks G 4 ≡ G 0 ++ (G 1 ++ (G 2 ++ G 3))
unfolding chunks
four G = simp append_assoc

two : (G : ℕ → List ℤ) → chunks G 2 ≡ G 0 ++ G 1
unfolding chunks
two G = refl

-- the plane in front of a list whose first h * w places are those of g
front_is : (h w : ℕ) (g : Plane) (l : List ℤ) → h * w ≤ length l → Agree h w (λ y x. at (put 0 (h * w) (as_list h w g) l) (y * w + x)) g
front_is h w g l fits = record {
  same = λ y x hy hx.
      ap (at (put 0 (h * w) (as_list h w g) l)) (sym (zero-add (y * w + x)))
      ∙ put_in 0 (h * w) (as_list h w g) l (omega arith) (length-as_list h w g) (y * w + x) (digits_lt hy hx) ∙ at-as_list h w g y x hy hx;
}

-- planes that stand at the same place of a list
plane_there : (n off h w : ℕ) (l : List ℤ) → Agree h w (as_plane w (drop (n + off) l)) (as_plane w (piece off (h * w) (drop n l)))
plane_there n off h w l = record {
  same = λ y x hy hx.
      let k : ℕ = y * w + x in
      get_or-drop (n + off) l k (pos 0) ∙ sym (ap (λ (z : List ℤ). at z k) (piece-drop n off (h * w) l) ∙ at_piece (n + off) (h * w) l k (digits_lt hy hx));
}

-- what the scratch holds changes nothing behind it
behind : (n off m : ℕ) (S R l : List ℤ) → Place n off m l → length R ≡ m → drop n (put (n + off) m S (put 0 m R l)) ≡ put off m S (drop n l)
behind n off m S R l p long =
    drop-put n off m S (put 0 m R l) (omega (arith, p.fits, length-put 0 m R l (omega (arith, p.fits)) long))
    ∙ ap (put off m S) (drop-put-front n m R l p.room long)

-- the front was lent, and comes back as ys
put_front : (m : ℕ) (ys l : List ℤ) → ys ++ drop m l ≡ put 0 m ys l
unfolding put
put_front m ys l = ap (λ (k : ℕ). ys ++ drop k l) (sym (zero-add m))

-- ---- the levels
same_place : (g : Plane) (y x j : ℕ) → j < 2 → g (1 * y + j / 2) (2 * x + j % 2) ≡ g y (2 * x + j)
same_place g y x j hj = ap₂ g (row-place y j hj) (column-place x j hj)
  where
    row-place : (y j : ℕ) → j < 2 → 1 * y + j / 2 ≡ y
    row-place y j hj = omega arith

    column-place : (x j : ℕ) → j < 2 → 2 * x + j % 2 ≡ 2 * x + j
    column-place x j hj = omega arith

halves_cong : (h w : ℕ) (f g : Plane) → w % 2 ≡ 0 → Agree h w f g → halves h w f ≡ halves h w g
halves_cong h w f g ew a = ap₂ ◌++◌ (one 0 (omega arith)) (one 1 (omega arith))
  where
    one : (j : ℕ) → j < 2 → as_list h (w / 2) (part_h j f) ≡ as_list h (w / 2) (part_h j g)
    one j hj = as_list_cong h (w / 2) (part_h j f) (part_h j g) (record { same = λ y x hy hx. a.same y (2 * x + j) hy (omega arith) })

quarters_cong : (h w : ℕ) (f g : Plane) → h % 2 ≡ 0 → w % 2 ≡ 0 → Agree h w f g → quarters h w f ≡ quarters h w g
quarters_cong h w f g eh ew a = ap₂ ◌++◌ (one 0 0 (omega arith) (omega arith)) (ap₂ ◌++◌ (one 0 1 (omega arith) (omega arith)) (ap₂ ◌++◌ (one 1 0 (omega arith) (omega arith)) (one 1 1 (omega arith) (omega arith))))
  where
    one : (i j : ℕ) → i < 2 → j < 2 → as_list (h / 2) (w / 2) (part i j f) ≡ as_list (h / 2) (w / 2) (part i j g)
    one i j hi hj = as_list_cong (h / 2) (w / 2) (part i j f) (part i j g) (record { same = λ y x hy hx. a.same (2 * y + i) (2 * x + j) (omega arith) (omega arith) })

module _ (n off h w : ℕ) (l : List ℤ) (p : Place n off (h * w) l) where
  -- the bands of the plane in front
  pub h_bands : (w2 : List ℤ) → w2 ≡ put (n + off) (1 * h * w) (chunks (band_of l 1 h w) 2) l → drop n w2 ≡ put off (h * w) (halves h w (as_plane w l)) (drop n l)
  h_bands w2 e2 =
      let g : Plane = as_plane w l in
      let one : (j : ℕ) → j < 2 → band_of l 1 h w j ≡ as_list h (w / 2) (part_h j g) = λ j hj.
      as_list_cong h (w / 2) (part_v 1 (j / 2) (j % 2) g) (part_h j g) (record { same = λ y x hy hx. same_place g y x j hj }) in
      ap (drop n) (e2 ∙ ap₂ (λ (m : ℕ) (z : List ℤ). put (n + off) m z l) (ap (λ (m : ℕ). m * w) (one-mul h)) (two (band_of l 1 h w) ∙ ap₂ ◌++◌ (one 0 (omega arith)) (one 1 (omega arith))))
      ∙ drop-put n off (h * w) (halves h w g) l (omega (arith, p.fits))

  -- what the columns and the bands ask
  pub vh_plane : EvenSides h w → PlaneIn (take (h * w) l) h w
  vh_plane e = record { long = length-take-le (h * w) l (omega (arith, p.fits)); h_le = e.h_le; w_le = e.w_le }

  pub vh_bands : (C : List ℤ) → EvenSides h w → length C ≡ length (take (h * w) l) → BandsIn (C ++ drop (h * w) l) (n + off) 2 (h / 2) w
  vh_bands C e c =
      let t : length (take (h * w) l) ≡ h * w = (vh_plane e).long in
      let s : length (C ++ drop (h * w) l) ≡ length l = length-append C (drop (h * w) l) ∙ omega (arith, length-drop (h * w) l, p.fits) in
      let hh : 2 * (h / 2) * w ≡ h * w = ap (λ (z : ℕ). z * w) (omega (arith, e.high)) in
      record { kind = omega arith; wide = e.wide; a-le = omega (arith, e.h_le); w_le = e.w_le; behind = omega (arith, p.room); fits = omega (arith, p.fits) }

  -- the columns C of the plane in front, and their bands
  pub vh_bands_are : (j : ℕ) (w3 C : List ℤ) → EvenSides h w → C ≡ as_list h w (columns_by (analysis_by wrap j) h w (as_plane w (take (h * w) l)))
      → w3 ≡ put (n + off) (2 * (h / 2) * w) (chunks (band_of (C ++ drop (h * w) l) 2 (h / 2) w) 4) (C ++ drop (h * w) l)
      → drop n w3 ≡ put off (h * w) (quarters h w (columns_by (analysis_by wrap j) h w (as_plane w l))) (drop n l)
  vh_bands_are j w3 C e ec e3 =
      let A = analysis_by wrap j in
      let g = columns_by A h w (as_plane w l) in
      let R = as_list h w g in
      let front : Agree h w (as_plane w (take (h * w) l)) (as_plane w l) = record { same = λ y x hy hx. get_or-take (h * w) l (y * w + x) (pos 0) (digits_lt hy hx) } in
      let C-is : C ≡ R = ec ∙ ap (as_list h w) (columns_cong A h w (as_plane w (take (h * w) l)) (as_plane w l) front) in
      let G : List ℤ = put 0 (h * w) R l in
      let w2-is : C ++ drop (h * w) l ≡ G = put_front (h * w) C l ∙ ap (λ (z : List ℤ). put 0 (h * w) z l) C-is in
      let hh : 2 * (h / 2) ≡ h = omega (arith, e.high) in
      ap (drop n) (e3 ∙ ap₂ (λ (m : ℕ) (z : List ℤ). put (n + off) m (chunks (band_of z 2 (h / 2) w) 4) z) (ap (λ (m : ℕ). m * w) hh) w2-is)
      ∙ behind n off (h * w) (chunks (band_of G 2 (h / 2) w) 4) R l p (length-as_list h w g)
      ∙ ap (λ (z : List ℤ). put off (h * w) z (drop n l)) (four (band_of G 2 (h / 2) w) ∙ quarters_cong h w (as_plane w G) g e.high e.wide (front_is h w g l (omega (arith, p.fits))))

  -- a level Q of the plane in front, whose rows are those of g
  of-rows : (g : Plane) (Q : Plane → List ℤ) (w1 w2 : List ℤ) → ((f : Plane) → Agree h w f g → Q f ≡ Q g) → w1 ≡ put 0 (h * w) (as_list h w g) l
      → drop n w2 ≡ put off (h * w) (Q (as_plane w w1)) (drop n w1) → drop n w2 ≡ put off (h * w) (Q g) (drop n l)
  of-rows g Q w1 w2 c e1 e2 =
      let R = as_list h w g in
      e2 ∙ ap (λ (z : List ℤ). put off (h * w) (Q (as_plane w z)) (drop n z)) e1
      ∙ ap₂ (put off (h * w)) (c (as_plane w (put 0 (h * w) R l)) (front_is h w g l (omega (arith, p.fits)))) (drop-put-front n (h * w) R l p.room (length-as_list h w g))

  pub h_level : (i : ℕ) (f : Plane) (w1 w2 : List ℤ) → EvenWidth h w → w1 ≡ put 0 (h * w) (as_list h w (h_pass wrap i h w f)) l
      → drop n w2 ≡ put off (h * w) (halves h w (as_plane w w1)) (drop n w1) → drop n w2 ≡ put off (h * w) (halves h w (h_pass wrap i h w f)) (drop n l)
  h_level i f w1 w2 e e1 e2 = let g = h_pass wrap i h w f in of-rows g (halves h w) w1 w2 (λ q a. halves_cong h w q g e.wide a) e1 e2

  pub vh_level : (i j : ℕ) (f : Plane) (w1 w2 : List ℤ) → w1 ≡ put 0 (h * w) (as_list h w (h_pass wrap i h w f)) l
      → drop n w2 ≡ put off (h * w) (quarters h w (columns_by (analysis_by wrap j) h w (as_plane w w1))) (drop n w1)
      → drop n w2 ≡ put off (h * w) (quarters h w (vh_pass wrap i j h w f)) (drop n l)
  vh_level i j f w1 w2 e1 e2 =
      let A = analysis_by wrap j in
      let g = h_pass wrap i h w f in
      of-rows g (λ q. quarters h w (columns_by A h w q)) w1 w2 (λ q a. ap (quarters h w) (columns_cong A h w q g a)) e1 e2

  -- the rows are those of the plane behind the scratch
  pub rows_there : (i : ℕ) (w1 : List ℤ) → w1 ≡ put 0 (h * w) (as_list h w (h_pass wrap i h w (as_plane w (drop (n + off) l)))) l
      → w1 ≡ put 0 (h * w) (as_list h w (h_pass wrap i h w (as_plane w (piece off (h * w) (drop n l))))) l
  rows_there i w1 e = e ∙ ap (λ (q : Plane). put 0 (h * w) (as_list h w q) l) (h_cong wrap i h w _ _ (plane_there n off h w l))

-- ---- further laws
-- the rows of the plane at from, copied within one list
module _ (i : ℕ) (l : List ℤ) (from h w : ℕ) (q : RowsIn l from h w) (now : List ℤ) (n p : ℕ) (inv : Parts (row_of i (as_plane w (drop from l)) w) l 0 h w now n p) (hn : n < h) where
  abbrev f : Plane
  f = as_plane w (drop from l)

  rows_fit : h * w ≤ length l
  rows_fit = omega (arith, q.fits)

  pub rows_copies_within : CopiesWithin now 0 (h * w) p w (from + p) 1
  rows_copies_within =
      let room = rows_room i f l h w rows_fit now n p inv hn in
      record {
        part = (omega arith, omega (arith, q.fits, inv.long));
        fits = omega (arith, room);
        inside = λ k hk. omega (arith, room, q.fits, inv.long);
        apart = λ k hk o. omega (arith, room, q.room);
      }

  pub rows-turn-within : (b : ℕ) → b ≡ (filter_of i).bits → (w1 ys : List ℤ) → w1 ≡ put (0 + p) w (copied b now (from + p) 1 w) now
      → ys ≡ analysis_by wrap i (piece p (p + w - p) w1) → Parts (row_of i f w) l 0 h w (take p w1 ++ (ys ++ drop (p + w - p) (drop p w1))) (n + 1) (p + w)
  rows-turn-within b eb w1 ys e1 ey =
      let c = copied b now (from + p) 1 w in
      let old : (k : ℕ) → k < w → at now (from + p + 1 * k) ≡ f n k = λ k hk.
      parts_same (row_of i f w) l 0 h w now n p (length-row_of i f w) inv (front_fits i f l h w rows_fit now n p inv hn) hn (from + p + 1 * k) (λ o. omega arith)
      ∙ ap (at l) (omega (arith, inv.place_is)) ∙ sym (get_or-drop from l (n * w + k) (pos 0)) in
      let row_is : c ≡ row w (λ x. raise wrap (filter_of i).bits (f n x)) =
      row_ext w (λ k. raise wrap b (at now (from + p + 1 * k))) (λ x. raise wrap (filter_of i).bits (f n x)) (λ k hk. ap₂ (raise wrap) eb (old k hk)) in
      rows_next i f l h w rows_fit now n p inv hn c w1 ys row_is (e1 ∙ ap (λ (z : ℕ). put z w c now) (zero-add p)) ey
