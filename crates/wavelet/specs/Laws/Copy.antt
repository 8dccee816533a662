-- Laws of numbers copied from one list to another, and the bands of a plane that are so made.
use Rattle.std.specs.Prelude.{◌≡◌, ℕ, zero, suc, ◌+◌, ◌-◌, ◌*◌, ◌/◌, ◌%◌, ◌^◌, ◌<◌, ◌≤◌, List, ◌++◌, length, take, drop, ℤ, pos, ◌+ℤ◌, FitsSigned, slice_set}
use Rattle.std.proofs.Common.{sym, ap, ap₂, ◌∙◌, arith, add_assoc, add-zero, add-mul, append_assoc, length-append, mul_assoc, mul_comm, mul-le-mul, mul-le-mul_left, mul-suc, to_z-of_z, to_z, of_z}
use Rattle.std.specs.Int.{w64}
use Rattle.std.proofs.Math.Arith.{digits_lt}
use Rattle.std.proofs.Math.ListN.{get_or-append}
use Rattle.std.proofs.Math.Seq.{take-append-add, drop-append-add}
use Rattle.std.proofs.lemmas.List.{take-append-le, drop-append-le}
use Rattle.laws.specs.Laws.Integer.{by_parts, var, times, ◌⊞◌}
use Rattle.laws.specs.Wrap.{wrap}
use Rattle.laws.specs.Laws.Wrap.{of_z_lt, add-bits}
use Rattle.laws.specs.Rows.{at, row}
use Rattle.laws.specs.Laws.Rows.{row_ext, length-span}
use Rattle.laws.specs.Code.Chunks.{chunks}
use Rattle.laws.specs.Laws.Chunks.{chunks_ext, fill-turn}
use Rattle.laws.specs.Code.Window.{piece, put}
use Rattle.laws.specs.Laws.Window.{put-out, put-turn, set-lent, length-lent, Parts, parts_first, parts_next, parts_same, parts_room, parts_all, lent-next}
use Rattle.laws.specs.Plane.{Plane}
use Rattle.laws.specs.Laws.Plane.{length-as_list}
use Rattle.wavelet.specs.Planes.{raise}
use Rattle.wavelet.specs.Laws.PlaneLists.{rows_list}
use Rattle.wavelet.specs.Laws.Pad.{put_whole}
use Rattle.wavelet.specs.Code.Copy.{copied, Copies, band_row, BandIn, part_v, band_of, BandsIn}

-- ---- copying
-- accuracy bits are added by a shift of the bits
pub raised_is : (b : ℕ) (x : ℤ) → b ≤ 1 → FitsSigned w64 x → to_z w64 (of_z w64 x * 2 ^ b % 2 ^ 64) ≡ raise wrap b x
raised_is zero x h f =
    let e : of_z w64 x * 2 ^ 0 % 2 ^ 64 ≡ of_z w64 x = omega (arith, of_z_lt x f) in
    rw e (to_z-of_z {w = w64} f)
raised_is (suc zero) x h f =
    let e : of_z w64 x * 2 ^ 1 % 2 ^ 64 ≡ (of_z w64 x + of_z w64 x) % 2 ^ 64 = omega arith in
    rw e (add-bits x x f f ∙ ap wrap (by_parts (var x ⊞ var x) (times 2 (var x)) (omega arith)))
raised_is (suc (suc b)) x h f = absurd (omega arith)

-- one more number
pub copy_turn : (b : ℕ) (src dst xs : List ℤ) (v : ℤ) (from step k : ℕ) → k < length dst → xs ≡ copied b src from step k ++ drop k dst
    → v ≡ raise wrap b (at src (from + step * k)) → slice_set xs k v ≡ copied b src from step (k + 1) ++ drop (k + 1) dst
copy_turn b src dst xs v from step k h f e = ap (slice_set xs k) e ∙ fill-turn (λ j. raise wrap b (at src (from + step * j))) dst xs k h f

-- ---- a list of two parts, one of which changes
pub put_left : (p n : ℕ) (ys l r : List ℤ) → p + n ≤ length l → put p n ys l ++ r ≡ put p n ys (l ++ r)
unfolding put
put_left p n ys l r h =
    append_assoc (take p l) (ys ++ drop (p + n) l) r ∙ ap (λ (z : List ℤ). take p l ++ z) (append_assoc ys (drop (p + n) l) r)
    ∙ sym (ap₂ (λ (x z : List ℤ). x ++ (ys ++ z)) (take-append-le p l r (omega arith)) (drop-append-le (p + n) l r h))

pub put_right : (p n : ℕ) (ys l r : List ℤ) → l ++ put p n ys r ≡ put (length l + p) n ys (l ++ r)
unfolding put
put_right p n ys l r =
    sym (ap₂ (λ (x z : List ℤ). x ++ (ys ++ z)) (take-append-add l r p) (ap (λ (k : ℕ). drop k (l ++ r)) (add_assoc (length l) p n) ∙ drop-append-add l r (p + n))
    ∙ append_assoc l (take p r) (ys ++ drop (p + n) r))

-- ---- a band, row by row
module _ (src dst : List ℤ) (a b from jump : ℕ) (q : BandIn src a b from jump) (long : length dst ≡ a * b) (now : List ℤ) (n p : ℕ) (inv : Parts (band_row src b from jump) dst 0 a b now n p) (h : n < a) where
  pub band_room : p + b ≤ length now
  band_room = omega (arith, parts_room (band_row src b from jump) dst 0 a b now n p inv (omega arith) h, inv.long)

  pub band_copies : Copies src (length (piece p (p + b - p) now)) (from + jump * n) 2
  band_copies = rw (length-lent p b now band_room) (record { inside = λ k hk. q.inside n k h hk })

  pub band-turn : (ys : List ℤ) → ys ≡ copied 0 src (from + jump * n) 2 (length (piece p (p + b - p) now))
      → Parts (band_row src b from jump) dst 0 a b (take p now ++ (ys ++ drop (p + b - p) (drop p now))) (n + 1) (p + b)
  band-turn ys e =
      lent-next (band_row src b from jump) dst 0 a b now n p (λ k. length-span _ 0 b) inv (omega arith) h ys
      (e ∙ ap (copied 0 src (from + jump * n) 2) (length-lent p b now band_room))

pub band_all : (src dst : List ℤ) (a b from jump : ℕ) → length dst ≡ a * b → (now : List ℤ) (n p : ℕ) → Parts (band_row src b from jump) dst 0 a b now n p → a ≤ n → now ≡ chunks (band_row src b from jump) a
band_all src dst a b from jump long now n p inv h = parts_all (band_row src b from jump) dst 0 a b now n p inv h ∙ put_whole (a * b) (chunks (band_row src b from jump) a) dst long

-- ---- bands one after the other
pub all_bands : (v a w : ℕ) → w % 2 ≡ 0 → 2 * v * (a * (w / 2)) ≡ v * a * w
all_bands v a w e =
    let f : 2 * (w / 2) ≡ w = omega arith in
    let g : v * a * (2 * (w / 2)) ≡ v * a * w = ap (λ (z : ℕ). v * a * z) f in
    omega (arith, mul_assoc 2 v (a * (w / 2)), mul_assoc v a (w / 2), mul_comm (v * a) (2 * (w / 2)), mul_assoc 2 (w / 2) (v * a), mul_comm (w / 2) (v * a), g)

place_is : (v w x y i j : ℕ) → i * w + j + v * w * y + 2 * x ≡ (v * y + i) * w + (2 * x + j)
place_is v w x y i j = omega (arith, add-mul (v * y) i w, mul_assoc v w y, mul_assoc v y w, mul_comm w y)

-- l is lent as what stands in front of to and what stands behind
module _ (l : List ℤ) (to v a w : ℕ) (q : BandsIn l to v a w) (front behind : List ℤ) (cut : l ≡ front ++ behind) (long : length front ≡ to) where
  -- band n's numbers stand in front
  in_front : (n y x : ℕ) → n < 2 * v → y < a → x < w / 2 → (v * y + n / 2) * w + (2 * x + n % 2) < length front
  in_front n y x hn hy hx =
      let r : v * y + n / 2 < v * a = omega (arith, mul-le-mul_left v hy, mul-suc v y, q.kind) in
      let c : 2 * x + n % 2 < w = omega (arith, q.wide) in
      omega (arith, digits_lt r c, q.behind)

  jumps : (n : ℕ) → n < 2 * v → n / 2 * w + n % 2 + v * w * a ≤ 2 ^ 62
  jumps n hn =
      let i : n / 2 ≤ 2 = omega (arith, q.kind) in
      omega (arith, mul-le-mul i q.w_le, mul-le-mul (mul-le-mul q.kind.1 q.w_le) q.a-le)

  pub bands_in : (n : ℕ) → n < 2 * v → BandIn front a (w / 2) (n / 2 * w + n % 2) (v * w)
  bands_in n hn = record {
    starts = jumps n hn;
    inside = λ y x hy hx. omega (arith, in_front n y x hn hy hx, place_is v w x y (n / 2) (n % 2));
  }

  all_fit : 0 + 2 * v * (a * (w / 2)) ≤ length behind
  all_fit = omega (arith, all_bands v a w q.wide, q.fits, ap length cut ∙ length-append front behind)

  module _ (now : List ℤ) (n p : ℕ) (inv : Parts (band_of l v a w) behind 0 (2 * v) (a * (w / 2)) now n p) where
    pub bands_room : n < 2 * v → p + a * (w / 2) ≤ length now
    bands_room hn = omega (arith, parts_room (band_of l v a w) behind 0 (2 * v) (a * (w / 2)) now n p inv all_fit hn, all_fit, inv.long)

    pub bands-turn : n < 2 * v → (ys : List ℤ) → ys ≡ chunks (band_row front (w / 2) (n / 2 * w + n % 2) (v * w)) a
        → Parts (band_of l v a w) behind 0 (2 * v) (a * (w / 2)) (take p now ++ (ys ++ drop (p + a * (w / 2) - p) (drop p now))) (n + 1) (p + a * (w / 2))
    bands-turn hn ys g =
        let F = band_of l v a w in
        let long : (k : ℕ) → length (F k) ≡ a * (w / 2) = λ k. length-as_list a (w / 2) (part_v v (k / 2) (k % 2) (λ y x. at l (y * w + x))) in
        let G = band_row front (w / 2) (n / 2 * w + n % 2) (v * w) in
        let f : Plane = part_v v (n / 2) (n % 2) (λ y x. at l (y * w + x)) in
        let same : chunks G a ≡ F n = chunks_ext G (λ y. row (w / 2) (f y)) a
        (λ y hy. row_ext (w / 2) (λ x. at front (n / 2 * w + n % 2 + v * w * y + 2 * x)) (f y)
        (λ x hx. ap (at front) (place_is v w x y (n / 2) (n % 2))
        ∙ sym (ap (λ (z : List ℤ). at z ((v * y + n / 2) * w + (2 * x + n % 2))) cut ∙ get_or-append front behind (pos 0) ((v * y + n / 2) * w + (2 * x + n % 2)) (in_front n y x hn hy hx))))
        ∙ rows_list a (w / 2) f in
        lent-next F behind 0 (2 * v) (a * (w / 2)) now n p long inv all_fit hn ys (g ∙ same)

    pub bands_all : 2 * v ≤ n → front ++ now ≡ put to (v * a * w) (chunks (band_of l v a w) (2 * v)) l
    bands_all hn =
        let S = chunks (band_of l v a w) (2 * v) in
        let place : length front + 0 ≡ to = omega arith in
        ap (λ (z : List ℤ). front ++ z) (parts_all (band_of l v a w) behind 0 (2 * v) (a * (w / 2)) now n p inv hn) ∙ put_right 0 (2 * v * (a * (w / 2))) S front behind
        ∙ ap (λ (k : ℕ). put k (2 * v * (a * (w / 2))) S (front ++ behind)) place ∙ ap₂ (λ (m : ℕ) (z : List ℤ). put to m S z) (all_bands v a w q.wide) (sym cut)

-- ---- further laws
-- a number doubled
pub raise-one : (x : ℤ) → wrap (x +ℤ x) ≡ raise wrap 1 x
raise-one x = ap wrap (by_parts (var x ⊞ var x) (times 2 (var x)) (omega arith))

-- Copies within one list: the numbers may go into the part a .. e of l, from its place to on.
pub record CopiesWithin (l : List ℤ) (a e to len from step : ℕ) : Type 0 where
  pub part : (a ≤ e) × (e ≤ length l)
  pub fits : a + to + len ≤ e
  pub inside : (k : ℕ) → k < len → from + step * k < length l
  pub apart : (k : ℕ) → k < len → a + to ≤ from + step * k → a + to + len ≤ from + step * k

-- the number that is read next is the old one
pub copy_same : (b : ℕ) (l xs : List ℤ) (a e to len from step k : ℕ) → CopiesWithin l a e to len from step → k < len → xs ≡ put (a + to) k (copied b l from step k) l
    → at xs (from + step * k) ≡ at l (from + step * k)
copy_same b l xs a e to len from step k q h f =
    ap (λ (z : List ℤ). at z (from + step * k)) f
    ∙ put-out (a + to) k (copied b l from step k) l (omega (arith, q.fits, q.part)) (length-span _ 0 k) (from + step * k) (λ o. omega (arith, q.apart k h o))

-- one more number: the part was lent, and comes back with it
pub copy_turn_within : (b : ℕ) (l xs ys : List ℤ) (v : ℤ) (a e to len from step k : ℕ) → CopiesWithin l a e to len from step → k < len → xs ≡ put (a + to) k (copied b l from step k) l
    → v ≡ raise wrap b (at l (from + step * k)) → ys ≡ slice_set (take (e - a) (drop a xs)) (to + k) v
    → take a xs ++ (ys ++ drop (e - a) (drop a xs)) ≡ put (a + to) (k + 1) (copied b l from step (k + 1)) l
copy_turn_within b l xs ys v a e to len from step k q h f ev ey =
    ap (λ (z : List ℤ). take a xs ++ (z ++ drop (e - a) (drop a xs))) ey ∙ set-lent a (e - a) (to + k) v xs (omega (arith, q.fits))
    ∙ ap₂ (λ (i : ℕ) (z : ℤ). slice_set xs i z) (sym (add_assoc a to k)) ev
    ∙ put-turn (λ j. raise wrap b (at l (from + step * j))) l xs (a + to) k (omega (arith, q.fits, q.part)) f

-- A band within one list: a rows of b may go to to, and all that they are made of stands in front.
pub record BandWithin (l : List ℤ) (to a b from jump : ℕ) : Type 0 where
  pub fits : to + a * b ≤ length l
  pub starts : from + jump * a ≤ 2 ^ 62
  pub inside : (y x : ℕ) → y < a → x < b → from + jump * y + 2 * x < to

pub band-first : (l : List ℤ) (to a b from jump : ℕ) → Parts (band_row l b from jump) l to a b l 0 (to + 0)
band-first l to a b from jump = rw (add-zero to) (parts_first (band_row l b from jump) l to a b)

module _ (l : List ℤ) (to a b from jump : ℕ) (q : BandWithin l to a b from jump) (now : List ℤ) (n at₀ : ℕ) (inv : Parts (band_row l b from jump) l to a b now n (to + at₀)) (h : n < a) where
  pub band_room_within : to + at₀ + b ≤ to + a * b
  band_room_within = parts_room (band_row l b from jump) l to a b now n (to + at₀) inv q.fits h

  pub band_copies_within : CopiesWithin now to (to + a * b) at₀ b (from + jump * n) 2
  band_copies_within = record {
    part = (omega arith, omega (arith, q.fits, inv.long));
    fits = band_room_within;
    inside = λ k hk. omega (arith, q.inside n k h hk, q.fits, inv.long);
    apart = λ k hk o. absurd (omega (arith, q.inside n k h hk));
  }

  pub band-turn-within : (new : List ℤ) → new ≡ put (to + at₀) b (copied 0 now (from + jump * n) 2 b) now → Parts (band_row l b from jump) l to a b new (n + 1) (to + (at₀ + b))
  band-turn-within new e =
      let F = band_row l b from jump in
      let long : (k : ℕ) → length (F k) ≡ b = λ k. length-span _ 0 b in
      let same : copied 0 now (from + jump * n) 2 b ≡ F n =
      row_ext b (λ k. at now (from + jump * n + 2 * k)) (λ k. at l (from + jump * n + 2 * k))
      (λ k hk. parts_same F l to a b now n (to + at₀) long inv q.fits h (from + jump * n + 2 * k) (λ o. absurd (omega (arith, q.inside n k h hk)))) in
      rw (← add_assoc to at₀ b) (parts_next F l to a b now n (to + at₀) long inv q.fits h (copied 0 now (from + jump * n) 2 b) new same e)

-- bands one after the other within one list
module _ (l : List ℤ) (to v a w : ℕ) (q : BandsIn l to v a w) where
  -- band n's numbers stand in front
  front_within : (n y x : ℕ) → n < 2 * v → y < a → x < w / 2 → (v * y + n / 2) * w + (2 * x + n % 2) < to
  front_within n y x hn hy hx =
      let r : v * y + n / 2 < v * a = omega (arith, mul-le-mul_left v hy, mul-suc v y, q.kind) in
      let c : 2 * x + n % 2 < w = omega (arith, q.wide) in
      omega (arith, digits_lt r c, q.behind)

  jumps_within : (n : ℕ) → n < 2 * v → n / 2 * w + n % 2 + v * w * a ≤ 2 ^ 62
  jumps_within n hn =
      let i : n / 2 ≤ 2 = omega (arith, q.kind) in
      omega (arith, mul-le-mul i q.w_le, mul-le-mul (mul-le-mul q.kind.1 q.w_le) q.a-le)

  module _ (now : List ℤ) (n p : ℕ) (inv : Parts (band_of l v a w) l to (2 * v) (a * (w / 2)) now n p) (hn : n < 2 * v) where
    all_fit_within : to + 2 * v * (a * (w / 2)) ≤ length l
    all_fit_within = rw (all_bands v a w q.wide) q.fits

    pub bands_room_within : p + a * (w / 2) ≤ to + v * a * w
    bands_room_within = rw (all_bands v a w q.wide) at (parts_room (band_of l v a w) l to (2 * v) (a * (w / 2)) now n p inv all_fit_within hn)

    pub bands_in_within : BandWithin now p a (w / 2) (n / 2 * w + n % 2) (v * w)
    bands_in_within = record {
      fits = omega (arith, bands_room_within, q.fits, inv.long);
      starts = jumps_within n hn;
      inside = λ y x hy hx. omega (arith, front_within n y x hn hy hx, place_is v w x y (n / 2) (n % 2), inv.place_is);
    }

    pub bands-turn-within : (new : List ℤ) → new ≡ put p (a * (w / 2)) (chunks (band_row now (w / 2) (n / 2 * w + n % 2) (v * w)) a) now
        → Parts (band_of l v a w) l to (2 * v) (a * (w / 2)) new (n + 1) (p + a * (w / 2))
    bands-turn-within new g =
        let F = band_of l v a w in
        let long : (k : ℕ) → length (F k) ≡ a * (w / 2) = λ k. length-as_list a (w / 2) (part_v v (k / 2) (k % 2) (λ y x. at l (y * w + x))) in
        let G = band_row now (w / 2) (n / 2 * w + n % 2) (v * w) in
        let f : Plane = part_v v (n / 2) (n % 2) (λ y x. at l (y * w + x)) in
        let same : chunks G a ≡ F n = chunks_ext G (λ y. row (w / 2) (f y)) a
        (λ y hy. row_ext (w / 2) (λ x. at now (n / 2 * w + n % 2 + v * w * y + 2 * x)) (f y)
        (λ x hx. ap (at now) (place_is v w x y (n / 2) (n % 2))
        ∙ parts_same F l to (2 * v) (a * (w / 2)) now n p long inv all_fit_within hn ((v * y + n / 2) * w + (2 * x + n % 2)) (λ o. absurd (omega (arith, front_within n y x hn hy hx)))))
        ∙ rows_list a (w / 2) f in
        parts_next F l to (2 * v) (a * (w / 2)) now n p long inv all_fit_within hn (chunks G a) new same g

  pub bands_all_within : (now : List ℤ) (n p : ℕ) → Parts (band_of l v a w) l to (2 * v) (a * (w / 2)) now n p → 2 * v ≤ n → now ≡ put to (v * a * w) (chunks (band_of l v a w) (2 * v)) l
  bands_all_within now n p inv hn =
      parts_all (band_of l v a w) l to (2 * v) (a * (w / 2)) now n p inv hn ∙ ap (λ (m : ℕ). put to m (chunks (band_of l v a w) (2 * v)) l) (all_bands v a w q.wide)
