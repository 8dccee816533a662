-- A component from its samples to its coefficients, and components one after the other.
use Rattle.std.specs.Prelude.{◌≡◌, ℕ, ◌+◌, ◌-◌, ◌*◌, ◌≤◌, List, [], ◌++◌, length, take, drop, ℤ, refl}
use Rattle.std.proofs.Common.{sym, ap, ap₂, ◌∙◌, arith, zero-add, append_assoc, length-append, length-drop, take_at, drop_at, drop-drop, length-take-le}
use Rattle.laws.specs.Code.Window.{piece, put}
use Rattle.laws.specs.Laws.Window.{length-lent, put-lent, length-put, drop-put}
use Rattle.laws.specs.Plane.{as_list}
use Rattle.wavelet.specs.Pad.{padded}
use Rattle.wavelet.specs.Code.Component.{component_of}
use Rattle.wavelet.specs.Code.Level.{Place}
use Rattle.wavelet.specs.Laws.Walk.{no_level}

-- a part was lent and came back
pub lent-long : (p m : ℕ) (ys l : List ℤ) → p + m ≤ length l → length ys ≡ length (piece p (p + m - p) l) → length (take p l ++ (ys ++ drop (p + m - p) (drop p l))) ≡ length l
lent-long p m ys l h k = ap length (put-lent p m ys l) ∙ length-put p m ys l h (k ∙ length-lent p m l h)

-- no level: the plane is padded in its own part, which was lent
pub padded-none : (i j k d : ℕ) (s : List ℕ) (o w h pw ph n off : ℕ) (l ys : List ℤ) → d ≤ 0 → k ≤ 0 → Place n off (ph * pw) l → ys ≡ as_list ph pw (padded s o w h)
    → drop n (take (n + off) l ++ (ys ++ drop (n + off + ph * pw - (n + off)) (drop (n + off) l))) ≡ put off (ph * pw) (component_of i j k d s o w h pw ph) (drop n l)
padded-none i j k d s o w h pw ph n off l ys y z p ey =
    let m : ℕ = ph * pw in
    ap (drop n) (put-lent (n + off) m ys l ∙ ap (λ (x : List ℤ). put (n + off) m x l) (ey ∙ no_level i j k d ph pw (padded s o w h) y z))
    ∙ drop-put n off m (component_of i j k d s o w h pw ph) l (omega (arith, p.fits))

-- one after the other: done is there, and the next one goes behind it
lay_next : (done ys v u : List ℤ) (off m : ℕ) → off ≡ length done → v ≡ done ++ drop off u → put off m ys v ≡ done ++ ys ++ drop (off + m) u
unfolding put
lay_next done ys v u off m e f =
    let t : take off v ≡ done = ap (take off) f ∙ take_at done (drop off u) off (sym e) in
    let d : drop (off + m) v ≡ drop (off + m) u = sym (drop-drop m off v) ∙ ap (λ (z : List ℤ). drop m (drop off z)) f ∙ ap (drop m) (drop_at done (drop off u) off (sym e)) ∙ drop-drop m off u in
    ap₂ (λ (x y : List ℤ). x ++ (ys ++ y)) t d ∙ sym (append_assoc done ys (drop (off + m) u))

put-long : (off m : ℕ) (ys v u : List ℤ) → v ≡ put off m ys u → off + m ≤ length u → length v ≡ length u → length ys ≡ m
unfolding put
put-long off m ys v u e f g =
    let a = length-take-le off u (omega arith) in
    let b = ap length e ∙ length-append (take off u) (ys ++ drop (off + m) u) ∙ ap (λ (k : ℕ). length (take off u) + k) (length-append ys (drop (off + m) u)) in
    omega (arith, a, b, length-drop (off + m) u)

pub three_are : (n m c : ℕ) (l0 l1 l2 l3 A B C : List ℤ) → n + (m + c + c) ≤ length l0 → length l1 ≡ length l0 → length l2 ≡ length l1
    → drop n l1 ≡ put 0 m A (drop n l0) → drop n l2 ≡ put m c B (drop n l1) → drop n l3 ≡ put (m + c) c C (drop n l2)
    → drop n l3 ≡ A ++ B ++ C ++ drop (m + c + c) (drop n l0)
three_are n m c l0 l1 l2 l3 A B C fits g1 g2 e1 e2 e3 =
    let u = drop n l0 in
    let d0 = length-drop n l0 in
    let d1 = length-drop n l1 in
    let d2 = length-drop n l2 in
    let a : length A ≡ m = put-long 0 m A (drop n l1) u e1 (omega arith) (omega arith) in
    let b : length B ≡ c = put-long m c B (drop n l2) (drop n l1) e2 (omega arith) (omega arith) in
    let v1 : drop n l1 ≡ A ++ drop m u = e1 ∙ lay_next [] A u u 0 m refl refl ∙ ap (λ (k : ℕ). A ++ drop k u) (zero-add m) in
    let v2 : drop n l2 ≡ A ++ B ++ drop (m + c) u = e2 ∙ lay_next A B (drop n l1) u m c (sym a) v1 in
    let ab : m + c ≡ length (A ++ B) = sym (length-append A B ∙ ap₂ ◌+◌ a b) in
    e3 ∙ lay_next (A ++ B) C (drop n l2) u (m + c) c ab v2
