-- Laws of a list with n places from p on replaced.
use Rattle.std.specs.Prelude.{◌≡◌, ℕ, suc, ◌+◌, ◌-◌, ◌*◌, ◌<◌, ◌≤◌, List, [], ◌∷◌, ◌++◌, length, take, drop, ℤ, pos, slice_set, refl}
use Rattle.std.proofs.Math.Path.{sym, ap, ap₂}
use Rattle.std.proofs.Common.{◌∙◌, add_assoc, add-zero, suc-mul, zero-mul, add-one, take-append-drop, take-add, length-take-le, drop-cons, drop-set-lt}
use native.Mathlib.Omega.{arith}
use Rattle.std.proofs.Math.Nat.{add-sub_cancel_left}
use Rattle.std.proofs.Math.Decide.{dec_lt}
use mathlib.Core.List.{append_assoc}
use Rattle.std.proofs.Math.ListN.{length-append, length-drop, get_or-append}
use Rattle.std.proofs.Math.Seq.{take_at, drop_at, drop-drop, drop-append-le, get_or-append-add, get_or-take, get_or-drop, append_snoc, take-set-lt}
use Rattle.std.proofs.lemmas.List.{take-append-le, set_at, take-set-le, drop-set-add}
use Rattle.laws.specs.Rows.{at, row}
use Rattle.laws.specs.Laws.Rows.{length-span, row_more}
use Rattle.laws.specs.Code.Chunks.{chunks}
use Rattle.laws.specs.Laws.Chunks.{length-chunks, chunk_room, next_place}
use Rattle.laws.specs.Code.Window.{piece, put}

pub length-piece : (p n : ℕ) (l : List ℤ) → p + n ≤ length l → length (piece p n l) ≡ n
length-piece p n l h = length-take-le n (drop p l) (rw (length-drop p l) (omega arith))

pub at_piece : (p n : ℕ) (l : List ℤ) (i : ℕ) → i < n → at (piece p n l) i ≡ at l (p + i)
at_piece p n l i h = get_or-take n (drop p l) i (pos 0) h ∙ get_or-drop p l i (pos 0)

pub piece-drop : (n a m : ℕ) (l : List ℤ) → piece a m (drop n l) ≡ piece (n + a) m l
piece-drop n a m l = ap (take m) (drop-drop a n l)

pub length-lent : (p n : ℕ) (l : List ℤ) → p + n ≤ length l → length (piece p (p + n - p) l) ≡ n
length-lent p n l h = rw (add-sub_cancel_left p n) (length-piece p n l h)

-- a part lent as [p .. p + n] that comes back as ys
pub put-lent : (p n : ℕ) (ys l : List ℤ) → take p l ++ (ys ++ drop (p + n - p) (drop p l)) ≡ put p n ys l
unfolding put
put-lent p n ys l = rw (add-sub_cancel_left p n, drop-drop n p l)

pub put-none : (p : ℕ) (l : List ℤ) → l ≡ put p 0 [] l
unfolding put
put-none p l = sym (ap (λ (k : ℕ). take p l ++ drop k l) (add-zero p) ∙ take-append-drop p l)

module _ (p n : ℕ) (ys l : List ℤ) (fits : p + n ≤ length l) (long : length ys ≡ n) where
  head-long : length (take p l) ≡ p
  head-long = length-take-le p l (omega arith)

  pub length-put : length (put p n ys l) ≡ length l
  unfolding put
  length-put = length-append (take p l) (ys ++ drop (p + n) l) ∙ rw (head-long, length-append ys (drop (p + n) l), long, length-drop (p + n) l) (omega arith)

  pub put_in : (i : ℕ) → i < n → at (put p n ys l) (p + i) ≡ at ys i
  unfolding put
  put_in i h =
      let r = ys ++ drop (p + n) l in
      ap (λ (q : ℕ). at (take p l ++ r) (q + i)) (sym head-long) ∙ get_or-append-add (take p l) r i (pos 0) ∙ get_or-append ys (drop (p + n) l) (pos 0) i (rw long h)

  -- the places outside stay as they were
  pub put-out : (i : ℕ) → (p ≤ i → p + n ≤ i) → at (put p n ys l) i ≡ at l i
  unfolding put
  put-out i out = by (dec_lt i p)
    where
      by : Dec (i < p) → at (put p n ys l) i ≡ at l i
      by (yes h) = get_or-append (take p l) (ys ++ drop (p + n) l) (pos 0) i (rw head-long h) ∙ get_or-take p l i (pos 0) h
      by (no h) =
          let o : p + n ≤ i = out (omega arith) in
          let r = ys ++ drop (p + n) l in
          let j : ℕ = i - (p + n) in
          let e : i ≡ p + (n + j) = omega arith in
          let f : p + n + j ≡ i = omega arith in
          ap (at (take p l ++ r)) e
          ∙ ap (λ (q : ℕ). at (take p l ++ r) (q + (n + j))) (sym head-long) ∙ get_or-append-add (take p l) r (n + j) (pos 0)
          ∙ ap (λ (q : ℕ). at r (q + j)) (sym long) ∙ get_or-append-add ys (drop (p + n) l) j (pos 0)
          ∙ get_or-drop (p + n) l j (pos 0) ∙ ap (at l) f

  take_put : take p (put p n ys l) ≡ take p l
  unfolding put
  take_put = take_at (take p l) (ys ++ drop (p + n) l) p head-long

  drop-put-at : drop p (put p n ys l) ≡ ys ++ drop (p + n) l
  unfolding put
  drop-put-at = drop_at (take p l) (ys ++ drop (p + n) l) p head-long

  pub piece_inner : (q : ℕ) → q ≤ n → piece p q (put p n ys l) ≡ take q ys
  piece_inner q h = ap (take q) drop-put-at ∙ take-append-le q ys (drop (p + n) l) (rw long h)

  pub piece-put : piece p n (put p n ys l) ≡ ys
  piece-put = ap (take n) drop-put-at ∙ take_at ys (drop (p + n) l) n long

  -- the first q of them replaced once more
  pub put_inner : (q : ℕ) (zs : List ℤ) → q ≤ n → put p q zs (put p n ys l) ≡ put p n (zs ++ drop q ys) l
  unfolding put
  put_inner q zs h =
      ap₂ (λ (x y : List ℤ). x ++ (zs ++ y)) take_put
      (sym (drop-drop q p (put p n ys l)) ∙ ap (drop q) drop-put-at ∙ drop-append-le q ys (drop (p + n) l) (rw long h))
      ∙ ap (λ (x : List ℤ). take p l ++ x) (sym (append_assoc zs (drop q ys) (drop (p + n) l)))

  -- the n places replaced once more
  pub put_again : (zs : List ℤ) → put p n zs (put p n ys l) ≡ put p n zs l
  unfolding put
  put_again zs =
      ap₂ (λ (x y : List ℤ). x ++ (zs ++ y)) take_put (sym (drop-drop n p (put p n ys l)) ∙ ap (drop n) drop-put-at ∙ drop_at ys (drop (p + n) l) n long)

  -- the places behind the n replaced too
  pub put_next : (m : ℕ) (zs : List ℤ) → put (p + n) m zs (put p n ys l) ≡ put p (n + m) (ys ++ zs) l
  unfolding put
  put_next m zs =
      let d = drop (p + n) l in
      let s : take p l ++ (ys ++ d) ≡ take p l ++ ys ++ d = sym (append_assoc (take p l) ys d) in
      let k : length (take p l ++ ys) ≡ p + n = length-append (take p l) ys ∙ ap₂ ◌+◌ head-long long in
      let t : take (p + n) (take p l ++ (ys ++ d)) ≡ take p l ++ ys = ap (take (p + n)) s ∙ take_at (take p l ++ ys) d (p + n) k in
      let u : drop (p + n + m) (take p l ++ (ys ++ d)) ≡ drop (p + (n + m)) l =
      sym (drop-drop m (p + n) (take p l ++ (ys ++ d))) ∙ ap (λ (x : List ℤ). drop m (drop (p + n) x)) s ∙ ap (drop m) (drop_at (take p l ++ ys) d (p + n) k)
      ∙ drop-drop m (p + n) l ∙ ap (λ (x : ℕ). drop x l) (add_assoc p n m) in
      ap₂ (λ (x y : List ℤ). x ++ (zs ++ y)) t u ∙ append_assoc (take p l) ys (zs ++ drop (p + (n + m)) l)
      ∙ ap (λ (x : List ℤ). take p l ++ x) (sym (append_assoc ys zs (drop (p + (n + m)) l)))

pub put_self : (p n : ℕ) (l : List ℤ) → l ≡ put p n (piece p n l) l
unfolding put
put_self p n l = sym (ap (λ (z : List ℤ). take p l ++ z) (ap (λ (z : List ℤ). piece p n l ++ z) (sym (drop-drop n p l)) ∙ take-append-drop n (drop p l)) ∙ take-append-drop p l)

-- what lies behind the first n places, where the replaced ones lie there too
pub drop-put : (n a m : ℕ) (ys l : List ℤ) → n ≤ length l → drop n (put (n + a) m ys l) ≡ put a m ys (drop n l)
unfolding put
drop-put n a m ys l h =
    let r = ys ++ drop (n + a + m) l in
    ap (λ (x : List ℤ). drop n (x ++ r)) (take-add n a l) ∙ ap (drop n) (append_assoc (take n l) (take a (drop n l)) r)
    ∙ drop_at (take n l) (take a (drop n l) ++ r) n (length-take-le n l h)
    ∙ ap (λ (x : List ℤ). take a (drop n l) ++ (ys ++ x)) (ap (λ (k : ℕ). drop k l) (add_assoc n a m) ∙ sym (drop-drop (a + m) n l))

-- what stands from n on stays where something before it is replaced
pub drop-put-front : (n m : ℕ) (ys l : List ℤ) → m ≤ n → length ys ≡ m → drop n (put 0 m ys l) ≡ drop n l
unfolding put
drop-put-front n m ys l h e =
    let j : ℕ = n - m in
    let f : n ≡ m + j = omega arith in
    let g : 0 + m + j ≡ n = omega arith in
    ap (λ (k : ℕ). drop k (ys ++ drop (0 + m) l)) f ∙ sym (drop-drop j m (ys ++ drop (0 + m) l)) ∙ ap (drop j) (drop_at ys (drop (0 + m) l) m e)
    ∙ drop-drop j (0 + m) l ∙ ap (λ (k : ℕ). drop k l) g

-- ---- loops
-- one more place: to + k gets f k
pub put-turn : (f : ℕ → ℤ) (l xs : List ℤ) (p k : ℕ) → p + k < length l → xs ≡ put p k (row k f) l → slice_set xs (p + k) (f k) ≡ put p (k + 1) (row (k + 1) f) l
unfolding put
put-turn f l xs p k h e =
    let d = drop (p + k) l in
    let k-long : length (take p l ++ row k f) ≡ p + k = length-append (take p l) (row k f) ∙ ap₂ ◌+◌ (length-take-le p l (omega arith)) (length-span f 0 k) in
    let s : xs ≡ take p l ++ row k f ++ at l (p + k) ∷ drop (suc (p + k)) l =
    e ∙ sym (append_assoc (take p l) (row k f) d) ∙ ap (λ (x : List ℤ). take p l ++ row k f ++ x) (drop-cons l (p + k) (pos 0) h) in
    let u : suc (p + k) ≡ p + (k + 1) = omega arith in
    ap (λ (x : List ℤ). slice_set x (p + k) (f k)) s ∙ set_at (take p l ++ row k f) (at l (p + k)) (drop (suc (p + k)) l) (f k) (p + k) k-long
    ∙ sym (append_snoc (take p l ++ row k f) (f k) (drop (suc (p + k)) l))
    ∙ ap (λ (x : List ℤ). x ++ drop (suc (p + k)) l) (append_assoc (take p l) (row k f) (f k ∷ []) ∙ ap (λ (x : List ℤ). take p l ++ x) (sym (row_more f k)))
    ∙ append_assoc (take p l) (row (k + 1) f) (drop (suc (p + k)) l)
    ∙ ap (λ (x : ℕ). take p l ++ (row (k + 1) f ++ drop x l)) u

-- one more part of len places
pub part-turn : (F : ℕ → List ℤ) (len : ℕ) → ((k : ℕ) → length (F k) ≡ len) → (l xs ys : List ℤ) (to n p : ℕ) → to + n * len ≤ length l → p ≡ to + n * len
    → xs ≡ put to (n * len) (chunks F n) l → ys ≡ F n → put p len ys xs ≡ put to ((n + 1) * len) (chunks F (n + 1)) l
unfolding chunks
part-turn F len long l xs ys to n p h ep ex ey =
    let e : n * len + len ≡ (n + 1) * len = sym (ap (λ (x : ℕ). x * len) (add-one n) ∙ suc-mul n len) in
    ap₂ (λ (p : ℕ) (ys : List ℤ). put p len ys xs) ep ey ∙ ap (put (to + n * len) len (F n)) ex
    ∙ put_next to (n * len) (chunks F n) l h (length-chunks F len long n) len (F n)
    ∙ ap (λ (x : ℕ). put to x (chunks F n ++ F n) l) e ∙ ap (λ (x : ℕ). put to ((n + 1) * len) (chunks F x) l) (sym (add-one n))

pub parts_none : (F : ℕ → List ℤ) (len : ℕ) (l : List ℤ) (to : ℕ) → l ≡ put to (0 * len) (chunks F 0) l
unfolding chunks
parts_none F len l to = put-none to l ∙ ap (λ (x : ℕ). put to x [] l) (sym (zero-mul len))

-- the invariant of a loop that puts count parts of len places one after the other: n are there, the next goes to p
pub record Parts (F : ℕ → List ℤ) (l : List ℤ) (to count len : ℕ) (now : List ℤ) (n p : ℕ) : Type 0 where
  pub n-le : n ≤ count
  pub place_is : p ≡ to + n * len
  pub long : length now ≡ length l
  pub now_is : now ≡ put to (n * len) (chunks F n) l

pub parts_first : (F : ℕ → List ℤ) (l : List ℤ) (to count len : ℕ) → Parts F l to count len l 0 to
parts_first F l to count len = record { n-le = omega arith; place_is = omega (arith, zero-mul len); long = refl; now_is = parts_none F len l to }

pub parts_room : (F : ℕ → List ℤ) (l : List ℤ) (to count len : ℕ) (now : List ℤ) (n p : ℕ) → Parts F l to count len now n p → to + count * len ≤ length l → n < count → p + len ≤ to + count * len
parts_room F l to count len now n p q fits h = omega (arith, q.place_is, chunk_room n count len (count * len) h (omega arith))

pub parts_next : (F : ℕ → List ℤ) (l : List ℤ) (to count len : ℕ) (now : List ℤ) (n p : ℕ) → ((k : ℕ) → length (F k) ≡ len) → Parts F l to count len now n p → to + count * len ≤ length l → n < count
    → (ys new : List ℤ) → ys ≡ F n → new ≡ put p len ys now → Parts F l to count len new (n + 1) (p + len)
parts_next F l to count len now n p long q fits h ys new ey en =
    let r = parts_room F l to count len now n p q fits h in
    record {
      n-le = omega arith;
      place_is = omega (arith, q.place_is, next_place n len (n * len) refl);
      long = ap length en ∙ length-put p len ys now (omega (arith, q.long)) (ap length ey ∙ long n) ∙ q.long;
      now_is = en ∙ part-turn F len long l now ys to n p (omega (arith, q.place_is)) q.place_is q.now_is ey;
    }

pub parts_all : (F : ℕ → List ℤ) (l : List ℤ) (to count len : ℕ) (now : List ℤ) (n p : ℕ) → Parts F l to count len now n p → count ≤ n → now ≡ put to (count * len) (chunks F count) l
parts_all F l to count len now n p q h =
    let e : n ≡ count = omega (arith, q.n-le) in
    q.now_is ∙ ap (λ (x : ℕ). put to (x * len) (chunks F x) l) e

-- the next part was lent, and comes back as ys
pub lent-next : (F : ℕ → List ℤ) (l : List ℤ) (to count len : ℕ) (now : List ℤ) (n p : ℕ) → ((k : ℕ) → length (F k) ≡ len) → Parts F l to count len now n p → to + count * len ≤ length l → n < count
    → (ys : List ℤ) → ys ≡ F n → Parts F l to count len (take p now ++ (ys ++ drop (p + len - p) (drop p now))) (n + 1) (p + len)
lent-next F l to count len now n p long q fits h ys e = parts_next F l to count len now n p long q fits h ys _ e (put-lent p len ys now)

-- a place outside of those written is as it was
pub parts_same : (F : ℕ → List ℤ) (l : List ℤ) (to count len : ℕ) (now : List ℤ) (n p : ℕ) → ((k : ℕ) → length (F k) ≡ len) → Parts F l to count len now n p → to + count * len ≤ length l → n < count
    → (i : ℕ) → (to ≤ i → p ≤ i) → at now i ≡ at l i
parts_same F l to count len now n p long q fits h i out =
    let r = parts_room F l to count len now n p q fits h in
    ap (λ (z : List ℤ). at z i) q.now_is ∙ put-out to (n * len) (chunks F n) l (omega (arith, q.place_is)) (length-chunks F len long n) i (λ o. omega (arith, out o, q.place_is))

-- ---- a part that was lent
-- a value set in a part of m places that was lent from p on
pub set-lent : (p m i : ℕ) (v : ℤ) (l : List ℤ) → i < m → take p l ++ (slice_set (take m (drop p l)) i v ++ drop m (drop p l)) ≡ slice_set l (p + i) v
set-lent p m i v l h =
    let d = drop p l in
    ap₂ ◌++◌ (sym (take-set-le p l (p + i) v (omega arith)))
    (ap₂ ◌++◌ (sym (take-set-lt m d i v h)) (sym (drop-set-lt m d i v h)) ∙ take-append-drop m (slice_set d i v) ∙ sym (drop-set-add p l i v))
    ∙ take-append-drop p (slice_set l (p + i) v)
