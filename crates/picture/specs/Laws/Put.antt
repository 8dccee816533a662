-- Laws of written runs: nothing, one number, one run after another, and what is left of the room.
use Rattle.std.specs.Prelude.{◌≡◌, refl, false, ℤ, pos, nat_abs, length, take}
use Rattle.std.proofs.Math.Path.{sym, ap}
use Rattle.std.proofs.Common.{◌∙◌, length-append, to_z, of_z, to_z-of_z}
use mathlib.Core.List.{List, [], ◌∷◌, ◌++◌, append_assoc, append-nil}
use Prim.Native.Nat.{ℕ, zero, suc, ◌+◌, ◌-◌, ◌^◌, ◌≤◌, ◌<◌}
use native.Mathlib.Omega.{arith}
use Rattle.std.specs.Int.Signed.{lt_z}
use Rattle.std.proofs.Math.Seq.{take-nil}
use Rattle.std.specs.Int.{w64}
use Rattle.laws.specs.Code.Chunks.{chunks}
use Rattle.laws.specs.Laws.Machine.{fit}
use Rattle.codewords.specs.CodeWord.{code_s, code_m, codes}
use Rattle.codewords.specs.Laws.Code.{codes-one, codes-append}
use Rattle.codewords.specs.Code.Writer.{Sound, Room, Wrote}
use Rattle.codewords.specs.Laws.Writer.{wrote_none, wrote_then, room_after}
use Rattle.codewords.specs.declared.writer.BitWriter.{BitWriter}
use Rattle.quantiser.specs.Quant.{forward_by}
use Rattle.quantiser.specs.Laws.Sign.{forward-code}
use Rattle.picture.specs.declared.low.put.Put.{Put}
use Rattle.picture.specs.declared.slices.strip.Strip.{Strip}
use Rattle.picture.specs.Code.Strip.{plane_from, number_in}
use Rattle.picture.specs.Laws.Tally.{plain_number}
use Rattle.picture.specs.Code.Put.{RoomFor, Puts}

-- ---- the code words of the first n
take-append : (n : ℕ) (xs ys : List ℤ) → take n (xs ++ ys) ≡ take n xs ++ take (n - length xs) ys
take-append zero xs ys = let e : 0 - length xs ≡ 0 = omega arith in ap (λ (k : ℕ). take k ys) (sym e)
take-append (suc n) [] ys = let e : suc n ≡ suc n - 0 = omega arith in ap (λ (k : ℕ). take k ys) e
take-append (suc n) (x ∷ xs) ys =
    let e : n - length xs ≡ suc n - suc (length xs) = omega arith in
    ap (λ (r : List ℤ). x ∷ r) (take-append n xs ys ∙ ap (λ (k : ℕ). take n xs ++ take k ys) e)

kept-codes : (n : ℕ) (xs ys : List ℤ) → codes (take n (xs ++ ys)) ≡ codes (take n xs) ++ codes (take (n - length xs) ys)
kept-codes n xs ys = ap codes (take-append n xs ys) ∙ codes-append (take n xs) (take (n - length xs) ys)

kept-length : (n : ℕ) (xs ys : List ℤ) → length (codes (take n (xs ++ ys))) ≡ length (codes (take n xs)) + length (codes (take (n - length xs) ys))
kept-length n xs ys = ap length (kept-codes n xs ys) ∙ length-append (codes (take n xs)) (codes (take (n - length xs) ys))

kept-one : (n : ℕ) (z : ℤ) → 0 < n → codes (take n (z ∷ [])) ≡ code_s z
kept-one zero z h = absurd (omega arith)
kept-one (suc n) z h = ap (λ (r : List ℤ). codes (z ∷ r)) (take-nil n) ∙ codes-one z

none_kept : (n : ℕ) → codes (take n []) ≡ []
unfolding codes
none_kept n = ap codes (take-nil n)

zero-kept : (n : ℕ) (xs : List ℤ) → n ≡ 0 → codes (take n xs) ≡ []
unfolding codes
zero-kept n xs e = ap (λ (k : ℕ). codes (take k xs)) e

-- the code word of the number of a place that is not predicted, by its size and the sign of its coefficient c
pub plain_word : (l : List ℤ) (s : Strip) (coefs base y x m : ℕ) (c : ℤ) → s.predicted ≡ false → nat_abs c < 2 ^ 63 → c ≡ plane_from l coefs s.width y x
    → m ≡ nat_abs (forward_by s.factor (to_z w64 (of_z w64 c))) → code_m m (lt_z (to_z w64 (of_z w64 c)) (pos 0)) ≡ code_s (number_in l s coefs base y x)
plain_word l s coefs base y x m c p r e h =
    let d = to_z w64 (of_z w64 c) in
    let f : d ≡ plane_from l coefs s.width y x = to_z-of_z {w = w64} (fit c r) ∙ e in
    ap (λ (k : ℕ). code_m k (lt_z d (pos 0))) h
    ∙ sym (forward-code s.factor d)
    ∙ ap (λ (z : ℤ). code_s (forward_by s.factor z)) f
    ∙ ap code_s (plain_number l s coefs base y x p)

-- the code word by the size of the number and the sign of the coefficient x, as the code reads c
pub forward_word : (f m : ℕ) (c x : ℤ) → x ≡ c → m ≡ nat_abs (forward_by f x) → code_m m (lt_z x (pos 0)) ≡ code_s (forward_by f c)
forward_word f m c x e d = ap (λ (k : ℕ). code_m k (lt_z x (pos 0))) d ∙ sym (forward-code f x) ∙ ap (λ (z : ℤ). code_s (forward_by f z)) e

-- ---- what has been written
pub puts_none : {o : List ℕ} {p : Put} {n : ℕ} → Room o p.writer n → Puts o p [] o p
puts_none {o} {p} r = record { wrote = rw (none_kept p.left) (wrote_none r); left = omega arith }

-- nothing is to be kept
pub puts_past : {o : List ℕ} {p : Put} {n : ℕ} (xs : List ℤ) → Room o p.writer n → p.left ≡ 0 → Puts o p xs o p
puts_past {o} {p} xs r e = record { wrote = rw (zero-kept p.left xs e) (wrote_none r); left = omega arith }

pub puts_one : {o o' : List ℕ} {p : Put} {w : BitWriter} (z : ℤ) → 0 < p.left → Wrote o p.writer (code_s z) o' w
    → Puts o p (z ∷ []) o' (record { writer = w; left = p.left - 1 })
puts_one {o} {o'} {p} z h q = record { wrote = rw (kept-one p.left z h) q; left = refl }

pub puts_same : {o o' : List ℕ} {p p' : Put} {xs ys : List ℤ} → xs ≡ ys → Puts o p xs o' p' → Puts o p ys o' p'
puts_same e q = rw e at q

pub puts_then : {o o' o'' : List ℕ} {p p' p'' : Put} {xs ys : List ℤ} → Sound p.writer → Puts o p xs o' p' → Puts o' p' ys o'' p'' → Puts o p (xs ++ ys) o'' p''
puts_then {o} {o'} {o''} {p} {p'} {p''} {xs} {ys} s a b = record {
  wrote = rw (kept-codes p.left xs ys) (wrote_then s a.wrote (rw a.left at b.wrote));
  left = omega (arith, a.left, b.left, length-append xs ys);
}

-- ---- room
pub room_same : {o : List ℕ} (p : Put) (xs ys : List ℤ) → xs ≡ ys → RoomFor o p xs → RoomFor o p ys
room_same {o} p xs ys e r = rw (← e) r

pub room_one : {o : List ℕ} (p : Put) (z : ℤ) → 0 < p.left → RoomFor o p (z ∷ []) → Room o p.writer (length (code_s z))
room_one {o} p z h r = rw (← kept-one p.left z h) r

pub room_first : {o : List ℕ} (p : Put) (xs ys : List ℤ) → RoomFor o p (xs ++ ys) → RoomFor o p xs
room_first {o} p xs ys r = record { sound = r.sound; room = omega (arith, r.room, kept-length p.left xs ys) }

pub room_next : {o o' : List ℕ} {p p' : Put} (xs ys : List ℤ) → RoomFor o p (xs ++ ys) → Puts o p xs o' p' → RoomFor o' p' ys
room_next {o} {o'} {p} {p'} xs ys r a =
    rw a.left (room_after (length (codes (take (p.left - length xs) ys))) r a.wrote (omega (arith, kept-length p.left xs ys)))

-- ---- part after part
module _ (F : ℕ → List ℤ) where
  pub chunks_split : (k m : ℕ) → chunks F (m + k) ≡ chunks F k ++ chunks (λ j. F (j + k)) m
  unfolding chunks
  chunks_split k zero = let e : 0 + k ≡ k = omega arith in ap (chunks F) e ∙ sym (append-nil (chunks F k))
  chunks_split k (suc m) =
      let e : suc m + k ≡ suc (m + k) = omega arith in
      ap (chunks F) e
      ∙ ap (λ (r : List ℤ). r ++ F (m + k)) (chunks_split k m)
      ∙ append_assoc (chunks F k) (chunks (λ j. F (j + k)) m) (F (m + k))

  -- room for the next part
  pub part_room : {o o' : List ℕ} {p p' : Put} (n k : ℕ) → k < n → RoomFor o p (chunks F n) → Puts o p (chunks F k) o' p' → RoomFor o' p' (F k)
  unfolding chunks
  part_room {o} {o'} {p} {p'} n k h r a =
      let m : ℕ = n - suc k in
      let d : n ≡ m + suc k = omega arith in
      let e : chunks F n ≡ chunks F (suc k) ++ chunks (λ j. F (j + suc k)) m = ap (chunks F) d ∙ chunks_split (suc k) m in
      room_next (chunks F k) (F k) (room_first p (chunks F k ++ F k) (chunks (λ j. F (j + suc k)) m) (rw e at r)) a

  pub part-turn : {o o' o'' : List ℕ} {p p' p'' : Put} (from x : ℕ) → from ≤ x → Sound p.writer → Puts o p (chunks F (x - from)) o' p' → Puts o' p' (F (x - from)) o'' p''
      → Puts o p (chunks F (x + 1 - from)) o'' p''
  unfolding chunks
  part-turn from x h s a b = let e : x + 1 - from ≡ suc (x - from) = omega arith in rw e (puts_then s a b)

  pub part-none : {o : List ℕ} {p : Put} {n : ℕ} (x : ℕ) → Room o p.writer n → Puts o p (chunks F (x - x)) o p
  unfolding chunks
  part-none x r = let e : x - x ≡ 0 = omega arith in rw e (puts_none r)

-- the parts from one place on: G x is that of x
module _ (G : ℕ → List ℤ) (from : ℕ) where
  -- those before x
  abbrev pub parts : ℕ → List ℤ
  parts x = chunks (λ k. G (from + k)) (x - from)

  pub parts_none : {o : List ℕ} {p : Put} {n : ℕ} → Room o p.writer n → Puts o p (parts from) o p
  unfolding chunks
  parts_none r = let e : from - from ≡ 0 = omega arith in rw e (puts_none r)

  pub turn_room : {o o' : List ℕ} {p p' : Put} (x end : ℕ) → from ≤ x → x < end → RoomFor o p (parts end) → Puts o p (parts x) o' p' → RoomFor o' p' (G x)
  turn_room {p' = p'} x end h b r a =
      let e : from + (x - from) ≡ x = omega arith in
      room_same p' (G (from + (x - from))) (G x) (ap G e) (part_room (λ k. G (from + k)) (end - from) (x - from) (omega arith) r a)

  pub parts-turn : {o o' o'' : List ℕ} {p p' p'' : Put} (x : ℕ) → from ≤ x → Sound p.writer → Puts o p (parts x) o' p' → Puts o' p' (G x) o'' p'' → Puts o p (parts (x + 1)) o'' p''
  unfolding chunks
  parts-turn x h s a b =
      let e : x + 1 - from ≡ suc (x - from) = omega arith in
      let d : from + (x - from) ≡ x = omega arith in
      rw (e, d) (puts_then s a b)
