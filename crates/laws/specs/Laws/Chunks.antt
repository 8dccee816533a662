-- Laws of lists put one after the other, and what a loop leaves that lends one part of a slice after the other.
use Rattle.std.specs.Prelude.{◌≡◌, ℕ, zero, suc, ◌+◌, ◌*◌, ◌<◌, ◌≤◌, List, [], ◌++◌, length, drop, ℤ, pos, slice_index_or, slice_set}
use Rattle.std.proofs.Math.Path.{refl, sym, ap₂}
use Rattle.std.proofs.Common.{◌∙◌, zero-mul, le_trans, add-one, append-nil, get_or-append-add, drop-cons}
use Rattle.std.proofs.Math.Nat.{suc-mul, mul-le-mul_right}
use native.Mathlib.Omega.{arith}
use Rattle.std.proofs.Math.Decide.{ℕ_discrete}
use Rattle.std.proofs.Math.ListN.{length-append, get_or-append}
use Rattle.std.proofs.lemmas.List.{set_at}
use Rattle.std.proofs.Math.Seq.{append_snoc, drop-length}
use Rattle.laws.specs.Rows.{at, row}
use Rattle.laws.specs.Laws.Rows.{length-span, row_more}
use Rattle.laws.specs.Code.Chunks.{chunks}

module _ {A : Type 0} where
  pub chunks_ext : (F G : ℕ → List A) (n : ℕ) → ((k : ℕ) → k < n → F k ≡ G k) → chunks F n ≡ chunks G n
  unfolding chunks
  chunks_ext F G zero e = refl
  chunks_ext F G (suc n) e = ap₂ ◌++◌ (chunks_ext F G n (λ k l. e k (omega arith))) (e n (omega arith))

  pub chunks-none : (F : ℕ → List A) → chunks F 0 ≡ []
  unfolding chunks
  chunks-none F = refl

  pub chunks-more : (F : ℕ → List A) (n : ℕ) → chunks F (n + 1) ≡ chunks F n ++ F n
  unfolding chunks
  chunks-more F n = rw (add-one n)

  -- parts of one length
  module _ (F : ℕ → List A) (w : ℕ) (long : (k : ℕ) → length (F k) ≡ w) where
    pub length-chunks : (n : ℕ) → length (chunks F n) ≡ n * w
    unfolding chunks
    length-chunks zero = sym (zero-mul w)
    length-chunks (suc n) = length-append (chunks F n) (F n) ∙ rw (length-chunks n, long n) (sym (suc-mul n w))

    pub get_or-chunks : (d : A) (n y x : ℕ) → y < n → x < w → slice_index_or (chunks F n) (y * w + x) d ≡ slice_index_or (F y) x d
    unfolding chunks
    get_or-chunks d zero y x hy hx = absurd (omega arith)
    get_or-chunks d (suc n) y x hy hx = by (ℕ_discrete y n) (λ l. get_or-chunks d n y x l hx)
      where
        by : Dec (y ≡ n) → (y < n → slice_index_or (chunks F n) (y * w + x) d ≡ slice_index_or (F y) x d) → slice_index_or (chunks F n ++ F n) (y * w + x) d ≡ slice_index_or (F y) x d
        by (yes e) ih = rw (e, ← length-chunks n) (get_or-append-add (chunks F n) (F n) x d)
        by (no o) ih =
            let l : y < n = omega arith in
            let m = mul-le-mul_right w l in
            let b : y * w + x < length (chunks F n) = rw (length-chunks n) (omega (arith, m, suc-mul y w)) in
            get_or-append (chunks F n) (F n) d (y * w + x) b ∙ ih l

pub at-chunks : (F : ℕ → List ℤ) (w : ℕ) → ((k : ℕ) → length (F k) ≡ w) → (n y x : ℕ) → y < n → x < w → at (chunks F n) (y * w + x) ≡ at (F y) x
at-chunks F w long n y x hy hx = get_or-chunks F w long (pos 0) n y x hy hx

pub chunk_room : (n count w len : ℕ) → n < count → count * w ≤ len → n * w + w ≤ len
chunk_room n count w len h room = le_trans (rw (← suc-mul) (mul-le-mul_right w h)) room

pub next_place : (n w p : ℕ) → p ≡ n * w → p + w ≡ (n + 1) * w
next_place n w p e = rw (add-one, suc-mul, e)

-- ---- a list filled from its front
pub fill-turn : (f : ℕ → ℤ) (l xs : List ℤ) (n : ℕ) → n < length l → xs ≡ row n f ++ drop n l → slice_set xs n (f n) ≡ row (n + 1) f ++ drop (n + 1) l
fill-turn f l xs n h e =
    rw (e, drop-cons l n (pos 0) h, set_at (row n f) (at l n) (drop (suc n) l) (f n) n (length-span f 0 n), row_more, add-one n) (sym (append_snoc (row n f) (f n) (drop (suc n) l)))

pub fill_all : (f : ℕ → ℤ) (l : List ℤ) (n : ℕ) → n ≡ length l → row n f ++ drop n l ≡ row (length l) f
fill_all f l n e = rw (e, drop-length l) (append-nil (row (length l) f))
