-- Laws of planes as lists; a plane kept as a list between two passes, so that each value is computed once.
use Rattle.std.specs.Prelude.{◌≡◌, ℕ, zero, suc, ◌+◌, ◌*◌, ◌/◌, ◌%◌, ◌<◌, List, length, ℤ, pos}
use Rattle.std.proofs.Common.{sym, ap, ap₂, ◌∙◌, zero-add, div-add-mod', div-lt_iff_lt-mul, mod-lt, mul_comm, arith, ext_get_or}
use Rattle.std.proofs.Math.Arith.{digits_div, digits_mod, digits_lt}
use Rattle.laws.specs.Rows.{at}
use Rattle.laws.specs.Laws.Rows.{length-span, get_or-span, span_ext}
use Rattle.laws.specs.Plane.{Plane, as_plane, as_list}

pub length-as_list : (h w : ℕ) (f : Plane) → length (as_list h w f) ≡ h * w
length-as_list h w f = length-span (λ k. f (k / w) (k % w)) 0 (h * w)

pub at-as_list : (h w : ℕ) (f : Plane) (y x : ℕ) → y < h → x < w → at (as_list h w f) (y * w + x) ≡ f y x
at-as_list h w f y x hy hx =
    get_or-span (λ k. f (k / w) (k % w)) 0 (h * w) (y * w + x) (pos 0) (digits_lt hy hx)
    ∙ rw (zero-add (y * w + x)) (ap₂ f (digits_div y hx) (digits_mod y hx))

wide : (h w k : ℕ) → k < h * w → 0 < w
wide h zero k l = omega (arith, mul_comm h 0)
wide h (suc w) k l = omega arith

-- a place k of the list is row k / w, column k % w
module _ (h w k : ℕ) (inside : k < h * w) where
  pub row_lt : k / w < h
  row_lt = (div-lt_iff_lt-mul (wide h w k inside)).1 inside

  pub column-lt : k % w < w
  column-lt = mod-lt k (wide h w k inside)

-- planes that agree on h rows of w
pub record Agree (h w : ℕ) (f g : Plane) : Type 0 where
  pub same : (y x : ℕ) → y < h → x < w → f y x ≡ g y x

pub as_list_cong : (h w : ℕ) (f g : Plane) → Agree h w f g → as_list h w f ≡ as_list h w g
as_list_cong h w f g e =
    span_ext (λ k. f (k / w) (k % w)) (λ k. g (k / w) (k % w)) 0 (h * w)
    (λ k a b. let l : k < h * w = rw zero-add at b in e.same (k / w) (k % w) (row_lt h w k l) (column-lt h w k l))

-- a list of h rows of w is that of its plane
pub as_list_back : (h w : ℕ) (l : List ℤ) → length l ≡ h * w → as_list h w (as_plane w l) ≡ l
as_list_back h w l e =
    ext_get_or (pos 0) (as_list h w (as_plane w l)) l (length-as_list h w (as_plane w l) ∙ sym e)
    (λ k b.
    get_or-span (λ k. as_plane w l (k / w) (k % w)) 0 (h * w) k (pos 0) (rw (length-as_list h w (as_plane w l)) at b)
    ∙ rw (zero-add k) (ap (at l) (div-add-mod' k w)))
