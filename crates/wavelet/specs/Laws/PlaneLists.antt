-- Planes as lists.
use Rattle.std.specs.Prelude.{◌≡◌, ℕ, ◌+◌, ◌*◌, List, length, ℤ}
use Rattle.std.proofs.Common.{sym, ◌∙◌}
use Rattle.laws.specs.Rows.{row}
use Rattle.laws.specs.Laws.Rows.{at_row, length-span}
use Rattle.laws.specs.Code.Chunks.{chunks}
use Rattle.laws.specs.Laws.Chunks.{length-chunks, at-chunks}
use Rattle.laws.specs.Laws.Window.{Parts}
use Rattle.laws.specs.Plane.{Plane, as_plane, as_list}
use Rattle.laws.specs.Laws.Plane.{at-as_list, as_list_back, as_list_cong, Agree}

-- a list is that of any plane with which it agrees
pub list_is : (h w : ℕ) (l : List ℤ) (f : Plane) → length l ≡ h * w → Agree h w (as_plane w l) f → l ≡ as_list h w f
list_is h w l f e a = sym (as_list_back h w l e) ∙ as_list_cong h w (as_plane w l) f a

pub plane_is : (h w : ℕ) (f : Plane) → Agree h w (as_plane w (as_list h w f)) f
plane_is h w f = record { same = at-as_list h w f }

-- rows one after the other
pub rows_list : (h w : ℕ) (f : Plane) → chunks (λ y. row w (f y)) h ≡ as_list h w f
rows_list h w f = list_is h w (chunks F h) f (length-chunks F w long h) (record { same = λ y x hy hx. at-chunks F w long h y x hy hx ∙ at_row w (f y) x hx })
  where
    F : ℕ → List ℤ
    F y = row w (f y)

    long : (y : ℕ) → length (F y) ≡ w
    long y = length-span (f y) 0 w

-- parts one after the other, the next of which goes to q
pub parts_to : {F : ℕ → List ℤ} {l : List ℤ} {to count len : ℕ} {now : List ℤ} {n p q : ℕ} → q ≡ to + n * len → Parts F l to count len now n p → Parts F l to count len now n q
parts_to e r = record { n-le = r.n-le; place_is = e; long = r.long; now_is = r.now_is }
