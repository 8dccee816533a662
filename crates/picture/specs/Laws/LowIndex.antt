-- Laws of a low-delay slice's index: its bytes and bits, its candidates in the work slice, what they cost, and the
-- election.
use Rattle.std.specs.Prelude.{◌≡◌, refl, false, List, ℤ}
use Rattle.std.proofs.Common.{ap, ◌∙◌, add-one, arith}
use Prim.Native.Nat.{ℕ, suc, ◌+◌, ◌*◌, ◌-◌, ◌/◌, ◌^◌, ◌≤◌}
use Rattle.std.proofs.Math.Nat.{suc-mul, mul-le-mul_left, mul-one, add-mul-div_right}
use Rattle.unit.proofs.Laws.Slice.{div_rises}
use Rattle.unit.proofs.Laws.Intlog2.{intlog2-least, intlog2-most}
use Rattle.unit.specs.Limits.{area_limit}
use Rattle.picture.specs.Code.Cost.{no_cost, Countable}
use Rattle.unit.specs.LowDelay.{slice_bytes, length_bits}
use Rattle.unit.proofs.Laws.LowDelay.{bytes_some}
use Rattle.picture.specs.declared.slices.layout.Component.{Component}
use Rattle.picture.specs.declared.slices.layout.Picture.{Picture}
use Rattle.picture.specs.Code.Strip.{rebuilt_strip}
use Rattle.picture.specs.Laws.Strip.{rows_keep}
use Rattle.picture.specs.Code.Layout.{RunIn, RunLies}
use Rattle.picture.specs.Laws.Layout.{run_lies, first-within}
use Rattle.picture.specs.Code.Picture.{SliceIn}
use Rattle.picture.specs.Laws.Picture.{run_y, run_pair}
use Rattle.picture.specs.Code.Low.{strip0, rebuilt_in}

-- ---- bytes
module _ (n d k : ℕ) where
  -- a slice has at most all of them
  bytes_most : 1 ≤ d → slice_bytes n d k ≤ n
  unfolding slice_bytes
  bytes_most h =
      let g : suc k * n ≤ k * n + n * d = omega (arith, suc-mul k n, mul-le-mul_left n h, mul-one n) in
      omega (arith, div_rises d g, add-mul-div_right (k * n) n h)

  bytes_by : (k + 1) * n / d - k * n / d ≡ slice_bytes n d k
  unfolding slice_bytes
  bytes_by = rw (add-one k)

  pub bytes_are : 1 ≤ d → d ≤ n → let r = (k + 1) * n / d - k * n / d in (r ≡ slice_bytes n d k) × ((1 ≤ r) × (r ≤ n))
  bytes_are h g = (bytes_by, (omega (arith, bytes_by, bytes_some n d k h g), omega (arith, bytes_by, bytes_most h)))

-- ---- bits
pub length_few : (n : ℕ) → n ≤ 2 ^ 30 → length_bits n ≤ 33
length_few n h = (intlog2-least (8 * n - 7)).least 33 (omega arith)

-- the length field leaves the rest as room
pub length_most : (n : ℕ) → length_bits n ≤ 8 * n - 7
length_most n = intlog2-most (8 * n - 7)

-- ---- rebuilt planes
-- one component after the other
pub planes-rebuilt : (w a b r : List ℤ) (p : Picture) (k q : ℕ) → a ≡ rebuilt_strip w (strip0 p p.y k q) → b ≡ rebuilt_strip a (strip0 p p.c1 k q)
    → r ≡ rebuilt_strip b (strip0 p p.c2 k q) → r ≡ rebuilt_in w p k q
unfolding rebuilt_in
planes-rebuilt w a b r p k q e f g =
    g ∙ ap (λ (b : List ℤ). rebuilt_strip b (strip0 p p.c2 k q)) (f ∙ ap (λ (a : List ℤ). rebuilt_strip a (strip0 p p.c1 k q)) e)

-- a slice can be read behind the rebuilding of a component
pub slice_rebuilt : {p : Picture} {w v : List ℤ} {k q : ℕ} (c : Component) → SliceIn p w k q → RunIn p.layout c c p.front p.end k q w
    → v ≡ rebuilt_strip w (strip0 p c k q) → SliceIn p v k q
slice_rebuilt c s h e = record {
  arranged = s.arranged;
  small = rw e (rows_keep h.small (first-within h false _ refl) _ (omega arith));
  slice = s.slice;
  index = s.index;
}

-- ---- further laws
none_countable : (room n : ℕ) → n ≤ area_limit → Countable (no_cost room) (2 * n)
none_countable room n h = record { bits = omega arith; count = omega arith }

pub luma_ready : {p : Picture} {w : List ℤ} {k q : ℕ} (room : ℕ) → SliceIn p w k q
    → RunLies p.layout p.y p.y k q w × Countable (no_cost room) (2 * (p.y.width * p.y.height))
luma_ready {p = p} room s = (run_lies (run_y s), none_countable room (p.y.width * p.y.height) s.arranged.y.area)

pub colour_ready : {p : Picture} {w : List ℤ} {k q : ℕ} (room : ℕ) → SliceIn p w k q
    → RunLies p.layout p.c1 p.c2 k q w × Countable (no_cost room) (2 * (p.c1.width * p.c1.height))
colour_ready {p = p} room s = (run_lies (run_pair s), none_countable room (p.c1.width * p.c1.height) s.arranged.c1.area)

pub bytes_rise : (n d k : ℕ) → k * n / d ≤ (k + 1) * n / d
bytes_rise n d k = rw (add-one k) (div_rises d (omega (arith, suc-mul k n)))
