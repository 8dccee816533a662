-- High quality as the code has it: needs, index, choice, bits and words of a slice by its numbers in the work slice.
use Rattle.std.specs.Prelude.{◌≡◌, Bool, true, false, List, ◌++◌, ℕ, ◌+◌, ◌^◌, ◌≤◌, ℤ, length}
use Rattle.std.specs.Coded.{Unit-prop, le_prop}
use Rattle.laws.specs.Ceiling.{ceiling}
use Rattle.laws.specs.Rows.{span}
use Rattle.laws.specs.Code.Chunks.{chunks}
use Rattle.codewords.specs.Bit.{Bits}
use Rattle.codewords.specs.Bytes.{to_bytes}
use Rattle.unit.specs.declared.Settings.{Settings}
use Rattle.unit.specs.declared.PictureKind.TheVariants.{HighQuality}
use Rattle.unit.specs.declared.RateControl.{RateControl}
use Rattle.unit.specs.declared.RateControl.TheVariants.{Lossless, FixedQuantIndex, PictureBytes}
use Rattle.unit.specs.Limits.{last_index, lowest_index}
use Rattle.unit.specs.Three.{Three}
use Rattle.unit.specs.Plan.{SlicePlan}
use Rattle.unit.specs.Trim.{trimmed_cost}
use Rattle.unit.specs.Code.Valid.{RateFits}
use Rattle.unit.specs.HighQuality.{need_of, component_bits, share_of, index_by, high_plan_of}
use Rattle.unit.specs.Unit.{high_bytes}
use Rattle.picture.specs.declared.slices.layout.Picture.{Picture}
use Rattle.picture.specs.declared.high.size.Needs.{Needs}
use Rattle.picture.specs.declared.high.packed.Packed.{Packed}
use Rattle.picture.specs.declared.high.choice.Choice.{Choice}
use Rattle.picture.specs.declared.high.plan.Terms.{Terms}
use Rattle.picture.specs.Code.Strip.{Small}
use Rattle.picture.specs.Code.Counts.{count_of}
use Rattle.picture.specs.Code.Packed.{packed}
use Rattle.picture.specs.Code.Picture.{slices_in, numbers_in, Arranged}

-- the index of slice k
unfoldable pub index_in : List ℤ → Picture → Terms → ℕ → ℕ
index_in w p t k = index_by t.lo t.rate t.prefix t.scaler (share_of t.bytes (slices_in p) k) (numbers_in w p k)

unfoldable pub plan_in : List ℤ → Picture → Terms → ℕ → SlicePlan
plan_in w p t k = let q = index_in w p t k in high_plan_of t.prefix t.scaler q (numbers_in w p k q)

-- the plans of the first n slices, and their bytes
abbrev pub plans_in : List ℤ → Picture → Terms → ℕ → List SlicePlan
plans_in w p t n = span (plan_in w p t) 0 n

abbrev pub high_runs : List ℤ → Picture → Terms → ℕ → List ℕ
high_runs w p t n = chunks (λ k. to_bytes (plan_in w p t k).bits) n

-- the terms of a call with scaler c
abbrev pub terms_of : Settings → List ℕ → ℕ → Terms
terms_of s m c = record { rate = s.rate; prefix = s.slice_prefix_bytes; scaler = c; bytes = high_bytes s m c; lo = lowest_index }

abbrev pub slices_by : List ℤ → Picture → Settings → List ℕ → ℕ → List SlicePlan
slices_by w p s m c = plans_in w p (terms_of s m c) (slices_in p)

-- the three components' bits
abbrev pub three_bits : ℕ → Three (List ℤ) → Bits
three_bits c z = component_bits c z.y ++ (component_bits c z.c1 ++ component_bits c z.c2)

-- a run's words and bits
abbrev pub packed_of : List ℤ → Packed
packed_of xs = record { words = length (packed 0 xs); bits = trimmed_cost xs }

-- the choice of index q for a slice whose numbers at an index are z
abbrev pub choice_by : (ℕ → Three (List ℤ)) → ℕ → Choice
choice_by z q = record { index = q; y = packed_of (z q).y; c1 = packed_of (z q).c1; c2 = packed_of (z q).c2 }

-- the choice of slice k
abbrev pub choice_in : List ℤ → Picture → Terms → ℕ → Choice
choice_in w p t k = choice_by (numbers_in w p k) (index_in w p t k)

-- the words of a slice's numbers
abbrev pub slice_words : Three (List ℤ) → List ℤ
slice_words z = packed 0 z.y ++ (packed 0 z.c1 ++ packed 0 z.c2)

-- the words of slice k, and of the first n slices
abbrev pub words_in : List ℤ → Picture → Terms → ℕ → List ℤ
words_in w p t k = slice_words (numbers_in w p k (index_in w p t k))

abbrev pub words_to : List ℤ → Picture → Terms → ℕ → List ℤ
words_to w p t n = chunks (words_in w p t) n

-- how many numbers slice k has
abbrev pub slice_number_count : Picture → ℕ → ℕ
slice_number_count p k = count_of p.layout p.y k + (count_of p.layout p.c1 k + count_of p.layout p.c2 k)

-- the bytes that the components need, by their bits
abbrev pub needs_by : ℕ → ℕ → ℕ → Needs
needs_by y c1 c2 = record { y = ceiling y 8; c1 = ceiling c1 8; c2 = ceiling c2 8 }

-- how many words a choice has
abbrev pub words_of : Choice → ℕ
words_of c = c.y.words + (c.c1.words + c.c2.words)

-- whether a rate is a byte target
unfoldable pub is_target : RateControl → Bool
is_target Lossless = false
is_target (FixedQuantIndex q) = false
is_target (PictureBytes b) = true

-- ---- conditions and outcomes
-- terms by which slices can be planned
pub record TermsIn (t : Terms) : Type 0 where
  pub rate : RateFits HighQuality t.rate
  pub prefix : t.prefix ≤ 255
  pub scaler : (1 ≤ t.scaler) × (t.scaler ≤ 2 ^ 24)
  pub bytes : t.bytes ≤ 2 ^ 30
  pub lo : t.lo ≤ last_index HighQuality

-- these facts have one proof each
rate_once : (r : RateControl) → IsProp (RateFits HighQuality r)
rate_once Lossless = Unit-prop
rate_once (FixedQuantIndex q) = le_prop
rate_once (PictureBytes b) = le_prop

pub terms_once : (t : Terms) → IsProp (TermsIn t)
terms_once t = hlevel (rate_once t.rate, le_prop)

-- slices can be planned
pub record PlanIn (p : Picture) (t : Terms) (w : List ℤ) : Type 0 where
  pub arranged : Arranged p
  pub plain : p.layout.predicted ≡ false
  pub small : Small p.front p.end w
  pub terms : TermsIn t

-- the needs of numbers z
pub record NeedsOf (z : Three (List ℤ)) (n : Needs) : Type 0 where
  pub y : n.y ≡ need_of z.y
  pub c1 : n.c1 ≡ need_of z.c1
  pub c2 : n.c2 ≡ need_of z.c2
  pub few : (n.y ≤ 2 ^ 30) × ((n.c1 ≤ 2 ^ 30) × (n.c2 ≤ 2 ^ 30))

-- index, words and bits of a choice are small enough to be added up and noted
pub record FewBits (c : Choice) : Type 0 where
  pub index : c.index ≤ 255
  pub words : (c.y.words ≤ 2 ^ 33) × ((c.c1.words ≤ 2 ^ 33) × (c.c2.words ≤ 2 ^ 33))
  pub bits : (c.y.bits ≤ 2 ^ 33) × ((c.c1.bits ≤ 2 ^ 33) × (c.c2.bits ≤ 2 ^ 33))
