-- Low delay as the code has it: rebuilt planes, index, bits and cut of a slice by the work slice.
use Rattle.std.specs.Prelude.{◌≡◌, Bool, true, false, cond, List, ◌++◌, ℕ, zero, suc, ◌+◌, ◌^◌, ◌≤◌, ◌<◌, leb, ℤ, length, take}
use Rattle.laws.specs.Code.Chunks.{chunks}
use Rattle.laws.specs.Rows.{span, total}
use Rattle.codewords.specs.Bit.{Bits, val}
use Rattle.codewords.specs.Bytes.{to_bytes}
use Rattle.codewords.specs.CodeWord.{codes}
use Rattle.unit.specs.declared.PictureKind.TheVariants.{LowDelay}
use Rattle.unit.specs.Limits.{lowest_index, last_index}
use Rattle.unit.specs.Trim.{bits_of, trimmed_cost}
use Rattle.unit.specs.Elect.{elect}
use Rattle.unit.specs.LowDelay.{slice_bytes, room_of, low_bits, kept_runs}
use Rattle.picture.specs.declared.slices.strip.Strip.{Strip}
use Rattle.picture.specs.declared.slices.layout.Component.{Component}
use Rattle.picture.specs.declared.slices.layout.Picture.{Picture}
use Rattle.picture.specs.declared.slices.cost.Cost.{Cost}
use Rattle.picture.specs.declared.slices.tally.Trimmed.{Trimmed}
use Rattle.picture.specs.declared.low.cut.Kept as code
use Rattle.picture.specs.Code.Strip.{Small, rebuilt_strip}
use Rattle.picture.specs.Code.Layout.{band_count, strip_of, run_numbers}
use Rattle.picture.specs.Code.Picture.{slices_in, run_of, Arranged}

-- slice k's strip of a component's level 0 at index q
abbrev pub strip0 : Picture → Component → ℕ → ℕ → Strip
strip0 p c k q = strip_of p.layout c c false 0 0 k q

-- slice k's part of the three rebuilt planes made at index q
unfoldable pub rebuilt_in : List ℤ → Picture → ℕ → ℕ → List ℤ
rebuilt_in w p k q = rebuilt_strip (rebuilt_strip (rebuilt_strip w (strip0 p p.y k q)) (strip0 p p.c1 k q)) (strip0 p p.c2 k q)

-- the numbers of luma and of the two colours, where the planes are rebuilt
abbrev pub luma_in : List ℤ → Picture → ℕ → ℕ → List ℤ
luma_in w p k q = run_of w p p.y k q

abbrev pub colour_in : List ℤ → Picture → ℕ → ℕ → List ℤ
colour_in w p k q = run_numbers w p.layout p.c1 p.c2 true k q (band_count p.layout)

-- whether slice k at index q takes at most room bits
unfoldable pub low_fits_in : List ℤ → Picture → ℕ → ℕ → ℕ → Bool
low_fits_in w p room k q =
    let v = rebuilt_in w p k q in
    leb (trimmed_cost (luma_in v p k q) + trimmed_cost (colour_in v p k q)) room

-- the bits of slice k of n bytes at index q, where the planes are rebuilt
unfoldable pub low_bits_by : List ℤ → Picture → ℕ → ℕ → ℕ → Bits
low_bits_by v p n k q =
    let r = kept_runs (room_of n) (luma_in v p k q) (colour_in v p k q) in
    low_bits n q r.luma r.colour

-- 1 where the runs ys and cs take more than room bits, so that they are cut, else 0
abbrev pub cut_by : ℕ → List ℤ → List ℤ → ℕ
cut_by room ys cs = cond (leb (trimmed_cost ys + trimmed_cost cs) room) 0 1

-- 1 where that slice is cut, else 0
unfoldable pub low_cut_by : List ℤ → Picture → ℕ → ℕ → ℕ → ℕ
low_cut_by v p n k q = cut_by (room_of n) (luma_in v p k q) (colour_in v p k q)

-- n is the numerator
module _ (p : Picture) (n : ℕ) where
  abbrev pub bytes_at : ℕ → ℕ
  bytes_at k = slice_bytes n (slices_in p) k

  -- the index of slice k, the work slice behind it, its bits, and whether it is cut
  unfoldable pub low_index_in : List ℤ → ℕ → ℕ
  low_index_in w k = elect lowest_index (last_index LowDelay) (low_fits_in w p (room_of (bytes_at k)) k)

  abbrev pub low_work_in : List ℤ → ℕ → List ℤ
  low_work_in w k = rebuilt_in w p k (low_index_in w k)

  abbrev pub low_bits_in : List ℤ → ℕ → Bits
  low_bits_in w k = low_bits_by (low_work_in w k) p (bytes_at k) k (low_index_in w k)

  abbrev pub low_cut_in : List ℤ → ℕ → ℕ
  low_cut_in w k = low_cut_by (low_work_in w k) p (bytes_at k) k (low_index_in w k)

  -- the work slice before slice k
  unfoldable pub work_at : List ℤ → ℕ → List ℤ
  work_at w zero = w
  work_at w (suc k) = low_work_in (work_at w k) k

  -- the bytes of the first j slices, and how many of these are cut
  abbrev pub low_runs : List ℤ → ℕ → List ℕ
  low_runs w j = chunks (λ k. to_bytes (low_bits_in (work_at w k) k)) j

  abbrev pub cuts_in : List ℤ → ℕ → ℕ
  cuts_in w j = total (span (λ k. low_cut_in (work_at w k) k) 0 j)

-- ---- outcomes
-- trials have made v of w: at every index the same planes are rebuilt from either
pub record Tried (p : Picture) (k : ℕ) (w v : List ℤ) : Type 0 where
  pub same : (q : ℕ) → rebuilt_in v p k q ≡ rebuilt_in w p k q
  pub small : Small p.front p.end v
  pub size : length v ≡ length w

-- the shorter one of a kept run and the longest run that fits
pub record Shorter (c : Cost) (r : Trimmed) : Type 0 where
  pub fit : c.fit ≤ c.keep → (r.count ≡ c.fit) × (r.bits ≡ c.fit_bits)
  pub kept : c.keep < c.fit → (r.count ≡ c.keep) × (r.bits ≡ c.kept_bits)

-- the bits of the two runs that are kept
abbrev pub run_bits : List ℤ → Picture → ℕ → ℕ → code.Kept → Bits
run_bits w p k q r = codes (take r.luma.count (luma_in w p k q)) ++ codes (take r.colour.count (colour_in w p k q))

-- the runs that are written of ys and cs, by count and bits, and whether they are cut
pub record KeptOf (room : ℕ) (ys cs : List ℤ) (r : code.Kept) : Type 0 where
  pub luma : (kept_runs room ys cs).luma ≡ take r.luma.count ys
  pub luma-bits : r.luma.bits ≡ bits_of (kept_runs room ys cs).luma
  pub colour : (kept_runs room ys cs).colour ≡ take r.colour.count cs
  pub colour-bits : r.colour.bits ≡ bits_of (kept_runs room ys cs).colour
  pub fits : r.luma.bits + r.colour.bits ≤ room
  pub cut : val r.cut ≡ cut_by room ys cs

-- low-delay slices can be coded with numerator n
pub record LowIn (p : Picture) (n : ℕ) (w : List ℤ) : Type 0 where
  pub arranged : Arranged p
  pub small : Small p.front p.end w
  pub enough : slices_in p ≤ n
  pub few : n ≤ 2 ^ 30
