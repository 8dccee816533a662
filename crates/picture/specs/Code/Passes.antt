-- High-quality slices planned one behind the other, and the scaler that is settled on.
use Rattle.std.specs.Prelude.{◌≡◌, false, List, ℕ, ◌+◌, ◌*◌, ◌^◌, ◌≤◌, max, ℤ, length}
use Rattle.codewords.specs.Bytes.{to_bytes}
use Rattle.unit.specs.declared.Settings.{Settings}
use Rattle.unit.specs.declared.PictureKind.TheVariants.{HighQuality}
use Rattle.unit.specs.Plan.{SlicePlan}
use Rattle.unit.specs.Code.Valid.{Shaped, RateFits}
use Rattle.unit.specs.Parameters.{overhead}
use Rattle.unit.specs.HighQuality.{slice_size_by, need_of, largest_need, scaler_from}
use Rattle.unit.specs.Unit.{major_version, high_parameters}
use Rattle.picture.specs.declared.slices.layout.Picture.{Picture}
use Rattle.picture.specs.declared.high.choice.Choice.{Choice}
use Rattle.picture.specs.declared.high.plan.Terms.{Terms}
use Rattle.picture.specs.declared.coder.slice_coder.SliceCoder.{SliceCoder}
use Rattle.picture.specs.declared.coder.plan.Settled.{Settled}
use Rattle.picture.specs.Code.Strip.{Small}
use Rattle.picture.specs.Code.Picture.{slices_in, Arranged}
use Rattle.picture.specs.Code.Choice.{plans_in, high_runs, terms_of, slices_by, slice_words, words_to, needs_by, words_of}

-- a slice of choice c planned behind others
abbrev pub planned_by : Terms → Choice → SliceCoder → SliceCoder
planned_by t c b =
    let n = needs_by c.y.bits c.c1.bits c.c2.bits in
    record {
      at = b.at + slice_size_by t.prefix t.scaler n.y n.c1 n.c2;
      cut_slices = b.cut_slices;
      largest = max (max n.y (max n.c1 n.c2)) b.largest;
      index = c.index;
      words = b.words + words_of c;
    }

-- ---- conditions and outcomes
-- a slice planned behind others: its place, the largest component, and the place of its words
pub record PlansOn (a : SlicePlan) (b r : SliceCoder) : Type 0 where
  pub at : r.at ≡ b.at + length (to_bytes a.bits)
  pub near : r.at ≤ b.at + 2 ^ 34
  pub cut : r.cut_slices ≡ b.cut_slices
  pub largest : r.largest ≡ max (max (need_of a.numbers.y) (max (need_of a.numbers.c1) (need_of a.numbers.c2))) b.largest
  pub few : b.largest ≤ 2 ^ 30 → r.largest ≤ 2 ^ 30
  pub words : r.words ≡ b.words + length (slice_words a.numbers)

-- the first n slices planned from place from on
pub record PlansTo (w : List ℤ) (p : Picture) (t : Terms) (from n : ℕ) (r : SliceCoder) : Type 0 where
  pub at : r.at ≡ from + length (high_runs w p t n)
  pub near : r.at ≤ from + n * 2 ^ 34
  pub cut : r.cut_slices ≡ 0
  pub largest : r.largest ≡ largest_need (plans_in w p t n)
  pub few : r.largest ≤ 2 ^ 30
  pub words : r.words ≡ length (words_to w p t n)

-- what a call's settings ask of the planning
pub record HighIn (s : Settings) (p : Picture) (w : List ℤ) : Type 0 where
  pub arranged : Arranged p
  pub plain : p.layout.predicted ≡ false
  pub small : Small p.front p.end w
  pub rate : RateFits HighQuality s.rate
  pub shape : Shaped s

-- the scaler that planning ends with, by any bound on the turns that suffices, and where the unit ends
pub record Settles (w : List ℤ) (p : Picture) (s : Settings) (m : List ℕ) (r : Settled) : Type 0 where
  pub scaler : (most f : ℕ) → ((c : ℕ) → largest_need (slices_by w p s m c) ≤ most) → most ≤ 255 * (s.slice_size_scaler + f)
      → r.scaler ≡ scaler_from (slices_by w p s m) f s.slice_size_scaler
  pub some : 1 ≤ r.scaler
  pub few : r.scaler ≤ 2 ^ 24
  pub fits : largest_need (slices_by w p s m r.scaler) ≤ 255 * r.scaler
  pub end : r.end ≡ overhead (major_version s) (high_parameters s m r.scaler) + length (high_runs w p (terms_of s m r.scaler) (slices_in p))
