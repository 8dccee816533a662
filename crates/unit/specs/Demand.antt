-- Demand 3: what the reader gives back of an accepted picture's unit. One statement about a call and the whole reading.
use Rattle.std.specs.Prelude.{◌≡◌, List, [], ◌∷◌, map, ℕ, suc, ◌+◌, ◌*◌, ◌/◌, ◌≤◌, ◌<◌, pos, nat_abs, ◌-ℤ◌, length, get_or}
use Rattle.codewords.specs.Read.{got}
use Rattle.laws.specs.Plane.{Plane}
use Rattle.laws.specs.Rows.{span, total}
use Rattle.quantiser.specs.Quant.{quant_factor, band_index}
use Rattle.wavelet.specs.Planes.{Band}
use Rattle.unit.specs.declared.Settings.{Settings}
use Rattle.unit.specs.declared.PictureKind.{PictureKind}
use Rattle.unit.specs.declared.PictureKind.TheVariants.{LowDelay, HighQuality}
use Rattle.unit.specs.Limits.{last_index}
use Rattle.unit.specs.Three.{Three}
use Rattle.unit.specs.Sizes.{Size, sizes_of, depths_of}
use Rattle.unit.specs.Slices.{Grid, slice_of}
use Rattle.unit.specs.Matrix.{matrix_values}
use Rattle.unit.specs.Parameters.{SliceParameters, low_delay, high_quality, overhead}
use Rattle.unit.specs.LowDelay.{slice_bytes, room_of, alternated}
use Rattle.unit.specs.Trim.{trimmed_cost}
use Rattle.unit.specs.Coefficients.{coefficients_of}
use Rattle.unit.specs.Quantised.{size_of}
use Rattle.unit.specs.Plan.{SlicePlan, Plan}
use Rattle.unit.specs.Unit.{major_version, grid_of, plan_of}
use Rattle.unit.specs.Reader.{SliceRead, Reading, read_unit, read_bands, read_samples}

-- P holds of every element
abbrev pub All : {A : Type 0} → (A → Type 0) → List A → Type 0
All P [] = Unit {0}
All P (x ∷ xs) = P x × All P xs

-- how many bytes a slice takes
abbrev pub bytes_of : SlicePlan → ℕ
bytes_of a = length a.bits / 8

-- what is read of a slice is what was planned: its index, its numbers, with zeros for those after the runs that a cut
-- keeps, and its bytes
pub record SameSlice (a : SlicePlan) (r : SliceRead) : Type 0 where
  pub index : r.index ≡ a.index
  pub numbers : r.numbers ≡ a.kept
  pub bytes : r.byte_count ≡ bytes_of a

-- what is read of all slices is what was planned
abbrev pub SameSlices : List SlicePlan → List SliceRead → Type 0
SameSlices [] [] = Unit {0}
SameSlices [] (r ∷ rs) = ⊥
SameSlices (a ∷ more) [] = ⊥
SameSlices (a ∷ more) (r ∷ rs) = SameSlice a r × SameSlices more rs

-- each slice begins where the last one ended, the first at n, and the last one ends at e
abbrev pub Follow : ℕ → List SliceRead → ℕ → Type 0
Follow n [] e = n ≡ e
Follow n (r ∷ rs) e = (r.offset ≡ n) × Follow (n + r.byte_count) rs e

-- low delay: each slice takes exactly its slice bytes, and they sum to the numerator
abbrev pub Bytes : SliceParameters → List SliceRead → Type 0
Bytes (high_quality p c) ss = Unit {0}
Bytes (low_delay n d) ss = (map (λ (r : SliceRead). r.byte_count) ss ≡ span (slice_bytes n d) 0 (length ss)) × (total (map (λ (r : SliceRead). r.byte_count) ss) ≡ n)

-- no slice has dropped a number that is not 0: a reader gets what was quantised. Document 01's dropped numbers are
-- those after the runs that a cut keeps
abbrev pub Undropped : Plan → Type 0
Undropped a = All (λ (s : SlicePlan). s.kept ≡ s.numbers) a.slices

-- every slice carries index 0
abbrev pub AllZero : Plan → Type 0
AllZero a = All (λ (s : SlicePlan). s.index ≡ 0) a.slices

-- a low-delay slice fits if what is written of all its numbers takes at most the bits that its bytes leave
abbrev pub FitsIn : SlicePlan → Type 0
FitsIn a = trimmed_cost a.numbers.y + trimmed_cost (alternated a.numbers.c1 a.numbers.c2) ≤ room_of (bytes_of a)

-- a slice that fits drops nothing, and every slice of an index below 127 fits
pub record LowDrops (a : SlicePlan) : Type 0 where
  pub whole : FitsIn a → a.kept ≡ a.numbers
  pub fits : a.index < last_index LowDelay → FitsIn a

-- which slices drop no number: a low-delay one that fits, and every one of high quality
abbrev pub Drops : PictureKind → SlicePlan → Type 0
Drops LowDelay a = LowDrops a
Drops HighQuality a = a.kept ≡ a.numbers

-- the index of slice k
abbrev pub plan_index : Plan → ℕ → ℕ
plan_index a k = get_or (map (λ (s : SlicePlan). s.index) a.slices) k 0

-- a subband b and the one read, r, which has its sides: at every place, padding included, four times the error is
-- less than the factor of the band's index there. Document 01's error is the coefficient less the reader's; n is the
-- subband's number, m are the matrix values
pub record NearBand (g : Grid) (m : List ℕ) (index : ℕ → ℕ) (n : ℕ) (b r : Band) : Type 0 where
  pub high : b.high ≡ r.high
  pub wide : b.wide ≡ r.wide
  pub near : (y x : ℕ) → y < b.high → x < b.wide
      → 4 * nat_abs (b.plane y x -ℤ r.plane y x) < quant_factor (band_index (index (slice_of g (size_of b) y x)) (get_or m n 0))

-- a component's subbands and those read, as many, each near; n is the number of the first
abbrev pub NearBands : Grid → List ℕ → (ℕ → ℕ) → ℕ → List Band → List Band → Type 0
NearBands g m index n [] [] = Unit {0}
NearBands g m index n [] (r ∷ rs) = ⊥
NearBands g m index n (b ∷ bs) [] = ⊥
NearBands g m index n (b ∷ bs) (r ∷ rs) = NearBand g m index n b r × NearBands g m index (suc n) bs rs

-- a component's samples of size z and those read
abbrev pub SameSamples : Size → List ℕ → Plane → Type 0
SameSamples z p f = (y x : ℕ) → y < z.height → x < z.width → f y x ≡ pos (get_or p (y * z.width + x) 0)

-- demand 3 of a call with settings s, lent matrix m and planes p, and of its unit
pub record Demand3 (s : Settings) (m : List ℕ) (p : Three (List ℕ)) (unit : List ℕ) : Type 0 where
  pub reading : Reading
  -- nothing stops the reading, and it ends at the last byte
  pub reads : read_unit (sizes_of s) (major_version s) unit ≡ got reading []
  pub kind : reading.kind ≡ s.kind
  pub number : reading.number ≡ s.picture_number
  pub parameters : reading.parameters ≡ (plan_of s m p).parameters
  pub slices : SameSlices (plan_of s m p).slices reading.slices
  -- what is kept of a slice's numbers is all of them, unless it is of low delay, carries index 127 and does not fit
  pub drops : All (Drops s.kind) (plan_of s m p).slices
  pub places : Follow (overhead (major_version s) reading.parameters) reading.slices (length unit)
  pub bytes : Bytes reading.parameters.slice_parameters reading.slices
  pub near : Undropped (plan_of s m p)
      → let b = coefficients_of s p in let r = read_bands (sizes_of s) reading in let i = plan_index (plan_of s m p) in let v = matrix_values s m in
      NearBands (grid_of s) v i 0 b.y r.y × NearBands (grid_of s) v i 0 b.c1 r.c1 × NearBands (grid_of s) v i 0 b.c2 r.c2
  pub samples : Undropped (plan_of s m p) → AllZero (plan_of s m p)
      → let z = sizes_of s in let f = read_samples z reading (depths_of s) in
      SameSamples z.y p.y f.y × SameSamples z.c1 p.c1 f.c1 × SameSamples z.c2 p.c2 f.c2
