-- The reading of a unit made of a sound plan: nothing stops it, and it ends at the last byte.
use Rattle.std.specs.Prelude.{◌≡◌, Bool, true, false, ◌||◌, ℕ, suc, ◌+◌, ◌*◌, ◌-◌, ◌/◌, ◌%◌, ◌^◌, ◌<◌, T, length}
use Rattle.std.proofs.Math.Path.{refl, ap, ap₂}
use Rattle.std.proofs.Common.{sym, ◌∙◌, arith, length-append}
use mathlib.Core.List.{List, [], ◌∷◌, ◌++◌, append_assoc, flatten}
use Rattle.std.proofs.Math.Dec.{eqb, eqb_refl}
use Rattle.std.proofs.lemmas.List.{length-replicate}
use Rattle.codewords.specs.Bit.{Bits, lit}
use Rattle.codewords.specs.Laws.Bit.{length-lit}
use Rattle.codewords.specs.Bytes.{to_bytes, from_bytes}
use Rattle.codewords.specs.Laws.Byte.{Full, full_nil, full_append, full_lit, from_to, length-to_bytes}
use Rattle.codewords.specs.Read.{Read, got, Parser, give, after, ◌⊳◌}
use Rattle.codewords.specs.Laws.Read.{Reads, reads_such, reads_nbits, reads_align}
use Rattle.unit.specs.declared.Settings.{Settings}
use Rattle.unit.specs.declared.PictureKind.{PictureKind}
use Rattle.unit.specs.declared.PictureKind.TheVariants.{LowDelay, HighQuality}
use Rattle.unit.specs.Three.{Three}
use Rattle.unit.specs.Sizes.{Size, sizes_of}
use Rattle.unit.specs.Slices.{slice_count}
use Rattle.unit.specs.Parameters.{Parameters, parameter_bits, parameter_bytes, overhead, fill}
use Rattle.unit.proofs.Laws.Parameter.{reads_parameters}
use Rattle.unit.specs.Plan.{SlicePlan, Plan}
use Rattle.unit.specs.Unit.{major_version, parse_code, slice_runs, head_bits, length_of, unit_of}
use Rattle.unit.specs.Reader.{SliceRead, Reading, read_parameters, SliceNumbers, bits_left, read_slice, read_each, grid_in, counts_in, kind_of, read_end, read_picture, read_unit}
use Rattle.unit.specs.Demand.{bytes_of, SameSlices, Follow}
use Rattle.unit.proofs.Laws.Sound.{SoundSlice, SoundSlices, Legal, Sound}

-- ---- bytes and bits of a unit
from_append : (xs ys : List ℕ) → from_bytes (xs ++ ys) ≡ from_bytes xs ++ from_bytes ys
unfolding from_bytes
from_append [] ys = refl
from_append (x ∷ xs) ys = ap (λ (r : Bits). lit 8 x ++ r) (from_append xs ys) ∙ sym (append_assoc (lit 8 x) (from_bytes xs) (from_bytes ys))

-- the bits of all slices
unfoldable pub all_bits : List SlicePlan → Bits
all_bits [] = []
all_bits (a ∷ more) = a.bits ++ all_bits more

abbrev AllFull : List SlicePlan → Type 0
AllFull [] = Unit {0}
AllFull (a ∷ more) = Full a.bits × AllFull more

from_flatten : (ss : List SlicePlan) → AllFull ss → from_bytes (flatten (slice_runs ss)) ≡ all_bits ss
unfolding flatten from_bytes all_bits
from_flatten [] f = refl
from_flatten (a ∷ more) f = from_append (to_bytes a.bits) (flatten (slice_runs more)) ∙ ap₂ ◌++◌ (from_to a.bits f.0) (from_flatten more f.1)

full_all : (ss : List SlicePlan) → AllFull ss → Full (all_bits ss)
unfolding all_bits
full_all [] f = full_nil
full_all (a ∷ more) f = full_append f.0 (full_all more f.1)

sound_full : (z : Three Size) (t : Parameters) (k : ℕ) (ss : List SlicePlan) → SoundSlices z t k ss → AllFull ss
sound_full z t k [] s = tt
sound_full z t k (a ∷ more) s = (s.0.full, sound_full z t (suc k) more s.1)

-- ---- the slices
-- what is read of slices that begin n bytes from the start
unfoldable pub reads_from : ℕ → List SlicePlan → List SliceRead
reads_from n [] = []
reads_from n (a ∷ more) = record { offset = n; byte_count = bytes_of a; index = a.index; numbers = a.kept } ∷ reads_from (n + bytes_of a) more

-- p, fed s, finds x and leaves r
record Finds {A : Type 0} (p : Parser A) (s : Bits) (x : A) (r : Bits) : Type 0 where
  is : p s ≡ got x r

finds_then : {A B : Type 0} {p : Parser A} {s r u : Bits} {x : A} (f : A → Parser B) {y : B} → Finds p s x r → Finds (f x) r y u → Finds (p ⊳ f) s y u
unfolding ◌⊳◌
finds_then f a b = record { is = ap (λ o. after o f) a.is ∙ b.is }

finds_pure : {A : Type 0} (x : A) (s : Bits) → Finds (give x) s x s
unfolding give
finds_pure x s = record { is = refl }

finds : {A : Type 0} {p : Parser A} {w : Bits} {x : A} (rest : Bits) → Reads p w x → Finds p (w ++ rest) x rest
finds rest r = record { is = r.at rest }

read_slice_lem : (z : Three Size) (t : Parameters) (total k n : ℕ) (a : SlicePlan) (rest : Bits) → SoundSlice z t k a → total ≡ 8 * n + (length a.bits + length rest)
    → read_slice total t.slice_parameters k (counts_in z t k) (a.bits ++ rest)
    ≡ got (record { offset = n; byte_count = bytes_of a; index = a.index; numbers = a.kept }) rest
unfolding read_slice ◌⊳◌ bits_left give
read_slice_lem z t total k n a rest s e =
    let l : length (a.bits ++ rest) ≡ length a.bits + length rest = length-append a.bits rest in
    ap (λ (r : Read SliceNumbers). after r (λ r s. after (got (length s) s)
    (λ b s. got (record { offset = (total - length (a.bits ++ rest)) / 8; byte_count = (length (a.bits ++ rest) - b) / 8; index = r.index; numbers = r.numbers }) s)))
    (s.reads.at rest)
    ∙ ap₂ (λ (o j : ℕ). got (record { offset = o; byte_count = j; index = a.index; numbers = a.kept }) rest)
    (ap (λ (i : ℕ). i / 8) (omega (arith, l)) ∙ eighth n)
    (ap (λ (i : ℕ). i / 8) (omega (arith, l)))
  where
    eighth : (n : ℕ) → 8 * n / 8 ≡ n
    eighth n = omega arith

read-slices : (z : Three Size) (t : Parameters) (total k n : ℕ) (ss : List SlicePlan) → SoundSlices z t k ss → total ≡ 8 * n + length (all_bits ss)
    → Finds (read_each (λ k. read_slice total t.slice_parameters k (counts_in z t k)) k (length ss)) (all_bits ss) (reads_from n ss) []
unfolding read_each all_bits reads_from
read-slices z t total k n [] s e = finds_pure [] []
read-slices z t total k n (a ∷ more) s e =
    let f = s.0.full.full in
    let l = length-append a.bits (all_bits more) in
    finds_then _ (record { is = read_slice_lem z t total k n a (all_bits more) s.0 (omega (arith, l)) })
    (finds_then _ (read-slices z t total (suc k) (n + bytes_of a) more s.1 (omega (arith, l))) (finds_pure _ []))

-- ---- the head
fill-lt : (n : ℕ) → length (fill n) < 8
fill-lt n = omega (arith, length-replicate ((8 - n % 8) % 8) false)

full_fill : (w : Bits) → Full (w ++ fill (length w))
full_fill w = record { full = rw (length-append w (fill (length w)), length-replicate ((8 - length w % 8) % 8) false) (omega arith) }

full_head : (s : Settings) (n : ℕ) (t : Parameters) → Full (head_bits s n t)
unfolding head_bits
full_head s n t =
    full_append (full_lit 32 0x42424344 refl) (full_append (full_lit 8 (parse_code s.kind) refl) (full_append (full_lit 32 n refl)
    (full_append (full_lit 32 s.prev_unit_len refl) (full_append (full_lit 32 s.picture_number refl)
    (full_fill (parameter_bits (major_version s) t))))))

-- how many bits the head has
length-head : (s : Settings) (n : ℕ) (t : Parameters) → length (head_bits s n t) ≡ 8 * (overhead (major_version s) t)
unfolding head_bits parameter_bytes
length-head s n t =
    let b = parameter_bits (major_version s) t in
    simp (length-append, length-lit, length-replicate) (omega arith)

code_test : (k : PictureKind) → T (eqb (parse_code k) 0xC8 || eqb (parse_code k) 0xE8)
code_test LowDelay = tt
code_test HighQuality = tt

code_kind : (k : PictureKind) → kind_of (parse_code k) ≡ k
code_kind LowDelay = refl
code_kind HighQuality = refl

code_lt : (k : PictureKind) → parse_code k < 2 ^ 8
code_lt LowDelay = omega arith
code_lt HighQuality = omega arith

same_length : (n : ℕ) → T (eqb n 0 || eqb n n)
same_length n = by (eqb n 0) (eqb n n) (eqb_refl n)
  where
    by : (a b : Bool) → T b → T (a || b)
    by true b t = tt
    by false b t = t

-- ---- the unit
module _ (z : Three Size) (version n prev num : ℕ) (k : PictureKind) (t : Parameters) (ss : List SlicePlan)
    (hn : n < 2 ^ 32) (hp : prev < 2 ^ 32) (hm : num < 2 ^ 32) (legal : Legal version k t) (many : length ss ≡ slice_count (grid_in t))
    (sound : SoundSlices z t 0 ss) (h : ℕ) (long : 8 * n ≡ 8 * h + length (all_bits ss)) where
  abbrev b : Bits
  b = parameter_bits version t

  abbrev found : Reading
  found = record { kind = kind_of (parse_code k); number = num; parameters = t; slices = reads_from h ss }

  read_end_lem : Finds (read_end ⊳ λ end. give found) [] found []
  unfolding read_end ◌⊳◌ give
  read_end_lem = record { is = refl }

  read-parameters : Reads (read_parameters (kind_of (parse_code k)) version) b t
  read-parameters = rw (code_kind k) (reads_parameters version k t legal)

  slices : Finds (read_each (λ k. read_slice (8 * n) t.slice_parameters k (counts_in z t k)) 0 (slice_count (grid_in t))) (all_bits ss) (reads_from h ss) []
  slices = rw (← many) (read-slices z t (8 * n) 0 h ss sound long)

  read_all : Finds (read_picture z version n)
      (lit 32 0x42424344 ++ (lit 8 (parse_code k) ++ (lit 32 n ++ (lit 32 prev ++ (lit 32 num ++ (b ++ (fill (length b) ++ all_bits ss))))))) found []
  unfolding read_picture
  read_all =
      finds_then _ (finds _ (reads_such (eqb 0x42424344) tt (reads_nbits 32 0x42424344 (omega arith))))
      (finds_then _ (finds _ (reads_such (λ c. eqb c 0xC8 || eqb c 0xE8) (code_test k) (reads_nbits 8 (parse_code k) (code_lt k))))
      (finds_then _ (finds _ (reads_such (λ i. eqb i 0 || eqb i n) (same_length n) (reads_nbits 32 n hn)))
      (finds_then _ (finds _ (reads_nbits 32 prev hp))
      (finds_then _ (finds _ (reads_nbits 32 num hm))
      (finds_then _ (finds _ read-parameters)
      (finds_then _ (record { is = (reads_align (fill (length b)) (fill-lt (length b))).at (all_bits ss) (full_all ss (sound_full z t 0 ss sound)) })
      (finds_then _ slices read_end_lem)))))))

-- what is read of the unit of a plan
unfoldable pub reading_of : Settings → Plan → Reading
reading_of s a = record {
  kind = s.kind;
  number = s.picture_number;
  parameters = a.parameters;
  slices = reads_from (overhead (major_version s) a.parameters) a.slices;
}

length_runs : (ss : List SlicePlan) → AllFull ss → 8 * length (flatten (slice_runs ss)) ≡ length (all_bits ss)
unfolding flatten all_bits
length_runs [] f = refl
length_runs (a ∷ more) f =
    omega (arith, length-append (to_bytes a.bits) (flatten (slice_runs more)), length-append a.bits (all_bits more), length-to_bytes a.bits, f.0.full, length_runs more f.1)

pub length-unit : (s : Settings) (a : Plan) → length (unit_of s a) ≡ length_of s a
unfolding unit_of length_of
length-unit s a =
    let h = head_bits s (overhead (major_version s) a.parameters + length (flatten (slice_runs a.slices))) a.parameters in
    omega (arith, length-append (to_bytes h) (flatten (slice_runs a.slices)), length-to_bytes h, length-head s (overhead (major_version s) a.parameters + length (flatten (slice_runs a.slices))) a.parameters)

module _ (s : Settings) (a : Plan) (o : Sound s a) where
  pub fulls : AllFull a.slices
  fulls = sound_full (sizes_of s) a.parameters 0 a.slices o.slices

  abbrev bits : Bits
  bits = parameter_bits (major_version s) a.parameters

  unit-bits : from_bytes (unit_of s a) ≡ lit 32 0x42424344 ++ (lit 8 (parse_code s.kind) ++ (lit 32 (length_of s a) ++ (lit 32 s.prev_unit_len ++ (lit 32 s.picture_number
      ++ (bits ++ (fill (length bits) ++ all_bits a.slices))))))
  unfolding unit_of head_bits
  unit-bits =
      from_append (to_bytes (head_bits s (length_of s a) a.parameters)) (flatten (slice_runs a.slices))
      ∙ ap₂ ◌++◌ (from_to (head_bits s (length_of s a) a.parameters) (full_head s (length_of s a) a.parameters)) (from_flatten a.slices fulls)
      ∙ simp append_assoc

  unit-long : 8 * length_of s a ≡ 8 * (overhead (major_version s) a.parameters) + length (all_bits a.slices)
  unfolding length_of
  unit-long = omega (arith, length_runs a.slices fulls)

  -- nothing stops the reading, and it ends at the last byte
  pub reads_unit : read_unit (sizes_of s) (major_version s) (unit_of s a) ≡ got (reading_of s a) []
  unfolding read_unit reading_of
  reads_unit =
      ap₂ (λ (n : ℕ) (w : Bits). read_picture (sizes_of s) (major_version s) n w) (length-unit s a) unit-bits
      ∙ (read_all (sizes_of s) (major_version s) (length_of s a) s.prev_unit_len s.picture_number s.kind a.parameters a.slices
      o.long o.previous o.number o.legal o.many o.slices (overhead (major_version s) a.parameters) unit-long).is
      ∙ ap (λ (k : PictureKind). got (record { kind = k; number = s.picture_number; parameters = a.parameters; slices = reads_from (overhead (major_version s) a.parameters) a.slices }) [])
      (code_kind s.kind)

-- ---- what is read of the slices is what was planned
pub same-slices : (n : ℕ) (ss : List SlicePlan) → SameSlices ss (reads_from n ss)
unfolding reads_from
same-slices n [] = tt
same-slices n (a ∷ more) = (record { index = refl; numbers = refl; bytes = refl }, same-slices (n + bytes_of a) more)

-- each begins where the last one ended
pub follow_on : (n : ℕ) (ss : List SlicePlan) → AllFull ss → Follow n (reads_from n ss) (n + length (flatten (slice_runs ss)))
unfolding reads_from flatten
follow_on n [] f = omega arith
follow_on n (a ∷ more) f =
    let e : n + bytes_of a + length (flatten (slice_runs more)) ≡ n + length (to_bytes a.bits ++ flatten (slice_runs more)) =
    omega (arith, length-append (to_bytes a.bits) (flatten (slice_runs more)), length-to_bytes a.bits) in
    (refl, rw e at (follow_on (n + bytes_of a) more f.1))
