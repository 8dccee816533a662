-- Low delay: a slice's bytes, the runs that are written fit, and what is read of them.
use Rattle.std.specs.Prelude.{◌≡◌, Bool, true, false, leb}
use Rattle.std.proofs.Math.Path.{refl, ap, ap₂, subst}
use Rattle.std.proofs.Common.{sym, ◌∙◌, subst₂, mul_comm, zero-mul, le→leb}
use mathlib.Core.List.{List, [], ◌∷◌, ◌++◌, append-nil, map}
use Prim.Native.Nat.{ℕ, zero, suc, ◌+◌, ◌*◌, ◌-◌, ◌/◌, ◌^◌, ◌≤◌, ◌<◌}
use native.Mathlib.Omega.{arith}
use Rattle.std.proofs.Math.Nat.{le-max_right, suc-mul, add-div_right, mul-div_cancel_left, zero-div}
use borrow.Author.Tests.{leb-true, le-leb}
use Rattle.std.proofs.Math.IntN.{ℤ}
use Rattle.std.proofs.Math.ListN.{length, length-append}
use Rattle.std.proofs.lemmas.List.{length-replicate, replicate-append-replicate}
use Rattle.laws.specs.Rows.{span, total}
use Rattle.laws.specs.Plane.{Plane}
use Rattle.codewords.specs.Bit.{Bits, lit, one_bits}
use Rattle.codewords.specs.Laws.Bit.{length-lit, lit-none}
use Rattle.codewords.specs.CodeWord.{codes, zero_filled}
use Rattle.codewords.specs.Laws.Code.{codes-none}
use Rattle.codewords.specs.Read.{sintsb}
use Rattle.codewords.specs.Laws.Read.{Reads, reads_give, reads_then, reads_last, reads_such, reads_nbits, reads_bits, block-codes}
use Rattle.codewords.specs.Laws.Byte.{Full, full_length}
use Rattle.wavelet.specs.Planes.{Band}
use Rattle.unit.specs.declared.PictureKind.TheVariants.{LowDelay}
use Rattle.unit.specs.Limits.{last_index, lowest_index}
use Rattle.unit.specs.Three.{Three, map3}
use Rattle.unit.specs.Slices.{Grid, slice_count}
use Rattle.unit.specs.Sizes.{intlog2}
use Rattle.unit.specs.Parameters.{Parameters}
use Rattle.unit.specs.Trim.{trimmed, bits_of, trimmed_cost, fit_prefix}
use Rattle.unit.specs.LowDelay.{slice_bytes, length_bits, room_of, numerator, alternated, evens, odds, low_bits, Runs, kept_runs, low_numbers, low_fits, low_index, low_plan_of, low_plan, low_slices, low_left}
use Rattle.unit.specs.Reader.{SliceNumbers, read_low}
use Rattle.unit.specs.Demand.{bytes_of}
use Rattle.unit.proofs.Laws.Intlog2.{intlog2-least, intlog2-most}
use Rattle.unit.proofs.Laws.Elect.{elected}
use Rattle.unit.proofs.Laws.Trim.{filled-trimmed, fit_bits, bare}
use Rattle.unit.proofs.Laws.Slice.{div_rises, length-alternated, evens-alternated, odds-alternated}

-- ---- bytes
pub numerator-least : (version target slices : ℕ) (t : ℕ → Parameters) → slices ≤ numerator version target slices t
unfolding numerator
numerator-least version target slices t = le-max_right _ slices

-- n bytes for d slices, at least one for each
module _ (n d : ℕ) where
  pub bytes_some : (k : ℕ) → 1 ≤ d → d ≤ n → 1 ≤ slice_bytes n d k
  unfolding slice_bytes
  bytes_some k a b =
      let h : k * n + d ≤ suc k * n = omega (arith, suc-mul k n) in
      omega (arith, div_rises d h, add-div_right (k * n) a)

  -- the bytes of j slices from slice k on
  bytes_sum : (k j : ℕ) → total (span (slice_bytes n d) k j) + k * n / d ≡ (k + j) * n / d
  unfolding slice_bytes
  bytes_sum k zero = let e : k + 0 ≡ k = omega arith in rw e (omega arith)
  bytes_sum k (suc j) =
      let e : k + suc j ≡ suc k + j = omega arith in
      let h : k * n ≤ suc k * n = omega (arith, suc-mul k n) in
      rw e (omega (arith, bytes_sum (suc k) j, div_rises d h))

  pub bytes_all : 1 ≤ d → total (span (slice_bytes n d) 0 d) ≡ n
  bytes_all a =
      let e : 0 + d ≡ d = omega arith in
      let f : (0 + d) * n / d ≡ n = rw e (mul-div_cancel_left n a) in
      let h : 0 * n / d ≡ 0 = rw (zero-mul n) (zero-div d) in
      omega (arith, bytes_sum 0 d)

-- ---- the length field
pub room_all : (n : ℕ) → 1 ≤ n → 7 + length_bits n + room_of n ≡ 8 * n
room_all n h = omega (arith, intlog2-most (8 * n - 7))

less-field : (x m : ℕ) → 2 ≤ x → x ≤ 2 ^ m → x - m < 2 ^ m
less-field x zero a b = absurd (omega arith)
less-field x (suc m) a b = omega arith

-- from two bytes on, every luma length that the room allows stands in the field
pub room_said : (n : ℕ) → 2 ≤ n → room_of n < 2 ^ length_bits n
room_said n h = less-field (8 * n - 7) (length_bits n) (omega arith) (intlog2-least (8 * n - 7)).enough

-- ---- the runs that are written
module _ (room : ℕ) (ys cs : List ℤ) where
  pub runs_fit : bits_of (kept_runs room ys cs).luma + bits_of (kept_runs room ys cs).colour ≤ room
  unfolding kept_runs trimmed_cost
  runs_fit = by (leb (trimmed_cost ys + trimmed_cost cs) room) refl
    where
      l : List ℤ
      l = fit_prefix (trimmed ys) room

      by : (b : Bool) → leb (trimmed_cost ys + trimmed_cost cs) room ≡ b
          → let u : Runs = record { luma = trimmed ys; colour = trimmed cs } in
          let c : Runs = record { luma = l; colour = fit_prefix (trimmed cs) (room - bits_of l) } in
          let w : Runs = elim b [ true ↦ u | false ↦ c ] in
          bits_of w.luma + bits_of w.colour ≤ room
      by true e = leb-true (trimmed_cost ys + trimmed_cost cs) room e
      by false e = omega (arith, fit_bits (trimmed ys) room, fit_bits (trimmed cs) (room - bits_of l))

  -- where all fits nothing is cut
  pub runs-whole : trimmed_cost ys + trimmed_cost cs ≤ room → kept_runs room ys cs ≡ record { luma = trimmed ys; colour = trimmed cs }
  unfolding kept_runs
  runs-whole h = rw (le-leb (trimmed_cost ys + trimmed_cost cs) room h, kept_runs)

-- ---- reading
-- what is read of a slice: luma, and the colours as they alternate
abbrev pub low_read : ℕ → List ℤ → List ℤ → SliceNumbers
low_read q ys cs = record { index = q; numbers = record { y = ys; c1 = evens cs; c2 = odds cs } }

-- blocks a and b behind the luma length l
pub reads_blocks : (n q : ℕ) (c : Three ℕ) (l : ℕ) (a b : Bits)
    → q < 128 → l < 2 ^ length_bits n → l ≤ room_of n → length a ≡ l → length b ≡ room_of n - l
    → Reads (read_low n c) (lit 7 q ++ (lit (length_bits n) l ++ (a ++ b))) (low_read q (sintsb c.y a) (sintsb (c.c1 + c.c2) b))
unfolding read_low
reads_blocks n q c l a b hq hl hr ea eb =
    reads_then _ (reads_nbits 7 q hq) (reads_then _ (reads_such _ (le→leb l (room_of n) hr) (reads_nbits (length_bits n) l hl))
    (reads_then _ (reads_bits l a ea) (reads_last _ (reads_bits (room_of n - l) b eb) (reads_give _))))

block_only : (n : ℕ) (ys : List ℤ) → sintsb n (codes ys) ≡ zero_filled n ys
block_only n ys = ap (sintsb n) (sym (append-nil (codes ys))) ∙ block-codes n ys 0

pub block_ones : (n j : ℕ) → sintsb n (one_bits j) ≡ zero_filled n []
block_ones n j = ap (λ (s : Bits). sintsb n (s ++ one_bits j)) (sym codes-none) ∙ block-codes n [] j

-- a slice of n bytes with runs ys and cs that fit
module _ (n q : ℕ) (ys cs : List ℤ) (fits : bits_of ys + bits_of cs ≤ room_of n) where
  pub length-low : 1 ≤ n → length (low_bits n q ys cs) ≡ 8 * n
  unfolding low_bits
  length-low some = simp (length-append, length-lit, length-replicate) (omega (arith, room_all n some))

  -- from two bytes on the luma length says where luma ends; c says how many numbers are wanted
  reads_long : (c : Three ℕ) → 2 ≤ n → q < 128
      → Reads (read_low n c) (low_bits n q ys cs) (low_read q (zero_filled c.y ys) (zero_filled (c.c1 + c.c2) cs))
  unfolding low_bits
  reads_long c long index =
      let r : ℕ = room_of n - bits_of ys - bits_of cs in
      let e : length (codes cs ++ one_bits r) ≡ room_of n - bits_of ys = length-append (codes cs) (one_bits r) ∙ rw (length-replicate r true) (omega arith) in
      subst (Reads (read_low n c) (low_bits n q ys cs)) (ap₂ (low_read q) (block_only c.y ys) (block-codes (c.c1 + c.c2) cs r))
      (reads_blocks n q c (bits_of ys) (codes ys) (codes cs ++ one_bits r) index (omega (arith, room_said n long)) (omega arith) refl e)

-- a slice of one byte has no luma length: its last bit is a 1, whichever run it is of, and no number
pub one_bit : (a b : ℕ) → a + b ≤ 1 → one_bits a ++ (one_bits b ++ one_bits (1 - a - b)) ≡ one_bits 1
one_bit a b h =
    let e : a + (b + (1 - a - b)) ≡ 1 = omega arith in
    ap (λ (s : Bits). one_bits a ++ s) (replicate-append-replicate b (1 - a - b) true) ∙ replicate-append-replicate a (b + (1 - a - b)) true ∙ ap one_bits e

reads_short : (q : ℕ) (c : Three ℕ) (ys cs : List ℤ) → q < 128 → bits_of ys + bits_of cs ≤ room_of 1
    → Reads (read_low 1 c) (low_bits 1 q ys cs) (low_read q (zero_filled c.y ys) (zero_filled (c.c1 + c.c2) cs))
unfolding low_bits intlog2
reads_short q c ys cs h f =
    let y = bare ys (omega arith) in
    let z = bare cs (omega arith) in
    let e : codes ys ++ (codes cs ++ one_bits (1 - bits_of ys - bits_of cs)) ≡ one_bits 1 =
    ap₂ (λ (s t : Bits). s ++ (t ++ one_bits (1 - bits_of ys - bits_of cs))) y.bits z.bits ∙ one_bit (bits_of ys) (bits_of cs) f in
    subst₂ (Reads (read_low 1 c))
    (ap₂ (λ (s t : Bits). lit 7 q ++ (s ++ t)) (lit-none 0 ∙ sym (lit-none (bits_of ys))) (sym e))
    (ap₂ (low_read q) (block_ones c.y 0 ∙ sym (y.fills c.y)) (block_ones (c.c1 + c.c2) 1 ∙ sym (z.fills (c.c1 + c.c2))))
    (reads_blocks 1 q c 0 [] (one_bits 1) h (omega arith) (omega arith) refl refl)

pub reads_low : (n q : ℕ) (c : Three ℕ) (ys cs : List ℤ) → 1 ≤ n → q < 128 → bits_of ys + bits_of cs ≤ room_of n
    → Reads (read_low n c) (low_bits n q ys cs) (low_read q (zero_filled c.y ys) (zero_filled (c.c1 + c.c2) cs))
reads_low zero q c ys cs a h f = absurd (omega arith)
reads_low (suc zero) q c ys cs a h f = reads_short q c ys cs h f
reads_low (suc (suc n)) q c ys cs a h f = reads_long (suc (suc n)) q ys cs f c (omega arith) h

-- ---- slices as planned
-- a slice of n bytes with index q and numbers z
module _ (g : Grid) (m : List ℕ) (b : Three (List Band)) (n q : ℕ) (z : Three (List ℤ)) (some : 1 ≤ n) where
  pub low-length : length (low_plan_of g m b n q z).bits ≡ 8 * n
  low-length = length-low n q _ _ (runs_fit (room_of n) z.y (alternated z.c1 z.c2)) some

  pub low_full : Full (low_plan_of g m b n q z).bits
  low_full = full_length (low_plan_of g m b n q z).bits n (low-length ∙ mul_comm 8 n)

  -- what is read of it is its index and what is kept of its numbers
  pub low_reads : q < 128 → Reads (read_low n (map3 length z)) (low_plan_of g m b n q z).bits (record { index = q; numbers = (low_plan_of g m b n q z).kept })
  low_reads h = reads_low n q (map3 length z) _ _ some h (runs_fit (room_of n) z.y (alternated z.c1 z.c2))

-- where its numbers fit, all of them are kept
pub low-whole : (g : Grid) (m : List ℕ) (b : Three (List Band)) (n q : ℕ) (z : Three (List ℤ)) → length z.c1 ≡ length z.c2
    → trimmed_cost z.y + trimmed_cost (alternated z.c1 z.c2) ≤ room_of n → (low_plan_of g m b n q z).kept ≡ z
low-whole g m b n q z e h =
    let a = alternated z.c1 z.c2 in
    let w = runs-whole (room_of n) z.y a h in
    let c : zero_filled (length z.c1 + length z.c2) (trimmed a) ≡ a =
    ap (λ (k : ℕ). zero_filled k (trimmed a)) (sym (length-alternated z.c1 z.c2 e)) ∙ filled-trimmed a in
    ap (λ (r : Runs). let v = zero_filled (length z.c1 + length z.c2) r.colour in kept_of (zero_filled (length z.y) r.luma) (evens v) (odds v)) w
    ∙ ap₂ (λ (l v : List ℤ). kept_of l (evens v) (odds v)) (filled-trimmed z.y) c
    ∙ ap₂ (kept_of z.y) (evens-alternated z.c1 z.c2 e) (odds-alternated z.c1 z.c2 e)
  where
    kept_of : List ℤ → List ℤ → List ℤ → Three (List ℤ)
    kept_of y u v = record { y = y; c1 = u; c2 = v }

module _ (g : Grid) (m : List ℕ) (b : Three (List Band)) (n : ℕ) (r : Three Plane) (k : ℕ) where
  pub low-index : low_index g m b n r k < 128
  unfolding low_index
  low-index = omega (arith, (elected (low_fits g m b (room_of n) r k) lowest_index (last_index LowDelay) (omega arith)).high)

  -- a slice whose index is below 127 fits
  pub low_fits_lem : low_index g m b n r k < 127
      → let z = low_numbers g m b r k (low_index g m b n r k) in trimmed_cost z.y + trimmed_cost (alternated z.c1 z.c2) ≤ room_of n
  unfolding low_index
  low_fits_lem h = leb-true _ (room_of n) ((elected (low_fits g m b (room_of n) r k) lowest_index (last_index LowDelay) (omega arith)).fit h)

-- j slices from slice k on, of n bytes in all
module _ (g : Grid) (m : List ℕ) (b : Three (List Band)) (n : ℕ) where
  pub low_many : (r : Three Plane) (k j : ℕ) → length (low_slices g m b n r k j) ≡ j
  unfolding low_slices
  low_many r k zero = refl
  low_many r k (suc j) = ap suc (low_many (low_left g m b r k (low_index g m b (slice_bytes n (slice_count g) k) r k)) (suc k) j)

  -- each takes exactly its slice bytes
  pub low_bytes : (r : Three Plane) (k j : ℕ) → 1 ≤ slice_count g → slice_count g ≤ n → map bytes_of (low_slices g m b n r k j) ≡ span (slice_bytes n (slice_count g)) k j
  unfolding low_slices low_plan
  low_bytes r k zero a c = refl
  low_bytes r k (suc j) a c =
      let z = slice_bytes n (slice_count g) k in
      let q = low_index g m b z r k in
      let e : bytes_of (low_plan_of g m b z q (low_numbers g m b r k q)) ≡ z =
      ap (λ (x : ℕ). x / 8) (low-length g m b z q (low_numbers g m b r k q) (bytes_some n (slice_count g) k a c)) ∙ omega arith in
      ap₂ ◌∷◌ e (low_bytes (low_left g m b r k q) (suc k) j a c)
