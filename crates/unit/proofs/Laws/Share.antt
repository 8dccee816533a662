-- What is asked of slices beside demand 3: the shares of a high-quality target; a low-delay slice of one byte, which
-- holds no number; and the standard's loop of stores, row by row, which Laws.Place' put_plane is about: its put_all goes
-- over the slices, its put over the numbers of a slice's window, as two loops over rows and columns do.
use Rattle.std.specs.Prelude.{◌≡◌, Bool, true, false, leb, ℤ, pos, length, get_or}
use Rattle.std.proofs.Math.Path.{refl, ap, ap₂, subst, subst₂}
use Rattle.std.proofs.Common.{sym, ◌∙◌, zero-mul, leb-true, leb-false}
use mathlib.Core.List.{List, [], ◌∷◌, ◌++◌, append_assoc}
use Prim.Native.Nat.{ℕ, zero, suc, ◌+◌, ◌-◌, ◌*◌, ◌/◌, ◌%◌, ◌^◌, ◌≤◌, ◌<◌}
use Rattle.std.proofs.Math.Nat.{suc-mul}
use native.Mathlib.Omega.{arith}
use Rattle.std.proofs.Math.Arith.{digits_div, digits_mod}
use Rattle.laws.specs.Rows.{span, total}
use Rattle.laws.specs.Plane.{Plane}
use Rattle.codewords.specs.Bit.{Bits, lit, value, one_bits}
use Rattle.codewords.specs.Laws.Bit.{length-lit, lit-none, value-lt, lit-value}
use Rattle.codewords.specs.CodeWord.{zero_filled}
use Rattle.codewords.specs.Read.{Read, got, stop}
use Rattle.codewords.specs.Laws.Read.{Reads}
use Rattle.unit.specs.Three.{Three}
use Rattle.unit.specs.Sizes.{Size, intlog2}
use Rattle.unit.specs.Slices.{Grid, top, bottom, left, right}
use Rattle.unit.specs.Trim.{bits_of}
use Rattle.unit.specs.LowDelay.{room_of, evens, odds, low_bits}
use Rattle.unit.specs.HighQuality.{share_of}
use Rattle.unit.specs.Reader.{SliceNumbers, read_low}
use Rattle.unit.specs.Demand.{All}
use Rattle.unit.proofs.Laws.Trim.{bare}
use Rattle.unit.proofs.Laws.LowDelay.{low_read, reads_blocks, block_ones, one_bit}
use Rattle.unit.proofs.Laws.HighQuality.{share_falls, shares_all}
use Rattle.unit.proofs.Laws.Place.{store, store_first, put}

-- ---- the shares of n bytes among d slices
shares_close : (n d i j : ℕ) → share_of n d i ≤ suc (share_of n d j)
shares_close n d i j = by (leb i j) refl
  where
    by : (b : Bool) → leb i j ≡ b → share_of n d i ≤ suc (share_of n d j)
    by true e = (share_falls n d i j (leb-true i j e)).1
    by false e = let h : j ≤ i = omega (arith, leb-false i j e) in omega (arith, (share_falls n d j i h).0)

-- any two differ by at most one byte, earlier ones are not smaller, and they sum to n
pub shares : (n d : ℕ) → 1 ≤ d
    → ((i j : ℕ) → share_of n d i ≤ suc (share_of n d j)) × ((i j : ℕ) → i ≤ j → share_of n d j ≤ share_of n d i) × (total (span (share_of n d) 0 d) ≡ n)
shares n d h = (shares_close n d, λ i j l. (share_falls n d i j l).0, shares_all n d h)

-- ---- a low-delay slice of one byte
abbrev pub Zeros : List ℤ → Type 0
Zeros xs = All (λ (v : ℤ). v ≡ pos 0) xs

abbrev pub NoNumber : Three (List ℤ) → Type 0
NoNumber z = Zeros z.y × Zeros z.c1 × Zeros z.c2

filled-zeros : (n : ℕ) → Zeros (zero_filled n [])
unfolding zero_filled
filled-zeros zero = tt
filled-zeros (suc n) = (refl, filled-zeros n)

evens-zeros : (xs : List ℤ) → Zeros xs → Zeros (evens xs)
unfolding evens
evens-zeros [] h = tt
evens-zeros (x ∷ []) h = (h.0, tt)
evens-zeros (x ∷ y ∷ s) h = (h.0, evens-zeros s h.1.1)

odds-zeros : (xs : List ℤ) → Zeros xs → Zeros (odds xs)
unfolding odds
odds-zeros [] h = tt
odds-zeros (x ∷ []) h = tt
odds-zeros (x ∷ y ∷ s) h = (h.1.0, odds-zeros s h.1.1)

-- what is read of one byte that ends in a 1; c says how many numbers are wanted
abbrev pub no_read : ℕ → Three ℕ → SliceNumbers
no_read q c = low_read q (zero_filled c.y []) (zero_filled (c.c1 + c.c2) [])

no_read_lem : (q : ℕ) (c : Three ℕ) → NoNumber (no_read q c).numbers
no_read_lem q c =
    let z = zero_filled (c.c1 + c.c2) [] in
    let h = filled-zeros (c.c1 + c.c2) in
    (filled-zeros c.y, evens-zeros z h, odds-zeros z h)

abbrev numbers_in : Three (List ℤ) → Read SliceNumbers → Three (List ℤ)
numbers_in d (got x s) = x.numbers
numbers_in d (stop s) = d

-- seven bits s and a 1
module _ (c : Three ℕ) (s : Bits) (seven : length s ≡ 7) where
  pub byte_reads : Reads (read_low 1 c) (s ++ one_bits 1) (no_read (value 0 s) c)
  unfolding intlog2
  byte_reads =
      let q = value 0 s in
      let h : q < 2 ^ 7 = subst (λ (k : ℕ). q < 2 ^ k) seven (value-lt s) in
      let e : lit 7 q ≡ s = subst (λ (k : ℕ). lit k q ≡ s) seven (lit-value s 0) in
      subst₂ (Reads (read_low 1 c))
      (ap₂ (λ (a b : Bits). a ++ (b ++ one_bits 1)) e (lit-none 0))
      (ap₂ (low_read q) (block_ones c.y 0) (block_ones (c.c1 + c.c2) 1))
      (reads_blocks 1 q c 0 [] (one_bits 1) h (omega arith) (omega arith) refl refl)

  -- whatever is read of it, every number is 0
  pub byte_zeros : (rest t : Bits) (r : SliceNumbers) → read_low 1 c (s ++ (true ∷ rest)) ≡ got r t → NoNumber r.numbers
  byte_zeros rest t r e =
      let f : got (no_read (value 0 s) c) rest ≡ got r t =
      sym (byte_reads.at rest) ∙ ap (read_low 1 c) (append_assoc s (one_bits 1) rest) ∙ e in
      subst NoNumber (ap (numbers_in r.numbers) f) (no_read_lem (value 0 s) c)

-- one byte as it is written: its runs are of zeros
byte_bits : (q : ℕ) (ys cs : List ℤ) → bits_of ys + bits_of cs ≤ room_of 1 → low_bits 1 q ys cs ≡ lit 7 q ++ one_bits 1
unfolding low_bits intlog2
byte_bits q ys cs f =
    let y = bare ys (omega arith) in
    let z = bare cs (omega arith) in
    ap₂ (λ (a b : Bits). lit 7 q ++ (a ++ b)) (lit-none (bits_of ys))
    (ap₂ (λ (a b : Bits). a ++ (b ++ one_bits (1 - bits_of ys - bits_of cs))) y.bits z.bits ∙ one_bit (bits_of ys) (bits_of cs) f)

-- a slice of one byte reads as no number
pub byte_none : (c : Three ℕ) (q : ℕ) (ys cs : List ℤ) → bits_of ys + bits_of cs ≤ room_of 1
    → (rest t : Bits) (r : SliceNumbers) → read_low 1 c (low_bits 1 q ys cs ++ rest) ≡ got r t → NoNumber r.numbers
byte_none c q ys cs f rest t r e =
    byte_zeros c (lit 7 q) (length-lit 7 q) rest t r
    (sym (ap (read_low 1 c) (ap (λ (w : Bits). w ++ rest) (byte_bits q ys cs f) ∙ append_assoc (lit 7 q) (one_bits 1) rest)) ∙ e)

-- ---- a slice's window, row by row
module _ (t l c : ℕ) (vs : List ℤ) where
  -- the first n columns of row h
  unfoldable pub store_row : ℕ → ℕ → Plane → Plane
  store_row h zero p = p
  store_row h (suc n) p = store (store_row h n p) (t + h) (l + n) (get_or vs (h * c + n) (pos 0))

  -- the first h rows
  unfoldable pub store_rows : ℕ → Plane → Plane
  store_rows zero p = p
  store_rows (suc h) p = store_row h c (store_rows h p)

  row_stored : (h n : ℕ) (p : Plane) → n ≤ c → store_row h n (store_first t l c vs p (h * c)) ≡ store_first t l c vs p (h * c + n)
  unfolding store_row store_first
  row_stored h zero p a = let e : h * c + 0 ≡ h * c = omega arith in ap (store_first t l c vs p) (sym e)
  row_stored h (suc n) p a =
      let e : suc (h * c + n) ≡ h * c + suc n = omega arith in
      let d : t + h ≡ t + (h * c + n) / c = rw (digits_div h a) in
      let m : l + n ≡ l + (h * c + n) % c = rw (digits_mod h a) in
      ap (λ (q : Plane). store q (t + h) (l + n) (get_or vs (h * c + n) (pos 0))) (row_stored h n p (omega arith))
      ∙ ap₂ (λ (y x : ℕ). store (store_first t l c vs p (h * c + n)) y x (get_or vs (h * c + n) (pos 0))) d m
      ∙ ap (store_first t l c vs p) e

  pub rows_stored : (h : ℕ) (p : Plane) → store_rows h p ≡ store_first t l c vs p (h * c)
  unfolding store_rows store_first
  rows_stored zero p = rw (zero-mul c)
  rows_stored (suc h) p =
      let e : h * c + c ≡ suc h * c = omega (arith, suc-mul h c) in
      ap (store_row h c) (rows_stored h p) ∙ row_stored h c p (omega arith) ∙ ap (store_first t l c vs p) e

-- what a slice stores is what the loops over its window's rows and columns store
pub put-rows : (g : Grid) (z : Size) (k : ℕ) (vs : List ℤ) (p : Plane)
    → store_rows (top g z k) (left g z k) (right g z k - left g z k) vs (bottom g z k - top g z k) p ≡ put g z k vs p
put-rows g z k vs p = rows_stored (top g z k) (left g z k) (right g z k - left g z k) vs (bottom g z k - top g z k) p
