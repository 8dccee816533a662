-- Laws of low-delay slices as they are written: the runs that are kept, the parts of a slice, and slice after slice.
use Rattle.std.specs.Prelude.{◌≡◌, refl, Bool, true, false, cond, leb, ℤ, length}
use Rattle.std.proofs.Math.Path.{sym, ap, ap₂}
use Rattle.std.proofs.Common.{◌∙◌, zero-add, suc-mul, zero-mul, mul-le-mul_right, add-one, arith, le-leb}
use mathlib.Core.List.{List, ◌++◌, append_assoc}
use Prim.Native.Nat.{ℕ, zero, suc, ◌+◌, ◌*◌, ◌-◌, ◌/◌, ◌≤◌, ◌<◌}
use Rattle.std.proofs.Math.Nat.{zero-div, mul-div_cancel_left}
use Rattle.std.proofs.Math.Decide.{dec_le}
use Rattle.std.proofs.lemmas.Bool.{lt-leb}
use Rattle.std.proofs.Math.ListN.{take, length-append}
use Rattle.std.proofs.lemmas.List.{length-replicate}
use Rattle.laws.specs.Laws.Rows.{total-more}
use Rattle.laws.specs.Code.Laid.{Lays}
use Rattle.laws.specs.Laws.Laid.{lays_start, lays_on}
use Rattle.laws.specs.Code.Chunks.{chunks}
use Rattle.codewords.specs.Bit.{Bits, val, lit, one_bits}
use Rattle.codewords.specs.Laws.Bit.{length-lit}
use Rattle.codewords.specs.Bytes.{to_bytes}
use Rattle.codewords.specs.Laws.Byte.{length-to_bytes}
use Rattle.codewords.specs.CodeWord.{codes}
use Rattle.codewords.specs.Code.Writer.{Sound, Room, Wrote, Flushes}
use Rattle.codewords.specs.Laws.Writer.{wrote_then, room_after, flush_lays}
use Rattle.codewords.specs.declared.writer.BitWriter.{BitWriter}
use Rattle.unit.specs.declared.PictureKind.TheVariants.{LowDelay}
use Rattle.unit.specs.Limits.{lowest_index, last_index}
use Rattle.unit.specs.Trim.{trimmed, bits_of, trimmed_cost, fit_prefix}
use Rattle.unit.proofs.Laws.Trim.{fit_bits}
use Rattle.unit.specs.Elect.{elect}
use Rattle.unit.proofs.Laws.Slice.{div_rises}
use Rattle.unit.specs.LowDelay.{slice_bytes, length_bits, room_of, low_bits, Runs, kept_runs}
use Rattle.unit.proofs.Laws.LowDelay.{bytes_some, runs_fit, runs-whole, length-low}
use Rattle.picture.specs.declared.slices.layout.Picture.{Picture}
use Rattle.picture.specs.declared.slices.cost.Cost.{Cost}
use Rattle.picture.specs.declared.slices.tally.Trimmed.{Trimmed}
use Rattle.picture.specs.declared.slices.tally.Trimmed.{Trimmed}
use Rattle.picture.specs.declared.low.cut.Kept as code
use Rattle.picture.specs.declared.coder.slice_coder.SliceCoder.{SliceCoder}
use Rattle.picture.specs.Code.Strip.{Small}
use Rattle.picture.specs.Code.Cost.{no_cost, add_all}
use Rattle.picture.specs.Laws.Cost.{CostOf, cost-of, trimmed_prefix, kept_run, fit_run, fit_shorter, keep_shorter, fit_shorter-bits, keep_shorter-bits}
use Rattle.picture.specs.Laws.Head.{room_first, room_rest}
use Rattle.picture.specs.Code.Picture.{slices_in}
use Rattle.picture.specs.Code.Tally.{trimmed_of}
use Rattle.picture.specs.Code.Low.{rebuilt_in, luma_in, colour_in, low_fits_in, low_bits_by, cut_by, low_cut_by, bytes_at, low_index_in, low_work_in, low_bits_in, low_cut_in, work_at, low_runs, cuts_in, Tried, Shorter, run_bits, KeptOf, LowIn}
use Rattle.picture.specs.Laws.Again.{length-rebuilt}

-- ---- the runs that are kept
module _ (room : ℕ) (xs : List ℤ) (c : Cost) (e : c ≡ add_all (no_cost room) xs) where
  cost : CostOf room xs c
  cost = rw e (cost-of room xs)

  module _ (r : Trimmed) (s : Shorter c r) where
    -- the shorter run is what fits of the kept run
    pub cut-run : fit_prefix (trimmed xs) room ≡ take r.count xs
    cut-run = by (dec_le c.fit c.keep)
      where
        by : Dec (c.fit ≤ c.keep) → fit_prefix (trimmed xs) room ≡ take r.count xs
        by (yes l) = fit_shorter cost l ∙ fit_run cost ∙ ap (λ (k : ℕ). take k xs) (sym (s.fit l).0)
        by (no l) =
            let m : c.keep < c.fit = omega arith in
            keep_shorter cost (omega arith) ∙ kept_run cost ∙ ap (λ (k : ℕ). take k xs) (sym (s.kept m).0)

    -- the bits of the run that a cut keeps
    pub cut-bits : r.bits ≡ bits_of (fit_prefix (trimmed xs) room)
    cut-bits = by (dec_le c.fit c.keep)
      where
        by : Dec (c.fit ≤ c.keep) → r.bits ≡ bits_of (fit_prefix (trimmed xs) room)
        by (yes l) = (s.fit l).1 ∙ sym (fit_shorter-bits cost l)
        by (no l) =
            let m : c.keep < c.fit = omega arith in
            (s.kept m).1 ∙ sym (keep_shorter-bits cost (omega arith))

    pub cut_fits : r.bits ≤ room
    cut_fits = omega (arith, cut-bits, fit_bits (trimmed xs) room)

module _ (room : ℕ) (ys cs : List ℤ) where
  runs-cut : room < trimmed_cost ys + trimmed_cost cs
      → kept_runs room ys cs ≡ record { luma = fit_prefix (trimmed ys) room; colour = fit_prefix (trimmed cs) (room - bits_of (fit_prefix (trimmed ys) room)) }
  unfolding kept_runs
  runs-cut h = rw (lt-leb (trimmed_cost ys + trimmed_cost cs) room h, kept_runs)

  -- a slice that does not fit
  pub kept-cut : (y : Cost) (l : Trimmed) (c : Cost) (r : Trimmed) → y ≡ add_all (no_cost room) ys → room < trimmed_cost ys + trimmed_cost cs
      → Shorter y l → c ≡ add_all (no_cost (room - l.bits)) cs → Shorter c r
      → KeptOf room ys cs (record { luma = l; colour = r; cut = true })
  kept-cut y l c r e h s d t =
      let k = runs-cut h in
      let a = cut-bits room ys y e l s in
      let b = cut-bits (room - l.bits) cs c d r t in
      record {
        luma = ap (λ (v : Runs). v.luma) k ∙ cut-run room ys y e l s;
        luma-bits = a ∙ sym (ap (λ (v : Runs). bits_of v.luma) k);
        colour =
            ap (λ (v : Runs). v.colour) k
            ∙ ap (λ (j : ℕ). fit_prefix (trimmed cs) (room - j)) (sym a) ∙ cut-run (room - l.bits) cs c d r t;
        colour-bits =
            b ∙ ap (λ (j : ℕ). bits_of (fit_prefix (trimmed cs) (room - j))) a ∙ sym (ap (λ (v : Runs). bits_of v.colour) k);
        fits = omega (arith, cut_fits room ys y e l s, cut_fits (room - l.bits) cs c d r t);
        cut = rw (lt-leb (trimmed_cost ys + trimmed_cost cs) room h) refl;
      }

  -- a slice that fits
  pub kept_whole : (y c : Trimmed) → y ≡ trimmed_of ys → c ≡ trimmed_of cs → y.bits + c.bits ≤ room
      → KeptOf room ys cs (record { luma = y; colour = c; cut = false })
  unfolding trimmed_cost
  kept_whole y c e d h =
      let a = ap (λ (t : Trimmed). t.bits) e in
      let b = ap (λ (t : Trimmed). t.bits) d in
      let k = runs-whole room ys cs (omega (arith, a, b)) in
      record {
        luma = ap (λ (v : Runs). v.luma) k ∙ trimmed_prefix ys ∙ ap (λ (t : Trimmed). take t.count ys) (sym e);
        luma-bits = a ∙ sym (ap (λ (v : Runs). bits_of v.luma) k);
        colour = ap (λ (v : Runs). v.colour) k ∙ trimmed_prefix cs ∙ ap (λ (t : Trimmed). take t.count cs) (sym d);
        colour-bits = b ∙ sym (ap (λ (v : Runs). bits_of v.colour) k);
        fits = h;
        cut = rw (le-leb (trimmed_cost ys + trimmed_cost cs) room (omega (arith, a, b))) refl;
      }

  pub not-whole : (y c : Trimmed) → y ≡ trimmed_of ys → c ≡ trimmed_of cs → room < y.bits + c.bits → room < trimmed_cost ys + trimmed_cost cs
  not-whole y c e d h = omega (arith, ap (λ (t : Trimmed). t.bits) e, ap (λ (t : Trimmed). t.bits) d)

-- ---- the parts of a slice
-- a new writer has no bit pending
new_sound : (w : BitWriter) → (w.pending ≡ 0) × (w.pending_bits ≡ 0) → Sound w
new_sound w new = record { part = omega arith; small = rw (new.0, new.1) (omega arith) }

-- four parts of n bytes in all, written one after the other from place i on by a new writer
module _ {o : List ℕ} (i n : ℕ) {w : BitWriter} (new : (w.at ≡ i) × ((w.pending ≡ 0) × (w.pending_bits ≡ 0))) (a b c d : Bits) (long : length (a ++ (b ++ (c ++ d))) ≡ 8 * n)
    (fits : i + n ≤ length o) where
  room_all : Room o w (length (a ++ (b ++ (c ++ d))))
  room_all = record { sound = new_sound w new.1; room = omega arith }

  module _ {o₁ : List ℕ} {w₁ : BitWriter} (p : Wrote o w a o₁ w₁) where
    rest₁ : Room o₁ w₁ (length (b ++ (c ++ d)))
    rest₁ = room_rest a (b ++ (c ++ d)) room_all p

    pub second_room : Room o₁ w₁ (length b)
    second_room = room_first b (c ++ d) rest₁

    module _ {o₂ : List ℕ} {w₂ : BitWriter} (q : Wrote o₁ w₁ b o₂ w₂) where
      rest₂ : Room o₂ w₂ (length (c ++ d))
      rest₂ = room_rest b (c ++ d) rest₁ q

      pub third_room : Room o₂ w₂ (length c)
      third_room = room_first c d rest₂

      module _ {o₃ : List ℕ} {w₃ : BitWriter} (r : Wrote o₂ w₂ c o₃ w₃) where
        pub fourth_room : Room o₃ w₃ (length d)
        fourth_room = room_rest c d rest₂ r

        pub parts_laid : {o₄ o₅ : List ℕ} {w₄ w₅ : BitWriter} → Wrote o₃ w₃ d o₄ w₄ → Flushes o₄ w₄ o₅ w₅ → Lays o i (to_bytes (a ++ (b ++ (c ++ d)))) o₅ w₅.at
        parts_laid s f =
            let t = new_sound w new.1 in
            rw new.0 at (flush_lays t (wrote_then t p (wrote_then p.sound q (wrote_then q.sound r s))) f new.1.1)

parts_of_lem : (n q m room : ℕ) (ys cs : List ℤ) (a b : ℕ) → m ≡ length_bits n → room ≡ room_of n → a ≡ bits_of ys → b ≡ bits_of cs
    → lit 7 q ++ (lit m a ++ ((codes ys ++ codes cs) ++ one_bits (room - a - b))) ≡ low_bits n q ys cs
unfolding low_bits
parts_of_lem n q m room ys cs a b em er ea eb = rw (em, er, ea, eb, append_assoc (codes ys) (codes cs) (one_bits (room_of n - bits_of ys - bits_of cs)))

module _ (v : List ℤ) (p : Picture) (n k q : ℕ) where
  slice_long : 1 ≤ n → length (low_bits_by v p n k q) ≡ 8 * n
  unfolding low_bits_by
  slice_long h =
      let r = kept_runs (room_of n) (luma_in v p k q) (colour_in v p k q) in
      length-low n q r.luma r.colour (runs_fit (room_of n) (luma_in v p k q) (colour_in v p k q)) h

  -- a slice has n bytes, whatever is in it
  pub slice_length : 1 ≤ n → length (to_bytes (low_bits_by v p n k q)) ≡ n
  slice_length h = omega (arith, length-to_bytes (low_bits_by v p n k q), slice_long h)

  -- a slice's parts as the code writes them
  pub slice_parts : (room m : ℕ) (r : code.Kept) → room ≡ room_of n → m ≡ length_bits n → KeptOf room (luma_in v p k q) (colour_in v p k q) r
      → lit 7 q ++ (lit m r.luma.bits ++ (run_bits v p k q r ++ one_bits (room - r.luma.bits - r.colour.bits))) ≡ low_bits_by v p n k q
  unfolding low_bits_by
  slice_parts room m r er em h =
      let ys = luma_in v p k q in
      let cs = colour_in v p k q in
      let g : KeptOf (room_of n) ys cs r = rw er at h in
      let u = kept_runs (room_of n) ys cs in
      ap₂ (λ (x z : List ℤ). lit 7 q ++ (lit m r.luma.bits ++ ((codes x ++ codes z) ++ one_bits (room - r.luma.bits - r.colour.bits))))
      (sym g.luma) (sym g.colour)
      ∙ parts_of_lem n q m room u.luma u.colour r.luma.bits r.colour.bits em er g.luma-bits g.colour-bits

-- ---- whether a slice is cut
bit_small : (b : Bool) → cond b 0 1 ≤ 1
bit_small true = omega arith
bit_small false = omega arith

cut_small : (v : List ℤ) (p : Picture) (n k q : ℕ) → low_cut_by v p n k q ≤ 1
unfolding low_cut_by
cut_small v p n k q = bit_small (leb (trimmed_cost (luma_in v p k q) + trimmed_cost (colour_in v p k q)) (room_of n))

-- a slice that is written part by part
module _
    (o : List ℕ) (i : ℕ) {w : BitWriter} (new : (w.at ≡ i) × ((w.pending ≡ 0) × (w.pending_bits ≡ 0))) (v : List ℤ) (p : Picture) (n k q room m : ℕ) (r : code.Kept)
    (er : room ≡ room_of n) (em : m ≡ length_bits n) (h : KeptOf room (luma_in v p k q) (colour_in v p k q) r)
    (some : 1 ≤ n) (fits : i + n ≤ length o) where
  abbrev left : ℕ
  left = room - r.luma.bits - r.colour.bits

  long : length (lit 7 q ++ (lit m r.luma.bits ++ (run_bits v p k q r ++ one_bits left))) ≡ 8 * n
  long = ap length (slice_parts v p n k q room m r er em h) ∙ slice_long v p n k q some

  slice_cut : val r.cut ≡ low_cut_by v p n k q
  unfolding low_cut_by
  slice_cut = h.cut ∙ ap (λ (x : ℕ). cut_by x (luma_in v p k q) (colour_in v p k q)) er

  module _ {o₁ : List ℕ} {w₁ : BitWriter} (a : Wrote o w (lit 7 q) o₁ w₁) where
    pub length_room : Room o₁ w₁ m
    length_room =
        rw (length-lit m r.luma.bits) at
        (second_room i n new (lit 7 q) (lit m r.luma.bits) (run_bits v p k q r) (one_bits left) long fits a)

    module _ {o₂ : List ℕ} {w₂ : BitWriter} (b : Wrote o₁ w₁ (lit m r.luma.bits) o₂ w₂) where
      pub runs_room : Room o₂ w₂ (length (run_bits v p k q r))
      runs_room = third_room i n new (lit 7 q) (lit m r.luma.bits) (run_bits v p k q r) (one_bits left) long fits a b

      module _ {o₃ : List ℕ} {w₃ : BitWriter} (c : Wrote o₂ w₂ (run_bits v p k q r) o₃ w₃) where
        pub ones_room : Room o₃ w₃ left
        ones_room =
            rw (length-replicate left true) at
            (fourth_room i n new (lit 7 q) (lit m r.luma.bits) (run_bits v p k q r) (one_bits left) long fits a b c)

        module _ {o₄ : List ℕ} {w₄ : BitWriter} (d : Wrote o₃ w₃ (one_bits left) o₄ w₄) where
          pub flush_room : Room o₄ w₄ 0
          flush_room = room_after 0 ones_room d (omega (arith, length-replicate left true))

          -- the slice is laid, and it is known whether it is cut
          pub slice_laid : {o₅ : List ℕ} {w₅ : BitWriter} → Flushes o₄ w₄ o₅ w₅ → Lays o i (to_bytes (low_bits_by v p n k q)) o₅ w₅.at × (val r.cut ≡ low_cut_by v p n k q)
          slice_laid f = (
            rw (← slice_parts v p n k q room m r er em h)
                (parts_laid i n new (lit 7 q) (lit m r.luma.bits) (run_bits v p k q r) (one_bits left) long fits a b c d f),
            slice_cut,
          )

-- ---- a slice's index, and the work slice behind it
-- slice k of w was coded at index q, which gave v
pub record Elects (p : Picture) (n : ℕ) (w : List ℤ) (k bytes q : ℕ) (v : List ℤ) : Type 0 where
  pub index : q ≡ low_index_in p n w k
  pub work : v ≡ low_work_in p n w k
  pub bits : low_bits_by v p bytes k q ≡ low_bits_in p n w k
  pub cut : low_cut_by v p bytes k q ≡ low_cut_in p n w k

module _ (p : Picture) (n : ℕ) (w : List ℤ) (k d bytes : ℕ) (ed : d ≡ slices_in p) (eb : bytes ≡ slice_bytes n d k) where
  bytes_is : bytes ≡ bytes_at p n k
  bytes_is = eb ∙ ap (λ (x : ℕ). slice_bytes n x k) ed

  -- there is room for its bytes where there is for its bits
  pub slice_fits : (i len : ℕ) → 1 ≤ bytes → i + length (to_bytes (low_bits_in p n w k)) ≤ len → i + bytes ≤ len
  slice_fits i len some h =
      let e = bytes_is in
      let l : 1 ≤ bytes_at p n k = omega arith in
      omega (arith, slice_length (low_work_in p n w k) p (bytes_at p n k) k (low_index_in p n w k) l)

  index_is : (room q : ℕ) → room ≡ room_of bytes → q ≡ elect lowest_index (last_index LowDelay) (low_fits_in w p room k) → q ≡ low_index_in p n w k
  unfolding low_index_in
  index_is room q er ei = ei ∙ ap (λ (x : ℕ). elect lowest_index (last_index LowDelay) (low_fits_in w p x k)) (er ∙ ap (λ (x : ℕ). room_of x) bytes_is)

  -- candidates have left u, and the elected one was made again
  pub elects : (room q : ℕ) → room ≡ room_of bytes → q ≡ elect lowest_index (last_index LowDelay) (low_fits_in w p room k)
      → {u v : List ℤ} → Tried p k w u → v ≡ rebuilt_in u p k q → Elects p n w k bytes q v
  elects room q er ei {u} {v} t e =
      let i = index_is room q er ei in
      let f : v ≡ low_work_in p n w k = e ∙ t.same q ∙ ap (rebuilt_in w p k) i in
      record {
        index = i;
        work = f;
        bits = ap (λ (x : List ℤ). low_bits_by x p bytes k q) f ∙ ap₂ (λ (b j : ℕ). low_bits_by (low_work_in p n w k) p b k j) bytes_is i;
        cut = ap (λ (x : List ℤ). low_cut_by x p bytes k q) f ∙ ap₂ (λ (b j : ℕ). low_cut_by (low_work_in p n w k) p b k j) bytes_is i;
      }

pub work_size : (p : Picture) (n : ℕ) (w : List ℤ) (k : ℕ) → length (work_at p n w k) ≡ length w
unfolding work_at
work_size p n w zero = refl
work_size p n w (suc k) = length-rebuilt (work_at p n w k) p k (low_index_in p n (work_at p n w k) k) ∙ work_size p n w k

-- the bytes of the slices before the next one
bytes_next : (n d j : ℕ) → j * n / d + slice_bytes n d j ≡ suc j * n / d
unfolding slice_bytes
bytes_next n d j =
    let h : j * n ≤ suc j * n = omega (arith, suc-mul j n) in
    omega (arith, div_rises d h)

bytes_within : (n d j : ℕ) → j < d → j * n / d + slice_bytes n d j ≤ n
bytes_within n d j h =
    let l : suc j ≤ d = omega arith in
    let z : 1 ≤ d = omega arith in
    omega (arith, bytes_next n d j, div_rises d (mul-le-mul_right n l), mul-div_cancel_left n z)

-- the bytes of j slices
module _ (p : Picture) (n : ℕ) (a : 1 ≤ slices_in p) (b : slices_in p ≤ n) where
  run_length : (u : List ℤ) (j : ℕ) → length (to_bytes (low_bits_in p n u j)) ≡ slice_bytes n (slices_in p) j
  run_length u j = slice_length (low_work_in p n u j) p (bytes_at p n j) j (low_index_in p n u j) (bytes_some n (slices_in p) j a b)

  runs-length : (w : List ℤ) (j : ℕ) → length (low_runs p n w j) ≡ j * n / slices_in p
  unfolding chunks
  runs-length w zero = sym (ap (λ (x : ℕ). x / slices_in p) (zero-mul n) ∙ zero-div (slices_in p))
  runs-length w (suc j) =
      length-append (low_runs p n w j) (to_bytes (low_bits_in p n (work_at p n w j) j))
      ∙ ap₂ ◌+◌ (runs-length w j) (run_length (work_at p n w j) j) ∙ bytes_next n (slices_in p) j

-- from w and o the first k slices were coded from place i on, which gave w', o' and c
pub record Coded (p : Picture) (n : ℕ) (w : List ℤ) (o : List ℕ) (i k : ℕ) (w' : List ℤ) (o' : List ℕ) (c : SliceCoder) : Type 0 where
  pub many : k ≤ slices_in p
  pub lays : Lays o i (low_runs p n w k) o' c.at
  pub cuts : c.cut_slices ≡ cuts_in p n w k
  pub few : c.cut_slices ≤ k
  pub work : w' ≡ work_at p n w k
  pub small : Small p.front p.end w'

pub coded_none : (p : Picture) (n : ℕ) (w : List ℤ) (o : List ℕ) (i : ℕ) (c : SliceCoder) → LowIn p n w → c.at ≡ i → c.cut_slices ≡ 0
    → Coded p n w o i 0 w o c
unfolding chunks work_at
coded_none p n w o i c h e d = record {
  many = omega arith;
  lays = rw e (lays_start o i);
  cuts = d;
  few = omega arith;
  work = refl;
  small = h.small;
}

module _ {p : Picture} {n : ℕ} {w : List ℤ} {o : List ℕ} {i k : ℕ} {w' : List ℤ} {o' : List ℕ} {c : SliceCoder} (t : LowIn p n w) (h : Coded p n w o i k w' o' c) (l : k < slices_in p) where
  -- the next slice can be coded
  pub coded_in : LowIn p n w'
  coded_in = record { arranged = t.arranged; small = h.small; enough = t.enough; few = t.few }

  pub coded_room : i + n ≤ length o → c.at + length (to_bytes (low_bits_in p n w' k)) ≤ length o'
  coded_room f =
      let z : 1 ≤ slices_in p = omega (arith, l) in
      let a = run_length p n z t.enough w' k in
      let b = runs-length p n z t.enough w k in
      omega (arith, a, b, bytes_within n (slices_in p) k l, h.lays.next, h.lays.size, f)

  -- one slice more is coded
  pub coded-more : {w'' : List ℤ} {o'' : List ℕ} {c' : SliceCoder} → Lays o' c.at (to_bytes (low_bits_in p n w' k)) o'' c'.at
      → w'' ≡ low_work_in p n w' k → Small p.front p.end w'' → c'.cut_slices ≡ c.cut_slices + low_cut_in p n w' k
      → Coded p n w o i (k + 1) w'' o'' c'
  unfolding chunks work_at
  coded-more {w''} {o''} {c'} a e s d =
      let a' : Lays o' c.at (to_bytes (low_bits_in p n (work_at p n w k) k)) o'' c'.at = rw h.work at a in
      let r : Coded p n w o i (suc k) w'' o'' c' = record {
        many = omega (arith, l);
        lays = lays_on h.lays a';
        cuts =
            d ∙ ap₂ (λ (x : ℕ) (u : List ℤ). x + low_cut_in p n u k) h.cuts h.work
            ∙ ap (λ (j : ℕ). cuts_in p n w k + low_cut_in p n (work_at p n w j) j) (sym (zero-add k))
            ∙ sym (total-more (λ j. low_cut_in p n (work_at p n w j) j) 0 k);
        few = omega (arith, d, h.few, cut_small (low_work_in p n w' k) p (bytes_at p n k) k (low_index_in p n w' k));
        work = e ∙ ap (λ (u : List ℤ). low_work_in p n u k) h.work;
        small = s;
      } in
      rw (add-one k) r
