-- Laws of the places of Annex D's matrices, which join the code's table to the definition's.
use Rattle.std.specs.Prelude.{◌≡◌, take, drop, set, Some}
use Rattle.std.proofs.Math.Path.{refl, sym, ap}
use Rattle.std.proofs.Common.{◌∙◌, zero-add, suc-add, add_assoc, le_of_suc-le-suc, not-suc-le-zero, add-one, arith, length-drop, take-append-drop, take_all, lt-ltb, le-ltb, eq-eqb, ne_eqb}
use mathlib.Core.List.{List, [], ◌∷◌, ◌++◌, map, flatten}
use Rattle.std.proofs.Math.Option.{none, some}
use Prim.Native.Nat.{ℕ, zero, suc, ◌+◌, ◌*◌, ◌-◌, ◌/◌, ◌%◌, ◌^◌, ◌≤◌, ◌<◌}
use Rattle.std.proofs.Math.Decide.{dec_lt, ℕ_discrete}
use Rattle.std.proofs.Math.ListN.{length, get_or, get_elem?, replicate, length-append, get_or-replicate, get_or-map}
use Rattle.std.proofs.Math.Seq.{paste, paste-suc}
use Rattle.laws.specs.Rows.{span, total}
use Rattle.laws.specs.Laws.Rows.{table}
use Rattle.quantiser.specs.AnnexD.{Table, tables, table_d8, and_then, table_of, default_matrix}
use Rattle.quantiser.specs.Code.Default.{matrix_places, places, handed, default_of}
use Rattle.quantiser.specs.Code.Cells.{all_tables, shape, start_of, cell_of, table_at, matrix_at}

-- ---- lists
module _ {A : Type 0} where
  pub get_elem?-in : (xs : List A) (n : ℕ) (d : A) → n < length xs → get_elem? xs n ≡ some (get_or xs n d)
  get_elem?-in [] n d h = absurd (not-suc-le-zero h)
  get_elem?-in (x ∷ xs) zero d h = refl
  get_elem?-in (x ∷ xs) (suc n) d h = get_elem?-in xs n d (le_of_suc-le-suc h)

  pub get_elem?-out : (xs : List A) (n : ℕ) → length xs ≤ n → get_elem? xs n ≡ none
  get_elem?-out [] n h = refl
  get_elem?-out (x ∷ xs) zero h = absurd (not-suc-le-zero h)
  get_elem?-out (x ∷ xs) (suc n) h = get_elem?-out xs n (le_of_suc-le-suc h)

  get_elem?-left : (xs ys : List A) (n : ℕ) → n < length xs → get_elem? (xs ++ ys) n ≡ get_elem? xs n
  get_elem?-left [] ys n h = absurd (not-suc-le-zero h)
  get_elem?-left (x ∷ xs) ys zero h = refl
  get_elem?-left (x ∷ xs) ys (suc n) h = get_elem?-left xs ys n (le_of_suc-le-suc h)

  get_elem?-right : (xs ys : List A) (n : ℕ) → get_elem? (xs ++ ys) (length xs + n) ≡ get_elem? ys n
  get_elem?-right [] ys n = ap (get_elem? ys) (zero-add n)
  get_elem?-right (x ∷ xs) ys n = ap (get_elem? (x ∷ (xs ++ ys))) (suc-add (length xs) n) ∙ get_elem?-right xs ys n

  length-flatten : (t : List (List A)) → length (flatten t) ≡ total (map length t)
  unfolding flatten
  length-flatten [] = refl
  length-flatten (b ∷ t) = length-append b (flatten t) ∙ ap (λ (n : ℕ). length b + n) (length-flatten t)

  -- element d of block k, if there is one, stands d places behind the blocks before it
  block_in : (t : List (List A)) (k d : ℕ) → start_of (map length t) k + d < start_of (map length t) (suc k)
      → get_elem? (flatten t) (start_of (map length t) k + d) ≡ and_then (get_elem? t k) (λ b. get_elem? b d)
  unfolding flatten
  block_in [] zero d h = absurd (not-suc-le-zero h)
  block_in [] (suc k) d h = absurd (not-suc-le-zero h)
  block_in (b ∷ t) zero d h = ap (get_elem? (b ++ flatten t)) (zero-add d) ∙ get_elem?-left b (flatten t) d (omega arith)
  block_in (b ∷ t) (suc k) d h =
      ap (get_elem? (b ++ flatten t)) (add_assoc (length b) (start_of (map length t) k) d)
      ∙ get_elem?-right b (flatten t) (start_of (map length t) k + d)
      ∙ block_in t k d (omega arith)

  block_out : (t : List (List A)) (k d : ℕ) → start_of (map length t) (suc k) ≤ start_of (map length t) k + d
      → and_then (get_elem? t k) (λ b. get_elem? b d) ≡ none
  block_out [] k d h = refl
  block_out (b ∷ t) zero d h = get_elem?-out b d (omega arith)
  block_out (b ∷ t) (suc k) d h = block_out t k d (omega arith)

-- ---- zeros behind a list leave its values as they are
get_or-zeros : (n i : ℕ) → get_or {A = ℕ} (replicate n 0) i 0 ≡ 0
get_or-zeros zero i = refl
get_or-zeros (suc n) zero = refl
get_or-zeros (suc n) (suc i) = get_or-zeros n i

get_or-behind : (vs : List ℕ) (n i : ℕ) → get_or (vs ++ replicate n 0) i 0 ≡ get_or vs i 0
get_or-behind [] n i = get_or-zeros n i
get_or-behind (v ∷ vs) n zero = refl
get_or-behind (v ∷ vs) n (suc i) = get_or-behind vs n i

-- ---- the number of a table
pub same_table : (w h : ℕ) → w ≡ h → w < 7 → get_elem? all_tables w ≡ table_of w h
unfolding all_tables
same_table w h e l = rw (eq-eqb w h e) (get_elem?-left tables (table_d8 ∷ []) w l)

pub same_none : (w h : ℕ) → w ≡ h → 7 ≤ w → get_elem? all_tables 8 ≡ table_of w h
unfolding all_tables
same_none w h e l = rw (eq-eqb w h e) (sym (get_elem?-out tables w l))

pub mixed_table : (w h : ℕ) → w ≡ 3 → h ≡ 1 → get_elem? all_tables 7 ≡ table_of w h
unfolding all_tables
mixed_table w h p q = rw (p, q) refl

pub mixed_none : (w h : ℕ) → (w ≡ h → ⊥) → (w ≡ 3 → h ≡ 1 → ⊥) → get_elem? all_tables 8 ≡ table_of w h
unfolding all_tables
mixed_none w h p q = by (ℕ_discrete w 3)
  where
    by : Dec (w ≡ 3) → none ≡ table_of w h
    by (yes e) = rw (ne_eqb w h p, eq-eqb w 3 e, ne_eqb h 1 (q e)) refl
    by (no n) = rw (ne_eqb w h p, ne_eqb w 3 n) refl

-- ---- the place of a matrix in its table
start_up : (sizes : List ℕ) (k : ℕ) → start_of sizes k ≤ start_of sizes (suc k)
start_up [] zero = omega arith
start_up [] (suc k) = omega arith
start_up (n ∷ ns) zero = omega arith
start_up (n ∷ ns) (suc k) = omega (arith, start_up ns k)

start-most : (sizes : List ℕ) (k : ℕ) → start_of sizes k ≤ total sizes
start-most ns zero = omega arith
start-most [] (suc k) = omega arith
start-most (n ∷ ns) (suc k) = omega (arith, start-most ns k)

cell_in : (d k : ℕ) → start_of shape k + d < start_of shape (suc k) → start_of shape k + d ≡ cell_of d k
unfolding cell_of
cell_in d k h = rw (lt-ltb _ _ h) refl

cell_out : (d k : ℕ) → start_of shape (suc k) ≤ start_of shape k + d → 19 ≡ cell_of d k
unfolding cell_of
cell_out d k h = rw (le-ltb _ _ h) refl

pub cell_past : (d k : ℕ) → 4 < k → 19 ≡ cell_of d k
cell_past d k h = cell_out d k (omega (arith, start-most shape (suc k), ap total (take_all k shape h)))

-- a matrix's place by the block's start s and the next one's n
pub record Place (d k s n : ℕ) : Type 0 where
  pub order : s ≤ n
  pub small : d < n - s → s + d < 2 ^ 32
  pub there : d < n - s → s + d ≡ cell_of d k
  pub not_there : n - s ≤ d → 19 ≡ cell_of d k

-- a matrix's place by the first six starts as a table
abbrev starts : List ℕ
starts = span (start_of shape) 0 6

abbrev pub PlaceAt : ℕ → ℕ → Type 0
PlaceAt d k = Place d k (get_or starts k 0) (get_or starts (k + 1) 0)

pub place : (d k : ℕ) → k ≤ 4 → PlaceAt d k
place d k h =
    let e : get_or starts k 0 ≡ start_of shape k = table (start_of shape) 6 k 0 (omega arith) in
    let f : get_or starts (k + 1) 0 ≡ start_of shape (suc k) = table (start_of shape) 6 (k + 1) 0 (omega arith) ∙ ap (start_of shape) (add-one k) in
    let m = start-most shape (suc k) in
    rw (e, f)
    (record {
      order = start_up shape k;
      small = λ l. omega arith;
      there = λ l. cell_in d k (omega arith);
      not_there = λ l. cell_out d k (omega arith);
    })

-- what stands there in a table of that shape
cell_finds : (t : Table) (d k : ℕ) → map length t ≡ shape → get_elem? (flatten t) (cell_of d k) ≡ and_then (get_elem? t k) (λ b. get_elem? b d)
cell_finds t d k e = by (dec_lt (start_of shape k + d) (start_of shape (suc k)))
  where
    by : Dec (start_of shape k + d < start_of shape (suc k)) → get_elem? (flatten t) (cell_of d k) ≡ and_then (get_elem? t k) (λ b. get_elem? b d)
    by (yes l) = rw (← cell_in d k l, ← e) (block_in t k d (rw e l))
    by (no l) =
        let g : start_of shape (suc k) ≤ start_of shape k + d = omega arith in
        rw (← cell_out d k g)
        (get_elem?-out (flatten t) 19 (omega (arith, length-flatten t, ap total e)) ∙ sym (block_out t k d (rw e g)))

-- ---- what antt computes of the eight tables: how many, their shape, and that no matrix has more than 14 values
eight : length all_tables ≡ 8
unfolding all_tables
eight = refl

shapes : map (map length) all_tables ≡ replicate 8 shape
unfolding all_tables
shapes = refl

abbrev tail : List ℕ → List ℕ
tail vs = drop 14 (places vs)

abbrev tails : Table → List (List ℕ)
tails t = map tail (flatten t)

all_tails : map tails all_tables ≡ replicate 8 (replicate 19 (replicate 11 0))
unfolding flatten all_tables
all_tails = refl

module _ (t : ℕ) (ht : t < 8) where
  shape_at : map length (table_at t) ≡ shape
  shape_at = sym (get_or-map (map length) all_tables t []) ∙ ap (λ (l : List (List ℕ)). get_or l t []) shapes ∙ get_or-replicate 8 t shape [] ht

  count : length (flatten (table_at t)) ≡ 19
  count = length-flatten (table_at t) ∙ ap total shape_at

  tail_at : (c : ℕ) → c < 19 → tail (matrix_at t c) ≡ replicate 11 0
  unfolding matrix_at
  tail_at c hc =
      sym (get_or-map tail (flatten (table_at t)) c [])
      ∙ ap (λ (l : List (List ℕ)). get_or l c (replicate 11 0)) (sym (get_or-map tails all_tables t []) ∙ row)
      ∙ get_or-replicate 19 c _ _ hc
    where
      row : get_or (map tails all_tables) t (tails []) ≡ replicate 19 (replicate 11 0)
      row = ap (λ (l : List (List (List ℕ))). get_or l t (tails [])) all_tails ∙ get_or-replicate 8 t _ _ ht

-- ---- a matrix of 14 values in its places, filled from the front
abbrev pub filled : List ℕ → ℕ → List ℕ
filled vs i = paste (replicate matrix_places 0) 0 (places vs) i

module _ (t c : ℕ) (ht : t < 8) (hc : c < 19) where
  pub filled-turn : (xs : List ℕ) (i v : ℕ) → i < 14 → xs ≡ filled (matrix_at t c) i → v ≡ get_or (matrix_at t c) i 0 → set xs i v ≡ filled (matrix_at t c) (i + 1)
  filled-turn xs i v h p q =
      let vs = matrix_at t c in
      let l : i < length (places vs) = omega (arith, length-drop 14 (places vs), ap length (tail_at t ht c hc)) in
      let m : 0 + i < matrix_places = omega arith in
      rw (p, q, ← get_or-behind vs (matrix_places - length vs) i, add-one, ← paste-suc (replicate matrix_places 0) 0 (places vs) i 0 m l, zero-add i)

  pub filled_all : (xs : List ℕ) (i : ℕ) → i ≡ 14 → xs ≡ filled (matrix_at t c) i → xs ≡ places (matrix_at t c)
  filled_all xs i e p =
      p ∙ ap (filled (matrix_at t c)) e
      ∙ ap (λ (l : List ℕ). take 14 (places (matrix_at t c)) ++ l) (sym (tail_at t ht c hc))
      ∙ take-append-drop 14 (places (matrix_at t c))

-- ---- the default, by a table's number t and a matrix's place c
module _ (w h d k t : ℕ) (table_is : get_elem? all_tables t ≡ table_of w h) where
  pub no_table : 8 ≤ t → handed none ≡ default_of w h d k
  unfolding default_of default_matrix
  no_table l = rw (← table_is, get_elem?-out all_tables t (omega (arith, eight))) refl

  module _ (c : ℕ) (cell-is : c ≡ cell_of d k) (l : t < 8) where
    by_place : default_of w h d k ≡ handed (get_elem? (flatten (table_at t)) c)
    unfolding default_of default_matrix
    by_place = rw (← table_is, get_elem?-in all_tables t [] (omega (arith, eight)), cell-is, cell_finds (table_at t) d k (shape_at t l)) refl

    pub no_matrix_lem : 19 ≤ c → handed none ≡ default_of w h d k
    no_matrix_lem m = sym (by_place ∙ ap handed (get_elem?-out (flatten (table_at t)) c (omega (arith, count t l))))

    pub is_matrix : c < 19 → (vs : List ℕ) → vs ≡ places (matrix_at t c) → Some vs ≡ default_of w h d k
    unfolding matrix_at
    is_matrix m vs e = rw e (sym (by_place ∙ ap handed (get_elem?-in (flatten (table_at t)) c [] (omega (arith, count t l)))))

-- ---- the code's numbers, a list for each table
unfoldable pub numbers_at : ℕ → List ℕ
numbers_at t = span (λ p. get_or (matrix_at t (p / 14)) (p % 14) 0) 0 266

pub number_at : (t c i : ℕ) → t < 8 → c < 19 → i < 14 → get_or (get_or (span numbers_at 0 8) t []) (c * 14 + i) 0 ≡ get_or (matrix_at t c) i 0
unfolding numbers_at
number_at t c i ht hc hi =
    let a : (c * 14 + i) / 14 ≡ c = omega arith in
    let b : (c * 14 + i) % 14 ≡ i = omega arith in
    ap (λ (l : List ℕ). get_or l (c * 14 + i) 0) (table numbers_at 8 t [] ht)
    ∙ table (λ p. get_or (matrix_at t (p / 14)) (p % 14) 0) 266 (c * 14 + i) 0 (omega arith)
    ∙ rw (a, b)
