-- Laws of words packed and choices noted in the work slice: numbers depend on the coefficients alone, and slice after
-- slice is planned.
use Rattle.std.specs.Prelude.{◌≡◌, refl, pos, nat_abs, length, take, drop, set}
use Rattle.std.proofs.Common.{sym, ◌∙◌, subst, length-set, take-append-drop, get_or-set_same, get_or-set_other, drop_at, drop-drop, to_z, of_z, to_z-of_z}
use Rattle.std.proofs.Math.Path.{ap, ap₂, fun_ext}
use Rattle.std.proofs.Math.Bool.{false}
use mathlib.Core.List.{List, ◌++◌, append_assoc}
use Prim.Native.Nat.{ℕ, zero, suc, ◌+◌, ◌*◌, ◌-◌, ◌^◌, ◌≤◌, ◌<◌}
use Rattle.std.proofs.Math.Decide.{ℕ_discrete}
use native.Mathlib.Omega.{arith}
use Rattle.std.proofs.Math.IntN.{ℤ}
use Rattle.std.proofs.Math.ListN.{length-append}
use Rattle.std.proofs.lemmas.List.{take-set-le}
use Rattle.std.proofs.Math.Seq.{take-append_seam}
use Rattle.std.specs.Int.{w64}
use Rattle.laws.specs.Laws.Machine.{fit}
use Rattle.laws.specs.Rows.{at}
use Rattle.laws.specs.Laws.Rows.{span_ext}
use Rattle.laws.specs.Code.Chunks.{chunks}
use Rattle.laws.specs.Laws.Chunks.{chunks_ext, chunks-more}
use Rattle.laws.specs.Code.Laid.{laid}
use Rattle.laws.specs.Laws.Laid.{laid_is, length-laid}
use Rattle.codewords.specs.Bytes.{to_bytes}
use Rattle.unit.specs.declared.Settings.{Settings}
use Rattle.unit.specs.Three.{Three}
use Rattle.unit.specs.HighQuality.{share_of, largest_need, scaler_from, index_by, high_plan_of}
use Rattle.unit.specs.Parameters.{overhead}
use Rattle.unit.specs.Unit.{major_version, high_parameters}
use Rattle.unit.specs.Plan.{SlicePlan}
use Rattle.picture.specs.declared.slices.layout.Component.{Component}
use Rattle.picture.specs.declared.slices.layout.Picture.{Picture}
use Rattle.picture.specs.declared.high.packed.Packed.{Packed}
use Rattle.picture.specs.declared.high.choice.Choice.{Choice}
use Rattle.picture.specs.declared.high.plan.Terms.{Terms}
use Rattle.picture.specs.declared.coder.plan.Settled.{Settled}
use Rattle.picture.specs.declared.coder.slice_coder.SliceCoder.{SliceCoder}
use Rattle.picture.specs.Code.Strip.{Small}
use Rattle.picture.specs.Laws.Put.{chunks_split}
use Rattle.picture.specs.Code.Layout.{RunIn}
use Rattle.picture.specs.Code.Counts.{count_of}
use Rattle.picture.specs.Laws.Counts.{count_to, run_count, count_within}
use Rattle.picture.specs.Code.Packed.{packed, words_at}
use Rattle.picture.specs.Laws.Unpacked.{packed_few}
use Rattle.picture.specs.Laws.Packed.{laid-behind, run_alike}
use Rattle.picture.specs.Code.Picture.{slices_in, run_of, numbers_in, Arranged, SliceIn}
use Rattle.picture.specs.Laws.Picture.{run_y, run_c1, run_c2}
use Rattle.picture.specs.Code.Choice.{index_in, plan_in, plans_in, high_runs, choice_by, choice_in, slice_words, words_in, words_to, slice_number_count, is_target, FewBits, PlanIn, terms_of, slices_by}
use Rattle.picture.specs.Code.Notes.{note_run, note_in, RunAt, ChoiceAt, Notes}
use Rattle.picture.specs.Code.Passes.{PlansOn, PlansTo, HighIn, Settles}
use Rattle.picture.specs.Laws.HighIndex.{index_stands}

-- ---- a picture's numbers, indices, plans and words
-- a picture of high quality can be read
pub record WorkIn (p : Picture) (w : List ℤ) : Type 0 where
  pub arranged : Arranged p
  pub plain : p.layout.predicted ≡ false
  pub small : Small p.front p.end w

pub plan_work : {p : Picture} {t : Terms} {w : List ℤ} → PlanIn p t w → WorkIn p w
plan_work h = record { arranged = h.arranged; plain = h.plain; small = h.small }

pub high_work : {s : Settings} {p : Picture} {w : List ℤ} → HighIn s p w → WorkIn p w
high_work h = record { arranged = h.arranged; plain = h.plain; small = h.small }

-- what slices have in a list with the same coefficients
module _ (p : Picture) (w v : List ℤ) (h : WorkIn p w) (same : (i : ℕ) → p.front ≤ i → i < p.end → at v i ≡ at w i) where
  numbers_same : (k : ℕ) → k < slices_in p → numbers_in v p k ≡ numbers_in w p k
  unfolding numbers_in
  numbers_same k b =
      let s : SliceIn p w k 0 = record { arranged = h.arranged; small = h.small; slice = b; index = omega arith } in
      let by : (c : Component) (q : ℕ) → RunIn p.layout c c p.front p.end k 0 w → run_of v p c k q ≡ run_of w p c k q =
      λ c q r. run_alike p.front p.end w v same p.layout c c false k q 0 w r h.plain in
      fun_ext (λ q.
      ap₂ (λ (y : List ℤ) (z : List ℤ × List ℤ). record { y = y; c1 = z.0; c2 = z.1 }) (by p.y q (run_y s))
      (ap₂ (λ (x y : List ℤ). (x, y)) (by p.c1 q (run_c1 s)) (by p.c2 q (run_c2 s))))

  pub index_same : (t : Terms) (k : ℕ) → k < slices_in p → index_in v p t k ≡ index_in w p t k
  unfolding index_in
  index_same t k b = ap (index_by t.lo t.rate t.prefix t.scaler (share_of t.bytes (slices_in p) k)) (numbers_same k b)

  pub choice-same : (t : Terms) (k : ℕ) → k < slices_in p → choice_in v p t k ≡ choice_in w p t k
  choice-same t k b = ap₂ (λ (q : ℕ) (z : ℕ → Three (List ℤ)). choice_by z q) (index_same t k b) (numbers_same k b)

  pub plan-same : (t : Terms) (k : ℕ) → k < slices_in p → plan_in v p t k ≡ plan_in w p t k
  unfolding plan_in
  plan-same t k b =
      ap₂ (λ (q : ℕ) (z : ℕ → Three (List ℤ)). high_plan_of t.prefix t.scaler q (z q)) (index_same t k b) (numbers_same k b)

  pub words_same : (t : Terms) (k : ℕ) → k < slices_in p → words_in v p t k ≡ words_in w p t k
  words_same t k b = ap₂ (λ (q : ℕ) (z : ℕ → Three (List ℤ)). slice_words (z q)) (index_same t k b) (numbers_same k b)

  pub words_alike : (t : Terms) (n : ℕ) → n ≤ slices_in p → words_to v p t n ≡ words_to w p t n
  words_alike t n b = chunks_ext (words_in v p t) (words_in w p t) n (λ k l. words_same t k (omega arith))

  pub plans_alike : (t : Terms) → plans_in v p t (slices_in p) ≡ plans_in w p t (slices_in p)
  plans_alike t = span_ext (plan_in v p t) (plan_in w p t) 0 (slices_in p) (λ k o b. plan-same t k (omega arith))

  pub runs_alike : (t : Terms) → high_runs v p t (slices_in p) ≡ high_runs w p t (slices_in p)
  runs_alike t =
      chunks_ext (λ k. to_bytes (plan_in v p t k).bits) (λ k. to_bytes (plan_in w p t k).bits) (slices_in p)
      (λ k b. ap (λ (a : SlicePlan). to_bytes a.bits) (plan-same t k b))

-- ---- room for the words
pub run_words : (w : List ℤ) (p : Picture) (c : Component) (k q : ℕ) → length (packed 0 (run_of w p c k q)) ≤ count_of p.layout c k
run_words w p c k q = omega (arith, packed_few (run_of w p c k q), run_count w p.layout c k q)

pub words_most : (w : List ℤ) (p : Picture) (k q : ℕ) → length (slice_words (numbers_in w p k q)) ≤ slice_number_count p k
unfolding numbers_in
words_most w p k q =
    let y = packed 0 (run_of w p p.y k q) in
    let c1 = packed 0 (run_of w p p.c1 k q) in
    let c2 = packed 0 (run_of w p p.c2 k q) in
    omega (arith, length-append y (c1 ++ c2), length-append c1 c2, run_words w p p.y k q, run_words w p p.c1 k q, run_words w p p.c2 k q)

module _ (w : List ℤ) (p : Picture) (t : Terms) where
  words_before : (k : ℕ) → length (words_to w p t k) ≤ count_to p.layout p.y k + (count_to p.layout p.c1 k + count_to p.layout p.c2 k)
  unfolding chunks count_to
  words_before zero = omega arith
  words_before (suc k) = omega (arith, words_before k, length-append (words_to w p t k) (words_in w p t k), words_most w p k (index_in w p t k))

  -- a slice's words fit before the coefficients, behind the words of earlier slices
  pub words_room : (k : ℕ) → Arranged p → k < slices_in p → length (words_to w p t k) + slice_number_count p k ≤ p.front
  words_room k a b =
      let within : (c : Component) → count_to p.layout c k + count_of p.layout c k ≤ c.width * c.height = λ c. count_within p.layout c k a.layout b in
      omega (arith, words_before k, within p.y, within p.c1, within p.c2, a.behind_y, a.behind_c1, a.c2.rebuilt)

  pub words_end : (k : ℕ) → Arranged p → k < slices_in p → length (words_to w p t k) + length (words_in w p t k) ≤ p.front
  words_end k a b = omega (arith, words_room k a b, words_most w p k (index_in w p t k))

-- ---- words that stand
-- what is laid behind words stands behind them
laid-front : (l xs vs : List ℤ) (i : ℕ) → i ≡ length xs → i + length vs ≤ length l → take i l ≡ xs → take (length (xs ++ vs)) (laid l i vs) ≡ xs ++ vs
laid-front l xs vs i e h f =
    let d : laid l i vs ≡ (xs ++ vs) ++ drop (i + length vs) l = laid_is l i vs h ∙ ap (λ (ys : List ℤ). (ys ++ vs) ++ drop (i + length vs) l) f in
    ap (take (length (xs ++ vs))) d ∙ take-append_seam (xs ++ vs) (drop (i + length vs) l)

-- laid where they stand they change nothing
pub laid_again : (l : List ℤ) (i : ℕ) (vs : List ℤ) → i + length vs ≤ length l → words_at l i (length vs) ≡ vs → laid l i vs ≡ l
laid_again l i vs h e =
    laid_is l i vs h ∙ append_assoc (take i l) vs (drop (i + length vs) l)
    ∙ ap (λ (ys : List ℤ). take i l ++ ys)
    (ap₂ (λ (a b : List ℤ). a ++ b) (sym e) (sym (drop-drop (length vs) i l)) ∙ take-append-drop (length vs) (drop i l))
    ∙ take-append-drop i l

-- words at the start of l: a part of them, and what is behind it
pub stand_parts : (l xs ys : List ℤ) → take (length (xs ++ ys)) l ≡ xs ++ ys → (take (length xs) l ≡ xs) × (words_at l (length xs) (length ys) ≡ ys)
stand_parts l xs ys e =
    let n : ℕ = length (xs ++ ys) in
    let d : l ≡ xs ++ (ys ++ drop n l) = sym (take-append-drop n l) ∙ ap (λ (zs : List ℤ). zs ++ drop n l) e ∙ append_assoc xs ys (drop n l) in (
      ap (take (length xs)) d ∙ take-append_seam xs (ys ++ drop n l),
      ap (λ (m : List ℤ). take (length ys) (drop (length xs) m)) d
          ∙ ap (take (length ys)) (drop_at xs (ys ++ drop n l) (length xs) refl) ∙ take-append_seam ys (drop n l),
    )

-- the words of slice k stand behind those of the slices before
pub words_stand : (w v : List ℤ) (p : Picture) (t : Terms) (n k : ℕ) → k < n → take (length (words_to w p t n)) v ≡ words_to w p t n
    → words_at v (length (words_to w p t k)) (length (words_in w p t k)) ≡ words_in w p t k
unfolding chunks
words_stand w v p t n k h e =
    let F = words_in w p t in
    let m : ℕ = n - suc k in
    let d : n ≡ m + suc k = omega arith in
    let f : words_to w p t n ≡ words_to w p t (suc k) ++ chunks (λ j. F (j + suc k)) m = ap (words_to w p t) d ∙ chunks_split F (suc k) m in
    let g : take (length (words_to w p t (suc k) ++ chunks (λ j. F (j + suc k)) m)) v ≡ words_to w p t (suc k) ++ chunks (λ j. F (j + suc k)) m =
    subst (λ (xs : List ℤ). take (length xs) v ≡ xs) f e in
    (stand_parts v (words_to w p t k) (words_in w p t k) (stand_parts v (words_to w p t (suc k)) (chunks (λ j. F (j + suc k)) m) g).0).1

-- ---- noted
-- a run noted from place i on: what stands before it, and the run
module _ (v : List ℤ) (i : ℕ) (r : Packed) where
  length_run : length (note_run v i r) ≡ length v
  length_run = length-set (set v i (pos r.words)) (i + 1) (pos r.bits) ∙ length-set v i (pos r.words)

  run-before : (j : ℕ) → j < i → at (note_run v i r) j ≡ at v j
  run-before j h =
      get_or-set_other (set v i (pos r.words)) (i + 1) j (pos r.bits) (pos 0) (λ d. omega arith)
      ∙ get_or-set_other v i j (pos r.words) (pos 0) (λ d. omega arith)

  run_words_at : i + 1 < length v → at (note_run v i r) i ≡ pos r.words
  run_words_at h =
      get_or-set_other (set v i (pos r.words)) (i + 1) i (pos r.bits) (pos 0) (λ d. omega arith)
      ∙ get_or-set_same v i (pos r.words) (pos 0) (omega arith)

  run-bits : i + 1 < length v → at (note_run v i r) (i + 1) ≡ pos r.bits
  run-bits h =
      get_or-set_same (set v i (pos r.words)) (i + 1) (pos r.bits) (pos 0) (omega (arith, length-set v i (pos r.words)))

-- a choice noted from place i on
module _ (v : List ℤ) (i : ℕ) (c : Choice) where
  abbrev v₀ : List ℤ
  v₀ = set v i (pos c.index)

  abbrev v₁ : List ℤ
  v₁ = note_run v₀ (i + 1) c.y

  abbrev v₂ : List ℤ
  v₂ = note_run v₁ (i + 3) c.c1

  long₀ : length v₀ ≡ length v
  long₀ = length-set v i (pos c.index)

  long₁ : length v₁ ≡ length v
  long₁ = length_run v₀ (i + 1) c.y ∙ long₀

  long₂ : length v₂ ≡ length v
  long₂ = length_run v₁ (i + 3) c.c1 ∙ long₁

  pub length-note : length (note_in v i c) ≡ length v
  length-note = length_run v₂ (i + 5) c.c2 ∙ long₂

  -- what the later runs leave
  behind₁ : (j : ℕ) → j < i + 3 → at (note_in v i c) j ≡ at v₁ j
  behind₁ j h = run-before v₂ (i + 5) c.c2 j (omega arith) ∙ run-before v₁ (i + 3) c.c1 j h

  pub note-before : (j : ℕ) → j < i → at (note_in v i c) j ≡ at v j
  note-before j h =
      behind₁ j (omega arith) ∙ run-before v₀ (i + 1) c.y j (omega arith) ∙ get_or-set_other v i j (pos c.index) (pos 0) (λ d. omega arith)

  pub note-at : i + 6 < length v → ChoiceAt (note_in v i c) i c
  note-at h = record {
    index = behind₁ i (omega arith) ∙ run-before v₀ (i + 1) c.y i (omega arith) ∙ get_or-set_same v i (pos c.index) (pos 0) (omega arith);
    y_words = behind₁ (i + 1) (omega arith) ∙ run_words_at v₀ (i + 1) c.y (omega (arith, long₀));
    y_bits = behind₁ (i + 1 + 1) (omega arith) ∙ run-bits v₀ (i + 1) c.y (omega (arith, long₀));
    c1_words = run-before v₂ (i + 5) c.c2 (i + 3) (omega arith) ∙ run_words_at v₁ (i + 3) c.c1 (omega (arith, long₁));
    c1_bits = run-before v₂ (i + 5) c.c2 (i + 3 + 1) (omega arith) ∙ run-bits v₁ (i + 3) c.c1 (omega (arith, long₁));
    c2_words = run_words_at v₂ (i + 5) c.c2 (omega (arith, long₂));
    c2_bits = run-bits v₂ (i + 5) c.c2 (omega (arith, long₂));
  }

-- ---- read again
module _ (v : List ℤ) (i n : ℕ) (e : at v i ≡ pos n) where
  plain : at v i ≡ pos (nat_abs (at v i))
  plain = e ∙ ap (λ (z : ℤ). pos (nat_abs z)) (sym e)

  plain_is : nat_abs (at v i) ≡ n
  plain_is = ap nat_abs e

-- a noted number as the machine reads it
pub read_plain : (v : List ℤ) (i : ℕ) → at v i ≡ pos (nat_abs (at v i)) → nat_abs (at v i) < 2 ^ 63 → to_z w64 (of_z w64 (at v i)) ≡ pos (nat_abs (at v i))
read_plain v i e h = ap (λ (z : ℤ). to_z w64 (of_z w64 z)) e ∙ to_z-of_z {w = w64} {z = pos (nat_abs (at v i))} (fit (pos (nat_abs (at v i))) h)

run_at : (v : List ℤ) (i m n : ℕ) → at v i ≡ pos m → at v (i + 1) ≡ pos n → m < 2 ^ 63 → n < 2 ^ 63 → i + 1 < length v → RunAt v i
run_at v i m n e d h l r = record {
  reach = r;
  words = omega (arith, plain_is v i m e, h);
  words_are = plain v i m e;
  bits = omega (arith, plain_is v (i + 1) n d, l);
  bits_are = plain v (i + 1) n d;
}

-- where the choice c stands, its runs can be read, and what is read is c
module _ {v : List ℤ} {i : ℕ} {c : Choice} (h : ChoiceAt v i c) where
  pub noted_y : FewBits c → i + 6 < length v → RunAt v (i + 1)
  noted_y f l = run_at v (i + 1) c.y.words c.y.bits h.y_words h.y_bits (omega (arith, f.words.0)) (omega (arith, f.bits.0)) (omega arith)

  pub noted_c1 : FewBits c → i + 6 < length v → RunAt v (i + 3)
  noted_c1 f l = run_at v (i + 3) c.c1.words c.c1.bits h.c1_words h.c1_bits (omega (arith, f.words.1.0)) (omega (arith, f.bits.1.0)) (omega arith)

  pub noted_c2 : FewBits c → i + 6 < length v → RunAt v (i + 5)
  noted_c2 f l = run_at v (i + 5) c.c2.words c.c2.bits h.c2_words h.c2_bits (omega (arith, f.words.1.1)) (omega (arith, f.bits.1.1)) (omega arith)

  pub noted_is : (q : ℕ) (y c1 c2 : Packed) → q ≡ c.index → (at v (i + 1) ≡ pos y.words) × (at v (i + 1 + 1) ≡ pos y.bits)
      → (at v (i + 3) ≡ pos c1.words) × (at v (i + 3 + 1) ≡ pos c1.bits) → (at v (i + 5) ≡ pos c2.words) × (at v (i + 5 + 1) ≡ pos c2.bits)
      → ◌≡◌ {A = Choice} (record { index = q; y = y; c1 = c1; c2 = c2 }) c
  noted_is q y c1 c2 e a b d =
      ap₂ (λ (q : ℕ) (y : Packed). record { index = q; y = y; c1 = c1; c2 = c2 }) e (two y c.y (i + 1) a h.y_words h.y_bits)
      ∙ ap₂ (λ (c1 c2 : Packed). record { index = c.index; y = c.y; c1 = c1; c2 = c2 }) (two c1 c.c1 (i + 3) b h.c1_words h.c1_bits) (two c2 c.c2 (i + 5) d h.c2_words h.c2_bits)
    where
      two : (r s : Packed) (j : ℕ) → (at v j ≡ pos r.words) × (at v (j + 1) ≡ pos r.bits) → at v j ≡ pos s.words → at v (j + 1) ≡ pos s.bits → r ≡ s
      two r s j x m n = ap₂ (λ (m n : ℕ). record { words = m; bits = n }) (ap nat_abs (sym x.0 ∙ m)) (ap nat_abs (sym x.1 ∙ n))

-- a choice that stands where nothing changes
choice_from : {v u : List ℤ} {j : ℕ} {c : Choice} → ((n : ℕ) → j ≤ n → n < j + 7 → at u n ≡ at v n) → ChoiceAt v j c → ChoiceAt u j c
choice_from {v} {u} {j} {c} same h = record {
  index = same j (omega arith) (omega arith) ∙ h.index;
  y_words = same (j + 1) (omega arith) (omega arith) ∙ h.y_words;
  y_bits = same (j + 1 + 1) (omega arith) (omega arith) ∙ h.y_bits;
  c1_words = same (j + 3) (omega arith) (omega arith) ∙ h.c1_words;
  c1_bits = same (j + 3 + 1) (omega arith) (omega arith) ∙ h.c1_bits;
  c2_words = same (j + 5) (omega arith) (omega arith) ∙ h.c2_words;
  c2_bits = same (j + 5 + 1) (omega arith) (omega arith) ∙ h.c2_bits;
}

-- a note behind the coefficients leaves them small
pub note_small : {a n : ℕ} {v : List ℤ} (i : ℕ) (c : Choice) → n ≤ i → Small a n v → Small a n (note_in v i c)
note_small {a} {n} {v} i c l h = record {
  bound = λ k o. rw (note-before v i c k (omega arith)) (h.bound k o);
  coefficients = λ k o m. rw (note-before v i c k (omega arith)) (h.coefficients k o m);
  long = omega (arith, h.long, length-note v i c);
  few = h.few;
  order = h.order;
}

take-note : (v : List ℤ) (i n : ℕ) (c : Choice) → n ≤ i → take n (note_in v i c) ≡ take n v
take-note v i n c h = take-run (n) _ (i + 5) c.c2 (omega arith) ∙ take-run n _ (i + 3) c.c1 (omega arith) ∙ take-run n _ (i + 1) c.y (omega arith) ∙ take-set-le n v i (pos c.index) h
  where
    take-run : (n : ℕ) (v : List ℤ) (i : ℕ) (r : Packed) → n ≤ i → take n (note_run v i r) ≡ take n v
    take-run n v i r h = take-set-le n (set v i (pos r.words)) (i + 1) (pos r.bits) (omega arith) ∙ take-set-le n v i (pos r.words) h

module _ {w : List ℤ} {p : Picture} {t : Terms} where
  pub notes_none : Small p.front p.end w → Notes w p t 0 w
  unfolding chunks
  notes_none s = record { size = refl; same = λ i h l. refl; small = s; words = refl; choice = λ k h l. absurd (omega arith) }

  pub notes_plan : {n : ℕ} {v : List ℤ} → Notes w p t n v → PlanIn p t w → PlanIn p t v
  notes_plan {n} {v} o h = record { arranged = h.arranged; plain = h.plain; small = o.small; terms = h.terms }

  pub notes_high : {n : ℕ} {s : Settings} {v : List ℤ} → Notes w p t n v → HighIn s p w → HighIn s p v
  notes_high {n} {s} {v} o h = record {
    arranged = h.arranged;
    plain = h.plain;
    small = o.small;
    rate = h.rate;
    shape = h.shape;
  }

  -- one slice more
  pub notes_more : {v u : List ℤ} (k i : ℕ) → PlanIn p t w → k < slices_in p → Notes w p t k v → i ≡ length (words_to w p t k)
      → u ≡ note_in (laid v i (words_in v p t k)) (p.end + 7 * k) (choice_in v p t k) → Small p.front p.end u → Notes w p t (k + 1) u
  notes_more {v} {u} k i h s o ei e small = record {
    size = ap length e ∙ length-note l j c ∙ length-laid v i ws ∙ o.size;
    same = λ n a b. ap (λ (u : List ℤ). at u n) e ∙ note-before l j c n (omega arith) ∙ laid-behind v i ws n (omega (arith, ends, a)) ∙ o.same n a b;
    small = small;
    words = subst (λ (xs : List ℤ). take (length xs) u ≡ xs) (sym (chunks-more (words_in w p t) k)) front;
    choice = λ n b m. subst (λ (u : List ℤ). ChoiceAt u (p.end + 7 * n) (choice_in w p t n)) (sym e) (by n b (omega (arith, ap length e, m)) (ℕ_discrete n k));
  }
    where
      j : ℕ
      j = p.end + 7 * k

      c : Choice
      c = choice_in v p t k

      ws : List ℤ
      ws = words_in v p t k

      l : List ℤ
      l = laid v i ws

      is : c ≡ choice_in w p t k
      is = choice-same p w v (plan_work h) o.same t k s

      words_are : ws ≡ words_in w p t k
      words_are = words_same p w v (plan_work h) o.same t k s

      ends : i + length ws ≤ p.front
      ends = omega (arith, ei, ap length words_are, words_end w p t k h.arranged s)

      order : p.front ≤ p.end
      order = h.small.order

      long : p.end ≤ length v
      long = o.small.long

      front : take (length (words_to w p t k ++ words_in w p t k)) u ≡ words_to w p t k ++ words_in w p t k
      front =
          let xs = words_to w p t k in
          let m : ℕ = length (xs ++ words_in w p t k) in
          let b : m ≤ j = omega (arith, length-append xs (words_in w p t k), ap length words_are, ends, ei, order) in
          let d = laid-front v xs ws i ei (omega (arith, ends, order, long)) (ap (λ (n : ℕ). take n v) ei ∙ o.words) in
          ap (take m) e ∙ take-note l j m c b ∙ subst (λ (ys : List ℤ). take (length (xs ++ ys)) l ≡ xs ++ ys) words_are d

      by : (n : ℕ) → n < k + 1 → p.end + 7 * n + 6 < length (note_in l j c) → Dec (n ≡ k) → ChoiceAt (note_in l j c) (p.end + 7 * n) (choice_in w p t n)
      by n b m (yes d) =
          subst (λ (n : ℕ). ChoiceAt (note_in l j c) (p.end + 7 * n) (choice_in w p t n)) (sym d)
          (subst (ChoiceAt (note_in l j c) j) is (note-at l j c (omega (arith, length-note l j c, m, d))))
      by n b m (no d) =
          let f : n < k = omega (arith, b, d) in
          choice_from (λ x a g. note-before l j c x (omega (arith, f, g)) ∙ laid-behind v i ws x (omega (arith, ends, order, a)))
          (o.choice n f (omega (arith, length-note l j c, length-laid v i ws, m)))

  -- the slices planned so far are those of w
  pub plans_noted : {v : List ℤ} (k : ℕ) (b r : SliceCoder) → PlanIn p t w → k < slices_in p → Notes w p t k v
      → PlansOn (plan_in v p t k) b r → PlansOn (plan_in w p t k) b r
  plans_noted {v} k b r h s o = subst (λ (a : SlicePlan). PlansOn a b r) (plan-same p w v (plan_work h) o.same t k s)

  -- all slices' words and choices stand in v
  pub notes_own : {v : List ℤ} → WorkIn p w → Notes w p t (slices_in p) v → Notes v p t (slices_in p) v
  notes_own {v} h o = record {
    size = refl;
    same = λ i a l. refl;
    small = o.small;
    words = subst (λ (xs : List ℤ). take (length xs) v ≡ xs) (sym (words_alike p w v h o.same t (slices_in p) (omega arith))) o.words;
    choice = λ k l m. subst (ChoiceAt v (p.end + 7 * k)) (sym (choice-same p w v h o.same t k l)) (o.choice k l m);
  }

-- without a byte target the notes are those of any terms
pub notes_stand : {w v : List ℤ} {p : Picture} {t : Terms} (s : Settings) → t.rate ≡ s.rate → Notes w p t (slices_in p) v → is_target s.rate ≡ false
    → (x : Terms) → x.rate ≡ s.rate → Notes w p x (slices_in p) v
notes_stand {w} {v} {p} {t} s e o f x d = record {
  size = o.size;
  same = o.same;
  small = o.small;
  words = subst (λ (xs : List ℤ). take (length xs) v ≡ xs)
      (sym (chunks_ext (words_in w p x) (words_in w p t) (slices_in p) (λ k l. ap (λ (q : ℕ). slice_words (numbers_in w p k q)) (stands k)))) o.words;
  choice = λ k l m. subst (λ (q : ℕ). ChoiceAt v (p.end + 7 * k) (choice_by (numbers_in w p k) q)) (sym (stands k)) (o.choice k l m);
}
  where
    stands : (k : ℕ) → index_in w p x k ≡ index_in w p t k
    stands k = index_stands w p t x k (d ∙ sym e) (ap is_target e ∙ f)

-- the notes of a pass with other terms after a pass
pub notes_after : {w v u : List ℤ} {p : Picture} {t x : Terms} {n : ℕ} → WorkIn p w → Notes w p t n v
    → Notes v p x (slices_in p) u → Notes w p x (slices_in p) u
notes_after {w} {v} {u} {p} {t} {x} h o i = record {
  size = i.size ∙ o.size;
  same = λ k a l. i.same k a l ∙ o.same k a l;
  small = i.small;
  words = subst (λ (xs : List ℤ). take (length xs) u ≡ xs) (words_alike p w v h o.same x (slices_in p) (omega arith)) i.words;
  choice = λ k l m. subst (ChoiceAt u (p.end + 7 * k)) (choice-same p w v h o.same x k l) (i.choice k l m);
}

plans_by : {w v : List ℤ} {p : Picture} {t : Terms} {from : ℕ} {r : SliceCoder} → high_runs v p t (slices_in p) ≡ high_runs w p t (slices_in p)
    → plans_in v p t (slices_in p) ≡ plans_in w p t (slices_in p) → words_to v p t (slices_in p) ≡ words_to w p t (slices_in p)
    → PlansTo v p t from (slices_in p) r → PlansTo w p t from (slices_in p) r
plans_by {w} {v} {p} {t} {from} {r} e d f h = record {
  at = h.at ∙ ap (λ (b : List ℕ). from + length b) e;
  near = h.near;
  cut = h.cut;
  largest = h.largest ∙ ap largest_need d;
  few = h.few;
  words = h.words ∙ ap length f;
}

-- the plan of a pass with other terms after a pass
module _ {w v : List ℤ} {p : Picture} {t x : Terms} {n from : ℕ} {r : SliceCoder} (h : WorkIn p w) (o : Notes w p t n v) where
  pub plans_after : PlansTo v p x from (slices_in p) r → PlansTo w p x from (slices_in p) r
  plans_after = plans_by (runs_alike p w v h o.same x) (plans_alike p w v h o.same x) (words_alike p w v h o.same x (slices_in p) (omega arith))

  pub plans_before : PlansTo w p x from (slices_in p) r → PlansTo v p x from (slices_in p) r
  plans_before = plans_by (sym (runs_alike p w v h o.same x)) (sym (plans_alike p w v h o.same x)) (sym (words_alike p w v h o.same x (slices_in p) (omega arith)))

-- noting changes nothing of the scaler that planning ends with
pub settles_after : {w v : List ℤ} {p : Picture} {t : Terms} {n : ℕ} {s : Settings} {m : List ℕ} {r : Settled} → WorkIn p w
    → Notes w p t n v → Settles v p s m r → Settles w p s m r
settles_after {w} {v} {p} {t} {n} {s} {m} {r} h o z =
    let e : slices_by v p s m ≡ slices_by w p s m = fun_ext (λ c. plans_alike p w v h o.same (terms_of s m c)) in
    record {
      scaler = λ most f l b. z.scaler most f (λ c. subst (λ (F : ℕ → List SlicePlan). largest_need (F c) ≤ most) (sym e) (l c)) b
          ∙ ap (λ (F : ℕ → List SlicePlan). scaler_from F f s.slice_size_scaler) e;
      some = z.some;
      few = z.few;
      fits = subst (λ (F : ℕ → List SlicePlan). largest_need (F r.scaler) ≤ 255 * r.scaler) e z.fits;
      end = z.end ∙ ap (λ (b : List ℕ). overhead (major_version s) (high_parameters s m r.scaler) + length b) (runs_alike p w v h o.same (terms_of s m r.scaler));
    }
