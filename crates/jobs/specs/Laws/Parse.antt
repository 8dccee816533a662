-- Laws of a job's words: unpacked, taken apart kind by kind, and in order.
use Rattle.std.specs.Prelude.{◌≡◌, refl, Bool, true, false, not, cond, ◌&&◌, ◌||◌, List, [], ◌∷◌, ◌++◌, map, ℕ, zero, suc, ◌+◌, ◌*◌, ◌-◌, ◌/◌, ◌%◌, ◌^◌, ◌≤◌, ◌<◌, leb, ltb, drop, get_or, set}
use Rattle.std.proofs.Common.{sym, ltb-false, ap₂, ◌∙◌, zero-add, add-one, arith, length-drop, drop-cons, drop_of_length-le, take-suc, take_all, take-add, drop-drop, get_or-take, length-take-le, eqb-true, eq-eqb, ne_eqb, leb-true}
use Rattle.std.proofs.Math.Path.{ap}
use Rattle.std.proofs.Math.Bool.{or_assoc}
use Rattle.std.proofs.lemmas.List.{map-append, length-map}
use Rattle.std.proofs.Math.Nat.{add-sub_cancel_left}
use Rattle.std.proofs.Math.Dec.{eqb}
use Rattle.std.specs.List.{list_any, prefix_len}
use Rattle.std.proofs.lemmas.List.Folds.{length-prefix_len}
use Rattle.std.proofs.Math.ListN.{length, take, get_or-map}
use Rattle.std.proofs.lemmas.Bool.{not-true}
use Rattle.laws.specs.Code.Laid.{Lays}
use Rattle.laws.specs.Laws.Laid.{lays_on}
use Rattle.unit.specs.Refusal.{any_above}
use Rattle.unit.proofs.Laws.Test.{or-none, all_most, most-at}
use Rattle.unit.specs.Words.{word_at, known}
use Rattle.words.specs.Laws.Words.{both_true, known-long}
use Rattle.jobs.specs.declared.parse.Ends.{Ends}
use Rattle.jobs.specs.Job.{words_of, kind_of, content_of, of_kind, behind, parts_of, is_end, in_order}
use Rattle.jobs.specs.Code.Steps.{word_from, run_end, ends_of, counted}
use Rattle.jobs.specs.Laws.Print.{lays_same, lays_one}

-- ---- a slice filled from its front: the first i of vs are laid
module _ {A : Type 0} {b b' : List A} (vs : List A) (i : ℕ) where
  pub fill-next : (v d : A) → i < length vs → v ≡ get_or vs i d → Lays b 0 (take i vs) b' i → Lays b 0 (take (i + 1) vs) (set b' i v) (i + 1)
  fill-next v d h e p = lays_same more (lays_on p (lays_one b' i v))
    where
      more : take i vs ++ (v ∷ []) ≡ take (i + 1) vs
      more = rw (e, add-one i) (sym (take-suc vs i d h))

  pub fill_all : (n : ℕ) → length vs ≡ n → i ≡ n → Lays b 0 (take i vs) b' i → Lays b 0 vs b' n
  fill_all n h e p = rw e at (lays_same (take_all i vs (omega arith)) p)

-- ---- words of bytes
-- how many there are
pub words_count : (bytes : List ℕ) → length (words_of bytes) ≡ length bytes / 4
unfolding words_of
words_count [] = refl
words_count (a ∷ []) = refl
words_count (a ∷ b ∷ []) = refl
words_count (a ∷ b ∷ c ∷ []) = refl
words_count (a ∷ b ∷ c ∷ d ∷ bytes) = let e = words_count bytes in omega arith

-- the word at place i
pub words_at_lem : (bytes : List ℕ) (i : ℕ) → i < length bytes / 4 → word_from bytes (4 * i) ≡ get_or (words_of bytes) i 0
unfolding words_of
words_at_lem [] i h = absurd (omega arith)
words_at_lem (a ∷ []) i h = absurd (omega arith)
words_at_lem (a ∷ b ∷ []) i h = absurd (omega arith)
words_at_lem (a ∷ b ∷ c ∷ []) i h = absurd (omega arith)
words_at_lem (a ∷ b ∷ c ∷ d ∷ bytes) zero h = refl
words_at_lem (a ∷ b ∷ c ∷ d ∷ bytes) (suc i) h =
    let e : 4 * suc i ≡ suc (suc (suc (suc (4 * i)))) = omega arith in
    ap (word_from (a ∷ b ∷ c ∷ d ∷ bytes)) e ∙ behind_word (4 * i) ∙ words_at_lem bytes i (omega arith)
  where
    behind_word : (k : ℕ) → word_from (a ∷ b ∷ c ∷ d ∷ bytes) (suc (suc (suc (suc k)))) ≡ word_from bytes k
    behind_word k =
        let e1 : suc (suc (suc (suc k))) + 1 ≡ suc (suc (suc (suc (k + 1)))) = omega arith in
        let e2 : suc (suc (suc (suc k))) + 2 ≡ suc (suc (suc (suc (k + 2)))) = omega arith in
        let e3 : suc (suc (suc (suc k))) + 3 ≡ suc (suc (suc (suc (k + 3)))) = omega arith in
        rw (e1, e2, e3)

-- ---- contents
-- how many there are, and the one at place i
pub contents_count : (ws : List ℕ) → length (map content_of ws) ≡ length ws
contents_count ws = length-map ws content_of

pub content_at : (ws : List ℕ) (i : ℕ) → content_of (get_or ws i 0) ≡ get_or (map content_of ws) i 0
content_at ws i = sym (get_or-map content_of ws i 0)

-- the one at place i as value gives it, and how many there are
pub value-at : {A : Type 0} (value : ℕ → A) (ws : List ℕ) (i : ℕ) → value (content_of (get_or ws i 0)) ≡ get_or (map value (map content_of ws)) i (value 0)
value-at value ws i = ap value (content_at ws i) ∙ sym (get_or-map value (map content_of ws) i 0)

pub values_count : {A : Type 0} (value : ℕ → A) (ws : List ℕ) → length (map value (map content_of ws)) ≡ length ws
values_count value ws = length-map (map content_of ws) value ∙ contents_count ws

-- the low 16 bits of contents of which none is above 65,535
pub values_same : (vs : List ℕ) → any_above 65535 vs ≡ false → map (λ v. v % 65536) vs ≡ vs
values_same [] h = refl
values_same (v ∷ vs) h =
    let t = (or-none (ltb 65535 v) (any_above 65535 vs)).0 h in
    let l : v ≤ 65535 = ltb-false 65535 v t.0 in
    ap₂ ◌∷◌ (omega arith) (values_same vs t.1)

-- the test of all contents, word by word
pub any_content : (ws : List ℕ) → list_any (λ w. ltb 65535 (content_of w)) ws ≡ any_above 65535 (map content_of ws)
any_content [] = refl
any_content (w ∷ ws) = ap (λ (b : Bool). ltb 65535 (content_of w) || b) (any_content ws)

-- ---- words of a kind
-- what stands in front, by the first word's kind
abbrev front : ℕ → ℕ → List ℕ → Bool → List ℕ
front k w ws b = elim b [ true ↦ w ∷ of_kind k ws | false ↦ [] ]

-- the words of a kind stand in front
kind_front : (k : ℕ) (ws : List ℕ) → of_kind k ws ≡ take (length (of_kind k ws)) ws
unfolding of_kind
kind_front k [] = refl
kind_front k (w ∷ ws) = by (eqb (kind_of w) k) (kind_front k ws)
  where
    by : (b : Bool) → of_kind k ws ≡ take (length (of_kind k ws)) ws → front k w ws b ≡ take (length (front k w ws b)) (w ∷ ws)
    by true e = ap (λ (l : List ℕ). w ∷ l) e
    by false e = refl

-- the words of a kind are no more than all words
kind_few : (k : ℕ) (ws : List ℕ) → length (of_kind k ws) ≤ length ws
unfolding of_kind
kind_few k [] = omega arith
kind_few k (w ∷ ws) = by (eqb (kind_of w) k) (kind_few k ws)
  where
    by : (b : Bool) → length (of_kind k ws) ≤ length ws → length (front k w ws b) ≤ suc (length ws)
    by true e = omega arith
    by false e = omega arith

-- a word of kind 0 is its content
content_same : (ws : List ℕ) → map content_of (of_kind 0 ws) ≡ of_kind 0 ws
unfolding of_kind
content_same [] = refl
content_same (w ∷ ws) = by (eqb (kind_of w) 0) refl (content_same ws)
  where
    by : (b : Bool) → eqb (kind_of w) 0 ≡ b → map content_of (of_kind 0 ws) ≡ of_kind 0 ws → map content_of (front 0 w ws b) ≡ front 0 w ws b
    by true e same =
        let h = eqb-true (kind_of w) 0 e in
        let s : content_of w ≡ w = omega arith in
        ap₂ ◌∷◌ s same
    by false e same = refl

-- one more, and none
kind_more : (k w : ℕ) (ws : List ℕ) → kind_of w ≡ k → of_kind k (w ∷ ws) ≡ w ∷ of_kind k ws
unfolding of_kind
kind_more k w ws e = ap (front k w ws) (eq-eqb (kind_of w) k e)

kind_over : (k w : ℕ) (ws : List ℕ) → (kind_of w ≡ k → ⊥) → of_kind k (w ∷ ws) ≡ []
unfolding of_kind
kind_over k w ws h = ap (front k w ws) (ne_eqb (kind_of w) k h)

kind_none : (k : ℕ) → of_kind k [] ≡ []
unfolding of_kind
kind_none k = refl

-- how many they are
kind_count : (k : ℕ) (ws : List ℕ) → length (of_kind k ws) ≡ prefix_len (λ w. eqb (kind_of w) k) ws
unfolding of_kind
kind_count k [] = refl
kind_count k (w ∷ ws) = by (eqb (kind_of w) k) (kind_count k ws)
  where
    by : (b : Bool) → length (of_kind k ws) ≡ prefix_len (λ w. eqb (kind_of w) k) ws
        → length (front k w ws b) ≡ cond b (1 + prefix_len (λ w. eqb (kind_of w) k) ws) 0
    by true e = omega arith
    by false e = refl

-- ---- where they end
-- from place i on: the run is over, goes on, or the words are over; it ends within the words
module _ (k : ℕ) (ws : List ℕ) (i : ℕ) where
  pub run_stop : i < length ws → (kind_of (get_or ws i 0) ≡ k → ⊥) → i ≡ run_end k ws i
  run_stop h o = let e = ap length (ap (of_kind k) (drop-cons ws i 0 h) ∙ kind_over k (get_or ws i 0) (drop (suc i) ws) o) in omega arith

  pub run-next : i < length ws → kind_of (get_or ws i 0) ≡ k → run_end k ws (i + 1) ≡ run_end k ws i
  run-next h e =
      let n = ap length (ap (of_kind k) (drop-cons ws i 0 h) ∙ kind_more k (get_or ws i 0) (drop (suc i) ws) e) in
      let m = ap (λ (j : ℕ). length (of_kind k (drop j ws))) (add-one i) in
      omega arith

  pub run_over : length ws ≤ i → i ≡ run_end k ws i
  run_over h = let e = ap length (ap (of_kind k) (drop_of_length-le ws {i = i} h) ∙ kind_none k) in omega arith

  pub run_is : {n : ℕ} → n ≡ length (take (prefix_len (λ w. eqb (kind_of w) k) (drop i ws)) (drop i ws)) → i + n ≡ run_end k ws i
  run_is {n} h = omega (arith, h, kind_count k (drop i ws), length-prefix_len (λ w. eqb (kind_of w) k) (drop i ws))

  pub run-within : i ≤ length ws → run_end k ws i ≤ length ws
  run-within h = omega (arith, kind_few k (drop i ws), length-drop i ws)

-- run after run
pub ends_are : (ws : List ℕ) (s m y c1 c2 : ℕ) → s ≡ run_end 0 ws 0 → m ≡ run_end 1 ws s → y ≡ run_end 2 ws m → c1 ≡ run_end 3 ws y → c2 ≡ run_end 4 ws c1
    → ◌≡◌ {A = Ends} (record { settings = s; matrix = m; y = y; c1 = c1; c2 = c2 }) (ends_of ws)
unfolding ends_of
ends_are ws s m y c1 c2 hs hm hy h1 h2 = rw (h2, h1, hy, hm, hs)

-- ---- parts
-- what is lent from place a to place e
abbrev pub part : ℕ → ℕ → List ℕ → List ℕ
part a e ws = take (e - a) (drop a ws)

pub length_part : (a e : ℕ) (ws : List ℕ) → a ≤ e → e ≤ length ws → length (part a e ws) ≡ e - a
length_part a e ws h l = length-take-le (e - a) (drop a ws) (rw (length-drop a ws) (omega arith))

-- what is lent from place i up to the end
pub lent_rest : (i : ℕ) (ws : List ℕ) → take (length ws - i) (drop i ws) ≡ drop i ws
lent_rest i ws = take_all (length ws - i) (drop i ws) (omega (arith, length-drop i ws))

-- the contents of a part
pub part-long : (vs ws : List ℕ) (a e : ℕ) → vs ≡ map content_of (part a e ws) → a ≤ e → e ≤ length ws → length vs ≡ e - a
part-long vs ws a e h l w = ap length h ∙ contents_count (part a e ws) ∙ length_part a e ws l w

-- a part and the one behind it
pub part_join : (a b e : ℕ) (ws : List ℕ) → a ≤ b → b ≤ e → part a e ws ≡ part a b ws ++ part b e ws
part_join a b e ws h l =
    let s : e - a ≡ (b - a) + (e - b) = omega arith in
    let t : a + (b - a) ≡ b = omega arith in
    ap (λ (n : ℕ). take n (drop a ws)) s ∙ take-add (b - a) (e - b) (drop a ws)
    ∙ ap (λ (l : List ℕ). part a b ws ++ take (e - b) l) (drop-drop (b - a) a ws ∙ ap (λ (n : ℕ). drop n ws) t)

-- the words of a kind that stand from a place on, and those behind them
kind_part : (k : ℕ) (ws : List ℕ) (from : ℕ) → of_kind k (drop from ws) ≡ part from (run_end k ws from) ws
kind_part k ws from =
    kind_front k (drop from ws) ∙ ap (λ (n : ℕ). take n (drop from ws)) (sym (add-sub_cancel_left from (length (of_kind k (drop from ws)))))

behind_is : (k : ℕ) (ws : List ℕ) (from : ℕ) → behind k (drop from ws) ≡ drop (run_end k ws from) ws
behind_is k ws from = drop-drop (length (of_kind k (drop from ws))) from ws

-- the parts of a job, by where they end
pub record Parted (ws : List ℕ) (e : Ends) : Type 0 where
  pub to-matrix : e.settings ≤ e.matrix
  pub to_y : e.matrix ≤ e.y
  pub to_c1 : e.y ≤ e.c1
  pub to_c2 : e.c1 ≤ e.c2
  pub within : e.c2 ≤ length ws
  pub settings_are : (parts_of ws).settings ≡ take e.settings ws
  pub matrix_is : (parts_of ws).matrix ≡ map content_of (part e.settings e.matrix ws)
  pub y_is : (parts_of ws).y ≡ map content_of (part e.matrix e.y ws)
  pub c1_is : (parts_of ws).c1 ≡ map content_of (part e.y e.c1 ws)
  pub c2_is : (parts_of ws).c2 ≡ map content_of (part e.c1 e.c2 ws)
  pub rest_is : (parts_of ws).rest ≡ drop e.c2 ws

pub parted : (ws : List ℕ) (e : Ends) → e ≡ ends_of ws → Parted ws e
unfolding parts_of ends_of
parted ws e h = rw h is
  where
    is : Parted ws (ends_of ws)
    is =
        let s = run_end 0 ws 0 in
        let m = run_end 1 ws s in
        let y = run_end 2 ws m in
        let c1 = run_end 3 ws y in
        let b0 : behind 0 ws ≡ drop s ws = behind_is 0 ws 0 in
        let b1 = ap (behind 1) b0 ∙ behind_is 1 ws s in
        let b2 = ap (behind 2) b1 ∙ behind_is 2 ws m in
        let b3 = ap (behind 3) b2 ∙ behind_is 3 ws y in
        let s-le = run-within 0 ws 0 (omega arith) in
        let m-le = run-within 1 ws s s-le in
        let y-le = run-within 2 ws m m-le in
        let c1-le = run-within 3 ws y y-le in
        record {
          to-matrix = omega arith;
          to_y = omega arith;
          to_c1 = omega arith;
          to_c2 = omega arith;
          within = run-within 4 ws c1 c1-le;
          settings_are = content_same ws ∙ kind_front 0 ws ∙ ap (λ (n : ℕ). take n ws) (sym (zero-add (length (of_kind 0 ws))));
          matrix_is = ap (λ (l : List ℕ). map content_of (of_kind 1 l)) b0 ∙ ap (map content_of) (kind_part 1 ws s);
          y_is = ap (λ (l : List ℕ). map content_of (of_kind 2 l)) b1 ∙ ap (map content_of) (kind_part 2 ws m);
          c1_is = ap (λ (l : List ℕ). map content_of (of_kind 3 l)) b2 ∙ ap (map content_of) (kind_part 3 ws y);
          c2_is = ap (λ (l : List ℕ). map content_of (of_kind 4 l)) b3 ∙ ap (map content_of) (kind_part 4 ws c1);
          rest_is = ap (behind 4) b3 ∙ behind_is 4 ws c1;
        }

-- the ends of a job's words, one behind the other
pub ends_rise : (ws : List ℕ) (e : Ends) → e ≡ ends_of ws → (e.settings ≤ e.matrix) × ((e.matrix ≤ e.y) × ((e.y ≤ e.c1) × ((e.c1 ≤ e.c2) × (e.c2 ≤ length ws))))
ends_rise ws e h = let q = parted ws e h in (q.to-matrix, (q.to_y, (q.to_c1, (q.to_c2, q.within))))

-- ---- tests
-- the one last word
end_not : (ws : List ℕ) → (length ws ≡ 1 → ⊥) → false ≡ is_end ws
end_not [] h = refl
end_not (w ∷ []) h = absurd (h refl)
end_not (w ∷ v ∷ ws) h = refl

pub end_other : (ws : List ℕ) (at : ℕ) → (length ws ≡ at + 1 → ⊥) → false ≡ is_end (drop at ws)
end_other ws at h = end_not (drop at ws) (λ e. h (omega (arith, length-drop at ws)))

pub end_one : (ws : List ℕ) (at : ℕ) → length ws ≡ at + 1 → eqb (get_or ws at 0) (15 * 2 ^ 28) ≡ is_end (drop at ws)
end_one ws at h = ap is_end (sym (drop-cons ws at 0 (omega arith) ∙ ap (λ (l : List ℕ). get_or ws at 0 ∷ l) (drop_of_length-le ws {i = suc at} (omega arith))))

-- whether one is above 65,535, joined
above_join : (most : ℕ) (xs ys : List ℕ) → any_above most (xs ++ ys) ≡ any_above most xs || any_above most ys
above_join most [] ys = refl
above_join most (x ∷ xs) ys = ap (λ (b : Bool). ltb most x || b) (above_join most xs ys) ∙ sym (or_assoc (ltb most x) (any_above most xs) (any_above most ys))

-- a test of a part and of the one after it
pub above_parts : (a b e : ℕ) (ws : List ℕ) → a ≤ b → b ≤ e
    → any_above 65535 (map content_of (part a e ws)) ≡ any_above 65535 (map content_of (part a b ws)) || any_above 65535 (map content_of (part b e ws))
above_parts a b e ws h l =
    ap (λ (l : List ℕ). any_above 65535 (map content_of l)) (part_join a b e ws h l) ∙ ap (any_above 65535) (map-append content_of (part a b ws) (part b e ws))
    ∙ above_join 65535 (map content_of (part a b ws)) (map content_of (part b e ws))

-- the tests of in_order, from the settings and the rest, how many words there are, and whether one is too large
abbrev order_by : List ℕ → List ℕ → ℕ → ℕ → Bool → Bool
order_by settings rest matrix samples large =
    known settings && (is_end rest && ((not (eqb (word_at settings 9) 0) || eqb (word_at settings 10) 0)
    && (leb matrix 64 && ((not (eqb (word_at settings 18) 0) || eqb matrix 0) && (leb samples 4096 && not large)))))

order_same : {s s' r r' : List ℕ} {m m' k k' : ℕ} {x x' : Bool} → s ≡ s' → r ≡ r' → m ≡ m' → k ≡ k' → x ≡ x' → order_by s r m k x ≡ order_by s' r' m' k' x'
order_same hs hr hm hk hx = rw (hs, hr, hm, hk, hx)

-- joined from the left
grouped : (a b c d x : Bool) → a && (b && (c && (d && x))) ≡ a && b && c && d && x
grouped true true true d x = refl
grouped true true false d x = refl
grouped true false c d x = refl
grouped false b c d x = refl

-- the tests of counts, in the code's order
abbrev counted_in : List ℕ → Ends → Bool
counted_in settings e = counted (word_at settings 9) (word_at settings 10) (word_at settings 18) (e.matrix - e.settings) (e.c2 - e.matrix)

module _ (ws : List ℕ) (e : Ends) (ends : e ≡ ends_of ws) where
  -- a matrix or sample word is too large
  abbrev large : Bool
  large = any_above 65535 (map content_of (part e.settings e.c2 ws))

  large_is : let p = parts_of ws in any_above 65535 p.matrix || (any_above 65535 p.y || (any_above 65535 p.c1 || any_above 65535 p.c2)) ≡ large
  large_is =
      let q = parted ws e ends in
      let s = e.settings in
      let m = e.matrix in
      let c2 = e.c2 in
      let y-c2 : e.y ≤ c2 = omega (arith, q.to_c1, q.to_c2) in
      let m-c2 : m ≤ c2 = omega (arith, q.to_y) in
      rw (q.matrix_is, q.y_is, q.c1_is, q.c2_is, above_parts s m c2 ws q.to-matrix m-c2, above_parts m e.y c2 ws q.to_y y-c2, above_parts e.y e.c1 c2 ws q.to_c1 q.to_c2)

  -- words in order, by the code's tests
  order_is : in_order ws ≡ known (take e.settings ws) && (is_end (drop e.c2 ws) && (counted_in (take e.settings ws) e && not large))
  unfolding in_order
  order_is =
      let q = parted ws e ends in
      let p = parts_of ws in
      let s = take e.settings ws in
      let m = e.matrix - e.settings in
      let k = e.c2 - e.matrix in
      let m-in : e.matrix ≤ length ws = omega (arith, q.to_y, q.to_c1, q.to_c2, q.within) in
      let y-in : e.y ≤ length ws = omega (arith, q.to_c1, q.to_c2, q.within) in
      let c1-in : e.c1 ≤ length ws = omega (arith, q.to_c2, q.within) in
      let len-m = part-long p.matrix ws e.settings e.matrix q.matrix_is q.to-matrix m-in in
      let len-y = part-long p.y ws e.matrix e.y q.y_is q.to_y y-in in
      let len-c1 = part-long p.c1 ws e.y e.c1 q.c1_is q.to_c1 c1-in in
      let len-c2 = part-long p.c2 ws e.c1 e.c2 q.c2_is q.to_c2 q.within in
      let len-k : length p.y + length p.c1 + length p.c2 ≡ k = omega (arith, len-y, len-c1, len-c2, q.to_y, q.to_c1, q.to_c2) in
      order_same q.settings_are q.rest_is len-m len-k large_is
      ∙ ap (λ (b : Bool). known s && (is_end (drop e.c2 ws) && b))
      (grouped (not (eqb (word_at s 9) 0) || eqb (word_at s 10) 0) (leb m 64) (not (eqb (word_at s 18) 0) || eqb m 0) (leb k 4096) (not large))

  -- known settings are 21 words
  pub settings_long : known (take e.settings ws) ≡ true → e.settings ≡ 21
  settings_long k =
      let q = parted ws e ends in
      sym (length-take-le e.settings ws (omega (arith, q.to-matrix, q.to_y, q.to_c1, q.to_c2, q.within))) ∙ known-long (take e.settings ws) k

  pub words_enough : known (take e.settings ws) ≡ true → 21 ≤ length ws
  words_enough k =
      let q = parted ws e ends in
      omega (arith, settings_long k, q.to-matrix, q.to_y, q.to_c1, q.to_c2, q.within)

  -- the settings stand in front of all words
  setting_at : known (take e.settings ws) ≡ true → (i : ℕ) → i < 21 → word_at (take e.settings ws) i ≡ get_or ws i 0
  setting_at k i h = get_or-take e.settings ws i 0 (rw (settings_long k) h)

  counted_is : known (take e.settings ws) ≡ true → counted_in (take e.settings ws) e ≡ counted (get_or ws 9 0) (get_or ws 10 0) (get_or ws 18 0) (e.matrix - e.settings) (e.c2 - e.matrix)
  counted_is k = rw (setting_at k 9 (omega arith), setting_at k 10 (omega arith), setting_at k 18 (omega arith))

  -- the first test that fails, and the last one
  pub order_unknown : known (take e.settings ws) ≡ false → false ≡ in_order ws
  order_unknown k = rw (order_is, k)

  pub order_endless : known (take e.settings ws) ≡ true → is_end (drop e.c2 ws) ≡ false → false ≡ in_order ws
  order_endless k h = rw (order_is, k, h)

  pub order_uncounted : known (take e.settings ws) ≡ true → is_end (drop e.c2 ws) ≡ true
      → counted (get_or ws 9 0) (get_or ws 10 0) (get_or ws 18 0) (e.matrix - e.settings) (e.c2 - e.matrix) ≡ false → false ≡ in_order ws
  order_uncounted k h c = rw (order_is, counted_is k, k, h, c)

  pub order_last : known (take e.settings ws) ≡ true → is_end (drop e.c2 ws) ≡ true
      → counted (get_or ws 9 0) (get_or ws 10 0) (get_or ws 18 0) (e.matrix - e.settings) (e.c2 - e.matrix) ≡ true → not large ≡ in_order ws
  order_last k h c = rw (order_is, counted_is k, k, h, c)

  -- what words in order allow
  pub record Ready : Type 0 where
    pub settings_known : known (take e.settings ws) ≡ true
    pub matrix_few : e.matrix - e.settings ≤ 64
    pub samples_few : e.c2 - e.matrix ≤ 4096
    pub samples_small : any_above 65535 (map content_of (part e.matrix e.c2 ws)) ≡ false

  pub ready : in_order ws ≡ true → Ready
  ready h =
      let q = parted ws e ends in
      let m = e.matrix - e.settings in
      let k = e.c2 - e.matrix in
      let s = take e.settings ws in
      let t1 = both_true (known s) _ (sym order_is ∙ h) in
      let t2 = both_true (is_end (drop e.c2 ws)) _ t1.1 in
      let t3 = both_true (counted_in s e) (not large) t2.1 in
      let t4 = both_true ((not (eqb (word_at s 9) 0) || eqb (word_at s 10) 0) && leb m 64 && (not (eqb (word_at s 18) 0) || eqb m 0)) (leb k 4096) t3.0 in
      let t5 = both_true ((not (eqb (word_at s 9) 0) || eqb (word_at s 10) 0) && leb m 64) (not (eqb (word_at s 18) 0) || eqb m 0) t4.0 in
      let t6 = both_true (not (eqb (word_at s 9) 0) || eqb (word_at s 10) 0) (leb m 64) t5.0 in
      let split = above_parts e.settings e.matrix e.c2 ws q.to-matrix (omega (arith, q.to_y, q.to_c1, q.to_c2)) in
      record {
        settings_known = t1.0;
        matrix_few = leb-true m 64 t6.1;
        samples_few = leb-true k 4096 t4.1;
        samples_small = ((or-none (any_above 65535 (map content_of (part e.settings e.matrix ws))) (any_above 65535 (map content_of (part e.matrix e.c2 ws)))).0 (sym split ∙ not-true large t3.1)).1;
      }

  pub parts_few : in_order ws ≡ true → (e.matrix - e.settings ≤ 64) × (e.c2 - e.matrix ≤ 4096)
  parts_few h = let d = ready h in (d.matrix_few, d.samples_few)

-- ---- further laws
-- no content is above 65,535
pub content_small : (ws : List ℕ) (i : ℕ) → any_above 65535 (map content_of ws) ≡ false → content_of (get_or ws i 0) ≤ 65535
content_small ws i h = rw (content_at ws i) (most-at 65535 (map content_of ws) ((all_most 65535 (map content_of ws)).0 h) i)
