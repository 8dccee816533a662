-- Laws of a written high-quality slice: a component, the prefix, the slice's bytes, and slice after slice.
use Rattle.std.specs.Prelude.{◌≡◌, refl, true, false, ℕ, zero, suc, ◌+◌, ◌*◌, ◌-◌, ◌^◌, ◌≤◌, ◌<◌, ℤ, take, drop}
use Rattle.std.proofs.Math.Path.{sym, ap, ap₂}
use Rattle.std.proofs.Common.{◌∙◌, subst, arith, length-append, drop-drop}
use mathlib.Core.List.{List, ◌++◌}
use Rattle.std.proofs.Math.Decide.{ℕ_discrete}
use Rattle.std.proofs.Math.ListN.{length}
use Rattle.std.proofs.lemmas.List.{length-replicate, replicate-append-replicate}
use Rattle.laws.specs.Ceiling.{ceiling}
use Rattle.laws.specs.Code.Chunks.{chunks}
use Rattle.laws.specs.Laws.Chunks.{chunks-none, chunks-more}
use Rattle.laws.specs.Code.Laid.{Lays}
use Rattle.laws.specs.Laws.Laid.{lays_start, lays_on}
use Rattle.codewords.specs.Bit.{Bits, lit, one_bits, zero_bits}
use Rattle.codewords.specs.Laws.Bit.{length-lit, lit-zeros}
use Rattle.codewords.specs.Bytes.{to_bytes}
use Rattle.codewords.specs.Laws.Byte.{length-to_bytes}
use Rattle.codewords.specs.CodeWord.{codes}
use Rattle.codewords.specs.Code.Writer.{Sound, Room, Wrote, Flushes}
use Rattle.codewords.specs.Laws.Writer.{wrote_then, room_after, flush_lays}
use Rattle.codewords.specs.declared.writer.BitWriter.{BitWriter}
use Rattle.unit.specs.Three.{Three}
use Rattle.unit.specs.Trim.{trimmed, bits_of, trimmed_cost}
use Rattle.unit.specs.HighQuality.{scalers_of, component_bits, high_bits}
use Rattle.unit.proofs.Laws.HighQuality.{cost_held, length_component, length_high}
use Rattle.picture.specs.declared.slices.layout.Picture.{Picture}
use Rattle.picture.specs.declared.high.choice.Choice.{Choice}
use Rattle.picture.specs.declared.high.plan.Terms.{Terms}
use Rattle.picture.specs.Laws.Head.{room_less, room_first, room_rest}
use Rattle.picture.specs.Code.Packed.{packed, unpacked, words_at}
use Rattle.picture.specs.Laws.Unpacked.{Below, unpacked-run, trimmed_again, component_trimmed, run_below}
use Rattle.picture.specs.Code.Picture.{slices_in, numbers_in, SliceIn}
use Rattle.picture.specs.Laws.Picture.{run_y, run_c1, run_c2}
use Rattle.picture.specs.Code.Choice.{index_in, plan_in, high_runs, three_bits, packed_of, choice_in, slice_words, words_in, words_to, words_of, FewBits, PlanIn}
use Rattle.picture.specs.Code.Notes.{run_at, numbers_at, Notes, Held, HeldSlice}
use Rattle.picture.specs.Laws.HighIndex.{choice_few, plan_slice, index-most}
use Rattle.picture.specs.Laws.HighPlan.{words_are}
use Rattle.picture.specs.Laws.Noted.{stand_parts, words_stand, words_end}

-- ---- a component
-- the ones that fill n scalers of c bytes behind b bits
abbrev pub fill_of : ℕ → ℕ → ℕ → ℕ
fill_of c n b = 8 * (n * c) - b

-- numbers xs have no zeros at their end and b bits, and take n scalers of c bytes
pub record Counted (c : ℕ) (xs : List ℤ) (b n : ℕ) : Type 0 where
  pub some : 1 ≤ c
  pub trim : trimmed xs ≡ xs
  pub bits : b ≡ bits_of xs
  pub scalers : n ≡ ceiling (ceiling b 8) c

module _ {c : ℕ} {xs : List ℤ} {b n : ℕ} (h : Counted c xs b n) where
  bits_are : b ≡ trimmed_cost xs
  unfolding trimmed_cost
  bits_are = h.bits ∙ ap bits_of (sym h.trim)

  scalers_are : n ≡ scalers_of c xs
  scalers_are = h.scalers ∙ ap (λ (b : ℕ). ceiling (ceiling b 8) c) bits_are

  -- a component's bits as the code puts them together
  component_parts : component_bits c xs ≡ lit 8 n ++ (codes xs ++ one_bits (fill_of c n b))
  unfolding component_bits
  component_parts =
      sym (ap₂ (λ (n b : ℕ). lit 8 n ++ (codes xs ++ one_bits (8 * (n * c) - b))) scalers_are bits_are
      ∙ ap (λ (ys : List ℤ). lit 8 (scalers_of c xs) ++ (codes ys ++ one_bits (8 * (scalers_of c xs * c) - trimmed_cost xs))) (sym h.trim))

  module _ {o : List ℕ} {w : BitWriter} (room : Room o w (length (component_bits c xs))) where
    parts_room : Room o w (length (lit 8 n ++ (codes xs ++ one_bits (fill_of c n b))))
    parts_room = rw component_parts at room

    -- room for the byte, the numbers and the ones
    pub byte_room : Room o w 8
    byte_room = room_less 8 room (omega (arith, length_component c xs h.some))

    module _ {o₁ : List ℕ} {w₁ : BitWriter} (a : Wrote o w (lit 8 n) o₁ w₁) where
      behind_room : Room o₁ w₁ (length (codes xs ++ one_bits (fill_of c n b)))
      behind_room = room_rest (lit 8 n) (codes xs ++ one_bits (fill_of c n b)) parts_room a

      pub kept_room : Room o₁ w₁ (bits_of xs)
      kept_room = room_first (codes xs) (one_bits (fill_of c n b)) behind_room

      module _ {o₂ : List ℕ} {w₂ : BitWriter} (d : Wrote o₁ w₁ (codes xs) o₂ w₂) where
        pub ones_room : Room o₂ w₂ (fill_of c n b)
        ones_room =
            let m : ℕ = fill_of c n b in
            rw (length-replicate m true) at (room_rest (codes xs) (one_bits m) behind_room d)

        pub component_wrote : {o₃ : List ℕ} {w₃ : BitWriter} → Wrote o₂ w₂ (one_bits (fill_of c n b)) o₃ w₃ → Wrote o w (component_bits c xs) o₃ w₃
        component_wrote f = rw component_parts (wrote_then room.sound a (wrote_then a.sound d f))

-- ---- the prefix
-- one prefix byte more
prefix_more : (i : ℕ) → zero_bits (8 * (i + 1)) ≡ zero_bits (8 * i) ++ lit 8 0
prefix_more i =
    let e : 8 * (i + 1) ≡ 8 * i + 8 = omega arith in
    ap zero_bits e ∙ sym (replicate-append-replicate (8 * i) 8 false) ∙ ap (λ (s : Bits). zero_bits (8 * i) ++ s) (sym (lit-zeros 8))

pub prefix_turn : {o o' o'' : List ℕ} {w w' w'' : BitWriter} (i : ℕ) → Sound w → Wrote o w (zero_bits (8 * i)) o' w' → Wrote o' w' (lit 8 0) o'' w''
    → Wrote o w (zero_bits (8 * (i + 1))) o'' w''
prefix_turn i s a b = rw (prefix_more i) (wrote_then s a b)

-- ---- a slice
high_parts : (p c q : ℕ) (z : Three (List ℤ)) → high_bits p c q z ≡ zero_bits (8 * p) ++ (lit 8 q ++ three_bits c z)
unfolding high_bits
high_parts p c q z = refl

-- a new writer has no bit pending
new_sound : (w : BitWriter) → (w.pending ≡ 0) × (w.pending_bits ≡ 0) → Sound w
new_sound w new = record { part = omega arith; small = rw (new.0, new.1) (omega arith) }

-- prefix p, scaler c, index q and numbers z, from place at on by a new writer
module _ (p c q : ℕ) (z : Three (List ℤ)) {o : List ℕ} (at : ℕ) {w : BitWriter} (new : (w.at ≡ at) × ((w.pending ≡ 0) × (w.pending_bits ≡ 0))) (some : 1 ≤ c)
    (fits : at + length (to_bytes (high_bits p c q z)) ≤ length o) where
  slice_room : Room o w (length (zero_bits (8 * p) ++ (lit 8 q ++ three_bits c z)))
  slice_room =
      let bits : Bits = high_bits p c q z in
      let all : Room o w (length bits) = record { sound = new_sound w new.1; room = omega (arith, length-to_bytes bits, length_high p c q z some) } in
      rw (high_parts p c q z) at all

  pub prefix_room : Room o w (8 * p)
  prefix_room = rw (length-replicate (8 * p) false) at (room_first (zero_bits (8 * p)) (lit 8 q ++ three_bits c z) slice_room)

  module _ {o₁ : List ℕ} {w₁ : BitWriter} (a : Wrote o w (zero_bits (8 * p)) o₁ w₁) where
    index-behind : Room o₁ w₁ (length (lit 8 q ++ three_bits c z))
    index-behind = room_rest (zero_bits (8 * p)) (lit 8 q ++ three_bits c z) slice_room a

    pub index_room : Room o₁ w₁ 8
    index_room = rw (length-lit 8 q) at (room_first (lit 8 q) (three_bits c z) index-behind)

    module _ {o₂ : List ℕ} {w₂ : BitWriter} (b : Wrote o₁ w₁ (lit 8 q) o₂ w₂) where
      pub components_room : Room o₂ w₂ (length (three_bits c z))
      components_room = room_rest (lit 8 q) (three_bits c z) index-behind b

      module _ {o₃ : List ℕ} {w₃ : BitWriter} (d : Wrote o₂ w₂ (three_bits c z) o₃ w₃) where
        pub flush_room : Room o₃ w₃ 0
        flush_room = room_after 0 components_room d (omega arith)

        pub slice_laid : {o₄ : List ℕ} {w₄ : BitWriter} → Flushes o₃ w₃ o₄ w₄ → Lays o at (to_bytes (high_bits p c q z)) o₄ w₄.at
        slice_laid f =
            let s = new_sound w new.1 in
            rw (high_parts p c q z) (rw new.0 at (flush_lays s (wrote_then s a (wrote_then a.sound b d)) f new.1.1))

-- ---- a slice as planned
-- words that stand one behind the other
parts_stand : (w : List ℤ) (i : ℕ) (xs ys : List ℤ) → words_at w i (length (xs ++ ys)) ≡ xs ++ ys
    → (words_at w i (length xs) ≡ xs) × (words_at w (i + length xs) (length ys) ≡ ys)
parts_stand w i xs ys e =
    let s = stand_parts (drop i w) xs ys e in
    (s.0, ap (take (length ys)) (sym (drop-drop (length xs) i w)) ∙ s.1)

-- a run whose words stand in w
module _ (w : List ℤ) (i : ℕ) (xs : List ℤ) (b : Below xs) (e : words_at w i (length (packed 0 xs)) ≡ packed 0 xs) where
  run_stands : run_at w i (packed_of xs) ≡ trimmed xs
  run_stands = ap unpacked e ∙ unpacked-run xs b

  held_run : i + length (packed 0 xs) ≤ length w → trimmed_cost xs ≤ 2 ^ 33 → Held w i (packed_of xs)
  unfolding trimmed_cost
  held_run h few = record {
    reach = h;
    trim = ap trimmed run_stands ∙ trimmed_again xs ∙ sym run_stands;
    bits = ap bits_of (sym run_stands);
    few = few;
  }

-- a choice whose words stand in w
module _ (w : List ℤ) (i q : ℕ) (z : Three (List ℤ)) (e : words_at w i (length (slice_words z)) ≡ slice_words z)
    (b : Below z.y × (Below z.c1 × Below z.c2)) where
  abbrev choice : Choice
  choice = record { index = q; y = packed_of z.y; c1 = packed_of z.c1; c2 = packed_of z.c2 }

  y_stands : words_at w i (length (packed 0 z.y)) ≡ packed 0 z.y
  y_stands = (parts_stand w i (packed 0 z.y) (packed 0 z.c1 ++ packed 0 z.c2) e).0

  colours_stand : (words_at w (i + length (packed 0 z.y)) (length (packed 0 z.c1)) ≡ packed 0 z.c1)
      × (words_at w (i + length (packed 0 z.y) + length (packed 0 z.c1)) (length (packed 0 z.c2)) ≡ packed 0 z.c2)
  colours_stand =
      parts_stand w (i + length (packed 0 z.y)) (packed 0 z.c1) (packed 0 z.c2)
      (parts_stand w i (packed 0 z.y) (packed 0 z.c1 ++ packed 0 z.c2) e).1

  slice_held : i + length (slice_words z) ≤ length w → FewBits choice → HeldSlice w i choice
  slice_held h f =
      let y = packed 0 z.y in
      let c1 = packed 0 z.c1 in
      let c2 = packed 0 z.c2 in
      let m = length-append y (c1 ++ c2) in
      let n = length-append c1 c2 in
      record {
        y = held_run w i z.y b.0 y_stands (omega (arith, h, m)) f.bits.0;
        c1 = held_run w (i + length y) z.c1 b.1.0 colours_stand.0 (omega (arith, h, m, n)) f.bits.1.0;
        c2 = held_run w (i + length y + length c1) z.c2 b.1.1 colours_stand.1 (omega (arith, h, m, n)) f.bits.1.1;
      }

  -- the bits of the words are those of the numbers
  stands_bits : (p c : ℕ) → high_bits p c q (numbers_at w i choice) ≡ high_bits p c q z
  unfolding high_bits
  stands_bits p c =
      let y = ap (component_bits c) (run_stands w i z.y b.0 y_stands) ∙ component_trimmed c z.y in
      let c1 = ap (component_bits c) (run_stands w (i + length (packed 0 z.y)) z.c1 b.1.0 colours_stand.0) ∙ component_trimmed c z.c1 in
      let c2 = ap (component_bits c) (run_stands w (i + length (packed 0 z.y) + length (packed 0 z.c1)) z.c2 b.1.1 colours_stand.1) ∙ component_trimmed c z.c2 in
      ap₂ (λ (a b : Bits). zero_bits (8 * p) ++ (lit 8 q ++ (a ++ b))) y (ap₂ ◌++◌ c1 c2)

-- slice k's numbers are their own words
numbers_below : {p : Picture} {t : Terms} {w : List ℤ} {k q : ℕ} → PlanIn p t w → k < slices_in p → q ≤ 255
    → let z = numbers_in w p k q in Below z.y × (Below z.c1 × Below z.c2)
unfolding numbers_in
numbers_below {p} {t} {w} {k} {q} h l m =
    let s : SliceIn p w k q = plan_slice h k q l m in (
      run_below p.layout p.y p.front p.end k q w (run_y s) h.plain _ (omega arith),
      (run_below p.layout p.c1 p.front p.end k q w (run_c1 s) h.plain _ (omega arith), run_below p.layout p.c2 p.front p.end k q w (run_c2 s) h.plain _ (omega arith)),
    )

-- the choice of slice k, whose words stand behind those of the slices before
module _ {w : List ℤ} {p : Picture} {t : Terms} (k i : ℕ) (c : Choice) (h : PlanIn p t w) (l : k < slices_in p) (n : Notes w p t (slices_in p) w)
    (ei : i ≡ length (words_to w p t k)) (ec : c ≡ choice_in w p t k) where
  abbrev index : ℕ
  index = index_in w p t k

  stand : words_at w i (length (words_in w p t k)) ≡ words_in w p t k
  stand = ap (λ (i : ℕ). words_at w i (length (words_in w p t k))) ei ∙ words_stand w w p t (slices_in p) k l n.words

  most : index ≤ 255
  most = index-most w p t k h.terms

  pub choice_held : HeldSlice w i c
  choice_held =
      subst (HeldSlice w i) (sym ec)
      (slice_held w i index (numbers_in w p k index) stand (numbers_below h l most)
      (omega (arith, ei, words_end w p t k h.arranged l, h.small.order, h.small.long)) (choice_few w p k index h.arranged most))

  plan-bits : high_bits t.prefix t.scaler c.index (numbers_at w i c) ≡ (plan_in w p t k).bits
  unfolding plan_in
  plan-bits =
      ap (λ (c : Choice). high_bits t.prefix t.scaler c.index (numbers_at w i c)) ec
      ∙ stands_bits w i index (numbers_in w p k index) stand (numbers_below h l most) t.prefix t.scaler

  -- the room of a slice as planned is the room of its words
  pub plan_room : (at n : ℕ) → at + length (to_bytes (plan_in w p t k).bits) ≤ n
      → at + length (to_bytes (high_bits t.prefix t.scaler c.index (numbers_at w i c))) ≤ n
  plan_room at n b = rw plan-bits b

  pub plan-laid : {o o' : List ℕ} {at r : ℕ} → Lays o at (to_bytes (high_bits t.prefix t.scaler c.index (numbers_at w i c))) o' r
      → Lays o at (to_bytes (plan_in w p t k).bits) o' r
  plan-laid b = rw plan-bits at b

  -- how many words it has
  pub plan_words : words_of c ≡ length (words_in w p t k)
  plan_words = ap words_of ec ∙ words_are (numbers_in w p k) index

-- ---- slice after slice
-- a part and those before it are no longer than all parts
chunks-within : (F : ℕ → List ℕ) (n k : ℕ) → k < n → length (chunks F k) + length (F k) ≤ length (chunks F n)
unfolding chunks
chunks-within F zero k h = absurd (omega arith)
chunks-within F (suc n) k h = by (ℕ_discrete k n) (λ l. chunks-within F n k l)
  where
    by : Dec (k ≡ n) → (k < n → length (chunks F k) + length (F k) ≤ length (chunks F n)) → length (chunks F k) + length (F k) ≤ length (chunks F n ++ F n)
    by (yes e) f = rw e (omega (arith, length-append (chunks F n) (F n)))
    by (no d) f = omega (arith, length-append (chunks F n) (F n), f (omega arith))

module _ (w : List ℤ) (p : Picture) (t : Terms) where
  -- the bytes of one slice
  abbrev bytes_in : ℕ → List ℕ
  bytes_in k = to_bytes (plan_in w p t k).bits

  pub slices-none : (o : List ℕ) (at r : ℕ) → r ≡ at → Lays o at (high_runs w p t 0) o r
  slices-none o at r e = rw (chunks-none bytes_in, e) (lays_start o at)

  module _ {o o' : List ℕ} {at r : ℕ} (k : ℕ) (a : Lays o at (high_runs w p t k) o' r) where
    -- room for the next one
    pub slices_room : (n : ℕ) → k < n → at + length (high_runs w p t n) ≤ length o → r + length (to_bytes (plan_in w p t k).bits) ≤ length o'
    slices_room n h l = omega (arith, a.next, a.size, chunks-within bytes_in n k h)

    pub slices-next : {o'' : List ℕ} {r' : ℕ} → Lays o' r (to_bytes (plan_in w p t k).bits) o'' r' → Lays o at (high_runs w p t (k + 1)) o'' r'
    slices-next b = rw (chunks-more bytes_in k) (lays_on a b)

    pub slices_all : (n : ℕ) → k ≡ n → Lays o at (high_runs w p t n) o' r
    slices_all n e = rw e at a

-- ---- further laws
-- the scalers hold the numbers
pub kept_held : {c : ℕ} {xs : List ℤ} {b n : ℕ} → Counted c xs b n → b ≤ 8 * (n * c)
kept_held {c} {xs} h = rw (bits_are h, scalers_are h) (cost_held c xs h.some)

-- room for the next prefix byte
pub prefix_next : {o o' : List ℕ} {w w' : BitWriter} (n i : ℕ) → i < n → Room o w (8 * n) → Wrote o w (zero_bits (8 * i)) o' w' → Room o' w' 8
prefix_next n i h r a = room_after 8 r a (omega (arith, length-replicate (8 * i) false))

-- all n prefix bytes
pub prefix_all : {o o' : List ℕ} {w w' : BitWriter} (i n : ℕ) → i ≡ n → Wrote o w (zero_bits (8 * i)) o' w' → Wrote o w (zero_bits (8 * n)) o' w'
prefix_all i n e a = rw e at a

-- the three components
module _ (c : ℕ) (z : Three (List ℤ)) {o : List ℕ} {s : BitWriter} (room : Room o s (length (three_bits c z))) where
  pub y_room : Room o s (length (component_bits c z.y))
  y_room = room_first (component_bits c z.y) (component_bits c z.c1 ++ component_bits c z.c2) room

  module _ {o₁ : List ℕ} {s₁ : BitWriter} (a : Wrote o s (component_bits c z.y) o₁ s₁) where
    colour_room : Room o₁ s₁ (length (component_bits c z.c1 ++ component_bits c z.c2))
    colour_room = room_rest (component_bits c z.y) (component_bits c z.c1 ++ component_bits c z.c2) room a

    pub c1_room : Room o₁ s₁ (length (component_bits c z.c1))
    c1_room = room_first (component_bits c z.c1) (component_bits c z.c2) colour_room

    module _ {o₂ : List ℕ} {s₂ : BitWriter} (b : Wrote o₁ s₁ (component_bits c z.c1) o₂ s₂) where
      pub c2_room : Room o₂ s₂ (length (component_bits c z.c2))
      c2_room = room_rest (component_bits c z.c1) (component_bits c z.c2) colour_room b

      pub three_wrote : {o₃ : List ℕ} {s₃ : BitWriter} → Wrote o₂ s₂ (component_bits c z.c2) o₃ s₃ → Wrote o s (three_bits c z) o₃ s₃
      three_wrote d = wrote_then room.sound a (wrote_then a.sound b d)
