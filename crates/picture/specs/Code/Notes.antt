-- What stands in the work slice behind the planning of high quality: words in its front, choices behind its end.
use Rattle.std.specs.Prelude.{◌≡◌, false, List, ℕ, ◌+◌, ◌*◌, ◌^◌, ◌≤◌, ◌<◌, ℤ, pos, nat_abs, length, take, set}
use Rattle.laws.specs.Rows.{at}
use Rattle.unit.specs.declared.Settings.{Settings}
use Rattle.unit.specs.Three.{Three}
use Rattle.unit.specs.Trim.{trimmed, bits_of}
use Rattle.picture.specs.declared.slices.layout.Picture.{Picture}
use Rattle.picture.specs.declared.high.packed.Packed.{Packed}
use Rattle.picture.specs.declared.high.choice.Choice.{Choice}
use Rattle.picture.specs.declared.high.plan.Terms.{Terms}
use Rattle.picture.specs.Code.Strip.{Small}
use Rattle.picture.specs.Code.Packed.{unpacked, words_at}
use Rattle.picture.specs.Code.Picture.{slices_in}
use Rattle.picture.specs.Code.Choice.{choice_in, words_to, is_target}

-- a run, and a choice, noted in w from place i on
abbrev pub note_run : List ℤ → ℕ → Packed → List ℤ
note_run w i r = set (set w i (pos r.words)) (i + 1) (pos r.bits)

abbrev pub note_in : List ℤ → ℕ → Choice → List ℤ
note_in w i c = note_run (note_run (note_run (set w i (pos c.index)) (i + 1) c.y) (i + 3) c.c1) (i + 5) c.c2

-- the numbers of a packed run whose words stand in w from place i on, and of a choice
abbrev pub run_at : List ℤ → ℕ → Packed → List ℤ
run_at w i r = unpacked (words_at w i r.words)

abbrev pub numbers_at : List ℤ → ℕ → Choice → Three (List ℤ)
numbers_at w i c = record { y = run_at w i c.y; c1 = run_at w (i + c.y.words) c.c1; c2 = run_at w (i + c.y.words + c.c1.words) c.c2 }

-- ---- conditions and outcomes
-- from place i on v has two numbers that are not below 0, each below 2^63
pub record RunAt (v : List ℤ) (i : ℕ) : Type 0 where
  pub reach : i + 1 < length v
  pub words : nat_abs (at v i) < 2 ^ 63
  pub words_are : at v i ≡ pos (nat_abs (at v i))
  pub bits : nat_abs (at v (i + 1)) < 2 ^ 63
  pub bits_are : at v (i + 1) ≡ pos (nat_abs (at v (i + 1)))

-- in v the choice c stands from place i on
pub record ChoiceAt (v : List ℤ) (i : ℕ) (c : Choice) : Type 0 where
  pub index : at v i ≡ pos c.index
  pub y_words : at v (i + 1) ≡ pos c.y.words
  pub y_bits : at v (i + 1 + 1) ≡ pos c.y.bits
  pub c1_words : at v (i + 3) ≡ pos c.c1.words
  pub c1_bits : at v (i + 3 + 1) ≡ pos c.c1.bits
  pub c2_words : at v (i + 5) ≡ pos c.c2.words
  pub c2_bits : at v (i + 5 + 1) ≡ pos c.c2.bits

-- v is as long as w and has its coefficients; at its start stand the words of w's first n slices, and behind the
-- picture's end their choices, each for whose seven numbers there is room
pub record Notes (w : List ℤ) (p : Picture) (t : Terms) (n : ℕ) (v : List ℤ) : Type 0 where
  pub size : length v ≡ length w
  pub same : (i : ℕ) → p.front ≤ i → i < p.end → at v i ≡ at w i
  pub small : Small p.front p.end v
  pub words : take (length (words_to w p t n)) v ≡ words_to w p t n
  pub choice : (k : ℕ) → k < n → p.end + 7 * k + 6 < length v → ChoiceAt v (p.end + 7 * k) (choice_in w p t k)

-- a packed run whose words stand in w from place i on; it has no zeros at its end
pub record Held (w : List ℤ) (i : ℕ) (r : Packed) : Type 0 where
  pub reach : i + r.words ≤ length w
  pub trim : trimmed (run_at w i r) ≡ run_at w i r
  pub bits : r.bits ≡ bits_of (run_at w i r)
  pub few : r.bits ≤ 2 ^ 33

-- a choice whose words stand from place i on
pub record HeldSlice (w : List ℤ) (i : ℕ) (c : Choice) : Type 0 where
  pub y : Held w i c.y
  pub c1 : Held w (i + c.y.words) c.c1
  pub c2 : Held w (i + c.y.words + c.c1.words) c.c2

-- without a byte target the words and choices in w are those of all terms of this rate
pub record Standing (s : Settings) (p : Picture) (w : List ℤ) : Type 0 where
  pub notes : is_target s.rate ≡ false → (t : Terms) → t.rate ≡ s.rate → Notes w p t (slices_in p) w
