-- Laws of written words: the bits of one, one more behind others, and room for it.
use Rattle.std.specs.Prelude.{◌≡◌, refl, true, false, List, [], ◌∷◌, ◌++◌, ℕ, zero, suc, ◌+◌, ◌-◌, ◌≤◌, ◌<◌, T, ℤ, pos, negsuc, ◌-ℤ◌, length, take, drop, get_or, replicate}
use Rattle.std.proofs.Common.{sym, ap, ap₂, ◌∙◌, subst, append-nil, arith, add-one, leb-true, leb-false, length-append, length-drop, length-take, take-suc, take-add, get_or-take, get_or-drop}
use Rattle.std.specs.Int.Signed.{le_z}
use Rattle.std.proofs.lemmas.List.{length-replicate}
use Rattle.laws.specs.Laws.Integer.{up, var, ◌⊟◌, by_parts}
use Rattle.laws.specs.Rows.{at}
use Rattle.codewords.specs.Bit.{one_bits}
use Rattle.codewords.specs.CodeWord.{code_s, codes}
use Rattle.codewords.specs.Laws.Code.{code-signed, code_m-zero, codes-one, codes-append, codes-none}
use Rattle.codewords.specs.Code.Writer.{Sound, Room, Wrote}
use Rattle.codewords.specs.Laws.Writer.{wrote_none, wrote_then, room_after}
use Rattle.codewords.specs.declared.writer.BitWriter.{BitWriter}
use Rattle.unit.specs.Trim.{bits_of}
use Rattle.picture.specs.Code.Packed.{mark, word_numbers, unpacked, words_at}
use Rattle.picture.specs.Laws.Unpacked.{unpacked-append, word_more, own_word}

-- ---- the bits of a word
zeros-codes : (n : ℕ) → codes (replicate n (pos 0)) ≡ one_bits n
unfolding codes
zeros-codes zero = refl
zeros-codes (suc n) = ap₂ ◌++◌ (code-signed (pos 0) ∙ code_m-zero _) (zeros-codes n)

pub zeros_word_lem : (z : ℤ) → mark ≤ up z → codes (word_numbers z) ≡ one_bits (up z - mark)
unfolding word_numbers
zeros_word_lem (pos n) h = ap codes (word_more mark n (n - mark) h refl) ∙ zeros-codes (n - mark)
zeros_word_lem (negsuc n) h = absurd (omega arith)

pub zeros_room : {o : List ℕ} {w : BitWriter} (z : ℤ) → mark ≤ up z → Room o w (bits_of (word_numbers z)) → Room o w (up z - mark)
zeros_room z h r = rw (ap length (zeros_word_lem z h) ∙ length-replicate (up z - mark) true) at r

pub number_word : (z : ℤ) → up z < mark → codes (word_numbers z) ≡ code_s z
number_word z h = ap codes (own_word z h) ∙ codes-one z

-- ---- a word as the code compares it with a mark m, and takes m from it
pub over_mark : (m : ℕ) (z : ℤ) → le_z (pos m) z ≡ true → m ≤ up z
over_mark m (pos n) e = leb-true m n e
over_mark m (negsuc n) e = absurd (subst T (sym e) tt)

pub under_mark : (m : ℕ) (z : ℤ) → 0 < m → le_z (pos m) z ≡ false → up z < m
under_mark m (pos n) p e = leb-false m n e
under_mark m (negsuc n) p e = p

pub less-mark : (m : ℕ) (z : ℤ) → 0 < m → m ≤ up z → z -ℤ pos m ≡ pos (up z - m)
less-mark m (pos n) p h = by_parts (var (pos n) ⊟ var (pos m)) (var (pos (n - m))) (omega arith)
less-mark m (negsuc n) p h = absurd (omega arith)

-- ---- word after word
words_more : (l : List ℤ) (i n : ℕ) → i + n < length l → words_at l i (n + 1) ≡ words_at l i n ++ (at l (i + n) ∷ [])
words_more l i n h =
    ap (λ (k : ℕ). take k (drop i l)) (add-one n) ∙ take-suc (drop i l) n (pos 0) (omega (arith, length-drop i l))
    ∙ ap (λ (z : ℤ). take n (drop i l) ++ (z ∷ [])) (get_or-drop i l n (pos 0))

unpacked-one : (z : ℤ) → unpacked (z ∷ []) ≡ word_numbers z
unfolding unpacked
unpacked-one z = append-nil (word_numbers z)

words_codes : (xs ys : List ℤ) → codes (unpacked (xs ++ ys)) ≡ codes (unpacked xs) ++ codes (unpacked ys)
words_codes xs ys = ap codes (unpacked-append xs ys) ∙ codes-append (unpacked xs) (unpacked ys)

one_more : (l : List ℤ) (i n : ℕ) → i + n < length l → codes (unpacked (words_at l i (n + 1))) ≡ codes (unpacked (words_at l i n)) ++ codes (word_numbers (at l (i + n)))
one_more l i n h =
    ap (λ (xs : List ℤ). codes (unpacked xs)) (words_more l i n h) ∙ words_codes (words_at l i n) (at l (i + n) ∷ [])
    ∙ ap (λ (xs : List ℤ). codes (unpacked (words_at l i n)) ++ codes xs) (unpacked-one (at l (i + n)))

-- the first k words and then m more
words_split : (l : List ℤ) (i k m : ℕ) → codes (unpacked (words_at l i (k + m))) ≡ codes (unpacked (words_at l i k)) ++ codes (unpacked (take m (drop k (drop i l))))
words_split l i k m =
    ap (λ (xs : List ℤ). codes (unpacked xs)) (take-add k m (drop i l)) ∙ words_codes (words_at l i k) (take m (drop k (drop i l)))

first-bits : (l : List ℤ) (i n k : ℕ) → k ≤ n → bits_of (unpacked (words_at l i k)) ≤ bits_of (unpacked (words_at l i n))
first-bits l i n k h =
    let e : n ≡ k + (n - k) = omega arith in
    let d = ap (λ (j : ℕ). codes (unpacked (words_at l i j))) e ∙ words_split l i k (n - k) in
    omega (arith, ap length d, length-append (codes (unpacked (words_at l i k))) (codes (unpacked (take (n - k) (drop k (drop i l))))))

pub words_none : {o : List ℕ} {w : BitWriter} {n : ℕ} (l : List ℤ) (i : ℕ) → Room o w n → Wrote o w (codes (unpacked (words_at l i 0))) o w
unfolding unpacked
words_none l i r = rw codes-none (wrote_none r)

-- n words as a range, and the k-th of them
pub words_many : (l : List ℤ) (i n : ℕ) → i + n ≤ length l → length (take (i + n - i) (drop i l)) ≡ n
words_many l i n h = omega (arith, length-take (i + n - i) (drop i l), length-drop i l)

pub word_at : (l : List ℤ) (i n k : ℕ) → k < n → get_or (take (i + n - i) (drop i l)) k (pos 0) ≡ at l (i + k)
word_at l i n k h = get_or-take (i + n - i) (drop i l) k (pos 0) (omega arith) ∙ get_or-drop i l k (pos 0)

-- room for the next word
pub word_room : {o o' : List ℕ} {w w' : BitWriter} (l : List ℤ) (i n k : ℕ) → k < n → i + n ≤ length l → Room o w (bits_of (unpacked (words_at l i n)))
    → Wrote o w (codes (unpacked (words_at l i k))) o' w' → Room o' w' (bits_of (word_numbers (at l (i + k))))
word_room l i n k h m r p =
    room_after (bits_of (word_numbers (at l (i + k)))) r p
    (omega (arith, first-bits l i n (k + 1) (omega arith), ap length (one_more l i k (omega arith)), length-append (codes (unpacked (words_at l i k))) (codes (word_numbers (at l (i + k))))))

pub word_turn : {o o' o'' : List ℕ} {w w' w'' : BitWriter} (l : List ℤ) (i k : ℕ) → i + k < length l → Sound w → Wrote o w (codes (unpacked (words_at l i k))) o' w'
    → Wrote o' w' (codes (word_numbers (at l (i + k)))) o'' w'' → Wrote o w (codes (unpacked (words_at l i (k + 1)))) o'' w''
word_turn l i k h s p q = rw (one_more l i k h) (wrote_then s p q)

-- ---- further laws
pub words_all : {o o' : List ℕ} {w w' : BitWriter} (l : List ℤ) (i k n : ℕ) → k ≡ n → Wrote o w (codes (unpacked (words_at l i k))) o' w'
    → Wrote o w (codes (unpacked (words_at l i n))) o' w'
words_all l i k n e p = rw e at p
