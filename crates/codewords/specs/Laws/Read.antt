-- Reading gives back what was written and stops where it ended.
use Rattle.std.specs.Prelude.{◌≡◌, refl, Bool, true, false, cond, List, [], ◌∷◌, ◌++◌, ℕ, zero, suc, pred, ◌+◌, ◌-◌, ◌*◌, ◌%◌, ◌^◌, ◌≤◌, ◌<◌, T, ℤ, pos, negsuc, nat_abs, length}
use Rattle.std.proofs.Common.{sym, ap, ◌∙◌, append_assoc, add-one, arith, length-append, drop_at}
use Rattle.std.proofs.Math.Option.{some}
use Rattle.codewords.specs.Bit.{Bits, val, lit, value, one_bits}
use Rattle.codewords.specs.Laws.Bit.{length-lit, value-of-lit}
use Rattle.codewords.specs.CodeWord.{log2, interleaved, code_u, sign, code_s, codes, zero_filled}
use Rattle.codewords.specs.Laws.Code.{value-code}
use Rattle.codewords.specs.Read.{got, stop, Parser, give, or_stop, checked, such, after, ◌⊳◌, nbits_from, read_nbits, read_bool, uint_from, read_uint, sign_from, sint_from, read_sint, byte_align, split_from, read_bits, uintb, signb, sintb, sintsb}
use Rattle.codewords.specs.Laws.Byte.{Full}

-- p reads x from w, whatever follows, and stops where w ends
pub record Reads {A : Type 0} (p : Parser A) (w : Bits) (x : A) : Type 0 where
  pub at : (rest : Bits) → p (w ++ rest) ≡ got x rest

pub reads_give : {A : Type 0} (x : A) → Reads (give x) [] x
unfolding give
reads_give x = record { at = λ rest. refl }

pub reads_then : {A B : Type 0} {p : Parser A} {w : Bits} {x : A} (f : A → Parser B) {v : Bits} {y : B}
    → Reads p w x → Reads (f x) v y → Reads (p ⊳ f) (w ++ v) y
unfolding ◌⊳◌
reads_then {p = p} {w = w} f {v = v} a b = record {
  at = λ rest.
      ap (λ s. after (p s) f) (append_assoc w v rest) ∙ ap (λ o. after o f) (a.at (v ++ rest)) ∙ b.at rest;
}

-- a last step that reads nothing more
pub reads_last : {A B : Type 0} {p : Parser A} {w : Bits} {x : A} (f : A → Parser B) {y : B} → Reads p w x → Reads (f x) [] y → Reads (p ⊳ f) w y
unfolding ◌⊳◌
reads_last f a b = record { at = λ rest. ap (λ o. after o f) (a.at rest) ∙ b.at rest }

cond-true : {A : Type 0} (b : Bool) (x y : A) → T b → cond b x y ≡ x
cond-true true x y t = refl
cond-true false x y t = absurd t

pub reads_such : {A : Type 0} {p : Parser A} {w : Bits} {x : A} (test : A → Bool) → T (test x) → Reads p w x → Reads (such p test) w x
unfolding such
reads_such {w = w} {x} test t a = record {
  at = λ rest. ap (checked test (w ++ rest)) (a.at rest) ∙ cond-true (test x) (got x rest) (stop (w ++ rest)) t;
}

-- ---- literals
nbits_value : (w : Bits) (a : ℕ) (rest : Bits) → nbits_from (length w) a (w ++ rest) ≡ some (value a w, rest)
unfolding value
nbits_value [] a rest = refl
nbits_value (b ∷ w) a rest = nbits_value w (a * 2 + val b) rest

pub reads_nbits : (k v : ℕ) → v < 2 ^ k → Reads (read_nbits k) (lit k v) v
unfolding read_nbits
reads_nbits k v h = record {
  at = λ rest.
      ap (or_stop (lit k v ++ rest))
      (ap (λ (j : ℕ). nbits_from j 0 (lit k v ++ rest)) (sym (length-lit k v)) ∙ nbits_value (lit k v) 0 rest
      ∙ ap (λ (x : ℕ). some (x, rest)) (value-of-lit k v h));
}

pub reads_bool : (b : Bool) → Reads read_bool (b ∷ []) b
unfolding read_bool
reads_bool b = record { at = λ rest. refl }

-- ---- unsigned numbers
uint_interleaved : (ds : Bits) (a : ℕ) (rest : Bits) → uint_from a (interleaved ds ++ true ∷ rest) ≡ some (pred (value a ds), rest)
unfolding interleaved value
uint_interleaved [] a rest = refl
uint_interleaved (d ∷ ds) a rest = uint_interleaved ds (a * 2 + val d) rest

less_one : (v : ℕ) → pred (v + 1) ≡ v
less_one v = ap pred (add-one v)

uint_code : (v : ℕ) (rest : Bits) → uint_from 1 (code_u v ++ rest) ≡ some (v, rest)
unfolding code_u
uint_code v rest =
    ap (uint_from 1) (append_assoc (interleaved (lit (log2 (v + 1)) (v + 1))) (true ∷ []) rest)
    ∙ uint_interleaved (lit (log2 (v + 1)) (v + 1)) 1 rest ∙ ap (λ (x : ℕ). some (x, rest)) (ap pred (value-code v) ∙ less_one v)

pub reads_uint : (v : ℕ) → Reads read_uint (code_u v) v
unfolding read_uint
reads_uint v = record { at = λ rest. ap (or_stop (code_u v ++ rest)) (uint_code v rest) }

-- ---- signed numbers
sign-code : (z : ℤ) (rest : Bits) → sign_from (nat_abs z) (sign z ++ rest) ≡ some (z, rest)
sign-code (pos zero) rest = refl
sign-code (pos (suc n)) rest = refl
sign-code (negsuc n) rest = refl

pub reads_sint : (z : ℤ) → Reads read_sint (code_s z) z
unfolding read_sint code_s
reads_sint z = record {
  at = λ rest.
      ap (or_stop (code_u (nat_abs z) ++ sign z ++ rest))
      (ap (λ (s : Bits). sint_from (uint_from 1 s)) (append_assoc (code_u (nat_abs z)) (sign z) rest)
      ∙ ap sint_from (uint_code (nat_abs z) (sign z ++ rest)) ∙ sign-code z rest);
}

-- ---- whole bytes
-- p reads x from w where whole bytes follow
pub record ReadsTo {A : Type 0} (p : Parser A) (w : Bits) (x : A) : Type 0 where
  pub at : (rest : Bits) → Full rest → p (w ++ rest) ≡ got x rest

-- alignment skips the bits that fill a byte
pub reads_align : (w : Bits) → length w < 8 → ReadsTo byte_align w tt
unfolding byte_align
reads_align w h = record {
  at = λ rest k. ap (λ (r : Bits). got tt r)
      (drop_at w rest (length (w ++ rest) % 8) (sym (rw (length-append w rest) (omega (arith, k.full)))));
}

-- that is the standard's alignment: with c of t bits read, t whole bytes, as many bits are skipped as c lacks to whole
-- bytes
pub align_count : (c t : ℕ) → t % 8 ≡ 0 → c ≤ t → (t - c) % 8 ≡ (8 - c % 8) % 8
align_count c t h l = omega arith

-- ---- blocks of bits
split_append : (w rest : Bits) → split_from (length w) (w ++ rest) ≡ some (w, rest)
split_append [] rest = refl
split_append (b ∷ w) rest = rw (split_append w rest)

pub reads_bits : (n : ℕ) (w : Bits) → length w ≡ n → Reads (read_bits n) w w
unfolding read_bits
reads_bits n w e = record {
  at = λ rest. ap (or_stop (w ++ rest)) (ap (λ (k : ℕ). split_from k (w ++ rest)) (sym e) ∙ split_append w rest);
}

-- ---- bounded blocks
uintb-interleaved : (ds : Bits) (a : ℕ) (rest : Bits) → uintb a (interleaved ds ++ true ∷ rest) ≡ (pred (value a ds), rest)
unfolding interleaved value uintb
uintb-interleaved [] a rest = refl
uintb-interleaved (d ∷ ds) a rest = uintb-interleaved ds (a * 2 + val d) rest

uintb-code : (v : ℕ) (rest : Bits) → uintb 1 (code_u v ++ rest) ≡ (v, rest)
unfolding code_u
uintb-code v rest =
    ap (uintb 1) (append_assoc (interleaved (lit (log2 (v + 1)) (v + 1))) (true ∷ []) rest)
    ∙ uintb-interleaved (lit (log2 (v + 1)) (v + 1)) 1 rest ∙ ap (λ (x : ℕ). (x, rest)) (ap pred (value-code v) ∙ less_one v)

pub sintb-code : (z : ℤ) (rest : Bits) → sintb (code_s z ++ rest) ≡ (z, rest)
unfolding sintb code_s
sintb-code z rest =
    ap (λ (s : Bits). signb (uintb 1 s).0 (uintb 1 s).1) (append_assoc (code_u (nat_abs z)) (sign z) rest)
    ∙ ap (λ (r : ℕ × Bits). signb r.0 r.1) (uintb-code (nat_abs z) (sign z ++ rest)) ∙ last z
  where
    last : (z : ℤ) → signb (nat_abs z) (sign z ++ rest) ≡ (z, rest)
    last (pos zero) = refl
    last (pos (suc n)) = refl
    last (negsuc n) = refl

-- a block that holds the codes of a run and then ones gives the run and then zeros, for any count asked
pub block-codes : (n : ℕ) (ys : List ℤ) (j : ℕ) → sintsb n (codes ys ++ one_bits j) ≡ zero_filled n ys
unfolding sintsb codes zero_filled sintb uintb
block-codes zero ys j = refl
block-codes (suc n) [] zero = ap (λ (r : List ℤ). pos zero ∷ r) (block-codes n [] zero)
block-codes (suc n) [] (suc j) = ap (λ (r : List ℤ). pos zero ∷ r) (block-codes n [] j)
block-codes (suc n) (y ∷ ys) j =
    ap (λ (s : Bits). (sintb s).0 ∷ sintsb n (sintb s).1) (append_assoc (code_s y) (codes ys) (one_bits j))
    ∙ ap (λ (r : ℤ × Bits). r.0 ∷ sintsb n r.1) (sintb-code y (codes ys ++ one_bits j))
    ∙ ap (λ (r : List ℤ). y ∷ r) (block-codes n ys j)
