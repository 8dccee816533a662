-- Laws of bits in bytes: lengths, parts one after the other, bytes to bits and back, the bytes of one number.
use Rattle.std.specs.Prelude.{◌≡◌, refl, List, [], ◌∷◌, ◌++◌, ℕ, zero, suc, ◌+◌, ◌-◌, ◌*◌, ◌/◌, ◌%◌, ◌^◌, ◌≤◌, ◌<◌, length}
use Rattle.std.proofs.Common.{sym, ap, ap₂, ◌∙◌, append_assoc, append-nil, arith, length-append}
use Rattle.std.proofs.Math.Nat.{mul-mod_left}
use Rattle.codewords.specs.Bit.{Bits, val, lit, value}
use Rattle.codewords.specs.Laws.Bit.{length-lit, lit-none, lit-more, lit_split, value-lit, value-of-lit}
use Rattle.codewords.specs.Bytes.{pack, to_bytes, from_bytes}

-- ---- lengths
pub pack-none : (n a : ℕ) → pack n a [] ≡ []
unfolding pack
pack-none n a = refl

-- bits that fill no byte
pub pack-part : (n a : ℕ) (w : Bits) → length w ≤ n → pack n a w ≡ []
unfolding pack
pack-part n a [] h = refl
pack-part zero a (b ∷ w) h = absurd (omega arith)
pack-part (suc n) a (b ∷ w) h = pack-part n (a * 2 + val b) w (omega arith)

length-pack : (n a : ℕ) (s : Bits) → n ≤ 7 → length (pack n a s) ≡ (length s + (7 - n)) / 8
unfolding pack
length-pack n a [] h = omega arith
length-pack zero a (b ∷ s) h = ap suc (length-pack 7 0 s (omega arith)) ∙ omega arith
length-pack (suc n) a (b ∷ s) h = length-pack n (a * 2 + val b) s (omega arith) ∙ ap (λ (k : ℕ). k / 8) (omega arith)

pub length-to_bytes : (s : Bits) → length (to_bytes s) ≡ length s / 8
length-to_bytes s = length-pack 7 0 s (omega arith) ∙ ap (λ (k : ℕ). k / 8) (omega arith)

-- ---- whole bytes
pub record Full (s : Bits) : Type 0 where
  pub full : length s % 8 ≡ 0

pub full_nil : Full []
full_nil = record { full = refl }

pub full_append : {s t : Bits} → Full s → Full t → Full (s ++ t)
full_append {s} {t} a b = record { full = rw (length-append s t) (omega arith) }

pub full_length : (s : Bits) (k : ℕ) → length s ≡ k * 8 → Full s
full_length s k e = record { full = rw e (mul-mod_left k 8) }

pub full_lit : (k v : ℕ) → k % 8 ≡ 0 → Full (lit k v)
full_lit k v h = record { full = rw (length-lit k v) h }

-- bits that fill the byte begun and k more, and bits behind them
pack-append : (k n a : ℕ) (s t : Bits) → length s ≡ suc n + 8 * k → pack n a (s ++ t) ≡ pack n a s ++ to_bytes t
unfolding pack
pack-append k n a [] t e = absurd (omega arith)
pack-append zero zero a (b ∷ []) t e = refl
pack-append zero zero a (b ∷ c ∷ s) t e = absurd (omega arith)
pack-append (suc k) zero a (b ∷ s) t e = rw (pack-append k 7 0 s t (omega arith))
pack-append k (suc n) a (b ∷ s) t e = pack-append k n (a * 2 + val b) s t (omega arith)

pub to_bytes-append : (s t : Bits) → Full s → to_bytes (s ++ t) ≡ to_bytes s ++ to_bytes t
unfolding pack
to_bytes-append [] t f = refl
to_bytes-append (b ∷ s) t f = pack-append ((length (b ∷ s) - 8) / 8) 7 0 (b ∷ s) t (omega (arith, f.full))

-- ---- bytes to bits and back
from_pack : (n a : ℕ) (s : Bits) → n ≤ 7 → (length s + (7 - n)) % 8 ≡ 0 → from_bytes (pack n a s) ≡ lit (7 - n) a ++ s
unfolding pack from_bytes
from_pack n a [] h e =
    let i : 7 - n ≡ 0 = omega arith in
    sym (append-nil (lit (7 - n) a) ∙ ap (λ (k : ℕ). lit k a) i ∙ lit-none a)
from_pack zero a (b ∷ s) h e =
    ap (λ (r : Bits). lit 8 (a * 2 + val b) ++ r) (from_pack 7 0 s (omega arith) (omega arith) ∙ ap (λ (w : Bits). w ++ s) (lit-none 0))
    ∙ ap (λ (w : Bits). w ++ s) (lit-more 7 a b) ∙ append_assoc (lit 7 a) (b ∷ []) s
from_pack (suc n) a (b ∷ s) h e =
    let k : 7 - n ≡ 7 - suc n + 1 = omega arith in
    from_pack n (a * 2 + val b) s (omega arith) (ap (λ (k : ℕ). k % 8) (omega arith) ∙ e)
    ∙ ap (λ (k : ℕ). lit k (a * 2 + val b) ++ s) k ∙ ap (λ (w : Bits). w ++ s) (lit-more (7 - suc n) a b) ∙ append_assoc (lit (7 - suc n) a) (b ∷ []) s

pub from_to : (s : Bits) → Full s → from_bytes (to_bytes s) ≡ s
from_to s f = from_pack 7 0 s (omega arith) (ap (λ (k : ℕ). k % 8) (omega arith) ∙ f.full) ∙ ap (λ (w : Bits). w ++ s) (lit-none 0)

-- bits that fill the byte begun
pub pack-fill : (n a : ℕ) (w s : Bits) → length w ≡ suc n → pack n a (w ++ s) ≡ value a w ∷ pack 7 0 s
unfolding pack value
pack-fill n a [] s e = absurd (omega arith)
pack-fill zero a (b ∷ []) s e = refl
pack-fill zero a (b ∷ c ∷ w) s e = absurd (omega arith)
pack-fill (suc n) a (b ∷ w) s e = pack-fill n (a * 2 + val b) w s (omega arith)

-- ---- the bytes of one number
byte_lit : (x : ℕ) → to_bytes (lit 8 x) ≡ x % 256 ∷ []
byte_lit x =
    ap to_bytes (sym (append-nil (lit 8 x))) ∙ pack-fill 7 0 (lit 8 x) [] (length-lit 8 x)
    ∙ ap₂ (λ (y : ℕ) (l : List ℕ). y ∷ l) (value-lit 8 x 0 ∙ omega arith) (pack-none 7 0)

pub bytes_more : (j x : ℕ) → j % 8 ≡ 0 → to_bytes (lit (j + 8) x) ≡ to_bytes (lit j (x / 256)) ++ (x % 256 ∷ [])
bytes_more j x h =
    ap to_bytes (lit_split j 8 x) ∙ to_bytes-append (lit j (x / 256)) (lit 8 x) (full_lit j (x / 256) h)
    ∙ ap (λ (b : List ℕ). to_bytes (lit j (x / 256)) ++ b) (byte_lit x)

pub bytes_four : (x : ℕ) → to_bytes (lit 32 x) ≡ x / 2 ^ 24 % 256 ∷ x / 2 ^ 16 % 256 ∷ x / 2 ^ 8 % 256 ∷ x % 256 ∷ []
bytes_four x =
    let c : x / 256 / 256 ≡ x / 2 ^ 16 = omega arith in
    let d : x / 256 / 256 / 256 ≡ x / 2 ^ 24 = omega arith in
    rw (bytes_more 24 x refl, bytes_more 16 (x / 256) refl, bytes_more 8 (x / 256 / 256) refl, byte_lit (x / 256 / 256 / 256), d, c)

abbrev pub AllBytes : List ℕ → Type 0
AllBytes [] = Unit {0}
AllBytes (x ∷ xs) = (x < 256) × AllBytes xs

pub to_from : (xs : List ℕ) → AllBytes xs → to_bytes (from_bytes xs) ≡ xs
unfolding from_bytes
to_from [] h = pack-none 7 0
to_from (x ∷ xs) h =
    pack-fill 7 0 (lit 8 x) (from_bytes xs) (length-lit 8 x)
    ∙ ap₂ (λ (y : ℕ) (l : List ℕ). y ∷ l) (value-of-lit 8 x h.0) (to_from xs h.1)
