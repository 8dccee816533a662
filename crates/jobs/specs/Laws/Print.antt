-- Laws of the text: digits, lines and bytes as the loops write them.
use Rattle.std.specs.Prelude.{◌≡◌, refl, Bool, true, false, cond, ◌||◌, List, [], ◌∷◌, ◌++◌, ℕ, zero, suc, ◌+◌, ◌*◌, ◌-◌, ◌/◌, ◌%◌, ◌^◌, ◌≤◌, ◌<◌, eqb, length, take, drop, get_or, set, Ok, Err}
use Rattle.std.proofs.Common.{sym, ap, ◌∙◌, append_assoc, append-nil, pow-suc, add-one, arith, length-append, length-drop, drop-cons, lt-ltb, le-ltb, eq-eqb, ne_eqb}
use Rattle.std.proofs.Math.Decide.{dec_lt}
use Rattle.std.proofs.Math.Seq.{drop-length}
use Rattle.laws.specs.Code.Chunks.{chunks}
use Rattle.laws.specs.Laws.Chunks.{length-chunks}
use Rattle.laws.specs.Code.Laid.{Lays}
use Rattle.laws.specs.Laws.Laid.{lays_start, lays_on, lays_first, run_laid0}
use Rattle.unit.specs.declared.Coded.{Coded}
use Rattle.refusals.specs.declared.Refusal.{Refusal}
use Rattle.refusals.specs.Number.{number}
use Rattle.unit.specs.Outcome.{Answer, tells, length_in}
use Rattle.jobs.specs.Job.{decimal_from, decimal, line_of, hex_digit, separator, bytes_from, unit_in}
use Rattle.jobs.specs.Code.Steps.{chunk}

-- ---- Lays
-- a run that lies there, by an equal run
pub lays_same : {A : Type 0} {b b' vs ws : List A} {at r : ℕ} → vs ≡ ws → Lays b at vs b' r → Lays b at ws b' r
lays_same {A} {b} {b'} {vs} {ws} {at} {r} e p = rw e at p

-- one element
pub lays_one : {A : Type 0} (b : List A) (at : ℕ) (v : A) → Lays b at (v ∷ []) (set b at v) (at + 1)
lays_one b at v = lays_first v (lays_start (set b at v) (at + 1))

-- what was laid from the front on
pub lays_read : (b vs b' : List ℕ) (r : ℕ) → Lays b 0 vs b' r → length vs ≤ length b → take r b' ≡ vs
lays_read b vs b' r p h = rw p.is (run_laid0 b r vs (omega (arith, p.next)) (omega (arith, p.next)))

-- ---- decimal digits
abbrev last_digit : ℕ → List ℕ
last_digit n = (48 + n % 10) ∷ []

-- the last digit, and what stands in front of it
decimal-low : (f n : ℕ) → n < 10 → decimal_from (suc f) n ≡ (48 + n) ∷ []
unfolding decimal_from
decimal-low f n h = ap (λ (b : Bool). elim b [ true ↦ (48 + n) ∷ [] | false ↦ decimal_from f (n / 10) ++ last_digit n ]) (lt-ltb n 10 h)

decimal-high : (f n : ℕ) → 10 ≤ n → decimal_from (suc f) n ≡ decimal_from f (n / 10) ++ last_digit n
unfolding decimal_from
decimal-high f n h = ap (λ (b : Bool). elim b [ true ↦ (48 + n) ∷ [] | false ↦ decimal_from f (n / 10) ++ last_digit n ]) (le-ltb n 10 h)

-- a larger bound changes nothing
decimal-same : (f g n : ℕ) → n < f → n < g → decimal_from f n ≡ decimal_from g n
decimal-same zero g n p q = absurd (omega arith)
decimal-same (suc f) zero n p q = absurd (omega arith)
decimal-same (suc f) (suc g) n p q = by (dec_lt n 10) (λ h. decimal-same f g (n / 10) (omega arith) (omega arith))
  where
    by : Dec (n < 10) → (10 ≤ n → decimal_from f (n / 10) ≡ decimal_from g (n / 10)) → decimal_from (suc f) n ≡ decimal_from (suc g) n
    by (yes h) same = decimal-low f n h ∙ sym (decimal-low g n h)
    by (no o) same =
        let h : 10 ≤ n = omega arith in
        decimal-high f n h ∙ ap (λ (l : List ℕ). l ++ last_digit n) (same h) ∙ sym (decimal-high g n h)

pub decimal-one : (n : ℕ) → n < 10 → decimal n ≡ (48 + n) ∷ []
decimal-one n h = decimal-low n n h

pub decimal-more : (n : ℕ) → 10 ≤ n → decimal n ≡ decimal (n / 10) ++ ((48 + n % 10) ∷ [])
decimal-more n h = decimal-high n n h ∙ ap (λ (l : List ℕ). l ++ last_digit n) (decimal-same n (suc (n / 10)) (n / 10) (omega arith) (omega arith))

pub decimal_room : (n : ℕ) → 10 ≤ n → length (decimal n) ≡ length (decimal (n / 10)) + 1
decimal_room n h = ap length (decimal-more n h) ∙ length-append (decimal (n / 10)) (last_digit n)

-- a number below 10^(k + 1) has at most k + 1 digits
decimal_short : (f n k : ℕ) → n < 10 ^ suc k → length (decimal_from f n) ≤ suc k
unfolding decimal_from
decimal_short zero n k h = omega arith
decimal_short (suc f) n zero h = rw (decimal-low f n h) (omega arith)
decimal_short (suc f) n (suc k) h =
    by (dec_lt n 10) (decimal_short f (n / 10) k (tenth n (10 ^ suc k) (rw (pow-suc 10 (suc k)) at h)))
  where
    tenth : (n p : ℕ) → n < p * 10 → n / 10 < p
    tenth n p h = omega arith

    by : Dec (n < 10) → length (decimal_from f (n / 10)) ≤ suc k → length (decimal_from (suc f) n) ≤ suc (suc k)
    by (yes l) s = rw (decimal-low f n l) (omega arith)
    by (no o) s = rw (decimal-high f n (omega arith), length-append (decimal_from f (n / 10)) (last_digit n)) (omega arith)

-- 32 bits have at most ten digits
pub decimal_ten : (n : ℕ) → n < 2 ^ 32 → length (decimal n) ≤ 10
decimal_ten n h = decimal_short (suc n) n 9 (omega arith)

-- a number and what stands behind it
pub value_short : (n at r : ℕ) {b b' : List ℕ} (v : ℕ) → n < 2 ^ 32 → Lays b at (decimal n ++ (v ∷ [])) b' r → r ≤ at + 11
value_short n at r v h p = omega (arith, p.next, length-append (decimal n) (v ∷ []), decimal_ten n h)

-- ---- lines
line-more : (n m : ℕ) (ns : List ℕ) → decimal n ++ (32 ∷ []) ++ line_of (m ∷ ns) ≡ line_of (n ∷ m ∷ ns)
unfolding line_of
line-more n m ns = append_assoc (decimal n) (32 ∷ []) (line_of (m ∷ ns))

pub line-one : (n : ℕ) → line_of (n ∷ []) ≡ decimal n ++ (10 ∷ [])
unfolding line_of
line-one n = refl

-- an accepted call's line, number after number
pub line-laid : {t t₁ t₂ t₃ t' : List ℕ} {at i j k r : ℕ} (c : Coded) → Lays t at (decimal 0 ++ (32 ∷ [])) t₁ i → Lays t₁ i (decimal c.written ++ (32 ∷ [])) t₂ j
    → Lays t₂ j (decimal c.cut_slices ++ (32 ∷ [])) t₃ k → Lays t₃ k (decimal c.slice_size_scaler ++ (10 ∷ [])) t' r → Lays t at (line_of (tells (Ok c))) t' r
line-laid c p q s u =
    let v = lays_same (sym (line-one c.slice_size_scaler)) u in
    let w = lays_same (line-more c.cut_slices c.slice_size_scaler []) (lays_on s v) in
    let x = lays_same (line-more c.written c.cut_slices (c.slice_size_scaler ∷ [])) (lays_on q w) in
    lays_same (line-more 0 c.written (c.cut_slices ∷ c.slice_size_scaler ∷ [])) (lays_on p x)

-- ---- bytes
-- three elements, one after the other
pub chunk-laid : {t t₁ t₂ t' : List ℕ} {at i j r d e g : ℕ} (b : ℕ) (last : Bool) → d ≡ hex_digit (b / 16) → e ≡ hex_digit (b % 16) → g ≡ cond last 10 32
    → Lays t at (d ∷ []) t₁ i → Lays t₁ i (e ∷ []) t₂ j → Lays t₂ j (g ∷ []) t' r → Lays t at (chunk b last) t' r
chunk-laid {d = d} {e = e} {g = g} b last hd he hg p q s = lays_same same (lays_on (lays_on p q) s)
  where
    same : d ∷ e ∷ g ∷ [] ≡ chunk b last
    same = rw (hd, he, hg)

-- the text of the byte at place k
abbrev pub chunk_at : List ℕ → ℕ → List ℕ
chunk_at bs k = chunk (get_or bs k 0) (eqb (k % 16) 15 || eqb (k + 1) (length bs))

pub length-chunk_at : (bs : List ℕ) (k : ℕ) → length (chunk_at bs k) ≡ 3
length-chunk_at bs k = refl

pub length_text : (bs : List ℕ) (n : ℕ) → length (chunks (chunk_at bs) n) ≡ n * 3
length_text bs n = length-chunks (chunk_at bs) 3 (length-chunk_at bs) n

-- what stands behind the byte at place i of a list of n bytes
separator-at : (i n : ℕ) (rest : List ℕ) → length rest ≡ n - (i + 1) → i < n → separator i rest ≡ cond (eqb (i % 16) 15 || eqb (i + 1) n) 10 32
separator-at i n [] e h = rw (eq-eqb (i + 1) n (omega arith)) (always (eqb (i % 16) 15))
  where
    always : (b : Bool) → ◌≡◌ {A = ℕ} 10 (cond (b || true) 10 32)
    always true = refl
    always false = refl
separator-at i n (r ∷ rest) e h = rw (ne_eqb (i + 1) n (omega arith)) (same (eqb (i % 16) 15))
  where
    same : (b : Bool) → ◌≡◌ {A = ℕ} (cond b 10 32) (cond (b || false) 10 32)
    same true = refl
    same false = refl

-- one byte more
bytes_next : (bs : List ℕ) (i : ℕ) → i < length bs → bytes_from i (drop i bs) ≡ chunk_at bs i ++ bytes_from (suc i) (drop (suc i) bs)
unfolding bytes_from
bytes_next bs i h =
    let b = get_or bs i 0 in
    let rest = drop (suc i) bs in
    let long : length rest ≡ length bs - (i + 1) = length-drop (suc i) bs ∙ ap (λ (k : ℕ). length bs - k) (sym (add-one i)) in
    ap (bytes_from i) (drop-cons bs i 0 h)
    ∙ ap (λ (s : ℕ). hex_digit (b / 16) ∷ hex_digit (b % 16) ∷ s ∷ bytes_from (suc i) rest) (separator-at i (length bs) rest long h)

-- the first i bytes' text, and that of those behind
text_from : (bs : List ℕ) (i : ℕ) → i ≤ length bs → chunks (chunk_at bs) i ++ bytes_from i (drop i bs) ≡ bytes_from 0 bs
unfolding chunks
text_from bs zero h = refl
text_from bs (suc i) h =
    append_assoc (chunks (chunk_at bs) i) (chunk_at bs i) (bytes_from (suc i) (drop (suc i) bs))
    ∙ ap (λ (l : List ℕ). chunks (chunk_at bs) i ++ l) (sym (bytes_next bs i h)) ∙ text_from bs i (omega arith)

-- the text of all bytes
pub text_is : (bs : List ℕ) → chunks (chunk_at bs) (length bs) ≡ bytes_from 0 bs
unfolding bytes_from
text_is bs =
    let n = length bs in
    sym (append-nil (chunks (chunk_at bs) n)) ∙ ap (λ (l : List ℕ). chunks (chunk_at bs) n ++ bytes_from n l) (sym (drop-length bs)) ∙ text_from bs n (omega arith)

pub length_bytes : (bs : List ℕ) → length (bytes_from 0 bs) ≡ length bs * 3
length_bytes bs = ap length (sym (text_is bs)) ∙ length_text bs (length bs)

-- ---- answers
-- the text of an answer
pub refused_laid : {r : Answer} {t t' : List ℕ} {e : ℕ} (n : Refusal) (out : List ℕ) → r ≡ Err n → Lays t 0 (decimal (number n) ++ (10 ∷ [])) t' e
    → Lays t 0 (line_of (tells r) ++ bytes_from 0 (unit_in r out)) t' e
unfolding line_of bytes_from
refused_laid n out q p = rw q (lays_same (sym (append-nil (decimal (number n) ++ (10 ∷ [])))) p)

pub accepted_laid : {r : Answer} {t t₁ t' : List ℕ} {i e : ℕ} (c : Coded) (out : List ℕ) → r ≡ Ok c → Lays t 0 (line_of (tells (Ok c))) t₁ i
    → Lays t₁ i (bytes_from 0 (take c.written out)) t' e → Lays t 0 (line_of (tells r) ++ bytes_from 0 (unit_in r out)) t' e
accepted_laid c out h p q = rw h (lays_on p q)

-- the room that an accepted call's unit needs
pub accepted_room : {r : Answer} (c : Coded) (m n : ℕ) → r ≡ Ok c → (length_in r ≤ m) × (44 + 3 * length_in r ≤ n) → (c.written ≤ m) × (44 + 3 * c.written ≤ n)
accepted_room c m n q h = rw q at h
