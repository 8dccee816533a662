-- The length of a number's code word without the quotient: the leading one of n / f by those of n and f.
use Rattle.std.specs.Prelude.{◌≡◌, ℕ, zero, suc, ◌+◌, ◌*◌, ◌-◌, ◌/◌, ◌%◌, ◌^◌, ◌≤◌, ◌<◌, length, ℤ, nat_abs}
use Rattle.std.proofs.Common.{sym, ap, pow-suc, lt_of_not-le, le_of_suc-le-suc, mod-eq_of_lt, mul-le-mul_right, mul-lt-mul_of_pos_right, le-div_iff_mul-le, div-lt_iff_lt-mul, div-le_self, arith, pow_pos, pow_mono, pow-add}
use Rattle.std.proofs.Math.Nat.{add-div_right}
use Rattle.std.specs.Int.Count.{count_leading_zeros}
use Rattle.codewords.specs.CodeWord.{log2, code_s}
use Rattle.codewords.specs.Laws.Code.{Top, log2-top, top_unique, leading_log2, length-code_s, length-code_s-zero}
use Rattle.quantiser.specs.Quant.{forward_by}
use Rattle.quantiser.specs.Laws.Step.{forward_abs}

-- ---- the place of the leading one
pub log2_mono : (a b : ℕ) → 0 < a → a ≤ b → log2 a ≤ log2 b
log2_mono a b p h =
    let s = log2-top a p in
    let t = log2-top b (omega arith) in
    le_of_suc-le-suc (lt_of_not-le λ (g : suc (log2 b) ≤ log2 a). omega (arith, pow-suc 2 (log2 b), pow_mono g))

top-log2 : {w j : ℕ} → Top w j → j ≡ log2 w
top-log2 {w} {j} t = top_unique w j (log2 w) t (log2-top w (omega (arith, pow_pos j)))

-- ---- of a quotient n / f, where f has it at j and n has it d places above: d where f moved up d places is not above
-- n, else one less
moved-lt : (f j d : ℕ) → Top f j → f * 2 ^ d < 2 ^ (j + d) * 2
moved-lt f j d s = omega (arith, pow-add 2 j d, mul-lt-mul_of_pos_right s.high (pow_pos d))

top-same : (n f j d : ℕ) → Top f j → Top n (j + d) → f * 2 ^ d ≤ n → Top (n / f) d
top-same n f j d s t h =
    let p : 0 < f = omega (arith, pow_pos j) in
    record {
      low = (le-div_iff_mul-le p).1 (omega arith);
      high = (div-lt_iff_lt-mul p).1 (omega (arith, pow-add 2 j d, mul-le-mul_right (2 ^ d) s.low));
    }

top-less : (n f j d : ℕ) → Top f j → Top n (j + suc d) → n < f * 2 ^ suc d → Top (n / f) d
top-less n f j d s t h =
    let p : 0 < f = omega (arith, pow_pos j) in
    let e = pow-suc 2 d in
    record {
      low = (le-div_iff_mul-le p).1 (omega (arith, pow-add 2 j (suc d), ap (λ (x : ℕ). 2 ^ j * x) e, mul-lt-mul_of_pos_right s.high (pow_pos d)));
      high = (div-lt_iff_lt-mul p).1 (omega (arith, ap (λ (x : ℕ). f * x) e));
    }

above_pos : (n f d : ℕ) → f ≤ n → n < f * 2 ^ d → 0 < d
above_pos n f zero h l = absurd (omega arith)
above_pos n f (suc d) h l = omega arith

log2-less : (n f j d : ℕ) → Top f j → Top n (j + d) → 0 < d → n < f * 2 ^ d → d - 1 ≡ log2 (n / f)
log2-less n f j zero s t p l = absurd (omega arith)
log2-less n f j (suc d) s t p l = omega (arith, top-log2 (top-less n f j d s t l))

-- ---- as the code makes it: d by the counts of leading zeros, and f moved up by a shift
abbrev gap : ℕ → ℕ → ℕ
gap n f = count_leading_zeros 64 f - count_leading_zeros 64 n

abbrev moved : ℕ → ℕ → ℕ
moved n f = f * 2 ^ gap n f % 2 ^ 64

pub record Gap (n f : ℕ) : Type 0 where
  pub up : count_leading_zeros 64 n ≤ count_leading_zeros 64 f
  pub short : gap n f < 64
  pub same : moved n f ≤ n → gap n f ≡ log2 (n / f)
  pub some : n < moved n f → 0 < gap n f
  pub less : n < moved n f → gap n f - 1 ≡ log2 (n / f)

pub gap_law : (n f : ℕ) → 0 < f → f ≤ n → n < 2 ^ 64 → Gap n f
gap_law n f p h b =
    let zf = leading_log2 64 f p (omega arith) in
    let zn = leading_log2 64 n (omega arith) b in
    let m = log2_mono f n p h in
    let l : suc (log2 n) ≤ 64 = omega arith in
    let e : log2 n ≡ log2 f + gap n f = omega arith in
    let s = log2-top f p in
    let t : Top n (log2 f + gap n f) = rw e at (log2-top n (omega arith)) in
    let v : f * 2 ^ gap n f < 2 ^ log2 n * 2 = rw e (moved-lt f (log2 f) (gap n f) s) in
    let is : moved n f ≡ f * 2 ^ gap n f = mod-eq_of_lt (omega (arith, pow-suc 2 (log2 n), pow_mono l)) in
    record {
      up = omega arith;
      short = omega arith;
      same = λ (q : moved n f ≤ n). top-log2 (top-same n f (log2 f) (gap n f) s t (rw is at q));
      some = λ (q : n < moved n f). above_pos n f (gap n f) h (rw is at q);
      less = λ (q : n < moved n f). log2-less n f (log2 f) (gap n f) s t (above_pos n f (gap n f) h (rw is at q)) (rw is at q);
    }

-- ---- the length by e, the place of the leading one of the number's magnitude and one
pub record Length (f e : ℕ) (c : ℤ) : Type 0 where
  pub short : e < 64
  pub none : e ≡ 0 → 1 ≡ length (code_s (forward_by f c))
  pub some : 0 < e → 2 * e + 2 ≡ length (code_s (forward_by f c))

length_by : (f e : ℕ) (c : ℤ) → nat_abs (forward_by f c) < 2 ^ 63 → e ≡ log2 (nat_abs (forward_by f c) + 1) → Length f e c
length_by f e c b h =
    let k = nat_abs (forward_by f c) in
    let t : Top (k + 1) e = rw h (log2-top (k + 1) (omega arith)) in
    record {
      short = omega (arith, leading_log2 64 (k + 1) (omega arith) (omega arith));
      none = λ (z : e ≡ 0). sym (length-code_s-zero (forward_by f c) (omega (arith, rw z at t.high)));
      some = λ (p : 0 < e). omega (arith, length-code_s (forward_by f c) (omega (arith, pow_mono p, t.low)));
    }

-- the number's magnitude and one are (4 m + f) / f
pub length_law : (f m e : ℕ) (c : ℤ) → 0 < f → m ≡ nat_abs c → nat_abs c < 2 ^ 60 → e ≡ log2 ((4 * m + f) / f) → Length f e c
length_law f m e c p em b h =
    let l = div-le_self (4 * nat_abs c) f in
    let is = forward_abs f c b in
    length_by f e c (omega arith) (rw (is, ← add-div_right (4 * nat_abs c) p, ← em) h)
