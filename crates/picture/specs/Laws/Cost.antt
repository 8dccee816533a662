-- Laws of costs: runs added one after the other, and what the fields of a run's cost are.
use Rattle.std.specs.Prelude.{◌≡◌, refl, Bool, true, false, cond, List, [], ◌∷◌, ◌++◌, ℕ, zero, suc, ◌+◌, ◌*◌, ◌-◌, ◌^◌, ◌≤◌, ◌<◌, leb, eqb, ℤ, pos, negsuc, nat_abs, length, take}
use Rattle.std.proofs.Math.Path.{sym, ap}
use Rattle.std.proofs.Common.{ap₂, ◌∙◌, append-nil, suc-mul, mul_assoc, mul-le-mul_right, arith, leb-true, leb-false, le-leb, eq-eqb, ne_eqb, length-append, take-take, take_all}
use Rattle.std.proofs.lemmas.Bool.{lt-leb}
use Rattle.std.proofs.Math.Seq.{append_snoc}
use Rattle.codewords.specs.CodeWord.{code_s, codes}
use Rattle.codewords.specs.Laws.Code.{codes-more, length-code_s-zero, length-code_s}
use Rattle.unit.specs.Trim.{is_zero, trim_cons, trimmed, bits_of, trimmed_cost, fit_prefix}
use Rattle.unit.proofs.Laws.Trim.{Small, fit_all, fit_prefix_lem}
use Rattle.picture.specs.declared.slices.cost.Cost.{Cost}
use Rattle.picture.specs.Code.Cost.{fitted, kept, add_len, add1, added, add_all, no_cost, Countable, KeptTo}
use Rattle.picture.specs.Code.Counter.{cost_counts}
use Rattle.picture.specs.Laws.Counter.{added-count, added-bits as counted_bits, counted_after, counted_one}

-- ---- one number, as the code adds it
pub kept_yes : (c : Cost) (none : Bool) (n : ℕ) → none ≡ true
    → KeptTo c none n (record { room = c.room; bits = n; count = c.count + 1; kept_bits = c.kept_bits; keep = c.keep; fit_bits = c.fit_bits; fit = c.fit })
unfolding kept
kept_yes c none n e = record { is = rw e }

pub kept_no : (c : Cost) (none : Bool) (n : ℕ) → none ≡ false
    → KeptTo c none n (record { room = c.room; bits = n; count = c.count + 1; kept_bits = n; keep = c.count + 1; fit_bits = c.fit_bits; fit = c.fit })
unfolding kept
kept_no c none n e = record { is = rw e }

fitted_by : (c : Cost) (b : Bool) → leb c.bits c.room ≡ b
    → fitted c ≡ record {
      room = c.room;
      bits = c.bits;
      count = c.count;
      kept_bits = c.kept_bits;
      keep = c.keep;
      fit_bits = cond b c.bits c.fit_bits;
      fit = cond b c.count c.fit;
    }
unfolding fitted
fitted_by c b e = rw e

pub fitted_yes : (c : Cost) → c.bits ≤ c.room
    → record { room = c.room; bits = c.bits; count = c.count; kept_bits = c.kept_bits; keep = c.keep; fit_bits = c.bits; fit = c.count } ≡ fitted c
fitted_yes c h = sym (fitted_by c true (le-leb c.bits c.room h))

pub fitted_no : (c : Cost) → c.room < c.bits → c ≡ fitted c
fitted_no c h = sym (fitted_by c false (lt-leb c.bits c.room h))

-- only the code word of 0 has one bit
pub one_bit : (z : ℤ) (n : ℕ) → n ≡ length (code_s z) → eqb n 1 ≡ is_zero z
one_bit (pos zero) n e = eq-eqb n 1 (e ∙ length-code_s-zero (pos zero) refl)
one_bit (pos (suc m)) n e = ne_eqb n 1 (λ d. omega (arith, e, length-code_s (pos (suc m)) (omega arith)))
one_bit (negsuc m) n e = ne_eqb n 1 (λ d. omega (arith, e, length-code_s (negsuc m) (omega arith)))

pub added_len : (c : Cost) (z : ℤ) (n : ℕ) (r : Cost) → n ≡ length (code_s z) → r ≡ add_len c n → r ≡ add1 c z
added_len c z n r e d = d ∙ ap₂ (λ (b : Bool) (n : ℕ). fitted (kept c b (c.bits + n))) (one_bit z n e) e

-- ---- what has been added up
pub added_count : (c : Cost) (xs : List ℤ) → (add_all c xs).count ≡ c.count + length xs
added_count = added-count cost_counts

pub added-bits : (c : Cost) (xs : List ℤ) → (add_all c xs).bits ≡ c.bits + bits_of xs
added-bits = counted_bits cost_counts

-- there is room for n numbers behind xs
pub countable_after : (c : Cost) (xs : List ℤ) (m n : ℕ) → Countable c m → Small xs → length xs + n ≤ m → Countable (add_all c xs) n
countable_after = counted_after cost_counts

pub countable_one : (c d : Cost) (z : ℤ) → Countable c 2 → nat_abs z ≤ 2 ^ 63 → d ≡ add1 c z → Countable d 1
countable_one = counted_one cost_counts

-- k rows are added, and the next one has at most 2 w numbers
pub strip_room : (k n w len : ℕ) → k < n → len ≤ k * (w * 2) → len + 2 * w ≤ 2 * (n * w)
strip_room k n w len h l = omega (arith, mul-le-mul_right (w * 2) h, suc-mul k (w * 2), mul_assoc n w 2)

-- ---- a run's last number
bits_last : (xs : List ℤ) (z : ℤ) → bits_of (xs ++ (z ∷ [])) ≡ bits_of xs + length (code_s z)
bits_last xs z = ap length (codes-more xs z) ∙ length-append (codes xs) (code_s z)

length_last : (xs : List ℤ) (z : ℤ) → length (xs ++ (z ∷ [])) ≡ length xs + 1
length_last xs z = length-append xs (z ∷ [])

trim_cons_end : (x : ℤ) (ys : List ℤ) (z : ℤ) → trim_cons x (ys ++ (z ∷ [])) ≡ x ∷ (ys ++ (z ∷ []))
trim_cons_end x [] z = refl
trim_cons_end x (y ∷ ys) z = refl

trimmed_last : (xs : List ℤ) (z : ℤ) → trimmed (xs ++ (z ∷ [])) ≡ cond (is_zero z) (trimmed xs) (xs ++ (z ∷ []))
unfolding trimmed
trimmed_last [] (pos zero) = refl
trimmed_last [] (pos (suc n)) = refl
trimmed_last [] (negsuc n) = refl
trimmed_last (x ∷ xs) (pos zero) = ap (trim_cons x) (trimmed_last xs (pos zero))
trimmed_last (x ∷ xs) (pos (suc n)) = ap (trim_cons x) (trimmed_last xs (pos (suc n))) ∙ trim_cons_end x xs (pos (suc n))
trimmed_last (x ∷ xs) (negsuc n) = ap (trim_cons x) (trimmed_last xs (negsuc n)) ∙ trim_cons_end x xs (negsuc n)

abbrev fit_cons : Bool → ℤ → List ℤ → List ℤ
fit_cons b x ys = elim b [ true ↦ x ∷ ys | false ↦ [] ]

-- a run of which the last number does not fit
fit_short : (xs : List ℤ) (z : ℤ) (n : ℕ) → n < bits_of (xs ++ (z ∷ [])) → fit_prefix (xs ++ (z ∷ [])) n ≡ fit_prefix xs n
unfolding fit_prefix codes
fit_short [] z n h =
    let l = length-append (code_s z) [] in
    ap (λ (b : Bool). fit_cons b z []) (lt-leb (length (code_s z)) n (omega arith))
fit_short (x ∷ xs) z n h = by (leb (length (code_s x)) n) refl (fit_short xs z (n - length (code_s x)))
  where
    by : (b : Bool) → leb (length (code_s x)) n ≡ b
        → (n - length (code_s x) < bits_of (xs ++ (z ∷ [])) → fit_prefix (xs ++ (z ∷ [])) (n - length (code_s x)) ≡ fit_prefix xs (n - length (code_s x)))
        → fit_cons b x (fit_prefix (xs ++ (z ∷ [])) (n - length (code_s x))) ≡ fit_cons b x (fit_prefix xs (n - length (code_s x)))
    by true e f =
        ap (λ (r : List ℤ). x ∷ r) (f (omega (arith, leb-true (length (code_s x)) n e, length-append (code_s x) (codes (xs ++ (z ∷ []))))))
    by false e f = refl

fit_last : (xs : List ℤ) (z : ℤ) (n : ℕ) → fit_prefix (xs ++ (z ∷ [])) n ≡ cond (leb (bits_of (xs ++ (z ∷ []))) n) (xs ++ (z ∷ [])) (fit_prefix xs n)
fit_last xs z n = by (leb (bits_of (xs ++ (z ∷ []))) n) refl
  where
    by : (b : Bool) → leb (bits_of (xs ++ (z ∷ []))) n ≡ b → fit_prefix (xs ++ (z ∷ [])) n ≡ cond b (xs ++ (z ∷ [])) (fit_prefix xs n)
    by true e = fit_all (xs ++ (z ∷ [])) n (leb-true _ n e)
    by false e = fit_short xs z n (leb-false _ n e)

-- ---- the cost of a run
pub record CostOf (room : ℕ) (xs : List ℤ) (r : Cost) : Type 0 where
  pub room_is : r.room ≡ room
  pub bits : r.bits ≡ bits_of xs
  pub count : r.count ≡ length xs
  pub kept-bits : r.kept_bits ≡ trimmed_cost xs
  pub keep : r.keep ≡ length (trimmed xs)
  pub fit_bits : r.fit_bits ≡ bits_of (fit_prefix xs room)
  pub fit : r.fit ≡ length (fit_prefix xs room)

-- what a test chooses
choose : {A : Type 0} (b : Bool) (f : A → ℕ) {x y : A} {m n : ℕ} → m ≡ f x → n ≡ f y → cond b m n ≡ f (cond b x y)
choose true f e d = e
choose false f e d = d

one_more : (room : ℕ) (xs : List ℤ) (r : Cost) (z : ℤ) → CostOf room xs r → CostOf room (xs ++ (z ∷ [])) (add1 r z)
unfolding fitted kept trimmed_cost
one_more room xs r z h =
    let ys : List ℤ = xs ++ (z ∷ []) in
    let n : r.bits + length (code_s z) ≡ bits_of ys = ap (λ (k : ℕ). k + length (code_s z)) h.bits ∙ sym (bits_last xs z) in
    let k : r.count + 1 ≡ length ys = ap (λ (k : ℕ). k + 1) h.count ∙ sym (length_last xs z) in
    let t : leb (r.bits + length (code_s z)) r.room ≡ leb (bits_of ys) room = ap₂ leb n h.room_is in
    record {
      room_is = h.room_is;
      bits = n;
      count = k;
      kept-bits = choose (is_zero z) bits_of h.kept-bits n ∙ sym (ap bits_of (trimmed_last xs z));
      keep = choose (is_zero z) length h.keep k ∙ sym (ap length (trimmed_last xs z));
      fit_bits =
          ap (λ (b : Bool). cond b (r.bits + length (code_s z)) r.fit_bits) t
          ∙ choose (leb (bits_of ys) room) bits_of n h.fit_bits ∙ sym (ap bits_of (fit_last xs z room));
      fit =
          ap (λ (b : Bool). cond b (r.count + 1) r.fit) t
          ∙ choose (leb (bits_of ys) room) length k h.fit ∙ sym (ap length (fit_last xs z room));
    }

-- a run behind another
pub cost-more : (room : ℕ) (xs ys : List ℤ) (r : Cost) → CostOf room xs r → CostOf room (xs ++ ys) (add_all r ys)
unfolding added
cost-more room xs [] r h = rw (append-nil xs) h
cost-more room xs (z ∷ ys) r h = rw (← append_snoc xs z ys) (cost-more room (xs ++ (z ∷ [])) ys (add1 r z) (one_more room xs r z h))

pub no_cost_lem : (room : ℕ) → CostOf room [] (no_cost room)
unfolding trimmed_cost trimmed fit_prefix codes
no_cost_lem room = record { room_is = refl; bits = refl; count = refl; kept-bits = refl; keep = refl; fit_bits = refl; fit = refl }

pub cost-of : (room : ℕ) (xs : List ℤ) → CostOf room xs (add_all (no_cost room) xs)
cost-of room xs = cost-more room [] xs (no_cost room) (no_cost_lem room)

-- ---- runs from the start
pub trimmed_prefix : (xs : List ℤ) → trimmed xs ≡ take (length (trimmed xs)) xs
unfolding trimmed
trimmed_prefix [] = refl
trimmed_prefix (x ∷ xs) = by x (trimmed xs) (trimmed_prefix xs)
  where
    by : (x : ℤ) (ts : List ℤ) → ts ≡ take (length ts) xs → trim_cons x ts ≡ take (length (trim_cons x ts)) (x ∷ xs)
    by x (t ∷ ts) e = ap (λ (r : List ℤ). x ∷ r) e
    by (pos zero) [] e = refl
    by (pos (suc n)) [] e = refl
    by (negsuc n) [] e = refl

fit_take : (k : ℕ) (xs : List ℤ) (n : ℕ) → fit_prefix (take k xs) n ≡ take k (fit_prefix xs n)
unfolding fit_prefix
fit_take zero xs n = refl
fit_take (suc k) [] n = refl
fit_take (suc k) (x ∷ xs) n = by (leb (length (code_s x)) n) (fit_take k xs (n - length (code_s x)))
  where
    by : (b : Bool) → fit_prefix (take k xs) (n - length (code_s x)) ≡ take k (fit_prefix xs (n - length (code_s x)))
        → fit_cons b x (fit_prefix (take k xs) (n - length (code_s x))) ≡ take (suc k) (fit_cons b x (fit_prefix xs (n - length (code_s x))))
    by true e = ap (λ (r : List ℤ). x ∷ r) e
    by false e = refl

module _ {room : ℕ} {xs : List ℤ} {r : Cost} (h : CostOf room xs r) where
  -- the kept run, and the longest run that fits
  pub kept_run : trimmed xs ≡ take r.keep xs
  kept_run = trimmed_prefix xs ∙ ap (λ (k : ℕ). take k xs) (sym h.keep)

  pub fit_run : fit_prefix xs room ≡ take r.fit xs
  fit_run = fit_prefix_lem xs room ∙ ap (λ (k : ℕ). take k xs) (sym h.fit)

  both : fit_prefix (trimmed xs) room ≡ take r.keep (fit_prefix xs room)
  both = ap (λ (ys : List ℤ). fit_prefix ys room) kept_run ∙ fit_take r.keep xs room

  -- what fits of the kept run: all that fits where this is the shorter one, and all of it otherwise
  pub fit_shorter : r.fit ≤ r.keep → fit_prefix (trimmed xs) room ≡ fit_prefix xs room
  fit_shorter l = both ∙ take_all r.keep (fit_prefix xs room) (omega (arith, h.fit))

  pub keep_shorter : r.keep ≤ r.fit → fit_prefix (trimmed xs) room ≡ trimmed xs
  keep_shorter l = both ∙ ap (take r.keep) fit_run ∙ take-take r.keep r.fit xs l ∙ sym kept_run

  -- the bits of the longest run that fits, where it is the shorter one
  pub fit_shorter-bits : r.fit ≤ r.keep → bits_of (fit_prefix (trimmed xs) room) ≡ r.fit_bits
  fit_shorter-bits l = ap bits_of (fit_shorter l) ∙ sym h.fit_bits

  pub keep_shorter-bits : r.keep ≤ r.fit → bits_of (fit_prefix (trimmed xs) room) ≡ r.kept_bits
  unfolding trimmed_cost
  keep_shorter-bits l = ap bits_of (keep_shorter l) ∙ sym h.kept-bits
