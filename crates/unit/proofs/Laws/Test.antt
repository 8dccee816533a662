-- A test that fails, and what it says.
use Rattle.std.specs.Prelude.{◌≡◌, refl, ◌↔◌, Bool, true, false, not, ◌||◌, List, [], ◌∷◌, ℕ, zero, suc, ◌≤◌, eqb, ltb, get_or}
use Rattle.std.proofs.Common.{arith, ltb-false, le-ltb, eqb-true, eq-eqb, ne_eqb}
use Rattle.std.proofs.lemmas.Bool.{eqb-false, not-false}
use Rattle.unit.specs.Refusal.{outside, any_above}
use Rattle.unit.specs.Code.Valid.{Between, AllMost}

pub no_truth : {A : Type 0} → true ≡ false → A
no_truth e = let z : ◌≡◌ {A = ℕ} 0 1 = cc in absurd (omega arith)

pub or-none : (a b : Bool) → (a || b ≡ false) ↔ ((a ≡ false) × (b ≡ false))
or-none true b = (no_truth, λ h. h.0)
or-none false b = (λ e. (refl, e), λ h. h.1)

pub both : {a b : Bool} {A B : Type 0} → ((a ≡ false) ↔ A) → ((b ≡ false) ↔ B) → (a || b ≡ false) ↔ (A × B)
both {a} {b} f g =
    let o = or-none a b in
    (λ e. (f.0 (o.0 e).0, g.0 (o.0 e).1), λ h. o.1 (f.1 h.0, g.1 h.1))

pub at_most : (most n : ℕ) → (ltb most n ≡ false) ↔ (n ≤ most)
at_most most n = (ltb-false most n, le-ltb most n)

pub same : (a b : ℕ) → (not (eqb a b) ≡ false) ↔ (a ≡ b)
same a b = (λ e. eqb-true a b (not-false (eqb a b) e), λ e. rw (eq-eqb a b e))

pub some_of : (n : ℕ) → (eqb n 0 ≡ false) ↔ (1 ≤ n)
some_of n = (λ e. let h = eqb-false n 0 e in omega arith, λ h. ne_eqb n 0 (omega arith))

pub between : (most n : ℕ) → (outside most n ≡ false) ↔ Between most n
between most n =
    let o = both (some_of n) (at_most most n) in
    (λ e. let h = o.0 e in record { some = h.0; few = h.1 }, λ b. o.1 (b.some, b.few))

pub all_most : (most : ℕ) (vs : List ℕ) → (any_above most vs ≡ false) ↔ AllMost most vs
all_most most [] = (λ e. tt, λ t. refl)
all_most most (v ∷ vs) = both (at_most most v) (all_most most vs)

pub most-at : (most : ℕ) (vs : List ℕ) → AllMost most vs → (i : ℕ) → get_or vs i 0 ≤ most
most-at most [] a i = omega arith
most-at most (v ∷ vs) a zero = a.0
most-at most (v ∷ vs) a (suc i) = most-at most vs a.1 i
