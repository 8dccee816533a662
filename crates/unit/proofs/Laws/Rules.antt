-- Laws of rules: the first broken one of two groups; none is broken.
use Rattle.std.specs.Prelude.{◌≡◌, refl, ◌↔◌, Bool, true, false, cond, List, [], ◌∷◌, ◌++◌, ℕ, zero, suc}
use Rattle.std.proofs.Common.{◌∙◌, arith}
use Rattle.refusals.specs.Laws.Number.{Named}
use Rattle.unit.specs.Rules.{Rule, rule, first, or_else}

abbrev pub Some : ℕ → Type 0
Some zero = ⊥
Some (suc n) = Unit {0}

-- no rule has the number 0
abbrev pub Numbered : List Rule → Type 0
Numbered [] = Unit {0}
Numbered (r ∷ rs) = Some r.number × Numbered rs

-- each rule has the number of a refusal
abbrev pub Listed : List Rule → Type 0
Listed [] = Unit {0}
Listed (r ∷ rs) = Named r.number × Listed rs

listed : (b : Bool) (n x : ℕ) → Named n → Named x → Named (cond b n x)
listed true n x h g = h
listed false n x h g = g

-- so has the first broken one
pub first_named : (rs : List Rule) → Listed rs → Named (first rs)
first_named [] h = tt
first_named (r ∷ rs) h = listed r.broken r.number (first rs) h.0 (first_named rs h.1)

-- ---- rule n is b, with the rules rs behind it, and r is what the code finds for it
module _ (n : ℕ) (rs : List Rule) {b r : Bool} (e : r ≡ b) where
  pub stops : r ≡ true → n ≡ first (rule n b ∷ rs)
  stops t = rw (← e, t) refl

  pub goes_on : r ≡ false → first rs ≡ first (rule n b ∷ rs)
  goes_on f = rw (← e, f) refl

-- ---- two groups
or_some : (n m : ℕ) → Some n → n ≡ or_else n m
or_some zero m h = absurd h
or_some (suc n) m h = refl

next : (b : Bool) (n x y z : ℕ) → Some n → x ≡ or_else y z → cond b n x ≡ or_else (cond b n y) z
next true n x y z h e = or_some n z h
next false n x y z h e = e

-- the first of two groups is the first of the one, or else of the other
pub first-append : (xs ys : List Rule) → Numbered xs → first (xs ++ ys) ≡ or_else (first xs) (first ys)
first-append [] ys h = refl
first-append (r ∷ rs) ys h = next r.broken r.number (first (rs ++ ys)) (first rs) (first ys) h.0 (first-append rs ys h.1)

-- ---- group n, with the number m of the groups behind it, and r is what the code finds for it
module _ (m : ℕ) {n r : ℕ} (e : r ≡ n) where
  pub or_stops : (r ≡ 0 → ⊥) → r ≡ or_else n m
  or_stops h = e ∙ by n (λ z. h (e ∙ z))
    where
      by : (n : ℕ) → (n ≡ 0 → ⊥) → n ≡ or_else n m
      by zero h = absurd (h refl)
      by (suc n) h = refl

  pub or_goes_on : r ≡ 0 → m ≡ or_else n m
  or_goes_on z = rw (← e, z) refl

-- ---- no rule is broken
abbrev pub NoneOf : List Rule → Type 0
NoneOf [] = Unit {0}
NoneOf (r ∷ rs) = (r.broken ≡ false) × NoneOf rs

unbroken : (b : Bool) (n x : ℕ) → Some n → cond b n x ≡ 0 → (b ≡ false) × (x ≡ 0)
unbroken true zero x h e = absurd h
unbroken true (suc n) x h e = absurd (omega arith)
unbroken false n x h e = (refl, e)

pub none_of : (rs : List Rule) → Numbered rs → (first rs ≡ 0) ↔ NoneOf rs
none_of [] h = (λ e. tt, λ t. refl)
none_of (r ∷ rs) h = (
  λ e. let u = unbroken r.broken r.number (first rs) h.0 e in (u.0, (none_of rs h.1).0 u.1),
  λ t. rw t.0 ((none_of rs h.1).1 t.1),
)
