-- Laws of the election of an index: it stays between its ends, below the upper end it fits, and where what fits at an
-- index fits at every larger one, it is the least that fits.
use Rattle.std.specs.Prelude.{◌≡◌, Bool, true, false, ltb}
use Rattle.std.proofs.Math.Path.{refl}
use Rattle.std.proofs.Common.{sym, ap, ◌∙◌, subst, arith, le_antisymm, le_of_suc-le-suc, lt_of_not-le, ltb-true, ltb-false}
use Prim.Native.Nat.{ℕ, zero, suc, ◌+◌, ◌-◌, ◌/◌, ◌≤◌, ◌<◌}
use Rattle.std.proofs.Math.Decide.{ℕ_discrete}
use Rattle.unit.proofs.Laws.Test.{no_truth}
use Rattle.unit.specs.Elect.{halve, upward, elect}

-- an index q between lo and hi that fits, unless it is top, which is never tried
pub record Elected (fits : ℕ → Bool) (lo hi top q : ℕ) : Type 0 where
  pub low : lo ≤ q
  pub high : q ≤ hi
  pub fit : q < top → fits q ≡ true

module _ (fits : ℕ → Bool) where
  last : (lo hi top : ℕ) → lo ≤ hi → hi ≤ lo → (hi < top → fits hi ≡ true) → Elected fits lo hi top lo
  last lo hi top a b f = record {
    low = omega arith;
    high = a;
    fit = λ h. let e : lo ≡ hi = le_antisymm a b in ap fits e ∙ f (omega arith);
  }

  -- a turn of the halving; r and t say what its halves elect
  turn : (n lo hi top : ℕ) → lo ≤ hi → (hi < top → fits hi ≡ true) → (c d : Bool) → ltb lo hi ≡ c → fits ((lo + hi) / 2) ≡ d
      → (lo < hi → fits ((lo + hi) / 2) ≡ true → Elected fits lo ((lo + hi) / 2) top (halve fits n lo ((lo + hi) / 2)))
      → (lo < hi → Elected fits ((lo + hi) / 2 + 1) hi top (halve fits n ((lo + hi) / 2 + 1) hi))
      → Elected fits lo hi top
      (elim c [ true ↦ elim d [ true ↦ halve fits n lo ((lo + hi) / 2) | false ↦ halve fits n ((lo + hi) / 2 + 1) hi ] | false ↦ lo ])
  turn n lo hi top a f true true e g r t =
      let h = ltb-true lo hi e in
      let x = r h g in
      record { low = x.low; high = omega arith; fit = x.fit }
  turn n lo hi top a f true false e g r t =
      let h = ltb-true lo hi e in
      let x = t h in
      record { low = omega arith; high = x.high; fit = x.fit }
  turn n lo hi top a f false d e g r t = last lo hi top a (ltb-false lo hi e) f

  halve_elects : (n lo hi top : ℕ) → lo ≤ hi → hi - lo ≤ n → (hi < top → fits hi ≡ true) → Elected fits lo hi top (halve fits n lo hi)
  unfolding halve
  halve_elects zero lo hi top a b f = last lo hi top a (omega arith) f
  halve_elects (suc n) lo hi top a b f =
      let mid : ℕ = (lo + hi) / 2 in
      turn n lo hi top a f (ltb lo hi) (fits mid) refl refl
      (λ h e. halve_elects n lo mid top (omega arith) (omega arith) (λ l. e))
      (λ h. halve_elects n (mid + 1) hi top (omega arith) (omega arith) f)

  -- the upward search ends where it began, where that fits
  upward_stays : (n q : ℕ) → (0 < n → fits q ≡ true) → upward fits n q ≡ q
  unfolding upward
  upward_stays zero q f = refl
  upward_stays (suc n) q f = rw (f (omega arith), upward)

  halved : (lo hi : ℕ) → lo ≤ hi → Elected fits lo hi hi (halve fits (hi - lo) lo hi)
  halved lo hi h = halve_elects (hi - lo) lo hi hi h (omega arith) (λ l. absurd (omega arith))

  pub elect-halves : (lo hi : ℕ) → lo ≤ hi → elect lo hi fits ≡ halve fits (hi - lo) lo hi
  unfolding elect
  elect-halves lo hi h =
      let r = halved lo hi h in
      let q = halve fits (hi - lo) lo hi in
      upward_stays (hi - q) q (λ l. r.fit (omega arith))

  pub elected : (lo hi : ℕ) → lo ≤ hi → Elected fits lo hi hi (elect lo hi fits)
  elected lo hi h = subst (Elected fits lo hi hi) (sym (elect-halves lo hi h)) (halved lo hi h)

  -- ---- the least that fits
  -- the index just below q does not fit, unless q is lo
  abbrev Under : ℕ → ℕ → Type 0
  Under lo q = lo < q → fits (q - 1) ≡ false

  -- q came from the half above a middle that does not fit
  under_upper : (lo mid q : ℕ) → mid + 1 ≤ q → fits mid ≡ false → Under (mid + 1) q → Under lo q
  under_upper lo mid q a e u h = by (ℕ_discrete q (mid + 1))
    where
      by : Dec (q ≡ mid + 1) → fits (q - 1) ≡ false
      by (yes d) = let f : q - 1 ≡ mid = omega arith in ap fits f ∙ e
      by (no d) = u (omega arith)

  under_turn : (n lo hi : ℕ) → (c d : Bool) → ltb lo hi ≡ c → fits ((lo + hi) / 2) ≡ d
      → (lo < hi → Under lo (halve fits n lo ((lo + hi) / 2)))
      → (lo < hi → Elected fits ((lo + hi) / 2 + 1) hi hi (halve fits n ((lo + hi) / 2 + 1) hi))
      → (lo < hi → Under ((lo + hi) / 2 + 1) (halve fits n ((lo + hi) / 2 + 1) hi))
      → Under lo (elim c [ true ↦ elim d [ true ↦ halve fits n lo ((lo + hi) / 2) | false ↦ halve fits n ((lo + hi) / 2 + 1) hi ] | false ↦ lo ])
  under_turn n lo hi true true e g r t u = r (ltb-true lo hi e)
  under_turn n lo hi true false e g r t u =
      let h = ltb-true lo hi e in
      under_upper lo ((lo + hi) / 2) (halve fits n ((lo + hi) / 2 + 1) hi) (t h).low g (u h)
  under_turn n lo hi false d e g r t u = λ h. absurd (omega arith)

  halve_under : (n lo hi : ℕ) → lo ≤ hi → hi - lo ≤ n → Under lo (halve fits n lo hi)
  unfolding halve
  halve_under zero lo hi a b = λ h. absurd (omega arith)
  halve_under (suc n) lo hi a b =
      let mid : ℕ = (lo + hi) / 2 in
      under_turn n lo hi (ltb lo hi) (fits mid) refl refl
      (λ h. halve_under n lo mid (omega arith) (omega arith))
      (λ h. halve_elects n (mid + 1) hi hi (omega arith) (omega arith) (λ l. absurd (omega arith)))
      (λ h. halve_under n (mid + 1) hi (omega arith) (omega arith))

  -- where what fits at an index fits at every larger one up to hi, an index with no fit just below it is at most one
  -- from lo on that fits
  under_le : (lo hi q m : ℕ) → ((i j : ℕ) → i ≤ j → j ≤ hi → fits i ≡ true → fits j ≡ true) → q ≤ hi → lo ≤ m → Under lo q → (m < hi → fits m ≡ true) → q ≤ m
  under_le lo hi q m rises h l u f =
      le_of_suc-le-suc (lt_of_not-le λ (g : suc m ≤ q).
      no_truth (sym (rises m (q - 1) (omega arith) (omega arith) (f (omega arith))) ∙ u (omega arith)))

  pub elect-least : (lo hi m : ℕ) → ((i j : ℕ) → i ≤ j → j ≤ hi → fits i ≡ true → fits j ≡ true) → lo ≤ m → m ≤ hi → (lo < m → fits (m - 1) ≡ false)
      → (m < hi → fits m ≡ true) → elect lo hi fits ≡ m
  elect-least lo hi m rises l h u f =
      let r = elected lo hi (omega arith) in
      let v : Under lo (elect lo hi fits) = rw (elect-halves lo hi (omega arith)) (halve_under (hi - lo) lo hi (omega arith) (omega arith)) in
      le_antisymm (under_le lo hi (elect lo hi fits) m rises r.high l v f) (under_le lo hi m (elect lo hi fits) rises h r.low u r.fit)
