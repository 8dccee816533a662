-- Laws of the refusals: a loop that looks for a value that is too large, and the groups of rules one after the other.
use Rattle.std.specs.Prelude.{◌≡◌, refl, true, false, List, ◌++◌, ℕ, ◌+◌, ◌≤◌, ◌<◌, ℤ, length, get_or, drop}
use Rattle.std.proofs.Math.Path.{sym, ap}
use Rattle.std.proofs.Common.{◌∙◌, add-one, drop_of_length-le, drop-cons, lt-ltb, le-ltb}
use Rattle.unit.specs.declared.Settings.{Settings}
use Rattle.unit.specs.Three.{Three}
use Rattle.unit.specs.Rules.{first, or_else}
use Rattle.unit.specs.Refusal.{any_above, shape_rules, rate_rules, frame_rules, matrix_rules, memory_rules, refusal_of}
use Rattle.unit.proofs.Laws.Rules.{first-append, none_of}
use Rattle.unit.proofs.Laws.Valid.{shape-kept, frame-kept}
use Rattle.picture.specs.Code.Sides.{Measured}

-- ---- values from place i on
module _ (most : ℕ) (vs : List ℕ) (i : ℕ) where
  pub above_here : i < length vs → most < get_or vs i 0 → true ≡ any_above most (drop i vs)
  above_here h l = rw (drop-cons vs i 0 h, lt-ltb most (get_or vs i 0) l) refl

  pub above_next : i < length vs → get_or vs i 0 ≤ most → any_above most (drop (i + 1) vs) ≡ any_above most (drop i vs)
  above_next h l = rw (drop-cons vs i 0 h, le-ltb most (get_or vs i 0) l, add-one i) refl

  pub above_none : length vs ≤ i → false ≡ any_above most (drop i vs)
  above_none h = rw (drop_of_length-le vs {i = i} h) refl

-- ---- what rules 11 and 13 rest on: rules 2 and 8 bound the depths and the frame
pub measured : (s : Settings) → first (shape_rules s) ≡ 0 → first (frame_rules s) ≡ 0 → Measured s
measured s d f = record {
  shape = (shape-kept s).0 ((none_of (shape_rules s) (tt, (tt, (tt, (tt, tt))))).0 d);
  frame = (frame-kept s).0 ((none_of (frame_rules s) (tt, tt)).0 f);
}

-- ---- the groups, one after the other
module _ (s : Settings) (m : List ℕ) (p : Three (List ℕ)) (work : List ℤ) where
  -- the first broken rule from a group on
  abbrev pub from_matrix : ℕ
  from_matrix = or_else (first (matrix_rules s m)) (first (memory_rules s p work))

  abbrev pub from_frame : ℕ
  from_frame = or_else (first (frame_rules s)) from_matrix

  abbrev pub from_rate : ℕ
  from_rate = or_else (first (rate_rules s.kind s.rate)) from_frame

  pub by_groups : or_else (first (shape_rules s)) from_rate ≡ refusal_of s m p work
  unfolding refusal_of
  by_groups =
      let lent = first-append (matrix_rules s m) (memory_rules s p work) (tt, (tt, tt)) in
      let framed = first-append (frame_rules s) (matrix_rules s m ++ memory_rules s p work) (tt, tt) ∙ ap (or_else (first (frame_rules s))) lent in
      let rated =
      first-append (rate_rules s.kind s.rate) (frame_rules s ++ (matrix_rules s m ++ memory_rules s p work)) (tt, (tt, (tt, tt)))
      ∙ ap (or_else (first (rate_rules s.kind s.rate))) framed in
      sym (first-append (shape_rules s) (rate_rules s.kind s.rate ++ (frame_rules s ++ (matrix_rules s m ++ memory_rules s p work))) (tt, (tt, (tt, (tt, tt))))
      ∙ ap (or_else (first (shape_rules s))) rated)
