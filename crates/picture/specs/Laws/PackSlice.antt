-- Laws of a slice whose three runs are packed one behind the other: room for the colours, the choice, and the words.
use Rattle.std.specs.Prelude.{◌≡◌, false, ℕ, ◌+◌, ◌-◌, ◌≤◌, ℤ}
use Rattle.std.proofs.Math.Path.{refl, ap}
use Rattle.std.proofs.Common.{ap₂, ◌∙◌, arith}
use mathlib.Core.List.{List, ◌++◌}
use Rattle.std.proofs.Math.ListN.{length}
use Rattle.laws.specs.Rows.{at}
use Rattle.laws.specs.Code.Laid.{laid}
use Rattle.laws.specs.Laws.Laid.{laid_then}
use Rattle.picture.specs.declared.slices.layout.Component.{Component}
use Rattle.picture.specs.declared.slices.layout.Picture.{Picture}
use Rattle.picture.specs.declared.high.choice.Choice.{Choice}
use Rattle.picture.specs.declared.high.packed.Packing.{Packing}
use Rattle.picture.specs.declared.high.packed.Packed.{Packed}
use Rattle.picture.specs.Code.Strip.{Small}
use Rattle.picture.specs.Code.Layout.{RunIn}
use Rattle.picture.specs.Code.Counts.{count_of}
use Rattle.picture.specs.Code.Packed.{packed, packed_bits, PackRunIn, Packs}
use Rattle.picture.specs.Laws.Packed.{laid-behind, run_alike, packing_at, run_packable, packs_small}
use Rattle.picture.specs.Laws.Counts.{run_count}
use Rattle.picture.specs.Laws.Unpacked.{packed-cost, run_below}
use Rattle.picture.specs.Code.Picture.{run_in, run_of, numbers_in, SliceIn}
use Rattle.picture.specs.Laws.Picture.{run_y, run_c1, run_c2}
use Rattle.picture.specs.Code.Choice.{packed_of, choice_by, slice_words, slice_number_count}
use Rattle.picture.specs.Laws.HighIndex.{choice_is}
use Rattle.picture.specs.Laws.Noted.{run_words}

-- a run packed from place i on
module _ {w v : List ℤ} {i : ℕ} {r : Packing} {xs : List ℤ} (h : Packs w (packing_at i) xs v r) where
  run-packed : ◌≡◌ {A = Packed} (record { words = r.at - i; bits = r.bits }) (packed_of xs)
  run-packed = ap₂ (λ (m n : ℕ). record { words = m; bits = n }) (omega (arith, h.at)) (h.bits ∙ zero_bits_lem ∙ packed-cost xs)
    where
      zero_bits_lem : 0 + packed_bits 0 xs ≡ packed_bits 0 xs
      zero_bits_lem = omega arith

-- packing a run leaves the work slice small
run-kept : (p : Picture) (k q : ℕ) {w v : List ℤ} {r : Packing} (c : Component) (i : ℕ) → RunIn p.layout c c p.front p.end k q w → p.layout.predicted ≡ false
    → i + count_of p.layout c k ≤ p.front → Packs w (packing_at i) (run_of w p c k q) v r → Small p.front p.end v
run-kept p k q {w} c i h plain room a =
    packs_small (run_below p.layout c p.front p.end k q w h plain _ (omega arith)) (omega (arith, run_count w p.layout c k q))
    (run_packable i (count_of p.layout c k) h.small room) h.small a

module _ (p : Picture) (k q from : ℕ) {w : List ℤ} (s : SliceIn p w k q) (plain : p.layout.predicted ≡ false) (room : from + slice_number_count p k ≤ p.front) where
  slice_of : {v : List ℤ} → Small p.front p.end v → SliceIn p v k q
  slice_of t = record { arranged = s.arranged; small = t; slice = s.slice; index = s.index }

  -- the runs of a list with the same coefficients
  run-same : (v : List ℤ) → ((i : ℕ) → p.front ≤ i → at v i ≡ at w i) → (c : Component) → RunIn p.layout c c p.front p.end k q w → run_of v p c k q ≡ run_of w p c k q
  run-same v same c h = run_alike p.front p.end w v (λ i a b. same i a) p.layout c c false k q q w h plain

  -- luma's run can be packed
  pub y_ready : PackRunIn (run_in p p.y k q) from w
  y_ready = (refl, record { front = p.front; end = p.end; holds = (run_y s, (plain, omega (arith, room))) })

  module _ {v₁ : List ℤ} {r₁ : Packing} (a : Packs w (packing_at from) (run_of w p p.y k q) v₁ r₁) where
    same₁ : (i : ℕ) → p.front ≤ i → at v₁ i ≡ at w i
    same₁ i b =
        ap (λ (v : List ℤ). at v i) a.work
        ∙ laid-behind w from (packed 0 (run_of w p p.y k q)) i (omega (arith, b, room, run_words w p p.y k q))

    slice₁ : SliceIn p v₁ k q
    slice₁ = slice_of (run-kept p k q p.y from (run_y s) plain (omega (arith, room)) a)

    room₁ : r₁.at + count_of p.layout p.c1 k ≤ p.front
    room₁ = omega (arith, room, a.at, run_words w p p.y k q)

    -- the first colour's run can be packed
    pub c1_ready : PackRunIn (run_in p p.c1 k q) r₁.at v₁
    c1_ready = (refl, record { front = p.front; end = p.end; holds = (run_c1 slice₁, (plain, room₁)) })

    module _ {v₂ : List ℤ} {r₂ : Packing} (b : Packs v₁ (packing_at r₁.at) (run_of v₁ p p.c1 k q) v₂ r₂) where
      same₂ : (i : ℕ) → p.front ≤ i → at v₂ i ≡ at w i
      same₂ i h =
          ap (λ (v : List ℤ). at v i) b.work
          ∙ laid-behind v₁ r₁.at (packed 0 (run_of v₁ p p.c1 k q)) i (omega (arith, h, room, a.at, run_words w p p.y k q, run_words v₁ p p.c1 k q))
          ∙ same₁ i h

      slice₂ : SliceIn p v₂ k q
      slice₂ = slice_of (run-kept p k q p.c1 r₁.at (run_c1 slice₁) plain room₁ b)

      room₂ : r₂.at + count_of p.layout p.c2 k ≤ p.front
      room₂ = omega (arith, room, a.at, b.at, run_words w p p.y k q, run_words v₁ p p.c1 k q)

      -- the second colour's run can be packed
      pub c2_ready : PackRunIn (run_in p p.c2 k q) r₂.at v₂
      c2_ready = (refl, record { front = p.front; end = p.end; holds = (run_c2 slice₂, (plain, room₂)) })

      module _ {v₃ : List ℤ} {r₃ : Packing} (d : Packs v₂ (packing_at r₂.at) (run_of v₂ p p.c2 k q) v₃ r₃) where
        first : run_of v₁ p p.c1 k q ≡ run_of w p p.c1 k q
        first = run-same v₁ same₁ p.c1 (run_c1 s)

        second : run_of v₂ p p.c2 k q ≡ run_of w p p.c2 k q
        second = run-same v₂ same₂ p.c2 (run_c2 s)

        pub slice_kept : Small p.front p.end v₃
        slice_kept = run-kept p k q p.c2 r₂.at (run_c2 slice₂) plain room₂ d

        pub slice_chosen : ◌≡◌ {A = Choice} (record {
          index = q;
          y = record { words = r₁.at - from; bits = r₁.bits };
          c1 = record { words = r₂.at - r₁.at; bits = r₂.bits };
          c2 = record { words = r₃.at - r₂.at; bits = r₃.bits };
        }) (choice_by (numbers_in w p k) q)
        slice_chosen = choice_is w p k q _ _ _ (run-packed a) (run-packed b ∙ ap packed_of first) (run-packed d ∙ ap packed_of second)

        pub slice_packed : v₃ ≡ laid w from (slice_words (numbers_in w p k q))
        unfolding numbers_in
        slice_packed =
            let y = packed 0 (run_of w p p.y k q) in
            let c1 = packed 0 (run_of w p p.c1 k q) in
            let c2 = packed 0 (run_of w p p.c2 k q) in
            let e₁ : v₁ ≡ laid w from y = a.work in
            let e₂ : v₂ ≡ laid v₁ r₁.at c1 = b.work ∙ ap (λ (xs : List ℤ). laid v₁ r₁.at (packed 0 xs)) first in
            let e₃ : v₃ ≡ laid v₂ r₂.at c2 = d.work ∙ ap (λ (xs : List ℤ). laid v₂ r₂.at (packed 0 xs)) second in
            let n : r₂.at ≡ r₁.at + length c1 = b.at ∙ ap (λ (xs : List ℤ). r₁.at + length (packed 0 xs)) first in
            e₃ ∙ ap (λ (v : List ℤ). laid v r₂.at c2) e₂ ∙ laid_then v₁ r₁.at r₂.at c1 c2 n
            ∙ ap (λ (v : List ℤ). laid v r₁.at (c1 ++ c2)) e₁ ∙ laid_then w from r₁.at y (c1 ++ c2) a.at

-- ---- further laws
pub run-after : {w v : List ℤ} {i : ℕ} {r : Packing} {xs : List ℤ} → Packs w (packing_at i) xs v r → i ≤ r.at
run-after h = omega (arith, h.at)
