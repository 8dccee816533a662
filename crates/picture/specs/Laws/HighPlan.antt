-- Laws of the planning pass of high quality: a slice planned behind others, a call's terms, and the scaler that the
-- turns end at.
use Rattle.std.specs.Prelude.{◌≡◌, Bool, leb, ℤ}
use Rattle.std.proofs.Math.Path.{refl, sym, ap}
use Rattle.std.proofs.Common.{ap₂, ◌∙◌, subst, arith, zero-add, leb-true, leb-false, le-leb}
use Rattle.std.proofs.Math.Bool.{true, false}
use mathlib.Core.List.{List, [], ◌∷◌, ◌++◌}
use Prim.Native.Nat.{ℕ, zero, suc, ◌+◌, ◌*◌, ◌-◌, ◌/◌, ◌^◌, ◌≤◌, ◌<◌, max}
use Rattle.std.proofs.lemmas.Bool.{lt-leb}
use Rattle.std.proofs.Math.ListN.{length, length-append}
use Rattle.laws.specs.Ceiling.{ceiling}
use Rattle.laws.specs.Laws.Rows.{span_more}
use Rattle.laws.specs.Code.Chunks.{chunks}
use Rattle.laws.specs.Laws.Chunks.{chunks-none, chunks-more}
use Rattle.codewords.specs.Bytes.{to_bytes}
use Rattle.codewords.specs.Laws.Byte.{length-to_bytes}
use Rattle.unit.specs.declared.Settings.{Settings}
use Rattle.unit.specs.declared.PictureKind.TheVariants.{HighQuality}
use Rattle.unit.specs.declared.RateControl.{RateControl}
use Rattle.unit.specs.declared.RateControl.TheVariants.{Lossless, FixedQuantIndex, PictureBytes}
use Rattle.unit.specs.Limits.{side_limit, lowest_index}
use Rattle.unit.specs.Three.{Three}
use Rattle.unit.specs.Plan.{SlicePlan}
use Rattle.unit.proofs.Laws.Valid.{target_few}
use Rattle.unit.specs.Parameters.{overhead}
use Rattle.unit.specs.HighQuality.{slice_size_by, need_of, slice_size, high_bits, largest_need, scaler_from}
use Rattle.unit.proofs.Laws.HighQuality.{length_high, next_rises}
use Rattle.unit.specs.Unit.{major_version, high_parameters, target_of}
use Rattle.picture.specs.declared.slices.layout.Picture.{Picture}
use Rattle.picture.specs.declared.high.size.Needs.{Needs}
use Rattle.picture.specs.declared.high.choice.Choice.{Choice}
use Rattle.picture.specs.declared.high.plan.Terms.{Terms}
use Rattle.picture.specs.declared.coder.slice_coder.SliceCoder.{SliceCoder}
use Rattle.picture.specs.Code.Packed.{packed}
use Rattle.picture.specs.Code.Picture.{slices_in, numbers_in}
use Rattle.picture.specs.Code.Choice.{index_in, plan_in, plans_in, choice_by, choice_in, slice_words, words_in, words_to, words_of, needs_by, is_target, terms_of, slices_by, FewBits, PlanIn, NeedsOf}
use Rattle.picture.specs.Code.Passes.{planned_by, PlansOn, PlansTo, HighIn, Settles}
use Rattle.picture.specs.Laws.HighIndex.{needs_chosen}

-- ---- a slice
-- a slice's bytes are its size
pub bytes_high : (p c q : ℕ) (z : Three (List ℤ)) → 1 ≤ c → length (to_bytes (high_bits p c q z)) ≡ slice_size p c z
bytes_high p c q z h = length-to_bytes (high_bits p c q z) ∙ ap (λ (k : ℕ). k / 8) (length_high p c q z h) ∙ omega arith

-- a slice's size by the needs of its components
pub size_needs : (p c : ℕ) (z : Three (List ℤ)) (n : Needs) → NeedsOf z n
    → slice_size p c z ≡ slice_size_by p c n.y n.c1 n.c2
unfolding slice_size
size_needs p c z n h = rw (h.y, h.c1, h.c2)

-- planned behind others, by its numbers z, which need n, and its index q
plans_on : (p c q : ℕ) (z : Three (List ℤ)) (n : Needs) (b : SliceCoder) (size most words : ℕ) → 1 ≤ c → NeedsOf z n
    → size ≡ slice_size_by p c n.y n.c1 n.c2 → size ≤ 2 ^ 34
    → most ≡ max (max n.y (max n.c1 n.c2)) b.largest → words ≡ length (slice_words z)
    → PlansOn (record { index = q; numbers = z; kept = z; bits = high_bits p c q z }) b
    (record { at = b.at + size; cut_slices = b.cut_slices; largest = most; index = q; words = b.words + words })
plans_on p c q z n b size most words some h e few m l = record {
  at = ap (λ (k : ℕ). b.at + k) (e ∙ sym (size_needs p c z n h) ∙ sym (bytes_high p c q z some));
  near = omega arith;
  cut = refl;
  largest = rw (← h.y, ← h.c1, ← h.c2) m;
  few = λ l. omega (arith, m, h.few);
  words = ap (λ (k : ℕ). b.words + k) l;
}

-- the words of a slice are those of its runs
pub words_are : (z : ℕ → Three (List ℤ)) (q : ℕ) → words_of (choice_by z q) ≡ length (slice_words (z q))
words_are z q =
    sym (length-append (packed 0 (z q).y) (packed 0 (z q).c1 ++ packed 0 (z q).c2)
    ∙ ap (λ (k : ℕ). length (packed 0 (z q).y) + k) (length-append (packed 0 (z q).c1) (packed 0 (z q).c2)))

-- slice k, planned by its choice
pub slice_planned : (w : List ℤ) (p : Picture) (t : Terms) (k : ℕ) (c : Choice) (b r : SliceCoder) → 1 ≤ t.scaler → FewBits c → c ≡ choice_in w p t k
    → r ≡ planned_by t c b → r.at ≤ b.at + 2 ^ 34 → PlansOn (plan_in w p t k) b r
unfolding plan_in
slice_planned w p t k c b r some few e d near =
    let i : ℕ = index_in w p t k in
    let z : ℕ → Three (List ℤ) = numbers_in w p k in
    let c = choice_by z i in
    let n : Needs = needs_by c.y.bits c.c1.bits c.c2.bits in
    let s : ℕ = t.scaler in
    let size : ℕ = slice_size_by t.prefix s n.y n.c1 n.c2 in
    let f : r ≡ planned_by t (choice_in w p t k) b = d ∙ ap (λ (c : Choice). planned_by t c b) e in
    let l : b.at + size ≤ b.at + 2 ^ 34 = subst (λ (r : SliceCoder). r.at ≤ b.at + 2 ^ 34) f near in
    subst (PlansOn (plan_in w p t k) b) (sym f)
    (plans_on t.prefix s i (z i) n b size (max (max n.y (max n.c1 n.c2)) b.largest) (words_of c) some (needs_chosen z i (subst FewBits e few)) refl (omega (arith, l)) refl (words_are z i))

-- ---- slices one behind the other
-- the largest need of a slice
abbrev most_of : SlicePlan → ℕ
most_of s = max (need_of s.numbers.y) (max (need_of s.numbers.c1) (need_of s.numbers.c2))

-- of three numbers the first two may change places
max_swap : (a b c : ℕ) → max a (max b c) ≡ max b (max a c)
max_swap a b c = omega arith

-- the largest need where a slice is added at the end
largest-more : (ss : List SlicePlan) (s : SlicePlan) → largest_need (ss ++ (s ∷ [])) ≡ max (most_of s) (largest_need ss)
unfolding largest_need
largest-more [] s = refl
largest-more (t ∷ ss) s = ap (max (most_of t)) (largest-more ss s) ∙ max_swap (most_of t) (most_of s) (largest_need ss)

module _ (w : List ℤ) (p : Picture) (t : Terms) (from : ℕ) where
  -- before any slice is planned
  pub plans_none : (r : SliceCoder) → r.at ≡ from → r.cut_slices ≡ 0 → r.largest ≡ 0 → r.words ≡ 0 → PlansTo w p t from 0 r
  unfolding largest_need
  plans_none r a u l v = record {
    at = rw (chunks-none (λ k. to_bytes (plan_in w p t k).bits)) (omega arith);
    near = omega arith;
    cut = u;
    largest = l;
    few = omega arith;
    words = rw (chunks-none (words_in w p t)) v;
  }

  -- slice k behind the first k
  pub plans_more : (k : ℕ) (b r : SliceCoder) → PlansTo w p t from k b → PlansOn (plan_in w p t k) b r → PlansTo w p t from (k + 1) r
  unfolding plan_in
  plans_more k b r h o =
      let F : ℕ → List ℕ = λ k. to_bytes (plan_in w p t k).bits in
      let e : plans_in w p t (k + 1) ≡ plans_in w p t k ++ (plan_in w p t k ∷ []) =
      span_more (plan_in w p t) 0 k ∙ ap (λ (i : ℕ). plans_in w p t k ++ (plan_in w p t i ∷ [])) (zero-add k) in
      record {
        at = omega (arith, h.at, o.at, ap length (chunks-more F k), length-append (chunks F k) (F k));
        near = omega (arith, h.near, o.near);
        cut = o.cut ∙ h.cut;
        largest = o.largest ∙ ap (max (most_of (plan_in w p t k))) h.largest ∙ sym (ap largest_need e ∙ largest-more (plans_in w p t k) (plan_in w p t k));
        few = o.few h.few;
        words = omega (arith, h.words, o.words, ap length (chunks-more (words_in w p t) k), length-append (words_to w p t k) (words_in w p t k));
      }

-- a plan of equal terms from an equal place
pub plans_same : (w : List ℤ) (p : Picture) (t u : Terms) (i j n : ℕ) (r : SliceCoder) → t ≡ u → i ≡ j → PlansTo w p t i n r → PlansTo w p u j n r
plans_same w p t u i j n r e f h = subst (λ (k : ℕ). PlansTo w p u k n r) f (subst (λ (v : Terms). PlansTo w p v i n r) e h)

-- ---- a call's terms
-- where the slices begin with scaler c
abbrev pub slices_from : Settings → List ℕ → ℕ → ℕ
slices_from s m c = overhead (major_version s) (high_parameters s m c)

-- the terms with scaler c, by the target and by where the slices begin
pub terms_are : (s : Settings) (m : List ℕ) (c bytes target taken : ℕ) → bytes ≡ target - taken → target ≡ target_of s.rate → taken ≡ slices_from s m c
    → record { rate = s.rate; prefix = s.slice_prefix_bytes; scaler = c; bytes = bytes; lo = lowest_index } ≡ terms_of s m c
terms_are s m c bytes target taken e f g =
    ap (λ (n : ℕ). record { rate = s.rate; prefix = s.slice_prefix_bytes; scaler = c; bytes = n; lo = lowest_index }) (e ∙ ap₂ ◌-◌ f g)

-- slices can be planned with scaler c
pub plan_in_lem : {s : Settings} {p : Picture} {w : List ℤ} (m : List ℕ) (c : ℕ) → HighIn s p w → 1 ≤ c → c ≤ 2 ^ 24 → (t : Terms) → t ≡ terms_of s m c → PlanIn p t w
plan_in_lem {s} {p} {w} m c h some few t e = subst (λ (u : Terms). PlanIn p u w) (sym e) (record {
  arranged = h.arranged;
  plain = h.plain;
  small = h.small;
  terms = record {
    rate = h.rate;
    prefix = h.shape.prefix;
    scaler = (some, few);
    bytes = omega (arith, target_few HighQuality s.rate h.rate);
    lo = omega arith;
  };
})

-- ---- the scaler
-- slices gives the slices by their scaler
module _ (slices : ℕ → List SlicePlan) where
  -- where every need is at most 255 scalers it stays
  pub scaler_stays : (f c : ℕ) → largest_need (slices c) ≤ 255 * c → scaler_from slices f c ≡ c
  unfolding scaler_from
  scaler_stays zero c h = refl
  scaler_stays (suc f) c h =
      let n : ℕ = largest_need (slices c) in
      ap (λ (b : Bool). let r : ℕ = elim b [ true ↦ c | false ↦ scaler_from slices f (ceiling n 255) ] in r) (le-leb n (255 * c) h)

  -- else the scaler is raised
  pub scaler-next : (f c : ℕ) → 255 * c < largest_need (slices c) → scaler_from slices (suc f) c ≡ scaler_from slices f (ceiling (largest_need (slices c)) 255)
  unfolding scaler_from
  scaler-next f c h =
      let n : ℕ = largest_need (slices c) in
      ap (λ (b : Bool). let r : ℕ = elim b [ true ↦ c | false ↦ scaler_from slices f (ceiling n 255) ] in r) (lt-leb n (255 * c) h)

  -- no need is more than so many bytes
  module _ (most : ℕ) (bounded : (c : ℕ) → largest_need (slices c) ≤ most) where
    -- turns beyond those that suffice change nothing
    pub scaler-same : (f g c : ℕ) → most ≤ 255 * (c + f) → most ≤ 255 * (c + g) → scaler_from slices f c ≡ scaler_from slices g c
    scaler-same zero g c h i =
        let l : largest_need (slices c) ≤ 255 * c = omega (arith, bounded c) in
        scaler_stays zero c l ∙ sym (scaler_stays g c l)
    scaler-same (suc f) zero c h i =
        let l : largest_need (slices c) ≤ 255 * c = omega (arith, bounded c) in
        scaler_stays (suc f) c l ∙ sym (scaler_stays zero c l)
    scaler-same (suc f) (suc g) c h i =
        by (leb (largest_need (slices c)) (255 * c)) refl
        (λ l. scaler-same f g (ceiling (largest_need (slices c)) 255) (omega (arith, next_rises (largest_need (slices c)) c l)) (omega (arith, next_rises (largest_need (slices c)) c l)))
      where
        next : ℕ
        next = ceiling (largest_need (slices c)) 255

        by : (b : Bool) → leb (largest_need (slices c)) (255 * c) ≡ b → (255 * c < largest_need (slices c) → scaler_from slices f next ≡ scaler_from slices g next)
            → scaler_from slices (suc f) c ≡ scaler_from slices (suc g) c
        by true e t =
            let l = leb-true (largest_need (slices c)) (255 * c) e in
            scaler_stays (suc f) c l ∙ sym (scaler_stays (suc g) c l)
        by false e t =
            let l = leb-false (largest_need (slices c)) (255 * c) e in
            scaler-next f c l ∙ t l ∙ sym (scaler-next g c l)

    -- a turn, where so many suffice
    pub scaler-turn : (f c : ℕ) → most ≤ 255 * (c + f) → 255 * c < largest_need (slices c)
        → scaler_from slices f c ≡ scaler_from slices f (ceiling (largest_need (slices c)) 255)
    scaler-turn zero c h l = absurd (omega (arith, bounded c))
    scaler-turn (suc f) c h l =
        let next : ℕ = ceiling (largest_need (slices c)) 255 in
        let r : c < next = next_rises (largest_need (slices c)) c l in
        scaler-next f c l ∙ scaler-same f (suc f) next (omega arith) (omega arith)

-- ---- settling
-- r is the plan with scaler c, and the turns from the settings' scaler end where those from c do
pub record Settling (w : List ℤ) (p : Picture) (s : Settings) (m : List ℕ) (c : ℕ) (r : SliceCoder) : Type 0 where
  pub turns : (most f : ℕ) → ((d : ℕ) → largest_need (slices_by w p s m d) ≤ most) → most ≤ 255 * (s.slice_size_scaler + f)
      → scaler_from (slices_by w p s m) f s.slice_size_scaler ≡ scaler_from (slices_by w p s m) f c
  pub rises : s.slice_size_scaler ≤ c
  pub few : c ≤ 2 ^ 24
  pub plan : PlansTo w p (terms_of s m c) (slices_from s m c) (slices_in p) r

module _ (w : List ℤ) (p : Picture) (s : Settings) (m : List ℕ) where
  -- settling before the first turn
  pub settling_first : (r : SliceCoder) → s.slice_size_scaler ≤ side_limit
      → PlansTo w p (terms_of s m s.slice_size_scaler) (slices_from s m s.slice_size_scaler) (slices_in p) r
      → Settling w p s m s.slice_size_scaler r
  settling_first r few h = record { turns = λ most f b l. refl; rises = omega arith; few = omega arith; plan = h }

  -- a turn of settling
  pub settling_turn : (c : ℕ) (a r : SliceCoder) → Settling w p s m c a → 255 * c < a.largest
      → let d : ℕ = (a.largest + 254) / 255 in PlansTo w p (terms_of s m d) (slices_from s m d) (slices_in p) r → Settling w p s m d r
  settling_turn c a r h l o =
      let n : ℕ = largest_need (slices_by w p s m c) in
      let k : 255 * c < n = omega (arith, h.plan.largest) in
      let i : ceiling n 255 ≡ (a.largest + 254) / 255 = omega (arith, h.plan.largest) in
      record {
        turns = λ most f b t. h.turns most f b t ∙ scaler-turn (slices_by w p s m) most b f c (omega (arith, h.rises)) k
            ∙ ap (scaler_from (slices_by w p s m) f) i;
        rises = omega (arith, h.rises, next_rises n c k);
        few = omega (arith, h.plan.few);
        plan = o;
      }

  -- settling ends when no need is more than 255 scalers
  pub settling_ends : (c : ℕ) (a : SliceCoder) → 1 ≤ s.slice_size_scaler → Settling w p s m c a → a.largest ≤ 255 * c
      → Settles w p s m (record { scaler = c; end = a.at })
  settling_ends c a some h l =
      let k : largest_need (slices_by w p s m c) ≤ 255 * c = omega (arith, h.plan.largest) in
      record {
        scaler = λ most f b t. sym (h.turns most f b t ∙ scaler_stays (slices_by w p s m) f c k);
        some = omega (arith, h.rises);
        few = h.few;
        fits = k;
        end = h.plan.at;
      }

-- ---- whether a rate is a byte target
pub target_lossless : (r : RateControl) → r ≡ Lossless → false ≡ is_target r
unfolding is_target
target_lossless r e = sym (ap is_target e)

pub target_fixed : (r : RateControl) (q : ℕ) → r ≡ FixedQuantIndex q → false ≡ is_target r
unfolding is_target
target_fixed r q e = sym (ap is_target e)

pub target_bytes : (r : RateControl) (b : ℕ) → r ≡ PictureBytes b → true ≡ is_target r
unfolding is_target
target_bytes r b e = sym (ap is_target e)

-- ---- further laws
-- as the code puts it together, by the needs n of choice c
pub planned_is : (t : Terms) (c : Choice) (b : SliceCoder) (n : Needs) (size most words : ℕ) → n ≡ needs_by c.y.bits c.c1.bits c.c2.bits
    → size ≡ slice_size_by t.prefix t.scaler n.y n.c1 n.c2
    → size ≤ 2 ^ 34 → most ≡ max (max n.y (max n.c1 n.c2)) b.largest → words ≡ words_of c
    → (◌≡◌ {A = SliceCoder} (record { at = b.at + size; cut_slices = b.cut_slices; largest = most; index = c.index; words = b.words + words }) (planned_by t c b))
    × (b.at + size ≤ b.at + 2 ^ 34)
planned_is t c b n size most words e d l m k = (
  ap (λ (k : ℕ). record { at = b.at + size; cut_slices = b.cut_slices; largest = most; index = c.index; words = b.words + k }) k
      ∙ ap₂ (λ (s m : ℕ). record { at = b.at + s; cut_slices = b.cut_slices; largest = m; index = c.index; words = b.words + words_of c })
      (d ∙ ap (λ (n : Needs). slice_size_by t.prefix t.scaler n.y n.c1 n.c2) e)
      (m ∙ ap (λ (n : Needs). max (max n.y (max n.c1 n.c2)) b.largest) e),
  omega (arith, l),
)
