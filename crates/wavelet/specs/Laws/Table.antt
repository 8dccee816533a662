-- The code's table of stages is that of the definitions.
use Rattle.std.specs.Prelude.{◌≡◌, ℕ, zero, suc, ◌+◌, ◌-◌, ◌*◌, ◌<◌, ◌≤◌, Bool, true, false, ◌&&◌, ◌||◌, T, leb, List, [], ◌∷◌, ◌++◌, length, get_or, replicate, ℤ, pos, ◌==◌, ◌≢◌, nat_le, slice_index_or, refl}
use Rattle.std.proofs.Common.{ap, ◌∙◌, arith, leb→le, eqb→eq, length-append, length-take-le}
use Rattle.std.proofs.Math.Seq.{take-append_seam}
use Rattle.std.proofs.lemmas.List.{length-replicate}
use Rattle.std.proofs.Math.Decide.{ℕ_discrete}
use Rattle.std.proofs.lemmas.Grind.{common_steps}
use Rattle.wavelet.specs.Lifting.{Stage}
use Rattle.wavelet.specs.Laws.Lifting.{each_filter}
use Rattle.wavelet.specs.Filters.{filter_of, type1, dd97, legall, dd137, haar0, haar1, fidelity, daub97}
use Rattle.wavelet.specs.declared.stage.LiftStage.{LiftStage}
use Rattle.wavelet.specs.Code.Count.{is_count}
use Rattle.wavelet.specs.Code.Table.{stage_of, stages, stage_at}

-- a stage of the code has its taps
pub count_le : (s : LiftStage) → s.count ≤ 8
count_le s = grind (arith, common_steps)

pub taps_long : (s : LiftStage) → length (stage_of s).taps ≡ s.count
unfolding stage_of
taps_long s = length-take-le s.count s.taps (omega (arith, s.long, count_le s))

-- ---- one of n cases
abbrev pub Cases : ℕ → Type 0 → ℕ → Type 0
Cases j X zero = Unit {0}
Cases j X (suc n) = (j ≡ n → X) × Cases j X n

pub by_cases : {X : Type 0} (j n : ℕ) → j < n → Cases j X n → X
by_cases j zero h k = absurd (omega arith)
by_cases j (suc n) h k = elim (ℕ_discrete j n) [ yes e ↦ k.0 e | no d ↦ by_cases j n (omega arith) k.1 ]

-- ---- filter i's stages among all
EqStages : List Stage → ℕ → List Stage → Type 0
EqStages [] j ls = Unit {0}
EqStages (s ∷ ss) j ls = (slice_index_or ls j (type1 0 0 0 []) ≡ s) × EqStages ss (suc j) ls

eq-stages : (ss : List Stage) (j : ℕ) (ls : List Stage) → EqStages ss j ls → (k : ℕ) → k < length ss → slice_index_or ls (j + k) (type1 0 0 0 []) ≡ slice_index_or ss k (type1 0 0 0 [])
unfolding EqStages
eq-stages [] j ls h k l = absurd (omega arith)
eq-stages (s ∷ ss) j ls h zero l = ap (λ (m : ℕ). get_or ls m (type1 0 0 0 [])) (omega arith) ∙ h.0
eq-stages (s ∷ ss) j ls h (suc k) l = ap (λ (m : ℕ). get_or ls m (type1 0 0 0 [])) (omega arith) ∙ eq-stages ss (suc j) ls h.1 k (omega arith)

-- the stages of filter i stand in the table, as many as the code counts
pub record InTable (i : ℕ) : Type 0 where
  pub stage-of : (k : ℕ) → k < length (filter_of i).stages → stage_at (2 * i + k) ≡ slice_index_or (filter_of i).stages k (type1 0 0 0 [])
  pub room : 2 * i + length (filter_of i).stages ≤ 16
  pub two : i < 6 → 2 ≡ length (filter_of i).stages
  pub four : 6 ≤ i → 4 ≡ length (filter_of i).stages

in_table_of : (i : ℕ) → EqStages (filter_of i).stages (2 * i) stages → 2 * i + length (filter_of i).stages ≤ 16 → (i < 6 → 2 ≡ length (filter_of i).stages) → (6 ≤ i → 4 ≡ length (filter_of i).stages) → InTable i
in_table_of i h r t f = record { stage-of = eq-stages (filter_of i).stages (2 * i) stages h; room = r; two = t; four = f }

pub in_table : (i : ℕ) → i ≤ 6 → InTable i
unfolding stages EqStages dd97 legall dd137 haar0 haar1 fidelity daub97
in_table = each_filter InTable
    (in_table_of 0 (refl, (refl, tt)) (omega arith) (λ l. refl) (λ l. absurd (omega arith)))
    (in_table_of 1 (refl, (refl, tt)) (omega arith) (λ l. refl) (λ l. absurd (omega arith)))
    (in_table_of 2 (refl, (refl, tt)) (omega arith) (λ l. refl) (λ l. absurd (omega arith)))
    (in_table_of 3 (refl, (refl, tt)) (omega arith) (λ l. refl) (λ l. absurd (omega arith)))
    (in_table_of 4 (refl, (refl, tt)) (omega arith) (λ l. refl) (λ l. absurd (omega arith)))
    (in_table_of 5 (refl, (refl, tt)) (omega arith) (λ l. refl) (λ l. absurd (omega arith)))
    (in_table_of 6 (refl, (refl, (refl, (refl, tt)))) (omega arith) (λ l. absurd (omega arith)) (λ l. refl))

-- ---- further laws
-- the counts of taps
either : {X : Type 0} (a b : Bool) → T (a || b) → (T a → X) → (T b → X) → X
either true b h f g = f tt
either false b h f g = g h

count_by : {X : Type 0} (c : ℕ) → T (is_count c) → (c ≡ 1 → X) → (c ≡ 2 → X) → (c ≡ 4 → X) → (c ≡ 8 → X) → X
count_by c h f g k l =
    either (c == 1) (c == 2 || (c == 4 || c == 8)) h (λ t. f (eqb→eq c 1 t))
    (λ r. either (c == 2) (c == 4 || c == 8) r (λ t. g (eqb→eq c 2 t))
    (λ q. either (c == 4) (c == 8) q (λ t. k (eqb→eq c 4 t)) (λ t. l (eqb→eq c 8 t))))

pub count_four : (c : ℕ) → T (is_count c) → (c ≢ 1) → (c ≢ 2) → 4 ≤ c
count_four c h f g = count_by c h (λ e. absurd (f e)) (λ e. absurd (g e)) (λ e. omega arith) (λ e. omega arith)

pub count_eight : (c : ℕ) → T (is_count c) → (c ≢ 1) → (c ≢ 2) → (c ≢ 4) → c ≡ 8
count_eight c h f g k = count_by c h (λ e. absurd (f e)) (λ e. absurd (g e)) (λ e. absurd (k e)) (λ e. e)

-- a stage of the definitions that the code can have, by one computed test, and all of a list
abbrev pub good : Stage → Bool
good st = nat_le st.to 1 && (nat_le st.shift 12 && (nat_le st.ahead 1 && (nat_le st.back 3 && (is_count (length st.taps) && nat_le (length st.taps) 8))))

abbrev pub all_good : List Stage → Bool
all_good [] = true
all_good (s ∷ ss) = good s && all_good ss

left : (a b : Bool) → T (a && b) → T a
left true b h = tt
left false b h = absurd h

right : (a b : Bool) → T (a && b) → T b
right true b h = h
right false b h = absurd h

is_true : (b : Bool) → T b → b ≡ true
is_true true h = refl
is_true false h = absurd h

abbrev padded_taps : Stage → List ℤ
padded_taps st = st.taps ++ replicate (8 - length st.taps) (pos 0)

record Legal (st : Stage) : Type 0 where
  pub side : st.to ≤ 1
  pub shift_le : st.shift ≤ 12
  pub ahead-le : st.ahead ≤ 1
  pub back_le : st.back ≤ 3
  pub counts : is_count (length st.taps) ≡ true
  pub long : length (padded_taps st) ≡ 8

legal_of : (st : Stage) → T (good st) → Legal st
legal_of st g0 =
    let c = length st.taps in
    let t4 : Bool = is_count c && leb c 8 in
    let t3 : Bool = nat_le st.back 3 && t4 in
    let t2 : Bool = nat_le st.ahead 1 && t3 in
    let t1 : Bool = nat_le st.shift 12 && t2 in
    let g1 = right (nat_le st.to 1) t1 g0 in
    let g2 = right (nat_le st.shift 12) t2 g1 in
    let g3 = right (nat_le st.ahead 1) t3 g2 in
    let g4 = right (nat_le st.back 3) t4 g3 in
    let l : c ≤ 8 = leb→le c 8 (right (is_count c) (nat_le c 8) g4) in
    record {
      side = leb→le st.to 1 (left (nat_le st.to 1) t1 g0);
      shift_le = leb→le st.shift 12 (left (nat_le st.shift 12) t2 g1);
      ahead-le = leb→le st.ahead 1 (left (nat_le st.ahead 1) t3 g2);
      back_le = leb→le st.back 3 (left (nat_le st.back 3) t4 g3);
      counts = is_true (is_count c) (left (is_count c) (nat_le c 8) g4);
      long = simp (length-append, length-replicate) (omega arith);
    }

-- it as the code has it, and a list of them
pub code_stage : (st : Stage) → T (good st) → LiftStage
code_stage st g =
    let l = legal_of st g in
    record {
      to = st.to;
      adds = st.adds;
      shift = st.shift;
      ahead = st.ahead;
      back = st.back;
      count = length st.taps;
      taps = padded_taps st;
      side = l.side;
      shift_le = l.shift_le;
      ahead_le = l.ahead-le;
      back_le = l.back_le;
      counts = l.counts;
      long = l.long;
    }

pub code_stages : (ss : List Stage) → T (all_good ss) → List LiftStage
code_stages [] g = []
code_stages (s ∷ ss) g = code_stage s (left (good s) (all_good ss) g) ∷ code_stages ss (right (good s) (all_good ss) g)

is_of : (st : Stage) (g : T (good st)) → stage_of (code_stage st g) ≡ st
unfolding stage_of code_stage
is_of st g = ap (λ (t : List ℤ). record { to = st.to; adds = st.adds; shift = st.shift; ahead = st.ahead; back = st.back; taps = t })
    (take-append_seam st.taps (replicate (8 - length st.taps) (pos 0)))

codes : (ss : List Stage) (g : T (all_good ss)) (j : ℕ) → j < length ss → (d : LiftStage) (e : Stage)
    → stage_of (slice_index_or (code_stages ss g) j d) ≡ slice_index_or ss j e
unfolding code_stages
codes [] g j h d e = absurd (omega arith)
codes (s ∷ ss) g zero h d e = is_of s (left (good s) (all_good ss) g)
codes (s ∷ ss) g (suc j) h d e = codes ss (right (good s) (all_good ss) g) j (omega arith) d e

-- all stages of the table are such
pub goods : T (all_good stages)
unfolding stages dd97 legall dd137 haar0 haar1 fidelity daub97
goods = tt

many : length stages ≡ 16
unfolding stages dd97 legall dd137 haar0 haar1 fidelity daub97
many = refl

pub staged_at : (j : ℕ) (d : LiftStage) → j < 16 → stage_of (slice_index_or (code_stages stages goods) j d) ≡ stage_at j
staged_at j d h = codes stages goods j (rw many h) d (type1 0 0 0 [])
