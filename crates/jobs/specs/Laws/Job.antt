-- From what the parts of the job program leave to what a job prints.
use Rattle.std.specs.Prelude.{◌≡◌, refl, Bool, true, false, ◌&&◌, List, ◌++◌, map, ℕ, zero, suc, ◌+◌, ◌*◌, ◌-◌, ◌%◌, ◌≤◌, ℤ, length, take, drop}
use Rattle.std.proofs.Common.{sym, ap, ap₂, ◌∙◌, append_assoc, arith, length-append, take_at, drop_at, eq-eqb, ne_eqb}
use Rattle.std.proofs.lemmas.List.{map-append}
use Rattle.laws.specs.Code.Laid.{Lays}
use Rattle.unit.specs.declared.Settings.{Settings}
use Rattle.unit.specs.Three.{Three, planes}
use Rattle.unit.specs.Plan.{Plan}
use Rattle.unit.specs.Unit.{plan_of, length_of}
use Rattle.unit.specs.Refusal.{any_above, refusal_of}
use Rattle.unit.specs.Words.{known, settings_of}
use Rattle.unit.specs.Outcome.{Answer, tells, length_in, coded_of, coding_refusal, coded_if, coded, Outcome, outcome_if, outcome_of}
use Rattle.unit.proofs.Laws.Demand.{not-long}
use Rattle.unit.specs.Encoded.{Encodes}
use Rattle.jobs.specs.declared.parse.Ends.{Ends}
use Rattle.jobs.specs.Job.{words_of, content_of, parts_of, in_order, line_of, bytes_from, unit_in, text_of, job_text, outcome_in, printed}
use Rattle.jobs.specs.Code.Steps.{ends_of, Called, printed_by}
use Rattle.jobs.specs.Laws.Print.{lays_same, lays_read}
use Rattle.jobs.specs.Laws.Parse.{part, lent_rest, part-long, part_join, length_part, contents_count, parted, ready}

-- ---- the call
-- what a well-formed job allows, where matrix and samples have m and k places
pub record Able (ws : List ℕ) (e : Ends) (m k : ℕ) : Type 0 where
  pub to-matrix : e.settings ≤ e.matrix
  pub to_y : e.matrix ≤ e.y
  pub to_c1 : e.y ≤ e.c1
  pub to_c2 : e.c1 ≤ e.c2
  pub within : e.c2 ≤ length ws
  pub matrix_room : e.matrix - e.settings ≤ m
  pub samples_room : e.c2 - e.matrix ≤ k
  pub settings_known : known (take e.settings ws) ≡ true
  pub samples_small : any_above 65535 (map content_of (part e.matrix e.c2 ws)) ≡ false

pub able : (ws : List ℕ) (e : Ends) (m k : ℕ) → (e ≡ ends_of ws) × ((in_order ws ≡ true) × ((64 ≤ m) × (4096 ≤ k))) → Able ws e m k
able ws e m k pre =
    let q = parted ws e pre.0 in
    let d = ready ws e pre.0 pre.1.0 in
    record {
      to-matrix = q.to-matrix;
      to_y = q.to_y;
      to_c1 = q.to_c1;
      to_c2 = q.to_c2;
      within = q.within;
      matrix_room = omega (arith, d.matrix_few, pre.1.1.0);
      samples_room = omega (arith, d.samples_few, pre.1.1.1);
      settings_known = d.settings_known;
      samples_small = d.samples_small;
    }

-- contents that were laid, read again
pub loaded : (b ws b' : List ℕ) (i j : ℕ) → i ≤ j → j ≤ length ws → j - i ≤ length b → Lays b 0 (map content_of (part i j ws)) b' (length (part i j ws))
    → take (j - i) b' ≡ map content_of (part i j ws)
loaded b ws b' i j h l n p =
    let k = length_part i j ws h l in
    ap (λ (x : ℕ). take x b') (sym k) ∙ lays_read b (map content_of (part i j ws)) b' (length (part i j ws)) p (omega (arith, contents_count (part i j ws), k))

-- a part that is lent up to the end
pub lent-to_end : {s : Settings} {m : List ℕ} (a b l : List ℕ) (i : ℕ) {out : List ℕ} {work : List ℤ} {out' : List ℕ} {work' : List ℤ} {r : Answer}
    → Encodes s m (planes a b (take (length l - i) (drop i l))) out work out' work' r → Encodes s m (planes a b (drop i l)) out work out' work' r
lent-to_end a b l i h = rw (lent_rest i l) at h

-- luma and colours, one behind the other
module _ (ws : List ℕ) (e : Ends) (ends : e ≡ ends_of ws) where
  abbrev pub samples_in : List ℕ
  samples_in = map content_of (part e.matrix e.c2 ws)

  samples_are : let p = parts_of ws in samples_in ≡ p.y ++ (p.c1 ++ p.c2)
  samples_are =
      let q = parted ws e ends in
      let m = e.matrix in
      let y = e.y in
      let c1 = e.c1 in
      let c2 = e.c2 in
      ap (map content_of) (part_join m y c2 ws q.to_y (omega (arith, q.to_c1, q.to_c2)))
      ∙ map-append content_of (part m y ws) (part y c2 ws)
      ∙ ap₂ ◌++◌ (sym q.y_is) (ap (map content_of) (part_join y c1 c2 ws q.to_c1 q.to_c2) ∙ map-append content_of (part y c1 ws) (part c1 c2 ws) ∙ ap₂ ◌++◌ (sym q.c1_is) (sym q.c2_is))

  -- the planes that are lent from the samples
  planes_are : let p = parts_of ws in
      let y = e.y - e.matrix in
      let c1 = e.c1 - e.matrix in
      planes (take y samples_in) (take (c1 - y) (drop y samples_in)) (drop c1 samples_in) ≡ record { y = p.y; c1 = p.c1; c2 = p.c2 }
  planes_are =
      let q = parted ws e ends in
      let p = parts_of ws in
      let y = e.y - e.matrix in
      let c1 = e.c1 - e.matrix in
      let y-long = part-long p.y ws e.matrix e.y q.y_is q.to_y (omega (arith, q.to_c1, q.to_c2, q.within)) in
      let c1-long = part-long p.c1 ws e.y e.c1 q.c1_is q.to_c1 (omega (arith, q.to_c2, q.within)) in
      let n : c1 - y ≡ e.c1 - e.y = omega (arith, q.to_y, q.to_c1) in
      let t = drop_at p.y (p.c1 ++ p.c2) y y-long in
      let a : take y samples_in ≡ p.y = ap (take y) samples_are ∙ take_at p.y (p.c1 ++ p.c2) y y-long in
      let b : take (c1 - y) (drop y samples_in) ≡ p.c1 = ap (λ (l : List ℕ). take (c1 - y) (drop y l)) samples_are ∙ ap (take (c1 - y)) t ∙ take_at p.c1 p.c2 (c1 - y) (c1-long ∙ sym n) in
      let d : drop c1 samples_in ≡ p.c2 =
      ap (drop c1) (samples_are ∙ sym (append_assoc p.y p.c1 p.c2))
      ∙ drop_at (p.y ++ p.c1) p.c2 c1 (length-append p.y p.c1 ∙ omega (arith, y-long, c1-long, q.to_y, q.to_c1)) in
      rw (a, b, d)

  -- the picture call on what is lent
  pub called_from : {s : Settings} {m samples out : List ℕ} {work : List ℤ} {out' : List ℕ} {work' : List ℤ} {r : Answer}
      → s ≡ settings_of (take e.settings ws) → m ≡ map content_of (part e.settings e.matrix ws) → samples ≡ samples_in
      → let y = e.y - e.matrix in
      let c1 = e.c1 - e.matrix in
      Encodes s m (planes (take y samples) (take (c1 - y) (drop y samples)) (drop c1 samples)) out work out' work' r → Called ws out work out' work' r
  called_from {s} {m} {samples} {out} {work} {out'} {work'} {r} hs hm hp h =
      let q = parted ws e ends in
      let p = parts_of ws in
      let y = e.y - e.matrix in
      let c1 = e.c1 - e.matrix in
      let k = ap (λ (l : List ℕ). planes (take y l) (take (c1 - y) (drop y l)) (drop c1 l)) hp ∙ planes_are in
      let o : outcome_of s m (planes (take y samples) (take (c1 - y) (drop y samples)) (drop c1 samples)) out work ≡ outcome_in ws out work =
      rw (k, hm, hs, q.settings_are, q.matrix_is) in
      record {
        answer = h.answer ∙ ap (λ (x : Outcome). x.answer) o;
        output = h.output ∙ ap (λ (x : Outcome). x.output) o;
        work_left = h.work_left ∙ ap (λ (x : Outcome). x.work) o;
      }

-- an accepted unit fits the output
coded-fits : (s : Settings) (a : Plan) (out : List ℕ) (work : List ℤ) → length_in (coded s a out work).answer ≤ length out
unfolding coded_of
coded-fits s a out work = by (coding_refusal (length out) (length_of s a)) refl
  where
    by : (n : ℕ) → coding_refusal (length out) (length_of s a) ≡ n → length_in (coded_if s a out work n).answer ≤ length out
    by zero h = (not-long (length out) (length_of s a) h).0
    by (suc n) h = omega arith

pub unit-fits : (s : Settings) (m : List ℕ) (p : Three (List ℕ)) (out : List ℕ) (work : List ℤ) → length_in (outcome_of s m p out work).answer ≤ length out
unfolding outcome_of
unit-fits s m p out work = by (refusal_of s m p work)
  where
    by : (n : ℕ) → length_in (outcome_if s m p out work n).answer ≤ length out
    by zero = coded-fits s (plan_of s m p) out work
    by (suc n) = omega arith

-- the room for its text
pub answer_room : (ws out : List ℕ) (work : List ℤ) (out' : List ℕ) (work' : List ℤ) (r : Answer) (n : ℕ) → Called ws out work out' work' r → length out' ≡ length out
    → length out ≤ 8192 → 24640 ≤ n → (length_in r ≤ length out') × (44 + 3 * length_in r ≤ n)
answer_room ws out work out' work' r n c k h l =
    let p = parts_of ws in
    let f : length_in r ≤ length out = rw c.answer (unit-fits (settings_of p.settings) p.matrix (record { y = p.y; c1 = p.c1; c2 = p.c2 }) out work) in
    (omega arith, omega arith)

-- ---- the text
-- what is printed of a job in order, and of another
pub answer_laid : {t t' : List ℕ} {e : ℕ} (ws out : List ℕ) (work : List ℤ) (out' : List ℕ) (work' : List ℤ) (r : Answer) → in_order ws ≡ true → Called ws out work out' work' r
    → Lays t 0 (line_of (tells r) ++ bytes_from 0 (unit_in r out')) t' e → Lays t 0 (printed_by ws out work) t' e
unfolding printed_by text_of
answer_laid ws out work out' work' r h c l =
    let o = outcome_in ws out work in
    let same : line_of (tells r) ++ bytes_from 0 (unit_in r out') ≡ text_of o = rw (c.answer, c.output) in
    let as-true : text_of o ≡ printed_by ws out work = ap (λ (b : Bool). elim b [ true ↦ text_of o | false ↦ job_text ]) (sym h) in
    lays_same (same ∙ as-true) l

pub job-laid : {t t' : List ℕ} {e : ℕ} (ws out : List ℕ) (work : List ℤ) → in_order ws ≡ false → Lays t 0 job_text t' e → Lays t 0 (printed_by ws out work) t' e
unfolding printed_by
job-laid ws out work h l = lays_same (ap (λ (b : Bool). elim b [ true ↦ text_of (outcome_in ws out work) | false ↦ job_text ]) (sym h)) l

-- whole words, and bytes that are none
printed-whole : (bytes out : List ℕ) (work : List ℤ) → length bytes % 4 ≡ 0 → printed_by (words_of bytes) out work ≡ printed bytes out work
unfolding printed_by printed
printed-whole bytes out work h =
    ap (λ (b : Bool). elim (b && in_order (words_of bytes)) [ true ↦ text_of (outcome_in (words_of bytes) out work) | false ↦ job_text ])
    (sym (eq-eqb (length bytes % 4) 0 h))

printed-odd : (bytes out : List ℕ) (work : List ℤ) → (length bytes % 4 ≡ 0 → ⊥) → job_text ≡ printed bytes out work
unfolding printed
printed-odd bytes out work h =
    ap (λ (b : Bool). elim (b && in_order (words_of bytes)) [ true ↦ text_of (outcome_in (words_of bytes) out work) | false ↦ job_text ])
    (sym (ne_eqb (length bytes % 4) 0 h))

-- what stands at the text's start
pub whole-read : (bytes out : List ℕ) (work : List ℤ) (ws t t' : List ℕ) (r : ℕ) → length bytes % 4 ≡ 0 → ws ≡ words_of bytes → Lays t 0 (printed_by ws out work) t' r
    → r ≤ length t' → take r t' ≡ printed bytes out work
whole-read bytes out work ws t t' r h e l n =
    lays_read t (printed_by ws out work) t' r l (omega (arith, l.next, l.size)) ∙ ap (λ (x : List ℕ). printed_by x out work) e ∙ printed-whole bytes out work h

pub odd-read : (bytes out : List ℕ) (work : List ℤ) (t t' : List ℕ) (r : ℕ) → (length bytes % 4 ≡ 0 → ⊥) → Lays t 0 job_text t' r → 4 ≤ length t
    → take r t' ≡ printed bytes out work
odd-read bytes out work t t' r h l n = lays_read t job_text t' r l n ∙ printed-odd bytes out work h
