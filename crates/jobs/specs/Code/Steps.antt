-- What the functions of the job program give, for their contracts.
use Rattle.std.specs.Prelude.{◌≡◌, Bool, true, false, not, cond, ◌&&◌, ◌||◌, List, [], ◌∷◌, ℕ, ◌+◌, ◌*◌, ◌/◌, ◌%◌, ◌^◌, eqb, leb, ℤ, length, drop, get_or}
use Rattle.unit.specs.Outcome.{Answer}
use Rattle.jobs.specs.declared.parse.Ends.{Ends}
use Rattle.jobs.specs.Job.{of_kind, in_order, hex_digit, outcome_in, text_of, job_text}

-- ---- words
-- the word whose bytes stand from i on
abbrev pub word_from : List ℕ → ℕ → ℕ
word_from bytes i = get_or bytes i 0 * 2 ^ 24 + get_or bytes (i + 1) 0 * 2 ^ 16 + get_or bytes (i + 2) 0 * 2 ^ 8 + get_or bytes (i + 3) 0

-- where the words of kind k that stand from place from on end
abbrev pub run_end : ℕ → List ℕ → ℕ → ℕ
run_end k ws from = from + length (of_kind k (drop from ws))

-- where the words of each kind end
unfoldable pub ends_of : List ℕ → Ends
ends_of ws =
    let s = run_end 0 ws 0 in
    let m = run_end 1 ws s in
    let y = run_end 2 ws m in
    let c1 = run_end 3 ws y in
    record { settings = s; matrix = m; y = y; c1 = c1; c2 = run_end 4 ws c1 }

-- lossless has rate number 0; matrix words only where custom is 1, at most 64 of them and 4,096 sample words
abbrev pub counted : ℕ → ℕ → ℕ → ℕ → ℕ → Bool
counted rate number custom matrix samples = (not (eqb rate 0) || eqb number 0) && leb matrix 64 && (not (eqb custom 0) || eqb matrix 0) && leb samples 4096

-- ---- text
-- a byte in two digits, and what stands behind it
abbrev pub chunk : ℕ → Bool → List ℕ
chunk b last = hex_digit (b / 16) ∷ hex_digit (b % 16) ∷ cond last 10 32 ∷ []

-- ---- the job
-- what the call of a job leaves
pub record Called (ws out : List ℕ) (work : List ℤ) (out' : List ℕ) (work' : List ℤ) (r : Answer) : Type 0 where
  pub answer : r ≡ (outcome_in ws out work).answer
  pub output : out' ≡ (outcome_in ws out work).output
  pub work_left : work' ≡ (outcome_in ws out work).work

-- what is printed of whole words
unfoldable pub printed_by : List ℕ → List ℕ → List ℤ → List ℕ
printed_by ws out work = elim (in_order ws) [ true ↦ text_of (outcome_in ws out work) | false ↦ job_text ]
