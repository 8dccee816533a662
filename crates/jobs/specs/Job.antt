-- The job program: document 01, "Table of marked examples", its last part.
use Rattle.std.specs.Prelude.{Bool, true, false, not, cond, ◌&&◌, ◌||◌, List, [], ◌∷◌, ◌++◌, map, ℕ, zero, suc, ◌+◌, ◌*◌, ◌/◌, ◌%◌, ◌^◌, eqb, leb, ltb, ℤ, length, take, drop, Ok, Err}
use Rattle.unit.specs.Refusal.{any_above}
use Rattle.unit.specs.Words.{word_at, known, settings_of}
use Rattle.unit.specs.Outcome.{Answer, tells, Outcome, outcome_of}

-- ---- words
-- 32-bit words, high byte first; bytes that are no whole word at the end are left out
unfoldable pub words_of : List ℕ → List ℕ
words_of [] = []
words_of (a ∷ []) = []
words_of (a ∷ b ∷ []) = []
words_of (a ∷ b ∷ c ∷ []) = []
words_of (a ∷ b ∷ c ∷ d ∷ bytes) = (a * 2 ^ 24 + b * 2 ^ 16 + c * 2 ^ 8 + d) ∷ words_of bytes

-- the top four bits are the kind, the others the content
abbrev pub kind_of : ℕ → ℕ
kind_of w = w / 2 ^ 28

abbrev pub content_of : ℕ → ℕ
content_of w = w % 2 ^ 28

-- the words of kind k that stand in front, and those behind them
unfoldable pub of_kind : ℕ → List ℕ → List ℕ
of_kind k [] = []
of_kind k (w ∷ ws) = elim (eqb (kind_of w) k) [ true ↦ w ∷ of_kind k ws | false ↦ [] ]

abbrev pub behind : ℕ → List ℕ → List ℕ
behind k ws = drop (length (of_kind k ws)) ws

-- settings, matrix, luma and colours by their content, and what stands behind them
pub record Parts : Type 0 where
  pub settings : List ℕ
  pub matrix : List ℕ
  pub y : List ℕ
  pub c1 : List ℕ
  pub c2 : List ℕ
  pub rest : List ℕ

unfoldable pub parts_of : List ℕ → Parts
parts_of ws =
    let r0 = behind 0 ws in
    let r1 = behind 1 r0 in
    let r2 = behind 2 r1 in
    let r3 = behind 3 r2 in
    record {
      settings = map content_of (of_kind 0 ws);
      matrix = map content_of (of_kind 1 r0);
      y = map content_of (of_kind 2 r1);
      c1 = map content_of (of_kind 3 r2);
      c2 = map content_of (of_kind 4 r3);
      rest = behind 4 r3;
    }

-- ---- what is malformed
-- one last word of kind 15, content 0
abbrev pub is_end : List ℕ → Bool
is_end [] = false
is_end (w ∷ []) = eqb w (15 * 2 ^ 28)
is_end (w ∷ v ∷ ws) = false

-- words in order, none missing, settings among their values; lossless has rate number 0; matrix words only where custom
-- is 1, at most 64 of them and 4,096 sample words, none above 65,535
unfoldable pub in_order : List ℕ → Bool
in_order ws =
    let p = parts_of ws in
    let w : ℕ → ℕ = word_at p.settings in
    known p.settings && (is_end p.rest && ((not (eqb (w 9) 0) || eqb (w 10) 0)
    && (leb (length p.matrix) 64 && ((not (eqb (w 18) 0) || eqb (length p.matrix) 0)
    && (leb (length p.y + length p.c1 + length p.c2) 4096
    && not (any_above 65535 p.matrix || (any_above 65535 p.y || (any_above 65535 p.c1 || any_above 65535 p.c2))))))))

-- whole words in order
abbrev pub well_formed : List ℕ → Bool
well_formed bytes = eqb (length bytes % 4) 0 && in_order (words_of bytes)

-- ---- text
-- n in decimal digits; f bounds them
unfoldable pub decimal_from : ℕ → ℕ → List ℕ
decimal_from zero n = []
decimal_from (suc f) n = elim (ltb n 10) [ true ↦ (48 + n) ∷ [] | false ↦ decimal_from f (n / 10) ++ ((48 + n % 10) ∷ []) ]

abbrev pub decimal : ℕ → List ℕ
decimal n = decimal_from (suc n) n

-- numbers with one space between, and a line feed
unfoldable pub line_of : List ℕ → List ℕ
line_of [] = 10 ∷ []
line_of (n ∷ []) = decimal n ++ (10 ∷ [])
line_of (n ∷ m ∷ ns) = decimal n ++ (32 ∷ line_of (m ∷ ns))

abbrev pub hex_digit : ℕ → ℕ
hex_digit d = cond (ltb d 10) (48 + d) (55 + d)

-- a space, or a line feed behind 16 bytes and behind the last one
abbrev pub separator : ℕ → List ℕ → ℕ
separator i [] = 10
separator i (b ∷ bs) = cond (eqb (i % 16) 15) 10 32

-- bytes as two digits each; the first one is the i-th
unfoldable pub bytes_from : ℕ → List ℕ → List ℕ
bytes_from i [] = []
bytes_from i (b ∷ bs) = hex_digit (b / 16) ∷ hex_digit (b % 16) ∷ separator i bs ∷ bytes_from (suc i) bs

-- the bytes that are printed: an accepted call's unit
abbrev pub unit_in : Answer → List ℕ → List ℕ
unit_in (Ok c) out = take c.written out
unit_in (Err r) out = []

unfoldable pub text_of : Outcome → List ℕ
text_of o = line_of (tells o.answer) ++ bytes_from 0 (unit_in o.answer o.output)

-- `job` and a line feed
abbrev pub job_text : List ℕ
job_text = 106 ∷ 111 ∷ 98 ∷ 10 ∷ []

-- the outcome of the call of a job's words, where output and work slice are lent as out and work
abbrev pub outcome_in : List ℕ → List ℕ → List ℤ → Outcome
outcome_in ws out work =
    let p = parts_of ws in
    outcome_of (settings_of p.settings) p.matrix (record { y = p.y; c1 = p.c1; c2 = p.c2 }) out work

-- what a job prints
unfoldable pub printed : List ℕ → List ℕ → List ℤ → List ℕ
printed bytes out work = elim (well_formed bytes) [ true ↦ text_of (outcome_in (words_of bytes) out work) | false ↦ job_text ]
