-- What the row call answers, for its code.
use Rattle.std.specs.Prelude.{◌≡◌, ℕ, ◌<◌, ◌≤◌, List, length, ℤ}
use Rattle.std.proofs.Common.{lt-ltb, le-ltb}
use Rattle.laws.specs.Wrap.{wrap}
use Rattle.wavelet.specs.Filters.{last_wavelet, analysis_by}
use Rattle.wavelet.specs.RowCall.{row_limit, answer_of, Analysed}

-- ---- for the code
pub refuse_filter : (i : ℕ) (xs : List ℤ) → last_wavelet < i → Analysed i xs xs 1
unfolding answer_of
refuse_filter i xs h = record { answer = rw (lt-ltb last_wavelet i h); row = rw (lt-ltb last_wavelet i h) }

pub refuse_long : (i : ℕ) (xs : List ℤ) → i ≤ last_wavelet → row_limit < length xs → Analysed i xs xs 15
unfolding answer_of
refuse_long i xs h l = record { answer = rw (le-ltb last_wavelet i h, lt-ltb row_limit (length xs) l); row = rw (le-ltb last_wavelet i h, lt-ltb row_limit (length xs) l) }

pub analysed : (i : ℕ) (xs ys : List ℤ) → i ≤ last_wavelet → length xs ≤ row_limit → ys ≡ analysis_by wrap i xs → Analysed i xs ys 0
unfolding answer_of
analysed i xs ys h l e = record { answer = rw (le-ltb last_wavelet i h, le-ltb row_limit (length xs) l); row = rw (le-ltb last_wavelet i h, le-ltb row_limit (length xs) l) e }
