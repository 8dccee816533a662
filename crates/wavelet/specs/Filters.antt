-- The seven filters: ST 2042-1, Tables 16 to 22, by the wavelet index of Table 15.
use Rattle.std.specs.Prelude.{ℕ, true, false, List, [], ◌∷◌, ℤ, pos, negsuc, slice_index_or}
use Rattle.wavelet.specs.Lifting.{Stage, synthesis, analysis}

-- bits: the filter's shift, 15.4.2 and 15.4.3
pub record Filter : Type 0 where
  pub stages : List Stage
  pub bits : ℕ

-- a stage by the standard's type, S, D as ahead less back, and taps
abbrev pub type1 : ℕ → ℕ → ℕ → List ℤ → Stage
type1 s a b t = record { to = 0; adds = true; shift = s; ahead = a; back = b; taps = t }

abbrev pub type2 : ℕ → ℕ → ℕ → List ℤ → Stage
type2 s a b t = record { to = 0; adds = false; shift = s; ahead = a; back = b; taps = t }

abbrev pub type3 : ℕ → ℕ → ℕ → List ℤ → Stage
type3 s a b t = record { to = 1; adds = true; shift = s; ahead = a; back = b; taps = t }

abbrev pub type4 : ℕ → ℕ → ℕ → List ℤ → Stage
type4 s a b t = record { to = 1; adds = false; shift = s; ahead = a; back = b; taps = t }

-- Table 16: Deslauriers-Dubuc (9,7)
unfoldable pub dd97 : Filter
dd97 = record {
  stages =
      type2 2 0 0 (pos 1 ∷ pos 1 ∷ []) ∷
      type3 4 0 1 (negsuc 0 ∷ pos 9 ∷ pos 9 ∷ negsuc 0 ∷ []) ∷
      [];
  bits = 1;
}

-- Table 17: LeGall (5,3)
unfoldable pub legall : Filter
legall = record {
  stages =
      type2 2 0 0 (pos 1 ∷ pos 1 ∷ []) ∷
      type3 1 0 0 (pos 1 ∷ pos 1 ∷ []) ∷
      [];
  bits = 1;
}

-- Table 18: Deslauriers-Dubuc (13,7)
unfoldable pub dd137 : Filter
dd137 = record {
  stages =
      type2 5 0 1 (negsuc 0 ∷ pos 9 ∷ pos 9 ∷ negsuc 0 ∷ []) ∷
      type3 4 0 1 (negsuc 0 ∷ pos 9 ∷ pos 9 ∷ negsuc 0 ∷ []) ∷
      [];
  bits = 1;
}

-- Table 19: Haar with no shift
unfoldable pub haar0 : Filter
haar0 = record {
  stages =
      type2 1 1 0 (pos 1 ∷ []) ∷
      type3 0 0 0 (pos 1 ∷ []) ∷
      [];
  bits = 0;
}

-- Table 20: Haar with a single shift
unfoldable pub haar1 : Filter
haar1 = record {
  stages =
      type2 1 1 0 (pos 1 ∷ []) ∷
      type3 0 0 0 (pos 1 ∷ []) ∷
      [];
  bits = 1;
}

-- Table 21: Fidelity
unfoldable pub fidelity : Filter
fidelity = record {
  stages =
      type3 8 0 3 (negsuc 1 ∷ pos 10 ∷ negsuc 24 ∷ pos 81 ∷ pos 81 ∷ negsuc 24 ∷ pos 10 ∷ negsuc 1 ∷ []) ∷
      type2 8 0 3 (negsuc 7 ∷ pos 21 ∷ negsuc 45 ∷ pos 161 ∷ pos 161 ∷ negsuc 45 ∷ pos 21 ∷ negsuc 7 ∷ []) ∷
      [];
  bits = 0;
}

-- Table 22: Daubechies (9,7), integer approximation
unfoldable pub daub97 : Filter
daub97 = record {
  stages =
      type2 12 0 0 (pos 1817 ∷ pos 1817 ∷ []) ∷
      type4 12 0 0 (pos 3616 ∷ pos 3616 ∷ []) ∷
      type1 12 0 0 (pos 217 ∷ pos 217 ∷ []) ∷
      type3 12 0 0 (pos 6497 ∷ pos 6497 ∷ []) ∷
      [];
  bits = 1;
}

abbrev pub filters : List Filter
filters = dd97 ∷ legall ∷ dd137 ∷ haar0 ∷ haar1 ∷ fidelity ∷ daub97 ∷ []

-- the last wavelet index: document 01, refusal 1
abbrev pub last_wavelet : ℕ
last_wavelet = 6

-- the filter of a wavelet index up to it
abbrev pub filter_of : ℕ → Filter
filter_of i = slice_index_or filters i haar0

-- a row by filter i
abbrev pub analysis_by : (ℤ → ℤ) → ℕ → List ℤ → List ℤ
analysis_by wr i = analysis wr (filter_of i).stages

abbrev pub synthesis_by : (ℤ → ℤ) → ℕ → List ℤ → List ℤ
synthesis_by wr i = synthesis wr (filter_of i).stages
