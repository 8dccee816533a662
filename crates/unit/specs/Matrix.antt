-- The quantisation matrix of a call, and whether its unit carries it: document 01, "Settings the box is given"; Annex
-- D.
use Rattle.std.specs.Prelude.{true, false, List, [], ℕ}
use Rattle.std.proofs.Math.Option.{Option, none, some, get_or}
use Rattle.quantiser.specs.AnnexD.{default_matrix}
use Rattle.unit.specs.declared.Settings.{Settings}

-- the default matrix of Annex D, if there is one
abbrev pub default_of : Settings → Option (List ℕ)
default_of s = default_matrix s.wavelet_index s.wavelet_index_ho s.dwt_depth s.dwt_depth_ho

-- the values in subband order; m is the lent matrix, which is looked at only where a custom one is asked for
unfoldable pub matrix_values : Settings → List ℕ → List ℕ
matrix_values s m = elim s.custom_matrix [ true ↦ m | false ↦ get_or (default_of s) [] ]

-- the custom matrix that the unit carries, if any
unfoldable pub carried_matrix : Settings → List ℕ → Option (List ℕ)
carried_matrix s m = elim s.custom_matrix [ true ↦ some m | false ↦ none ]
