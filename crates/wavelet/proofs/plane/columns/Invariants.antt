-- `plane::columns` meets its contract. The loop's invariant: all stages from k on are undone in every column.
use Rattle.std.proofs.Common.{◌≡◌, drop}
use Rattle.laws.specs.Wrap.{wrap}
use Rattle.laws.specs.Plane.{as_plane, as_list}
use Rattle.wavelet.specs.Lifting.{analysis}
use Rattle.wavelet.specs.Filters.{filter_of}
use Rattle.wavelet.specs.Planes.{columns_by}
use Rattle.wavelet.proofs.plane.columns.Given as goal

abbrev pub invariant-loop-k : goal.invariant-loop-k
invariant-loop-k l = l.plane ≡ as_list l.h l.w (columns_by (analysis wrap (drop l.k (filter_of l.index).stages)) l.h l.w (as_plane l.w l.initial.plane))
