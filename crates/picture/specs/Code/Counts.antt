-- How many numbers slices have.
use Rattle.std.specs.Prelude.{ℕ, zero, suc, ◌+◌}
use Rattle.unit.specs.Slices.{part_size}
use Rattle.picture.specs.declared.slices.layout.Component.{Component}
use Rattle.picture.specs.declared.slices.layout.Layout.{Layout}
use Rattle.picture.specs.Code.Layout.{band_count, grid_in, band_size}

-- how many numbers slice k has of the first n subbands of a component
unfoldable pub band_numbers_of : Layout → Component → ℕ → ℕ → ℕ
band_numbers_of l c k zero = 0
band_numbers_of l c k (suc n) = band_numbers_of l c k n + part_size (grid_in l) (band_size l c n) k

-- how many numbers slice k has of a component
abbrev pub count_of : Layout → Component → ℕ → ℕ
count_of l c k = band_numbers_of l c k (band_count l)
