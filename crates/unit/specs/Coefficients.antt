-- The coefficients of a picture: document 01, "Coefficients".
use Rattle.std.specs.Prelude.{List, ℕ}
use Rattle.wavelet.specs.Lifting.{exact}
use Rattle.wavelet.specs.Planes.{Band, dwt}
use Rattle.wavelet.specs.Pad.{padded}
use Rattle.unit.specs.declared.Settings.{Settings}
use Rattle.unit.specs.Three.{Three}
use Rattle.unit.specs.Sizes.{Size, sizes_of, depths_of, offset_of}
use Rattle.unit.specs.Subbands.{padded_size}

-- the subbands of one component of size z and depth d, in the stream's order
unfoldable pub bands_of : Settings → Size → ℕ → List ℕ → List Band
bands_of s z d samples =
    let p = padded_size s.dwt_depth_ho s.dwt_depth z in
    dwt exact s.wavelet_index_ho s.wavelet_index s.dwt_depth_ho s.dwt_depth p.height p.width
    (padded samples (offset_of d) z.width z.height)

unfoldable pub coefficients_of : Settings → Three (List ℕ) → Three (List Band)
coefficients_of s p =
    let z = sizes_of s in
    let d = depths_of s in
    record {
      y = bands_of s z.y d.y p.y;
      c1 = bands_of s z.c1 d.c1 p.c1;
      c2 = bands_of s z.c2 d.c2 p.c2;
    }
