-- What the transform of a case asks.
use Rattle.std.specs.Prelude.{◌≡◌, ℕ, ◌+◌, ◌≤◌, ◌^◌, ◌-◌}
use Rattle.std.proofs.Common.{mul-le-mul, div-mul-le_self, arith, pow_mono}
use Rattle.wavelet.specs.declared.shape.Component.{Component}
use Rattle.wavelet.specs.declared.shape.Transform.{Transform}
use Rattle.wavelet.specs.Pad.{padded_side}
use Rattle.wavelet.specs.Laws.Pad.{padded_sides}
use Rattle.replay.specs.Code.Planes.{SmallSides, Full}

side_le : (n side : ℕ) → n ≤ 10 → side ≤ 256 → padded_side n side ≤ 65536
side_le n side hn hs =
    let p = pow_mono {i = n} {j = 10} hn in
    omega (arith, div-mul-le_self (side + (2 ^ n - 1)) (2 ^ n))

pub full : (c r : Component) (t : Transform) → SmallSides c t → r.w ≡ c.w → r.h ≡ c.h → r.pw ≡ padded_side (t.k + t.d) c.w → r.ph ≡ padded_side t.d c.h
    → Full c t r
full c r t s ew eh ep eq =
    let a = side_le (t.k + t.d) c.w (omega (arith, s.k_le, s.d_le)) s.few_w in
    let b = side_le t.d c.h (omega (arith, s.d_le)) s.few_h in
    record {
      deep = rw (ep, eq) (record { sides = padded_sides t.k t.d c.w c.h; h_le = b; w_le = a; ih_le = s.ih_le; iv_le = s.iv_le });
      w = ew;
      h = eh;
      padded = rw (ep, eq) (mul-le-mul b a);
      whole = rw (ew, eh) (mul-le-mul s.few_h s.few_w);
    }
