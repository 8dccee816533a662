-- Laws of a picture in the work slice: the runs of a slice can be read.
use Rattle.std.specs.Prelude.{◌≡◌, List, ℕ, ◌*◌, ℤ}
use Rattle.std.proofs.Common.{ap₂, arith}
use Rattle.picture.specs.declared.slices.layout.Component.{Component}
use Rattle.picture.specs.declared.slices.layout.Picture.{Picture}
use Rattle.picture.specs.Code.Layout.{RunIn}
use Rattle.picture.specs.Code.Picture.{Placed, SliceIn}

-- the runs of single components
module _ {p : Picture} {w : List ℤ} {k q : ℕ} (h : SliceIn p w k q) where
  run_placed : (c : Component) → Placed p c → RunIn p.layout c c p.front p.end k q w
  run_placed c d = record {
    layout = h.arranged.layout;
    first = d.fits;
    other = d.fits;
    slice = h.slice;
    index = h.index;
    small = h.small;
    coefs = d.coefs;
    coefs2 = d.coefs;
    rebuilt = d.rebuilt;
    rebuilt2 = d.rebuilt;
  }

  pub run_y : RunIn p.layout p.y p.y p.front p.end k q w
  run_y = run_placed p.y h.arranged.y

  pub run_c1 : RunIn p.layout p.c1 p.c1 p.front p.end k q w
  run_c1 = run_placed p.c1 h.arranged.c1

  pub run_c2 : RunIn p.layout p.c2 p.c2 p.front p.end k q w
  run_c2 = run_placed p.c2 h.arranged.c2

-- the two colours together
pub run_pair : {p : Picture} {w : List ℤ} {k q : ℕ} → SliceIn p w k q → RunIn p.layout p.c1 p.c2 p.front p.end k q w
run_pair {p = p} s =
    let a = s.arranged in
    let e : p.c2.width * p.c2.height ≡ p.c1.width * p.c1.height = ap₂ ◌*◌ a.wide a.high in
    record {
      layout = a.layout;
      first = a.c1.fits;
      other = a.c2.fits;
      slice = s.slice;
      index = s.index;
      small = s.small;
      coefs = a.c1.coefs;
      coefs2 = (a.c2.coefs.0, omega (arith, a.c2.coefs.1));
      rebuilt = a.c1.rebuilt;
      rebuilt2 = omega (arith, a.c2.rebuilt);
    }
