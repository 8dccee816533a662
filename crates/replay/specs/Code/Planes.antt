-- What the transform of a case asks.
use Rattle.std.specs.Prelude.{◌≡◌, ℕ, ◌*◌, ◌≤◌, List, ℤ, length}
use Rattle.wavelet.specs.declared.shape.Component.{Component}
use Rattle.wavelet.specs.declared.shape.Transform.{Transform}
use Rattle.wavelet.specs.Code.Walk.{Deep}

-- sides and depths of a case
pub record SmallSides (c : Component) (t : Transform) : Type 0 where
  pub some_w : 1 ≤ c.w
  pub some_h : 1 ≤ c.h
  pub few_w : c.w ≤ 256
  pub few_h : c.h ≤ 256
  pub k_le : t.k ≤ 5
  pub d_le : t.d ≤ 5
  pub ih_le : t.ih ≤ 6
  pub iv_le : t.iv ≤ 6

-- r is the component c with its padded sides
pub record Full (c : Component) (t : Transform) (r : Component) : Type 0 where
  pub deep : Deep t.k t.d r.ph r.pw t.ih t.iv
  pub w : r.w ≡ c.w
  pub h : r.h ≡ c.h
  pub padded : r.ph * r.pw ≤ 65536 * 65536
  pub whole : r.h * r.w ≤ 256 * 256

-- what the transform of n samples in the numbers l asks
pub record SidesFit (c : Component) (t : Transform) (n : ℕ) (l : List ℤ) : Type 0 where
  pub deep : Deep t.k t.d c.ph c.pw t.ih t.iv
  pub some_w : 1 ≤ c.w
  pub some_h : 1 ≤ c.h
  pub whole : c.h * c.w ≤ n
  pub few : n ≤ 8192
  pub small : c.ph * c.pw ≤ 8192
  pub room : 16384 ≤ length l
