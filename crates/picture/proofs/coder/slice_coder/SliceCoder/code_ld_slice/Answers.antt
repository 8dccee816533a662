-- `SliceCoder::code_ld_slice` meets its contract.
use mathlib.Core.Path.{refl, ap, ◌∙◌}
use Prim.Native.Nat.{ℕ, ◌+◌}
use lib.ListN.{length}
use Rattle.codewords.specs.Laws.Bit.{byte_val}
use Rattle.picture.specs.Code.Picture.{SliceIn}
use Rattle.picture.specs.Laws.LowRest.{slice_at, known-rebuilt}
use Rattle.picture.specs.Laws.LowSlice.{slice_fits, elects}
use native.Mathlib.Omega.{arith}
use Rattle.picture.proofs.coder.slice_coder.SliceCoder.code_ld_slice.Goals as goal

pub put_ld_slice-z-requires : goal.put_ld_slice-z-requires
put_ld_slice-z-requires c =
    let a = c.args in
    let s = c.new-s.ensures in
    let d = c.slice_count in
    let b = c.slice_bytes-bytes in
    let q = c.elect_qindex-e in
    let v = c.rebuild_planes in
    let t = rw (s.0, s.1) at q.ensures in
    let r = rw (s.0, s.1) at v.ensures in
    let h : SliceIn a.p q.new.work a.k q.result.index = record { arranged = c.requires.0.arranged; small = t.1.1.0.small; slice = c.requires.1.0; index = omega (arith, t.1.0) } in
    rw (s.0, s.1) (
      slice_at v.new.work q.result.index h r.1 h.index,
      (
        (b.ensures.1.0, omega (arith, b.ensures.1.1, c.requires.0.few)),
        (
          slice_fits a.p a.n a.work.now a.k d.result b.result d.ensures.0 b.ensures.0 a.self.at (length a.out.now) b.ensures.1.0 c.requires.1.1.1,
          known-rebuilt v.new.work q.result.index h r.0 t.1.1.1,
        ),
      ),
    )

pub returns : goal.returns
returns c =
    let a = c.args in
    let s = c.new-s.ensures in
    let d = c.slice_count in
    let b = c.slice_bytes-bytes in
    let r = c.room_of-room in
    let q = c.elect_qindex-e in
    let v = c.rebuild_planes in
    let t = rw (s.0, s.1) at q.ensures in
    let u = rw (s.0, s.1) at v.ensures in
    let e = elects a.p a.n a.work.now a.k d.result b.result d.ensures.0 b.ensures.0 r.result q.result.index r.ensures.0 t.0 t.1.1.0 u.0 in
    let z = rw (s.0, s.1) at c.put_ld_slice-z.ensures in
    (rw e.bits at z.0, (e.work, (u.1, (ap (λ (x : ℕ). a.self.cut_slices + x) (byte_val c.put_ld_slice-z.result.cut ∙ z.1 ∙ e.cut), refl))))
