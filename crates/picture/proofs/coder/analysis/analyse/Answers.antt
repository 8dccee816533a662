-- `coder::analysis::analyse` meets its contract.
use mathlib.Core.Path.{◌≡◌, sym}
use Prim.Native.Nat.{ℕ, ◌+◌, ◌*◌, ◌≤◌}
use lib.IntN.{pos}
use lib.ListN.{length, take, drop, replicate}
use Rattle.std.proofs.Common.{length-take-le}
use Rattle.unit.proofs.Laws.Valid.{levels_few}
use Rattle.unit.specs.Sizes.{luma_size, colour_size}
use Rattle.unit.specs.Three.{planes}
use Rattle.picture.specs.Laws.Analysis.{padded_asks, taken_is, Taken, taken_of_lem, front_is, components_in, Sampled, front_room, analysed-of}
use native.Mathlib.Omega.{arith}
use borrow.Author.Rules.{rules}
use Rattle.picture.proofs.coder.analysis.analyse.Goals as goal
use Rattle.picture.proofs.coder.analysis.analyse.Goals.{After-analyse_components, After-component_of-colour, After-shared_slice_known-3-1}

-- samples have 16 bits
samples : (c : After-shared_slice_known-3-1) → Sampled (planes c.args.y.now c.args.c1.now c.args.c2.now)
samples c = record {
  y = λ n. omega (arith, c.type_inv.y n);
  c1 = λ n. omega (arith, c.type_inv.c1 n);
  c2 = λ n. omega (arith, c.type_inv.c2 n);
}

known : (c : After-component_of-colour) → Taken c.args.s c.component_of-luma.result c.component_of-colour.result
known c =
    let a = c.args in
    let s = a.s in
    let l = c.luma_size-l in
    let k = c.colour_size-c in
    let p = c.padded_size in
    let y = c.component_of-luma in
    let q = c.padded_size-2 in
    let u = c.component_of-colour in
    taken_of_lem s (planes a.y.now a.c1.now a.c2.now) a.work.now c.requires y.result u.result
    (taken_is s (luma_size s) s.luma_excursion l.result p.result y.result l.ensures p.ensures y.ensures)
    (taken_is s (colour_size s) s.color_diff_excursion k.result q.result u.result k.ensures q.ensures u.ensures)

pub padded_size-requires : goal.padded_size-requires
padded_size-requires c =
    let l = c.luma_size-l in
    padded_asks c.args.s l.result (luma_size c.args.s) (levels_few c.args.s c.requires.shape) c.requires.luma l.ensures

pub padded_size-requires-2 : goal.padded_size-requires-2
padded_size-requires-2 c =
    let k = c.colour_size-c in
    padded_asks c.args.s k.result (colour_size c.args.s) (levels_few c.args.s c.requires.shape) c.requires.colour k.ensures

pub analyse_components-requires : goal.analyse_components-requires
analyse_components-requires c =
    let a = c.args in
    let l = c.component_of-luma.result in
    let u = c.component_of-colour.result in
    components_in a.s (planes a.y.now a.c1.now a.c2.now) a.work.now c.requires l u (known (goal.at.analyse_components-requires c).After-component_of-colour) (l.pw * l.ph + u.pw * u.ph + u.pw * u.ph) (front_is a.s l u (known (goal.at.analyse_components-requires c).After-component_of-colour))

-- the front stands in the work slice
room : (c : After-analyse_components) → let l = c.component_of-luma.result in let u = c.component_of-colour.result in
    Taken c.args.s l u → l.pw * l.ph + u.pw * u.ph + u.pw * u.ph ≤ length c.analyse_components.new.work
room c k =
    let a = c.args in
    let r = c.analyse_components in
    front_room a.s (planes a.y.now a.c1.now a.c2.now) a.work.now r.new.work c.requires c.component_of-luma.result c.component_of-colour.result k r.auto.work

pub slice_bounds-fill-end : goal.slice_bounds-fill-end
slice_bounds-fill-end c =
    let g = goal.at.slice_bounds-fill-end c in
    room g.After-analyse_components (known g.After-component_of-colour)

pub slice_bounds-fill-end-2 : goal.slice_bounds-fill-end-2
slice_bounds-fill-end-2 c =
    let g = goal.at.slice_bounds-fill-end-2 c in
    sym (length-take-le _ c.analyse_components.new.work (room g.After-analyse_components (known g.After-component_of-colour)))

pub returns : goal.returns
returns c =
    let a = c.args in
    let l = c.component_of-luma.result in
    let u = c.component_of-colour.result in
    let w = a.work.now in
    let r = c.analyse_components in
    let n : ℕ = l.pw * l.ph + u.pw * u.ph + u.pw * u.ph in
    let z = c.fill.new.self in
    let e : z ≡ replicate (length (take n r.new.work)) (pos 0) = search rules in (
      analysed-of a.s (planes a.y.now a.c1.now a.c2.now) w r.new.work z c.requires (samples (goal.at.returns c).After-shared_slice_known-3-1) l u (known (goal.at.returns c).After-component_of-colour) n (front_is a.s l u (known (goal.at.returns c).After-component_of-colour))
          (drop (l.ph * l.pw + u.ph * u.pw + u.ph * u.pw) (drop n w)) r.auto.work r.ensures e (search rules),
      search rules,
    )
