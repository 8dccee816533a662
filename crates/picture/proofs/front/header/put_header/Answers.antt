-- `picture::front::header::put_header` meets its contract.
use native.Mathlib.Omega.{arith}
use Rattle.codewords.specs.Laws.Writer.{wrote_then, start_sound}
use Rattle.codewords.specs.Code.Writer.{Wrote}
use mathlib.Core.Path.{◌≡◌, sym, ap, ◌∙◌}
use mathlib.Core.List.{◌++◌}
use Prim.Native.Nat.{ℕ, ◌+◌, ◌/◌, ◌≤◌}
use lib.ListN.{length}
use Rattle.codewords.specs.Bit.{Bits, lit}
use Rattle.codewords.specs.Laws.Bit.{length-lit}
use Rattle.unit.specs.Parameters.{Parameters, parameter_bits}
use Rattle.unit.specs.Unit.{major_version}
use Rattle.picture.specs.Code.Head.{parameters_in, info_of}
use Rattle.picture.specs.Laws.Head.{info-length, head-length, head_parts, parameters_bytes, start, is_start, start_room, align_room, head_end, head_bytes}
use Rattle.picture.proofs.front.header.put_header.Goals as goal
use Rattle.picture.proofs.front.header.put_header.Goals.{After-write_transform_parameters, Start}

abbrev parameters : Start → Parameters
parameters c = parameters_in c.args.call c.args.p

abbrev bits : Start → Bits
bits c = parameter_bits (major_version c.args.call.settings) (parameters c)

abbrev info : Start → Bits
info c = info_of c.args.call.settings.kind c.args.n c.args.call.settings.prev_unit_len

abbrev number : Start → Bits
number c = lit 32 c.args.call.settings.picture_number

length-info : (c : Start) → length (info c) ≡ 104
length-info c = info-length c.args.call.settings.kind c.args.n c.args.call.settings.prev_unit_len

length_front : (c : Start) → length (info c ++ number c) ≡ 136
length_front c = head-length c.args.call.settings.kind c.args.n c.args.call.settings.prev_unit_len c.args.call.settings.picture_number

fits : (c : Start) → 17 + (length (bits c) + 7) / 8 ≤ length c.args.out.now
fits c = rw (parameters_bytes (major_version c.args.call.settings) (parameters c)) at c.requires

pub write_parse_info-requires : goal.write_parse_info-requires
write_parse_info-requires c =
    let s = (goal.at.write_parse_info-requires c).Start in
    rw (is_start c.new-w.ensures) (start_room c.args.out.now (length (info s)) (omega (arith, fits s, length-info s)))

pub put_u32-requires : goal.put_u32-requires
put_u32-requires c =
    let s = (goal.at.put_u32-requires c).Start in
    omega (arith, fits s, length-info s, length-lit 32 c.args.call.settings.picture_number)

pub write_transform_parameters-requires : goal.write_transform_parameters-requires
write_transform_parameters-requires c =
    let s = (goal.at.write_transform_parameters-requires c).Start in
    omega (arith, fits s, length-info s, length-lit 32 c.args.call.settings.picture_number)

-- the whole head, before its last byte is filled
whole : (c : After-write_transform_parameters) → Wrote c.args.out.now start ((info_of c.args.call.settings.kind c.args.n c.args.call.settings.prev_unit_len ++ lit 32 c.args.call.settings.picture_number) ++ parameter_bits (major_version c.args.call.settings) (parameters_in c.args.call c.args.p)) c.write_transform_parameters.new.out c.write_transform_parameters.new.w
whole c =
    let o = start_sound 0 in
    wrote_then o (wrote_then o (rw (is_start c.new-w.ensures) at c.write_parse_info.ensures) c.put_u32.ensures) c.write_transform_parameters.ensures

pub byte_align-requires : goal.byte_align-requires
byte_align-requires c =
    let g = goal.at.byte_align-requires c in
    let s = g.Start in
    align_room (info s ++ number s) (bits s) (length_front s) (fits s) (whole g.After-write_transform_parameters)

pub returns : goal.returns
returns c =
    let g = goal.at.returns c in
    let s = g.Start in
    let h = info s ++ number s in
    let p = whole g.After-write_transform_parameters in
    let q = c.byte_align.ensures in (
      head_end h (bits s) (length_front s) (fits s) p q ∙ ap (λ (n : ℕ). 17 + n) (sym (parameters_bytes (major_version c.args.call.settings) (parameters s))),
      rw (head_parts c.args.call.settings c.args.n (parameters s)) (head_bytes h (bits s) (length_front s) (fits s) p q),
    )
