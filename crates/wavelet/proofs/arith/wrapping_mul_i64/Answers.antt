-- `arith::wrapping_mul_i64` meets its contract.
use Rattle.std.proofs.Common.{ℕ, ◌*◌, ◌%◌, ◌^◌, ap, ◌∙◌, ap₂, to_z-of_z, w64, to_z}
use borrow.Author.Rules.{sfits_of}
use Rattle.wavelet.specs.Laws.Product.{mul-bits}
use Rattle.wavelet.proofs.arith.wrapping_mul_i64.Goals as goal

pub returns : goal.returns
returns c =
    let e1 = simp (to_z-of_z, c.ranges.a) at c.cast_unsigned.ensures in
    let e2 = simp (to_z-of_z, c.ranges.b) at c.cast_unsigned-2.ensures in
    to_z-of_z {w = w64} (sfits_of c.cast_signed.type_inv) ∙ c.cast_signed.ensures
    ∙ ap (to_z w64) (c.wrapping_mul_u64.ensures ∙ ap₂ (λ (x y : ℕ). (x * y) % 2 ^ 64) e1 e2) ∙ mul-bits c.args.a c.args.b c.ranges.a c.ranges.b
