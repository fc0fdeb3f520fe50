use Rattle.stored_form.proofs.Lengths.{fits_below}
use Rattle.bit_utils.proofs.Packing.{length-packed}
use Rattle.numeric.proofs.Packing.{length_encode}
use borrow.Author.Tests.{eqb-true}
use mir.ValLaws.{to_z-of_z}
use Rattle.stored_form.specs.Number.{magnitude}
use mir.Syntax.{w64}
use borrow.Author.Rules.{rules}
use Rattle.value_encode.proofs.write_value.Goals as goal

pub write_number-requires : goal.write_number-requires
write_number-requires c =
    let e = rw c.in-Numeric.is at c.requires.1.0 in
    let h = rw (c.in-Numeric.is, length_encode) at c.requires.1.1 in
    rw (to_z-of_z w64 c.in-Numeric.x.high (search rules), c.precision-p.ensures) (c.requires.0, (fits_below c.args.ty c.in-Numeric.x.scale (magnitude c.in-Numeric.x.high c.in-Numeric.x.low) e, h))

pub write_bits-requires : goal.write_bits-requires
write_bits-requires c =
    let a = c.args in
    let e = rw c.in-Bit.is at c.requires.1.0 in
    let h = rw (c.in-Bit.is, length-packed) at c.requires.1.1 in
    rw c.declared_length-n.ensures (eqb-true _ _ e, h)
