use borrow.Author.Rules.{rules}
use Rattle.row_build.proofs.Nulls.{zeros-le, null-stored}
use native.Mathlib.Omega.{arith}
use Rattle.row_build.proofs.write_nulls.Goals as goal

pub overflow_mul-v : goal.overflow_mul-v
overflow_mul-v c =
    let t = zeros-le c.requires.0 in
    rw c.offset_width.ensures.0 (omega (arith, t))

pub overflow_add-v-2 : goal.overflow_add-v-2
overflow_add-v-2 c =
    let t = zeros-le c.requires.0 in
    rw c.offset_width.ensures.0 (omega (arith, t))

pub fill-requires : goal.fill-requires
fill-requires c = rw c.offset_width.ensures.0 (search rules)

pub returns : goal.returns
returns c =
    null-stored c.args.layout c.args.out.now c.write_u16.ensures (rw c.packed_marks.ensures.0 at c.write_u16-2.ensures) (rw c.bitmap_offset.ensures at c.write_null_bits.ensures) (rw (c.varlen_table_offset.ensures, c.offset_width.ensures.0) at c.fill.ensures)
