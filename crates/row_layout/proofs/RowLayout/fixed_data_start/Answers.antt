use native.Mathlib.Omega.{arith}
use Rattle.row_format.proofs.Sorts.{table-le}
use Rattle.row_layout.proofs.RowLayout.fixed_data_start.Goals as goal

pub overflow_mul-result : goal.overflow_mul-result
overflow_mul-result c =
    let l = c.args.self in
    let b = c.requires in
    let t = table-le l.is_long l.num_varlen_cols (omega (arith, b.ranked, b.few)) in
    rw c.offset_width.ensures.0 (omega (arith, t))

pub overflow_add-result : goal.overflow_add-result
overflow_add-result c =
    let l = c.args.self in
    let b = c.requires in
    let t = table-le l.is_long l.num_varlen_cols (omega (arith, b.ranked, b.few)) in
    rw c.offset_width.ensures.0 (omega (arith, t, b.few, c.varlen_table_offset.ensures))

pub returns : goal.returns
returns c =
    let l = c.args.self in
    let b = c.requires in
    let t = table-le l.is_long l.num_varlen_cols (omega (arith, b.ranked, b.few)) in
    rw c.offset_width.ensures.0 (omega (arith, c.varlen_table_offset.ensures), omega (arith, t, b.few, c.varlen_table_offset.ensures))
