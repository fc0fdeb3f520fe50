use mathlib.Core.Path.{sym}
use lib.Seq.{length-take-le}
use Rattle.row_edit.proofs.Ready.{reaches}
use Rattle.row_edit.proofs.Stored.{fixed_ready, fixed-null, null_ready, varlen_null}
use Rattle.row_edit.proofs.null_column.Goals as goal

pub column_at-found-requires : goal.column_at-found-requires
column_at-found-requires c = (c.requires.accepted.schema, c.requires.column)

pub slice_bounds-range_at-end-then-is_variable_length : goal.slice_bounds-range_at-end-then-is_variable_length
slice_bounds-range_at-end-then-is_variable_length c = sym (length-take-le _ _ c.requires.inside)

pub range_at-range-requires : goal.range_at-range-requires
range_at-range-requires c =
    let r = reaches c.requires c.column_at-found.ensures in
    (r.whole, (r.rank (rw c.is_variable_length.ensures at c.if-is_variable_length.true), r.table))

pub write_null-requires : goal.write_null-requires
write_null-requires c = null_ready c.requires c.column_at-found.ensures (rw c.is_variable_length.ensures at c.if-is_variable_length.true) c.range_at-range.ensures

pub returns-then-is_variable_length : goal.returns-then-is_variable_length
returns-then-is_variable_length c = varlen_null c.requires c.column_at-found.ensures (rw c.is_variable_length.ensures at c.if-is_variable_length.true) c.range_at-range.ensures c.write_null.ensures

pub write_null-requires-2 : goal.write_null-requires-2
write_null-requires-2 c = fixed_ready c.requires c.column_at-found.ensures (rw c.is_variable_length.ensures at c.if-is_variable_length.false) 0

pub returns : goal.returns
returns c = fixed-null c.requires c.column_at-found.ensures (rw c.is_variable_length.ensures at c.if-is_variable_length.false) c.write_null-2.ensures
