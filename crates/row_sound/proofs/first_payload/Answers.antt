use Rattle.row_format.proofs.Sorts.{entry_in}
use native.Mathlib.Omega.{arith}
use mathlib.Core.Path.{◌∙◌}
use lib.ListN.{length}
use Rattle.row_format.specs.Places.{table_start, offset_width}
use Rattle.row_format.specs.Table.{range_end}
use Rattle.row_format.proofs.Table.{first_zero, first_some}
use Rattle.row_sound.proofs.first_payload.Goals as goal

pub returns-then-table-eq0 : goal.returns-then-table-eq0
returns-then-table-eq0 c = rw (rw c.offset_table-table.ensures at c.if-table-eq0.true)

pub offset_at-first-requires : goal.offset_at-first-requires
offset_at-first-requires c =
    let a = c.args in
    let some = rw c.offset_table-table.ensures at c.if-table-eq0.false in
    rw c.offset_table-table.ensures (entry_in a.layout.is_long (table_start a.layout.num_columns) a.layout.num_varlen_cols 0 (length a.row.now) (omega (arith, some)) c.requires.1)

pub returns-then-first-ne0 : goal.returns-then-first-ne0
returns-then-first-ne0 c =
    let a = c.args in
    let some = rw c.offset_table-table.ensures at c.if-table-eq0.false in
    let first = rw c.offset_table-table.ensures at c.offset_at-first.ensures.0 in
    first_some (offset_width a.layout.is_long) (table_start a.layout.num_columns) a.layout.num_varlen_cols 0 (length a.row.now) c.offset_at-first.result a.row.now (omega (arith, some)) first c.if-first-ne0.true

pub range_end-requires : goal.range_end-requires
range_end-requires c =
    let some = rw c.offset_table-table.ensures at c.if-table-eq0.false in
    rw c.offset_table-table.ensures (omega (arith, some), c.requires.1)

pub returns : goal.returns
unfolding range_end
returns c =
    let a = c.args in
    let some = rw c.offset_table-table.ensures at c.if-table-eq0.false in
    let first = rw c.offset_table-table.ensures at c.offset_at-first.ensures.0 in
    let end = rw c.offset_table-table.ensures at c.range_end.ensures in
    end ∙ first_zero (offset_width a.layout.is_long) (table_start a.layout.num_columns) a.layout.num_varlen_cols 0 (length a.row.now) c.offset_at-first.result a.row.now (omega (arith, some)) first c.if-first-ne0.false
