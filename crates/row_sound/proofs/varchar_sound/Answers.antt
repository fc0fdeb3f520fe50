use Rattle.row_sound.proofs.Slots.{varchar-told}
use lib.ListN.{length}
use Rattle.row_format.specs.Places.{table_start}
use Rattle.row_format.proofs.Sorts.{entry_in}
use mathlib.Core.Path.{refl}
use Rattle.row_sound.proofs.varchar_sound.Goals as goal

pub offset_at-requires : goal.offset_at-requires
offset_at-requires c =
    let a = c.args in
    rw c.offset_table-table.ensures (entry_in a.layout.is_long (table_start a.layout.num_columns) a.layout.num_varlen_cols a.before.num_varlen_cols (length a.row.now) (c.requires.rank refl) c.requires.table)

pub returns-then-column_bit_is_set : goal.returns-then-column_bit_is_set
returns-then-column_bit_is_set c =
    let a = c.args in
    let offset = rw c.offset_table-table.ensures at c.offset_at.ensures.0 in
    rw (varchar-told a.layout a.packed a.before a.row.now a.by_points a.n, ← c.column_bit_is_set.ensures, c.if-column_bit_is_set.true, ← offset)

pub range_holds-requires : goal.range_holds-requires
range_holds-requires c = rw c.offset_table-table.ensures (c.requires.rank refl, c.requires.table)

pub returns-else-column_bit_is_set : goal.returns-else-column_bit_is_set
returns-else-column_bit_is_set c =
    let a = c.args in
    rw (varchar-told a.layout a.packed a.before a.row.now a.by_points a.n, ← c.column_bit_is_set.ensures, c.if-column_bit_is_set.false) (rw c.offset_table-table.ensures at c.range_holds.ensures)
