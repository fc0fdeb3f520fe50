use Rattle.row_edit.proofs.Ready.{own-start, end-start}
use mathlib.Core.Path.{sym, ◌∙◌}
use lib.ListN.{length}
use Rattle.row_format.specs.Places.{table_start}
use Rattle.row_format.proofs.Sorts.{entry_in}
use Rattle.row_edit.proofs.range_at.Goals as goal

pub range_end-end-requires : goal.range_end-end-requires
range_end-end-requires c = rw c.offset_table-table.ensures (c.requires.1.0, c.requires.1.1)

pub offset_at-start-requires : goal.offset_at-start-requires
offset_at-start-requires c =
    let a = c.args in
    rw c.offset_table-table.ensures (entry_in a.layout.is_long (table_start a.layout.num_columns) a.layout.num_varlen_cols a.before.num_varlen_cols (length a.row.now) c.requires.1.0 c.requires.1.1)

pub returns-then-start-ne0 : goal.returns-then-start-ne0
returns-then-start-ne0 c =
    let t = c.offset_table-table.ensures in
    let x = rw t at c.offset_at-start.ensures.0 in
    let y = rw t at c.range_end-end.ensures in
    (x ∙ sym (own-start _ _ _ _ _ (λ z. c.if-start-ne0.true (x ∙ z))), y)

pub returns-else-start-ne0 : goal.returns-else-start-ne0
returns-else-start-ne0 c =
    let t = c.offset_table-table.ensures in
    let x = rw t at c.offset_at-start.ensures.0 in
    let y = rw t at c.range_end-end.ensures in
    (y ∙ sym (end-start _ _ _ _ _ (sym x ∙ c.if-start-ne0.false)), y)
