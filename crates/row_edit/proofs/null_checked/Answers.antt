use mathlib.Core.Path.{sym, ◌∙◌}
use Rattle.row_edit.proofs.Opening.{opened-refused, opened-good, opened-row}
use Rattle.error.proofs.Results.{handed_on}
use Rattle.row_edit.proofs.null_checked.Goals as goal

pub open_row-requires : goal.open_row-requires
open_row-requires c = rw c.of_sort.ensures c.requires

pub null_column-requires : goal.null_column-requires
null_column-requires c = opened-row c.requires (sym (rw c.of_sort.ensures at c.open_row.ensures) ∙ c.in_ok-packed.was)

pub returns-in_err-packed : goal.returns-in_err-packed
returns-in_err-packed c =
    rw (handed_on c.from_residual.result c.from_residual.ensures)
    (opened-refused _ _ (sym (rw c.of_sort.ensures at c.open_row.ensures) ∙ c.in_err-packed.was))

pub returns : goal.returns
returns c =
    c.null_column.ensures
    ∙ opened-good _ _ (sym (rw c.of_sort.ensures at c.open_row.ensures) ∙ c.in_ok-packed.was)
