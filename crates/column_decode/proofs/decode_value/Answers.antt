use Rattle.row_format.specs.Places.{row_limit}
use mathlib.Core.Path.{sym, ap, ◌∙◌, subst}
use lib.ListN.{length}
use Rattle.datatype.specs.declared.DataType.{DataType}
use Rattle.row_column.specs.InnerWalk.{walked_column, Reachable}
use Rattle.column_decode.specs.InnerColumn.{stepped, no_points}
use Rattle.column_decode.proofs.Present.{wider}
use Rattle.column_decode.proofs.Present.{type_read}
use Rattle.error.proofs.Results.{handed_on}
use Rattle.column_decode.proofs.decode_value.Goals as goal

pub read_column-column-requires : goal.read_column-column-requires
read_column-column-requires c =
    let a = c.args in
    subst (λ (t : DataType). Reachable a.layout a.packed a.before t a.row.now) (sym (type_read c.record_at.ensures c.in_ok-ty.was c.requires.typed)) c.requires.reach

pub write_column-requires : goal.write_column-requires
write_column-requires c =
    (c.requires.room, wider c.read_column-column.result (length c.args.row.now) (row_limit c.args.layout.is_long) c.requires.short c.read_column-column.ensures.1)

pub returns-in_err-ty : goal.returns-in_err-ty
returns-in_err-ty c =
    rw (handed_on c.from_residual.result c.from_residual.ensures)
    (absurd (c.requires.good _ (sym c.record_at.ensures ∙ c.in_err-ty.was)))

pub returns : goal.returns
returns c =
    let a = c.args in
    c.write_column.ensures ∙ ap (stepped a.layout.is_long a.buf.now a.end no_points) (c.read_column-column.ensures.0 ∙ ap (λ (t : DataType). walked_column a.layout a.packed a.before t a.row.now) (type_read c.record_at.ensures c.in_ok-ty.was c.requires.typed))
