use Rattle.datatype.proofs.Accept.{accepted, on_good, on_refused, sort-is}
use Rattle.datatype.specs.Schema.{schema_of}
use Rattle.row_format.specs.Header.{sort_in}
use mathlib.Core.Path.{sym, ◌∙◌}
use Rattle.error.proofs.Results.{handed_on}
use Rattle.row_edit.proofs.set_null.Goals as goal

pub null_checked-requires : goal.null_checked-requires
null_checked-requires c = accepted _ c.args.schema.now (sym c.check_schema.ensures.0 ∙ c.in_ok-layout.was) (rw c.in_ok-layout.was at c.check_schema.ensures.1).bounded

pub returns-in_err-layout : goal.returns-in_err-layout
returns-in_err-layout c =
    rw (handed_on c.from_residual.result c.from_residual.ensures)
    (let a = c.args in
    let sort = sort_in a.buf.now a.row_length in
    on_refused sort (schema_of sort a.schema.now) _ _ (sym (rw c.sort_in-is_long.ensures at c.check_schema.ensures.0) ∙ c.in_err-layout.was))

pub returns : goal.returns
returns c =
    let a = c.args in
    let sort = sort_in a.buf.now a.row_length in
    let good = sym (rw c.sort_in-is_long.ensures at c.check_schema.ensures.0) ∙ c.in_ok-layout.was in
    rw (sort-is sort a.schema.now good) at c.null_checked.ensures ∙ on_good sort a.schema.now good _ _
