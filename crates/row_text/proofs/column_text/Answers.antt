use Rattle.datatype.proofs.Accept.{accepted, on_good, on_refused, sort_again}
use Rattle.datatype.specs.Schema.{schema_of}
use mathlib.Core.Path.{sym, ◌∙◌}
use Rattle.error.proofs.Results.{handed_on}
use Rattle.row_text.proofs.column_text.Goals as goal

pub text_of_column-requires : goal.text_of_column-requires
text_of_column-requires c =
    let k = c.is_long-is_long.result in
    let schema = c.args.schema.now in
    let good = sym c.check_schema.ensures.0 ∙ c.in_ok-layout.was in
    rw (c.of_sort.ensures, sort_again k schema good) (accepted k schema good (rw c.in_ok-layout.was at c.check_schema.ensures.1).bounded)

pub returns-in_err-layout : goal.returns-in_err-layout
returns-in_err-layout c =
    rw (handed_on c.from_residual.result c.from_residual.ensures)
    (let k = c.is_long-is_long.result in
    let schema = c.args.schema.now in
    (rw (← c.is_long-is_long.ensures) (on_refused k (schema_of k schema) _ _ (sym c.check_schema.ensures.0 ∙ c.in_err-layout.was)), tt))

pub returns : goal.returns
returns c =
    let k = c.is_long-is_long.result in
    let schema = c.args.schema.now in
    let good = sym c.check_schema.ensures.0 ∙ c.in_ok-layout.was in
    (rw (← c.is_long-is_long.ensures) (rw c.of_sort.ensures at c.text_of_column.ensures.0 ∙ on_good k schema good _ _), c.text_of_column.ensures.1)
