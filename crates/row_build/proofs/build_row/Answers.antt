use mathlib.Core.Path.{sym, ◌∙◌}
use mathlib.Core.Bool.{true}
use Rattle.row_layout.specs.InnerLayout.{minimum_of}
use Rattle.datatype.specs.Check.{types_in}
use Rattle.row_build.specs.Cells.{cells_from}
use Rattle.row_build.specs.InnerSteps.{values_in}
use Rattle.row_build.proofs.Placing.{build-refused}
use Rattle.row_build.proofs.Listing.{listed, on_list, on_list-refused}
use Rattle.error.proofs.Results.{handed_on}
use Rattle.row_build.proofs.build_row.Goals as goal

pub place_row-requires : goal.place_row-requires
place_row-requires c =
    let r = c.row_length.ensures in
    (r.done c.in-Ok.is, sym c.in-Ok.is ∙ r.good (r.done c.in-Ok.is))

pub returns-in-Ok : goal.returns-in-Ok
returns-in-Ok c = c.place_row.ensures ∙ on_list (c.row_length.ensures.done c.in-Ok.is) _ _

pub returns-in_err-check_values-in-Err : goal.returns-in_err-check_values-in-Err
returns-in_err-check_values-in-Err c =
    rw (handed_on c.from_residual.result c.from_residual.ensures)
    (on_list-refused c.requires c.args.values.now c.args.text.now c.check_values.ensures _ _ c.in_err-check_values-in-Err.was)

pub returns-in_ok-check_values-in-Err : goal.returns-in_ok-check_values-in-Err
returns-in_ok-check_values-in-Err c =
    let a = c.args in
    let ts = types_in a.schema.now in
    let b = listed c.requires a.values.now a.text.now c.check_values.ensures c.in_ok-check_values-in-Err.was in
    build-refused ts (cells_from 0 ts (values_in a.values.now) a.text.now) a.out.now a.counts.now (minimum_of a.layout true) _ (sym c.in-Err.is ∙ c.row_length.ensures.good b)
    ∙ on_list b _ _
