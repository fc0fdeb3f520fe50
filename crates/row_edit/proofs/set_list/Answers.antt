use lib.ListN.{length}
use mathlib.Core.Path.{sym, ap, ◌∙◌}
use Rattle.datatype.specs.Check.{type_at, types_in}
use Rattle.value_list.specs.Lists.{checked}
use Rattle.value_list.proofs.Sole.{refused-list, sole_there, sole_value, sole_good}
use Rattle.row_edit.specs.Edit.{written}
use Rattle.row_edit.proofs.Opening.{given-none, given-one}
use Rattle.error.proofs.Results.{handed_on}
use Rattle.row_edit.proofs.set_list.Goals as goal

pub value_record_at-requires : goal.value_record_at-requires
value_record_at-requires c =
    let good = sym c.check_values.ensures ∙ c.in_ok-check_values.was in
    sole_there c.args.layout.is_long (length c.args.area.now) c.args.values.now (sym good)

pub returns-in_err-check_values : goal.returns-in_err-check_values
returns-in_err-check_values c =
    rw (handed_on c.from_residual.result c.from_residual.ensures)
    (let a = c.args in
    let ts = types_in a.schema.now in
    let n = length a.area.now in
    ap (written a.layout.is_long ts a.packed a.buf.now a.n a.column) (sym (given-none a.layout.is_long (type_at ts a.column) a.column a.values.now a.area.now (refused-list a.layout.is_long n a.values.now (checked a.layout.is_long 1 n a.values.now) _ (sym c.check_values.ensures ∙ c.in_err-check_values.was)))))

pub returns-in_err-v : goal.returns-in_err-v
returns-in_err-v c =
    let good = sym c.check_values.ensures ∙ c.in_ok-check_values.was in
    absurd (sole_good c.args.layout.is_long (length c.args.area.now) c.args.values.now (sym good) _ (sym c.value_record_at.ensures ∙ c.in_err-v.was))

pub returns : goal.returns
returns c =
    let a = c.args in
    let ts = types_in a.schema.now in
    let good = sym c.check_values.ensures ∙ c.in_ok-check_values.was in
    c.set_column.ensures ∙ ap (written a.layout.is_long ts a.packed a.buf.now a.n a.column) (sym (given-one a.layout.is_long (type_at ts a.column) a.column a.values.now a.area.now (sole_value a.layout.is_long (length a.area.now) a.values.now (sym good) _ _ (sym c.value_record_at.ensures ∙ c.in_ok-v.was))))
