use mathlib.Core.Path.{sym, ◌∙◌}
use Rattle.row_format.specs.Header.{is_long}
use Rattle.datatype.proofs.Accept.{accepted}
use Rattle.row_same.proofs.Compared.{accepted-sort, both_walked, schema-refused}
use Rattle.error.proofs.Results.{handed_on}
use Rattle.row_same.proofs.same_content.Goals as goal

pub compare_rows-requires : goal.compare_rows-requires
compare_rows-requires c =
    let a = c.args in
    let good = sym (rw c.is_long-is_long.ensures at c.check_schema.ensures.0) ∙ c.in_ok-layout.was in
    let all = accepted (is_long a.a.now) a.schema.now good (rw c.in_ok-layout.was at c.check_schema.ensures.1).bounded in
    rw (c.of_sort.ensures, c.of_sort-other.ensures) (accepted-sort _ all, accepted-sort _ all)

pub returns-in_err-layout : goal.returns-in_err-layout
returns-in_err-layout c =
    rw (handed_on c.from_residual.result c.from_residual.ensures)
    (let a = c.args in
    schema-refused a.schema.now a.a.now a.b.now
    (sym (rw c.is_long-is_long.ensures at c.check_schema.ensures.0) ∙ c.in_err-layout.was))

pub returns : goal.returns
returns c =
    let a = c.args in
    let good = sym (rw c.is_long-is_long.ensures at c.check_schema.ensures.0) ∙ c.in_ok-layout.was in
    rw (
      c.of_sort.ensures,
      c.of_sort-other.ensures,
      c.is_long.ensures,
      c.is_long-is_long.ensures,
    ) at c.compare_rows.ensures
    ∙ both_walked a.schema.now a.a.now a.b.now good (rw c.in_ok-layout.was at c.check_schema.ensures.1).bounded
