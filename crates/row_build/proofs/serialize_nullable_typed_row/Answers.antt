use Rattle.datatype.proofs.Accept.{accepted, sort-is, on_good, on_refused}
use Rattle.datatype.specs.Schema.{schema_of}
use Rattle.datatype.specs.Check.{types_in}
use Rattle.row_build.specs.Build.{build_row}
use mathlib.Core.Path.{sym, ap, ◌∙◌}
use mathlib.Core.Bool.{Bool}
use Rattle.error.proofs.Results.{handed_on}
use Rattle.row_build.proofs.serialize_nullable_typed_row.Goals as goal

pub build_row-requires : goal.build_row-requires
build_row-requires c = accepted c.args.is_long c.args.schema.now (sym c.check_schema.ensures.0 ∙ c.in_ok-layout.was) (rw c.in_ok-layout.was at c.check_schema.ensures.1).bounded

pub returns-in_err-layout : goal.returns-in_err-layout
returns-in_err-layout c =
    rw (handed_on c.from_residual.result c.from_residual.ensures)
    (on_refused c.args.is_long (schema_of c.args.is_long c.args.schema.now) _ _ (sym c.check_schema.ensures.0 ∙ c.in_err-layout.was))

pub returns : goal.returns
returns c =
    let a = c.args in
    let k = a.is_long in
    let s = a.schema.now in
    let e = sym c.check_schema.ensures.0 ∙ c.in_ok-layout.was in
    c.build_row.ensures
    ∙ ap (λ (q : Bool). build_row q (types_in s) a.values.now a.text.now a.out.now a.counts.now) (sort-is k s e) ∙ on_good k s e _ _
