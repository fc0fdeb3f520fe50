use Rattle.datatype.proofs.Accept.{accepted, sort-is, on_good, on_refused}
use Rattle.datatype.specs.Schema.{schema_of}
use Rattle.datatype.specs.Check.{types_in}
use Rattle.error.specs.Answer.{placed}
use Rattle.row_build.specs.Build.{fresh_row}
use Rattle.row_build.proofs.Nulls.{accepted-nulls}
use mathlib.Core.Path.{sym, ap, ◌∙◌}
use mathlib.Core.Bool.{Bool}
use Rattle.error.proofs.Results.{handed_on}
use Rattle.row_build.proofs.fresh.Goals as goal

pub fresh_row-requires : goal.fresh_row-requires
fresh_row-requires c = (rw c.in_ok-layout.was at c.check_schema.ensures.1).bounded

pub returns-in_err-layout : goal.returns-in_err-layout
returns-in_err-layout c =
    rw (handed_on c.from_residual.result c.from_residual.ensures)
    (on_refused c.args.is_long (schema_of c.args.is_long c.args.schema.now) _ _ (sym c.check_schema.ensures.0 ∙ c.in_err-layout.was))

pub returns : goal.returns
returns c =
    let k = c.args.is_long in
    let s = c.args.schema.now in
    let e = sym c.check_schema.ensures.0 ∙ c.in_ok-layout.was in
    let a = accepted k s e (rw c.in_ok-layout.was at c.check_schema.ensures.1).bounded in
    c.fresh_row.ensures ∙ ap (placed c.args.out.now) (accepted-nulls a ∙ ap (λ (q : Bool). fresh_row q (types_in s)) (sort-is k s e)) ∙ on_good k s e _ _
