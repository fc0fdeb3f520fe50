use mathlib.Core.Path.{sym, ap, ◌∙◌}
use Rattle.row_format.specs.Header.{sort_in}
use Rattle.datatype.specs.Schema.{schema_of}
use Rattle.datatype.proofs.Accept.{accepted, on_good, on_refused, sort-is}
use Rattle.row_handle.specs.Handle.{handled}
use Rattle.row_handle.proofs.Handling.{handled-good}
use Rattle.row_handle.proofs.with_value.Goals as goal

pub set_checked-answer-requires : goal.set_checked-answer-requires
set_checked-answer-requires c = accepted _ c.args.schema.now (sym c.check_schema.ensures.0 ∙ c.in-Ok.is) (rw c.in-Ok.is at c.check_schema.ensures.1).bounded

pub returns-in-Err : goal.returns-in-Err
returns-in-Err c =
    let a = c.args in
    let sort = sort_in a.buf.now a.handle.length in
    ap (handled sort a.schema.now a.handle) (on_refused sort (schema_of sort a.schema.now) _ _ (sym (rw c.sort_in-is_long.ensures at c.check_schema.ensures.0) ∙ c.in-Err.is))

pub returns-in-Ok : goal.returns-in-Ok
returns-in-Ok c =
    let a = c.args in
    let schema = a.schema.now in
    let sort = sort_in a.buf.now a.handle.length in
    let good = sym (rw c.sort_in-is_long.ensures at c.check_schema.ensures.0) ∙ c.in-Ok.is in
    let long = sort-is sort schema good in
    handled-good sort schema a.handle long (accepted sort schema good (rw c.in-Ok.is at c.check_schema.ensures.1).bounded) (rw long at c.set_checked-answer.ensures ∙ on_good sort schema good _ _) c.handle_after-handle.ensures
