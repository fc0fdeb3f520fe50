use native.Mathlib.Omega.{arith}
use Rattle.laws.proofs.Tests.{by_tests}
use Rattle.datatype.proofs.Again.{columns-all}
use mathlib.Core.Path.{◌∙◌}
use Rattle.row_text.proofs.text_of_column.Goals as goal

pub returns-then-layout-column : goal.returns-then-layout-column
returns-then-layout-column c = (rw (← columns-all c.requires) (search by_tests), tt)

pub column_at-found-requires : goal.column_at-found-requires
column_at-found-requires c =
    (c.requires.schema, omega (arith, columns-all c.requires, c.if-layout-column.false))

pub text_in_row-requires : goal.text_in_row-requires
text_in_row-requires c =
    (c.requires, (omega (arith, columns-all c.requires, c.if-layout-column.false), c.column_at-found.ensures))

pub returns-then-holds_text : goal.returns-then-holds_text
returns-then-holds_text c = (c.text_in_row.ensures.0 ∙ rw (← c.column_at-found.ensures.type_is, ← c.holds_text.ensures, ← columns-all c.requires) (search by_tests), c.text_in_row.ensures.1)

pub returns : goal.returns
returns c = (rw (← c.column_at-found.ensures.type_is, ← c.holds_text.ensures, ← columns-all c.requires) (search by_tests), tt)
