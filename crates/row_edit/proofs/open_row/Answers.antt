use mathlib.Core.Path.{sym, ◌∙◌}
use native.Mathlib.Omega.{arith}
use lib.Seq.{length-take-le}
use Rattle.datatype.specs.Check.{types_in}
use Rattle.datatype.proofs.Again.{columns-all}
use Rattle.row_edit.proofs.Opening.{open_short, open_unsound, open_none, open_good}
use Rattle.row_edit.proofs.open_row.Goals as goal

pub returns-then-buf-n : goal.returns-then-buf-n
returns-then-buf-n c =
    let a = c.args in
    open_short a.layout.is_long (types_in a.schema.now) a.buf.now a.n a.column c.if-buf-n.true

pub slice_bounds-check_sound-end : goal.slice_bounds-check_sound-end
slice_bounds-check_sound-end c = sym (length-take-le _ _ c.if-buf-n.false)

pub returns-then-layout-column : goal.returns-then-layout-column
returns-then-layout-column c =
    let a = c.args in
    open_none a.layout.is_long (types_in a.schema.now) a.buf.now a.n a.column c.if-buf-n.false (sym c.check_sound.ensures ∙ c.in-Some.is) (omega (arith, columns-all c.requires, c.if-layout-column.true))

pub returns-in-None : goal.returns-in-None
returns-in-None c =
    let a = c.args in
    open_unsound a.layout.is_long (types_in a.schema.now) a.buf.now a.n a.column c.if-buf-n.false (sym c.check_sound.ensures ∙ c.in-None.is)

pub returns-else-layout-column : goal.returns-else-layout-column
returns-else-layout-column c =
    let a = c.args in
    open_good a.layout.is_long (types_in a.schema.now) a.buf.now a.n a.column c.if-buf-n.false (sym c.check_sound.ensures ∙ c.in-Some.is) (omega (arith, columns-all c.requires, c.if-layout-column.false))
