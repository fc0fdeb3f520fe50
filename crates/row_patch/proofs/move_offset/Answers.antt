use borrow.Author.Rules.{rules}
use Rattle.row_format.proofs.Sorts.{offset-le}
use Rattle.row_format.specs.Places.{offset_width}
use native.Mathlib.Omega.{arith}
use mathlib.Core.Path.{◌∙◌}
use Rattle.row_patch.proofs.Offsets.{offset-moved, offset-kept}
use Rattle.row_patch.proofs.move_offset.Goals as goal

pub overflow_add-o : goal.overflow_add-o
overflow_add-o c =
    let o = c.offset_at-o in
    omega (arith, o.ensures.0, o.ensures.1, offset-le c.args.table.is_long, c.requires.1 (λ z. c.if-o-ne0.true (o.ensures.0 ∙ z)))

pub overflow_sub-o : goal.overflow_sub-o
overflow_sub-o c =
    let o = c.offset_at-o in
    omega (arith, o.ensures.0, c.requires.1 (λ z. c.if-o-ne0.true (o.ensures.0 ∙ z)))

pub put_offset-requires : goal.put_offset-requires
put_offset-requires c =
    let o = c.offset_at-o in
    (search rules, omega (arith, o.ensures.0, c.requires.1 (λ z. c.if-o-ne0.true (o.ensures.0 ∙ z))))

pub returns-then-o-ne0 : goal.returns-then-o-ne0
returns-then-o-ne0 c =
    let a = c.args in
    let o = c.offset_at-o in
    offset-moved (offset_width a.table.is_long) a.table.start a.rank a.end a.new_end o.result a.row.now o.ensures.0 _ c.if-o-ne0.true c.put_offset.ensures

pub returns-else-o-ne0 : goal.returns-else-o-ne0
returns-else-o-ne0 c =
    let a = c.args in
    let o = c.offset_at-o in
    offset-kept (offset_width a.table.is_long) a.table.start a.rank a.end a.new_end o.result a.row.now o.ensures.0 c.slice_known-1.given c.requires.0 c.if-o-ne0.false
