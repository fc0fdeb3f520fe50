use borrow.Author.Rules.{rules}
use mathlib.Core.Path.{◌∙◌}
use native.Mathlib.Numerals.{add-one}
use lib.ListN.{length}
use Rattle.row_format.specs.Places.{offset_width}
use Rattle.row_format.specs.Table.{range_end}
use Rattle.row_format.proofs.Table.{first_zero, first_some, first_none}
use Rattle.row_layout.proofs.OffsetTable.range_end.Goals as goal

pub loop-k-init : goal.loop-k-init
unfolding range_end
loop-k-init c = rw add-one

pub loop-k-preserved : goal.loop-k-preserved
loop-k-preserved c =
    let a = c.args in
    let t = a.self in
    let l = c.loop-k in
    let o = c.offset_at-o in
    first_zero (offset_width t.is_long) t.start t.entries l.k (length a.row.now) o.result a.row.now (search rules) o.ensures.0 (search rules) ∙ l.invariant

pub returns : goal.returns
returns c =
    let a = c.args in
    let t = a.self in
    let l = c.loop-k in
    first_none (offset_width t.is_long) t.start t.entries l.k (length a.row.now) a.row.now (search rules) ∙ l.invariant

pub returns-then-o-ne0 : goal.returns-then-o-ne0
returns-then-o-ne0 c =
    let a = c.args in
    let t = a.self in
    let l = c.loop-k in
    let o = c.offset_at-o in
    first_some (offset_width t.is_long) t.start t.entries l.k (length a.row.now) o.result a.row.now (search rules) o.ensures.0 (search rules) ∙ l.invariant
