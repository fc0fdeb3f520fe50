use mathlib.Core.Path.{sym, ◌∙◌}
use native.Mathlib.Omega.{arith}
use Rattle.occupation_list.proofs.Arranging.{added_row, arrange_start, arrange_end, arrange_at, arrange_refused, arrange_more}
use Rattle.error.proofs.Results.{handed_on}
use Rattle.occupation_list.proofs.arrange_rows.Goals as goal

pub loop-at-init : goal.loop-at-init
loop-at-init c = arrange_start c.requires

pub add_row-requires : goal.add_row-requires
add_row-requires c = arrange_at c.loop-at.invariant c.loop-at-test.true

pub returns-in_err-n : goal.returns-in_err-n
returns-in_err-n c =
    rw (handed_on c.from_residual.result c.from_residual.ensures)
    (arrange_refused c.loop-at.invariant c.loop-at-test.true c.add_row.result _ c.add_row.ensures c.in_err-n.was)

pub row_end-at-requires : goal.row_end-at-requires
row_end-at-requires c = let a = (arrange_at c.loop-at.invariant c.loop-at-test.true).inside in omega arith

pub overflow_add-k : goal.overflow_add-k
overflow_add-k c = let a = (arrange_at c.loop-at.invariant c.loop-at-test.true).room in let r = c.loop-at.invariant.room in omega arith

pub overflow_add-size : goal.overflow_add-size
overflow_add-size c = let a = (arrange_at c.loop-at.invariant c.loop-at-test.true).room in let r = c.loop-at.invariant.room in let s = c.loop-at.invariant.short in let t = (added_row c.args.list.now c.loop-at.order c.loop-at.k c.loop-at.at c.add_row.result _ c.add_row.ensures c.in_ok-n.was).short in omega arith

pub loop-at-preserved : goal.loop-at-preserved
loop-at-preserved c = rw c.row_end-at.ensures (arrange_more c.loop-at.invariant c.loop-at-test.true c.order-1.given (added_row c.args.list.now c.loop-at.order c.loop-at.k c.loop-at.at c.add_row.result _ c.add_row.ensures c.in_ok-n.was))

pub shape_of-order : goal.shape_of-order
shape_of-order c = c.loop-at.invariant.room ∙ sym c.requires.room

pub returns : goal.returns
returns c = arrange_end c.loop-at.invariant c.loop-at-test.false
