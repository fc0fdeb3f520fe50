use native.Mathlib.Omega.{arith}
use mathlib.Core.Path.{sym, ◌∙◌}
use Rattle.datatype.proofs.Walk.{walk_start, walk_end, walk_over, walk_bad, walk_more}
use Rattle.datatype.proofs.Plain.{plain_record, plain_added}
use borrow.Author.Rules.{rules}
use Rattle.error.proofs.Results.{handed_on}
use Rattle.datatype.proofs.check_schema.Goals as goal

pub loop-at-init : goal.loop-at-init
loop-at-init c = rw (c.of_sort-layout.ensures, c.new.ensures) (walk_start c.args.is_long c.args.schema.now)

pub returns-then-layout-eq-COLUMN_LIMIT : goal.returns-then-layout-eq-COLUMN_LIMIT
returns-then-layout-eq-COLUMN_LIMIT c = (walk_over c.loop-at.invariant c.loop-at-test.true c.if-layout-eq-COLUMN_LIMIT.true, tt)

pub with_column-layout-requires : goal.with_column-layout-requires
with_column-layout-requires c = (omega (arith, c.loop-at.invariant.bounded), (c.loop-at.invariant.bounded, omega (arith, c.plain_size-size.ensures.1)))

pub loop-at-smaller-then-size-ne0 : goal.loop-at-smaller-then-size-ne0
loop-at-smaller-then-size-ne0 c = rw c.with_column-layout.ensures.0 (omega (arith, c.loop-at.invariant.bounded))

pub loop-at-preserved-then-size-ne0 : goal.loop-at-preserved-then-size-ne0
loop-at-preserved-then-size-ne0 c =
    let s = c.args.schema.now in
    let l = c.loop-at in
    let added = plain_added s l.at l.layout c.plain_size-size.ensures.0 c.if-size-ne0.true c.with_column-layout.ensures.0 in
    rw added (walk_more l.invariant c.loop-at-test.true c.if-layout-eq-COLUMN_LIMIT.false (plain_record s l.at (λ e. c.if-size-ne0.true (c.plain_size-size.ensures.0 ∙ e))) (rw added at c.with_column-layout.ensures.1))

pub body_at-requires : goal.body_at-requires
body_at-requires c = (search rules, sym c.plain_size-size.ensures.0 ∙ c.if-size-ne0.false)

pub returns-in_err-t : goal.returns-in_err-t
returns-in_err-t c =
    rw (handed_on c.from_residual.result c.from_residual.ensures)
    (let l = c.loop-at in
    (walk_bad l.invariant c.loop-at-test.true c.if-layout-eq-COLUMN_LIMIT.false (sym c.body_at.ensures ∙ c.in_err-t.was), tt))

pub with_column-layout-requires-else-size-ne0 : goal.with_column-layout-requires-else-size-ne0
with_column-layout-requires-else-size-ne0 c = (omega (arith, c.loop-at.invariant.bounded), (c.loop-at.invariant.bounded, c.shape.ensures.1))

pub loop-at-smaller : goal.loop-at-smaller
loop-at-smaller c = rw c.with_column-layout-else-size-ne0.ensures.0 (omega (arith, c.loop-at.invariant.bounded))

pub loop-at-preserved : goal.loop-at-preserved
loop-at-preserved c =
    let l = c.loop-at in
    let e = rw c.shape.ensures.0 at c.with_column-layout-else-size-ne0.ensures.0 in
    let r = sym c.body_at.ensures ∙ c.in_ok-t.was in
    rw e (walk_more l.invariant c.loop-at-test.true c.if-layout-eq-COLUMN_LIMIT.false r (rw e at c.with_column-layout-else-size-ne0.ensures.1))

pub finish-requires : goal.finish-requires
finish-requires c = c.loop-at.invariant.bounded

pub returns : goal.returns
returns c = (c.finish.ensures.0 ∙ walk_end c.loop-at.invariant c.loop-at-test.false, c.finish.ensures.1)
