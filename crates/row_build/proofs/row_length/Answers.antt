use borrow.Author.Rules.{rules}
use native.Mathlib.Omega.{arith}
use Rattle.row_format.proofs.Sorts.{limit_le}
use Rattle.row_build.proofs.Measuring.{walk_start, walk_none, walk_readable, walk_bad, walk_room, walk_more, walk_left, walk_end, no_length-told, bad_told}
use Rattle.error.proofs.Results.{handed_on}
use Rattle.row_build.proofs.row_length.Goals as goal

pub returns-then-row_limit-text : goal.returns-then-row_limit-text
returns-then-row_limit-text c = no_length-told c.requires (λ b. omega (arith, c.if-row_limit-text.true, b.short, c.row_limit.ensures.0))

pub loop-column-init : goal.loop-column-init
loop-column-init c = rw c.min_row_size-size.ensures (walk_start c.requires (rw c.row_limit.ensures.0 at c.if-row_limit-text.false))

pub returns-then-length-eq0 : goal.returns-then-length-eq0
returns-then-length-eq0 c =
    no_length-told c.requires (walk_none c.requires c.loop-column.invariant c.loop-column-test.true c.record_length-length.ensures c.if-length-eq0.true)

pub payload_at-requires : goal.payload_at-requires
payload_at-requires c =
    (walk_readable c.requires c.loop-column.invariant c.loop-column-test.true c.record_length-length.ensures c.if-length-eq0.false, omega (arith, c.loop-column.invariant.short, limit_le c.args.layout.is_long))

pub returns-in_err-n : goal.returns-in_err-n
returns-in_err-n c =
    rw (handed_on c.from_residual.result c.from_residual.ensures)
    (bad_told c.requires (walk_bad c.requires c.loop-column.invariant c.loop-column-test.true c.record_length-length.ensures c.if-length-eq0.false c.payload_at.result c.payload_at.ensures.0 c.in_err-n.was))

pub overflow_add-size : goal.overflow_add-size
overflow_add-size c = let q = walk_room c.requires c.loop-column.invariant c.loop-column-test.true c.record_length-length.ensures c.if-length-eq0.false c.payload_at.result c.payload_at.ensures.0 c.in_ok-n.was c.payload_at.ensures.1 in search rules

pub after_column-at-requires : goal.after_column-at-requires
after_column-at-requires c = (walk_readable c.requires c.loop-column.invariant c.loop-column-test.true c.record_length-length.ensures c.if-length-eq0.false).column

pub overflow_add-from : goal.overflow_add-from
overflow_add-from c = let q = (walk_more c.requires c.loop-column.invariant c.loop-column-test.true c.record_length-length.ensures c.if-length-eq0.false c.payload_at.result c.payload_at.ensures.0 c.in_ok-n.was c.payload_at.ensures.1).prefix.inside in search rules

pub loop-column-preserved : goal.loop-column-preserved
loop-column-preserved c = rw c.after_column-at.ensures (walk_more c.requires c.loop-column.invariant c.loop-column-test.true c.record_length-length.ensures c.if-length-eq0.false c.payload_at.result c.payload_at.ensures.0 c.in_ok-n.was c.payload_at.ensures.1)

pub returns-then-from-values : goal.returns-then-from-values
returns-then-from-values c =
    no_length-told c.requires (walk_left c.requires c.loop-column.invariant c.loop-column-test.false c.if-from-values.true)

pub returns : goal.returns
returns c = walk_end c.requires c.loop-column.invariant c.loop-column-test.false c.if-from-values.false
