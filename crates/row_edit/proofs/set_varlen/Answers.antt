use mathlib.Core.Path.{sym}
use native.Mathlib.Omega.{arith}
use lib.Seq.{length-take-le}
use Rattle.row_format.proofs.Sorts.{limit_le}
use Rattle.value.specs.Ranges.{range_of}
use Rattle.row_edit.proofs.Ready.{reaches}
use Rattle.row_edit.proofs.Stored.{range-within, kept_limit, varlen_ready, varlen_done, varlen_long, varlen_room}
use Rattle.row_edit.proofs.set_varlen.Goals as goal

pub slice_bounds-range_at-end-2 : goal.slice_bounds-range_at-end-2
slice_bounds-range_at-end-2 c = sym (length-take-le _ _ c.requires.0.inside)

pub range_at-range-requires : goal.range_at-range-requires
range_at-range-requires c =
    let r = reaches c.requires.0 c.requires.1.0 in
    (r.whole, (r.rank c.requires.1.1.0, r.table))

pub overflow_sub-kept : goal.overflow_sub-kept
overflow_sub-kept c =
    range-within c.requires.0 c.requires.1.0 c.requires.1.1.0 c.range_at-range.ensures

pub overflow_add-kept : goal.overflow_add-kept
overflow_add-kept c =
    omega (arith, limit_le c.args.layout.is_long, kept_limit c.requires.0 c.requires.1.0 c.requires.1.1.0 c.range_at-range.ensures)

pub overflow_sub-row_limit : goal.overflow_sub-row_limit
overflow_sub-row_limit c =
    rw c.row_limit.ensures.0 (kept_limit c.requires.0 c.requires.1.0 c.requires.1.1.0 c.range_at-range.ensures)

pub returns-then-row_limit-kept : goal.returns-then-row_limit-kept
returns-then-row_limit-kept c =
    varlen_long c.requires.0 c.requires.1.0 c.requires.1.1.0 c.range_at-range.ensures c.requires.1.1.1 (rw (c.range-text.ensures, c.row_limit.ensures.0) at c.if-row_limit-kept.true)

pub overflow_add-kept-2 : goal.overflow_add-kept-2
overflow_add-kept-2 c =
    omega (arith, limit_le c.args.layout.is_long, kept_limit c.requires.0 c.requires.1.0 c.requires.1.1.0 c.range_at-range.ensures, rw c.row_limit.ensures.0 at c.if-row_limit-kept.false)

pub returns-then-buf-kept : goal.returns-then-buf-kept
returns-then-buf-kept c =
    varlen_room c.requires.0 c.requires.1.0 c.requires.1.1.0 c.range_at-range.ensures c.requires.1.1.1 (rw (c.range-text.ensures, c.row_limit.ensures.0) at c.if-row_limit-kept.false) (rw c.range-text.ensures at c.if-buf-kept.true)

pub write_value-requires : goal.write_value-requires
write_value-requires c =
    (varlen_ready c.requires.0 c.requires.1.0 c.requires.1.1.0 c.range_at-range.ensures (range_of c.args.value).length (rw (c.range-text.ensures, c.row_limit.ensures.0) at c.if-row_limit-kept.false) (rw c.range-text.ensures at c.if-buf-kept.false), c.requires.1.1.1)

pub returns : goal.returns
returns c =
    varlen_done c.requires.0 c.requires.1.0 c.requires.1.1.0 c.range_at-range.ensures c.requires.1.1.1 c.write_value.ensures (rw (c.range-text.ensures, c.row_limit.ensures.0) at c.if-row_limit-kept.false) (rw c.range-text.ensures at c.if-buf-kept.false)
