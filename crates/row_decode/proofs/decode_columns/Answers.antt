use native.Mathlib.Omega.{arith}
use Rattle.datatype.proofs.Again.{ahead-few, step_column, ahead_passable}
use Rattle.row_decode.proofs.Decoding.{decode_start, decode_end, decode_size, decode_numbers, decode_at, count-inside, decode_next, decode_refused}
use borrow.Author.Rules.{rules}
use Rattle.error.proofs.Results.{handed_on}
use Rattle.row_decode.proofs.decode_columns.Goals as goal

pub loop-at-init : goal.loop-at-init
loop-at-init c = rw c.new-before.ensures (decode_start c.requires)

pub decode_column-requires : goal.decode_column-requires
decode_column-requires c =
    (decode_at c.requires c.loop-at.invariant c.loop-at-test.true, c.requires.flags)

pub returns-in_err-n : goal.returns-in_err-n
returns-in_err-n c =
    rw (handed_on c.from_residual.result c.from_residual.ensures)
    (decode_refused c.requires c.loop-at.invariant c.loop-at-test.true c.decode_column.result _ c.decode_column.ensures c.in_err-n.was)

pub offset_bounds-points-i : goal.offset_bounds-points-i
offset_bounds-points-i c =
    let h = ahead-few c.loop-at.invariant.walk c.loop-at-test.true in
    search rules

pub bounds-points-i : goal.bounds-points-i
bounds-points-i c = count-inside c.requires c.loop-at.invariant c.loop-at-test.true

pub next_column-step-requires : goal.next_column-step-requires
next_column-step-requires c =
    let w = c.loop-at.invariant.walk in
    let h = c.loop-at-test.true in
    (ahead_passable w h, (ahead-few w h, w.bounded))

pub loop-at-smaller : goal.loop-at-smaller
loop-at-smaller c =
    let f = ahead-few c.loop-at.invariant.walk c.loop-at-test.true in
    omega (arith, f, step_column c.loop-at.invariant.walk c.loop-at-test.true c.next_column-step.ensures.0)

pub loop-at-preserved : goal.loop-at-preserved
loop-at-preserved c = decode_next c.requires c.loop-at.invariant c.loop-at-test.true c.decode_column.result _ c.decode_column.ensures c.in_ok-n.was c.next_column-step.ensures.0 c.next_column-step.ensures.1

pub shape_of-buf : goal.shape_of-buf
shape_of-buf c = decode_size c.requires c.loop-at.invariant

pub shape_of-points : goal.shape_of-points
shape_of-points c = decode_numbers c.requires c.loop-at.invariant

pub returns : goal.returns
returns c = decode_end c.requires c.loop-at.invariant c.loop-at-test.false
