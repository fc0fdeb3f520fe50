use Rattle.std.specs.Prelude.{Ok}
use native.Mathlib.Omega.{arith}
use mathlib.Core.Path.{sym, ap, ◌∙◌}
use Rattle.datatype.proofs.Again.{ahead-few, ahead_passable, ahead_step, step_column}
use Rattle.row_column.proofs.Reach.{reach-next}
use Rattle.row_sound.proofs.ByKind.{recorded}
use Rattle.row_reads.proofs.Reading.{ahead_walk}
use Rattle.row_same.proofs.Comparing.{compare_start, compare_end}
use Rattle.row_same.proofs.Comparing.{compare_bad, compare_other, compare_more, compare_beside, compare_stored}
use Rattle.error.proofs.Results.{handed_on}
use Rattle.row_same.proofs.compare_columns.Goals as goal

pub loop-at-init : goal.loop-at-init
loop-at-init c = let p = c.requires in rw c.new-before.ensures (compare_start p.0 p.1.1)

pub next_column-step-requires : goal.next_column-step-requires
next_column-step-requires c =
    let w = c.loop-at.invariant.walk in
    (ahead_passable w c.loop-at-test.true, (ahead-few w c.loop-at-test.true, w.bounded))

pub same_stored-requires : goal.same_stored-requires
same_stored-requires c =
    let p = c.requires in
    let y = c.next_column-step.ensures in
    compare_beside c.loop-at.invariant c.loop-at-test.true y.0 p.0 p.1.0

pub compare_column-requires : goal.compare_column-requires
compare_column-requires c =
    let w = c.loop-at.invariant.walk in
    let h = c.loop-at-test.true in
    let p = c.requires in
    let r = recorded w h in
    (r, (reach-next p.0 w h r.is, reach-next p.1.0 w h r.is))

pub returns-in_err-same : goal.returns-in_err-same
returns-in_err-same c =
    rw (handed_on c.from_residual.result c.from_residual.ensures)
    (compare_bad c.loop-at.invariant c.loop-at-test.true
    (sym c.compare_column.ensures ∙ c.in_err-same.was))

pub check_columns-requires : goal.check_columns-requires
check_columns-requires c =
    let y = c.next_column-step.ensures in
    let w = c.loop-at.invariant.walk in
    let p = c.requires in
    (p.1.0, ahead_walk (ahead_step w c.loop-at-test.true y.0 y.1))

pub returns-then-not-same : goal.returns-then-not-same
returns-then-not-same c =
    let other = ap Ok (c.if-not-same.true) in
    c.check_columns.ensures
    ∙ compare_other c.loop-at.invariant c.loop-at-test.true c.next_column-step.ensures.0
    (sym c.compare_column.ensures ∙ c.in_ok-same.was ∙ other)

pub loop-at-smaller-else-not-same : goal.loop-at-smaller-else-not-same
loop-at-smaller-else-not-same c =
    let w = c.loop-at.invariant.walk in
    let h = c.loop-at-test.true in
    omega (arith, ahead-few w h, step_column w h c.next_column-step.ensures.0)

pub loop-at-preserved-else-not-same : goal.loop-at-preserved-else-not-same
loop-at-preserved-else-not-same c =
    let y = c.next_column-step.ensures in
    let same = ap Ok (c.if-not-same.false) in
    compare_more c.loop-at.invariant c.loop-at-test.true y.0 y.1
    (sym c.compare_column.ensures ∙ c.in_ok-same.was ∙ same)

pub loop-at-smaller : goal.loop-at-smaller
loop-at-smaller c =
    let w = c.loop-at.invariant.walk in
    let h = c.loop-at-test.true in
    omega (arith, ahead-few w h, step_column w h c.next_column-step.ensures.0)

pub loop-at-preserved : goal.loop-at-preserved
loop-at-preserved c =
    let k = c.loop-at.invariant in
    let h = c.loop-at-test.true in
    let y = c.next_column-step.ensures in
    let p = c.requires in
    compare_more k h y.0 y.1
    (compare_stored k h y.0 p.0 p.1.0 (sym c.same_stored.ensures ∙ c.if-not-same_stored.false))

pub returns : goal.returns
returns c = compare_end c.loop-at.invariant c.loop-at-test.false
