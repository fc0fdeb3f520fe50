use native.Mathlib.Omega.{arith}
use mathlib.Core.Path.{sym, ◌∙◌}
use Rattle.datatype.proofs.Again.{ahead-few, ahead_passable, step_column}
use Rattle.row_column.proofs.Reach.{reach-next}
use Rattle.row_sound.proofs.ByKind.{recorded}
use Rattle.row_sound.proofs.Checking.{check_start, check_end, check_next, check_bad}
use Rattle.row_sound.proofs.columns_sound.Goals as goal

pub loop-at-init : goal.loop-at-init
loop-at-init c = rw c.new-before.ensures (check_start c.requires)

pub kind_sound-requires : goal.kind_sound-requires
kind_sound-requires c =
    let w = c.loop-at.invariant.walk in
    let r = recorded w c.loop-at-test.true in
    (r, reach-next c.requires w c.loop-at-test.true r.is)

pub returns-then-not-kind_sound : goal.returns-then-not-kind_sound
returns-then-not-kind_sound c =
    let k = c.loop-at.invariant in
    check_bad k c.loop-at-test.true (recorded k.walk c.loop-at-test.true).is (sym c.kind_sound.ensures ∙ c.if-not-kind_sound.true)

pub next_column-step-requires : goal.next_column-step-requires
next_column-step-requires c =
    let w = c.loop-at.invariant.walk in
    let h = c.loop-at-test.true in
    (ahead_passable w h, (ahead-few w h, w.bounded))

pub loop-at-smaller : goal.loop-at-smaller
loop-at-smaller c =
    let w = c.loop-at.invariant.walk in
    let f = ahead-few w c.loop-at-test.true in
    omega (arith, f, step_column w c.loop-at-test.true c.next_column-step.ensures.0)

pub loop-at-preserved : goal.loop-at-preserved
loop-at-preserved c = check_next c.loop-at.invariant c.loop-at-test.true (sym c.kind_sound.ensures ∙ c.if-not-kind_sound.false) c.next_column-step.ensures.0 c.next_column-step.ensures.1

pub returns : goal.returns
returns c = check_end c.loop-at.invariant c.loop-at-test.false
