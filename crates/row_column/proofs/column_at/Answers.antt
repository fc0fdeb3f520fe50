use mathlib.Core.Path.{refl, sym, ap, ◌∙◌}
use Rattle.datatype.specs.InnerSteps.{type_in}
use native.Mathlib.Omega.{arith}
use Rattle.datatype.proofs.Again.{ahead-start, ahead-column, ahead-few, ahead_passable, ahead_there, ahead_step, step_column}
use Rattle.row_column.proofs.Reach.{found}
use Rattle.row_column.proofs.column_at.Goals as goal

pub loop-before-init : goal.loop-before-init
loop-before-init c = rw c.new-before.ensures (ahead-start c.requires.0, omega arith)

pub next_column-step-requires : goal.next_column-step-requires
next_column-step-requires c =
    let w = c.loop-before.invariant.0 in
    let h = ahead_there w (omega (arith, c.loop-before-test.true, c.requires.1)) in
    (ahead_passable w h, (ahead-few w h, w.bounded))

pub loop-before-smaller : goal.loop-before-smaller
loop-before-smaller c =
    let w = c.loop-before.invariant.0 in
    let h = ahead_there w (omega (arith, c.loop-before-test.true, c.requires.1)) in
    omega (arith, step_column w h c.next_column-step.ensures.0, c.loop-before-test.true)

pub loop-before-preserved : goal.loop-before-preserved
loop-before-preserved c =
    let w = c.loop-before.invariant.0 in
    let h = ahead_there w (omega (arith, c.loop-before-test.true, c.requires.1)) in
    (ahead_step w h c.next_column-step.ensures.0 c.next_column-step.ensures.1, omega (arith, step_column w h c.next_column-step.ensures.0, c.loop-before-test.true))

pub record_at-requires : goal.record_at-requires
record_at-requires c = ahead_there c.loop-before.invariant.0 (omega (arith, c.loop-before.invariant.1, c.requires.1))

pub unwrap-ty-requires : goal.unwrap-ty-requires
unwrap-ty-requires c =
    let w = c.loop-before.invariant.0 in
    let h = ahead_there w (omega (arith, c.loop-before.invariant.1, c.requires.1)) in
    rw (c.record_at.ensures, (ahead-column w h).is)

pub returns : goal.returns
returns c =
    let w = c.loop-before.invariant.0 in
    let h = ahead_there w (omega (arith, c.loop-before.invariant.1, c.requires.1)) in
    found w h (omega (arith, c.loop-before.invariant.1, c.loop-before-test.false)) refl (ap type_in (sym (sym c.record_at.ensures ∙ c.unwrap-ty.ensures)))
