use native.Mathlib.Omega.{arith}
use mathlib.Core.Path.{sym, ◌∙◌}
use Rattle.datatype.proofs.Again.{ahead-few, ahead_passable, step_column}
use Rattle.row_column.proofs.Reach.{reach-next}
use Rattle.row_sound.proofs.ByKind.{recorded}
use Rattle.row_reads.proofs.Reading.{read-start, read-end, read_bad, read_more}
use Rattle.row_reads.proofs.check_columns.Goals as goal

pub loop-at-init : goal.loop-at-init
loop-at-init c = read-start c.requires.1

pub column_reads-requires : goal.column_reads-requires
column_reads-requires c =
    let w = c.loop-at.invariant.walk in
    let r = recorded w c.loop-at-test.true in
    (r, reach-next c.requires.0 w c.loop-at-test.true r.is)

pub column_refusal-requires : goal.column_refusal-requires
column_refusal-requires c =
    let w = c.loop-at.invariant.walk in
    let r = recorded w c.loop-at-test.true in
    (r, reach-next c.requires.0 w c.loop-at-test.true r.is)

pub returns-then-not-column_reads : goal.returns-then-not-column_reads
returns-then-not-column_reads c =
    c.column_refusal.ensures
    ∙ read_bad c.loop-at.invariant c.loop-at-test.true
    (sym c.column_reads.ensures ∙ c.if-not-column_reads.true)

pub next_column-step-requires : goal.next_column-step-requires
next_column-step-requires c =
    let w = c.loop-at.invariant.walk in
    let h = c.loop-at-test.true in
    (ahead_passable w h, (ahead-few w h, w.bounded))

pub loop-at-smaller : goal.loop-at-smaller
loop-at-smaller c =
    let w = c.loop-at.invariant.walk in
    let h = c.loop-at-test.true in
    omega (arith, ahead-few w h, step_column w h c.next_column-step.ensures.0)

pub loop-at-preserved : goal.loop-at-preserved
loop-at-preserved c =
    let y = c.next_column-step.ensures in
    read_more c.loop-at.invariant c.loop-at-test.true
    (sym c.column_reads.ensures ∙ c.if-not-column_reads.false) y.0 y.1

pub returns : goal.returns
returns c = read-end c.loop-at.invariant c.loop-at-test.false
