use Rattle.row_build.proofs.Placing.{least, too_long, no_room, few-counts, fillable, row-placed}
use Rattle.datatype.proofs.Again.{columns-all}
use native.Mathlib.Omega.{arith}
use Rattle.row_build.proofs.place_row.Goals.{then-out-n-via-then-out-n, then-out-n-via-else-out-n+then-counts-layout}
use Rattle.row_build.proofs.place_row.Goals as goal

pub returns-then-row_limit-n : goal.returns-then-row_limit-n
returns-then-row_limit-n c =
    let a = c.args in
    too_long c.requires.0 c.requires.1 a.out.now a.counts.now (rw c.row_limit.ensures.0 at c.if-row_limit-n.true)

pub returns-then-out-n : goal.returns-then-out-n
returns-then-out-n c =
    let a = c.args in
    let h = rw c.row_limit.ensures.0 at c.if-row_limit-n.false in
    elim c.then-out-n.branch [
      | then-out-n-via-then-out-n w ↦ no_room c.requires.0 c.requires.1 a.out.now a.counts.now h w.if-out-n.true
      | then-out-n-via-else-out-n+then-counts-layout w ↦ few-counts c.requires.0 c.requires.1 a.out.now a.counts.now h w.if-out-n.false (omega (arith, w.if-counts-layout.true))
    ]

pub write_nulls-requires : goal.write_nulls-requires
write_nulls-requires c =
    (c.requires.0.accepted.bounded, omega (arith, least c.requires.0 c.requires.1, c.if-out-n.false))

pub write_columns-requires : goal.write_columns-requires
write_columns-requires c =
    let a = c.args in
    let b = c.requires.0 in
    (fillable b c.requires.1 a.out.now a.counts.now (rw c.row_limit.ensures.0 at c.if-row_limit-n.false) c.if-out-n.false c.write_nulls.ensures, omega (arith, columns-all b.accepted, c.if-counts-layout.false))

pub returns : goal.returns
returns c =
    let a = c.args in
    let w = c.write_columns.ensures in
    row-placed c.requires.0 c.requires.1 a.out.now a.counts.now (rw c.row_limit.ensures.0 at c.if-row_limit-n.false) c.if-out-n.false c.write_nulls.ensures c.if-counts-layout.false w.0 w.1
