-- `read` meets its contract.
use Rattle.std.specs.Prelude.{Err}
use mathlib.Core.Path.{refl, sym, ◌∙◌}
use Rattle.datatype.specs.Check.{layout_for}
use Rattle.row_column.proofs.Walk.{frame_walked}
use Rattle.row_column.proofs.Framing.{frame_refused, frame-good}
use Rattle.occupation.specs.Occupation.{columns}
use Rattle.occupation.specs.InnerRead.{with_platform}
use Rattle.occupation.proofs.Rows.{long-enough, by_frame}
use Rattle.error.proofs.Results.{handed_on}
use Rattle.occupation.proofs.read.Goals as goal

pub read_columns-requires : goal.read_columns-requires
read_columns-requires c =
    let k = c.is_long-is_long.result in
    let r = c.args.row.now in
    long-enough k r (frame_walked columns r {l = layout_for k columns} refl ∙ (sym c.check_frame.ensures ∙ c.in_ok-check_frame.was))

pub returns-in_err-check_frame : goal.returns-in_err-check_frame
returns-in_err-check_frame c =
    rw (handed_on c.from_residual.result c.from_residual.ensures)
    (let k = c.is_long-is_long.result in
    let e = c.is_long-is_long.ensures in
    let r = c.args.row.now in
    (rw (← e) (frame_refused columns {l = layout_for k columns} r refl Err (λ p. with_platform k r) (sym c.check_frame.ensures ∙ c.in_err-check_frame.was) ∙ by_frame k r), tt))

pub returns : goal.returns
returns c =
    let k = c.is_long-is_long.result in
    let e = c.is_long-is_long.ensures in
    let r = c.args.row.now in
    (rw (← e) (c.read_columns.ensures.0 ∙ (frame-good columns {l = layout_for k columns} r refl Err (λ p. with_platform k r) (sym c.check_frame.ensures ∙ c.in_ok-check_frame.was) ∙ by_frame k r)), c.read_columns.ensures.1)
