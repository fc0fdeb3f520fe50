use Rattle.std.specs.Prelude.{Err}
use mathlib.Core.Path.{◌≡◌, sym, ap, ◌∙◌}
use Rattle.row_format.specs.Places.{offset_width}
use Rattle.datatype.specs.Check.{types_in}
use Rattle.row_column.specs.Column.{column_value}
use Rattle.row_column.specs.InnerWalk.{walked_column}
use Rattle.row_column.proofs.Walk.{column_walked}
use Rattle.row_column.proofs.Framing.{framed, frame_refused, frame-good}
use Rattle.row_column.proofs.Reach.{reach}
use Rattle.row_text.specs.Text.{text_read}
use Rattle.error.proofs.Results.{handed_on}
use Rattle.row_text.proofs.text_in_row.Goals as goal

pub check_frame-requires : goal.check_frame-requires
check_frame-requires c = c.requires.0.bounded

pub read_column-read-requires : goal.read_column-read-requires
read_column-read-requires c =
    let f = c.requires.1.1 in
    reach (framed c.requires.0 (sym c.check_frame.ensures ∙ c.in_ok-packed.was)) _ _ c.args.column c.requires.1.0 f.layout f.type_is f.bounded f.digits

pub returns-in_err-packed : goal.returns-in_err-packed
returns-in_err-packed c =
    rw (handed_on c.from_residual.result c.from_residual.ensures)
    (let a = c.args in (
      frame_refused (types_in a.schema.now) a.row.now
          c.requires.0.layout
          Err _ (sym c.check_frame.ensures ∙ c.in_err-packed.was),
      tt,
    ))

pub returns : goal.returns
returns c =
    let a = c.args in
    let h = c.requires in
    let f = h.1.1 in
    let ts = types_in a.schema.now in
    let same : walked_column a.layout c.in_ok-packed.packed a.found.before a.found.ty a.row.now
    ≡ column_value (offset_width a.layout.is_long) c.in_ok-packed.packed ts a.column a.row.now
    = rw (f.layout, f.type_is, ← h.0.layout) (sym (column_walked a.layout.is_long c.in_ok-packed.packed ts a.column a.row.now h.1.0)) in (
      c.text_read.ensures.0 ∙ ap text_read (c.read_column-read.ensures.0 ∙ same)
          ∙ frame-good ts a.row.now h.0.layout Err
          (λ q. text_read (column_value (offset_width a.layout.is_long) q ts a.column a.row.now))
          (sym c.check_frame.ensures
          ∙ c.in_ok-packed.was),
      c.text_read.ensures.1,
    )
