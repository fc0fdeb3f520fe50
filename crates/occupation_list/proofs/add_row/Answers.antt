use mathlib.Core.Path.{sym, ap, ◌∙◌}
use Rattle.occupation.specs.Occupation.{occupation_in}
use Rattle.occupation.proofs.Lengths.{fields_short}
use Rattle.occupation_list.proofs.Places.{read_known, read-refused, add_row}
use Rattle.error.proofs.Results.{handed_on}
use Rattle.occupation_list.proofs.add_row.Goals as goal

pub place_for-p-requires : goal.place_for-p-requires
place_for-p-requires c = (c.requires.so_far, (read_known c.row_at-row.result.now c.read.result c.in_ok-f.was c.read.ensures))

pub line_length-requires : goal.line_length-requires
line_length-requires c = fields_short (read_known c.row_at-row.result.now c.read.result c.in_ok-f.was c.read.ensures).bounds

pub returns-in_err-f : goal.returns-in_err-f
returns-in_err-f c =
    rw (handed_on c.from_residual.result c.from_residual.ensures)
    (ap occupation_in (sym c.row_at-row.ensures) ∙ read-refused c.row_at-row.result.now c.read.result c.in_err-f.was c.read.ensures.0)

pub returns : goal.returns
returns c = add_row c.requires c.row_at-row.result.now c.row_at-row.ensures (read_known c.row_at-row.result.now c.read.result c.in_ok-f.was c.read.ensures) c.place_for-p.ensures c.insert.ensures c.line_length.ensures
