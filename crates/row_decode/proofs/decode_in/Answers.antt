use mathlib.Core.Path.{◌∙◌}
use Rattle.row_decode.proofs.Handing.{filled_held, filled_out}
use lib.ListN.{replicate}
use Rattle.datatype.specs.Check.{types_in}
use Rattle.row_decode.specs.InnerWalk.{walked_read}
use Rattle.row_decode.specs.InnerMarks.{is_marked}
use Rattle.row_layout.specs.InnerLayout.{no_columns}
use Rattle.row_decode.proofs.decode_in.Goals as goal

pub hand_out-requires : goal.hand_out-requires
hand_out-requires g c =
    let a = c.args in
    filled_held a.layout.is_long a.row.now a.layout.num_columns (replicate g.row.BYTES 0) (replicate g.row.COLUMNS 0) _ _ c.decode_columns-answer.result
    (walked_read a.layout a.packed (is_marked a.marks.now) a.row.now no_columns (types_in a.schema.now)) c.decode_columns-answer.ensures

pub returns : goal.returns
returns g c =
    let a = c.args in
    c.hand_out.ensures
    ∙ filled_out a.layout.is_long a.row.now a.layout.num_columns (replicate g.row.BYTES 0) (replicate g.row.COLUMNS 0) _ _ c.decode_columns-answer.result
    (walked_read a.layout a.packed (is_marked a.marks.now) a.row.now no_columns (types_in a.schema.now)) c.decode_columns-answer.ensures a.out.now a.counts.now
