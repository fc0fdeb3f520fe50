use lib.Seq.{set_out}
use mathlib.Core.Path.{sym}
use Rattle.row_decode.proofs.mark.Goals as goal

pub returns-else-column-marks : goal.returns-else-column-marks
returns-else-column-marks c = sym (set_out c.args.marks.now c.args.column 1 c.if-column-marks.false)
