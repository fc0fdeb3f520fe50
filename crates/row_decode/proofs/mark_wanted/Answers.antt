use Rattle.row_decode.proofs.Marking.{marked_more}
use lib.ListN.{length-set, get_or}
use mathlib.Core.Path.{◌∙◌}
use Rattle.row_decode.proofs.mark_wanted.Goals as goal

pub loop-column-preserved : goal.loop-column-preserved
loop-column-preserved c =
    let l = c.loop-column in
    let w = c.args.wanted.now in
    rw c.mark.ensures (length-set l.marks (get_or w l.column-index 0) 1 ∙ l.invariant.0, marked_more l.marks w l.column-index c.loop-column-test.true ∙ l.invariant.1)
