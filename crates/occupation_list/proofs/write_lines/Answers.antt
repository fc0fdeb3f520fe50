use Rattle.occupation_list.proofs.Writing.{write_more}
use Rattle.occupation_list.proofs.write_lines.Goals as goal

pub loop-at-preserved : goal.loop-at-preserved
loop-at-preserved c = write_more c.requires.1 c.loop-at.invariant c.loop-at-test.true c.write_row-end.ensures.0 c.write_row-end.ensures.1
