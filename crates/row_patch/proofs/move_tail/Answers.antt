use Rattle.row_patch.proofs.Held.{tail_moved}
use Rattle.row_patch.proofs.move_tail.Goals as goal

pub returns : goal.returns
returns c = tail_moved c.requires _ c.move_within.ensures
