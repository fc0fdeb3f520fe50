use borrow.Author.Rules.{rules}
use Rattle.row_patch.proofs.Offsets.{moving_start, moving_inside, moving_may, moving_more, moving_end}
use Rattle.row_patch.proofs.move_offsets.Goals as goal

pub loop-k-init : goal.loop-k-init
loop-k-init c = moving_start c.requires

pub move_offset-requires : goal.move_offset-requires
move_offset-requires c =
    (moving_inside c.requires c.loop-k.invariant (search rules), moving_may c.requires c.loop-k.invariant (search rules))

pub loop-k-preserved : goal.loop-k-preserved
loop-k-preserved c = moving_more c.requires c.loop-k.invariant (search rules) _ c.move_offset.ensures

pub returns : goal.returns
returns c = moving_end c.requires c.loop-k.invariant (search rules)
