use Rattle.row_format.specs.Places.{offset_width}
use Rattle.row_patch.proofs.Offsets.{Moving}
use Rattle.row_patch.proofs.move_offsets.Given as goal

abbrev pub invariant-loop-k : goal.invariant-loop-k
invariant-loop-k l = Moving (offset_width l.table.is_long) l.table.start l.table.entries l.rank l.end l.new_end l.initial.row l.row l.k
