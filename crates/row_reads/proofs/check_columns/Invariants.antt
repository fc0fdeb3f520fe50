use Prim.Native.Nat.{◌-◌}
use Rattle.row_reads.proofs.Reading.{Reading}
use Rattle.row_reads.proofs.check_columns.Given as goal

abbrev pub invariant-loop-at : goal.invariant-loop-at
invariant-loop-at l = Reading l.schema l.layout l.packed l.row l.initial.before l.answer l.before l.at

abbrev pub decreases-loop-at : goal.decreases-loop-at
decreases-loop-at l = 256 - l.before.num_columns
