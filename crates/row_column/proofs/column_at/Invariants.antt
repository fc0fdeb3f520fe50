use Prim.Native.Nat.{◌-◌, ◌≤◌}
use Rattle.datatype.proofs.Again.{Ahead}
use Rattle.row_column.proofs.column_at.Given as goal

abbrev pub invariant-loop-before : goal.invariant-loop-before
invariant-loop-before l = Ahead l.schema l.before l.at × (l.before.num_columns ≤ l.column)

abbrev pub decreases-loop-before : goal.decreases-loop-before
decreases-loop-before l = l.column - l.before.num_columns
