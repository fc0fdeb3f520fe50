use Prim.Native.Nat.{◌-◌}
use Rattle.row_same.proofs.Comparing.{Comparing}
use Rattle.row_same.proofs.compare_columns.Given as goal

abbrev pub invariant-loop-at : goal.invariant-loop-at
invariant-loop-at l = Comparing l.schema l.layout l.p l.a l.other l.q l.b l.before l.at

abbrev pub decreases-loop-at : goal.decreases-loop-at
decreases-loop-at l = 256 - l.before.num_columns
