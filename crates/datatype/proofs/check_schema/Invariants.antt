use Prim.Native.Nat.{◌-◌}
use Rattle.datatype.proofs.Walk.{Walking}
use Rattle.datatype.proofs.check_schema.Given as goal

abbrev pub invariant-loop-at : goal.invariant-loop-at
invariant-loop-at l = Walking l.is_long l.schema l.layout l.at

abbrev pub decreases-loop-at : goal.decreases-loop-at
decreases-loop-at l = 256 - l.layout.num_columns
