use Prim.Native.Nat.{◌-◌}
use Rattle.row_sound.proofs.Checking.{Checking}
use Rattle.row_sound.proofs.columns_sound.Given as goal

abbrev pub invariant-loop-at : goal.invariant-loop-at
invariant-loop-at l = Checking l.schema l.layout l.packed l.row l.before l.at

abbrev pub decreases-loop-at : goal.decreases-loop-at
decreases-loop-at l = 256 - l.before.num_columns
