use lib.ListN.{length}
use Rattle.value_list.proofs.Checking.{Checking}
use Prim.Native.Nat.{◌-◌}
use Rattle.value_list.proofs.check_values.Given as goal

abbrev pub invariant-loop-at : goal.invariant-loop-at
invariant-loop-at l = Checking l.is_long l.list l.columns l.area l.at l.count

abbrev pub decreases-loop-at : goal.decreases-loop-at
decreases-loop-at l = length l.list - l.at
