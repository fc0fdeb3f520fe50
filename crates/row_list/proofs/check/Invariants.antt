use Prim.Native.Nat.{◌-◌}
use lib.ListN.{length}
use Rattle.row_list.proofs.Checking.{Checking}
use Rattle.row_list.proofs.check.Given as goal

abbrev pub invariant-loop-at : goal.invariant-loop-at
invariant-loop-at l = Checking l.most l.list l.at l.rows

abbrev pub decreases-loop-at : goal.decreases-loop-at
decreases-loop-at l = length l.list - l.at
