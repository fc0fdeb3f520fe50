use Prim.Native.Nat.{◌-◌}
use lib.ListN.{length}
use Rattle.occupation_list.proofs.Arranging.{Arranging}
use Rattle.occupation_list.proofs.arrange_rows.Given as goal

abbrev pub invariant-loop-at : goal.invariant-loop-at
invariant-loop-at l = Arranging l.list l.order l.at l.k l.size

abbrev pub decreases-loop-at : goal.decreases-loop-at
decreases-loop-at l = length l.list - l.at
