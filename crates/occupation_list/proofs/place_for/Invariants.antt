use Prim.Native.Nat.{◌-◌}
use lib.ListN.{get_or}
use Rattle.occupation.specs.Order.{precedes}
use Rattle.occupation.specs.InnerFields.{fields_shown}
use Rattle.occupation_list.specs.InnerOrder.{occupation_at}
use Rattle.occupation_list.proofs.Insertion.{Searching}
use Rattle.occupation_list.proofs.place_for.Given as goal

abbrev pub invariant-loop-low : goal.invariant-loop-low
invariant-loop-low l = Searching (λ i. precedes (fields_shown l.row l.f) (occupation_at l.list (get_or l.order i 0))) l.k l.low l.high

abbrev pub decreases-loop-low : goal.decreases-loop-low
decreases-loop-low l = l.high - l.low
