use Rattle.occupation_list.proofs.Writing.{Writing}
use Rattle.occupation_list.proofs.write_lines.Given as goal

abbrev pub invariant-loop-at : goal.invariant-loop-at
invariant-loop-at l = Writing l.list l.order l.initial.out l.out l.at-index l.end
