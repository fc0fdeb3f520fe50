use mathlib.Core.Path.{◌≡◌}
use Rattle.text.specs.InnerTails.{tails_of}
use Rattle.text.proofs.tails.Given as goal

abbrev pub invariant-loop-b : goal.invariant-loop-b
invariant-loop-b l = l.count ≡ tails_of l.s l.first l.b-index
