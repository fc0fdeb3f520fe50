use Rattle.numeric.specs.Decimal.{digits}
use Rattle.numeric.specs.Packed.{pairs}
use Rattle.numeric.proofs.Packing.{Filling}
use Rattle.numeric.proofs.digits_of.Given as goal

abbrev pub invariant-loop-rest : goal.invariant-loop-rest
invariant-loop-rest l = Filling (pairs (digits 39 l.n)) l.d l.i l.rest

abbrev pub decreases-loop-rest : goal.decreases-loop-rest
decreases-loop-rest l = l.i
