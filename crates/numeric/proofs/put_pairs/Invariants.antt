use lib.Seq.{sets}
use Rattle.numeric.specs.InnerPacked.{hundreds}
use Rattle.numeric.proofs.Packing.{Filling}
use Rattle.numeric.proofs.put_pairs.Given as goal

abbrev pub invariant-loop-i : goal.invariant-loop-i
invariant-loop-i l = Filling (sets l.initial.s 0 (hundreds l.end l.n)) l.s l.i l.rest
