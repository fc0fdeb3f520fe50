use Rattle.numeric.proofs.Reading.{Window}
use Rattle.numeric.proofs.short_magnitude.Given as goal

abbrev pub invariant-loop-k : goal.invariant-loop-k
invariant-loop-k l = Window l.bytes l.from l.to l.n l.k
