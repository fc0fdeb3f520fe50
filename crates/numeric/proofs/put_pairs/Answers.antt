use Rattle.numeric.proofs.Packing.{fill_two, fill_end, fill_full}
use Rattle.numeric.proofs.put_pairs.Goals as goal

pub returns-then-rest-eq0 : goal.returns-then-rest-eq0
returns-then-rest-eq0 c = fill_end c.loop-i.invariant c.if-rest-eq0.true

pub loop-i-preserved : goal.loop-i-preserved
loop-i-preserved c = rw c.two_digits.ensures (fill_two c.loop-i.invariant c.loop-i-test.true)

pub returns : goal.returns
returns c = fill_full c.loop-i.invariant c.loop-i-test.false
