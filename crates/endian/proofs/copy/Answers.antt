use mathlib.Core.Path.{◌∙◌}
use lib.ListN.{length-set}
use Rattle.laws.proofs.Stores.{copied}
use Rattle.endian.proofs.copy.Goals as goal

pub loop-i-preserved : goal.loop-i-preserved
loop-i-preserved c =
    let a = c.args in
    let l = c.loop-i in
    (simp length-set l.invariant.0, copied l.s a.src.now a.at l.i c.loop-i-test.true ∙ l.invariant.1)
