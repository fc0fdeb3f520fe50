use mathlib.Core.Path.{◌∙◌}
use lib.ListN.{length-set}
use Rattle.laws.proofs.Stores.{filled}
use Rattle.endian.proofs.fill.Goals as goal

pub loop-i-preserved : goal.loop-i-preserved
loop-i-preserved c =
    let a = c.args in
    let l = c.loop-i in
    (simp length-set l.invariant.0, filled l.s a.at a.n l.i a.b c.loop-i-test.true ∙ l.invariant.1)
