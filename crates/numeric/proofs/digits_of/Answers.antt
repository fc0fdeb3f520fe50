use mathlib.Core.Path.{◌∙◌}
use native.Mathlib.Omega.{arith}
use Rattle.numeric.proofs.Packing.{wide-room, fill_start, fill_nine, fill_long, fill_eight}
use Rattle.numeric.proofs.digits_of.Goals as goal

pub returns-then-n-lt10000000 : goal.returns-then-n-lt10000000
returns-then-n-lt10000000 c = c.put_pairs.ensures ∙ (fill_start c.args.n (wide-room c.args.n c.ranges.n.fits)).stored

pub loop-rest-init : goal.loop-rest-init
loop-rest-init c =
    let d = c.divided_by-rest.ensures in
    rw (c.put_eight.ensures, d.0, d.1) (fill_nine c.args.n (wide-room c.args.n c.ranges.n.fits))

pub overflow_sub-i : goal.overflow_sub-i
overflow_sub-i c = fill_long c.loop-rest.invariant (omega (arith, c.loop-rest-test.true))

pub loop-rest-preserved : goal.loop-rest-preserved
loop-rest-preserved c =
    let f = c.loop-rest.invariant in
    let d = c.divided_by-quotient.ensures in
    rw (c.put_eight-in-loop-rest.ensures, d.0, d.1) (fill_eight f (fill_long f (omega (arith, c.loop-rest-test.true))))
