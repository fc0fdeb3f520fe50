use native.Mathlib.Omega.{arith}
use mathlib.Core.Path.{ap}
use lib.ListN.{length, length-set}
use Rattle.occupation_list.proofs.Decimals.{one_digit, two_digits_lem, one-stored, two-stored}
use Rattle.occupation_list.proofs.write_decimal.Goals as goal

pub bounds-out-at : goal.bounds-out-at
bounds-out-at c = let e = ap length (one_digit c.args.n (omega arith)) in let r = c.requires in omega arith

pub returns-then-n-lt10 : goal.returns-then-n-lt10
returns-then-n-lt10 c = let e = ap length (one_digit c.args.n (omega arith)) in (omega arith, one-stored c.args.out.now c.args.at c.args.n (omega arith) c.digit.ensures)

pub bounds-out-at-else-n-lt10 : goal.bounds-out-at-else-n-lt10
bounds-out-at-else-n-lt10 c = let e = ap length (two_digits_lem c.args.n (omega arith)) in let r = c.requires in omega arith

pub bounds-out-at-else-n-lt10-2 : goal.bounds-out-at-else-n-lt10-2
bounds-out-at-else-n-lt10-2 c = rw length-set (let e = ap length (two_digits_lem c.args.n (omega arith)) in let r = c.requires in omega arith)

pub returns-else-n-lt10 : goal.returns-else-n-lt10
returns-else-n-lt10 c = let e = ap length (two_digits_lem c.args.n (omega arith)) in (omega arith, two-stored c.args.out.now c.args.at c.args.n (omega arith) c.digit-else-n-lt10.ensures c.digit-else-n-lt10-2.ensures)
