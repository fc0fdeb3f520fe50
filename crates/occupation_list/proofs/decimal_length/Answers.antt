use native.Mathlib.Omega.{arith}
use Rattle.occupation_list.proofs.Decimals.{one_digit, two_digits_lem}
use borrow.Author.Rules.{rules}
use Rattle.occupation_list.proofs.decimal_length.Goals as goal

pub returns-then-n-lt10 : goal.returns-then-n-lt10
returns-then-n-lt10 c = (rw (one_digit c.args.n (omega arith)), search rules)

pub returns-else-n-lt10 : goal.returns-else-n-lt10
returns-else-n-lt10 c = (rw (two_digits_lem c.args.n (omega arith)), search rules)
