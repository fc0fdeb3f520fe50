use Rattle.laws.proofs.Tests.{by_tests}
use Rattle.occupation.proofs.text_range.Goals as goal

pub returns-then-column_bit_is_set : goal.returns-then-column_bit_is_set
returns-then-column_bit_is_set c = let a = c.args in (search by_tests depth 6, tt)

pub returns : goal.returns
returns c = (search by_tests depth 6, c.varlen_range.ensures.1)
