use borrow.Author.Rules.{rules}
use Rattle.laws.proofs.Bits.{shifted_one}
use Rattle.null_bitmap.proofs.Masks.{bit-set, bit-clear}
use Rattle.null_bitmap.proofs.put_bit.Goals as goal

pub returns-then-set : goal.returns-then-set
returns-then-set c =
    let a = c.args in
    rw (c.if-set.true, shifted_one a.k (search rules)) (bit-set a.k a.b)

pub returns-else-set : goal.returns-else-set
returns-else-set c =
    let a = c.args in
    rw (c.if-set.false, shifted_one a.k (search rules)) (bit-clear a.k a.b (search rules) (search rules))
