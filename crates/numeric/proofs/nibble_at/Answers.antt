use borrow.Author.Rules.{rules}
use Rattle.numeric.proofs.Reading.{nibble_upper, nibble_lower}
use Rattle.numeric.proofs.nibble_at.Goals as goal

pub returns-then-k-eq0 : goal.returns-then-k-eq0
returns-then-k-eq0 c =
    let a = c.args in
    nibble_upper a.bytes.now a.k (search rules)

pub returns-else-k-eq0 : goal.returns-else-k-eq0
returns-else-k-eq0 c =
    let a = c.args in
    nibble_lower a.bytes.now a.k (search rules)
