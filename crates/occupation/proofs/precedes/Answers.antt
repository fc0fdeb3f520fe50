-- `precedes` meets its contract.
use Rattle.occupation.proofs.Compare.{in_order}
use Rattle.occupation.proofs.precedes.Goals as goal

pub returns : goal.returns
returns c =
    let a = c.args in
    rw (c.is_lt.ensures, c.then.ensures, c.cmp-platforms.ensures, c.cmp.ensures)
    (in_order (λ x. x.now) a.a_row.now a.b_row.now a.a a.b c.text_of.result c.text_of-2.result c.text_of.ensures c.text_of-2.ensures)
