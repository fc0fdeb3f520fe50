use Rattle.occupation_list.proofs.Arranging.{list-whole, list-refused}
use Rattle.error.proofs.Results.{handed_on}
use Rattle.occupation_list.proofs.arrange.Goals as goal

pub arrange_rows-requires : goal.arrange_rows-requires
arrange_rows-requires c = list-whole c.args.list.now c.check.result c.check.ensures c.args.order.now c.in_ok-check.was c.requires

pub returns-in_err-check : goal.returns-in_err-check
returns-in_err-check c =
    rw (handed_on c.from_residual.result c.from_residual.ensures)
    (list-refused c.args.list.now c.check.result c.check.ensures c.in_err-check.was)
