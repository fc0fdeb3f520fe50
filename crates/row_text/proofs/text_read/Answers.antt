use Rattle.error.proofs.Results.{handed_on}
use Rattle.row_text.proofs.text_read.Goals as goal

pub returns : goal.returns
returns c = (rw (c.in_ok-v.was, c.range.ensures), rw c.range.ensures (rw c.in_ok-v.was at c.requires))

pub returns-in_err-v : goal.returns-in_err-v
returns-in_err-v c =
    rw (handed_on c.from_residual.result c.from_residual.ensures)
    ((rw c.in_err-v.was, tt))
