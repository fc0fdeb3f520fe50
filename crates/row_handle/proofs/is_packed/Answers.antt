use Rattle.row_handle.proofs.Handling.{short-flag}
use Rattle.row_handle.proofs.is_packed.Goals as goal

pub returns-then-row-lt4 : goal.returns-then-row-lt4
returns-then-row-lt4 c = short-flag c.args.row.now c.shared_slice_known-1.given c.if-row-lt4.true

pub returns : goal.returns
returns c = rw c.read_u16.ensures
