use borrow.Author.Tests.{le-ltb}
use Rattle.row_decode.proofs.Handing.{front_copied}
use borrow.Author.Rules.{rules}
use Rattle.row_decode.proofs.hand_out.Goals as goal

pub returns : goal.returns
returns c =
    let a = c.args in
    let h = rw c.in_ok-n.was at c.requires in
    let n = c.in_ok-n.n in
    rw (
      c.in_ok-n.was,
      le-ltb _ _ c.if-out-n.false,
      le-ltb _ _ c.if-counts-columns.false,
      c.copy_from_slice.ensures.after,
      c.copy_from_slice-2.ensures.after,
      front_copied a.out.now a.buf.now n (search rules) h.0,
      front_copied a.counts.now a.points.now a.columns (search rules) h.1,
    )
