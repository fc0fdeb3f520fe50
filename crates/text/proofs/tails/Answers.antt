-- `tails` meets its contract.
use mathlib.Core.Path.{sym}
use native.Mathlib.Omega.{arith}
use Rattle.text.proofs.Laws.{length-part, part_at}
use Rattle.text.proofs.Counts.{byte_fits, tails_none, tails_more, tails_le}
use Rattle.text.proofs.tails.Goals as goal

pub loop-b-init : goal.loop-b-init
loop-b-init c = let a = c.args in sym (tails_none a.s.now a.first)

pub overflow_add-count : goal.overflow_add-count
overflow_add-count c =
    let a = c.args in
    let l = length-part a.s.now a.first a.n c.requires.0 in
    let h = tails_le a.s.now a.first c.loop-b.b-index in
    byte_fits c.is_tail.result (omega arith)

pub loop-b-preserved : goal.loop-b-preserved
loop-b-preserved c =
    let l = c.loop-b in
    let a = c.args in
    let e = part_at a.s.now a.first a.n c.requires.0 l.b-index c.loop-b-test.true in
    rw (l.invariant, c.is_tail.ensures, e, tails_more a.s.now a.first l.b-index)
