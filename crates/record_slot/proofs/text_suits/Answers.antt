use Rattle.record_slot.proofs.Held.{text_outside, text-told}
use Rattle.record_slot.proofs.Tests.{start_is, length-is}
use Rattle.record_slot.proofs.text_suits.Goals as goal

pub returns-then-text-start : goal.returns-then-text-start
returns-then-text-start c =
    let a = c.args in
    let q = c.range-start in
    rw (← start_is q.ensures.0, ← length-is q.ensures.0) (text_outside a.n q.result.start q.result.length a.text.now a.by_points c.if-text-start.true)

pub returns : goal.returns
returns c =
    let a = c.args in
    let q = c.range-start in
    rw (← start_is q.ensures.0, ← length-is q.ensures.0) (text-told a.n q.result.start q.result.length a.text.now c.if-text-start.false a.by_points c.is_within.ensures)
