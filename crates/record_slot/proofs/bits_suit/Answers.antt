use mathlib.Core.Path.{refl}
use Rattle.record_slot.proofs.Held.{bits_outside, bits_told}
use Rattle.record_slot.proofs.Tests.{start_is, length-is}
use Rattle.record_slot.proofs.bits_suit.Goals as goal

pub returns-then-text-start : goal.returns-then-text-start
returns-then-text-start c =
    let a = c.args in
    let q = c.range-start in
    rw (← start_is q.ensures.0, ← length-is q.ensures.0) (bits_outside a.n q.result.start q.result.length a.text.now c.if-text-start.true)

pub returns : goal.returns
returns c =
    let a = c.args in
    let q = c.range-start in
    rw (← start_is q.ensures.0, ← length-is q.ensures.0) (bits_told a.n q.result.start q.result.length a.text.now c.if-text-start.false c.byte_count.ensures refl)
