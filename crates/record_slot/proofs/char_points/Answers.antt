use native.Mathlib.Omega.{arith}
use mathlib.Core.Bool.{false}
use mathlib.Core.Path.{refl}
use Rattle.row_format.specs.Places.{offset_width}
use Rattle.value_list.specs.Records.{range_at}
use Rattle.record_slot.proofs.Forms.{text_there}
use Rattle.record_slot.proofs.Points.{few-points, range-within, filled_points}
use Rattle.record_slot.proofs.Tests.{start_is, length-is}
use borrow.Author.Rules.{rules}
use Rattle.record_slot.proofs.char_points.Goals as goal

pub text_points-requires : goal.text_points-requires
text_points-requires c =
    let a = c.args in
    (c.requires.0, text_there false a.n (range_at (offset_width a.body.is_long) a.body.values.now a.body.at) a.text.now c.requires.1.1)

pub overflow_sub-result : goal.overflow_sub-result
overflow_sub-result c =
    let a = c.args in
    let q = c.range-range in
    let h = range-within a.n q.result a.text.now (rw (← start_is q.ensures.0, ← length-is q.ensures.0) at c.requires.1.1) in
    search rules

pub returns : goal.returns
returns c =
    let a = c.args in
    let q = c.range-range in
    let s = rw (← start_is q.ensures.0, ← length-is q.ensures.0) at c.requires.1.1 in
    let k = rw (← start_is q.ensures.0, ← length-is q.ensures.0) at c.text_points.ensures.0 in
    let h = range-within a.n q.result a.text.now s in
    let f = rw (← k) at (few-points q.result a.text.now (text_there false a.n q.result a.text.now s)) in
    rw (← start_is q.ensures.0, ← length-is q.ensures.0) (filled_points a.n q.result a.text.now s k refl, omega (arith, f, h))
