use native.Mathlib.Omega.{arith}
use mathlib.Core.Path.{◌≡◌}
use Prim.Native.Nat.{◌+◌, ◌-◌}
use Rattle.record_slot.proofs.Points.{few-points}
use Rattle.record_slot.proofs.Tests.{start_is, length-is}
use borrow.Author.Rules.{rules}
use Rattle.record_slot.proofs.text_points.Goals as goal

pub slice_bounds-count_points-end : goal.slice_bounds-count_points-end
slice_bounds-count_points-end c =
    let q = c.range-start in
    let h = rw (← start_is q.ensures.0, ← length-is q.ensures.0) at c.requires.1.inside in
    search rules

pub count_points-requires : goal.count_points-requires
count_points-requires c =
    let q = c.range-start in
    let s = q.result.start in
    let l = q.result.length in
    let e : s + l - s ≡ l = omega arith in
    rw e (rw (← start_is q.ensures.0, ← length-is q.ensures.0) at c.requires.1.valid)

pub returns : goal.returns
returns c =
    let a = c.args in
    let q = c.range-start in
    let s = q.result.start in
    let l = q.result.length in
    let e : s + l - s ≡ l = omega arith in
    let k = rw e at c.count_points.ensures in
    let h = rw (← k) at (few-points q.result a.text.now (rw (← start_is q.ensures.0, ← length-is q.ensures.0) at c.requires.1)) in
    let z = q.ensures.1.size in
    rw (← start_is q.ensures.0, ← length-is q.ensures.0) (k, omega arith)
