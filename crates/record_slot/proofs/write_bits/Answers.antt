use native.Mathlib.Omega.{arith}
use mathlib.Core.Path.{◌≡◌}
use Prim.Native.Nat.{◌+◌, ◌-◌}
use Rattle.record_slot.proofs.Forms.{bits_inside, bits_within}
use Rattle.record_slot.proofs.Tests.{start_is, length-is}
use borrow.Author.Rules.{rules}
use Rattle.record_slot.proofs.write_bits.Goals as goal

pub slice_bounds-write_bits-end : goal.slice_bounds-write_bits-end
slice_bounds-write_bits-end c =
    let a = c.args in
    let q = c.range-start in
    let h = bits_inside a.n q.result a.text.now (rw (← start_is q.ensures.0, ← length-is q.ensures.0) at c.requires.1.1) in
    search rules

pub write_bits-requires : goal.write_bits-requires
write_bits-requires c =
    let a = c.args in
    let q = c.range-start in
    let s = q.result.start in
    let l = q.result.length in
    let e : s + l - s ≡ l = omega arith in
    rw e (bits_within a.n q.result a.text.now (rw (← start_is q.ensures.0, ← length-is q.ensures.0) at c.requires.1.1), c.requires.1.0)

pub returns : goal.returns
returns c =
    let q = c.range-start in
    let s = q.result.start in
    let l = q.result.length in
    let e : s + l - s ≡ l = omega arith in
    rw (← start_is q.ensures.0, ← length-is q.ensures.0) (rw e at c.write_bits.ensures)
