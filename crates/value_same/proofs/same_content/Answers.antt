use Rattle.value_same.proofs.Fields.{by_fields}
use Rattle.value_same.proofs.Rows.{stands_inside, stands_bits}
use Rattle.datatype.specs.Types.{length_of}
use Prim.Native.Nat.{◌+◌, ◌-◌}
use mathlib.Core.Path.{◌≡◌}
use native.Mathlib.Omega.{arith}
use borrow.Author.Rules.{rules}
use Rattle.value_same.proofs.same_content.Goals as goal

pub overflow_add-x : goal.overflow_add-x
overflow_add-x c =
    let h = rw (← c.range-left.ensures) at (stands_inside (length_of c.args.ty) c.args.a c.args.row_a.now c.requires.0) in
    search rules

pub slice_bounds-same_value-end : goal.slice_bounds-same_value-end
slice_bounds-same_value-end c =
    let h = rw (← c.range-left.ensures) at (stands_inside (length_of c.args.ty) c.args.a c.args.row_a.now c.requires.0) in
    search rules

pub overflow_add-y : goal.overflow_add-y
overflow_add-y c =
    let h = rw (← c.range-right.ensures) at (stands_inside (length_of c.args.ty) c.args.b c.args.row_b.now c.requires.1) in
    search rules

pub slice_bounds-same_value-end-2 : goal.slice_bounds-same_value-end-2
slice_bounds-same_value-end-2 c =
    let h = rw (← c.range-right.ensures) at (stands_inside (length_of c.args.ty) c.args.b c.args.row_b.now c.requires.1) in
    search rules

pub same_value-requires : goal.same_value-requires
same_value-requires c =
    let r = c.range-left.result in
    let s = c.range-right.result in
    let e : r.start + r.length - r.start ≡ r.length = omega arith in
    let f : s.start + s.length - s.start ≡ s.length = omega arith in
    rw (e, f, c.range-left.ensures, c.range-right.ensures) (stands_bits (length_of c.args.ty) c.args.a c.args.row_a.now c.requires.0, stands_bits (length_of c.args.ty) c.args.b c.args.row_b.now c.requires.1)

pub returns : goal.returns
returns c =
    let k = c.args in
    let r = c.range-left.result in
    let s = c.range-right.result in
    let e : r.start + r.length - r.start ≡ r.length = omega arith in
    let f : s.start + s.length - s.start ≡ s.length = omega arith in
    rw (
      ← by_fields (length_of k.ty) k.row_a.now k.row_b.now k.a k.b,
      ← c.range-left.ensures,
      ← c.range-right.ensures,
    )
    (rw (e, f) at c.same_value.ensures)
