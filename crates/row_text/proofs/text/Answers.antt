use native.Mathlib.Omega.{arith}
use mathlib.Core.Path.{◌≡◌}
use Prim.Native.Nat.{◌+◌, ◌-◌}
use Rattle.row_text.proofs.text.Goals as goal

pub overflow_add-end : goal.overflow_add-end
overflow_add-end c =
    let h = rw c.in-Ok.is at c.column_text.ensures.1 in
    omega (arith, h)

pub slice_bounds-result-end-in-Ok : goal.slice_bounds-result-end-in-Ok
slice_bounds-result-end-in-Ok c =
    let h = rw c.in-Ok.is at c.column_text.ensures.1 in
    omega (arith, h)

pub returns-in-Err : goal.returns-in-Err
returns-in-Err c = rw (← c.column_text.ensures.0, c.in-Err.is)

pub returns-in-Ok : goal.returns-in-Ok
returns-in-Ok c =
    let e : c.in-Ok.part.start + c.in-Ok.part.length - c.in-Ok.part.start ≡ c.in-Ok.part.length = omega arith in
    rw (← c.column_text.ensures.0, c.in-Ok.is, e)
