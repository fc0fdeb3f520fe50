use borrow.Author.Rules.{rules}
use Rattle.row_format.proofs.Sorts.{fits_limit}
use native.Mathlib.Omega.{arith}
use Prim.Native.Nat.{◌+◌, ◌-◌}
use mathlib.Core.Path.{refl}
use mathlib.Core.Option.{some}
use Rattle.row_patch.specs.InnerStores.{form_of}
use Rattle.row_patch.proofs.Ranges.{length-text, lent_length, table_ready, table_done}
use Rattle.row_patch.proofs.store_varlen.Goals as goal

pub replace-requires : goal.replace-requires
replace-requires c =
    let p = c.requires in
    let e = c.range-range.ensures in
    let g = rw (← e) at p.0 in
    (g.replaceable, (p.1.0, rw e (length-text p.1.0 p.1.1)))

pub overflow_add-m : goal.overflow_add-m
overflow_add-m c =
    let g = rw (← c.range-range.ensures) at c.requires.0 in
    omega (arith, g.short)

pub overflow_add-m-2 : goal.overflow_add-m-2
overflow_add-m-2 c =
    let g = rw (← c.range-range.ensures) at c.requires.0 in
    omega (arith, g.short)

pub slice_bounds-edit_table-end : goal.slice_bounds-edit_table-end
slice_bounds-edit_table-end c =
    let g = rw (← c.range-range.ensures) at c.requires.0 in
    let k = g.replaceable.room in
    search rules

pub slice_bounds-edit_table-end-2 : goal.slice_bounds-edit_table-end-2
slice_bounds-edit_table-end-2 c =
    let a = c.args in
    let p = c.requires in
    let e = c.range-range.ensures in
    let g = rw (← e) at p.0 in
    let size = c.range-range.result.length in
    lent_length g (some (form_of a.ty a.value a.area.now)) (rw e (length-text p.1.0 p.1.1)) (a.start + size + (a.n - a.end)) (a.start + size) refl refl _ c.replace.ensures

pub overflow_add-start : goal.overflow_add-start
overflow_add-start c =
    let g = rw (← c.range-range.ensures) at c.requires.0 in
    omega (arith, g.short)

pub edit_table-requires : goal.edit_table-requires
edit_table-requires c =
    let a = c.args in
    let p = c.requires in
    let e = c.range-range.ensures in
    let g = rw (← e) at p.0 in
    let size = c.range-range.result.length in
    (table_ready g (some (form_of a.ty a.value a.area.now)) (rw e (length-text p.1.0 p.1.1)) (a.start + size + (a.n - a.end)) (a.start + size) refl refl _ c.replace.ensures, fits_limit a.table.is_long (omega (arith, g.short)))

pub returns : goal.returns
returns c =
    let a = c.args in
    let p = c.requires in
    let e = c.range-range.ensures in
    let g = rw (← e) at p.0 in
    let size = c.range-range.result.length in
    table_done g (some (form_of a.ty a.value a.area.now)) (rw e (length-text p.1.0 p.1.1)) (a.start + size + (a.n - a.end)) (a.start + size) refl refl _ c.replace.ensures _ c.edit_table.ensures
