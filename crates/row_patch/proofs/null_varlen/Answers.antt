use Rattle.row_format.proofs.Sorts.{fits_limit}
use native.Mathlib.Omega.{arith}
use mathlib.Core.Path.{refl}
use mathlib.Core.Option.{none}
use native.Mathlib.Nat.{add-zero}
use Rattle.row_patch.proofs.Ranges.{lent_length, table_ready, table_done}
use Prim.Native.Nat.{◌+◌, ◌-◌}
use Rattle.row_patch.proofs.null_varlen.Goals as goal

pub slice_bounds-edit_table-end-2 : goal.slice_bounds-edit_table-end-2
slice_bounds-edit_table-end-2 c =
    let a = c.args in
    lent_length c.requires none refl (a.start + (a.n - a.end)) a.start (rw add-zero) (rw add-zero) _ c.remove.ensures

pub edit_table-requires : goal.edit_table-requires
edit_table-requires c =
    let a = c.args in
    (table_ready c.requires none refl (a.start + (a.n - a.end)) a.start (rw add-zero) (rw add-zero) _ c.remove.ensures, fits_limit a.table.is_long (omega arith))

pub returns : goal.returns
returns c =
    let a = c.args in
    table_done c.requires none refl (a.start + (a.n - a.end)) a.start (rw add-zero) (rw add-zero) _ c.remove.ensures _ c.edit_table.ensures
