use Rattle.row_patch.specs.InnerStores.{form_of}
use Rattle.row_patch.proofs.Columns.{length-slot, slot-stored}
use native.Mathlib.Omega.{arith}
use Rattle.row_patch.proofs.store_fixed.Goals as goal

pub to_bytes_for_type-requires : goal.to_bytes_for_type-requires
to_bytes_for_type-requires c =
    let p = c.requires in
    (p.0.digits, (p.0.holds, omega (arith, length-slot p.0 p.1.0, p.1.1.0, p.1.1.1)))

pub returns : goal.returns
returns c =
    let a = c.args in
    let p = c.requires in
    slot-stored a.buf.now (form_of a.ty a.value a.area.now) _ a.n a.at _ (length-slot p.0 p.1.0) p.1.1.0 p.1.1.1 c.to_bytes_for_type.ensures
