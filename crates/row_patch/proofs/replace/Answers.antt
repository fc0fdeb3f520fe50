use Rattle.row_patch.proofs.Held.{form-fits, form-stored}
use Rattle.row_patch.specs.InnerStores.{form_of}
use Rattle.row_patch.proofs.replace.Goals as goal

pub to_bytes_for_type-requires : goal.to_bytes_for_type-requires
to_bytes_for_type-requires c =
    let a = c.args in
    let p = c.requires in
    (p.1.0.digits, (p.1.0.holds, form-fits p.0 (form_of a.ty a.value a.area.now) p.1.1 _ c.move_tail.ensures))

pub returns : goal.returns
returns c =
    let a = c.args in
    let p = c.requires in
    form-stored p.0 (form_of a.ty a.value a.area.now) p.1.1 _ c.move_tail.ensures _ c.to_bytes_for_type.ensures
