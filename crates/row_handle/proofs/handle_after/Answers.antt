use Rattle.row_handle.proofs.handle_after.Goals as goal

pub returns-in-Ok : goal.returns-in-Ok
returns-in-Ok c = rw (c.in-Ok.is, c.geometry_of.ensures, c.is_packed.ensures)
