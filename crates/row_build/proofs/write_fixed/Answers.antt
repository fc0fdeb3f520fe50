use Rattle.row_build.proofs.write_fixed.Goals as goal

pub returns : goal.returns
returns c = rw (c.clear_bit.ensures, c.write_slot.ensures)
