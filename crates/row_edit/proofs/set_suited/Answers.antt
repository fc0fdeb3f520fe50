use Rattle.row_edit.proofs.set_suited.Goals as goal

pub set_varlen-requires : goal.set_varlen-requires
set_varlen-requires c =
    (c.requires.0, (c.requires.1.0, (rw c.is_variable_length.ensures at c.if-is_variable_length.true, c.requires.1.1)))

pub returns-then-is_variable_length : goal.returns-then-is_variable_length
returns-then-is_variable_length c = c.set_varlen.ensures

pub set_fixed-requires : goal.set_fixed-requires
set_fixed-requires c =
    (c.requires.0, (c.requires.1.0, (rw c.is_variable_length.ensures at c.if-is_variable_length.false, c.requires.1.1)))

pub returns-else-is_variable_length : goal.returns-else-is_variable_length
returns-else-is_variable_length c = c.set_fixed.ensures
