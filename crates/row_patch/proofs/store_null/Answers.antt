use mathlib.Core.Path.{sym, ◌∙◌}
use Rattle.row_patch.proofs.Columns.{held_same}
use Rattle.row_patch.proofs.store_null.Goals as goal

pub null_varlen-requires : goal.null_varlen-requires
null_varlen-requires c = rw c.offset_table.ensures (c.requires.range (sym c.is_variable_length.ensures ∙ c.if-is_variable_length.true))

pub returns-then-is_variable_length : goal.returns-then-is_variable_length
returns-then-is_variable_length c = rw (← c.is_variable_length.ensures, c.if-is_variable_length.true) (rw c.offset_table.ensures at c.null_varlen.ensures)

pub returns : goal.returns
returns c =
    rw (← c.is_variable_length.ensures, c.if-is_variable_length.false) (held_same c.args.buf.now c.args.n c.requires.inside)
