use native.Mathlib.Omega.{arith}
use mathlib.Core.Path.{sym, ◌∙◌}
use borrow.Author.Rules.{rules}
use Rattle.row_column.proofs.read_column.Goals as goal

pub returns-then-column_bit_is_set : goal.returns-then-column_bit_is_set
returns-then-column_bit_is_set c = (rw (← c.column_bit_is_set.ensures, c.if-column_bit_is_set.true), omega arith)

pub read_varlen-requires : goal.read_varlen-requires
read_varlen-requires c =
    let p = c.requires in
    let t = sym c.is_variable_length.ensures ∙ c.if-is_variable_length.true in
    (p.digits, (t, rw c.offset_table.ensures (p.rank t, p.table)))

pub returns-then-is_variable_length : goal.returns-then-is_variable_length
returns-then-is_variable_length c =
    (rw (← c.column_bit_is_set.ensures, c.if-column_bit_is_set.false, ← c.is_variable_length.ensures, c.if-is_variable_length.true) (rw c.offset_table.ensures at c.read_varlen.ensures.0), c.read_varlen.ensures.1)

pub overflow_add-start : goal.overflow_add-start
overflow_add-start c =
    let h = rw (← c.alignment.ensures.0, ← c.slot_start.ensures, ← c.fixed_data_start.ensures.0) at (c.requires.slot (sym c.is_variable_length.ensures ∙ c.if-is_variable_length.false)) in
    search rules

pub overflow_add-start-2 : goal.overflow_add-start-2
overflow_add-start-2 c =
    let h = rw (← c.alignment.ensures.0, ← c.slot_start.ensures, ← c.fixed_data_start.ensures.0, ← c.fixed_size.ensures.0) at (c.requires.slot (sym c.is_variable_length.ensures ∙ c.if-is_variable_length.false)) in
    search rules

pub read_bytes-requires : goal.read_bytes-requires
read_bytes-requires c =
    let h = rw (← c.alignment.ensures.0, ← c.slot_start.ensures, ← c.fixed_data_start.ensures.0, ← c.fixed_size.ensures.0) at (c.requires.slot (sym c.is_variable_length.ensures ∙ c.if-is_variable_length.false)) in
    (c.requires.digits, (omega arith, (h, λ f. rw (← c.fixed_size.ensures.0) (omega arith))))

pub returns : goal.returns
returns c =
    (rw (← c.column_bit_is_set.ensures, c.if-column_bit_is_set.false, ← c.is_variable_length.ensures, c.if-is_variable_length.false, ← c.alignment.ensures.0, ← c.slot_start.ensures, ← c.fixed_data_start.ensures.0, ← c.fixed_size.ensures.0) c.read_bytes.ensures.0, c.read_bytes.ensures.1)
