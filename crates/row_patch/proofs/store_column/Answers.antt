use borrow.Author.Rules.{rules}
use mathlib.Core.Path.{sym, ◌∙◌}
use lib.Seq.{length-take-le}
use Rattle.row_patch.proofs.store_column.Goals as goal

pub store_varlen-requires : goal.store_varlen-requires
store_varlen-requires c =
    let p = c.requires in
    let t = sym c.is_variable_length.ensures ∙ c.if-is_variable_length.true in
    (rw c.offset_table.ensures (p.0.range t), (p.1, t))

pub returns-then-is_variable_length : goal.returns-then-is_variable_length
returns-then-is_variable_length c = rw (← c.is_variable_length.ensures, c.if-is_variable_length.true) (rw c.offset_table.ensures at c.store_varlen.ensures)

pub overflow_add-at : goal.overflow_add-at
overflow_add-at c =
    let p = c.requires.0 in
    let h = rw (← c.alignment.ensures.0, ← c.slot_start.ensures, ← c.fixed_data_start.ensures.0, length-take-le c.args.n c.args.buf.now p.inside) at (p.reach.slot (sym c.is_variable_length.ensures ∙ c.if-is_variable_length.false)) in
    search rules

pub store_fixed-requires : goal.store_fixed-requires
store_fixed-requires c =
    let p = c.requires in
    let f = sym c.is_variable_length.ensures ∙ c.if-is_variable_length.false in
    let h = rw (← c.alignment.ensures.0, ← c.slot_start.ensures, ← c.fixed_data_start.ensures.0) at (p.0.reach.slot f) in
    (p.1, (f, (rw (length-take-le c.args.n c.args.buf.now p.0.inside) at h, p.0.inside)))

pub returns : goal.returns
returns c =
    rw (← c.is_variable_length.ensures, c.if-is_variable_length.false, ← c.alignment.ensures.0, ← c.slot_start.ensures, ← c.fixed_data_start.ensures.0) c.store_fixed.ensures
