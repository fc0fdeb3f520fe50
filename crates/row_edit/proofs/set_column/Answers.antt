use mathlib.Core.Path.{sym, ap, ◌∙◌}
use Rattle.datatype.specs.declared.DataType.{DataType}
use Rattle.datatype.specs.Check.{types_in}
use Rattle.record_slot.specs.Stored.{stored_in}
use Rattle.row_edit.specs.Edit.{written}
use Rattle.row_edit.proofs.Opening.{kind_bad, suit_bad, suit_good}
use Rattle.row_edit.proofs.set_column.Goals as goal

pub column_at-found-requires : goal.column_at-found-requires
column_at-found-requires c =
    (c.requires.accepted.schema, c.requires.column)

pub suits-requires : goal.suits-requires
suits-requires c = c.column_at-found.ensures.digits

pub set_suited-requires : goal.set_suited-requires
set_suited-requires c = (c.requires, (c.column_at-found.ensures, record { digits = c.column_at-found.ensures.digits; kind = sym c.data_value_matches_type.ensures ∙ c.if-not-data_value_matches_type.false; holds = sym c.suits.ensures ∙ c.if-not-suits.false }))

pub returns : goal.returns
returns c =
    let a = c.args in
    let is = ap (λ (t : DataType). stored_in a.column t a.value a.area.now) c.column_at-found.ensures.type_is in
    let g = suit_good a.column c.column_at-found.result.ty a.value a.area.now (sym c.data_value_matches_type.ensures ∙ c.if-not-data_value_matches_type.false) (sym c.suits.ensures ∙ c.if-not-suits.false) in
    c.set_suited.ensures ∙ ap (written a.layout.is_long (types_in a.schema.now) a.packed a.buf.now a.n a.column) (sym g ∙ is)

pub returns-then-not-suits : goal.returns-then-not-suits
returns-then-not-suits c =
    let a = c.args in
    let is = ap (λ (t : DataType). stored_in a.column t a.value a.area.now) c.column_at-found.ensures.type_is in
    let g = suit_bad a.column c.column_at-found.result.ty a.value a.area.now (sym c.data_value_matches_type.ensures ∙ c.if-not-data_value_matches_type.false) (sym c.suits.ensures ∙ c.if-not-suits.true) in
    ap (written a.layout.is_long (types_in a.schema.now) a.packed a.buf.now a.n a.column) (sym g ∙ is)

pub returns-then-not-data_value_matches_type : goal.returns-then-not-data_value_matches_type
returns-then-not-data_value_matches_type c =
    let a = c.args in
    let is = ap (λ (t : DataType). stored_in a.column t a.value a.area.now) c.column_at-found.ensures.type_is in
    let g = kind_bad a.column c.column_at-found.result.ty a.value a.area.now (sym c.data_value_matches_type.ensures ∙ c.if-not-data_value_matches_type.true) in
    ap (written a.layout.is_long (types_in a.schema.now) a.packed a.buf.now a.n a.column) (sym g ∙ is)
