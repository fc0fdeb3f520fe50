use Rattle.row_sound.proofs.ByKind.{bodily, body_typed, typed_as, varchar-typed, body_fixed}
use Rattle.row_sound.proofs.Slots.{value_if_lem, null-sound, any-sound, slot-told, as_char}
use native.Mathlib.Omega.{arith}
use mathlib.Core.Path.{refl, sym, ap, ◌∙◌}
use Rattle.datatype.specs.Types.{is_varlen}
use Rattle.datatype.specs.declared.DataType.TheVariants.{Char, Character}
use Rattle.row_sound.proofs.body_sound.Goals as goal

pub read_u16-n-requires : goal.read_u16-n-requires
read_u16-n-requires c =
    let p = c.requires in
    omega (arith, (bodily p.0 p.1.0 p.1.1.0).long)

pub varchar_sound-requires : goal.varchar_sound-requires
varchar_sound-requires c =
    let p = c.requires in
    rw c.read_u16-n.ensures
    (rw (varchar-typed (bodily p.0 p.1.0 p.1.1.0) (sym c.is_varchar.ensures ∙ c.if-is_varchar.true)) at p.1.1.1)

pub returns-then-is_varchar : goal.returns-then-is_varchar
returns-then-is_varchar c =
    let p = c.requires in
    rw (varchar-typed (bodily p.0 p.1.0 p.1.1.0) (sym c.is_varchar.ensures ∙ c.if-is_varchar.true), ← c.read_u16-n.ensures)
    c.varchar_sound.ensures

pub returns-then-column_bit_is_set : goal.returns-then-column_bit_is_set
returns-then-column_bit_is_set c =
    let a = c.args in
    let p = c.requires in
    let b = bodily p.0 p.1.0 p.1.1.0 in
    null-sound a.layout a.packed a.before a.row.now _ (ap is_varlen (body_typed b) ∙ body_fixed a.schema.now a.at a.kind (sym c.is_varchar.ensures ∙ c.if-is_varchar.false)) (sym c.column_bit_is_set.ensures ∙ c.if-column_bit_is_set.true)

pub char_sound-requires : goal.char_sound-requires
char_sound-requires c =
    let p = c.requires in
    rw c.read_u16-n.ensures (rw (typed_as (bodily p.0 p.1.0 p.1.1.0) c.in-9.is) at p.1.1.1)

pub char_sound-requires-in-10 : goal.char_sound-requires-in-10
char_sound-requires-in-10 c =
    let a = c.args in
    let p = c.requires in
    rw c.read_u16-n.ensures (as_char a.layout a.packed a.before a.row.now (rw (typed_as (bodily p.0 p.1.0 p.1.1.0) c.in-10.is) at p.1.1.1))

pub record_sound-requires : goal.record_sound-requires
record_sound-requires c =
    let a = c.args in
    let p = c.requires in
    (p.1.1.0, (p.1.1.1, ap is_varlen (body_typed (bodily p.0 p.1.0 p.1.1.0)) ∙ body_fixed a.schema.now a.at a.kind (sym c.is_varchar.ensures ∙ c.if-is_varchar.false)))

pub returns-in-9 : goal.returns-in-9
returns-in-9 c =
    let a = c.args in
    let p = c.requires in
    rw (typed_as (bodily p.0 p.1.0 p.1.1.0) c.in-9.is, ← c.read_u16-n.ensures)
    (slot-told a.layout a.packed a.before a.row.now (Char c.read_u16-n.result) refl refl (sym c.column_bit_is_set.ensures ∙ c.if-column_bit_is_set.false) refl (c.char_sound.ensures ∙ value_if_lem _ _))

pub returns-in-10 : goal.returns-in-10
returns-in-10 c =
    let a = c.args in
    let p = c.requires in
    rw (typed_as (bodily p.0 p.1.0 p.1.1.0) c.in-10.is, ← c.read_u16-n.ensures)
    (slot-told a.layout a.packed a.before a.row.now (Character c.read_u16-n.result) refl refl (sym c.column_bit_is_set.ensures ∙ c.if-column_bit_is_set.false) refl (c.char_sound-in-10.ensures ∙ value_if_lem _ _))

pub returns-in-14 : goal.returns-in-14
returns-in-14 c =
    let a = c.args in
    let p = c.requires in
    rw (typed_as (bodily p.0 p.1.0 p.1.1.0) c.in-14.is) (any-sound a.layout a.packed a.before a.row.now _ refl (λ i bs. refl))
