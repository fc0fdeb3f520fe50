use Rattle.row_sound.proofs.ByKind.{body_type, bodily, body_typed, typed_as, varchar-typed, body_fixed}
use Rattle.row_sound.proofs.Slots.{value_if_lem, any-sound, slot-told, as_char}
use native.Mathlib.Omega.{arith}
use lib.Dec.{eqb}
use mathlib.Core.Path.{refl, sym, ap, ◌∙◌}
use Rattle.row_format.specs.Places.{table_start, offset_width}
use Rattle.row_layout.specs.Range.{varlen_range}
use Rattle.datatype.specs.Types.{is_varlen}
use Rattle.datatype.specs.Schema.{column_kind}
use Rattle.datatype.specs.declared.DataType.TheVariants.{Char, Character}
use Rattle.row_reads.proofs.Reading.{sound-reads, range-reads}
use Rattle.row_reads.proofs.body_reads.Goals as goal

pub read_u16-n-requires : goal.read_u16-n-requires
read_u16-n-requires c =
    let p = c.requires in
    omega (arith, (bodily p.0 p.1.0 p.1.1.0).long)

pub returns-then-column_bit_is_set : goal.returns-then-column_bit_is_set
returns-then-column_bit_is_set c = rw (← c.column_bit_is_set.ensures, c.if-column_bit_is_set.true)

pub range_holds-requires : goal.range_holds-requires
range_holds-requires c =
    let p = c.requires in
    let is = sym c.is_varchar.ensures ∙ c.if-is_varchar.true in
    let k = rw (varchar-typed (bodily p.0 p.1.0 p.1.1.0) is) at p.1.1.1 in
    rw c.offset_table.ensures (k.rank refl, k.table)

pub returns-then-is_varchar : goal.returns-then-is_varchar
returns-then-is_varchar c =
    let a = c.args in
    let p = c.requires in
    let n = c.read_u16-n in
    let l = a.layout in
    let is = sym c.is_varchar.ensures ∙ c.if-is_varchar.true in
    rw (
      varchar-typed (bodily p.0 p.1.0 p.1.1.0) is,
      ← n.ensures,
      ← c.column_bit_is_set.ensures,
      c.if-column_bit_is_set.false,
    )
    (rw c.offset_table.ensures at c.range_holds.ensures
    ∙ range-reads (eqb a.kind 16) n.result a.before.num_columns a.row.now
    (varlen_range (offset_width l.is_long) (table_start l.num_columns) l.num_varlen_cols a.before.num_varlen_cols a.row.now))

pub char_sound-requires : goal.char_sound-requires
char_sound-requires c =
    let p = c.requires in
    let k = rw (typed_as (bodily p.0 p.1.0 p.1.1.0) c.in-9.is) at p.1.1.1 in
    rw c.read_u16-n.ensures k

pub char_sound-requires-in-10 : goal.char_sound-requires-in-10
char_sound-requires-in-10 c =
    let a = c.args in
    let p = c.requires in
    let k = rw (typed_as (bodily p.0 p.1.0 p.1.1.0) c.in-10.is) at p.1.1.1 in
    rw c.read_u16-n.ensures (as_char a.layout a.packed a.before a.row.now k)

pub record_sound-requires : goal.record_sound-requires
record_sound-requires c =
    let a = c.args in
    let p = c.requires in
    let no = sym c.is_varchar.ensures ∙ c.if-is_varchar.false in
    let fixed = body_fixed a.schema.now a.at a.kind no in
    (p.1.1.0, (p.1.1.1, ap is_varlen (body_typed (bodily p.0 p.1.0 p.1.1.0)) ∙ fixed))

pub returns-in-9 : goal.returns-in-9
returns-in-9 c =
    let a = c.args in
    let p = c.requires in
    let t = Char c.read_u16-n.result in
    let clear = sym c.column_bit_is_set.ensures ∙ c.if-column_bit_is_set.false in
    rw (typed_as (bodily p.0 p.1.0 p.1.1.0) c.in-9.is, ← c.read_u16-n.ensures)
    (slot-told a.layout a.packed a.before a.row.now t refl refl clear refl
    (c.char_sound.ensures ∙ value_if_lem _ _)
    ∙ sound-reads a.layout a.packed a.before t a.row.now refl)

pub returns-in-10 : goal.returns-in-10
returns-in-10 c =
    let a = c.args in
    let p = c.requires in
    let t = Character c.read_u16-n.result in
    let clear = sym c.column_bit_is_set.ensures ∙ c.if-column_bit_is_set.false in
    rw (typed_as (bodily p.0 p.1.0 p.1.1.0) c.in-10.is, ← c.read_u16-n.ensures)
    (slot-told a.layout a.packed a.before a.row.now t refl refl clear refl
    (c.char_sound-in-10.ensures ∙ value_if_lem _ _)
    ∙ sound-reads a.layout a.packed a.before t a.row.now refl)

pub returns-in-14 : goal.returns-in-14
returns-in-14 c =
    let a = c.args in
    let p = c.requires in
    let t = body_type a.schema.now a.at (column_kind 14) in
    rw (typed_as (bodily p.0 p.1.0 p.1.1.0) c.in-14.is)
    (any-sound a.layout a.packed a.before a.row.now t refl (λ i bs. refl)
    ∙ sound-reads a.layout a.packed a.before t a.row.now refl)

pub returns-in_default : goal.returns-in_default
returns-in_default c =
    let a = c.args in
    let p = c.requires in
    let no = sym c.is_varchar.ensures ∙ c.if-is_varchar.false in
    let fixed = body_fixed a.schema.now a.at a.kind no in
    c.record_sound.ensures
    ∙ sound-reads a.layout a.packed a.before _ a.row.now
    (ap is_varlen (body_typed (bodily p.0 p.1.0 p.1.1.0)) ∙ fixed)
