use native.Mathlib.Omega.{arith}
use lib.Dec.{eqb}
use lib.ListN.{get_or}
use mathlib.Core.Path.{refl, sym, ap, ◌∙◌, subst}
use Rattle.datatype.specs.declared.DataType.{DataType}
use Rattle.datatype.specs.declared.DataType.TheVariants.{Char, Character, Varchar}
use Rattle.datatype.specs.Check.{type_at, types_in}
use Rattle.datatype.proofs.KindTable.{varchar-kind, no_varchar}
use Rattle.datatype.proofs.Plain.{sized_record}
use Rattle.value.specs.Kinds.{holds_text}
use Rattle.row_column.specs.InnerWalk.{Reachable}
use Rattle.column_decode.proofs.Counts.{other_no_text, column_uncounted}
use Rattle.column_decode.proofs.Present.{as_char}
use Rattle.column_decode.proofs.decode_body.Goals as goal

pub read_u16-n-requires : goal.read_u16-n-requires
read_u16-n-requires c =
    let k = get_or c.args.schema.now c.args.at 0 in
    omega (arith, (sized_record c.args.schema.now c.args.at c.requires.0.good (Varchar (eqb k 16)) (varchar-kind k (sym c.is_varchar.ensures ∙ c.if-is_varchar.true))).0)

pub decode_varchar-requires : goal.decode_varchar-requires
decode_varchar-requires c =
    let k = get_or c.args.schema.now c.args.at 0 in
    let a = c.args in
    let n = c.read_u16-n.ensures in
    let typed = sym c.requires.0.typed ∙ (sized_record c.args.schema.now c.args.at c.requires.0.good (Varchar (eqb k 16)) (varchar-kind k (sym c.is_varchar.ensures ∙ c.if-is_varchar.true))).1 ∙ ap (Varchar (eqb k 16)) (sym n) in
    let q = subst (λ (t : DataType). Reachable a.layout a.packed a.before t a.row.now) typed c.requires.0.reach in
    rw c.offset_table.ensures ((q.rank refl, q.table), (c.requires.0.short, c.requires.0.room))

pub returns-then-is_varchar : goal.returns-then-is_varchar
returns-then-is_varchar c =
    let k = get_or c.args.schema.now c.args.at 0 in
    let n = c.read_u16-n.ensures in
    rw (
      sym c.requires.0.typed ∙ (sized_record c.args.schema.now c.args.at c.requires.0.good (Varchar (eqb k 16)) (varchar-kind k (sym c.is_varchar.ensures ∙ c.if-is_varchar.true))).1 ∙ ap (Varchar (eqb k 16)) (sym n),
      c.requires.1,
    )
    (rw c.offset_table.ensures at c.decode_varchar.ensures)

pub read_u16-n-requires-in-9 : goal.read_u16-n-requires-in-9
read_u16-n-requires-in-9 c =
    omega (arith, (sized_record c.args.schema.now c.args.at c.requires.0.good Char (rw c.in-9.is)).0)

pub decode_char-requires : goal.decode_char-requires
decode_char-requires c =
    let a = c.args in
    let typed = sym c.requires.0.typed ∙ (sized_record c.args.schema.now c.args.at c.requires.0.good Char (rw c.in-9.is)).1 ∙ ap Char (sym c.read_u16-n-in-9.ensures) in
    (subst (λ (t : DataType). Reachable a.layout a.packed a.before t a.row.now) typed c.requires.0.reach, (c.requires.0.short, c.requires.0.room))

pub read_u16-n-requires-in-10 : goal.read_u16-n-requires-in-10
read_u16-n-requires-in-10 c =
    omega (arith, (sized_record c.args.schema.now c.args.at c.requires.0.good Character (rw c.in-10.is)).0)

pub decode_char-requires-in-10 : goal.decode_char-requires-in-10
decode_char-requires-in-10 c =
    let a = c.args in
    let typed = sym c.requires.0.typed ∙ (sized_record c.args.schema.now c.args.at c.requires.0.good Character (rw c.in-10.is)).1 ∙ ap Character (sym c.read_u16-n-in-10.ensures) in
    (as_char (subst (λ (t : DataType). Reachable a.layout a.packed a.before t a.row.now) typed c.requires.0.reach), (c.requires.0.short, c.requires.0.room))

pub decode_value-requires : goal.decode_value-requires
decode_value-requires c = c.requires.0

pub returns-in-9 : goal.returns-in-9
returns-in-9 c =
    rw (sym c.requires.0.typed ∙ (sized_record c.args.schema.now c.args.at c.requires.0.good Char (rw c.in-9.is)).1 ∙ ap Char (sym c.read_u16-n-in-9.ensures), c.requires.1) c.decode_char.ensures

pub returns-in-10 : goal.returns-in-10
returns-in-10 c =
    rw (sym c.requires.0.typed ∙ (sized_record c.args.schema.now c.args.at c.requires.0.good Character (rw c.in-10.is)).1 ∙ ap Character (sym c.read_u16-n-in-10.ensures), c.requires.1) c.decode_char-in-10.ensures

pub returns-in_default : goal.returns-in_default
returns-in_default c =
    let a = c.args in
    let no = no_varchar (get_or a.schema.now a.at 0) (sym c.is_varchar.ensures ∙ c.if-is_varchar.false) in
    let other = other_no_text a.schema.now a.at (c.in_default.in_default-own.rest.0.1, (c.in_default.in_default-own.rest.1, no)) c.requires.0.good in
    c.decode_value.ensures
    ∙ column_uncounted a.layout.is_long a.buf.now a.end a.layout a.packed a.before (type_at (types_in a.schema.now) a.before.num_columns) a.row.now
    (ap holds_text (sym c.requires.0.typed) ∙ other)
