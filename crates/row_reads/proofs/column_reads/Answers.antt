use native.Mathlib.Omega.{arith}
use lib.ListN.{get_or}
use mathlib.Core.Path.{◌≡◌, sym, ap, ◌∙◌, subst}
use Rattle.datatype.specs.declared.DataType.{DataType}
use Rattle.datatype.specs.Schema.{column_kind}
use Rattle.datatype.specs.InnerSteps.{plain_size, type_in}
use Rattle.datatype.proofs.Plain.{plain_record, plain_facts}
use Rattle.row_column.specs.InnerWalk.{walked_column, Reachable}
use Rattle.row_sound.specs.Sound.{reads}
use Rattle.row_reads.proofs.Reading.{sound-reads}
use Rattle.row_reads.proofs.column_reads.Goals as goal

pub plain_sound-requires : goal.plain_sound-requires
plain_sound-requires c =
    let a = c.args in
    let z = c.plain_size-size.ensures in
    let e = ap type_in (plain_record a.schema.now a.at (λ f. c.if-size-ne0.true (z.0 ∙ f))) in
    let reach =
    subst (λ (t : DataType). Reachable a.layout a.packed a.before t a.row.now) e c.requires.1 in
    (z.0, (omega (arith, c.if-size-ne0.true), (z.1, reach)))

pub returns-then-size-ne0 : goal.returns-then-size-ne0
returns-then-size-ne0 c =
    let a = c.args in
    let z = c.plain_size-size.ensures in
    let kind = get_or a.schema.now a.at 0 in
    let some : plain_size (column_kind kind) ≡ 0 → ⊥ = λ f. c.if-size-ne0.true (z.0 ∙ f) in
    let e = ap type_in (plain_record a.schema.now a.at some) in
    c.plain_sound.ensures
    ∙ sound-reads a.layout a.packed a.before _ a.row.now (plain_facts kind some).fixed
    ∙ ap (λ (t : DataType). reads (walked_column a.layout a.packed a.before t a.row.now)) (sym e)
