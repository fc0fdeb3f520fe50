use native.Mathlib.Omega.{arith}
use mathlib.Core.Path.{sym, ap, ◌∙◌, subst}
use Rattle.datatype.specs.declared.DataType.{DataType}
use Rattle.datatype.specs.InnerSteps.{type_in}
use Rattle.datatype.proofs.Plain.{plain_record}
use Rattle.row_column.specs.InnerWalk.{Reachable}
use Rattle.row_sound.specs.InnerWalk.{walked_sound}
use Rattle.row_sound.proofs.kind_sound.Goals as goal

pub plain_sound-requires : goal.plain_sound-requires
plain_sound-requires c =
    let a = c.args in
    let z = c.plain_size-size.ensures in
    let e = ap type_in (plain_record a.schema.now a.at (λ f. c.if-size-ne0.true (z.0 ∙ f))) in
    (z.0, (omega (arith, c.if-size-ne0.true), (z.1, subst (λ (t : DataType). Reachable a.layout a.packed a.before t a.row.now) e c.requires.1)))

pub returns-then-size-ne0 : goal.returns-then-size-ne0
returns-then-size-ne0 c =
    let a = c.args in
    let e = ap type_in (plain_record a.schema.now a.at (λ f. c.if-size-ne0.true (c.plain_size-size.ensures.0 ∙ f))) in
    c.plain_sound.ensures ∙ ap (λ (t : DataType). walked_sound a.layout a.packed a.before t a.row.now) (sym e)
