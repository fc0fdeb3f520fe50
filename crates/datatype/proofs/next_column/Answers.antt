use borrow.Author.Rules.{rules}
use native.Mathlib.Omega.{arith}
use mathlib.Core.Path.{sym, ◌∙◌}
use Rattle.datatype.proofs.Plain.{plain_record, plain_added, known_body, pass_here, body_passed}
use Rattle.datatype.proofs.next_column.Goals as goal

pub returns-then-size-ne0 : goal.returns-then-size-ne0
returns-then-size-ne0 c =
    let a = c.args in
    let added = plain_added a.schema.now a.at a.before c.plain_size-size.ensures.0 c.if-size-ne0.true c.with_column.ensures.0 in
    (rw (plain_record a.schema.now a.at (λ e. c.if-size-ne0.true (c.plain_size-size.ensures.0 ∙ e)), added), c.with_column.ensures.1)

pub bounds-schema-at-else-size-ne0 : goal.bounds-schema-at-else-size-ne0
bounds-schema-at-else-size-ne0 c =
    let a = c.args in
    let h = pass_here a.schema.now a.at a.before c.requires.0.good (sym c.plain_size-size.ensures.0 ∙ c.if-size-ne0.false) in
    search rules

pub read_u16-n-requires : goal.read_u16-n-requires
read_u16-n-requires c =
    let a = c.args in
    let h = pass_here a.schema.now a.at a.before c.requires.0.good (sym c.plain_size-size.ensures.0 ∙ c.if-size-ne0.false) in
    omega (arith, h)

pub body_shape-requires : goal.body_shape-requires
body_shape-requires c =
    let body = sym c.plain_size-size.ensures.0 ∙ c.if-size-ne0.false in
    (body, known_body c.args.schema.now c.args.at c.args.before c.requires.0.good body)

pub returns-else-size-ne0 : goal.returns-else-size-ne0
returns-else-size-ne0 c =
    let a = c.args in
    (rw (body_passed a.schema.now a.at a.before c.requires.0.good (sym c.plain_size-size.ensures.0 ∙ c.if-size-ne0.false), c.with_column-else-size-ne0.ensures.0, c.body_shape.ensures.0, c.read_u16-n.ensures), c.with_column-else-size-ne0.ensures.1)
