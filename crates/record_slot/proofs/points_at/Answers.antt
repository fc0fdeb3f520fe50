use Rattle.datatype.specs.Types.{counts_points}
use Rattle.datatype.specs.Schema.{column_record_at}
use Rattle.datatype.specs.InnerSteps.{type_in}
use native.Mathlib.Omega.{arith}
use mathlib.Core.Path.{sym, ◌∙◌}
use Prim.Native.Nat.{◌+◌}
use lib.ListN.{get_or}
use Rattle.value_list.specs.Records.{range_at, range_width}
use Rattle.record_slot.specs.InnerSteps.{declared_at}
use Rattle.record_slot.proofs.Forms.{within_at, text_there}
use Rattle.record_slot.proofs.Points.{text_ready, char_counted, varchar-counted, none-counted}
use Rattle.record_slot.proofs.Forms.{given-null, given-value, held_found}
use borrow.Author.Rules.{rules}
use Rattle.record_slot.proofs.points_at.Goals as goal

pub returns-then-given-eq-NULL : goal.returns-then-given-eq-NULL
returns-then-given-eq-NULL c =
    let p = c.requires in
    rw (given-null p.0 c.if-given-eq-NULL.true)

pub char_points-requires : goal.char_points-requires
char_points-requires c =
    let p = c.requires in
    let m = (p.1 (given-value p.0 c.if-given-eq-NULL.false)).match in
    let g = held_found p.0 m c.held_kind-kind.ensures in
    let d = c.declared_length.ensures in
    let k = sym g ∙ c.in-8.is in
    rw c.is_long_kind-is_long.ensures (within_at p.0 8 k, (d.1, rw d.0 (text_ready p.0 p.1 8 k (omega arith))))

pub overflow_cast-result : goal.overflow_cast-result
overflow_cast-result c =
    let d = c.declared_length.ensures.1 in
    let h = c.char_points.ensures.1 in
    search rules

pub text_points-requires : goal.text_points-requires
text_points-requires c =
    let a = c.args in
    let p = c.requires in
    let m = (p.1 (given-value p.0 c.if-given-eq-NULL.false)).match in
    let g = held_found p.0 m c.held_kind-kind.ensures in
    let k = sym g ∙ c.in-9.is in
    rw c.is_long_kind-is_long.ensures
    (within_at p.0 9 k, text_there (counts_points (type_in (column_record_at a.schema.now a.at))) (declared_at a.schema.now a.at) (range_at (range_width (get_or a.values.now a.from 0)) a.values.now (a.from + 1)) a.text.now (text_ready p.0 p.1 9 k (omega arith)))

pub overflow_cast-result-in-9 : goal.overflow_cast-result-in-9
overflow_cast-result-in-9 c =
    let h = c.text_points.ensures.1 in
    search rules

pub returns-in-8 : goal.returns-in-8
returns-in-8 c =
    let p = c.requires in
    let m = (p.1 (given-value p.0 c.if-given-eq-NULL.false)).match in
    let g = held_found p.0 m c.held_kind-kind.ensures in
    let k = sym g ∙ c.in-8.is in
    rw (c.declared_length.ensures.0, c.is_long_kind-is_long.ensures) at c.char_points.ensures.0 ∙ char_counted p.0 p.1 k

pub returns-in-9 : goal.returns-in-9
returns-in-9 c =
    let p = c.requires in
    let m = (p.1 (given-value p.0 c.if-given-eq-NULL.false)).match in
    let g = held_found p.0 m c.held_kind-kind.ensures in
    let k = sym g ∙ c.in-9.is in
    rw c.is_long_kind-is_long.ensures at c.text_points.ensures.0 ∙ varchar-counted p.0 p.1 k

pub returns-in_default : goal.returns-in_default
returns-in_default c =
    let p = c.requires in
    let m = (p.1 (given-value p.0 c.if-given-eq-NULL.false)).match in
    let g = held_found p.0 m c.held_kind-kind.ensures in
    none-counted p.0 p.1 (λ e. c.in_default.in_default-own.rest.0.1 (g ∙ e)) (λ e. c.in_default.in_default-own.rest.1 (g ∙ e))
