use mathlib.Core.Path.{sym, ◌∙◌}
use Rattle.row_build.proofs.Columns.{slot_ready, slot-stored, payload_ready, varchar-stored}
use Rattle.record_slot.proofs.Forms.{given-null, given-value, held_found, within_at}
use Rattle.row_build.proofs.write_column.Goals as goal

pub returns-then-given-eq-NULL : goal.returns-then-given-eq-NULL
returns-then-given-eq-NULL c =
    rw (given-null c.requires.0 c.if-given-eq-NULL.true)

pub range_at-range-requires : goal.range_at-range-requires
range_at-range-requires c =
    let p = c.requires in
    let q = p.1 (given-value p.0 c.if-given-eq-NULL.false) in
    let g = held_found p.0 q.match c.held_kind.ensures in
    let h = within_at p.0 9 (sym g ∙ c.if-held_kind-eq-VARCHAR.true) in
    rw c.is_long_kind.ensures h

pub write_varchar-requires : goal.write_varchar-requires
write_varchar-requires c =
    let p = c.requires in
    let q = p.1 (given-value p.0 c.if-given-eq-NULL.false) in
    let g = held_found p.0 q.match c.held_kind.ensures in
    (payload_ready p.0 q (sym g ∙ c.if-held_kind-eq-VARCHAR.true) (rw c.is_long_kind.ensures at c.range_at-range.ensures.0), q.bit)

pub returns-then-held_kind-eq-VARCHAR : goal.returns-then-held_kind-eq-VARCHAR
returns-then-held_kind-eq-VARCHAR c =
    let p = c.requires in
    let z = given-value p.0 c.if-given-eq-NULL.false in
    let g = held_found p.0 (p.1 z).match c.held_kind.ensures in
    varchar-stored p.0 (p.1 z) (sym g ∙ c.if-held_kind-eq-VARCHAR.true) (rw c.is_long_kind.ensures at c.range_at-range.ensures.0) _ c.args.out.now _ z c.write_varchar.ensures.0 c.write_varchar.ensures.1

pub write_fixed-requires : goal.write_fixed-requires
write_fixed-requires c =
    let p = c.requires in
    let q = p.1 (given-value p.0 c.if-given-eq-NULL.false) in
    let g = held_found p.0 q.match c.held_kind.ensures in
    (p.0, (slot_ready p.0 q (λ e. c.if-held_kind-eq-VARCHAR.false (g ∙ e)), q.bit))

pub returns : goal.returns
returns c =
    let p = c.requires in
    let z = given-value p.0 c.if-given-eq-NULL.false in
    let g = held_found p.0 (p.1 z).match c.held_kind.ensures in
    slot-stored p.0 (p.1 z) (λ e. c.if-held_kind-eq-VARCHAR.false (g ∙ e)) c.args.out.now _ z c.write_fixed.ensures
