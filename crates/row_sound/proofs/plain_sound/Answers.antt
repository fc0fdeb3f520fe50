use borrow.Author.Rules.{rules}
use Rattle.row_sound.proofs.ByKind.{plainly, any-bytes}
use Rattle.row_sound.proofs.Slots.{null-sound, any-sound, slot-told, place_is}
use native.Mathlib.Omega.{arith}
use mathlib.Core.Path.{sym, ◌∙◌}
use Prim.Native.Nat.{◌<◌}
use Rattle.datatype.specs.Schema.{column_kind}
use Rattle.datatype.specs.InnerSteps.{plain_size, plain_type}
use Rattle.row_sound.proofs.plain_sound.Goals as goal

pub returns-then-kind-lt-DATE : goal.returns-then-kind-lt-DATE
returns-then-kind-lt-DATE c =
    let a = c.args in
    let h : 0 < plain_size (column_kind a.kind) = omega (arith, c.requires.0, c.requires.1.0) in
    any-sound a.layout a.packed a.before a.row.now _ (plainly a.kind h).fixed (any-bytes a.kind h (λ e. omega (arith, e, c.if-kind-lt-DATE.true)) (λ e. omega (arith, e, c.if-kind-lt-DATE.true)) (λ e. omega (arith, e, c.if-kind-lt-DATE.true)))

pub returns-then-column_bit_is_set : goal.returns-then-column_bit_is_set
returns-then-column_bit_is_set c =
    let a = c.args in
    let h : 0 < plain_size (column_kind a.kind) = omega (arith, c.requires.0, c.requires.1.0) in
    null-sound a.layout a.packed a.before a.row.now _ (plainly a.kind h).fixed (sym c.column_bit_is_set.ensures ∙ c.if-column_bit_is_set.true)

pub slot_start-requires : goal.slot_start-requires
slot_start-requires c =
    (c.requires.1.1.1.before, (c.requires.1.0, c.requires.1.1.0))

pub overflow_add-start : goal.overflow_add-start
overflow_add-start c =
    let a = c.args in
    let h : 0 < plain_size (column_kind a.kind) = omega (arith, c.requires.0, c.requires.1.0) in
    let f = plainly a.kind h in
    let s = c.requires.1.1.1.slot f.fixed in
    let k = place_is a.layout a.packed a.before a.row.now (plain_type (column_kind a.kind)) (f.aligned ∙ sym c.requires.0) c.fixed_data_start.ensures.0 c.slot_start.ensures in
    let i = rw (← k) at s in
    search rules

pub slot_sound-requires : goal.slot_sound-requires
slot_sound-requires c =
    let a = c.args in
    let h : 0 < plain_size (column_kind a.kind) = omega (arith, c.requires.0, c.requires.1.0) in
    let f = plainly a.kind h in
    let k = place_is a.layout a.packed a.before a.row.now (plain_type (column_kind a.kind)) (f.aligned ∙ sym c.requires.0) c.fixed_data_start.ensures.0 c.slot_start.ensures in
    (h, rw (← k, f.size) at (c.requires.1.1.1.slot f.fixed))

pub returns : goal.returns
returns c =
    let a = c.args in
    let h : 0 < plain_size (column_kind a.kind) = omega (arith, c.requires.0, c.requires.1.0) in
    let f = plainly a.kind h in
    let k = place_is a.layout a.packed a.before a.row.now (plain_type (column_kind a.kind)) (f.aligned ∙ sym c.requires.0) c.fixed_data_start.ensures.0 c.slot_start.ensures in
    slot-told a.layout a.packed a.before a.row.now (plain_type (column_kind a.kind)) f.fixed f.size (sym c.column_bit_is_set.ensures ∙ c.if-column_bit_is_set.false) k c.slot_sound.ensures
