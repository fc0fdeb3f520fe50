use Rattle.error.specs.Result.{Result}
use Rattle.datatype.specs.declared.DataType.{DataType}
use mathlib.Core.Path.{◌≡◌}
use Rattle.datatype.specs.Schema.{column_kind}
use Rattle.record_slot.specs.InnerSteps.{declared_at, slot_size}
use Rattle.record_slot.proofs.Forms.{plain_size_lem, slot-bytes}
use Rattle.datatype.proofs.Plain.{plain_facts, plain_record}
use Rattle.datatype.specs.InnerSteps.{plain_size, type_in}
use Rattle.datatype.specs.Types.{size_of}
use borrow.Author.Tests.{ne_eqb}
use lib.ListN.{get_or}
use mathlib.Core.Path.{refl, sym, ap, ◌∙◌}
use Prim.Native.Nat.{ℕ}
use Rattle.record_slot.proofs.slot_size.Goals as goal

pub returns-then-size-ne0 : goal.returns-then-size-ne0
returns-then-size-ne0 c =
    let a = c.args in
    let kind = get_or a.schema.now a.at 0 in
    let some : plain_size (column_kind kind) ≡ 0 → ⊥ = λ e. c.if-size-ne0.true (c.plain_size-size.ensures.0 ∙ e) in
    c.plain_size-size.ensures.0 ∙ sym (ap (λ (x : Result (DataType × ℕ)). size_of (type_in x)) (plain_record a.schema.now a.at some) ∙ (plain_facts kind some).sized)

pub returns-in-6 : goal.returns-in-6
returns-in-6 c =
    let p = c.requires in
    ap (λ (k : ℕ). slot_size k c.declared_length.result) (sym c.in-6.is) ∙ slot-bytes p c.held_kind-kind.ensures c.declared_length.ensures.0

pub returns-in-8 : goal.returns-in-8
returns-in-8 c =
    let p = c.requires in
    ap (λ (k : ℕ). slot_size k c.declared_length-in-8.result) (sym c.in-8.is) ∙ slot-bytes p c.held_kind-kind.ensures c.declared_length-in-8.ensures.0

pub returns-in-9 : goal.returns-in-9
returns-in-9 c =
    ap (λ (k : ℕ). slot_size k (declared_at c.args.schema.now c.args.at)) (sym c.in-9.is) ∙ slot-bytes c.requires c.held_kind-kind.ensures refl

pub returns-in-12 : goal.returns-in-12
returns-in-12 c = c.byte_count.ensures ∙ ap (λ (k : ℕ). slot_size k c.declared_length-in-12.result) (sym c.in-12.is) ∙ slot-bytes c.requires c.held_kind-kind.ensures c.declared_length-in-12.ensures.0

pub returns-in_default : goal.returns-in_default
returns-in_default c =
    c.body_length.ensures.0 ∙ plain_size_lem _ (declared_at c.args.schema.now c.args.at) c.in_default.in_default-own.rest.0.0.0.1 c.in_default.in_default-own.rest.0.0.1 (ne_eqb _ 9 c.in_default.in_default-own.rest.0.1) c.in_default.in_default-own.rest.1
    ∙ slot-bytes c.requires c.held_kind-kind.ensures refl
