use Rattle.stored_form.specs.Points.{points_in}
use Rattle.column_decode.proofs.Counts.{count-plain}
use borrow.Author.Rules.{rules}
use mathlib.Core.Path.{ap, ◌∙◌, ap₂}
use Rattle.column_decode.specs.InnerColumn.{stepped}
use Rattle.column_decode.proofs.Present.{slot-stepped, is_some, plain-inside, plain-length, plain-column}
use Prim.Native.Nat.{◌+◌, ◌-◌}
use lib.ListN.{get_or, take, drop}
use Rattle.datatype.specs.Schema.{column_kind}
use Rattle.datatype.specs.InnerSteps.{plain_type}
use Rattle.stored_form.specs.Read.{read_slot}
use Rattle.column_decode.proofs.decode_present.Goals as goal

pub overflow_add-start : goal.overflow_add-start
overflow_add-start c =
    let h = plain-inside c.args.schema.now c.args.at c.args.layout c.args.packed c.args.before c.args.row.now c.requires.0.typed c.if-size-ne0.true c.plain_size-size.ensures.0 (ap₂ ◌+◌ c.fixed_data_start.ensures.0 c.slot_start.ensures) c.requires.0.reach in
    search rules

pub overflow_add-stop : goal.overflow_add-stop
overflow_add-stop c =
    let h = plain-inside c.args.schema.now c.args.at c.args.layout c.args.packed c.args.before c.args.row.now c.requires.0.typed c.if-size-ne0.true c.plain_size-size.ensures.0 (ap₂ ◌+◌ c.fixed_data_start.ensures.0 c.slot_start.ensures) c.requires.0.reach in
    search rules

pub slice_bounds-plain_record-end : goal.slice_bounds-plain_record-end
slice_bounds-plain_record-end c =
    let h = plain-inside c.args.schema.now c.args.at c.args.layout c.args.packed c.args.before c.args.row.now c.requires.0.typed c.if-size-ne0.true c.plain_size-size.ensures.0 (ap₂ ◌+◌ c.fixed_data_start.ensures.0 c.slot_start.ensures) c.requires.0.reach in
    search rules

pub plain_record-requires : goal.plain_record-requires
plain_record-requires c =
    (is_some c.args.schema.now c.args.at c.args.layout c.args.packed c.args.before c.args.row.now c.requires.0.typed c.if-size-ne0.true c.plain_size-size.ensures.0 (ap₂ ◌+◌ c.fixed_data_start.ensures.0 c.slot_start.ensures), (plain-length c.args.schema.now c.args.at c.args.layout c.args.packed c.args.before c.args.row.now c.requires.0.typed c.if-size-ne0.true c.plain_size-size.ensures.0 (ap₂ ◌+◌ c.fixed_data_start.ensures.0 c.slot_start.ensures) c.requires.0.reach, c.requires.0.room))

pub returns-then-size-ne0 : goal.returns-then-size-ne0
returns-then-size-ne0 c =
    let a = c.args in
    let start = c.fixed_data_start.result + c.slot_start.result in
    c.plain_record.ensures a.layout.is_long start ∙ slot-stepped a.layout.is_long a.buf.now a.end a.before.num_columns 0 (points_in a.row.now) (read_slot (plain_type (column_kind (get_or a.schema.now a.at 0))) start (take (start + c.plain_size-size.result - start) (drop start a.row.now)))
    (count-plain a.row.now (get_or a.schema.now a.at 0) start (take (start + c.plain_size-size.result - start) (drop start a.row.now)) (λ e. c.if-size-ne0.true (c.plain_size-size.ensures.0 ∙ e)))
    ∙ ap (stepped a.layout.is_long a.buf.now a.end (points_in a.row.now)) (plain-column c.args.schema.now c.args.at c.args.layout c.args.packed c.args.before c.args.row.now c.requires.0.typed c.if-size-ne0.true c.plain_size-size.ensures.0 (ap₂ ◌+◌ c.fixed_data_start.ensures.0 c.slot_start.ensures) c.requires.1)

pub returns : goal.returns
returns c = c.decode_body.ensures
