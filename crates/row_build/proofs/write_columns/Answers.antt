use Rattle.row_build.proofs.Writing.{write_start, write_size, write_end, write_more, write_room, write_places}
use Rattle.row_build.proofs.Columns.{storable_suited}
use Rattle.row_build.proofs.Counting.{count-start, count-size, count-more, count-end}
use Rattle.row_build.proofs.Measuring.{left}
use Rattle.row_build.proofs.Walk.{readable}
use Rattle.row_format.specs.Places.{offset_width}
use Rattle.record_slot.proofs.Held.{has_type, read_at}
use Rattle.record_slot.proofs.Forms.{entry_bytes}
use native.Mathlib.Omega.{arith}
use borrow.Author.Rules.{rules}
use Rattle.row_build.proofs.write_columns.Goals as goal

pub fixed_data_start-slot-requires : goal.fixed_data_start-slot-requires
fixed_data_start-slot-requires c = c.requires.0.given.accepted.bounded

pub varlen_table_offset-entry-requires : goal.varlen_table_offset-entry-requires
varlen_table_offset-entry-requires c = c.requires.0.given.accepted.bounded

pub min_row_size-end-requires : goal.min_row_size-end-requires
min_row_size-end-requires c = c.requires.0.given.accepted.bounded

pub loop-column-init : goal.loop-column-init
loop-column-init c = rw (c.fixed_data_start-slot.ensures.0, c.varlen_table_offset-entry.ensures, c.min_row_size-end.ensures) (write_start c.requires.0, count-start)

pub write_column-end-requires : goal.write_column-end-requires
write_column-end-requires c =
    let p = c.requires.0 in
    let h = left p.given c.loop-column-test.true in
    let r = readable p.given c.loop-column.invariant.0.walk h in
    (r, write_room p c.loop-column.invariant.0 h (read_at r))

pub points_at-requires : goal.points_at-requires
points_at-requires c =
    let p = c.requires.0 in
    let w = c.loop-column.invariant.0 in
    let h = left p.given c.loop-column-test.true in
    let r = readable p.given w.walk h in
    (r, λ z. storable_suited (write_room p w h (read_at r) z))

pub bounds-counts-column : goal.bounds-counts-column
bounds-counts-column c =
    let p = c.requires in
    let h = left p.0.given c.loop-column-test.true in
    rw (count-size c.loop-column.invariant.1) (omega (arith, h, p.1))

pub slot_size-slot-requires : goal.slot_size-slot-requires
slot_size-slot-requires c =
    has_type (readable c.requires.0.given c.loop-column.invariant.0.walk (left c.requires.0.given c.loop-column-test.true))

pub overflow_add-slot : goal.overflow_add-slot
overflow_add-slot c =
    let p = c.requires.0 in
    let h = left p.given c.loop-column-test.true in
    let q = rw (← c.slot_size-slot.ensures) at (write_places p c.loop-column.invariant.0 h (read_at (readable p.given c.loop-column.invariant.0.walk h))).0 in
    search rules

pub bounds-schema-at : goal.bounds-schema-at
bounds-schema-at c =
    (readable c.requires.0.given c.loop-column.invariant.0.walk (left c.requires.0.given c.loop-column-test.true)).column

pub overflow_add-entry : goal.overflow_add-entry
overflow_add-entry c =
    let p = c.requires.0 in
    let h = left p.given c.loop-column-test.true in
    let q = (write_places p c.loop-column.invariant.0 h (read_at (readable p.given c.loop-column.invariant.0.walk h))).1 in
    search rules

pub after_column-at-requires : goal.after_column-at-requires
after_column-at-requires c =
    (readable c.requires.0.given c.loop-column.invariant.0.walk (left c.requires.0.given c.loop-column-test.true)).column

pub overflow_add-from : goal.overflow_add-from
overflow_add-from c =
    let q = (readable c.requires.0.given c.loop-column.invariant.0.walk (left c.requires.0.given c.loop-column-test.true)).value in search rules

pub bounds-values-from : goal.bounds-values-from
bounds-values-from c =
    (readable c.requires.0.given c.loop-column.invariant.0.walk (left c.requires.0.given c.loop-column-test.true)).value

pub overflow_add-from-in-loop-column : goal.overflow_add-from-in-loop-column
overflow_add-from-in-loop-column c =
    let g = c.well_formed in
    let q = (readable c.requires.0.given c.loop-column.invariant.0.walk (left c.requires.0.given c.loop-column-test.true)).value in
    let b = c.body_length.ensures.1 in
    search rules

pub loop-column-preserved : goal.loop-column-preserved
loop-column-preserved c =
    let p = c.requires.0 in
    let h = left p.given c.loop-column-test.true in
    let r = readable p.given c.loop-column.invariant.0.walk h in
    (rw (c.after_column-at.ensures, c.body_length.ensures.0, c.slot_size-slot.ensures, entry_bytes r (offset_width c.args.layout.is_long) c.held_kind.ensures c.entry_size-entry.ensures.0) (write_more p c.loop-column.invariant.0 h (read_at r) c.write_column-end.result _ c.write_column-end.ensures), count-more c.loop-column.invariant.1 p c.loop-column.invariant.0 h (read_at r) c.points_at.result c.points_at.ensures)

pub shape_of-out : goal.shape_of-out
shape_of-out c = write_size c.requires.0 c.loop-column.invariant.0

pub shape_of-counts : goal.shape_of-counts
shape_of-counts c = count-size c.loop-column.invariant.1

pub returns : goal.returns
returns c =
    let p = c.requires.0 in
    let i = c.loop-column.invariant in
    (write_end p i.0 c.loop-column-test.false, count-end i.1 p c.loop-column-test.false)
