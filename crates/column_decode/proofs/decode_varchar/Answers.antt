use Rattle.column_decode.proofs.Counts.{count-varchar}
use Rattle.stored_form.specs.Points.{points_in}
use Rattle.text.specs.Check.{points}
use mathlib.Core.Path.{◌∙◌}
use Rattle.column_decode.proofs.Present.{slot-stepped}
use Prim.Native.Nat.{◌-◌}
use lib.ListN.{take, drop}
use Rattle.datatype.specs.declared.DataType.TheVariants.{Varchar}
use Rattle.stored_form.specs.Read.{read_slot}
use Rattle.column_decode.proofs.decode_varchar.Goals as goal

pub varchar_record-requires : goal.varchar_record-requires
varchar_record-requires c =
    let i = rw c.in-Bytes.is at c.varlen_range.ensures.1 in
    (i.0, (i.1, c.requires.1))

pub returns-in-Null : goal.returns-in-Null
returns-in-Null c = rw (← c.varlen_range.ensures.0, c.in-Null.is, c.write_null.ensures.0, c.write_null.ensures.1)

pub returns-in-Bytes : goal.returns-in-Bytes
returns-in-Bytes c =
    let a = c.args in
    let bs = take (c.in-Bytes.stop - c.in-Bytes.start) (drop c.in-Bytes.start a.row.now) in
    let i = rw c.in-Bytes.is at c.varlen_range.ensures.1 in
    rw (← c.varlen_range.ensures.0, c.in-Bytes.is)
    (c.varchar_record.ensures
    ∙ slot-stepped a.table.is_long a.buf.now a.end a.i (points bs) (points_in a.row.now) (read_slot (Varchar a.by_points a.n) c.in-Bytes.start bs)
    (count-varchar a.row.now c.in-Bytes.start c.in-Bytes.stop i.0 i.1 a.by_points a.n))

pub returns-in-Outside : goal.returns-in-Outside
returns-in-Outside c = rw (← c.varlen_range.ensures.0, c.in-Outside.is)
