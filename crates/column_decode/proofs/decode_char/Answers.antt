use Rattle.column_decode.proofs.Counts.{count_char}
use Rattle.stored_form.specs.Points.{points_in}
use Rattle.text.specs.Check.{points}
use borrow.Author.Rules.{rules}
use native.Mathlib.Omega.{arith}
use mathlib.Core.Path.{refl, ◌∙◌}
use Rattle.column_decode.proofs.Present.{slot-stepped}
use Prim.Native.Nat.{◌+◌, ◌-◌}
use lib.ListN.{take, drop}
use Rattle.datatype.specs.declared.DataType.TheVariants.{Char}
use Rattle.stored_form.specs.Read.{read_slot}
use Rattle.column_decode.proofs.decode_char.Goals as goal

pub overflow_add-start : goal.overflow_add-start
overflow_add-start c =
    let h = rw (← c.slot_start.ensures, ← c.fixed_data_start.ensures.0) at (c.requires.0.slot refl) in
    search rules

pub overflow_add-part : goal.overflow_add-part
overflow_add-part c =
    let h = rw (← c.slot_start.ensures, ← c.fixed_data_start.ensures.0) at (c.requires.0.slot refl) in
    search rules

pub char_record-requires : goal.char_record-requires
char_record-requires c =
    let h = rw (← c.slot_start.ensures, ← c.fixed_data_start.ensures.0) at (c.requires.0.slot refl) in
    (omega arith, (h, c.requires.1))

pub returns : goal.returns
returns c =
    let a = c.args in
    let start = c.fixed_data_start.result + c.slot_start.result in
    let h = rw (← c.slot_start.ensures, ← c.fixed_data_start.ensures.0) at (c.requires.0.slot refl) in
    let bs = take (start + a.n - start) (drop start a.row.now) in
    rw (← c.slot_start.ensures, ← c.fixed_data_start.ensures.0)
    (c.char_record.ensures
    ∙ slot-stepped a.layout.is_long a.buf.now a.end a.before.num_columns (points bs) (points_in a.row.now) (read_slot (Char a.n) start bs)
    (count_char a.row.now start (start + a.n) (omega arith) h a.n))
