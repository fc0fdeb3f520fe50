use borrow.Author.Rules.{rules}
use mathlib.Core.Path.{refl, sym, ap, ◌∙◌}
use mir.Syntax.{w32}
use mir.Val.{to_z}
use Rattle.signed.proofs.Casts.{passed}
use Rattle.temporal.specs.Ranges.{is_date}
use Rattle.slot_record.proofs.Numbers.{slot-taken, signed}
use Rattle.slot_record.proofs.date_record.Goals as goal

pub returns-then-is_date : goal.returns-then-is_date
returns-then-is_date c = λ k.
    let a = c.args in
    let bs = a.bytes.now in
    let read = ap is_date (sym (passed w32 (search rules) (c.read_i32.ensures ∙ ap (to_z w32) (slot-taken 4 bs c.requires.0)))) ∙ sym c.is_date.ensures ∙ c.if-is_date.true in
    rw read (signed a.out.now a.at 10 4 bs c.requires.0 c.type_inv.bytes c.number_record.ensures.0 c.number_record.ensures.1 w32 refl)
