use borrow.Author.Rules.{rules}
use mathlib.Core.Path.{refl, sym, ap, ◌∙◌}
use mir.Syntax.{w64}
use mir.Val.{to_z}
use Rattle.signed.proofs.Casts.{passed}
use Rattle.temporal.specs.Ranges.{is_timestamp}
use Rattle.slot_record.proofs.Numbers.{slot-taken, signed}
use Rattle.slot_record.proofs.timestamp_record.Goals as goal

pub returns-then-is_timestamp : goal.returns-then-is_timestamp
returns-then-is_timestamp c = λ k.
    let a = c.args in
    let bs = a.bytes.now in
    let read = ap is_timestamp (sym (passed w64 (search rules) (c.read_i64.ensures ∙ ap (to_z w64) (slot-taken 8 bs c.requires.0)))) ∙ sym c.is_timestamp.ensures ∙ c.if-is_timestamp.true in
    rw read (signed a.out.now a.at 13 8 bs c.requires.0 c.type_inv.bytes c.number_record.ensures.0 c.number_record.ensures.1 w64 refl)
