use Prim.Native.Nat.{◌-◌}
use lib.ListN.{take, drop}
use mathlib.Core.Path.{sym, ◌∙◌}
use native.Mathlib.Omega.{arith}
use Rattle.row_format.proofs.Sorts.{width-le, limit_le, limit_fits}
use Rattle.value_list.proofs.Records.{length-range}
use Rattle.slot_record.proofs.Numbers.{part_length}
use Rattle.text_limit.proofs.Limits.{told_false}
use Rattle.text_limit.specs.Limit.{fits_text}
use Rattle.text.specs.Check.{points}
use Rattle.slot_record.proofs.Texts.{check_fits, check_points, check_le}
use Rattle.slot_record.proofs.text_record.Goals as goal

pub write_range-requires : goal.write_range-requires
write_range-requires c =
    let a = c.args in (
      omega (arith, length-range a.part.is_long a.kind (record { start = a.part.start; length = a.part.end - a.part.start }), width-le a.part.is_long, c.requires.1.1.1),
      record { start = omega (arith, limit_fits a.part.is_long, c.requires); size = omega (arith, limit_fits a.part.is_long, c.requires) },
    )

pub overflow_cast-result : goal.overflow_cast-result
overflow_cast-result c =
    let a = c.args in
    let part = take (a.part.end - a.part.start) (drop a.part.start a.part.row.now) in
    let said = sym c.check_within.ensures ∙ c.in-Some.is in
    record {
      fits = omega (arith, check_le a.by_points a.n part said, part_length a.part.row.now a.part.start a.part.end c.requires.0 c.requires.1.0, limit_le a.part.is_long, c.requires.1);
    }

pub returns-in-None : goal.returns-in-None
returns-in-None c =
    let a = c.args in
    let part = take (a.part.end - a.part.start) (drop a.part.start a.part.row.now) in
    rw (← told_false (fits_text a.by_points a.n part) (points part) (sym c.check_within.ensures ∙ c.in-None.is))

pub returns-in-Some : goal.returns-in-Some
returns-in-Some c =
    let a = c.args in
    let part = take (a.part.end - a.part.start) (drop a.part.start a.part.row.now) in
    let said = sym c.check_within.ensures ∙ c.in-Some.is in
    rw (check_fits a.by_points a.n part said, ← check_points a.by_points a.n part said, c.write_range.ensures.0, c.write_range.ensures.1, part_length a.part.row.now a.part.start a.part.end c.requires.0 c.requires.1.0)
