use borrow.Author.Rules.{rules}
use Prim.Native.Nat.{◌/◌}
use native.Mathlib.Omega.{arith}
use Rattle.calendar.specs.Moment.{moment_text}
use Rattle.calendar.proofs.Texts.{in_digits, moment_stored}
use Rattle.calendar.proofs.write_moment.Goals as goal

pub write_date-requires : goal.write_date-requires
write_date-requires c =
    let d = in_digits c.date_of.result (c.args.micros / 1000000 / 86400) c.date_of.ensures (omega arith) in
    (search rules, (d.year_fits, (d.month_fits, d.day_fits)))

pub returns : goal.returns
unfolding moment_text
returns c =
    let a = c.args in
    moment_stored a.out.now a.at (a.micros / 1000000) c.date_of.ensures c.write_date.ensures c.write_time.ensures
