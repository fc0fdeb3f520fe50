use native.Mathlib.Omega.{arith}
use native.Mathlib.Numerals.{add-one}
use Rattle.calendar.proofs.Dates.{year_short, month_late, day_short, this_year, next_year}
use Rattle.calendar.proofs.date_of.Goals as goal

pub month_day-month-requires : goal.month_day-month-requires
month_day-month-requires c = year_short c.year_day-year.ensures

pub overflow_add-result : goal.overflow_add-result
overflow_add-result c = omega (arith, day_short c.year_day-year.ensures c.month_day-month.ensures)

pub returns-then-march_day-lt306 : goal.returns-then-march_day-lt306
returns-then-march_day-lt306 c = rw add-one (this_year c.year_day-year.ensures c.month_day-month.ensures c.if-march_day-lt306.true)

pub overflow_sub-result : goal.overflow_sub-result
overflow_sub-result c = month_late c.year_day-year.ensures c.month_day-month.ensures c.if-march_day-lt306.false

pub overflow_add-result-else-march_day-lt306-2 : goal.overflow_add-result-else-march_day-lt306-2
overflow_add-result-else-march_day-lt306-2 c = omega (arith, day_short c.year_day-year.ensures c.month_day-month.ensures)

pub returns-else-march_day-lt306 : goal.returns-else-march_day-lt306
returns-else-march_day-lt306 c = simp add-one (next_year c.year_day-year.ensures c.month_day-month.ensures c.if-march_day-lt306.false)
