-- The worked cases of 02, request 2, by computation.
use mathlib.Core.Path.{refl}
use Rattle.row_format.specs.Table.{range_end}
use Rattle.row_format.specs.Header.{is_long}
use Rattle.text.specs.Rfc3629.{octets}
use Rattle.calendar.specs.Calendar.{is_leap, month_days, date_of}
use Rattle.calendar.specs.Moment.{second_text, moment_text}
use Rattle.printed_list.specs.Example.{table, moments, Worked, WorkedMoments}

pub worked : Worked
unfolding table is_long range_end octets is_leap month_days date_of second_text moment_text
worked = refl

pub worked_moments : WorkedMoments
unfolding moments is_leap month_days date_of second_text moment_text
worked_moments = refl
