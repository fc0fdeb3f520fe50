-- The worked cases of the printed list, by computation.
use mathlib.Core.Path.{refl}
use Rattle.row_format.specs.Table.{range_end}
use Rattle.row_format.specs.Header.{is_long}
use Rattle.text.specs.Rfc3629.{octets}
use Rattle.calendar.specs.Calendar.{is_leap, month_days, date_of}
use Rattle.calendar.specs.Moment.{second_text, moment_text}
use Rattle.worked.specs.Cases.{AllHold}
use Rattle.worked.specs.PrintedList.{table}

pub printed_list : AllHold table
unfolding table is_long range_end octets is_leap month_days date_of second_text moment_text
printed_list = refl
