use Rattle.calendar.proofs.Months.{month_of_lem}
use Rattle.calendar.proofs.month_day.Goals as goal

pub returns : goal.returns
returns c = month_of_lem c.args.day c.requires
