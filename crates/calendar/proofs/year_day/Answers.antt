use Rattle.calendar.proofs.Years.{from_march}
use Rattle.calendar.proofs.year_day.Goals as goal

pub returns : goal.returns
returns c = from_march c.args.days c.requires
