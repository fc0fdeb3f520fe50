use Rattle.calendar.proofs.Since.{after_1970, later_or_none}
use Rattle.calendar.proofs.moment_of.Goals as goal

pub returns-then-stored-le253402300799999999 : goal.returns-then-stored-le253402300799999999
returns-then-stored-le253402300799999999 c = after_1970 c.args.stored c.if-stored-le253402300799999999.true

pub returns-else-stored-le253402300799999999 : goal.returns-else-stored-le253402300799999999
returns-else-stored-le253402300799999999 c =
    later_or_none c.args.stored c.checked_sub.result c.if-stored-le253402300799999999.false c.ranges.stored.fits c.checked_sub.ensures
