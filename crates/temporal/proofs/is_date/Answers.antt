use mir.Syntax.{w32}
use lib.IntN.{pos, negsuc}
use Rattle.temporal.proofs.Counts.{under, not_under}
use Rattle.temporal.proofs.is_date.Goals as goal

pub returns-else-days-ge-FIRST_DAY : goal.returns-else-days-ge-FIRST_DAY
returns-else-days-ge-FIRST_DAY c = under w32 c.args.days c.ranges.days (negsuc 719161) (pos 2932896) c.if-days-ge-FIRST_DAY.false

pub returns-then-days-ge-FIRST_DAY : goal.returns-then-days-ge-FIRST_DAY
returns-then-days-ge-FIRST_DAY c = not_under w32 c.args.days c.ranges.days (negsuc 719161) (pos 2932896) c.if-days-ge-FIRST_DAY.true
