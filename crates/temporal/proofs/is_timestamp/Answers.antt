use mir.Syntax.{w64}
use lib.IntN.{pos, negsuc}
use Rattle.temporal.proofs.Counts.{under, not_under}
use Rattle.temporal.proofs.is_timestamp.Goals as goal

pub returns-else-micros-ge-FIRST_MOMENT : goal.returns-else-micros-ge-FIRST_MOMENT
returns-else-micros-ge-FIRST_MOMENT c = under w64 c.args.micros c.ranges.micros (negsuc 62135596799999999) (pos 253402300799999999) c.if-micros-ge-FIRST_MOMENT.false

pub returns-then-micros-ge-FIRST_MOMENT : goal.returns-then-micros-ge-FIRST_MOMENT
returns-then-micros-ge-FIRST_MOMENT c = not_under w64 c.args.micros c.ranges.micros (negsuc 62135596799999999) (pos 253402300799999999) c.if-micros-ge-FIRST_MOMENT.true
