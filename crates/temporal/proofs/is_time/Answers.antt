use mir.Syntax.{w64}
use lib.IntN.{pos}
use Rattle.temporal.proofs.Counts.{under, not_under}
use Rattle.temporal.proofs.is_time.Goals as goal

pub returns-else-micros-ge0 : goal.returns-else-micros-ge0
returns-else-micros-ge0 c = under w64 c.args.micros c.ranges.micros (pos 0) (pos 86399999999) c.if-micros-ge0.false

pub returns-then-micros-ge0 : goal.returns-then-micros-ge0
returns-then-micros-ge0 c = not_under w64 c.args.micros c.ranges.micros (pos 0) (pos 86399999999) c.if-micros-ge0.true
