use Rattle.temporal.proofs.Counts.{low_bits}
use Rattle.temporal.proofs.low_32.Goals as goal

pub returns : goal.returns
returns c = rw c.cast_unsigned.ensures (low_bits c.args.q c.ranges.q)
